-- What an asker hands out, and what its driver does, is allowed.
use Rattle.std.proofs.Common.{◌≡◌, true, false, List, [], ◌∷◌, ◌++◌, Option, Some, None, refl, sym, ap, subst, is_some, ◌==◌, ◌&&◌, length, ℕ, Bool, not, ◌||◌, nat_lt, if◌then◌else◌}
use Rattle.std.proofs.lemmas.Bool.{cond_both}
use Rattle.ptpm_codec.specs.declared.message.Action.{Action}
use Rattle.ptpm_codec.specs.Layout.{octet}
use Rattle.ptpm_data.specs.Request.{RequestValue}
use Rattle.ptpm_manager.specs.Session.{SessionValue, anew, give_up_refusal}
use Rattle.ptpm_asker.specs.declared.earlier.Earlier.{Earlier}
use Rattle.ptpm_asker.specs.declared.stage.Stage.{Stage}
use Rattle.ptpm_asker.specs.Asker.{AskerValue}
use Rattle.ptpm_asker.specs.Desk.{Crashes, Run, IsBegun, IsFreeOf, IsTold, Move, Note, Notes, Saves, moved_by, AreAllowed, Desk, moved, new_run}
use Rattle.ptpm_asker.specs.Question.{asks_question, by_action, earlier_of, is_question, asked_refusal}
use Rattle.ptpm_asker.specs.Turns.{latest, next, asks, asks_refusal, can_settle, idle, is_busy, is_resting, is_unsettled, lets_go, lets_go_refusal, settles, wakes_at}
use Rattle.ptpm_asker.specs.Allowed.{Opening, reopens, Asks, Driven, Ends, GivesUp, Hears, Input, IsAllowedAsker, IsDone, IsUnsent, Settles, Wakes, after_input, all_moves, begins_driven, desk_of, left_due, moves_of, turn_of}
use Rattle.ptpm_asker.proofs.Standing.{Goes, IsUnderWay, RestsWith, StandsAt, desk, goes_after, GoesOn, Stands, goes_if}
use Rattle.std.specs.Option.{option_or}
use Rattle.ptpm_codec.specs.Ordered.{first_of}
use Rattle.ptpm_manager.specs.declared.ask.Ask.{Ask}
use Rattle.ptpm_manager.specs.declared.error.BeginError.{BeginError}
use Rattle.ptpm_manager.specs.declared.error.GiveUpRefusal.{GiveUpRefusal}
use Rattle.ptpm_asker.proofs.Parts.{idles}
use Rattle.ptpm_asker.proofs.Inputs.{asks_so, done_so, hears_so, lets_go_so, settles_so, unsents_so, wakes_so}
use Rattle.ptpm_codec.specs.declared.message.Action.TheVariants as actions
use Rattle.ptpm_asker.specs.declared.earlier.Earlier.TheVariants as earlier
use Rattle.ptpm_asker.specs.declared.stage.Stage.TheVariants as stages
use Rattle.ptpm_manager.specs.declared.error.BeginError.TheVariants as begins
use Rattle.ptpm_manager.specs.declared.error.GiveUpRefusal.TheVariants as give_ups

-- ---- a program that ends at any moment is opened again with what its file has

is_under_way : (f : SessionValue) (q : RequestValue) → f.unanswered ≡ Some q → IsUnderWay (Some f) (anew f)
is_under_way f q e = record { waiting = ap is_some e; has = (refl, refl) }

by_so : (x : Action) (f : SessionValue) (q : RequestValue) → f.unanswered ≡ Some q → RestsWith (by_action x q) (Some f) (anew f)
by_so actions.Get f q e = is_under_way f q e
by_so actions.Set f q e =
    let P : Earlier → Type 0 = λ what. RestsWith what (Some f) (anew f) in
    cond_both (q.id == 0x2007 && length q.octets == 2) (earlier.MovesTo (octet 0 q.octets)) earlier.Changes P
    (λ _. is_under_way f q e) (λ _. is_under_way f q e)
by_so actions.Response f q e = is_under_way f q e
by_so actions.Command f q e = is_under_way f q e
by_so actions.Acknowledge f q e = is_under_way f q e

rests_so : (f : SessionValue) (q : Option RequestValue) → f.unanswered ≡ q → RestsWith (earlier_of q) (Some f) (anew f)
rests_so f None e = record { nothing = e; free = subst IsFreeOf (sym e) tt }
rests_so f (Some q) e =
    let P : Earlier → Type 0 = λ what. RestsWith what (Some f) (anew f) in
    cond_both (is_question q) earlier.Question (by_action q.action q) P
    (λ (h : is_question q ≡ true).
    record { under_way = is_under_way f q e; asks = subst (λ (r : Option RequestValue). asks_question r ≡ true) (sym e) h })
    (λ _. by_so q.action f q e)

pub reopens_so : (file : Option SessionValue) (s : SessionValue) (notes : List Note) (run : Run) (o : Opening)
    → Goes (desk s file notes run) (Crashes ∷ (reopens file o).moves) [] (reopens file o)
reopens_so None s notes run o = record {
  allowed = (tt, (refl, tt));
  live = refl;
  stands = record {
    well = record { size = o.size; first = refl; unkept = λ _. refl; known = λ (e : false ≡ true). absurd (cc) };
    at = record { due_is = refl; rests = record { nothing = refl; free = tt } };
  };
}
reopens_so (Some f) s notes run o = record {
  allowed = (tt, tt);
  live = refl;
  stands = record {
    well = record {
      size = o.size;
      first = refl;
      unkept = λ (e : true ≡ false). absurd (cc);
      known = λ (e : false ≡ true). absurd (cc);
    };
    at = record { due_is = refl; rests = rests_so f f.unanswered refl };
  };
}

-- what was handed out is done, and then it ends
abbrev EndsDone : AskerValue → Option SessionValue → List Note → Run → Opening → List Move → Type 0
EndsDone a file notes run o due =
    let d = desk a.session file notes run in
    let left = (moved_by d due).file in
    Goes d ((due ++ Crashes ∷ []) ++ (reopens left o).moves) [] (reopens left o)

ends_idle : (a : AskerValue) (file : Option SessionValue) (notes : List Note) (run : Run) (due : List Move) (o : Opening)
    → due ≡ []
    → EndsDone a file notes run o due
ends_idle a file notes run due o is =
    let P : List Move → Type 0 = λ m. EndsDone a file notes run o m in
    subst P (sym is) (reopens_so file a.session notes run o)

pub ends_so : (st : Stage) (a : AskerValue) (file : Option SessionValue) (notes : List Note) (run : Run) (due : List Move) (o : Opening)
    → StandsAt st a file notes run due
    → EndsDone a file notes run o due
ends_so stages.Resting a file notes run due o here = ends_idle a file notes run due o here.due_is
ends_so stages.Waiting a file notes run due o here = ends_idle a file notes run due o here.due_is
ends_so stages.Noting a file notes run due o here =
    let note = IsBegun a.tag (next a) in
    let P : List Move → Type 0 = λ m. EndsDone a file notes run o m in
    subst P (sym here.due_is)
    (goes_after (desk a.session file notes run) (Notes note) (Crashes ∷ (reopens file o).moves) [] (reopens file o) tt
    (reopens_so file a.session (note ∷ notes) run o))
ends_so stages.Saving a file notes run due o here =
    let s = a.session in
    let P : List Move → Type 0 = λ m. EndsDone a file notes run o m in
    subst P (sym here.due_is)
    (goes_after (desk s file notes run) Saves (Crashes ∷ (reopens (Some s) o).moves) [] (reopens (Some s) o) here.leaves
    (reopens_so (Some s) s notes run o))
ends_so stages.Asking a file notes run due o here = ends_idle a file notes run due o here.due_is
ends_so stages.Telling a file notes run due o here =
    let note = IsTold a.tag (latest a) here.outcome in
    let P : List Move → Type 0 = λ m. EndsDone a file notes run o m in
    subst P (sym here.due_is)
    (goes_after (desk a.session file notes run) (Notes note) (Crashes ∷ (reopens file o).moves) [] (reopens file o) here.is_heard
    (reopens_so file a.session (note ∷ notes) run o))
ends_so stages.Over a file notes run due o here = ends_idle a file notes run due o here

-- ---- what a refusal says

not_busy : (b : Bool) (r : Option BeginError) → is_some (option_or (first_of ((b, begins.Busy) ∷ [])) r) ≡ false → b ≡ false
not_busy true r h = cc
not_busy false r h = refl

can : (b : Bool) (r : Option GiveUpRefusal) → is_some (if b then r else Some give_ups.Idle) ≡ false → b ≡ true
can true r h = refl
can false r h = cc

under_way : (e : Earlier) (file : Option SessionValue) (s : SessionValue) → is_unsettled e ≡ true → RestsWith e file s → IsUnderWay file s
under_way earlier.NoRequest file s u h = cc
under_way earlier.Question file s u h = cc
under_way earlier.Reads file s u h = h
under_way (earlier.MovesTo domain) file s u h = h
under_way earlier.Changes file s u h = h

-- ---- at each stage

asks_at : (st : Stage) (a : AskerValue) (file : Option SessionValue) (notes : List Note) (run : Run) (due : List Move)
    (now tag : ℕ) (wanted : Ask) (domain : ℕ)
    → Stands a file notes run due
    → StandsAt st a file notes run due
    → (not (is_resting st) || is_unsettled a.earlier) ≡ false
    → GoesOn (desk a.session file notes run) due (asks a now tag wanted domain)
asks_at stages.Resting a file notes run due now tag wanted domain all here free =
    let P : List Move → Type 0 = λ m. GoesOn (desk a.session file notes run) m (asks a now tag wanted domain) in
    subst P (sym here.due_is) (asks_so a file notes run now tag wanted domain all.well here.rests free)
asks_at stages.Waiting a file notes run due now tag wanted domain all here free = cc
asks_at stages.Noting a file notes run due now tag wanted domain all here free = cc
asks_at stages.Saving a file notes run due now tag wanted domain all here free = cc
asks_at stages.Asking a file notes run due now tag wanted domain all here free = cc
asks_at stages.Telling a file notes run due now tag wanted domain all here free = cc
asks_at stages.Over a file notes run due now tag wanted domain all here free = cc

settles_at : (st : Stage) (a : AskerValue) (file : Option SessionValue) (notes : List Note) (run : Run) (due : List Move)
    (now tag domain : ℕ)
    → Stands a file notes run due
    → StandsAt st a file notes run due
    → (is_resting st && is_unsettled a.earlier) ≡ true
    → GoesOn (desk a.session file notes run) due (settles a now tag domain)
settles_at stages.Resting a file notes run due now tag domain all here can_ =
    let P : List Move → Type 0 = λ m. GoesOn (desk a.session file notes run) m (settles a now tag domain) in
    subst P (sym here.due_is) (settles_so a file notes run now tag domain all.well (under_way a.earlier file a.session can_ here.rests) can_)
settles_at stages.Waiting a file notes run due now tag domain all here can_ = cc
settles_at stages.Noting a file notes run due now tag domain all here can_ = cc
settles_at stages.Saving a file notes run due now tag domain all here can_ = cc
settles_at stages.Asking a file notes run due now tag domain all here can_ = cc
settles_at stages.Telling a file notes run due now tag domain all here can_ = cc
settles_at stages.Over a file notes run due now tag domain all here can_ = cc

lets_go_at : (st : Stage) (a : AskerValue) (file : Option SessionValue) (notes : List Note) (run : Run) (due : List Move)
    → Stands a file notes run due
    → StandsAt st a file notes run due
    → (is_resting st && is_unsettled a.earlier) ≡ true
    → GoesOn (desk a.session file notes run) due (lets_go a)
lets_go_at stages.Resting a file notes run due all here can_ =
    let P : List Move → Type 0 = λ m. GoesOn (desk a.session file notes run) m (lets_go a) in
    subst P (sym here.due_is) (lets_go_so a file notes run all.well (under_way a.earlier file a.session can_ here.rests))
lets_go_at stages.Waiting a file notes run due all here can_ = cc
lets_go_at stages.Noting a file notes run due all here can_ = cc
lets_go_at stages.Saving a file notes run due all here can_ = cc
lets_go_at stages.Asking a file notes run due all here can_ = cc
lets_go_at stages.Telling a file notes run due all here can_ = cc
lets_go_at stages.Over a file notes run due all here can_ = cc

-- ---- one input

abbrev StandsSo : Driven → Type 0
StandsSo x = Stands x.asker x.file x.notes x.run x.due

abbrev GoesBy : Driven → Input → Type 0
GoesBy x i = Goes (desk_of x) (moves_of x i) (left_due x i) (turn_of x i)

one : (x : Driven) (i : Input) → StandsSo x → GoesBy x i
one x (Asks now tag wanted domain) h =
    let a = x.asker in
    let r = asks_refusal a wanted in
    goes_if (is_some r) (desk_of x) x.due (idle a) (asks a now tag wanted domain)
    (λ _. idles a x.file x.notes x.run x.due h)
    (λ (p : is_some r ≡ false).
    asks_at a.stage a x.file x.notes x.run x.due now tag wanted domain h h.at (not_busy (is_busy a) (asked_refusal a.settings.ports wanted) p))
one x (Settles now tag domain) h =
    let a = x.asker in
    goes_if (can_settle a) (desk_of x) x.due (settles a now tag domain) (idle a)
    (λ (p : can_settle a ≡ true). settles_at a.stage a x.file x.notes x.run x.due now tag domain h h.at p)
    (λ _. idles a x.file x.notes x.run x.due h)
one x GivesUp h =
    let a = x.asker in
    let r = lets_go_refusal a in
    goes_if (is_some r) (desk_of x) x.due (idle a) (lets_go a)
    (λ _. idles a x.file x.notes x.run x.due h)
    (λ (p : is_some r ≡ false).
    lets_go_at a.stage a x.file x.notes x.run x.due h h.at (can (can_settle a) (give_up_refusal a.session) p))
one x (Hears datagram) h = hears_so x.asker.stage x.asker x.file x.notes x.run x.due datagram h h.at refl
one x (Wakes now) h =
    let a = x.asker in
    goes_if (nat_lt now a.wake_at) (desk_of x) x.due (idle a) (wakes_at a.stage a now)
    (λ _. idles a x.file x.notes x.run x.due h)
    (λ _. wakes_so a.stage a x.file x.notes x.run x.due now h h.at refl)
one x IsUnsent h = unsents_so x.asker x.file x.notes x.run x.due h
one x (IsDone now) h = done_so x.asker.stage x.asker x.file x.notes x.run x.due now h h.at
one x (Ends true o) h = ends_so x.asker.stage x.asker x.file x.notes x.run x.due o h.at
one x (Ends false o) h = reopens_so x.file x.asker.session x.notes x.run o

-- ---- a list of inputs

both : (ms ns : List Move) (d : Desk) → AreAllowed d ms → AreAllowed (moved_by d ms) ns → AreAllowed d (ms ++ ns)
both [] ns d h g = g
both (m ∷ ms) ns d h g = (h.0, both ms ns (moved d m) h.1 g)

all_so : (is : List Input) (x : Driven) → StandsSo x → AreAllowed (desk_of x) (all_moves x is)
all_so [] x h = tt
all_so (i ∷ is) x h =
    let g = one x i h in
    let d = moved_by (desk_of x) (moves_of x i) in
    let y = after_input x i in
    let rest : AreAllowed (desk_of y) (all_moves y is) = all_so is y g.stands in
    both (moves_of x i) (all_moves y is) (desk_of x) g.allowed
    (subst (λ (s : SessionValue). AreAllowed (desk s d.file d.notes d.run) (all_moves y is)) (sym g.live) rest)

pub is_allowed : (o : Opening) (file : Option SessionValue) (notes : List Note) (inputs : List Input)
    → IsAllowedAsker o file notes inputs
is_allowed o None notes inputs =
    all_so inputs (begins_driven o None notes) (reopens_so None (begins_driven o None notes).asker.session notes new_run o).stands
is_allowed o (Some f) notes inputs =
    all_so inputs (begins_driven o (Some f) notes) (reopens_so (Some f) f notes new_run o).stands
