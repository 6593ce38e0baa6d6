-- What holds at a desk and of what left it, along allowed moves.
use Rattle.std.proofs.Common.{◌≡◌, ◌∙◌, ℕ, Bool, true, false, ◌||◌, List, [], ◌∷◌, ◌++◌, Option, Some, None, inl, inr, refl, sym, ap, subst, ◌⊎◌}
use Rattle.std.specs.List.{AllByRecursion}
use Rattle.ptpm_data.specs.Request.{RequestValue}
use Rattle.ptpm_manager.specs.declared.receiving.Received.{Received}
use Rattle.ptpm_manager.specs.declared.receiving.Received.TheVariants as received
use Rattle.ptpm_manager.specs.Receiving.{left_by, received_of}
use Rattle.ptpm_manager.specs.Session.{SessionValue}
use Rattle.ptpm_manager.proofs.ReplyLaws.{only_reply}
use Rattle.ptpm_asker.specs.Desk.{Begins, Continues, Crashes, Desk, HasIt, HasRequest, Heard, Hears, AreAllowed, IsAllowed, IsBegun, IsFree, IsFreeOf, IsHeard, IsKnownNew, IsLetGo, IsTakenBack, IsTold, LeavesTold, LetsGo, MayLeave, Move, Note, Notes, Resumes, Retunes, Returns, Run, Saves, SaysBegun, SaysTold, Sends, Starts, TakesBack, heard_after, latest_number, moved, moved_by, reopened}
use Rattle.ptpm_asker.specs.Question.{asks_question, is_question}
use Rattle.ptpm_apply.specs.Watching.{Sent, Watch, answered_after, before_latest, nothing_seen, sent_by, watched, watched_by, without_first}
use Rattle.ptpm_apply.specs.Resuming.{opened_desk}

-- ---- what holds

-- the number of the latest note, if that is an answer
abbrev pub told_number : List Note → Option ℕ
told_number [] = None
told_number (IsBegun tag number ∷ further) = None
told_number (IsTold tag number outcome ∷ further) = Some number
told_number (IsLetGo number ∷ further) = None

-- the file has it, or its answer is noted
abbrev pub IsKept : List Note → Option SessionValue → Sent → Type 0
IsKept notes file m =
    (is_question m.request ≡ true) ⊎ (HasRequest file (Some m.request) m.number ⊎ SaysTold notes m.number)

abbrev pub AreKept : List Note → Option SessionValue → List Sent → Type 0
AreKept notes file left = AllByRecursion (IsKept notes file) left

abbrev pub IsSettled : List Note → Sent → Type 0
IsSettled notes m = (is_question m.request ≡ true) ⊎ SaysTold notes m.number

abbrev pub AreSettled : List Note → List Sent → Type 0
AreSettled notes left = AllByRecursion (IsSettled notes) left

-- the file is free, or has this request
abbrev pub FreeOr : Option SessionValue → Option RequestValue → ℕ → Type 0
FreeOr file q number = IsFree file ⊎ HasRequest file q number

abbrev pub Idles : Desk → Type 0
Idles d = (h : Heard) → d.run.heard ≡ Some h → d.live.unanswered ≡ None

abbrev pub Waits : Desk → Type 0
Waits d = (q : RequestValue) → d.live.unanswered ≡ Some q → FreeOr d.file d.live.unanswered (latest_number d.live)

abbrev pub Answers : Desk → Watch → Type 0
Answers d w = (h : Heard) → d.run.heard ≡ Some h → FreeOr d.file w.answered h.number

abbrev pub Tells : Desk → Watch → Type 0
Tells d w = (n : ℕ) → told_number d.notes ≡ Some n → FreeOr d.file w.told n

abbrev pub TellsLive : Desk → Type 0
TellsLive d = (n : ℕ) → told_number d.notes ≡ Some n → (q : RequestValue) → d.live.unanswered ≡ Some q → is_question q ≡ false
    → HasIt d.file d.live

abbrev pub Returned : Desk → Watch → Type 0
Returned d w = d.run.has_left ≡ false → AreSettled d.notes (before_latest d.run.is_out w.left)

pub record Holds (d : Desk) (w : Watch) : Type 0 where
  pub idles : Idles d
  pub waits : Waits d
  pub answers : Answers d w
  pub tells : Tells d w
  pub live : TellsLive d
  pub kept : AreKept d.notes d.file w.left
  pub returned : Returned d w

-- ---- parts

none_some : {X : Type 0} (o : Option X) (x : X) → o ≡ None → o ≡ Some x → ⊥
none_some None x p q = cc
none_some (Some y) x p q = cc

pub some_same : {X : Type 0} (x y : X) → Some x ≡ Some y → x ≡ y
some_same x y e = cc

free_when : (q : Option RequestValue) → q ≡ None → IsFreeOf q
free_when None e = tt
free_when (Some q) e = cc

free_question : (o : Option RequestValue) (q : RequestValue) → o ≡ Some q → is_question q ≡ true → IsFreeOf o
free_question o q e h = subst IsFreeOf (sym e) h

question_of : (o : Option RequestValue) (q : RequestValue) → IsFreeOf o → o ≡ Some q → is_question q ≡ true
question_of o q h e = subst IsFreeOf e h

-- what a free file has is a question
pub free_has : (file : Option SessionValue) (q : RequestValue) (n : ℕ) → IsFree file → HasRequest file (Some q) n → is_question q ≡ true
free_has None q n free has = has
free_has (Some f) q n free has = question_of f.unanswered q free has.0

-- ---- idles

hears_idle : (r : Received) (s : SessionValue) (before : Option Heard) (h : Heard)
    → ((k : Heard) → before ≡ Some k → s.unanswered ≡ None)
    → heard_after s before r ≡ Some h
    → (left_by s r).unanswered ≡ None
hears_idle (received.Answered report) s before h idle e = refl
hears_idle (received.Ignored reason) s before h idle e = idle h e

pub idles : (m : Move) (d : Desk) (w : Watch) → Holds d w → Idles (moved d m)
idles (Begins tag request) d w here h e = cc
idles Saves d w here h e = here.idles h e
idles Sends d w here h e = here.idles h e
idles (Hears datagram) d w here h e = hears_idle (received_of d.live datagram) d.live d.run.heard h here.idles e
idles (Notes note) d w here h e = here.idles h e
idles (Resumes attempts) d w here h e = here.idles h e
idles (Retunes domain) d w here h e = here.idles h e
idles LetsGo d w here h e = refl
idles Returns d w here h e = here.idles h e
idles (Starts setup domain) d w here h e = refl
idles (Continues setup) d w here h e = refl
idles (TakesBack setup) d w here h e = refl
idles Crashes d w here h e = cc

-- ---- waits

hears_waits : (r : Received) (s : SessionValue) (file : Option SessionValue) (q : RequestValue)
    → (s.unanswered ≡ Some q → FreeOr file s.unanswered (latest_number s))
    → (left_by s r).unanswered ≡ Some q
    → FreeOr file (left_by s r).unanswered (latest_number (left_by s r))
hears_waits (received.Answered report) s file q before e = cc
hears_waits (received.Ignored reason) s file q before e = before e

opened_waits : (file : Option SessionValue) (s : SessionValue) (q : RequestValue)
    → (reopened file s).unanswered ≡ Some q
    → FreeOr file (reopened file s).unanswered (latest_number (reopened file s))
opened_waits None s q e = inl tt
opened_waits (Some f) s q e = inr (refl, refl)

pub waits_so : (m : Move) (d : Desk) (w : Watch) → Holds d w → IsAllowed d m → Waits (moved d m)
waits_so (Begins tag request) d w here may q e = inl may.1
waits_so Saves d w here may q e = inr (refl, refl)
waits_so Sends d w here may q e = here.waits q e
waits_so (Hears datagram) d w here may q e = hears_waits (received_of d.live datagram) d.live d.file q (here.waits q) e
waits_so (Notes note) d w here may q e = here.waits q e
waits_so (Resumes attempts) d w here may q e = here.waits q e
waits_so (Retunes domain) d w here may q e = here.waits q e
waits_so LetsGo d w here may q e = cc
waits_so Returns d w here may q e = here.waits q e
waits_so (Starts setup domain) d w here may q e = cc
waits_so (Continues setup) d w here may q e = cc
waits_so (TakesBack setup) d w here may q e = cc
waits_so Crashes d w here may q e = opened_waits d.file d.live q e

-- ---- answers

-- what is answered was under way
hears_answers : (r : Received) (s : SessionValue) (datagram : List ℕ) (file : Option SessionValue) (answered : Option RequestValue)
    (before : Option Heard) (h : Heard)
    → received_of s datagram ≡ r
    → ((k : Heard) → before ≡ Some k → FreeOr file answered k.number)
    → ((q : RequestValue) → s.unanswered ≡ Some q → FreeOr file s.unanswered (latest_number s))
    → heard_after s before r ≡ Some h
    → FreeOr file (answered_after s.unanswered answered r) h.number
hears_answers (received.Answered report) s datagram file answered before h is so wait e =
    let own = only_reply s datagram report is in
    let k : Heard = record { number = latest_number s; outcome = report.outcome } in
    let same : k ≡ h = cc in
    subst (λ (n : ℕ). FreeOr file s.unanswered n) (ap (λ (x : Heard). x.number) same) (wait own.request own.unanswered)
hears_answers (received.Ignored reason) s datagram file answered before h is so wait e = so h e

pub answers_so : (m : Move) (d : Desk) (w : Watch) → Holds d w → Answers (moved d m) (watched d w m)
answers_so (Begins tag request) d w here h e = cc
answers_so Saves d w here h e = inl (free_when d.live.unanswered (here.idles h e))
answers_so Sends d w here h e = here.answers h e
answers_so (Hears datagram) d w here h e =
    hears_answers (received_of d.live datagram) d.live datagram d.file w.answered d.run.heard h refl here.answers here.waits e
answers_so (Notes note) d w here h e = here.answers h e
answers_so (Resumes attempts) d w here h e = here.answers h e
answers_so (Retunes domain) d w here h e = here.answers h e
answers_so LetsGo d w here h e = here.answers h e
answers_so Returns d w here h e = here.answers h e
answers_so (Starts setup domain) d w here h e = cc
answers_so (Continues setup) d w here h e = here.answers h e
answers_so (TakesBack setup) d w here h e = here.answers h e
answers_so Crashes d w here h e = cc

-- ---- tells

notes_tell : (note : Note) (notes : List Note) (heard : Option Heard) (file : Option SessionValue) (answered : Option RequestValue) (n : ℕ)
    → IsHeard note heard
    → ((h : Heard) → heard ≡ Some h → FreeOr file answered h.number)
    → told_number (note ∷ notes) ≡ Some n
    → FreeOr file answered n
notes_tell (IsBegun tag number) notes heard file answered n may so e = cc
notes_tell (IsTold tag number outcome) notes heard file answered n may so e =
    let same : number ≡ n = cc in
    subst (λ (k : ℕ). FreeOr file answered k) same (so (record { number = number; outcome = outcome }) may)
notes_tell (IsLetGo number) notes heard file answered n may so e = cc

-- a session that has the file's request is saved
same_told : (file : Option SessionValue) (s : SessionValue) (q : RequestValue) (told : Option RequestValue) (n : ℕ)
    → s.unanswered ≡ Some q
    → HasIt file s
    → FreeOr file told n
    → FreeOr (Some s) told n
same_told None s q told n e has so = inl (free_question s.unanswered q e (subst (λ (o : Option RequestValue). asks_question o ≡ true) e has))
same_told (Some f) s q told n e has (inl free) = inl (subst IsFreeOf has.0 free)
same_told (Some f) s q told n e has (inr it) = inr (sym has.0 ∙ it.0, sym has.1 ∙ it.1)

saves_told_by : (b : Bool) (file : Option SessionValue) (s : SessionValue) (q : RequestValue) (told : Option RequestValue) (n : ℕ)
    → is_question q ≡ b
    → s.unanswered ≡ Some q
    → (is_question q ≡ false → HasIt file s)
    → FreeOr file told n
    → FreeOr (Some s) told n
saves_told_by true file s q told n b e has so = inl (free_question s.unanswered q e b)
saves_told_by false file s q told n b e has so = same_told file s q told n e (has b) so

saves_told : (o : Option RequestValue) (file : Option SessionValue) (s : SessionValue) (told : Option RequestValue) (n : ℕ)
    → s.unanswered ≡ o
    → ((q : RequestValue) → s.unanswered ≡ Some q → is_question q ≡ false → HasIt file s)
    → FreeOr file told n
    → FreeOr (Some s) told n
saves_told None file s told n e has so = inl (free_when s.unanswered e)
saves_told (Some q) file s told n e has so = saves_told_by (is_question q) file s q told n refl e (has q e) so

pub tells_so : (m : Move) (d : Desk) (w : Watch) → Holds d w → IsAllowed d m → Tells (moved d m) (watched d w m)
tells_so (Begins tag request) d w here may n e = here.tells n e
tells_so Saves d w here may n e = saves_told d.live.unanswered d.file d.live w.told n refl (here.live n e) (here.tells n e)
tells_so Sends d w here may n e = here.tells n e
tells_so (Hears datagram) d w here may n e = here.tells n e
tells_so (Notes note) d w here may n e = notes_tell note d.notes d.run.heard d.file w.answered n may here.answers e
tells_so (Resumes attempts) d w here may n e = here.tells n e
tells_so (Retunes domain) d w here may n e = here.tells n e
tells_so LetsGo d w here may n e = here.tells n e
tells_so Returns d w here may n e = here.tells n e
tells_so (Starts setup domain) d w here may n e = here.tells n e
tells_so (Continues setup) d w here may n e = here.tells n e
tells_so (TakesBack setup) d w here may n e = here.tells n e
tells_so Crashes d w here may n e = here.tells n e

-- ---- what the session has under way after an answer is noted

not_begun : (notes : List Note) (tag number n : ℕ) → told_number notes ≡ Some n → SaysBegun notes tag number → ⊥
not_begun [] tag number n e says = says
not_begun (IsBegun t k ∷ further) tag number n e says = cc
not_begun (IsTold t k outcome ∷ further) tag number n e says = says
not_begun (IsLetGo k ∷ further) tag number n e says = says

pub both_ways : (b : Bool) → b ≡ true → b ≡ false → ⊥
both_ways true p q = cc
both_ways false p q = cc

begins_live : (d : Desk) (tag n : ℕ) (request q : RequestValue)
    → told_number d.notes ≡ Some n
    → Some request ≡ Some q
    → is_question q ≡ false
    → (is_question request ≡ true) ⊎ IsKnownNew d tag
    → ⊥
begins_live d tag n request q e is b (inl asks) =
    let same : request ≡ q = cc in both_ways (is_question request) asks (subst (λ (r : RequestValue). is_question r ≡ false) (sym same) b)
begins_live d tag n request q e is b (inr known) = not_begun d.notes tag _ n e known.0

hears_live : (r : Received) (s : SessionValue) (file : Option SessionValue) (q : RequestValue)
    → (s.unanswered ≡ Some q → is_question q ≡ false → HasIt file s)
    → (left_by s r).unanswered ≡ Some q
    → is_question q ≡ false
    → HasIt file (left_by s r)
hears_live (received.Answered report) s file q before e b = cc
hears_live (received.Ignored reason) s file q before e b = before e b

notes_live : (note : Note) (notes : List Note) (heard : Option Heard) (s : SessionValue) (n : ℕ) (q : RequestValue)
    → IsHeard note heard
    → ((h : Heard) → heard ≡ Some h → s.unanswered ≡ None)
    → told_number (note ∷ notes) ≡ Some n
    → s.unanswered ≡ Some q
    → ⊥
notes_live (IsBegun tag number) notes heard s n q may idle e is = cc
notes_live (IsTold tag number outcome) notes heard s n q may idle e is =
    none_some s.unanswered q (idle (record { number = number; outcome = outcome }) may) is
notes_live (IsLetGo number) notes heard s n q may idle e is = cc

opened_live : (file : Option SessionValue) (s : SessionValue) (q : RequestValue)
    → (reopened file s).unanswered ≡ Some q
    → HasIt file (reopened file s)
opened_live None s q e = cc
opened_live (Some f) s q e = (refl, refl)

pub live_so : (m : Move) (d : Desk) (w : Watch) → Holds d w → IsAllowed d m → TellsLive (moved d m)
live_so (Begins tag request) d w here may n e q is b = absurd (begins_live d tag n request q e is b may.2)
live_so Saves d w here may n e q is b = (refl, refl)
live_so Sends d w here may n e q is b = here.live n e q is b
live_so (Hears datagram) d w here may n e q is b = hears_live (received_of d.live datagram) d.live d.file q (here.live n e q) is b
live_so (Notes note) d w here may n e q is b = absurd (notes_live note d.notes d.run.heard d.live n q may here.idles e is)
live_so (Resumes attempts) d w here may n e q is b = here.live n e q is b
live_so (Retunes domain) d w here may n e q is b = here.live n e q is b
live_so LetsGo d w here may n e q is b = cc
live_so Returns d w here may n e q is b = here.live n e q is b
live_so (Starts setup domain) d w here may n e q is b = cc
live_so (Continues setup) d w here may n e q is b = cc
live_so (TakesBack setup) d w here may n e q is b = cc
live_so Crashes d w here may n e q is b = opened_live d.file d.live q is

-- ---- what left is kept

kept_one : (m : Sent) (notes : List Note) (file other : Option SessionValue)
    → (HasRequest file (Some m.request) m.number → IsKept notes other m)
    → IsKept notes file m
    → IsKept notes other m
kept_one m notes file other so (inl q) = inl q
kept_one m notes file other so (inr (inl has)) = so has
kept_one m notes file other so (inr (inr told)) = inr (inr told)

kept_where : (left : List Sent) (notes : List Note) (file other : Option SessionValue)
    → ((m : Sent) → HasRequest file (Some m.request) m.number → IsKept notes other m)
    → AreKept notes file left
    → AreKept notes other left
kept_where [] notes file other so h = tt
kept_where (m ∷ ms) notes file other so h = (kept_one m notes file other (so m) h.0, kept_where ms notes file other so h.1)

settled_one : (m : Sent) (notes : List Note) (file : Option SessionValue) → IsSettled notes m → IsKept notes file m
settled_one m notes file (inl q) = inl q
settled_one m notes file (inr told) = inr (inr told)

settled_kept : (left : List Sent) (notes : List Note) (file : Option SessionValue) → AreSettled notes left → AreKept notes file left
settled_kept [] notes file h = tt
settled_kept (m ∷ ms) notes file h = (settled_one m notes file h.0, settled_kept ms notes file h.1)

free_one : (m : Sent) (notes : List Note) (file : Option SessionValue) → IsFree file → IsKept notes file m → IsSettled notes m
free_one m notes file free (inl q) = inl q
free_one m notes file free (inr (inl has)) = inl (free_has file m.request m.number free has)
free_one m notes file free (inr (inr told)) = inr told

-- a free file has none of them
kept_settled : (left : List Sent) (notes : List Note) (file : Option SessionValue) → IsFree file → AreKept notes file left → AreSettled notes left
kept_settled [] notes file free h = tt
kept_settled (m ∷ ms) notes file free h = (free_one m notes file free h.0, kept_settled ms notes file free h.1)

saves_by : (q : RequestValue) (f s : SessionValue) (notes : List Note) (run : Run) (left : List Sent)
    → f.unanswered ≡ Some q
    → HasIt (Some f) s ⊎ ((is_question q ≡ true) ⊎ (SaysTold notes (latest_number f) ⊎ IsTakenBack f s run))
    → (run.has_left ≡ false → AreSettled notes (before_latest run.is_out left))
    → AreKept notes (Some f) left
    → AreKept notes (Some s) left
saves_by q f s notes run left e (inl has) back h =
    kept_where left notes (Some f) (Some s) (λ m it. inr (inl (sym has.0 ∙ it.0, sym has.1 ∙ it.1))) h
saves_by q f s notes run left e (inr (inl asks)) back h =
    kept_where left notes (Some f) (Some s)
    (λ m it. let same : q ≡ m.request = some_same q m.request (sym e ∙ it.0) in inl (subst (λ (r : RequestValue). is_question r ≡ true) same asks)) h
saves_by q f s notes run left e (inr (inr (inl told))) back h =
    kept_where left notes (Some f) (Some s) (λ m it. inr (inr (subst (λ (n : ℕ). SaysTold notes n) it.1 told))) h
saves_by q f s notes run left e (inr (inr (inr taken))) back h =
    settled_kept left notes (Some s)
    (subst (λ (b : Bool). AreSettled notes (before_latest b left)) taken.none.none_out (back taken.none.none_left))

saves_may : (o : Option RequestValue) (f s : SessionValue) (notes : List Note) (run : Run) (left : List Sent)
    → f.unanswered ≡ o
    → MayLeave o f s notes run
    → (run.has_left ≡ false → AreSettled notes (before_latest run.is_out left))
    → AreKept notes (Some f) left
    → AreKept notes (Some s) left
saves_may None f s notes run left e may back h =
    kept_where left notes (Some f) (Some s) (λ m it. absurd (none_some f.unanswered m.request e it.0)) h
saves_may (Some q) f s notes run left e may back h = saves_by q f s notes run left e may back h

saves_kept : (file : Option SessionValue) (s : SessionValue) (notes : List Note) (run : Run) (left : List Sent)
    → LeavesTold file s notes run
    → (run.has_left ≡ false → AreSettled notes (before_latest run.is_out left))
    → AreKept notes file left
    → AreKept notes (Some s) left
saves_kept None s notes run left may back h = kept_where left notes None (Some s) (λ m it. inl it) h
saves_kept (Some f) s notes run left may back h = saves_may f.unanswered f s notes run left refl may back h

sends_kept : (o : Option RequestValue) (notes : List Note) (file : Option SessionValue) (number : ℕ) (left : List Sent)
    → HasRequest file o number
    → AreKept notes file left
    → AreKept notes file (sent_by number o ++ left)
sends_kept None notes file number left has h = h
sends_kept (Some q) notes file number left has h = (inr (inl has), h)

tail_kept : (b : Bool) (notes : List Note) (file : Option SessionValue) (left : List Sent)
    → AreKept notes file left
    → AreKept notes file (before_latest b left)
tail_kept false notes file left h = h
tail_kept true notes file [] h = tt
tail_kept true notes file (m ∷ ms) h = h.1

pub kept_so : (m : Move) (d : Desk) (w : Watch) → Holds d w → IsAllowed d m → AreKept (moved d m).notes (moved d m).file (watched d w m).left
kept_so (Begins tag request) d w here may = here.kept
kept_so Saves d w here may = saves_kept d.file d.live d.notes d.run w.left may here.returned here.kept
kept_so Sends d w here may = sends_kept d.live.unanswered d.notes d.file (latest_number d.live) w.left may.1 here.kept
kept_so (Hears datagram) d w here may = here.kept
kept_so (Notes note) d w here may = tt
kept_so (Resumes attempts) d w here may = here.kept
kept_so (Retunes domain) d w here may = here.kept
kept_so LetsGo d w here may = here.kept
kept_so Returns d w here may = tail_kept d.run.is_out d.notes d.file w.left here.kept
kept_so (Starts setup domain) d w here may = here.kept
kept_so (Continues setup) d w here may = here.kept
kept_so (TakesBack setup) d w here may = here.kept
kept_so Crashes d w here may = here.kept

-- ---- what did not leave

parts_false : (a b : Bool) → (a || b) ≡ false → (a ≡ false) × (b ≡ false)
parts_false true b e = cc
parts_false false b e = (refl, e)

nothing_before : (b : Bool) (notes : List Note) → AreSettled notes (before_latest b [])
nothing_before true notes = tt
nothing_before false notes = tt

tail_settled : (notes : List Note) (left : List Sent) → AreSettled notes left → AreSettled notes (without_first left)
tail_settled notes [] h = tt
tail_settled notes (m ∷ ms) h = h.1

sends_returned : (o : Option RequestValue) (number : ℕ) (notes : List Note) (left : List Sent)
    → AreSettled notes left
    → AreSettled notes (without_first (sent_by number o ++ left))
sends_returned None number notes left h = tail_settled notes left h
sends_returned (Some q) number notes left h = h

pub returned_so : (m : Move) (d : Desk) (w : Watch) → Holds d w → IsAllowed d m → Returned (moved d m) (watched d w m)
returned_so (Begins tag request) d w here may e = kept_settled w.left d.notes d.file may.1 here.kept
returned_so Saves d w here may e = here.returned e
returned_so Sends d w here may e =
    let parts = parts_false d.run.has_left d.run.is_out e in
    sends_returned d.live.unanswered (latest_number d.live) d.notes w.left
    (subst (λ (b : Bool). AreSettled d.notes (before_latest b w.left)) parts.1 (here.returned parts.0))
returned_so (Hears datagram) d w here may e = here.returned e
returned_so (Notes note) d w here may e = nothing_before d.run.is_out (note ∷ d.notes)
returned_so (Resumes attempts) d w here may e = here.returned e
returned_so (Retunes domain) d w here may e = here.returned e
returned_so LetsGo d w here may e = here.returned e
returned_so Returns d w here may e = here.returned e
returned_so (Starts setup domain) d w here may e = cc
returned_so (Continues setup) d w here may e = here.returned e
returned_so (TakesBack setup) d w here may e = here.returned e
returned_so Crashes d w here may e = cc

-- ---- along moves

pub holds_after : (m : Move) (d : Desk) (w : Watch) → Holds d w → IsAllowed d m → Holds (moved d m) (watched d w m)
holds_after m d w here may = record {
  idles = idles m d w here;
  waits = waits_so m d w here may;
  answers = answers_so m d w here;
  tells = tells_so m d w here may;
  live = live_so m d w here may;
  kept = kept_so m d w here may;
  returned = returned_so m d w here may;
}

pub hold_along : (ms : List Move) (d : Desk) (w : Watch) → Holds d w → AreAllowed d ms → Holds (moved_by d ms) (watched_by d w ms)
hold_along [] d w here may = here
hold_along (m ∷ ms) d w here may = hold_along ms (moved d m) (watched d w m) (holds_after m d w here may.0) may.1

none_heard : (h : Heard) → None ≡ Some h → ⊥
none_heard h e = cc

none_told : (n : ℕ) → None ≡ Some n → ⊥
none_told n e = cc

pub holds_at_first : (file : Option SessionValue) (s : SessionValue) → Holds (opened_desk file s) nothing_seen
holds_at_first file s = record {
  idles = λ h e. absurd (none_heard h e);
  waits = opened_waits file s;
  answers = λ h e. absurd (none_heard h e);
  tells = λ n e. absurd (none_told n e);
  live = λ n e. absurd (none_told n e);
  kept = tt;
  returned = λ e. absurd (both_ways true refl e);
}
