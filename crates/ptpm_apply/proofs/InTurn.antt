-- Steps that are sent are noted as begun, and those before them are done.
use Rattle.std.proofs.Common.{◌≡◌, ◌∙◌, ◌⊎◌, ℕ, true, List, [], ◌∷◌, ◌++◌, Option, Some, None, inl, inr, refl, subst, arith}
use Rattle.std.specs.List.{AllByRecursion, Contains}
use Rattle.std.proofs.lemmas.List.Elements.{Contains-append_right}
use Rattle.ptpm_data.specs.Request.{RequestValue}
use Rattle.ptpm_manager.specs.declared.receiving.Received.{Received}
use Rattle.ptpm_manager.specs.declared.receiving.Received.TheVariants as received
use Rattle.ptpm_manager.specs.Receiving.{left_by, received_of}
use Rattle.ptpm_manager.specs.Session.{SessionValue}
use Rattle.ptpm_asker.specs.Desk.{AreAllowed, Begins, Continues, Crashes, Desk, Hears, IsAllowed, IsBegun, IsFree, IsFreeOf, IsKnownNew, IsLetGo, IsTold, LetsGo, Move, Note, Notes, Resumes, Retunes, Returns, Saves, SaysBegun, Sends, Starts, TakesBack, latest_number, moved, moved_by, next_number, reopened}
use Rattle.ptpm_asker.specs.Question.{is_question}
use Rattle.ptpm_apply.specs.Resuming.{desk_after, opened_desk}
use Rattle.ptpm_journal.proofs.InOrder.{begun_in_order}
use Rattle.ptpm_journal.specs.declared.record.Note.{Note as Noted}
use Rattle.ptpm_journal.specs.declared.record.Step.{Step}
use Rattle.ptpm_journal.specs.InOrder.{AreAllowed as AreNotesAllowed}
use Rattle.ptpm_apply.specs.Steps.{AreAsked, HasBegun, IsAsked, IsNoted, IsSentInOrder}
use Rattle.ptpm_apply.specs.Watching.{Sent, sent_at, sent_by, sent_in}

abbrev message : ℕ → RequestValue → Sent
message number q = record { number = number; request = q }

-- what a session has under way is noted
abbrev HasNoted : (ℕ → RequestValue) → List Note → SessionValue → Type 0
HasNoted steps notes s = (q : RequestValue) → s.unanswered ≡ Some q → IsNoted steps notes (message (latest_number s) q)

abbrev FileNoted : (ℕ → RequestValue) → List Note → Option SessionValue → Type 0
FileNoted steps notes file = (f : SessionValue) → file ≡ Some f → HasNoted steps notes f

record AreNoted (steps : ℕ → RequestValue) (d : Desk) : Type 0 where
  live : HasNoted steps d.notes d.live
  file : FileNoted steps d.notes d.file

-- ---- notes

later_note : (note : Note) (steps : ℕ → RequestValue) (notes : List Note) (m : Sent) → IsNoted steps notes m → IsNoted steps (note ∷ notes) m
later_note note steps notes m (inl asks) = inl asks
later_note note steps notes m (inr it) =
    inr (record { tag = it.tag; is_step = it.is_step; noted = Contains-append_right (note ∷ []) notes (IsBegun it.tag m.number) it.noted })

same_notes : (m : Move) (d : Desk) (steps : ℕ → RequestValue) (x : Sent) → IsNoted steps d.notes x → IsNoted steps (moved d m).notes x
same_notes (Notes note) d steps x h = later_note note steps d.notes x h
same_notes (Begins tag request) d steps x h = h
same_notes Saves d steps x h = h
same_notes Sends d steps x h = h
same_notes (Hears datagram) d steps x h = h
same_notes (Resumes attempts) d steps x h = h
same_notes (Retunes domain) d steps x h = h
same_notes LetsGo d steps x h = h
same_notes Returns d steps x h = h
same_notes (Starts setup domain) d steps x h = h
same_notes (Continues setup) d steps x h = h
same_notes (TakesBack setup) d steps x h = h
same_notes Crashes d steps x h = h

stays_noted : (ms : List Move) (d : Desk) (steps : ℕ → RequestValue) (x : Sent) → IsNoted steps d.notes x → IsNoted steps (moved_by d ms).notes x
stays_noted [] d steps x h = h
stays_noted (m ∷ ms) d steps x h = stays_noted ms (moved d m) steps x (same_notes m d steps x h)

-- ---- moves

said_begun : (notes : List Note) (tag number : ℕ) → SaysBegun notes tag number → Contains notes (IsBegun tag number)
said_begun [] tag number h = absurd h
said_begun (IsBegun t n ∷ further) tag number h =
    let there : Contains (IsBegun t n ∷ further) (IsBegun t n) = (0, omega arith, refl) in
    subst (λ (k : ℕ). Contains (IsBegun t n ∷ further) (IsBegun tag k)) h.1
    (subst (λ (k : ℕ). Contains (IsBegun t n ∷ further) (IsBegun k n)) h.0 there)
said_begun (IsTold t n outcome ∷ further) tag number h = absurd h
said_begun (IsLetGo n ∷ further) tag number h = absurd h

begins_noted : (d : Desk) (tag : ℕ) (request q : RequestValue) (steps : ℕ → RequestValue)
    → (is_question request ≡ true) ⊎ IsKnownNew d tag
    → (is_question request ≡ true) ⊎ (request ≡ steps tag)
    → Some request ≡ Some q
    → IsNoted steps d.notes (message (next_number d.live) q)
begins_noted d tag request q steps (inl asks) asked e =
    let same : request ≡ q = cc in inl (subst (λ (r : RequestValue). is_question r ≡ true) same asks)
begins_noted d tag request q steps (inr known) (inl asks) e =
    let same : request ≡ q = cc in inl (subst (λ (r : RequestValue). is_question r ≡ true) same asks)
begins_noted d tag request q steps (inr known) (inr step) e =
    let same : q ≡ request = cc in
    inr (record { tag = tag; is_step = same ∙ step; noted = said_begun d.notes tag (next_number d.live) known.0 })

hears_noted : (r : Received) (s : SessionValue) (notes : List Note) (steps : ℕ → RequestValue) → HasNoted steps notes s → HasNoted steps notes (left_by s r)
hears_noted (received.Answered report) s notes steps h q e = cc
hears_noted (received.Ignored reason) s notes steps h q e = h q e

opened_noted : (file : Option SessionValue) (s : SessionValue) (notes : List Note) (steps : ℕ → RequestValue)
    → FileNoted steps notes file
    → HasNoted steps notes (reopened file s)
opened_noted None s notes steps h q e = cc
opened_noted (Some f) s notes steps h q e = h f refl q e

live_noted : (m : Move) (d : Desk) (steps : ℕ → RequestValue) → AreNoted steps d → IsAllowed d m → IsAsked steps m → HasNoted steps (moved d m).notes (moved d m).live
live_noted (Begins tag request) d steps h may asked q e = begins_noted d tag request q steps may.2 asked e
live_noted Saves d steps h may asked q e = h.live q e
live_noted Sends d steps h may asked q e = h.live q e
live_noted (Hears datagram) d steps h may asked q e = hears_noted (received_of d.live datagram) d.live d.notes steps h.live q e
live_noted (Notes note) d steps h may asked q e = later_note note steps d.notes (message (latest_number d.live) q) (h.live q e)
live_noted (Resumes attempts) d steps h may asked q e = h.live q e
live_noted (Retunes domain) d steps h may asked q e = h.live q e
live_noted LetsGo d steps h may asked q e = cc
live_noted Returns d steps h may asked q e = h.live q e
live_noted (Starts setup domain) d steps h may asked q e = cc
live_noted (Continues setup) d steps h may asked q e = cc
live_noted (TakesBack setup) d steps h may asked q e = cc
live_noted Crashes d steps h may asked q e = opened_noted d.file d.live d.notes steps h.file q e

saves_noted : (s f : SessionValue) (notes : List Note) (steps : ℕ → RequestValue) → HasNoted steps notes s → Some s ≡ Some f → HasNoted steps notes f
saves_noted s f notes steps h e = let same : s ≡ f = cc in subst (λ (x : SessionValue). HasNoted steps notes x) same h

file_noted : (m : Move) (d : Desk) (steps : ℕ → RequestValue) → AreNoted steps d → FileNoted steps (moved d m).notes (moved d m).file
file_noted Saves d steps h f e = saves_noted d.live f d.notes steps h.live e
file_noted (Notes note) d steps h f e = λ q is. later_note note steps d.notes (message (latest_number f) q) (h.file f e q is)
file_noted (Begins tag request) d steps h f e = h.file f e
file_noted Sends d steps h f e = h.file f e
file_noted (Hears datagram) d steps h f e = h.file f e
file_noted (Resumes attempts) d steps h f e = h.file f e
file_noted (Retunes domain) d steps h f e = h.file f e
file_noted LetsGo d steps h f e = h.file f e
file_noted Returns d steps h f e = h.file f e
file_noted (Starts setup domain) d steps h f e = h.file f e
file_noted (Continues setup) d steps h f e = h.file f e
file_noted (TakesBack setup) d steps h f e = h.file f e
file_noted Crashes d steps h f e = h.file f e

-- ---- what is sent

sent_by_noted : (o : Option RequestValue) (number : ℕ) (notes : List Note) (steps : ℕ → RequestValue)
    → ((q : RequestValue) → o ≡ Some q → IsNoted steps notes (message number q))
    → AllByRecursion (IsNoted steps notes) (sent_by number o)
sent_by_noted None number notes steps h = tt
sent_by_noted (Some q) number notes steps h = (h q refl, tt)

sent_at_noted : (m : Move) (d : Desk) (steps : ℕ → RequestValue) → AreNoted steps d → AllByRecursion (IsNoted steps d.notes) (sent_at d m)
sent_at_noted Sends d steps h = sent_by_noted d.live.unanswered (latest_number d.live) d.notes steps h.live
sent_at_noted (Notes note) d steps h = tt
sent_at_noted Saves d steps h = tt
sent_at_noted (Begins tag request) d steps h = tt
sent_at_noted (Hears datagram) d steps h = tt
sent_at_noted (Resumes attempts) d steps h = tt
sent_at_noted (Retunes domain) d steps h = tt
sent_at_noted LetsGo d steps h = tt
sent_at_noted Returns d steps h = tt
sent_at_noted (Starts setup domain) d steps h = tt
sent_at_noted (Continues setup) d steps h = tt
sent_at_noted (TakesBack setup) d steps h = tt
sent_at_noted Crashes d steps h = tt

all_to : (P Q : Sent → Type 0) → ((x : Sent) → P x → Q x) → (xs : List Sent) → AllByRecursion P xs → AllByRecursion Q xs
all_to P Q f [] h = tt
all_to P Q f (x ∷ xs) h = (f x h.0, all_to P Q f xs h.1)

all_both : (P : Sent → Type 0) (xs ys : List Sent) → AllByRecursion P xs → AllByRecursion P ys → AllByRecursion P (xs ++ ys)
all_both P [] ys h g = g
all_both P (x ∷ xs) ys h g = (h.0, all_both P xs ys h.1 g)

all_noted : (ms : List Move) (d : Desk) (steps : ℕ → RequestValue)
    → AreNoted steps d
    → AreAllowed d ms
    → AreAsked steps ms
    → AllByRecursion (IsNoted steps (moved_by d ms).notes) (sent_in d ms)
all_noted [] d steps h may asked = tt
all_noted (m ∷ ms) d steps h may asked =
    let next : AreNoted steps (moved d m) = record { live = live_noted m d steps h may.0 asked.0; file = file_noted m d steps h } in
    all_both _ (sent_at d m) (sent_in (moved d m) ms)
    (all_to _ _ (λ x k. stays_noted (m ∷ ms) d steps x k) (sent_at d m) (sent_at_noted m d steps h))
    (all_noted ms (moved d m) steps next may.1 asked.1)

free_noted : (o : Option RequestValue) (number : ℕ) (q : RequestValue) (steps : ℕ → RequestValue) (notes : List Note)
    → IsFreeOf o
    → o ≡ Some q
    → IsNoted steps notes (message number q)
free_noted o number q steps notes free e = inl (subst IsFreeOf e free)

first_file : (file : Option SessionValue) (steps : ℕ → RequestValue) → IsFree file → FileNoted steps [] file
first_file file steps free f is q e = free_noted f.unanswered (latest_number f) q steps [] (subst IsFree is free) e

pub begun_before : (steps : ℕ → RequestValue) (file : Option SessionValue) (s : SessionValue) (moves : List Move)
    → IsFree file
    → AreAllowed (opened_desk file s) moves
    → AreAsked steps moves
    → AllByRecursion (IsNoted steps (desk_after file s moves).notes) (sent_in (opened_desk file s) moves)
begun_before steps file s moves free may asked =
    let first = first_file file steps free in
    all_noted moves (opened_desk file s) steps (record { live = opened_noted file s [] steps first; file = first }) may asked

-- ---- a journal

begun_of : (requests : ℕ → RequestValue) (steps : ℕ → Step) (journal : List Noted) (notes : List Note) (m : Sent)
    → AreNotesAllowed steps journal
    → HasBegun journal notes
    → IsNoted requests notes m
    → (is_question m.request ≡ true) ⊎ IsSentInOrder requests steps journal m
begun_of requests steps journal notes m may has (inl asks) = inl asks
begun_of requests steps journal notes m may has (inr it) =
    let begun = has it.tag m.number it.noted in
    inr (record {
      tag = it.tag;
      is_step = it.is_step;
      begun = begun;
      done = λ u p. begun_in_order steps journal may it.tag m.number u begun p;
    })

pub sent_in_order : (requests : ℕ → RequestValue) (steps : ℕ → Step) (journal : List Noted)
    (file : Option SessionValue) (s : SessionValue) (moves : List Move)
    → AreNotesAllowed steps journal
    → HasBegun journal (desk_after file s moves).notes
    → IsFree file
    → AreAllowed (opened_desk file s) moves
    → AreAsked requests moves
    → AllByRecursion (λ (m : Sent). (is_question m.request ≡ true) ⊎ IsSentInOrder requests steps journal m) (sent_in (opened_desk file s) moves)
sent_in_order requests steps journal file s moves allowed has free may asked =
    all_to _ _ (λ m h. begun_of requests steps journal (desk_after file s moves).notes m allowed has h) (sent_in (opened_desk file s) moves)
    (begun_before requests file s moves free may asked)
