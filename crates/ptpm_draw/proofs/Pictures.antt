-- A picture as far as it is drawn.
use Rattle.ptpm_world.proofs.Common.{◌≡◌, ℕ, ◌+◌, ◌++◌, ◌<◌, ◌≤◌, zero, suc, List, [], ◌∷◌, Option, refl, sym, ap, ◌∙◌, arith, add-one, append_assoc, append-nil, cond-false, drop, get_or, length, map, ne_eqb, option_map, slice_get, Held, frame_at, Network, RunningNetwork, Names, placed, after, answer, described, IsOf, names_in, names_of, NetworkValue, running, PortIdentity, Stands, initial_state}
use Rattle.std.specs.Prelude.{option_to_list}
use Rattle.std.proofs.lemmas.List.{drop_all, drop_more}
use Rattle.ptpm_data.specs.Members.{DataSetsValue}
use Rattle.ptpm_draw.specs.Changes.{change_at, change_of, sets_of}
use Rattle.ptpm_draw.specs.Party.{party_at}
use Rattle.ptpm_draw.specs.Picture.{Drawn, IsWorldOf, drawn, drawn_by, message_of, picture_of, row_of, then_drawn, way_of}
use Rattle.ptpm_draw.specs.declared.changes.Change.{Change}
use Rattle.ptpm_draw.specs.declared.party.Party.{Party}
use Rattle.ptpm_draw.specs.declared.picture.EventRow.{EventRow}
use Rattle.ptpm_world.proofs.StartedWorld.{started-is}
use Rattle.ptpm_world.specs.Trace.{is_late_event}
use Rattle.ptpm_world.specs.declared.world.World.{World}
use Rattle.ptpm_world.specs.declared.whole_script.EventLine.{EventLine}

-- ---- one event

pub row-is : (N : Network) (names : Names) (r : RunningNetwork) (at : Option Party) (line : EventLine) (row : EventRow)
    → row.line ≡ line.number
    → row.at ≡ at
    → row.way ≡ way_of line.event row.answer
    → row.answer ≡ answer N r (placed names line.event)
    → row.is_late ≡ is_late_event r (placed names line.event)
    → row.before ≡ length r.frames
    → row.after ≡ length (after N r (placed names line.event)).frames
    → row ≡ row_of N names r at line
row-is N names r at line row number where_at way told late before behind = λ i. record {
  line = number i;
  at = where_at i;
  way = (way ∙ ap (way_of line.event) told) i;
  answer = told i;
  is_late = late i;
  before = before i;
  after = behind i;
}

pub event-drawn : (n : NetworkValue) (r next : RunningNetwork) (line : EventLine) (at : Option Party) (row : EventRow)
    (change : Option Change)
    (old new : Drawn)
    → at ≡ party_at (names_of n) r.frames line.event
    → row ≡ row_of (described n) (names_of n) r at line
    → change ≡ change_at line.number at r next
    → new.rows ≡ old.rows ++ row ∷ []
    → new.messages ≡ old.messages ++ map (message_of row.at) (drop row.before next.frames)
    → new.changes ≡ old.changes ++ option_to_list change
    → new ≡ then_drawn old (drawn_by (described n) (names_of n) r next line)
event-drawn n r next line at row change old new party is changed rows messages changes = λ i. record {
  rows = (rows ∙ ap (λ x. old.rows ++ x ∷ []) (is ∙ ap (λ a. row_of (described n) (names_of n) r a line) party)) i;
  messages = (messages
      ∙ ap (λ (x : EventRow). old.messages ++ map (message_of x.at) (drop x.before next.frames)) is
      ∙ ap (λ a. old.messages ++ map (message_of a) (drop (length r.frames) next.frames)) party) i;
  changes = (changes ∙ ap (λ x. old.changes ++ option_to_list x) (changed ∙ ap (λ a. change_at line.number a r next) party)) i;
}

-- of the data sets before it and after it
pub change-is : (line : ℕ) (at : Option Party) (r next : RunningNetwork) (before behind : Option DataSetsValue)
    (change : Option Change)
    → before ≡ sets_of at r
    → behind ≡ sets_of at next
    → change ≡ change_of line before behind
    → change ≡ change_at line at r next
change-is line at r next before behind change was now is =
    is ∙ ap (λ x. change_of line x behind) was ∙ ap (λ x. change_of line (sets_of at r) x) now

-- a world stays one of its network
pub stays : (n : NetworkValue) (old new : World)
    → ((N : Network) → IsOf N old → IsOf N new)
    → names_in new ≡ names_in old
    → IsWorldOf n old
    → IsWorldOf n new
stays n old new network names is = record { network = network (described n) is.network; names = names ∙ is.names }

-- ---- the messages of the frames from one on

rest-step : {A : Type 0} (f : Held → A) (frames : List Held) (count : ℕ)
    → map f (drop count frames) ≡ option_to_list (option_map f (slice_get frames count)) ++ map f (drop (suc count) frames)
rest-step f [] zero = refl
rest-step f [] (suc count) = refl
rest-step f (h ∷ hs) zero = refl
rest-step f (h ∷ hs) (suc count) = rest-step f hs count

frame-here : (frames : List Held) (count : ℕ) → frame_at frames (count + 1) ≡ slice_get frames count
frame-here frames count =
    cond-false _ _ _ (ne_eqb (count + 1) 0 (λ e. omega (arith, e)))
    ∙ ap (slice_get frames) (omega arith)

-- one more is kept
pub kept-more : {A : Type 0} (f : Held → A) (frames : List Held) (count : ℕ) (whole old new : List A)
    → whole ≡ old ++ map f (drop count frames)
    → new ≡ old ++ option_to_list (option_map f (frame_at frames (count + 1)))
    → whole ≡ new ++ map f (drop (count + 1) frames)
kept-more f frames count whole old new so_far kept =
    let one = option_to_list (option_map f (slice_get frames count)) in
    so_far ∙ ap (λ rest. old ++ rest) (rest-step f frames count)
    ∙ sym (append_assoc old one (map f (drop (suc count) frames)))
    ∙ ap (λ o. (old ++ option_to_list (option_map f o)) ++ map f (drop (suc count) frames)) (sym (frame-here frames count))
    ∙ ap (λ xs. xs ++ map f (drop (suc count) frames)) (sym kept)
    ∙ ap (λ k. new ++ map f (drop k frames)) (sym (add-one count))

-- none is left
pub kept-all : {A : Type 0} (f : Held → A) (frames : List Held) (count : ℕ) (whole kept : List A)
    → whole ≡ kept ++ map f (drop count frames)
    → length frames ≤ count
    → kept ≡ whole
kept-all f frames count whole kept so_far past =
    sym (so_far ∙ ap (λ rest. kept ++ map f rest) (drop_all count frames past) ∙ append-nil kept)

-- ---- the events from one on

then-assoc : (a b c : Drawn) → then_drawn (then_drawn a b) c ≡ then_drawn a (then_drawn b c)
then-assoc a b c = λ i. record {
  rows = append_assoc a.rows b.rows c.rows i;
  messages = append_assoc a.messages b.messages c.messages i;
  changes = append_assoc a.changes b.changes c.changes i;
}

-- nothing is drawn yet
pub drawn-first : (d rest : Drawn)
    → d.rows ≡ []
    → d.messages ≡ []
    → d.changes ≡ []
    → rest ≡ then_drawn d rest
drawn-first d rest rows messages changes = λ i. record {
  rows = sym (ap (λ xs. xs ++ rest.rows) rows) i;
  messages = sym (ap (λ xs. xs ++ rest.messages) messages) i;
  changes = sym (ap (λ xs. xs ++ rest.changes) changes) i;
}

-- and the world is the one that its network starts as
pub drawn-started : (n : NetworkValue) (w : World) (lines items : List EventLine) (d : Drawn)
    → items ≡ lines
    → IsOf (described n) w
    → ((first : ℕ → PortIdentity → ℕ) → Stands (described n) first (running w) (initial_state (described n)))
    → d.rows ≡ []
    → d.messages ≡ []
    → d.changes ≡ []
    → picture_of n lines ≡ then_drawn d (drawn (described n) (names_of n) (running w) items)
drawn-started n w lines items d same is stands rows messages changes =
    ap (picture_of n) (sym same)
    ∙ ap (λ (r : RunningNetwork). drawn (described n) (names_of n) r items) (sym (started-is n w is stands))
    ∙ drawn-first d (drawn (described n) (names_of n) (running w) items) rows messages changes

-- an event more, the one at this place
pub drawn-more : (N : Network) (names : Names) (now next : RunningNetwork) (lines : List EventLine) (place : ℕ)
    (line : EventLine)
    (whole old new : Drawn)
    → place < length lines
    → line ≡ get_or lines place line
    → whole ≡ then_drawn old (drawn N names now (drop place lines))
    → next ≡ after N now (placed names line.event)
    → new ≡ then_drawn old (drawn_by N names now next line)
    → whole ≡ then_drawn new (drawn N names next (drop (place + 1) lines))
drawn-more N names now next lines place line whole old new below is so_far goes kept =
    let rest = drop (place + 1) lines in
    so_far
    ∙ ap (λ ls. then_drawn old (drawn N names now ls)) (drop_more lines place line below ∙ ap (λ l. l ∷ rest) (sym is))
    ∙ ap (λ (r : RunningNetwork). then_drawn old (then_drawn (drawn_by N names now r line) (drawn N names r rest))) (sym goes)
    ∙ sym (then-assoc old (drawn_by N names now next line) (drawn N names next rest))
    ∙ ap (λ d. then_drawn d (drawn N names next rest)) (sym kept)

then-nothing : (d : Drawn) → then_drawn d (record { rows = []; messages = []; changes = [] }) ≡ d
then-nothing d = λ i. record {
  rows = append-nil d.rows i;
  messages = append-nil d.messages i;
  changes = append-nil d.changes i;
}

-- no event is left
pub drawn-all : (N : Network) (names : Names) (now : RunningNetwork) (lines : List EventLine) (place : ℕ)
    (whole all : Drawn)
    → length lines ≤ place
    → whole ≡ then_drawn all (drawn N names now (drop place lines))
    → all ≡ whole
drawn-all N names now lines place whole all past so_far =
    sym (so_far ∙ ap (λ ls. then_drawn all (drawn N names now ls)) (drop_all place lines past) ∙ then-nothing all)
