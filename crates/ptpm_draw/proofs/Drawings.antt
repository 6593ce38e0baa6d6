-- A script that is read and drawn, and the lines and parts that are chosen of it.
use Rattle.ptpm_world.proofs.Common.{◌≡◌, ℕ, ◌+◌, ◌++◌, ◌<◌, Bool, true, false, List, [], ◌∷◌, Option, refl, sym, ap, subst, ◌∙◌, append_assoc, append-nil, filter, get_or, length, map, map-append, take, take_more, Appends, Appends-trans, Keeps, Network, RunningNetwork, Names, NetworkValue, placed, after, described, names_of, started, None, Some, Ok, Err, Result, IfErr, IfSome, IsErrAnd, OnOk, network_value, is_outside, range_with_len, scripted}
use Rattle.std.proofs.KnownBytes.{Appends-kept}
use Rattle.std.specs.Prelude.{codes, cond}
use Rattle.ptpm_draw.specs.Chosen.{chosen_of, is_chosen}
use Rattle.ptpm_draw.specs.Drawing.{AddsParts, ArePartsOf, ShowsLines, opening, HasDrawn, IsSelection, IsSelectionOf, whole_picture}
use Rattle.ptpm_draw.specs.Picture.{Drawn, drawn, picture_of, drawn_in, is_delivered}
use Rattle.ptpm_draw.specs.declared.chosen.Chosen.{Chosen}
use Rattle.ptpm_draw.specs.declared.picture.EventRow.{EventRow}
use Rattle.ptpm_world.specs.declared.whole_script.EventLine.{EventLine}
use Rattle.ptpm_draw.specs.declared.selection.Selection.{Selection}
use Rattle.ptpm_draw.specs.declared.picture.Picture.{Picture}
use Rattle.ptpm_world.proofs.FaultLemmas.{outside}
use Rattle.ptpm_world.proofs.Playing.{err-is, some-is}
use Rattle.ptpm_world.specs.declared.script_error.ScriptError.{ScriptError}
use Rattle.ptpm_world.specs.ScriptError.{is_of_writing}
use Rattle.ptpm_world.specs.declared.whole_script.Script.{Script}
use Rattle.ptpm_world.specs.WholeScript.{IsScript}
use Rattle.ptpm_world.specs.declared.script_error.ScriptError.TheVariants as faults

-- ---- lines that are chosen, and the parts that are written of them

-- ---- numbers of lines

kept-first : {A : Type 0} (f : A → ℕ) (b : Bool) (x : A) (xs : List A) (ns : List ℕ)
    → map f xs ≡ ns
    → map f (cond b (x ∷ xs) xs) ≡ cond b (f x ∷ ns) ns
kept-first f true x xs ns h = ap (λ rest. f x ∷ rest) h
kept-first f false x xs ns h = h

-- those of what is chosen by its number are those that are chosen
pub numbers-chosen : {A : Type 0} (f : A → ℕ) (test : ℕ → Bool) (xs : List A)
    → map f (filter (λ x. test (f x)) xs) ≡ filter test (map f xs)
numbers-chosen f test [] = refl
numbers-chosen f test (x ∷ xs) = kept-first f (test (f x)) x _ _ (numbers-chosen f test xs)

-- each event's row has its line's number
drawn-numbers : (N : Network) (names : Names) (r : RunningNetwork) (lines : List EventLine)
    → map (λ (row : EventRow). row.line) (drawn N names r lines).rows ≡ map (λ (line : EventLine). line.number) lines
drawn-numbers N names r [] = refl
drawn-numbers N names r (line ∷ lines) =
    ap (λ ns. line.number ∷ ns) (drawn-numbers N names (after N r (placed names line.event)) lines)

pub picture-numbers : (n : NetworkValue) (lines : List EventLine) (d : Drawn)
    → d ≡ picture_of n lines
    → map (λ (row : EventRow). row.line) d.rows ≡ map (λ (line : EventLine). line.number) lines
picture-numbers n lines d is =
    ap (λ (x : Drawn). map (λ (row : EventRow). row.line) x.rows) is ∙ drawn-numbers (described n) (names_of n) (started n) lines

-- what is left of both has the same numbers
pub numbers-left : (chosen : Chosen) (all : Drawn) (left : Drawn) (lines kept : List EventLine)
    → map (λ (row : EventRow). row.line) all.rows ≡ map (λ (line : EventLine). line.number) lines
    → left ≡ chosen_of chosen all
    → kept ≡ filter (λ (line : EventLine). is_chosen chosen line.number) lines
    → map (λ (row : EventRow). row.line) left.rows ≡ map (λ (line : EventLine). line.number) kept
numbers-left chosen all left lines kept same rows is =
    ap (λ (d : Drawn). map (λ (row : EventRow). row.line) d.rows) rows
    ∙ numbers-chosen (λ (row : EventRow). row.line) (is_chosen chosen) all.rows
    ∙ ap (filter (is_chosen chosen)) same
    ∙ sym (numbers-chosen (λ (line : EventLine). line.number) (is_chosen chosen) lines)
    ∙ sym (ap (map (λ (line : EventLine). line.number)) is)

-- ---- parts that are written one after the other

parts-more : (lines : List ℕ) (line : ℕ) (text rest : List ℕ)
    → ArePartsOf lines text
    → ArePartsOf (lines ++ line ∷ []) (text ++ (opening line ++ rest))
parts-more [] line text rest is =
    (rest, ([], (ap (λ t. t ++ (opening line ++ rest)) is ∙ sym (append-nil (opening line ++ rest)), refl)))
parts-more (l ∷ ls) line text rest (own, (others, (is, more))) =
    let next = opening line ++ rest in
    (own, (others ++ next, (ap (λ t. t ++ next) is ∙ append_assoc (opening l ++ own) others next, parts-more ls line others rest more)))

-- that of the row at a place comes after those of the rows before it
pub parts-row : (rows : List EventRow) (place : ℕ) (row : EventRow) (a b c : Option (List ℕ)) (text : List ℕ)
    → place < length rows
    → row ≡ get_or rows place row
    → AddsParts (map (λ (row : EventRow). row.line) (take place rows)) a b
    → Appends b c (opening row.line ++ text)
    → AddsParts (map (λ (row : EventRow). row.line) (take (place + 1) rows)) a c
parts-row rows place row a b c text below is (before, (parts, written)) more =
    subst (λ ns. AddsParts ns a c)
    (sym (ap (map (λ (r : EventRow). r.line)) (take_more rows place row below ∙ ap (λ r. take place rows ++ r ∷ []) (sym is))
    ∙ map-append (λ (r : EventRow). r.line) (take place rows) (row ∷ [])))
    (before ++ (opening row.line ++ text), (parts-more (map (λ (r : EventRow). r.line) (take place rows)) row.line before text parts, Appends-trans a b c before (opening row.line ++ text) written more))

-- what comes before them and after them
pub shown-all : (lines : List ℕ) (a b c d : Option (List ℕ)) (head : List ℕ)
    → Appends a b head
    → AddsParts lines b c
    → Appends c d (codes "</svg>\n")
    → ShowsLines lines a d
shown-all lines a b c d head first (text, (parts, written)) last =
    (head, (text, (parts, Appends-trans a c d (head ++ text) (codes "</svg>\n") (Appends-trans a b c head text first written) last)))

-- and what was flushed stays
pub shown-flushed : (lines rows : List ℕ) (a b c : Option (List ℕ))
    → rows ≡ lines
    → ShowsLines rows a b
    → Keeps b c
    → ShowsLines lines a c
shown-flushed lines rows a b c same (head, (parts, (are, written))) kept =
    subst (λ ns. ShowsLines ns a c) same (head, (parts, (are, Appends-kept a b c ((head ++ parts) ++ codes "</svg>\n") written kept)))

-- ---- a script that is read and drawn

keeps-same : (a : Option (List ℕ)) → Keeps a a
keeps-same None = tt
keeps-same (Some xs) = refl

-- ---- what is read

pub shows : (all : Option (List ℕ)) (chosen : Chosen) (script : Script) (p : Picture) (flags : List Bool) (s : Selection)
    → IfSome all (λ input. IsScript input script)
    → drawn_in p ≡ picture_of (network_value script.network) script.lines.items
    → flags ≡ map (is_delivered p.rows.items) (range_with_len 1 (length p.messages.items))
    → network_value s.network ≡ network_value script.network
    → s.lines.items ≡ filter (λ (line : EventLine). is_chosen chosen line.number) script.lines.items
    → drawn_in s.picture ≡ chosen_of chosen (drawn_in p)
    → s.is_delivered.items ≡ flags
    → s.events ≡ length script.lines.items
    → IfSome all (λ input. IsSelectionOf input chosen s)
shows all chosen script p flags s read drawn marks network lines picture delivered events =
    some-is all
    (λ input (is : IsScript input script).
    let whole : drawn_in p ≡ whole_picture s.network input =
    drawn
    ∙ ap (picture_of (network_value script.network)) is.events
    ∙ ap (λ n. picture_of n (scripted input).events) (sym network) in
    record {
      network = is.network ∙ ap Ok (sym network);
      lines = lines ∙ ap (filter (λ (line : EventLine). is_chosen chosen line.number)) is.events;
      picture = picture ∙ ap (chosen_of chosen) whole;
      delivered = delivered ∙ marks ∙ ap (λ (w : Drawn). map (is_delivered w.rows) (range_with_len 1 (length w.messages))) whole;
      events = events ∙ ap (λ (ls : List EventLine). length ls) is.events;
      faultless = is.faultless;
    })
    read

pub unread : (r : Result Selection ScriptError) (e : ScriptError) (all : Option (List ℕ))
    → IsErrAnd r (λ x. x ≡ e)
    → IfSome all (λ input. is_outside e ≡ false → (scripted input).end ≡ Err e)
    → (chosen : Chosen) → IfSome all (λ input. IsSelection input chosen r)
unread r e all given h chosen = err-is r e (λ x. IfSome all (λ input. IsSelection input chosen x)) given h

-- ---- what is written

is_outside-writing : (e : ScriptError) → is_of_writing e ≡ true → is_outside e ≡ true
is_outside-writing faults.ReadFault h = refl
is_outside-writing faults.WriteFault h = refl
is_outside-writing (faults.LineTooLong n) h = absurd (cc)
is_outside-writing faults.TooManyLines h = absurd (cc)
is_outside-writing (faults.NotText n) h = absurd (cc)
is_outside-writing (faults.BadNetwork e) h = absurd (cc)
is_outside-writing (faults.BadLine n e) h = absurd (cc)
is_outside-writing faults.OutOfMemory h = refl

pub ended-first : {A : Type 0} (r : Result A ScriptError) (e : ScriptError) (chosen : Chosen) (all a : Option (List ℕ))
    → IsErrAnd r (λ x. x ≡ e)
    → IfSome all (λ input. is_outside e ≡ false → (scripted input).end ≡ Err e)
    → IfSome all (λ input. HasDrawn input chosen a a r)
ended-first r e chosen all a given h =
    err-is r e (λ x. IfSome all (λ input. HasDrawn input chosen a a x)) given
    (some-is all (λ input fault. record { fault = λ inside. (fault inside, keeps-same a); unread = λ reading. keeps-same a }) h)

pub drawn-or-ended : {A : Type 0} (r : Result A ScriptError) (chosen : Chosen) (s : Selection) (all a b : Option (List ℕ))
    → IfSome all (λ input. IsSelectionOf input chosen s)
    → OnOk r (ShowsLines (map (λ (line : EventLine). line.number) s.lines.items) a b)
    → IfErr r (λ e. is_of_writing e ≡ true)
    → IfSome all (λ input. HasDrawn input chosen a b r)
drawn-or-ended (Ok done) chosen s all a b h shown e =
    some-is all
    (λ input (is : IsSelectionOf input chosen s).
    (is.faultless, subst (λ ls. ShowsLines (map (λ (line : EventLine). line.number) ls) a b) is.lines shown))
    h
drawn-or-ended (Err x) chosen s all a b h shown e =
    some-is all
    (λ input is. record {
      fault = λ inside. outside x (is_outside-writing x e) inside;
      unread = λ reading. absurd (let no = sym (ap is_of_writing reading) ∙ e in cc);
    })
    h
