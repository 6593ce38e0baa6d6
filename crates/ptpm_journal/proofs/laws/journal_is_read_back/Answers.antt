-- A record is read back from its octets.
use Rattle.std.proofs.Common.{arith, ◌≡◌, ◌∙◌, ◌⊎◌, inl, inr, ap, subst, ℕ, ◌+◌, ◌<◌, ◌≤◌, ◌^◌, true, refl, sym, List, [], ◌∷◌, ◌++◌, length, drop, append_assoc, append-nil, length-append, Some, zero, suc, ◌-◌, false, take}
use Rattle.std.proofs.lemmas.List.{drop_at, take_at, length-take-le}
use Rattle.byteorder.specs.Endian.{big_bytes, big_number}
use Rattle.byteorder.specs.Numbers.{big_number-reads_back, length-bytes_high_first}
use Rattle.ptpm_codec.specs.Layout.{number_at, octet}
use Rattle.ptpm_journal.specs.declared.record.Policy.{Policy}
use Rattle.ptpm_journal.specs.declared.record.Outcome.{Outcome}
use Rattle.ptpm_journal.specs.declared.record.Ending.{Ending}
use Rattle.ptpm_journal.specs.declared.record.Note.{Note}
use Rattle.ptpm_journal.specs.declared.record.Record.{Record}
use Rattle.ptpm_journal.specs.Octets.{Fits, NoteFits, body_of, end_at, ending_code, ending_of, first_width, first_size, found_as, found_by, found_in, is_short, kind_of, members, members_size, most_in, outcome_code, outcome_of, record_at, second_size, second_width, sized, told_at}
use Rattle.std.specs.Prelude.{◌/◌, ◌%◌}
use Rattle.std.proofs.Math.Seq.{take-append-add}
use Rattle.std.proofs.lemmas.Bool.Decides.{leb_tells}
use Rattle.ptpm_journal.specs.declared.framing.Frame.{Frame}
use Rattle.ptpm_journal.specs.Frames.{AreBodies, AreReadFrom, IsBeginning, are_zeros, counted, crc_after, frame_at, framed, octets_of, size_in}
use Rattle.ptpm_journal.specs.declared.record.Outcome.TheVariants as outcomes
use Rattle.ptpm_journal.specs.declared.record.Ending.TheVariants as endings
use Rattle.ptpm_journal.specs.declared.record.Note.TheVariants as notes
use Rattle.ptpm_journal.specs.declared.record.Record.TheVariants as records
use Rattle.ptpm_journal.specs.declared.framing.Frame.TheVariants as frames
use Rattle.ptpm_journal.proofs.laws.journal_is_read_back.Goals as goal

-- ---- the numbers

outcome_back : (o : Outcome) → outcome_of (outcome_code o) ≡ Some o
outcome_back outcomes.Done = refl
outcome_back outcomes.Refused = refl
outcome_back outcomes.Answered = refl

ending_back : (e : Ending) → ending_of (ending_code e) ≡ Some e
ending_back endings.Complete = refl
ending_back endings.Refused = refl
ending_back endings.Answered = refl
ending_back endings.Changed = refl
ending_back endings.GivenUp = refl
ending_back endings.RolledBack = refl
ending_back endings.Stopped = refl
ending_back endings.InPart = refl

same_head : (p : Policy) (m m' port port' count count' : ℕ) → m' ≡ m → port' ≡ port → count' ≡ count
    → Some (records.Head (record { policy = p; manager = m'; port = port'; count = count' }))
    ≡ Some (records.Head (record { policy = p; manager = m; port = port; count = count }))
same_head p m m' port port' count count' a b c = cc

same_step : (clock clock' domain group port port' id id' : ℕ) → clock' ≡ clock → port' ≡ port → id' ≡ id
    → Some (records.Step (record { clock = clock'; domain = domain; group = group }) port' id')
    ≡ Some (records.Step (record { clock = clock; domain = domain; group = group }) port id)
same_step clock clock' domain group port port' id id' a b c = cc

same_begun : (time time' step step' number number' : ℕ) → time' ≡ time → step' ≡ step → number' ≡ number
    → Some (records.Note time' (notes.Begun step' number')) ≡ Some (records.Note time (notes.Begun step number))
same_begun time time' step step' number number' a b c = cc

same_not_begun : (time time' step step' : ℕ) → time' ≡ time → step' ≡ step
    → Some (records.Note time' (notes.NotBegun step')) ≡ Some (records.Note time (notes.NotBegun step))
same_not_begun time time' step step' a b = cc

same_let_go : (time time' step step' : ℕ) → time' ≡ time → step' ≡ step
    → Some (records.Note time' (notes.LetGo step')) ≡ Some (records.Note time (notes.LetGo step))
same_let_go time time' step step' a b = cc

same_policy : (p : Policy) (time time' : ℕ) → time' ≡ time → Some (records.Policy time' p) ≡ Some (records.Policy time p)
same_policy p time time' a = cc

same_told : (time time' step step' error error' : ℕ) (o : Outcome) → time' ≡ time → step' ≡ step → error' ≡ error
    → Some (records.Note time' (notes.Told step' o error')) ≡ Some (records.Note time (notes.Told step o error))
same_told time time' step step' error error' o a b c = cc

same_end : (time time' step step' : ℕ) (e : Ending) → time' ≡ time → step' ≡ step
    → Some (records.End time' e step') ≡ Some (records.End time e step)
same_end time time' step step' e a b = cc

two : (n : ℕ) (rest : List ℕ) → n < 2 ^ 16 → big_number 2 (big_bytes 2 n ++ rest) ≡ n
two n rest h = big_number-reads_back 2 n rest (omega (arith, h))

eight : (n : ℕ) (rest : List ℕ) → n < 2 ^ 64 → big_number 8 (big_bytes 8 n ++ rest) ≡ n
eight n rest h = big_number-reads_back 8 n rest (omega (arith, h))

-- ---- the kind and the numbers

note_back : (note : Note) (time : ℕ) (rest : List ℕ) → time < 2 ^ 64 → NoteFits note
    → record_at (members (records.Note time note) ++ rest) ≡ Some (records.Note time note)
unfolding record_at members number_at
note_back (notes.Begun step number) time rest t h =
    same_begun _ _ _ _ _ _ (eight time rest t) (two step (big_bytes 2 number ++ (big_bytes 8 time ++ rest)) h.0)
    (two number (big_bytes 8 time ++ rest) h.1)
note_back (notes.NotBegun step) time rest t h = same_not_begun _ _ _ _ (eight time rest t) (two step (big_bytes 8 time ++ rest) h)
note_back (notes.LetGo step) time rest t h = same_let_go _ _ _ _ (eight time rest t) (two step (big_bytes 8 time ++ rest) h)
note_back (notes.Told step outcome error) time rest t h =
    ap (λ o. told_at o (members (records.Note time (notes.Told step outcome error)) ++ rest)) (outcome_back outcome)
    ∙ same_told _ _ _ _ _ _ outcome (eight time rest t)
    (two step (outcome_code outcome ∷ (big_bytes 2 error ++ (big_bytes 8 time ++ rest))) h.0)
    (two error (big_bytes 8 time ++ rest) h.1)

record_back : (r : Record) (rest : List ℕ) → Fits r → record_at (members r ++ rest) ≡ Some r
unfolding record_at members number_at
record_back (records.Head head) rest h =
    same_head head.policy _ _ _ _ _ _ (eight head.manager (big_bytes 2 head.port ++ (big_bytes 2 head.count ++ rest)) h.0)
    (two head.port (big_bytes 2 head.count ++ rest) h.1) (two head.count rest h.2)
record_back (records.Step step port id) rest h =
    same_step _ _ step.domain step.group _ _ _ _
    (eight step.clock (step.domain ∷ step.group ∷ (big_bytes 2 port ++ (big_bytes 2 id ++ rest))) h.0)
    (two port (big_bytes 2 id ++ rest) h.1) (two id rest h.2)
record_back (records.Note time note) rest h = note_back note time rest h.0 h.1
record_back (records.Policy time policy) rest h = same_policy policy _ _ (eight time rest h)
record_back (records.End time ending step) rest h =
    ap (λ e. end_at e (members (records.End time ending step) ++ rest)) (ending_back ending)
    ∙ same_end _ _ _ _ ending (eight time rest h.0) (two step (big_bytes 8 time ++ rest) h.1)
record_back (records.Text what) rest h = refl

kind_there : (r : Record) (rest : List ℕ) → octet 0 (members r ++ rest) ≡ kind_of r
unfolding members
kind_there (records.Head head) rest = refl
kind_there (records.Step step port id) rest = refl
kind_there (records.Note time (notes.Begun step number)) rest = refl
kind_there (records.Note time (notes.NotBegun step)) rest = refl
kind_there (records.Note time (notes.LetGo step)) rest = refl
kind_there (records.Note time (notes.Told step outcome error)) rest = refl
kind_there (records.Policy time policy) rest = refl
kind_there (records.End time ending step) rest = refl
kind_there (records.Text what) rest = refl

size_there : (r : Record) → length (members r) ≡ members_size (kind_of r)
unfolding members
size_there (records.Head head) = refl
size_there (records.Step step port id) = refl
size_there (records.Note time (notes.Begun step number)) = refl
size_there (records.Note time (notes.NotBegun step)) = refl
size_there (records.Note time (notes.LetGo step)) = refl
size_there (records.Note time (notes.Told step outcome error)) = refl
size_there (records.Policy time policy) = refl
size_there (records.End time ending step) = refl
size_there (records.Text what) = refl

-- ---- the groups

few : (width n : ℕ) → (width ≡ 0) ⊎ ((width ≡ 1) ⊎ (width ≡ 2)) → n ≤ most_in width → n < 256 ^ width
few width n (inl e) h = subst (λ (w : ℕ). n ≤ most_in w → n < 256 ^ w) (sym e) (λ l. omega (arith, l)) h
few width n (inr (inl e)) h = subst (λ (w : ℕ). n ≤ most_in w → n < 256 ^ w) (sym e) (λ l. omega (arith, l)) h
few width n (inr (inr e)) h = subst (λ (w : ℕ). n ≤ most_in w → n < 256 ^ w) (sym e) (λ l. omega (arith, l)) h

first_is_narrow : (kind : ℕ) → (first_width kind ≡ 0) ⊎ ((first_width kind ≡ 1) ⊎ (first_width kind ≡ 2))
first_is_narrow kind = grind arith

second_is_narrow : (kind : ℕ) → (second_width kind ≡ 0) ⊎ ((second_width kind ≡ 1) ⊎ (second_width kind ≡ 2))
second_is_narrow kind = grind arith

sized-size : (width : ℕ) (octets : List ℕ) → length (sized width octets) ≡ width + length octets
sized-size width octets =
    omega (arith, length-append (big_bytes width (length octets)) octets, length-bytes_high_first width (length octets))

-- a group's size is read
group_size : (width : ℕ) (octets rest : List ℕ) → length octets < 256 ^ width → big_number width (sized width octets ++ rest) ≡ length octets
group_size width octets rest h =
    ap (λ (l : List ℕ). big_number width l) (append_assoc (big_bytes width (length octets)) octets rest)
    ∙ big_number-reads_back width (length octets) (octets ++ rest) h

found_with : (kind : ℕ) (body : List ℕ) (r : Record) (n m : ℕ) → record_at body ≡ Some r → first_size kind body ≡ n
    → second_size kind body ≡ m → is_short kind n m ≡ true
    → members_size kind + first_width kind + n + second_width kind + m ≡ length body
    → found_by kind body ≡ Some (found_as kind r n m)
found_with kind body r n m a b c d e = grind (arith, a, b, c, d, e)

module _ (r : Record) (first second : List ℕ) where
  abbrev kind : ℕ
  kind = kind_of r

  abbrev one : List ℕ
  one = sized (first_width kind) first

  abbrev two_ : List ℕ
  two_ = sized (second_width kind) second

  abbrev body : List ℕ
  body = members r ++ (one ++ two_)

  behind : (members_size kind + first_width kind + length first) ≡ length (members r ++ one)
  behind = omega (arith, length-append (members r) one, size_there r, sized-size (first_width kind) first)

  first_there : length first < 256 ^ first_width kind → first_size kind body ≡ length first
  first_there h =
      ap (λ (l : List ℕ). big_number (first_width kind) l) (drop_at (members r) (one ++ two_) (members_size kind) (size_there r))
      ∙ group_size (first_width kind) first two_ h

  second_there : length first < 256 ^ first_width kind → length second < 256 ^ second_width kind → second_size kind body ≡ length second
  second_there h k =
      ap (λ (n : ℕ). big_number (second_width kind) (drop (members_size kind + first_width kind + n) body)) (first_there h)
      ∙ ap (λ (l : List ℕ). big_number (second_width kind) (drop (members_size kind + first_width kind + length first) l))
      (sym (append_assoc (members r) one two_))
      ∙ ap (λ (l : List ℕ). big_number (second_width kind) l)
      (drop_at (members r ++ one) two_ (members_size kind + first_width kind + length first) (sym behind))
      ∙ (ap (λ (l : List ℕ). big_number (second_width kind) l) (sym (append-nil two_)) ∙ group_size (second_width kind) second [] k)

  whole_there : members_size kind + first_width kind + length first + second_width kind + length second ≡ length body
  whole_there =
      omega (
        arith,
        length-append (members r) (one ++ two_),
        length-append one two_,
        size_there r,
        sized-size (first_width kind) first,
        sized-size (second_width kind) second,
      )

  found_there : Fits r → is_short kind (length first) (length second) ≡ true
      → found_in body ≡ Some (found_as kind r (length first) (length second))
  unfolding found_in
  found_there fits short =
      let a : length first < 256 ^ first_width kind =
      few (first_width kind) (length first) (first_is_narrow kind) (grind (arith, short)) in
      let b : length second < 256 ^ second_width kind =
      few (second_width kind) (length second) (second_is_narrow kind) (grind (arith, short)) in
      ap (λ (k : ℕ). found_by k body) (kind_there r (one ++ two_))
      ∙ found_with kind body r (length first) (length second) (record_back r (one ++ two_) fits) (first_there a) (second_there a b) short whole_there

  pub found_back : Fits r → is_short kind (length first) (length second) ≡ true
      → found_in (body_of r first second) ≡ Some (found_as kind r (length first) (length second))
  unfolding body_of
  found_back fits short = ap found_in (append_assoc (members r) one two_) ∙ found_there fits short

-- The records of a file are read back, and those of a file whose end was torn are its first ones.

-- ---- one frame

whole_by : (crc size : ℕ) (octets : List ℕ) → are_zeros octets ≡ false → size + 6 ≤ length octets → size_in octets ≡ size → 1 ≤ size
    → big_number 4 (drop (size + 2) octets) ≡ crc_after crc (take (size + 2) octets) → frame_at crc octets ≡ frames.Whole size
unfolding frame_at
whole_by crc size octets nonzero long is some right = grind arith

torn_by : (crc : ℕ) (octets : List ℕ) → length octets < size_in octets + 6 → frame_at crc octets ≡ frames.Torn
unfolding frame_at
torn_by crc octets short = grind arith

not_both_zero : (n : ℕ) → 1 ≤ n → n < 2 ^ 16 → n / 256 % 256 ≡ 0 → n % 256 ≡ 0 → ⊥
not_both_zero n some small a b = omega arith

nonzero : (n : ℕ) (rest : List ℕ) → 1 ≤ n → n < 2 ^ 16 → are_zeros (big_bytes 2 n ++ rest) ≡ false
nonzero n rest some small = grind (arith, not_both_zero n some small)

size_is : (n : ℕ) (rest : List ℕ) → n < 2 ^ 16 → size_in (big_bytes 2 n ++ rest) ≡ n
size_is n rest small = big_number-reads_back 2 n rest (omega (arith, small))

module _ (crc : ℕ) (body rest : List ℕ) where
  abbrev check : List ℕ
  check = big_bytes 4 (crc_after crc (counted body))

  abbrev octets : List ℕ
  octets = framed crc body ++ rest

  counted-size : length (counted body) ≡ length body + 2
  counted-size = omega (arith, length-append (big_bytes 2 (length body)) body, length-bytes_high_first 2 (length body))

  pub framed-size : length (framed crc body) ≡ length body + 6
  framed-size =
      omega (arith, length-append (counted body) check, counted-size, length-bytes_high_first 4 (crc_after crc (counted body)))

  split : octets ≡ counted body ++ (check ++ rest)
  split = append_assoc (counted body) check rest

  spelled : octets ≡ big_bytes 2 (length body) ++ (body ++ (check ++ rest))
  spelled = split ∙ append_assoc (big_bytes 2 (length body)) body (check ++ rest)

  right : big_number 4 (drop (length body + 2) octets) ≡ crc_after crc (take (length body + 2) octets)
  right =
      ap (λ (l : List ℕ). big_number 4 (drop (length body + 2) l)) split
      ∙ ap (λ (l : List ℕ). big_number 4 l) (drop_at (counted body) (check ++ rest) (length body + 2) counted-size)
      ∙ big_number-reads_back 4 (crc_after crc (counted body)) rest (omega arith)
      ∙ sym (ap (λ (l : List ℕ). crc_after crc (take (length body + 2) l)) split
      ∙ ap (crc_after crc) (take_at (counted body) (check ++ rest) (length body + 2) counted-size))

  pub whole : 1 ≤ length body → length body < 2 ^ 16 → frame_at crc octets ≡ frames.Whole (length body)
  whole some small =
      whole_by crc (length body) octets
      (ap are_zeros spelled ∙ nonzero (length body) (body ++ (check ++ rest)) some small)
      (omega (arith, length-append (framed crc body) rest, framed-size))
      (ap size_in spelled ∙ size_is (length body) (body ++ (check ++ rest)) small)
      some right

  pub body_there : take (length body) (drop 2 octets) ≡ body
  body_there =
      ap (λ (l : List ℕ). take (length body) (drop 2 l)) spelled ∙ take_at body (check ++ rest) (length body) refl

  pub rest_there : drop (length body + 6) octets ≡ rest
  rest_there = drop_at (framed crc body) rest (length body + 6) framed-size

  -- so many octets of it at most are there
  pub torn : (n : ℕ) → n < length body + 6 → length body < 2 ^ 16 → frame_at crc (take n octets) ≡ frames.Torn
  torn zero less small = torn_by crc [] (omega arith)
  torn (suc zero) less small = torn_by crc (take 1 octets) (omega (arith, length-take-le 1 octets one))
    where
      one : 1 ≤ length octets
      one = omega (arith, length-append (framed crc body) rest, framed-size)
  torn (suc (suc m)) less small =
      torn_by crc (take (suc (suc m)) octets)
      (omega (arith, less, length-take-le (suc (suc m)) octets enough, size))
    where
      enough : suc (suc m) ≤ length octets
      enough = omega (arith, less, length-append (framed crc body) rest, framed-size)

      size : size_in (take (suc (suc m)) octets) ≡ length body
      size =
          ap (λ (l : List ℕ). size_in (take (suc (suc m)) l)) spelled
          ∙ size_is (length body) (take m (body ++ (check ++ rest))) small

-- ---- all of a file

torn_empty : (crc : ℕ) → frame_at crc [] ≡ frames.Torn
unfolding frame_at
torn_empty crc = refl

read_back : (crc : ℕ) (bodies : List (List ℕ)) → AreBodies bodies → AreReadFrom crc (octets_of crc bodies) bodies
read_back crc [] h = torn_empty crc
read_back crc (body ∷ bodies) h =
    let after : ℕ = crc_after crc (counted body) in
    let rest : List ℕ = octets_of after bodies in (
      whole crc body rest h.0 h.1,
      body_there crc body rest,
      subst (λ (l : List ℕ). AreReadFrom after l bodies) (sym (rest_there crc body rest)) (read_back after bodies h.2),
    )

torn_is_not_whole : (frame : Frame) (size : ℕ) → frame ≡ frames.Torn → frame ≡ frames.Whole size → ⊥
torn_is_not_whole frame size a b = cc

same_size : (size other : ℕ) → frames.Whole size ≡ frames.Whole other → size ≡ other
same_size size other e = cc

abbrev nothing : List ℕ
nothing = []

take_none : (n : ℕ) → take n nothing ≡ nothing
take_none zero = refl
take_none (suc n) = refl

-- the records after the first one
abbrev later : ℕ → List ℕ → List (List ℕ) → List ℕ
later crc body bodies = octets_of (crc_after crc (counted body)) bodies

-- if the first record is there, it is the one that is read
first_is : (crc : ℕ) (body one rest : List ℕ) (found : List (List ℕ)) (n k : ℕ) → n ≡ length body + 6 + k → 1 ≤ length body
    → length body < 2 ^ 16 → AreReadFrom crc (take n (framed crc body ++ rest)) (one ∷ found)
    → (one ≡ body) × AreReadFrom (crc_after crc (counted body)) (take k rest) found
first_is crc body one rest found n k at some small read = same (subst (λ (l : List ℕ). AreReadFrom crc l (one ∷ found)) taken read)
  where
    taken : take n (framed crc body ++ rest) ≡ framed crc body ++ take k rest
    taken =
        ap (λ (m : ℕ). take m (framed crc body ++ rest)) (at ∙ ap (λ (m : ℕ). m + k) (sym (framed-size crc body rest)))
        ∙ take-append-add (framed crc body) rest k

    same : AreReadFrom crc (framed crc body ++ take k rest) (one ∷ found)
        → (one ≡ body) × AreReadFrom (crc_after crc (counted body)) (take k rest) found
    same r =
        let size : length one ≡ length body = same_size (length one) (length body) (sym r.0 ∙ whole crc body (take k rest) some small) in
        let is : one ≡ body =
        sym r.1 ∙ (ap (λ (m : ℕ). take m (drop 2 (framed crc body ++ take k rest))) size ∙ body_there crc body (take k rest)) in
        let left : drop (length one + 6) (framed crc body ++ take k rest) ≡ take k rest =
        ap (λ (m : ℕ). drop (m + 6) (framed crc body ++ take k rest)) size ∙ rest_there crc body (take k rest) in
        let crcs : crc_after crc (counted one) ≡ crc_after crc (counted body) = ap (λ (l : List ℕ). crc_after crc (counted l)) is in (
          is,
          subst (λ (c : ℕ). AreReadFrom c (take k rest) found) crcs
              (subst (λ (l : List ℕ). AreReadFrom (crc_after crc (counted one)) l found) left r.2),
        )

beginning : (bodies found : List (List ℕ)) (n crc : ℕ) → AreBodies bodies → AreReadFrom crc (take n (octets_of crc bodies)) found
    → IsBeginning found bodies
beginning bodies [] n crc h read = tt
beginning [] (one ∷ found) n crc h read =
    absurd (torn_is_not_whole _ (length one) (ap (frame_at crc) (take_none n) ∙ torn_empty crc) read.0)
beginning (body ∷ bodies) (one ∷ found) n crc h read = elim (leb_tells (length body + 6) n) [
  | inl x ↦
      let k : ℕ = n - (length body + 6) in
      let first : (one ≡ body) × AreReadFrom (crc_after crc (counted body)) (take k (later crc body bodies)) found =
      first_is crc body one (later crc body bodies) found n k (omega (arith, x.1)) h.0 h.1 read in
      (first.0, beginning bodies found k (crc_after crc (counted body)) h.2 first.1)
  | inr x ↦ absurd (torn_is_not_whole _ (length one) (torn crc body (later crc body bodies) n (omega (arith, x.1)) h.1) read.0)
]

pub returns-clause-entry : goal.returns-clause-entry
returns-clause-entry c = found_back

pub returns-clause-whole : goal.returns-clause-whole
returns-clause-whole c = read_back 0

pub returns-clause-torn : goal.returns-clause-torn
returns-clause-torn c = λ bodies found n. beginning bodies found n 0
