-- What a writer took of a text that is written piece by piece, and of lines that are written one after another.
use Rattle.ptpm_world.proofs.Common.{◌≡◌, ℕ, ◌-◌, ◌++◌, List, [], true, length, take, drop, Option, None, Some, Result, Ok, Err, refl, sym, ap, ◌∙◌, append_assoc, append-nil, IsErrAnd, take-append-drop, Appends, Appends-nil, Appends-trans, Keeps, TakesFirst, Writes, is_of_writing, zero, suc, ◌+◌, ◌<◌, ◌≤◌, ◌∷◌, get_or, subst, add-one, arith, map, flat_map, slice_get, enumerate_from, range_with_len, flat_map_more, take_more, RunningClock, RunningSession, World, names_in, reports_of, running, state_of, clock_lines, data_lines, report_lines, session_lines}
use Rattle.std.proofs.lemmas.List.{take_rest}
use Rattle.ptpm_world.specs.declared.script_error.ScriptError.{ScriptError}
use Rattle.std.proofs.lemmas.List.Concat.{flat_map-append}
use Rattle.ptpm_agent.proofs.Egress.{range_with_len-suc}

-- ---- what a writer took of a text that is written piece by piece

-- what was written stays
pub kept-appended : (a b c : Option (List ℕ)) (bs : List ℕ)
    → Appends a b bs
    → Keeps b c
    → Appends a c bs
kept-appended None b c bs p k = tt
kept-appended (Some x) None c bs p k = absurd p
kept-appended (Some x) (Some y) None bs p k = absurd k
kept-appended (Some x) (Some y) (Some z) bs p k = k ∙ p

-- ---- a beginning of a text

pub takes-none : (a : Option (List ℕ)) (whole : List ℕ) → TakesFirst whole a a
takes-none a whole = record { text = []; rest = whole; is = refl; taken = Appends-nil a }

pub takes-whole : (a b : Option (List ℕ)) (whole : List ℕ)
    → Appends a b whole
    → TakesFirst whole a b
takes-whole a b whole p = record { text = whole; rest = []; is = append-nil whole; taken = p }

-- more of the text follows
pub takes-front : {a b : Option (List ℕ)} {front : List ℕ} (rest : List ℕ)
    → TakesFirst front a b
    → TakesFirst (front ++ rest) a b
takes-front rest h = record {
  text = h.text;
  rest = h.rest ++ rest;
  is = sym (append_assoc h.text h.rest rest) ∙ ap (λ l. l ++ rest) h.is;
  taken = h.taken;
}

-- what comes before it was taken
pub takes-after : (a : Option (List ℕ)) {b c : Option (List ℕ)} (front : List ℕ) {rest : List ℕ}
    → Appends a b front
    → TakesFirst rest b c
    → TakesFirst (front ++ rest) a c
takes-after a {b} {c} front p h = record {
  text = front ++ h.text;
  rest = h.rest;
  is = append_assoc front h.text h.rest ∙ ap (λ l. front ++ l) h.is;
  taken = Appends-trans a b c front h.text p h.taken;
}

-- what was taken stays
pub takes-kept : {a b : Option (List ℕ)} (c : Option (List ℕ)) {whole : List ℕ}
    → TakesFirst whole a b
    → Keeps b c
    → TakesFirst whole a c
takes-kept {a} {b} c h k = record { text = h.text; rest = h.rest; is = h.is; taken = kept-appended a b c h.text h.taken k }

-- ---- a call that writes a text

-- an error that `?` hands on
pub writes-err : {A : Type 0} (r : Result A ScriptError) (e : ScriptError) {a b : Option (List ℕ)} {whole : List ℕ}
    → IsErrAnd r (λ x. x ≡ e)
    → is_of_writing e ≡ true
    → TakesFirst whole a b
    → Writes whole a b r
writes-err (Ok done) e given writing h = absurd given
writes-err (Err x) e given writing h = (ap is_of_writing given ∙ writing, h)

-- after a piece that was taken whole
pub writes-after : {A : Type 0} (r : Result A ScriptError) (a b c : Option (List ℕ)) (front rest : List ℕ)
    → Appends a b front
    → Writes rest b c r
    → Writes (front ++ rest) a c r
writes-after (Ok done) a b c front rest p h = Appends-trans a b c front rest p h
writes-after (Err e) a b c front rest p h = (h.0, takes-after a front p h.1)

-- ---- octets of which these are left

abbrev pub Left : List ℕ → List ℕ → Option (List ℕ) → Option (List ℕ) → Type 0
Left all rest a b = (done : List ℕ) × ((done ++ rest ≡ all) × Appends a b done)

front_gone : (rest : List ℕ) (n : ℕ) → take n rest ++ take (length rest - n) (drop n rest) ≡ rest
front_gone rest n = ap (λ l. take n rest ++ l) (take_rest rest n) ∙ take-append-drop n rest

pub left-more : (a b c : Option (List ℕ)) (all rest next : List ℕ) (n : ℕ)
    → Left all rest a b
    → Appends b c (take n rest)
    → next ≡ take (length rest - n) (drop n rest)
    → Left all next a c
left-more a b c all rest next n h p e =
    let one = take n rest in (
      h.0 ++ one,
      (
        append_assoc h.0 one next ∙ ap (λ l. h.0 ++ l) (ap (λ l. one ++ l) e ∙ front_gone rest n) ∙ h.1.0,
        Appends-trans a b c h.0 one h.1.1 p,
      ),
    )

pub left-kept : (a b c : Option (List ℕ)) (all rest next : List ℕ)
    → Left all rest a b
    → Keeps b c
    → next ≡ rest
    → Left all next a c
left-kept a b c all rest next h k e = (h.0, (ap (λ l. h.0 ++ l) e ∙ h.1.0, kept-appended a b c h.0 h.1.1 k))

-- ---- lines that are written one after another

-- ---- one piece more, or a beginning of it

pub written-more : {X : Type 0} (a b c : Option (List ℕ)) (f : X → List ℕ) (xs : List X) (i : ℕ)
    (x : X)
    → i < length xs
    → x ≡ get_or xs i x
    → Appends a b (flat_map f (take i xs))
    → Appends b c (f x)
    → Appends a c (flat_map f (take (i + 1) xs))
written-more a b c f xs i x h e p q = grind (arith, Appends-trans, flat_map_more, take_more)

one_more : {X : Type 0} (f : X → List ℕ) (xs : List X) (i : ℕ) (x : X)
    → i < length xs
    → x ≡ get_or xs i x
    → flat_map f (take (i + 1) xs) ≡ flat_map f (take i xs) ++ f x
one_more f xs i x h e =
    ap (flat_map f) (take_more xs i x h ∙ ap (λ y. take i xs ++ y ∷ []) (sym e)) ∙ flat_map-append f (take i xs) (x ∷ [])
    ∙ ap (λ l. flat_map f (take i xs) ++ l) (append-nil (f x))

pub written-cut : {X : Type 0} (a b c : Option (List ℕ)) (f : X → List ℕ) (xs : List X) (i : ℕ)
    (x : X)
    → i < length xs
    → x ≡ get_or xs i x
    → Appends a b (flat_map f (take i xs))
    → TakesFirst (f x) b c
    → TakesFirst (flat_map f xs) a c
written-cut a b c f xs i x h e p q =
    let done = flat_map f (take i xs) in
    let rest = flat_map f (drop (i + 1) xs) in
    let split : (done ++ f x) ++ rest ≡ flat_map f xs =
    ap (λ l. l ++ rest) (sym (one_more f xs i x h e))
    ∙ sym (flat_map-append f (take (i + 1) xs) (drop (i + 1) xs)) ∙ ap (flat_map f) (take-append-drop (i + 1) xs) in
    subst (λ l. TakesFirst l a c) split (takes-front rest (takes-after a done p q))

range-more : (a n : ℕ) → range_with_len a (n + 1) ≡ range_with_len a n ++ (a + n) ∷ []
range-more a n = ap (range_with_len a) (add-one n) ∙ range_with_len-suc a n

pub ports-more : (a b c : Option (List ℕ)) (f : ℕ → List ℕ) (port : ℕ)
    → 1 ≤ port
    → Appends a b (flat_map f (range_with_len 1 (port - 1)))
    → Appends b c (f port) → Appends a c (flat_map f (range_with_len 1 (port + 1 - 1)))
ports-more a b c f port h p q = grind (arith, range-more, flat_map_more, flat_map, Appends-trans)

one_port : (f : ℕ → List ℕ) (k : ℕ)
    → flat_map f (range_with_len 1 (k + 1)) ≡ flat_map f (range_with_len 1 k) ++ f (1 + k)
one_port f k =
    ap (flat_map f) (range-more 1 k) ∙ flat_map-append f (range_with_len 1 k) ((1 + k) ∷ [])
    ∙ ap (λ l. flat_map f (range_with_len 1 k) ++ l) (append-nil (f (1 + k)))

later_ports : (a c : Option (List ℕ)) (f : ℕ → List ℕ) (n k : ℕ)
    → TakesFirst (flat_map f (range_with_len 1 n)) a c
    → TakesFirst (flat_map f (range_with_len 1 (n + k))) a c
later_ports a c f n zero h = subst (λ m. TakesFirst (flat_map f (range_with_len 1 m)) a c) (omega arith) h
later_ports a c f n (suc k) h =
    let next : n + suc k ≡ (n + k) + 1 = omega arith in
    subst (λ l. TakesFirst l a c) (sym (ap (λ m. flat_map f (range_with_len 1 m)) next ∙ one_port f (n + k)))
    (takes-front (f (1 + (n + k))) (later_ports a c f n k h))

pub ports-cut : (a b c : Option (List ℕ)) (f : ℕ → List ℕ) (port n : ℕ)
    → 1 ≤ port
    → port ≤ n
    → Appends a b (flat_map f (range_with_len 1 (port - 1)))
    → TakesFirst (f port) b c
    → TakesFirst (flat_map f (range_with_len 1 n)) a c
ports-cut a b c f port n first last p q =
    let done = flat_map f (range_with_len 1 (port - 1)) in
    let same : 1 + (port - 1) ≡ port = omega arith in
    let counted : (port - 1) + 1 ≡ port = omega arith in
    let upto : done ++ f port ≡ flat_map f (range_with_len 1 port) =
    ap (λ k. done ++ f k) (sym same) ∙ sym (one_port f (port - 1)) ∙ ap (λ k. flat_map f (range_with_len 1 k)) counted in
    let all : port + (n - port) ≡ n = omega arith in
    subst (λ k. TakesFirst (flat_map f (range_with_len 1 k)) a c) all
    (later_ports a c f port (n - port) (subst (λ l. TakesFirst l a c) upto (takes-after a done p q)))

-- ---- by names and places

-- what is written of each element, by its place and its name
placed-pieces : {X V : Type 0} (line : List ℕ → V → List ℕ) (at : ℕ → V) (name : X → List ℕ)
    (value : X → V) (k : ℕ) (xs : List X)
    → ((i : ℕ) (x : X) → slice_get xs i ≡ Some x → at (k + i) ≡ value x)
    → flat_map (λ x. line (name x) (value x)) xs
    ≡ flat_map (λ p. line p.1 (at p.0)) (enumerate_from k (map name xs))
placed-pieces line at name value k [] h = refl
placed-pieces line at name value k (x ∷ xs) h =
    let first : at k ≡ value x = ap at (omega arith) ∙ h 0 x refl in
    let rest = placed-pieces line at name value (k + 1) xs (λ i y e. ap at (omega arith) ∙ h (suc i) y e) in
    (λ i. line (name x) ((sym first) i) ++ rest i)

pub reports-written : (w : World)
    → flat_map (λ s. session_lines s.name s.reports.items) w.sessions.items
    ≡ report_lines (names_in w) (running w)
reports-written w =
    placed-pieces session_lines (λ s. reports_of (slice_get w.sessions.items s)) (λ (s : RunningSession). s.name) (λ (s : RunningSession). s.reports.items) 0 w.sessions.items
    (λ i x e. grind (arith))

pub data-written : (w : World)
    → flat_map (λ c. clock_lines c.name c.agent.sets) w.clocks.items
    ≡ data_lines (names_in w) (running w)
data-written w =
    placed-pieces clock_lines (λ c. (state_of (slice_get w.clocks.items c)).sets) (λ (c : RunningClock). c.name) (λ (c : RunningClock). c.agent.sets) 0 w.clocks.items
    (λ i x e. grind (arith))
