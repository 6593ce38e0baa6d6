-- What is found with one answer more.
use Rattle.std.proofs.Common.{◌≡◌, ℕ, ◌+◌, ◌≤◌, ◌==◌, Bool, true, false, not, ◌&&◌, ◌||◌, cond, List, [], ◌∷◌, ◌++◌, All, Option, Some, None, is_some, option_map, refl, sym, ap, ◌∙◌, subst, append-nil, arith}
use Rattle.std.specs.List.{count_by, find, list_any}
use Rattle.std.specs.Option.{option_to_list}
use Rattle.std.proofs.lemmas.Bool.{and_parts, eqb-true}
use Rattle.std.proofs.lemmas.List.Elements.{All-push}
use Rattle.std.proofs.lemmas.List.Folds.{list_any-append}
use Rattle.std.proofs.lemmas.List.Sorted.{All-permutation, sum_by-IsPermutation}
use Rattle.std.proofs.lemmas.List.Sums.{sum_by-append}
use Rattle.std.specs.List.Sorted.{IsPermutation}
use Rattle.ptpm_codec.specs.Identity.{same_clock}
use Rattle.ptpm_codec.specs.declared.identity.ClockIdentity.{ClockIdentity}
use Rattle.ptpm_codec.proofs.MessageLaws.{same_clock-true}
use Rattle.ptpm_plan.specs.Answers.{is_answer_of}
use Rattle.ptpm_plan.specs.Surveyed.{clock_in, is_clock, is_port, port_in}
use Rattle.ptpm_plan.specs.Surveying.{IsClockOf, IsPortOf, IsSurvey, clock_from, is_port_answer, once_if, port_from, port_of, port_with, with_clock, field_by}
use Rattle.ptpm_plan.specs.declared.answer.Answer.{Answer}
use Rattle.ptpm_plan.specs.declared.surveyed.Surveyed.{Surveyed}
use Rattle.ptpm_plan.specs.declared.surveyed.SurveyedClock.{SurveyedClock}
use Rattle.ptpm_plan.specs.declared.surveyed.SurveyedPort.{SurveyedPort}

-- ---- how many there are

none_step : {X : Type 0} (b : Bool) (x : X) (o : Option X) (n m : ℕ) → m ≡ (0 + cond b 1 0) + n
    → (is_some o ≡ false → n ≡ 0) → is_some (cond b (Some x) o) ≡ false → m ≡ 0
none_step true x o n m e rest h = cc
none_step false x o n m e rest h = omega (arith, e, rest h)

none_counted : {X : Type 0} (p : X → Bool) (xs : List X) → is_some (find p xs) ≡ false → count_by p xs ≡ 0
none_counted p [] h = refl
none_counted p (x ∷ xs) h =
    none_step (p x) x (find p xs) (count_by p xs) (count_by p (x ∷ xs)) (sum_by-append (λ y. cond (p y) 1 0) (x ∷ []) xs) (none_counted p xs) h

some_step : {X : Type 0} (b : Bool) (x : X) (o : Option X) (n m : ℕ) → m ≡ (0 + cond b 1 0) + n
    → (is_some o ≡ true → 1 ≤ n) → is_some (cond b (Some x) o) ≡ true → 1 ≤ m
some_step true x o n m e rest h = omega (arith, e)
some_step false x o n m e rest h = omega (arith, e, rest h)

some_counted : {X : Type 0} (p : X → Bool) (xs : List X) → is_some (find p xs) ≡ true → 1 ≤ count_by p xs
some_counted p [] h = cc
some_counted p (x ∷ xs) h =
    some_step (p x) x (find p xs) (count_by p xs) (count_by p (x ∷ xs)) (sum_by-append (λ y. cond (p y) 1 0) (x ∷ []) xs) (some_counted p xs) h

bit : (b : Bool) → 0 + cond b 1 0 ≡ once_if b
bit true = refl
bit false = refl

count_push : {X : Type 0} (p : X → Bool) (xs : List X) (x : X) → count_by p (xs ++ x ∷ []) ≡ count_by p xs + once_if (p x)
count_push p xs x = sum_by-append (λ y. cond (p y) 1 0) xs (x ∷ []) ∙ ap (λ n. count_by p xs + n) (bit (p x))

-- f: one more answer counts; s: one was seen before; g: those that count are there at all
one_more : (n m : ℕ) (g there f s : Bool) → n ≡ once_if (g && s)
    → (there ≡ true → f ≡ true → 1 ≤ n) → (there ≡ false → f ≡ true → n ≡ 0)
    → m ≡ n + once_if (f && (not there && g))
    → m ≡ once_if (g && (s || (f || false)))
one_more n m false there false s e some none more = omega (arith, e, more)
one_more n m false true true s e some none more = omega (arith, e, more)
one_more n m false false true s e some none more = omega (arith, e, more)
one_more n m true true true true e some none more = omega (arith, e, more)
one_more n m true true true false e some none more = absurd (omega (arith, some refl refl, e))
one_more n m true there false true e some none more = omega (arith, e, more)
one_more n m true there false false e some none more = omega (arith, e, more)
one_more n m true false true true e some none more = absurd (omega (arith, none refl refl, e))
one_more n m true false true false e some none more = omega (arith, e, more)

none_more : {X : Type 0} (q : X → Bool) (xs : List X) → count_by q (xs ++ []) ≡ count_by q xs + 0
none_more q xs = omega (arith, ap (count_by q) (append-nil xs))

-- ---- the clocks

-- these clocks are of those answers that are seen
pub record HasClocks (answers seen : List Answer) (clocks : List SurveyedClock) : Type 0 where
  pub are : All (IsClockOf answers) clocks
  pub once : (domain : ℕ) (clock : ClockIdentity)
      → count_by (is_clock domain clock) clocks ≡ once_if (list_any (is_answer_of domain clock) seen)

-- what holds of an answer's clock holds of each that it is an answer of
same_key : (P : ℕ → ClockIdentity → Type 0) (d e : ℕ) (c k : ClockIdentity) → ((d == e) && same_clock c k) ≡ true → P d c → P e k
same_key P d e c k h p =
    let (domain, clock) = and_parts (d == e) (same_clock c k) h in
    subst (λ x. P x k) (eqb-true d e domain) (subst (λ x. P d x) (same_clock-true c k clock) p)

clock_count : {X : Type 0} (q : X → Bool) (xs : List X) (x : X) (there f : Bool) → q x ≡ f
    → count_by q (cond there xs (xs ++ x ∷ [])) ≡ count_by q xs + once_if (f && (not there && true))
clock_count q xs x true true e = omega arith
clock_count q xs x true false e = omega arith
clock_count q xs x false true e = count_push q xs x ∙ ap (λ b. count_by q xs + once_if b) e
clock_count q xs x false false e = count_push q xs x ∙ ap (λ b. count_by q xs + once_if b) e

more_are : (answers : List Answer) (clocks : List SurveyedClock) (d : ℕ) (c : ClockIdentity) (there : Bool)
    → All (IsClockOf answers) clocks → All (IsClockOf answers) (cond there clocks (clocks ++ clock_from answers d c ∷ []))
more_are answers clocks d c true are = are
more_are answers clocks d c false are = All-push (IsClockOf answers) clocks (clock_from answers d c) are refl

pub clock_more : (answers seen : List Answer) (clocks : List SurveyedClock) (a : Answer) → HasClocks answers seen clocks
    → HasClocks answers (seen ++ a ∷ []) (with_clock answers clocks a.domain a.source.clock)
clock_more answers seen clocks a was =
    let there : Bool = is_some (clock_in a.domain a.source.clock clocks) in
    let here : SurveyedClock → Bool = is_clock a.domain a.source.clock in
    record {
      are = more_are answers clocks a.domain a.source.clock there was.are;
      once = λ d c.
          one_more (count_by (is_clock d c) clocks) (count_by (is_clock d c) (with_clock answers clocks a.domain a.source.clock))
          true there (is_answer_of d c a) (list_any (is_answer_of d c) seen) (was.once d c)
          (λ yes key. same_key (λ e k. 1 ≤ count_by (is_clock e k) clocks) a.domain d a.source.clock c key (some_counted here clocks yes))
          (λ no key. same_key (λ e k. count_by (is_clock e k) clocks ≡ 0) a.domain d a.source.clock c key (none_counted here clocks no))
          (clock_count (is_clock d c) clocks (clock_from answers a.domain a.source.clock) there (is_answer_of d c a) refl)
          ∙ ap once_if (sym (list_any-append (is_answer_of d c) seen (a ∷ [])));
    }

-- ---- the ports

-- these ports are of those answers that are seen
pub record HasPorts (answers seen : List Answer) (ports : List SurveyedPort) : Type 0 where
  pub are : All (IsPortOf answers) ports
  pub once : (domain : ℕ) (clock : ClockIdentity) (number : ℕ)
      → count_by (is_port domain clock number) ports
      ≡ once_if (is_some (port_from answers domain clock number) && list_any (is_port_answer domain clock number) seen)

same_port : (P : ℕ → ClockIdentity → ℕ → Type 0) (d e : ℕ) (c k : ClockIdentity) (m n : ℕ)
    → ((d == e) && (same_clock c k && (m == n))) ≡ true → P d c m → P e k n
same_port P d e c k m n h p =
    let (domain, rest) = and_parts (d == e) (same_clock c k && (m == n)) h in
    let (clock, number) = and_parts (same_clock c k) (m == n) rest in
    subst (λ x. P e k x) (eqb-true m n number)
    (subst (λ x. P x k m) (eqb-true d e domain) (subst (λ x. P d x m) (same_clock-true c k clock) p))

port_count : {X Y : Type 0} (q : X → Bool) (xs : List X) (made : Y → X) (there key g id : Bool) (o : Option Y)
    → ((y : Y) → q (made y) ≡ key)
    → (key ≡ true → is_some (option_map made o) ≡ g)
    → count_by q (xs ++ option_to_list (cond (id && not there) (option_map made o) None))
    ≡ count_by q xs + once_if ((id && key) && (not there && g))
port_count q xs made there key g false o is same = none_more q xs
port_count q xs made true true g true o is same = none_more q xs
port_count q xs made true false g true o is same = none_more q xs
port_count q xs made false true g true None is same = none_more q xs ∙ ap (λ b. count_by q xs + once_if b) (same refl)
port_count q xs made false false g true None is same = none_more q xs
port_count q xs made false true g true (Some y) is same =
    count_push q xs (made y) ∙ ap (λ b. count_by q xs + once_if b) (is y ∙ same refl)
port_count q xs made false false g true (Some y) is same = count_push q xs (made y) ∙ ap (λ b. count_by q xs + once_if b) (is y)

ports_are : (answers : List Answer) (ports : List SurveyedPort) (d : ℕ) (c : ClockIdentity) (n : ℕ) (o : Option (List ℕ)) (new : Bool)
    → o ≡ field_by d c n 0x2004 answers
    → All (IsPortOf answers) ports
    → All (IsPortOf answers) (ports ++ option_to_list (cond new (option_map (port_with d c n) o) None))
ports_are answers ports d c n o false is are = subst (All (IsPortOf answers)) (sym (append-nil ports)) are
ports_are answers ports d c n None true is are = subst (All (IsPortOf answers)) (sym (append-nil ports)) are
ports_are answers ports d c n (Some field) true is are =
    All-push (IsPortOf answers) ports (port_with d c n field) are (ap (option_map (port_with d c n)) is)

pub port_more : (answers seen : List Answer) (ports : List SurveyedPort) (a : Answer) → HasPorts answers seen ports
    → HasPorts answers (seen ++ a ∷ []) (ports ++ option_to_list (port_of answers ports a))
port_more answers seen ports a was =
    let there : Bool = is_some (port_in a.domain a.source.clock a.source.port ports) in
    let here : SurveyedPort → Bool = is_port a.domain a.source.clock a.source.port in
    let field : Option (List ℕ) = field_by a.domain a.source.clock a.source.port 0x2004 answers in
    record {
      are = ports_are answers ports a.domain a.source.clock a.source.port field ((a.id == 0x2004) && not there) refl was.are;
      once = λ d c n.
          let key : Bool = (a.domain == d) && (same_clock a.source.clock c && (a.source.port == n)) in
          one_more (count_by (is_port d c n) ports) (count_by (is_port d c n) (ports ++ option_to_list (port_of answers ports a)))
          (is_some (port_from answers d c n)) there (is_port_answer d c n a) (list_any (is_port_answer d c n) seen) (was.once d c n)
          (λ yes is. same_port (λ e k m. 1 ≤ count_by (is_port e k m) ports) a.domain d a.source.clock c a.source.port n
          (and_parts (a.id == 0x2004) key is).1 (some_counted here ports yes))
          (λ no is. same_port (λ e k m. count_by (is_port e k m) ports ≡ 0) a.domain d a.source.clock c a.source.port n
          (and_parts (a.id == 0x2004) key is).1 (none_counted here ports no))
          (port_count (is_port d c n) ports (port_with a.domain a.source.clock a.source.port) there key
          (is_some (port_from answers d c n)) (a.id == 0x2004) field (λ y. refl)
          (λ is. same_port (λ e k m. is_some (port_from answers a.domain a.source.clock a.source.port) ≡ is_some (port_from answers e k m))
          a.domain d a.source.clock c a.source.port n is refl))
          ∙ ap (λ b. once_if (is_some (port_from answers d c n) && b)) (sym (list_any-append (is_port_answer d c n) seen (a ∷ [])));
    }

-- ---- in another order

pub sorted_survey : (answers : List Answer) (s t : Surveyed) → IsSurvey answers s
    → IsPermutation s.clocks.items t.clocks.items → IsPermutation s.ports.items t.ports.items → IsSurvey answers t
sorted_survey answers s t h clocks ports = record {
  clocks = All-permutation (IsClockOf answers) s.clocks.items t.clocks.items clocks h.clocks;
  ports = All-permutation (IsPortOf answers) s.ports.items t.ports.items ports h.ports;
  each_clock = λ d k. sum_by-IsPermutation (λ c. cond (is_clock d k c) 1 0) s.clocks.items t.clocks.items clocks ∙ h.each_clock d k;
  each_port = λ d k n. sum_by-IsPermutation (λ p. cond (is_port d k n p) 1 0) s.ports.items t.ports.items ports ∙ h.each_port d k n;
}
