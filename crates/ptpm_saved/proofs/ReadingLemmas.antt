-- The image of an entry, part by part.
use Rattle.std.proofs.Common.{◌≡◌, ◌+◌, ◌<◌, ℕ, Bool, arith, subst, sym, ◌∙◌, ap, refl, List, [], ◌∷◌, ◌++◌, length, append_assoc, append-nil, take, drop, true, false, All, length-append}
use Rattle.std.specs.List.{flat_map}
use Rattle.std.proofs.lemmas.List.{take-append-drop, take_all}
use Rattle.std.proofs.Math.Seq.{drop-append_seam, take-append_seam}
use Rattle.std.proofs.lemmas.List.Elements.{All-head, All-nil, All-push, All-tail, All-weaker}
use Rattle.byteorder.specs.Endian.{big_bytes}
use Rattle.ptpm_codec.specs.declared.identity.ClockIdentity.{ClockIdentity}
use Rattle.ptpm_codec.specs.declared.identity.PortIdentity.{PortIdentity}
use Rattle.ptpm_codec.specs.Canonical.{port_identity_octets}
use Rattle.ptpm_codec.specs.Layout.{clock_identity_at}
use Rattle.ptpm_codec.specs.Message.{IsDataField, IsRequestAction, PortIdentityFits, action_code}
use Rattle.ptpm_data.specs.Reply.{Answer, ReplyValue}
use Rattle.ptpm_data.specs.Request.{RequestValue}
use Rattle.ptpm_data.specs.ManagementId.{is_of_port}
use Rattle.ptpm_codec.specs.declared.message.Action.{Action}
use Rattle.ptpm_table.specs.Entries.{FitsAnswer, FitsCount, reply_with}
use Rattle.ptpm_manager.specs.Image.{request_image}
use Rattle.ptpm_table.specs.Lending.{AnswerFits, EntryFits, IsKeepable}
use Rattle.ptpm_saved.specs.Image.{answer_image, answers_image, entry_image, front_image, reply_image}
use Rattle.ptpm_saved.specs.EntryReading.{IsOfPort, IsSmall, RequestFits}
use Rattle.ptpm_saved.proofs.EntryOrder.{Pair}
use Rattle.ptpm_saved.proofs.ImageLemmas.{answer_small}
use Rattle.std.specs.Prelude.{is_some}
use Rattle.std.proofs.lemmas.Bool.{false≢true}

pub entry_parts : (e : Pair) (rest : List ℕ)
    → entry_image e ++ rest
    ≡ port_identity_octets e.0 ++ (big_bytes 2 e.1.number ++ (request_image e.1.request ++ (reply_image e.1.reply ++ rest)))
unfolding entry_image front_image
entry_parts e rest =
    let who = port_identity_octets e.0 in
    let number = big_bytes 2 e.1.number in
    let request = request_image e.1.request in
    let count : List ℕ = length e.1.reply.answers ∷ [] in
    let answers = answers_image e.1.reply.answers in
    append_assoc (((who ++ number) ++ request) ++ count) answers rest
    ∙ append_assoc ((who ++ number) ++ request) count (answers ++ rest)
    ∙ append_assoc (who ++ number) request (count ++ (answers ++ rest))
    ∙ append_assoc who number (request ++ (count ++ (answers ++ rest)))

pub answers-cons : (a : Answer) (xs : List Answer) (rest : List ℕ)
    → answers_image (a ∷ xs) ++ rest ≡ answer_image a ++ (answers_image xs ++ rest)
unfolding answers_image
answers-cons a xs rest = append_assoc (answer_image a) (flat_map answer_image xs) rest

answers-append : (xs ys : List Answer) → answers_image (xs ++ ys) ≡ answers_image xs ++ answers_image ys
unfolding answers_image
answers-append [] ys = refl
answers-append (x ∷ xs) ys = ap (λ s. answer_image x ++ s) (answers-append xs ys) ∙ sym (append_assoc (answer_image x) (flat_map answer_image xs) (flat_map answer_image ys))

pub answers-push : (xs : List Answer) (a : Answer) (rest : List ℕ)
    → answers_image (xs ++ a ∷ []) ++ rest ≡ answers_image xs ++ (answer_image a ++ rest)
unfolding answers_image
answers-push xs a rest =
    ap (λ s. s ++ rest) (answers-append xs (a ∷ []) ∙ ap (λ s. answers_image xs ++ s) (append-nil (answer_image a)))
    ∙ append_assoc (answers_image xs) (answer_image a) rest

pub answers-nil : (rest : List ℕ) → answers_image [] ++ rest ≡ rest
unfolding answers_image
answers-nil rest = refl

-- ---- identities

first_eight : (xs : List ℕ) → length xs ≡ 8 → (clock_identity_at 0 xs).0 ≡ xs
unfolding clock_identity_at
first_eight xs size = take_all 8 xs (omega (arith, size))

pub clock_found : (who : PortIdentity) (front : List ℕ) (clock : ClockIdentity)
    → front ≡ who.clock.0
    → length front ≡ 8
    → clock ≡ clock_identity_at 0 front
    → clock ≡ who.clock
clock_found who front clock is size read = read ∙ (λ i. record { 0 = (first_eight front size ∙ is) i })

pub identity_split : (who : PortIdentity) (rest octets : List ℕ)
    → PortIdentityFits who
    → octets ≡ port_identity_octets who ++ rest
    → (take 8 octets ≡ who.clock.0) × (drop 8 octets ≡ big_bytes 2 who.port ++ rest)
unfolding port_identity_octets
identity_split who rest octets fits is =
    let parts : octets ≡ who.clock.0 ++ (big_bytes 2 who.port ++ rest) = is ∙ append_assoc who.clock.0 (big_bytes 2 who.port) rest in (
      ap (take 8) parts ∙ ap (λ n. take n (who.clock.0 ++ (big_bytes 2 who.port ++ rest))) (sym fits.clock) ∙ take-append_seam who.clock.0 (big_bytes 2 who.port ++ rest),
      ap (drop 8) parts ∙ ap (λ n. drop n (who.clock.0 ++ (big_bytes 2 who.port ++ rest))) (sym fits.clock) ∙ drop-append_seam who.clock.0 (big_bytes 2 who.port ++ rest),
    )

pub identity_joined : (octets front back rest : List ℕ) (clock : ClockIdentity) (port : ℕ)
    → front ≡ take 8 octets
    → back ≡ drop 8 octets
    → length front ≡ 8
    → clock ≡ clock_identity_at 0 front
    → back ≡ big_bytes 2 port ++ rest
    → octets ≡ port_identity_octets (record { clock = clock; port = port }) ++ rest
unfolding port_identity_octets
identity_joined octets front back rest clock port fronts backs size read ports =
    sym (take-append-drop 8 octets)
    ∙ (λ i. sym fronts i ++ sym backs i)
    ∙ (λ i. (sym (first_eight front size) ∙ ap (λ (k : ClockIdentity). k.0) (sym read)) i ++ ports i)
    ∙ sym (append_assoc clock.0 (big_bytes 2 port) rest)

-- ---- answers, as they follow

middle : {A : Type 0} (P : A → Type 0) (xs : List A) (y : A) (ys : List A) → All P (xs ++ y ∷ ys) → P y
middle P [] y ys all = All-head P y ys all
middle P (x ∷ xs) y ys all = middle P xs y ys (All-tail P x (xs ++ y ∷ ys) all)

pub record NextAnswer (of_port : Bool) (done xs : List Answer) (octets rest : List ℕ) : Type 0 where
  pub answer : Answer
  pub others : List Answer
  pub xs_are : xs ≡ done ++ answer ∷ others
  pub octets_are : octets ≡ answer_image answer ++ (answers_image others ++ rest)
  pub of_port_is : IsOfPort of_port answer
  pub fits : AnswerFits answer
  pub small : IsSmall answer

pub next_answer : (of_port : Bool) (xs done ys : List Answer) (rest octets : List ℕ) (count place : ℕ)
    → length xs ≡ count
    → length done ≡ place
    → place < count
    → All (IsOfPort of_port) xs
    → All AnswerFits xs
    → All IsSmall xs
    → xs ≡ done ++ ys
    → octets ≡ answers_image ys ++ rest
    → NextAnswer of_port done xs octets rest
next_answer of_port xs done [] rest octets count place size so_far less ports fits small are octets_are =
    absurd (omega (arith, ap length are, length-append done [], size, so_far, less))
next_answer of_port xs done (a ∷ ys) rest octets count place size so_far less ports fits small are octets_are = record {
  answer = a;
  others = ys;
  xs_are = are;
  octets_are = octets_are ∙ answers-cons a ys rest;
  of_port_is = middle (IsOfPort of_port) done a ys (subst (All (IsOfPort of_port)) are ports);
  fits = middle AnswerFits done a ys (subst (All AnswerFits) are fits);
  small = middle IsSmall done a ys (subst (All IsSmall) are small);
}

-- ---- answers, so far

pub record AreRead (of_port : Bool) (count : ℕ) (octets : List ℕ) (answers : List Answer) (place : ℕ) (rest : List ℕ) : Type 0 where
  pub count_is : length answers ≡ place
  pub sound : octets ≡ answers_image answers ++ rest
  pub fits : All AnswerFits answers
  pub found : (xs : List Answer) (r : List ℕ) → length xs ≡ count → All (IsOfPort of_port) xs → All AnswerFits xs → All IsSmall xs
      → octets ≡ answers_image xs ++ r
      → (ys : List Answer) × (xs ≡ answers ++ ys) × (rest ≡ answers_image ys ++ r)

pub none_are_read : (of_port : Bool) (count : ℕ) (octets : List ℕ) (answers : List Answer)
    → answers ≡ []
    → AreRead of_port count octets answers 0 octets
none_are_read of_port count octets answers none =
    subst (λ (l : List Answer). AreRead of_port count octets l 0 octets) (sym none)
    (record {
      count_is = refl;
      sound = sym (answers-nil octets);
      fits = All-nil AnswerFits;
      found = λ xs r size ports fits small is. (xs, refl, is);
    })

next_of : (of_port : Bool) (count : ℕ) (octets : List ℕ) (answers : List Answer) (place : ℕ) (rest : List ℕ)
    → AreRead of_port count octets answers place rest
    → place < count
    → (xs : List Answer) (r : List ℕ) → length xs ≡ count → All (IsOfPort of_port) xs → All AnswerFits xs → All IsSmall xs
    → octets ≡ answers_image xs ++ r
    → NextAnswer of_port answers xs rest r
next_of of_port count octets answers place rest h less xs r size ports fits small is =
    let f = h.found xs r size ports fits small is in
    next_answer of_port xs answers f.0 r rest count place size h.count_is less ports fits small f.1 f.2

pub no_answer : (of_port : Bool) (count : ℕ) (octets : List ℕ) (answers : List Answer) (place : ℕ) (rest : List ℕ)
    → AreRead of_port count octets answers place rest
    → place < count
    → ((a : Answer) (r : List ℕ) → IsOfPort of_port a → AnswerFits a → IsSmall a → rest ≡ answer_image a ++ r → ⊥)
    → (xs : List Answer) (r : List ℕ) → length xs ≡ count → All (IsOfPort of_port) xs → All AnswerFits xs → All IsSmall xs
    → octets ≡ answers_image xs ++ r
    → ⊥
no_answer of_port count octets answers place rest h less none xs r size ports fits small is =
    let n = next_of of_port count octets answers place rest h less xs r size ports fits small is in
    none n.answer (answers_image n.others ++ r) n.of_port_is n.fits n.small n.octets_are

pub answer_read : (of_port : Bool) (count : ℕ) (octets : List ℕ) (answers answers' : List Answer) (place : ℕ) (rest next : List ℕ) (a : Answer)
    → AreRead of_port count octets answers place rest
    → place < count
    → rest ≡ answer_image a ++ next
    → AnswerFits a
    → ((b : Answer) (r : List ℕ) → IsOfPort of_port b → AnswerFits b → IsSmall b → rest ≡ answer_image b ++ r → (a ≡ b) × (next ≡ r))
    → answers' ≡ answers ++ a ∷ []
    → AreRead of_port count octets answers' (place + 1) next
answer_read of_port count octets answers answers' place rest next a h less is fit same more =
    subst (λ (l : List Answer). AreRead of_port count octets l (place + 1) next) (sym more)
    (record {
      count_is = omega (arith, length-append answers (a ∷ []), h.count_is);
      sound = h.sound ∙ ap (λ s. answers_image answers ++ s) is ∙ sym (answers-push answers a next);
      fits = All-push AnswerFits answers a h.fits fit;
      found = λ xs r size ports fits small all.
          let n = next_of of_port count octets answers place rest h less xs r size ports fits small all in
          let own = same n.answer (answers_image n.others ++ r) n.of_port_is n.fits n.small n.octets_are in (
            n.others,
            n.xs_are ∙ ap (λ (d : Answer). answers ++ d ∷ n.others) (sym own.0) ∙ sym (append_assoc answers (a ∷ []) n.others),
            own.1,
          );
    })

pub all_read : (of_port : Bool) (count : ℕ) (octets : List ℕ) (answers : List Answer) (place : ℕ) (rest : List ℕ)
    → AreRead of_port count octets answers place rest
    → place ≡ count
    → (xs : List Answer) (r : List ℕ) → length xs ≡ count → All (IsOfPort of_port) xs → All AnswerFits xs → All IsSmall xs
    → octets ≡ answers_image xs ++ r
    → (answers ≡ xs) × (rest ≡ r)
all_read of_port count octets answers place rest h all xs r size ports fits small is =
    let f = h.found xs r size ports fits small is in
    let none : f.0 ≡ [] = no_more f.0 (omega (arith, ap length f.1, length-append answers f.0, h.count_is, size, all)) in (
      sym (f.1 ∙ ap (λ l. answers ++ l) none ∙ append-nil answers),
      f.2 ∙ ap (λ l. answers_image l ++ r) none ∙ answers-nil r,
    )
  where
    no_more : (l : List Answer) → length l ≡ 0 → l ≡ []
    no_more [] e = refl
    no_more (x ∷ l) e = absurd (omega (arith, e))

-- ---- requests

pub same_tails : (x y : ℕ) (xs ys : List ℕ) → x ∷ xs ≡ y ∷ ys → xs ≡ ys
same_tails x y xs ys e = cc

pub same_heads : (x y : ℕ) (xs ys : List ℕ) → x ∷ xs ≡ y ∷ ys → x ≡ y
same_heads x y xs ys e = cc

pub request_parts : (q : RequestValue) (rest : List ℕ)
    → request_image q ++ rest
    ≡ action_code q.action ∷ (big_bytes 2 q.id ++ (big_bytes 2 q.port ++ (big_bytes 2 (length q.octets) ++ (q.octets ++ rest))))
unfolding request_image
request_parts q rest =
    let code : List ℕ = action_code q.action ∷ [] in
    let id = big_bytes 2 q.id in
    let port = big_bytes 2 q.port in
    let size = big_bytes 2 (length q.octets) in
    append_assoc (((code ++ id) ++ port) ++ size) q.octets rest
    ∙ append_assoc ((code ++ id) ++ port) size (q.octets ++ rest)
    ∙ append_assoc (code ++ id) port (size ++ (q.octets ++ rest))
    ∙ append_assoc code id (port ++ (size ++ (q.octets ++ rest)))

pub request_fits : (e : Pair) → EntryFits (record { manager = e.0; entry = e.1 }) → IsDataField e.1.request.octets → RequestFits e.1.request
request_fits e fits octets = record { id = fits.id; port = fits.port; octets = let small = octets.small in omega arith }

-- ---- replies

pub of_port_by : (b : Bool) (action : Action) (a : Answer) → FitsAnswer b action a → IsOfPort b a
of_port_by false action a fits = ap is_some fits.0
of_port_by true action a fits = ap is_some fits.0.1

-- what was read is the reply that can be kept
pub record IsThere (q : RequestValue) (r : ReplyValue) (answers : List Answer) (next rest : List ℕ) : Type 0 where
  pub reply : reply_with q answers ≡ r
  pub rest_is : next ≡ rest

pub reply_there : (q : RequestValue) (r : ReplyValue) (n : ℕ) (b : Bool) (count : ℕ) (octets tail rest next : List ℕ) (answers : List Answer)
    → b ≡ is_of_port q.id
    → IsKeepable (record { number = n; request = q; reply = r })
    → All AnswerFits r.answers
    → octets ≡ count ∷ tail
    → octets ≡ length r.answers ∷ (answers_image r.answers ++ rest)
    → ((xs : List Answer) (t : List ℕ) → length xs ≡ count → All (IsOfPort b) xs → All AnswerFits xs → All IsSmall xs → tail ≡ answers_image xs ++ t
    → (answers ≡ xs) × (next ≡ t))
    → IsThere q r answers next rest
reply_there q r n b count octets tail rest next answers port keep fits front is read =
    let suits : All (FitsAnswer b q.action) r.answers = subst (λ p. All (FitsAnswer p q.action) r.answers) (sym port) keep.fits.answers in
    let both = sym front ∙ is in
    let got = read r.answers rest (sym (same_heads count (length r.answers) tail (answers_image r.answers ++ rest) both))
    (All-weaker (FitsAnswer b q.action) (IsOfPort b) (of_port_by b q.action) r.answers suits) fits
    (All-weaker (FitsAnswer b q.action) IsSmall (answer_small b q.action) r.answers suits)
    (same_tails count (length r.answers) tail (answers_image r.answers ++ rest) both) in
    record {
      reply = λ i. record { action = sym keep.fits.action i; id = sym keep.fits.id i; answers = got.0 i };
      rest_is = got.1;
    }

-- a reply that can be kept is taken
pub not_fitting : (q : RequestValue) (r : ReplyValue) (n : ℕ) (b : Bool) (count : ℕ) (octets tail rest next : List ℕ) (answers : List Answer)
    (fit : Bool)
    → b ≡ is_of_port q.id
    → IsKeepable (record { number = n; request = q; reply = r })
    → All AnswerFits r.answers
    → octets ≡ count ∷ tail
    → octets ≡ length r.answers ∷ (answers_image r.answers ++ rest)
    → ((xs : List Answer) (t : List ℕ) → length xs ≡ count → All (IsOfPort b) xs → All AnswerFits xs → All IsSmall xs → tail ≡ answers_image xs ++ t
    → (answers ≡ xs) × (next ≡ t))
    → (All (FitsAnswer b q.action) answers → fit ≡ true)
    → fit ≡ false
    → ⊥
not_fitting q r n b count octets tail rest next answers fit port keep fits front is read test failed =
    let got = reply_there q r n b count octets tail rest next answers port keep fits front is read in
    let suits : All (FitsAnswer b q.action) answers =
    subst (λ (p : Bool × List Answer). All (FitsAnswer p.0 q.action) p.1)
    (λ i. (sym port i, sym (ap (λ (x : ReplyValue). x.answers) got.reply) i)) keep.fits.answers in
    false≢true (sym failed ∙ test suits)

pub keepable_reply : (q : RequestValue) (n : ℕ) (b : Bool) (answers : List Answer) (count : ℕ)
    → IsRequestAction q.action
    → b ≡ is_of_port q.id
    → IsDataField q.octets
    → FitsCount b count
    → length answers ≡ count
    → All (FitsAnswer b q.action) answers
    → IsKeepable (record { number = n; request = q; reply = reply_with q answers })
keepable_reply q n b answers count asks port octets counts size suits = record {
  action = asks;
  octets = octets;
  fits = record {
    action = refl;
    id = refl;
    count = subst (λ (p : Bool × ℕ). FitsCount p.0 p.1) (λ i. (port i, sym size i)) counts;
    answers = subst (λ c. All (FitsAnswer c q.action) answers) port suits;
  };
}
