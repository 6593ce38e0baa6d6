-- Images by their parts: one more entry, one more answer, and how many octets they have.
use Rattle.std.proofs.Common.{suc, zero, arith, ◌≡◌, ℕ, ◌+◌, ◌*◌, ◌-◌, ◌<◌, ◌≤◌, ◌⊎◌, inl, inr, ⊎_elim, Bool, true, false, refl, sym, ◌∙◌, ap, subst, List, [], ◌∷◌, ◌++◌, length, take, Option, Some, slice_get, All, append_assoc, append-nil, length-append}
use Rattle.std.specs.List.{flat_map}
use Rattle.std.specs.FinMap.{entries}
use Rattle.std.proofs.lemmas.Option.{get_or_from_slice_get, slice_get_within}
use Rattle.std.proofs.lemmas.List.Elements.{All-head, All-tail}
use Rattle.std.proofs.lemmas.List.Concat.{flat_map-append}
use Rattle.ptpm_codec.specs.declared.message.Action.{Action}
use Rattle.byteorder.specs.Endian.{big_bytes}
use Rattle.ptpm_codec.specs.Canonical.{port_identity_octets}
use Rattle.ptpm_data.specs.declared.image.TheConstants.{DATA_SETS_OCTETS}
use Rattle.ptpm_data.specs.declared.ports.TheConstants.{PORTS}
use Rattle.ptpm_data.specs.Image.{DataSetsFit, clock_image as clock_members, data_sets_octets, ports_image}
use Rattle.ptpm_data.specs.Members.{DataSetsValue}
use Rattle.ptpm_data.specs.RequestLaws.{IsSized}
use Rattle.ptpm_data.proofs.ImageLemmas.{clock_length, ports_length}
use Rattle.ptpm_data.specs.Reply as reply
use Rattle.ptpm_data.specs.Reply.{Answer, Outcome, ReplyValue}
use Rattle.ptpm_data.specs.Request.{RequestValue}
use Rattle.ptpm_data.specs.ManagementId.{is_of_port}
use Rattle.ptpm_agent.specs.Turn.{State}
use Rattle.ptpm_manager.specs.Image.{image_head, request_front, request_image}
use Rattle.ptpm_table.specs.Entries.{Entries, Entry, FitsAnswer, FitsCount, FitsOutcome, FitsRequest}
use Rattle.ptpm_table.specs.Lending.{EntryFits, IsKeepable, IsNext, ManagerEntry}
use Rattle.ptpm_codec.specs.declared.identity.PortIdentity.{PortIdentity}
use Rattle.ptpm_saved.specs.Image.{answer_image, answers_image, body_image, clock_image, entries_image, entry_image, front_image, outcome_image, port_octets, saved_image, saved_of, widest}
use Rattle.ptpm_saved.specs.declared.image.TheConstants.{ANSWERS_OCTETS, ENTRY_OCTETS}
use Rattle.ptpm_saved.proofs.EntryOrder.{after_at, after_next, next_is}

-- ---- one after the other

flat_more : {X : Type 0} (f : X → List ℕ) (xs : List X) (i : ℕ) (x : X)
    → slice_get xs i ≡ Some x
    → flat_map f (take (suc i) xs) ≡ flat_map f (take i xs) ++ f x
flat_more f [] i x is = absurd (cc)
flat_more f (y ∷ xs) zero x is = append-nil (f y) ∙ ap f (same y x is)
  where
    same : {X : Type 0} (y x : X) → Some y ≡ Some x → y ≡ x
    same y x e = cc
flat_more f (y ∷ xs) (suc i) x is = ap (λ s. f y ++ s) (flat_more f xs i x is) ∙ sym (append_assoc (f y) (flat_map f (take i xs)) (f x))

flat_within : {X : Type 0} (f : X → List ℕ) (xs : List X) (i : ℕ)
    → length (flat_map f (take i xs)) ≤ length (flat_map f xs)
flat_within f xs zero = omega arith
flat_within f [] (suc i) = omega arith
flat_within f (x ∷ xs) (suc i) =
    omega (arith, length-append (f x) (flat_map f (take i xs)), length-append (f x) (flat_map f xs), flat_within f xs i)

next_place : (i : ℕ) → i + 1 ≡ suc i
next_place i = omega arith

-- ---- answers

few_answers : (b : Bool) (n : ℕ) → FitsCount b n → n ≤ PORTS
few_answers false n fits = omega (arith, fits)
few_answers true n fits = fits.1

pub reply_few : (q : RequestValue) (r : ReplyValue) → FitsRequest q r → length r.answers ≤ PORTS
reply_few q r fits = few_answers (is_of_port q.id) (length r.answers) fits.count

outcome_small : (action : Action) (most : ℕ) (o : Outcome)
    → 26 ≤ most
    → FitsOutcome action most o
    → length (outcome_image o) ≤ 2 + most
outcome_small action most (reply.Value octets) least fits = let small : length octets ≤ most = fits.2 in omega arith
outcome_small action most reply.Done least fits = omega arith
outcome_small action most (reply.Refused error) least fits = omega arith

pub answer_small : (b : Bool) (action : Action) (a : Answer)
    → FitsAnswer b action a
    → length (outcome_image a.outcome) ≤ 132
answer_small false action a fits = outcome_small action 130 a.outcome (omega arith) fits.1
answer_small true action a fits = omega (arith, outcome_small action 26 a.outcome (omega arith) fits.1)

of_port_size : (action : Action) (a : Answer) → FitsAnswer true action a → length (answer_image a) ≤ 30
unfolding answer_image
of_port_size action a fits =
    let port = ap (λ o. length (port_octets o)) fits.0.1 in
    omega (arith, port, outcome_small action 26 a.outcome (omega arith) fits.1, length-append (port_octets a.port) (outcome_image a.outcome))

of_clock_size : (action : Action) (a : Answer) → FitsAnswer false action a → length (answer_image a) ≤ 132
unfolding answer_image
of_clock_size action a fits =
    let port = ap (λ o. length (port_octets o)) fits.0 in
    omega (arith, port, outcome_small action 130 a.outcome (omega arith) fits.1, length-append (port_octets a.port) (outcome_image a.outcome))

each_small : (action : Action) (xs : List Answer)
    → All (FitsAnswer true action) xs
    → length (flat_map answer_image xs) ≤ length xs * 30
each_small action [] fits = omega arith
each_small action (a ∷ xs) fits =
    omega (
      arith,
      length-append (answer_image a) (flat_map answer_image xs),
      of_port_size action a (All-head (FitsAnswer true action) a xs fits),
      each_small action xs (All-tail (FitsAnswer true action) a xs fits),
    )

answers_small : (b : Bool) (action : Action) (xs : List Answer)
    → FitsCount b (length xs)
    → All (FitsAnswer b action) xs
    → length (answers_image xs) ≤ ANSWERS_OCTETS
unfolding answers_image
answers_small true action xs count fits = let few : length xs ≤ PORTS = count.1 in omega (arith, each_small action xs fits)
answers_small false action [] count fits = omega arith
answers_small false action (a ∷ []) count fits =
    omega (arith, length-append (answer_image a) [], of_clock_size action a (All-head (FitsAnswer false action) a [] fits))
answers_small false action (a ∷ b ∷ xs) count fits = absurd (omega (arith, count))

answers_more : (xs : List Answer) (i : ℕ) (a : Answer)
    → slice_get xs i ≡ Some a
    → answers_image (take (suc i) xs) ≡ answers_image (take i xs) ++ answer_image a
unfolding answers_image
answers_more xs i a is = flat_more answer_image xs i a is

pub answers_within : (xs : List Answer) (i : ℕ) → length (answers_image (take i xs)) ≤ length (answers_image xs)
unfolding answers_image
answers_within xs i = flat_within answer_image xs i

pub answer_at : (q : RequestValue) (r : ReplyValue) (i : ℕ) (a : Answer)
    → FitsRequest q r
    → slice_get r.answers i ≡ Some a
    → FitsAnswer (is_of_port q.id) q.action a
answer_at q r i a fits is =
    subst (FitsAnswer (is_of_port q.id) q.action) (get_or_from_slice_get r.answers i a a is)
    (fits.answers i a (slice_get_within r.answers i a is))

pub reply_small : (q : RequestValue) (r : ReplyValue) → FitsRequest q r → length (answers_image r.answers) ≤ ANSWERS_OCTETS
reply_small q r fits = answers_small (is_of_port q.id) q.action r.answers fits.count fits.answers

-- if an answer was lent, at this place
pub record IsGiven (xs : List Answer) (i : ℕ) (a : Answer) : Type 0 where
  pub on : answers_image (take (i + 1) xs) ≡ answers_image (take i xs) ++ answer_image a
  pub size : length (answers_image (take (i + 1) xs)) ≡ length (answers_image (take i xs)) + length (answer_image a)
  pub room : length (answers_image (take i xs)) + length (answer_image a) ≤ length (answers_image xs)

pub given : (xs : List Answer) (i : ℕ) (a : Answer) → slice_get xs i ≡ Some a → IsGiven xs i a
given xs i a is =
    let on = answers_more xs i a is in
    let next : answers_image (take (i + 1) xs) ≡ answers_image (take i xs) ++ answer_image a =
    ap (λ n. answers_image (take n xs)) (next_place i) ∙ on in
    record {
      on = next;
      size = ap length next ∙ length-append (answers_image (take i xs)) (answer_image a);
      room = omega (arith, ap length on, length-append (answers_image (take i xs)) (answer_image a), answers_within xs (suc i));
    }

-- if an answer is the next one, after these
pub record IsNextAnswer (all done rest : List Answer) (a : Answer) : Type 0 where
  pub there : slice_get all (length done) ≡ Some a
  pub on : answers_image (done ++ a ∷ []) ≡ answers_image done ++ answer_image a
  pub room : length (answers_image done) + length (answer_image a) ≤ length (answers_image all)
  pub so_far : (done ++ a ∷ []) ++ rest ≡ all

pub next_answer : (all done left rest : List Answer) (a : Answer)
    → done ++ left ≡ all
    → left ≡ a ∷ rest
    → IsNextAnswer all done rest a
unfolding answers_image
next_answer all done left rest a whole first =
    let parts : done ++ a ∷ rest ≡ all = ap (λ l. done ++ l) (sym first) ∙ whole in
    let on = flat_map-append answer_image done (a ∷ []) ∙ ap (λ o. flat_map answer_image done ++ o) (append-nil (answer_image a)) in
    record {
      there = ap (λ l. slice_get l (length done)) (sym parts) ∙ next_at done;
      on = on;
      room = omega (
        arith,
        ap (λ l. length (flat_map answer_image l)) parts,
        ap length (flat_map-append answer_image done (a ∷ rest)),
        length-append (flat_map answer_image done) (flat_map answer_image (a ∷ rest)),
        length-append (answer_image a) (flat_map answer_image rest),
      );
      so_far = append_assoc done (a ∷ []) rest ∙ parts;
    }
  where
    next_at : (xs : List Answer) → slice_get (xs ++ a ∷ rest) (length xs) ≡ Some a
    next_at [] = refl
    next_at (x ∷ xs) = next_at xs

-- ---- entries

entries_more : (es : List (PortIdentity × Entry)) (i : ℕ) (e : PortIdentity × Entry)
    → slice_get es i ≡ Some e
    → entries_image (take (suc i) es) ≡ entries_image (take i es) ++ entry_image e
unfolding entries_image
entries_more es i e is = flat_more entry_image es i e is

entries_within : (es : List (PortIdentity × Entry)) (i : ℕ) → length (entries_image (take i es)) ≤ length (entries_image es)
unfolding entries_image
entries_within es i = flat_within entry_image es i

-- if an entry was lent, at this place
pub record IsEntryAt (es : List (PortIdentity × Entry)) (i : ℕ) (e : PortIdentity × Entry) : Type 0 where
  pub on : entries_image (take (i + 1) es) ≡ entries_image (take i es) ++ entry_image e
  pub size : length (entries_image (take (i + 1) es)) ≡ length (entries_image (take i es)) + length (entry_image e)
  pub room : length (entries_image (take i es)) + length (entry_image e) ≤ length (entries_image es)

pub entry_given : (es fs : List (PortIdentity × Entry)) (i : ℕ) (e : PortIdentity × Entry)
    → fs ≡ es
    → slice_get fs i ≡ Some e
    → IsEntryAt es i e
entry_given es fs i e same is =
    let on = entries_more es i e (ap (λ l. slice_get l i) (sym same) ∙ is) in
    let next : entries_image (take (i + 1) es) ≡ entries_image (take i es) ++ entry_image e = ap (λ n. entries_image (take n es)) (next_place i) ∙ on in
    record {
      on = next;
      size = ap length next ∙ length-append (entries_image (take i es)) (entry_image e);
      room = omega (arith, ap length on, length-append (entries_image (take i es)) (entry_image e), entries_within es (suc i));
    }

-- if the next entry of a table was lent, at this place
pub record IsLent (m : Entries) (i : ℕ) (x : ManagerEntry) : Type 0 where
  pub there : slice_get (entries m) i ≡ Some (x.manager, x.entry)
  pub on : entries_image (take (i + 1) (entries m)) ≡ entries_image (take i (entries m)) ++ entry_image (x.manager, x.entry)
  pub size : length (entries_image (take (i + 1) (entries m)))
      ≡ length (entries_image (take i (entries m))) + length (entry_image (x.manager, x.entry))
  pub after : Some x.manager ≡ after_at (entries m) (i + 1)
  pub room : length (entries_image (take i (entries m))) + length (entry_image (x.manager, x.entry)) ≤ length (entries_image (entries m))

pub lent : (m : Entries) (i : ℕ) (after : Option PortIdentity) (x : ManagerEntry)
    → after ≡ after_at (entries m) i
    → i < length (entries m)
    → IsNext m after x
    → IsLent m i x
lent m i after x so inside next =
    let there = next_is m i x inside (subst (λ o. IsNext m o x) so next) in
    let on = entries_more (entries m) i (x.manager, x.entry) there in
    let next : entries_image (take (i + 1) (entries m)) ≡ entries_image (take i (entries m)) ++ entry_image (x.manager, x.entry) =
    ap (λ n. entries_image (take n (entries m))) (next_place i) ∙ on in
    record {
      there = there;
      on = next;
      size = ap length next ∙ length-append (entries_image (take i (entries m))) (entry_image (x.manager, x.entry));
      after = after_next (entries m) i (x.manager, x.entry) there ∙ ap (after_at (entries m)) (sym (next_place i));
      room = omega (
        arith,
        ap length on,
        length-append (entries_image (take i (entries m))) (entry_image (x.manager, x.entry)),
        entries_within (entries m) (suc i),
      );
    }

-- an entry by its parts
pub entry_parts : (x : ManagerEntry) (q : RequestValue) (front : List ℕ)
    → q ≡ x.entry.request
    → front ≡ port_identity_octets x.manager ++ big_bytes 2 x.entry.number ++ request_front q
    → ((front ++ q.octets) ++ length x.entry.reply.answers ∷ []) ++ answers_image x.entry.reply.answers
    ≡ entry_image (x.manager, x.entry)
unfolding entry_image front_image request_image
entry_parts x q front own is =
    let count : List ℕ = length x.entry.reply.answers ∷ [] in
    let who : List ℕ = port_identity_octets x.manager ++ big_bytes 2 x.entry.number in
    ap (λ f. ((f ++ q.octets) ++ count) ++ answers_image x.entry.reply.answers) is
    ∙ ap (λ l. (l ++ count) ++ answers_image x.entry.reply.answers) (append_assoc who (request_front q) q.octets)
    ∙ ap (λ r. ((who ++ (request_front r ++ r.octets)) ++ count) ++ answers_image x.entry.reply.answers) own

pub entry_length : (x : ManagerEntry) (q : RequestValue) (front : List ℕ)
    → q ≡ x.entry.request
    → front ≡ port_identity_octets x.manager ++ big_bytes 2 x.entry.number ++ request_front q
    → length (entry_image (x.manager, x.entry))
    ≡ length front + length q.octets + 1 + length (answers_image x.entry.reply.answers)
entry_length x q front own is =
    let count : List ℕ = length x.entry.reply.answers ∷ [] in
    omega (
      arith,
      ap length (entry_parts x q front own is),
      length-append ((front ++ q.octets) ++ count) (answers_image x.entry.reply.answers),
      length-append (front ++ q.octets) count,
      length-append front q.octets,
    )

front_length : (p : PortIdentity) (n : ℕ) (q : RequestValue) → length p.clock.0 ≡ 8
    → length (port_identity_octets p ++ big_bytes 2 n ++ request_front q) ≡ 19
unfolding port_identity_octets
front_length p n q eight =
    omega (
      arith,
      length-append ((p.clock.0 ++ big_bytes 2 p.port) ++ big_bytes 2 n) (request_front q),
      length-append (p.clock.0 ++ big_bytes 2 p.port) (big_bytes 2 n),
      length-append p.clock.0 (big_bytes 2 p.port),
      eight,
    )

pub entry_small : (x : ManagerEntry) → IsKeepable x.entry → EntryFits x → length (entry_image (x.manager, x.entry)) ≤ ENTRY_OCTETS
entry_small x keepable fits =
    let small : length x.entry.request.octets ≤ 1418 = keepable.octets.small in
    omega (
      arith,
      entry_length x x.entry.request (port_identity_octets x.manager ++ big_bytes 2 x.entry.number ++ request_front x.entry.request) refl refl,
      front_length x.manager x.entry.number x.entry.request fits.manager.clock,
      reply_small x.entry.request x.entry.reply keepable.fits,
      small,
    )

-- ---- the whole

pub head_length : (kind size : ℕ) → length (image_head kind size) ≡ 12
unfolding image_head
head_length kind size = refl

body_length : (s : State) → length (body_image (saved_of s)) ≡ length (data_sets_octets s.sets) + 1 + length (entries_image (entries s.entries))
unfolding body_image
body_length s =
    omega (arith, length-append (data_sets_octets s.sets) (length (entries s.entries) ∷ entries_image (entries s.entries)))

pub image_length : (s : State) → length (clock_image s) ≡ 12 + length (data_sets_octets s.sets) + 1 + length (entries_image (entries s.entries))
unfolding saved_image
image_length s =
    omega (
      arith,
      length-append (image_head 1 (length (body_image (saved_of s)))) (body_image (saved_of s)),
      head_length 1 (length (body_image (saved_of s))),
      body_length s,
    )

pub sets_small : (d : DataSetsValue) → IsSized d → DataSetsFit d → length (data_sets_octets d) ≤ DATA_SETS_OCTETS
unfolding data_sets_octets
sets_small d sized fits =
    let few : length d.ports ≤ PORTS = sized.few_ports in
    let text : length d.description ≤ 128 = sized.text in
    omega (
      arith,
      length-append (clock_members d ++ length d.description ∷ d.description) (length d.ports ∷ ports_image d.ports),
      length-append (clock_members d) (length d.description ∷ d.description),
      clock_length d fits,
      ports_length d.ports,
      few,
      text,
    )

parts : (s : State) (size : ℕ)
    → size ≡ length (clock_image s)
    → image_head 1 (size - 12) ++ ((data_sets_octets s.sets ++ length (entries s.entries) ∷ []) ++ entries_image (entries s.entries))
    ≡ clock_image s
unfolding saved_image body_image
parts s size whole =
    let sets' : List ℕ = data_sets_octets s.sets in
    let es : List ℕ = entries_image (entries s.entries) in
    let left : size - 12 ≡ length (body_image (saved_of s)) = omega (arith, whole, image_length s, body_length s) in
    ap (λ n. image_head 1 n ++ ((sets' ++ length (entries s.entries) ∷ []) ++ es)) left
    ∙ ap (λ x. image_head 1 (length (body_image (saved_of s))) ++ x) (append_assoc sets' (length (entries s.entries) ∷ []) es)

-- what a place has room for: these octets of the data sets, one more, and these of the entries, or those of as many entries
pub record HasRoomFor (sets : List ℕ) (es : List (PortIdentity × Entry)) (len : ℕ) : Type 0 where
  pub before : 12 + length sets + 1 ≤ len
  pub behind : (12 + length sets + 1 + length es * ENTRY_OCTETS ≤ len) ⊎ (12 + length sets + 1 + length (entries_image es) ≤ len)

-- so has one that has room for the widest such clock, or for this one
module _ (s : State) (d : DataSetsValue) (m : Entries) (of_sets : d ≡ s.sets) (of_entries : m ≡ s.entries) where
  pub size_is : length (clock_image s) ≡ 12 + length (data_sets_octets d) + 1 + length (entries_image (entries m))
  size_is =
      image_length s
      ∙ (λ i. 12 + length (data_sets_octets (sym of_sets i)) + 1 + length (entries_image (entries (sym of_entries i))))

  pub widest_is : widest s ≡ 12 + length (data_sets_octets d) + 1 + length (entries m) * ENTRY_OCTETS
  widest_is = λ i. 12 + length (data_sets_octets (sym of_sets i)) + 1 + length (entries (sym of_entries i)) * ENTRY_OCTETS

  pub has_room : (len : ℕ) → (widest s ≤ len) ⊎ (length (clock_image s) ≤ len)
      → HasRoomFor (data_sets_octets d) (entries m) len
  has_room len =
      ⊎_elim
      (λ (every : widest s ≤ len). record { before = omega (arith, every, widest_is); behind = inl (omega (arith, every, widest_is)) })
      (λ (own : length (clock_image s) ≤ len). record { before = omega (arith, own, size_is); behind = inr (omega (arith, own, size_is)) })

  -- the parts, one after the other
  pub put_together : (size n : ℕ) → size ≡ length (clock_image s) → n ≡ length (entries m)
      → image_head 1 (size - 12) ++ ((data_sets_octets d ++ n ∷ []) ++ entries_image (entries m)) ≡ clock_image s
  put_together size n whole count =
      (λ i. image_head 1 (size - 12) ++ ((data_sets_octets (of_sets i) ++ (count ∙ ap (λ e. length (entries e)) of_entries) i ∷ [])
      ++ entries_image (entries (of_entries i))))
      ∙ parts s size whole

-- ---- nothing yet

pub no_answers : answers_image [] ≡ []
unfolding answers_image
no_answers = refl

pub no_entries : entries_image [] ≡ []
unfolding entries_image
no_entries = refl
