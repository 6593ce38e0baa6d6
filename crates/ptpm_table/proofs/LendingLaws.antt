-- The next entry of a table, and what holds of the entries that it can have.
use Rattle.std.proofs.Common.{suc, zero, arith, cond, ◌≡◌, ℕ, ◌+◌, ◌<◌, ◌≤◌, ◌^◌, Bool, true, false, refl, sym, ◌∙◌, ap, subst, ⊎_elim, List, [], ◌∷◌, ◌++◌, length, get_or, set, map, Option, Some, None, All, unwrap_or, slice_get}
use Rattle.std.proofs.lemmas.Bool.{cases_Bool, cases_lt, or_parts, cond-true, cond-false, false≢true}
use Rattle.std.proofs.lemmas.Option.{get_or_from_slice_get, slice_get_read, slice_get_within}
use Rattle.std.specs.Ordering.{is_lt}
use Rattle.std.specs.declared.cmp.Ordering.{Ordering}
use Rattle.std.proofs.lemmas.List.Folds.{find_at}
use Rattle.std.proofs.lemmas.List.{length-map}
use Rattle.std.proofs.lemmas.List.Recursion.{is_count_by}
use Rattle.std.proofs.lemmas.List.Elements.{All-cons, All-get_or, All-nil, All-push, All-set}
use Rattle.std.proofs.lemmas.Cmp.{tied_itself}
use Rattle.std.specs.Prelude.{◌↔◌, IfSome, IsTrue, MatchOption, ⊤, count_by, is_some}
use Rattle.std.specs.List.{position_or_len}
use Rattle.std.specs.FinMap.{get, from_entries, len, len-empty, len-insert}
use Rattle.std.specs.declared.cmp.Ordering.TheVariants.{Equal, Greater, Less}
use Rattle.ptpm_codec.specs.declared.error.ErrorId.{ErrorId}
use Rattle.ptpm_codec.specs.declared.error.ErrorId.TheVariants as errors
use Rattle.ptpm_codec.specs.declared.identity.ClockIdentity.{ClockIdentity}
use Rattle.ptpm_codec.specs.declared.identity.PortIdentity.{PortIdentity}
use Rattle.ptpm_codec.specs.Identity.{identity_cmp, same_identity}
use Rattle.ptpm_codec.specs.Message.{BodyFits, PortIdentityFits, error_number}
use Rattle.ptpm_codec.specs.declared.message.Action.{Action}
use Rattle.ptpm_data.specs.Reply as reply
use Rattle.ptpm_data.specs.Reply.{Outcome, ReplyValue}
use Rattle.ptpm_data.specs.Request.{RequestValue}
use Rattle.ptpm_table.specs.declared.heard.Heard.{Heard}
use Rattle.ptpm_table.specs.Sending.{IsSentReply}
use Rattle.ptpm_table.specs.Entries.{Entry, FitsAnswer, FitsCount, FitsRequest, is_known}
use Rattle.ptpm_table.specs.KeptMessages.{EachKept, Envelope, IsKeptMessage, answer_in, error_of_number}
use Rattle.ptpm_table.specs.Lending.{AnswerFits, HasNoneAfter, IsAfter, IsKeepable, IsNext}
use Rattle.ptpm_table.specs.Managers.{has_twice, identities}
use Rattle.ptpm_table.specs.Rendering.{answer_body, rendered}
use Rattle.ptpm_table.specs.Slots.{AreKeepable, HaveFew, HaveRoom, IsSooner, IsUsedAfter, configured, entry_in, slot_of, used}
use Rattle.ptpm_table.specs.declared.slot.Slot.{Slot}
use Rattle.ptpm_table.proofs.Identities.{identities_total, same_identity-comm, same_identity-refl, get_entry}
use Rattle.ptpm_table.proofs.Slots.{found_manager, get_used, known_slot, none_used}
use Rattle.std.proofs.lemmas.List.Sums.{count_by-le-length}

-- ---- the first slot

-- of the first n slots, this is the first by its manager among those that are used after
pub record IsFirst (after : Option PortIdentity) (ss : List Slot) (n i : ℕ) : Type 0 where
  pub inside : i < n
  pub found : Slot
  pub is : slice_get ss i ≡ Some found
  pub used : IsUsedAfter after found
  pub first : (k : ℕ) (s : Slot) → k < n → slice_get ss k ≡ Some s → IsUsedAfter after s
      → identity_cmp s.kept.manager found.kept.manager ≡ Less
      → ⊥

abbrev pub IsFound : Option PortIdentity → List Slot → ℕ → Option ℕ → Type 0
IsFound after ss n None = (k : ℕ) (s : Slot) → k < n → slice_get ss k ≡ Some s → IsUsedAfter after s → ⊥
IsFound after ss n (Some i) = IsFirst after ss n i

same_Some : {A : Type 0} (x y : A) → Some x ≡ Some y → x ≡ y
same_Some x y e = cc

not_before_itself : (p : PortIdentity) → identity_cmp p p ≡ Less → ⊥
not_before_itself p h = let e = tied_itself identities_total p in absurd (cc)

pub found_this : (after : Option PortIdentity) (ss : List Slot) (n : ℕ) (s : Slot) (next : Option ℕ)
    → IsFound after ss n next
    → slice_get ss n ≡ Some s
    → IsUsedAfter after s
    → IsSooner ss s next
    → IsFirst after ss (n + 1) n
found_this after ss n s next h is u sooner = record {
  inside = omega arith;
  found = s;
  is = is;
  used = u;
  first = λ k t below at v less. ⊎_elim
      (λ (b : k < n). earlier next h sooner k t b at v less)
      (λ (b : n ≤ k). not_before_itself s.kept.manager (subst (λ (x : Slot). identity_cmp x.kept.manager s.kept.manager ≡ Less)
      (same_Some t s (sym at ∙ (ap (slice_get ss) (same k b below) ∙ is))) less))
      (cases_lt k n);
}
  where
    same : (k : ℕ) → n ≤ k → k < n + 1 → k ≡ n
    same k b below = omega arith

    earlier : (o : Option ℕ) → IsFound after ss n o → IsSooner ss s o → (k : ℕ) (t : Slot) → k < n → slice_get ss k ≡ Some t → IsUsedAfter after t
        → identity_cmp t.kept.manager s.kept.manager ≡ Less → ⊥
    earlier None h sooner k t b at u less = h k t b at u
    earlier (Some i) h sooner k t b at u less =
        h.first k t b at u (identities_total.trans t.kept.manager s.kept.manager h.found.kept.manager less (sooner h.found h.is))

pub found_same : (after : Option PortIdentity) (ss : List Slot) (n : ℕ) (s : Slot) (next : Option ℕ)
    → IsFound after ss n next
    → slice_get ss n ≡ Some s
    → (IsUsedAfter after s → IsSooner ss s next → ⊥)
    → IsFound after ss (n + 1) next
found_same after ss n s None h is not_sooner = λ k t below at u. ⊎_elim
    (λ (b : k < n). h k t b at u)
    (λ (b : n ≤ k). not_sooner (subst (IsUsedAfter after) (same_Some t s (sym at ∙ (ap (slice_get ss) (same k b below) ∙ is))) u) tt)
    (cases_lt k n)
  where
    same : (k : ℕ) → n ≤ k → k < n + 1 → k ≡ n
    same k b below = omega arith
found_same after ss n s (Some i) h is not_sooner = record {
  inside = let b = h.inside in omega arith;
  found = h.found;
  is = h.is;
  used = h.used;
  first = λ k t below at u less. ⊎_elim
      (λ (b : k < n). h.first k t b at u less)
      (λ (b : n ≤ k). last k t below at u less b)
      (cases_lt k n);
}
  where
    same : (k : ℕ) → n ≤ k → k < n + 1 → k ≡ n
    same k b below = omega arith

    last : (k : ℕ) (t : Slot) → k < n + 1 → slice_get ss k ≡ Some t → IsUsedAfter after t → identity_cmp t.kept.manager h.found.kept.manager ≡ Less → n ≤ k → ⊥
    last k t below at u less b =
        let own : t ≡ s = same_Some t s (sym at ∙ (ap (slice_get ss) (same k b below) ∙ is)) in
        not_sooner (subst (IsUsedAfter after) own u)
        (λ x there. subst (λ (y : Slot). identity_cmp s.kept.manager y.kept.manager ≡ Less) (same_Some h.found x (sym h.is ∙ there))
        (subst (λ (y : Slot). identity_cmp y.kept.manager h.found.kept.manager ≡ Less) own less))

-- ---- in the map

-- the slot of the manager of a slot is this one
slot_of_own : (ss : List Slot) (i : ℕ) (s : Slot)
    → has_twice (identities (configured ss)) ≡ false
    → slice_get ss i ≡ Some s
    → slot_of s.kept.manager ss ≡ Some s
slot_of_own [] i s distinct is = absurd (cc)
slot_of_own (x ∷ ss) zero s distinct is =
    let own : x ≡ s = same_Some x s is in
    subst (λ (y : Slot). slot_of y.kept.manager (x ∷ ss) ≡ Some y) own (cond-true _ (Some x) (slot_of x.kept.manager ss) (same_identity-refl x.kept.manager))
slot_of_own (x ∷ ss) (suc i) s distinct is =
    let parts = or_parts _ _ distinct in
    cond-false _ (Some x) (slot_of s.kept.manager ss) (same_identity-comm s.kept.manager x.kept.manager ∙ others ss i x s parts.0 is)
    ∙ slot_of_own ss i s parts.1 is
  where
    others : (ss : List Slot) (i : ℕ) (x s : Slot) → is_known x.kept.manager (identities (configured ss)) ≡ false → slice_get ss i ≡ Some s
        → same_identity x.kept.manager s.kept.manager ≡ false
    others [] i x s none is = absurd (cc)
    others (y ∷ ss) zero x s none is = subst (λ (z : Slot). same_identity x.kept.manager z.kept.manager ≡ false) (same_Some y s is) (or_parts _ _ none).0
    others (y ∷ ss) (suc i) x s none is = others ss i x s (or_parts _ _ none).1 is

entry_none : (o : Option Slot) → ((s : Slot) → o ≡ Some s → s.taken ≡ true → ⊥) → entry_in o ≡ None
entry_none None h = refl
entry_none (Some s) h = ⊎_elim (λ t. absurd (h s refl t)) (λ f. cond-false s.taken _ _ f) (cases_Bool s.taken)

manager_of : (q : PortIdentity) (ss : List Slot) (s : Slot) → slot_of q ss ≡ Some s → s.kept.manager ≡ q
manager_of q ss s is = subst (λ (o : Option Slot). MatchOption o ⊤ (λ t. t.kept.manager ≡ q)) is (found_manager q ss)

-- a manager of whom no slot is used after has no entry
none_at : (q : PortIdentity) (ss : List Slot)
    → has_twice (identities (configured ss)) ≡ false
    → ((k : ℕ) (s : Slot) → k < length ss → slice_get ss k ≡ Some s → s.kept.manager ≡ q → s.taken ≡ true → ⊥)
    → get (from_entries {R = identity_cmp} (used ss)) q ≡ None
none_at q ss distinct h =
    get_used q ss distinct
    ∙ entry_none (slot_of q ss) (λ s is taken.
    let at : slice_get ss (position_or_len (λ t. same_identity q t.kept.manager) ss) ≡ Some s = sym (find_at (λ (t : Slot). same_identity q t.kept.manager) ss) ∙ is in
    h _ s (slice_get_within ss _ s at) at (manager_of q ss s is) taken)

pub none_next : (after : Option PortIdentity) (ss : List Slot)
    → has_twice (identities (configured ss)) ≡ false
    → IsFound after ss (length ss) None
    → HasNoneAfter (from_entries (used ss)) after
none_next after ss distinct h = λ who comes.
    none_at who ss distinct (λ k s inside at own taken.
    h k s inside at (record { taken = taken; comes_after = subst (IsAfter after) (sym own) comes }))

pub first_next : (after : Option PortIdentity) (ss : List Slot) (i : ℕ) (s : Slot)
    → has_twice (identities (configured ss)) ≡ false
    → slice_get ss i ≡ Some s
    → IsFirst after ss (length ss) i
    → IsNext (from_entries (used ss)) after (record { manager = s.kept.manager; entry = s.kept.entry })
first_next after ss i s distinct is h =
    let own : h.found ≡ s = same_Some h.found s (sym h.is ∙ is) in
    let u : IsUsedAfter after s = subst (IsUsedAfter after) own h.used in
    record {
      kept = get_used s.kept.manager ss distinct ∙ (ap entry_in (slot_of_own ss i s distinct is) ∙ cond-true s.taken _ _ u.taken);
      comes_after = u.comes_after;
      first = λ who comes less. none_at who ss distinct (λ k t inside at manager taken.
          h.first k t inside at (record { taken = taken; comes_after = subst (IsAfter after) (sym manager) comes })
          (subst (λ (x : PortIdentity × PortIdentity). identity_cmp x.0 x.1 ≡ Less) (λ j. (sym manager j, (sym own j).kept.manager)) less));
    }

-- ---- numbers of their types

message_fits : (e : Envelope) (of_port : Bool) (m : List ℕ) → IsKeptMessage e of_port m → AnswerFits (answer_in of_port m)
message_fits e of_port m kept = λ port is. subst (λ (o : Option ℕ). unwrap_or o kept.at < 2 ^ 16) is kept.fits.source.port

pub answers_fit : (e : Envelope) (of_port : Bool) (ms : List (List ℕ))
    → EachKept e of_port ms
    → All AnswerFits (map (answer_in of_port) ms)
answers_fit e of_port [] each = All-nil AnswerFits
answers_fit e of_port (m ∷ ms) each =
    All-cons AnswerFits (answer_in of_port m) (map (answer_in of_port) ms) (message_fits e of_port m each.0) (answers_fit e of_port ms each.1)

count_some : (b : Bool) (count : ℕ) → FitsCount b count → 1 ≤ count
count_some true count fits = fits.0
count_some false count fits = omega (arith, fits)

body_id : (action : Action) (id : ℕ) (o : Outcome) → BodyFits (answer_body action id o) → id < 2 ^ 16
body_id action id (reply.Value octets) fits = fits
body_id action id reply.Done fits = fits
body_id action id (reply.Refused error) fits = fits.1

pub record EnvelopeFits (e : Envelope) : Type 0 where
  pub manager : PortIdentityFits e.manager
  pub number : e.number < 2 ^ 16
  pub id : e.id < 2 ^ 16

-- what a reply has in common is in its first message
pub envelope_fits : (e : Envelope) (of_port b : Bool) (ms : List (List ℕ))
    → EachKept e of_port ms
    → FitsCount b (length (map (answer_in of_port) ms))
    → EnvelopeFits e
envelope_fits e of_port b [] each count = let some : 1 ≤ 0 = count_some b 0 count in absurd (omega arith)
envelope_fits e of_port b (m ∷ ms) each count =
    let kept = each.0 in
    record {
      manager = subst PortIdentityFits kept.copy.source_is kept.fits.target;
      number = subst (λ n. n < 2 ^ 16) kept.copy.number_is kept.fits.number;
      id = body_id e.action e.id (answer_in of_port m).outcome kept.fits.body;
    }

-- ---- errors

-- an error that has a name is the one of its number, and any other is the general one
pub error_named : (n : ℕ) (o : Option ErrorId)
    → IfSome o (λ e. error_number e ≡ n)
    → ((e : ErrorId) → error_number e ≡ n → o ≡ Some e)
    → unwrap_or o errors.GeneralError ≡ error_of_number n
error_named n None named found =
    let no : (e : ErrorId) → error_number e ≡ n → ⊥ = λ e is. none_found e (found e is) in
    grind (arith, cond-false, no errors.ResponseTooBig, no errors.NoSuchId, no errors.WrongLength, no errors.WrongValue, no errors.NotSetable, no errors.NotSupported)
  where
    none_found : (e : ErrorId) → None ≡ Some e → ⊥
    none_found e is = cc
error_named n (Some errors.ResponseTooBig) named found = ap error_of_number named
error_named n (Some errors.NoSuchId) named found = ap error_of_number named
error_named n (Some errors.WrongLength) named found = ap error_of_number named
error_named n (Some errors.WrongValue) named found = ap error_of_number named
error_named n (Some errors.NotSetable) named found = ap error_of_number named
error_named n (Some errors.NotSupported) named found = ap error_of_number named
error_named n (Some errors.GeneralError) named found = ap error_of_number named

-- ---- of a slot that was found

pub known_at : (ss : List Slot) (i : ℕ) (s : Slot)
    → has_twice (identities (configured ss)) ≡ false
    → slice_get ss i ≡ Some s
    → is_known s.kept.manager (identities (configured ss)) ≡ true
known_at ss i s distinct is = known_slot s.kept.manager ss ∙ ap is_some (slot_of_own ss i s distinct is)

pub keepable_at : (after : Option PortIdentity) (ss : List Slot) (n i : ℕ) (s : Slot)
    → AreKeepable ss
    → slice_get ss i ≡ Some s
    → IsFirst after ss n i
    → IsKeepable s.kept.entry
keepable_at after ss n i s keepable is h =
    let own : h.found ≡ s = same_Some h.found s (sym h.is ∙ is) in
    let at : get_or ss i s ≡ s = get_or_from_slice_get ss i s s is in
    subst (λ (t : Slot). IsKeepable t.kept.entry) at
    (keepable i s (slice_get_within ss i s is) (subst (λ (t : Slot). t.taken ≡ true) (sym at) (subst (λ (t : Slot). t.taken ≡ true) own h.used.taken)))

lt_less : (o : Ordering) → is_lt o ≡ true → o ≡ Less
lt_less Less h = refl
lt_less Equal h = absurd (cc)
lt_less Greater h = absurd (cc)

-- the test of a slot against the one found so far
pub sooner_by_test : (ss : List Slot) (s d e : Slot) (place i : ℕ) (r : Bool)
    → slice_get ss place ≡ Some s
    → d ≡ get_or ss place d
    → i < length ss
    → e ≡ get_or ss i e
    → r ≡ is_lt (identity_cmp d.kept.manager e.kept.manager)
    → IsTrue r ↔ IsSooner ss s (Some i)
sooner_by_test ss s d e place i r is d_is inside e_is test =
    let own : d ≡ s = d_is ∙ get_or_from_slice_get ss place s d is in
    let there : slice_get ss i ≡ Some e = slice_get_read ss (length ss) i e refl inside e_is in
    let result : r ≡ is_lt (identity_cmp s.kept.manager e.kept.manager) = test ∙ ap (λ (x : Slot). is_lt (identity_cmp x.kept.manager e.kept.manager)) own in (
      (λ yes u at. subst (λ (x : Slot). identity_cmp s.kept.manager x.kept.manager ≡ Less) (same_Some e u (sym there ∙ at))
          (lt_less (identity_cmp s.kept.manager e.kept.manager) (sym result ∙ yes))),
      (λ h. result ∙ ap is_lt (h e there)),
    )

-- ---- kept

-- a slot written with what can be kept
pub keepable_set : (ss : List Slot) (i : ℕ) (new : Slot) (e : Entry)
    → new.kept.entry ≡ e
    → IsKeepable e
    → AreKeepable ss
    → AreKeepable (set ss i new)
keepable_set ss i new e is keepable all =
    All-set (λ s. s.taken ≡ true → IsKeepable s.kept.entry) ss i new (λ taken. subst IsKeepable (sym is) keepable) all

-- one more slot without an entry
pub keepable_more : (ss : List Slot) (s : Slot)
    → AreKeepable ss
    → s.taken ≡ false
    → AreKeepable (ss ++ s ∷ [])
keepable_more ss s all free =
    All-push (λ t. t.taken ≡ true → IsKeepable t.kept.entry) ss s all (λ taken. absurd (false≢true (sym free ∙ taken)))

-- the same of how many answers they have
pub few_set : (most : ℕ) (ss : List Slot) (i : ℕ) (new : Slot)
    → length new.kept.entry.reply.answers ≤ most
    → HaveFew most ss
    → HaveFew most (set ss i new)
few_set most ss i new few all =
    All-set (λ s. s.taken ≡ true → length s.kept.entry.reply.answers ≤ most) ss i new (λ taken. few) all

pub few_more : (most : ℕ) (ss : List Slot) (s : Slot)
    → HaveFew most ss
    → s.taken ≡ false
    → HaveFew most (ss ++ s ∷ [])
few_more most ss s all free =
    All-push (λ t. t.taken ≡ true → length t.kept.entry.reply.answers ≤ most) ss s all (λ taken. absurd (false≢true (sym free ∙ taken)))

-- the same of the answers for which they have room
pub room_set : (most : ℕ) (ss : List Slot) (i : ℕ) (new : Slot)
    → most ≤ new.kept.most
    → HaveRoom most ss
    → HaveRoom most (set ss i new)
room_set most ss i new room all = All-set (λ s. most ≤ s.kept.most) ss i new room all

pub room_more : (most : ℕ) (ss : List Slot) (s : Slot) → HaveRoom most ss → most ≤ s.kept.most → HaveRoom most (ss ++ s ∷ [])
room_more most ss s all room = All-push (λ t. most ≤ t.kept.most) ss s all room

-- the slot at a place has it
pub room_at : (most : ℕ) (ss : List Slot) (i : ℕ) (s : Slot) → HaveRoom most ss → i < length ss → most ≤ (get_or ss i s).kept.most
room_at most ss i s all inside = All-get_or (λ t. most ≤ t.kept.most) ss i s inside all

-- a reply that was sent has an answer for each message
pub sent_count : (clock : ClockIdentity) (heard : Heard) (q : RequestValue) (of_port : Bool) (messages : List (ℕ × List ℕ)) (r : ReplyValue)
    → IsSentReply clock heard q.action q.id of_port messages r
    → length messages ≡ length r.answers
unfolding rendered
sent_count clock heard q of_port messages r sent = ap length sent.messages_are ∙ length-map r.answers _

-- a reply that was sent fits its request
pub sent_fits : (clock : ClockIdentity) (heard : Heard) (q : RequestValue) (of_port : Bool) (messages : List (ℕ × List ℕ)) (r : ReplyValue)
    → IsSentReply clock heard q.action q.id of_port messages r
    → FitsRequest q r
sent_fits clock heard q of_port messages r sent = record {
  action = sent.action_is;
  id = sent.id_is;
  count = subst (λ b. FitsCount b (length r.answers)) sent.port_is sent.count;
  answers = subst (λ b. All (FitsAnswer b q.action) r.answers) sent.port_is sent.answers;
}

-- ---- counted

one_more : (b : Bool) (e : PortIdentity × Entry) (es : List (PortIdentity × Entry))
    → length (cond b (e ∷ es) es) ≡ cond b (1 + length es) (length es)
one_more true e es = omega arith
one_more false e es = refl

used_length : (ss : List Slot) → length (used ss) ≡ count_by (λ s. s.taken) ss
used_length ss =
    is_count_by (λ xs. length (used xs)) (λ s. s.taken) refl (λ s xs. one_more s.taken (s.kept.manager, s.kept.entry) (used xs)) ss

-- there are as many entries as slots in use
len_used : (ss : List Slot)
    → has_twice (identities (configured ss)) ≡ false
    → len (from_entries {R = identity_cmp} (used ss)) ≡ length (used ss)
len_used [] distinct = len-empty identity_cmp Entry
len_used (s ∷ ss) distinct =
    let parts = or_parts (is_known s.kept.manager (identities (configured ss))) (has_twice (identities (configured ss))) distinct in
    let rest : len (from_entries {R = identity_cmp} (used ss)) ≡ length (used ss) = len_used ss parts.1 in
    let free : is_some (get (from_entries {R = identity_cmp} (used ss)) s.kept.manager) ≡ false =
    ap is_some (get_entry (used ss) s.kept.manager ∙ none_used s.kept.manager ss parts.0) in
    ⊎_elim
    (λ (t : s.taken ≡ true).
    ap (λ b. len (from_entries {R = identity_cmp} (cond b ((s.kept.manager, s.kept.entry) ∷ used ss) (used ss)))) t
    ∙ len-insert identities_total (from_entries (used ss)) s.kept.manager s.kept.entry
    ∙ (λ i. cond (free i) (rest i) (rest i + 1))
    ∙ next (length (used ss))
    ∙ sym (ap (λ b. length (cond b ((s.kept.manager, s.kept.entry) ∷ used ss) (used ss))) t))
    (λ (f : s.taken ≡ false).
    ap (λ b. len (from_entries {R = identity_cmp} (cond b ((s.kept.manager, s.kept.entry) ∷ used ss) (used ss)))) f
    ∙ rest
    ∙ sym (ap (λ b. length (cond b ((s.kept.manager, s.kept.entry) ∷ used ss) (used ss))) f))
    (cases_Bool s.taken)
  where
    next : (n : ℕ) → n + 1 ≡ suc n
    next n = omega arith

pub used_count : (ss : List Slot)
    → has_twice (identities (configured ss)) ≡ false
    → len (from_entries {R = identity_cmp} (used ss)) ≡ count_by (λ s. s.taken) ss
used_count ss distinct = len_used ss distinct ∙ used_length ss

pub ruleset count_used_laws = (used_count, count_by-le-length)
