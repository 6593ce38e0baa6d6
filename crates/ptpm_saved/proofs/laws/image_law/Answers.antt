-- No two clocks have the same image.
use Rattle.std.proofs.Common.{arith, ◌≡◌, ◌∙◌, ap, refl, sym, subst, ℕ, ◌<◌, ◌^◌, ◌==◌, Bool, cond, List, [], ◌∷◌, ◌++◌, length, append_assoc, Option, Some, None, All}
use Rattle.std.specs.List.{flat_map}
use Rattle.std.specs.Prelude.{is_some}
use Rattle.std.specs.FinMap.{entries, find, get-entries, same_map}
use Rattle.std.proofs.lemmas.Bool.{false≢true}
use Rattle.std.proofs.lemmas.List.Elements.{All-head, All-tail}
use Rattle.byteorder.specs.Endian.{big_bytes, big_number}
use Rattle.byteorder.specs.Numbers.{big_number-reads_back}
use Rattle.ptpm_codec.specs.declared.error.ErrorId.{ErrorId}
use Rattle.ptpm_codec.specs.declared.identity.PortIdentity.{PortIdentity}
use Rattle.ptpm_codec.specs.declared.message.Action.{Action}
use Rattle.ptpm_codec.specs.Canonical.{port_identity_octets}
use Rattle.ptpm_codec.specs.Identity.{identity_cmp}
use Rattle.ptpm_codec.specs.Message.{IsRequestAction, PortIdentityFits, action_code, error_number, reply_action}
use Rattle.ptpm_data.specs.ManagementId.{is_of_port}
use Rattle.ptpm_data.specs.Reply.{Answer, Outcome}
use Rattle.ptpm_data.specs.Request.{RequestValue}
use Rattle.ptpm_data.proofs.OneImage.{one_image}
use Rattle.ptpm_data.proofs.PlainMap.{same_front}
use Rattle.ptpm_table.specs.Entries.{Entries, FitsAnswer}
use Rattle.ptpm_table.specs.Lending.{AnswerFits}
use Rattle.ptpm_table.proofs.Identities.{exact_identities, identities_total}
use Rattle.ptpm_agent.specs.Turn.{State}
use Rattle.ptpm_manager.specs.Image.{image_head, request_image}
use Rattle.ptpm_manager.specs.ImageReading.{request_action}
use Rattle.ptpm_saved.specs.Image.{EntryIsSound, IsSaved, SavedClock, answer_image, answers_image, answers_kept, body_image, clock_image, entries_image, entry_image, outcome_image, port_octets, saved_image, saved_of}
use Rattle.ptpm_saved.specs.EntryReading.{IsOfPort, RequestFits}
use Rattle.ptpm_saved.proofs.EntryOrder.{Pair}
use Rattle.ptpm_saved.proofs.ImageLemmas.{head_length}
use Rattle.ptpm_saved.proofs.ReadingLemmas.{answers-cons, entry_parts, of_port_by, request_fits, request_parts, same_heads, same_tails}
use Rattle.ptpm_codec.specs.declared.error.ErrorId.TheVariants as errors
use Rattle.ptpm_codec.specs.declared.message.Action.TheVariants as actions
use Rattle.ptpm_data.specs.Reply as reply
use Rattle.ptpm_saved.proofs.laws.image_law.Goals as goal

-- ---- numbers, identities, actions and errors

u16_back : (n : ℕ) → n < 2 ^ 16 → big_number 2 (big_bytes 2 n) ≡ n
u16_back n small = big_number-reads_back 2 n [] small

one_number : (m n : ℕ) (r s : List ℕ)
    → m < 2 ^ 16
    → n < 2 ^ 16
    → big_bytes 2 m ++ r ≡ big_bytes 2 n ++ s
    → (m ≡ n) × (r ≡ s)
one_number m n r s small small' e =
    let parts = same_front (big_bytes 2 m) (big_bytes 2 n) r s refl e in
    (sym (u16_back m small) ∙ ap (big_number 2) parts.0 ∙ u16_back n small', parts.1)

one_identity : (p q : PortIdentity) (r s : List ℕ)
    → PortIdentityFits p
    → PortIdentityFits q
    → port_identity_octets p ++ r ≡ port_identity_octets q ++ s
    → (p ≡ q) × (r ≡ s)
unfolding port_identity_octets
one_identity p q r s fits fits' e =
    let all = sym (append_assoc p.clock.0 (big_bytes 2 p.port) r) ∙ e ∙ append_assoc q.clock.0 (big_bytes 2 q.port) s in
    let clock = same_front p.clock.0 q.clock.0 (big_bytes 2 p.port ++ r) (big_bytes 2 q.port ++ s) (fits.clock ∙ sym fits'.clock) all in
    let port = one_number p.port q.port r s fits.port fits'.port clock.1 in
    ((λ i. record { clock = record { 0 = clock.0 i }; port = port.0 i }), port.1)

action_back : (a : Action) → IsRequestAction a → request_action (action_code a) ≡ a
action_back actions.Get request = refl
action_back actions.Set request = refl
action_back actions.Response request = absurd (cc)
action_back actions.Command request = refl
action_back actions.Acknowledge request = absurd (cc)

error_of : ℕ → ErrorId
error_of n =
    cond (n == 0x0001) errors.ResponseTooBig
    (cond (n == 0x0002) errors.NoSuchId
    (cond (n == 0x0003) errors.WrongLength
    (cond (n == 0x0004) errors.WrongValue
    (cond (n == 0x0005) errors.NotSetable (cond (n == 0x0006) errors.NotSupported errors.GeneralError)))))

error_back : (e : ErrorId) → error_of (error_number e) ≡ e
unfolding error_of
error_back errors.ResponseTooBig = refl
error_back errors.NoSuchId = refl
error_back errors.WrongLength = refl
error_back errors.WrongValue = refl
error_back errors.NotSetable = refl
error_back errors.NotSupported = refl
error_back errors.GeneralError = refl

error_small : (e : ErrorId) → error_number e < 2 ^ 16
error_small errors.ResponseTooBig = omega arith
error_small errors.NoSuchId = omega arith
error_small errors.WrongLength = omega arith
error_small errors.WrongValue = omega arith
error_small errors.NotSetable = omega arith
error_small errors.NotSupported = omega arith
error_small errors.GeneralError = omega arith

-- ---- a request

one_request : (q p : RequestValue) (r s : List ℕ)
    → IsRequestAction q.action
    → IsRequestAction p.action
    → RequestFits q
    → RequestFits p
    → request_image q ++ r ≡ request_image p ++ s
    → (q ≡ p) × (r ≡ s)
one_request q p r s request request' fits fits' e =
    let all = sym (request_parts q r) ∙ e ∙ request_parts p s in
    let code = same_heads _ _ _ _ all in
    let id = one_number q.id p.id _ _ fits.id fits'.id (same_tails _ _ _ _ all) in
    let port = one_number q.port p.port _ _ fits.port fits'.port id.1 in
    let size = one_number (length q.octets) (length p.octets) (q.octets ++ r) (p.octets ++ s) fits.octets fits'.octets port.1 in
    let octets = same_front q.octets p.octets r s size.0 size.1 in
    let action : q.action ≡ p.action = sym (action_back q.action request) ∙ ap request_action code ∙ action_back p.action request' in
    ((λ i. record { action = action i; id = id.0 i; port = port.0 i; octets = octets.0 i }), octets.1)

-- ---- answers

one_port : (b : Bool) (o p : Option ℕ) (r s : List ℕ)
    → is_some o ≡ b
    → is_some p ≡ b
    → ((port : ℕ) → o ≡ Some port → port < 2 ^ 16)
    → ((port : ℕ) → p ≡ Some port → port < 2 ^ 16)
    → port_octets o ++ r ≡ port_octets p ++ s
    → (o ≡ p) × (r ≡ s)
one_port b None None r s is is' fits fits' e = (refl, e)
one_port b None (Some n) r s is is' fits fits' e = absurd (false≢true (is ∙ sym is'))
one_port b (Some m) None r s is is' fits fits' e = absurd (false≢true (is' ∙ sym is))
one_port b (Some m) (Some n) r s is is' fits fits' e =
    let number = one_number m n r s (fits m refl) (fits' n refl) e in
    ((λ i. Some (number.0 i)), number.1)

one_outcome : (x y : Outcome) (r s : List ℕ) → outcome_image x ++ r ≡ outcome_image y ++ s → (x ≡ y) × (r ≡ s)
one_outcome (reply.Value xs) (reply.Value ys) r s e =
    let sized = same_tails _ _ _ _ e in
    let octets = same_front xs ys r s (same_heads _ _ _ _ sized) (same_tails _ _ _ _ sized) in
    ((λ i. reply.Value (octets.0 i)), octets.1)
one_outcome (reply.Value xs) reply.Done r s e = let kind = same_heads _ _ _ _ e in absurd (omega arith)
one_outcome (reply.Value xs) (reply.Refused f) r s e = let kind = same_heads _ _ _ _ e in absurd (omega arith)
one_outcome reply.Done (reply.Value ys) r s e = let kind = same_heads _ _ _ _ e in absurd (omega arith)
one_outcome reply.Done reply.Done r s e = (refl, same_tails _ _ _ _ e)
one_outcome reply.Done (reply.Refused f) r s e = let kind = same_heads _ _ _ _ e in absurd (omega arith)
one_outcome (reply.Refused f) (reply.Value ys) r s e = let kind = same_heads _ _ _ _ e in absurd (omega arith)
one_outcome (reply.Refused f) reply.Done r s e = let kind = same_heads _ _ _ _ e in absurd (omega arith)
one_outcome (reply.Refused f) (reply.Refused g) r s e =
    let number = one_number (error_number f) (error_number g) r s (error_small f) (error_small g) (same_tails _ _ _ _ e) in
    let same : f ≡ g = sym (error_back f) ∙ ap error_of number.0 ∙ error_back g in
    ((λ i. reply.Refused (same i)), number.1)

one_answer : (b : Bool) (x y : Answer) (r s : List ℕ)
    → IsOfPort b x
    → IsOfPort b y
    → AnswerFits x
    → AnswerFits y
    → answer_image x ++ r ≡ answer_image y ++ s
    → (x ≡ y) × (r ≡ s)
unfolding answer_image
one_answer b x y r s is is' fits fits' e =
    let all = sym (append_assoc (port_octets x.port) (outcome_image x.outcome) r) ∙ e ∙ append_assoc (port_octets y.port) (outcome_image y.outcome) s in
    let port = one_port b x.port y.port (outcome_image x.outcome ++ r) (outcome_image y.outcome ++ s) is is' fits fits' all in
    let outcome = one_outcome x.outcome y.outcome r s port.1 in
    ((λ i. record { port = port.0 i; outcome = outcome.0 i }), outcome.1)

same_answers : (b : Bool) (action : Action) (xs ys : List Answer) (r s : List ℕ)
    → length xs ≡ length ys
    → All (FitsAnswer b action) xs
    → All (FitsAnswer b action) ys
    → All AnswerFits xs
    → All AnswerFits ys
    → answers_image xs ++ r ≡ answers_image ys ++ s
    → (xs ≡ ys) × (r ≡ s)
unfolding answers_image
same_answers b action [] [] r s size suits suits' fits fits' e = (refl, e)
same_answers b action [] (y ∷ ys) r s size suits suits' fits fits' e = absurd (omega arith)
same_answers b action (x ∷ xs) [] r s size suits suits' fits fits' e = absurd (omega arith)
same_answers b action (x ∷ xs) (y ∷ ys) r s size suits suits' fits fits' e =
    let all = sym (answers-cons x xs r) ∙ e ∙ answers-cons y ys s in
    let first = one_answer b x y (answers_image xs ++ r) (answers_image ys ++ s)
    (of_port_by b action x (All-head (FitsAnswer b action) x xs suits)) (of_port_by b action y (All-head (FitsAnswer b action) y ys suits'))
    (All-head AnswerFits x xs fits) (All-head AnswerFits y ys fits') all in
    let others = same_answers b action xs ys r s (omega arith)
    (All-tail (FitsAnswer b action) x xs suits) (All-tail (FitsAnswer b action) y ys suits')
    (All-tail AnswerFits x xs fits) (All-tail AnswerFits y ys fits') first.1 in
    ((λ i. first.0 i ∷ others.0 i), others.1)

-- ---- entries

one_entry : (m n : ℕ) (e f : Pair) (r s : List ℕ)
    → EntryIsSound m e
    → EntryIsSound n f
    → entry_image e ++ r ≡ entry_image f ++ s
    → (e ≡ f) × (r ≡ s)
one_entry m n e f r s sound sound' same =
    let q : RequestValue = e.1.request in
    let p : RequestValue = f.1.request in
    let all = sym (entry_parts e r) ∙ same ∙ entry_parts f s in
    let manager = one_identity e.0 f.0 _ _ sound.fits.manager sound'.fits.manager all in
    let number = one_number e.1.number f.1.number _ _ sound.fits.number sound'.fits.number manager.1 in
    let request = one_request q p _ _ sound.keepable.action sound'.keepable.action
    (request_fits e sound.fits sound.keepable.octets) (request_fits f sound'.fits sound'.keepable.octets) number.1 in
    let count = same_heads _ _ _ _ request.1 in
    let suits : All (FitsAnswer (is_of_port q.id) q.action) f.1.reply.answers =
    subst (λ (z : RequestValue). All (FitsAnswer (is_of_port z.id) z.action) f.1.reply.answers) (sym request.0) sound'.keepable.fits.answers in
    let answers = same_answers (is_of_port q.id) q.action e.1.reply.answers f.1.reply.answers r s count
    sound.keepable.fits.answers suits sound.fits.answers sound'.fits.answers (same_tails _ _ _ _ request.1) in
    let action : e.1.reply.action ≡ f.1.reply.action =
    sound.keepable.fits.action ∙ ap (λ (z : RequestValue). reply_action z.action) request.0 ∙ sym sound'.keepable.fits.action in
    let id : e.1.reply.id ≡ f.1.reply.id = sound.keepable.fits.id ∙ ap (λ (z : RequestValue). z.id) request.0 ∙ sym sound'.keepable.fits.id in (
      (λ i. (
        manager.0 i,
        record {
          number = number.0 i;
          request = request.0 i;
          reply = record { action = action i; id = id i; answers = answers.0 i };
        },
      )),
      answers.1,
    )

same_entries : (m n : ℕ) (es fs : List Pair)
    → length es ≡ length fs
    → All (EntryIsSound m) es
    → All (EntryIsSound n) fs
    → entries_image es ≡ entries_image fs
    → es ≡ fs
unfolding entries_image
same_entries m n [] [] size sound sound' same = refl
same_entries m n [] (f ∷ fs) size sound sound' same = absurd (omega arith)
same_entries m n (e ∷ es) [] size sound sound' same = absurd (omega arith)
same_entries m n (e ∷ es) (f ∷ fs) size sound sound' same =
    let first = one_entry m n e f (flat_map entry_image es) (flat_map entry_image fs) (All-head (EntryIsSound m) e es sound) (All-head (EntryIsSound n) f fs sound') same in
    let others = same_entries m n es fs (omega arith) (All-tail (EntryIsSound m) e es sound) (All-tail (EntryIsSound n) f fs sound') first.1 in
    λ i. first.0 i ∷ others i

-- ---- the clock

one_saved : (c d : SavedClock) → IsSaved c → IsSaved d → saved_image c ≡ saved_image d → c ≡ d
unfolding saved_image body_image
one_saved c d saved saved' same =
    let m = length (body_image c) in
    let n = length (body_image d) in
    let body = same_front (image_head 1 m) (image_head 1 n) (body_image c) (body_image d) (head_length 1 m ∙ sym (head_length 1 n)) same in
    let sets = one_image c.sets d.sets saved.consistent saved'.consistent saved.fits saved'.fits _ _ body.1 in
    let found = same_entries (answers_kept c.sets) (answers_kept d.sets) c.entries d.entries (same_heads _ _ _ _ sets.1) saved.entries.sound saved'.entries.sound (same_tails _ _ _ _ sets.1) in
    λ i. record { sets = sets.0 i; entries = found i }

one_table : (m n : Entries) → entries m ≡ entries n → m ≡ n
one_table m n same =
    same_map identities_total exact_identities m n (λ q. get-entries m q ∙ ap (find identity_cmp q) same ∙ sym (get-entries n q))

one_clock : (s t : State) → IsSaved (saved_of s) → IsSaved (saved_of t) → clock_image s ≡ clock_image t → s ≡ t
one_clock s t saved saved' same =
    let both : saved_of s ≡ saved_of t = one_saved (saved_of s) (saved_of t) saved saved' same in
    let table : s.entries ≡ t.entries = one_table s.entries t.entries (ap (λ (c : SavedClock). c.entries) both) in
    λ i. record { sets = (ap (λ (c : SavedClock). c.sets) both) i; entries = table i }

pub returns : goal.returns
returns c = one_clock
