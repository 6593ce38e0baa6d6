-- Laws of asks: what is not refused is a request with one answer.
use Rattle.std.proofs.Common.{◌≡◌, ◌≤◌, ℕ, Bool, true, false, not, ◌&&◌, cond, nat_le, [], ◌∷◌, Option, Some, None, inl, inr, refl, sym, subst, ⊎_elim}
use Rattle.std.proofs.lemmas.Bool.{and_parts, cases_Bool, cond-false, leb-true, not-false}
use Rattle.std.specs.Option.{option_or}
use Rattle.ptpm_codec.specs.Identity.{every_port}
use Rattle.ptpm_codec.specs.Ordered.{first_of}
use Rattle.ptpm_codec.specs.Message.{is_data_field, is_reply}
use Rattle.ptpm_codec.proofs.MessageLaws.{is_data_field-IsDataField}
use Rattle.ptpm_data.specs.ManagementId.{is_of_port}
use Rattle.ptpm_data.proofs.StartLemmas.{passes}
use Rattle.ptpm_manager.specs.declared.ask.Ask.{Ask}
use Rattle.ptpm_manager.specs.declared.error.BeginError.{BeginError}
use Rattle.ptpm_data.specs.Request.{RequestValue}
use Rattle.ptpm_manager.specs.Ask.{IsAskedOf, IsRequestTo, ask_refusal, named_ask_refusal, named_port, names_port, request_at_port, request_of, target_port}

-- if the first of two tests holds and they do not both, the second's opposite does
other-true : (p q : Bool) → (p && not q) ≡ false → p ≡ true → q ≡ true
other-true p true h t = refl
other-true true false h t = sym h
other-true false false h t = t

named : (ports : ℕ) (port : Option ℕ)
    → names_port ports port ≡ true
    → (1 ≤ named_port port) × (named_port port ≤ ports)
named ports None h = cc
named ports (Some port) h = let parts = and_parts (nat_le 1 port) _ h in (leb-true 1 port parts.0, leb-true port ports parts.1)

-- what is asked and not refused
pub request_of-permitted : (ports : ℕ) (a : Ask)
    → ask_refusal ports a ≡ None
    → IsRequestTo ports (request_of a)
unfolding ask_refusal target_port
request_of-permitted ports a h =
    let port = passes (is_of_port a.id && not (names_port ports a.port)) _ _ h in
    let action = passes (is_reply a.action) _ _ port.1 in
    let octets = passes (not (is_data_field a.octets)) _ _ action.1 in
    record {
      action = action.0;
      octets = is_data_field-IsDataField a.octets (not-false _ octets.0);
      port = λ p. subst (λ (b : Bool). (1 ≤ cond b (named_port a.port) every_port) × (cond b (named_port a.port) every_port ≤ ports)) (sym p)
          (named ports a.port (other-true (is_of_port a.id) _ port.0 p));
      every = λ p. cond-false _ (named_port a.port) every_port p;
    }

-- a session makes such a request
pub asked_of : (ports : ℕ) (q : RequestValue) → IsRequestTo ports q → IsAskedOf ports q
asked_of ports q r = record {
  action = r.action;
  octets = r.octets;
  target = ⊎_elim
      (λ (p : is_of_port q.id ≡ true). inl (r.port p))
      (λ (p : is_of_port q.id ≡ false). inr (p, r.every p))
      (cases_Bool (is_of_port q.id));
}

named_passes : (b : Bool) (e : BeginError) (r : Option BeginError)
    → option_or (first_of ((b, e) ∷ [])) r ≡ None
    → (b ≡ false) × (r ≡ None)
named_passes true e r h = cc
named_passes false e r h = (refl, h)

-- and what is asked and not refused at the port that is named
pub request_at_port-permitted : (ports : ℕ) (a : Ask)
    → named_ask_refusal ports a ≡ None
    → IsAskedOf ports (request_at_port a)
unfolding named_ask_refusal ask_refusal
request_at_port-permitted ports a h =
    let has = named_passes (not (names_port ports a.port)) _ _ h in
    let port = passes (is_of_port a.id && not (names_port ports a.port)) _ _ has.1 in
    let action = passes (is_reply a.action) _ _ port.1 in
    let octets = passes (not (is_data_field a.octets)) _ _ action.1 in
    record {
      action = action.0;
      octets = is_data_field-IsDataField a.octets (not-false _ octets.0);
      target = inl (named ports a.port (not-false _ has.0));
    }
