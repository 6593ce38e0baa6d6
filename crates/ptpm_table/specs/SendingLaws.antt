-- What is sent after what was sent.
use Rattle.std.proofs.Common.{◌≡◌, ◌∙◌, ℕ, ◌+◌, ◌<◌, ◌^◌, Bool, List, [], ◌∷◌, ◌++◌, ap, append-nil, append_assoc, arith, length, length-append, map, refl, subst, sym, unwrap_or}
use Rattle.std.proofs.lemmas.List.{map-append}
use Rattle.std.proofs.lemmas.List.Elements.{All-append, All-cons}
use Rattle.std.specs.List.{All}
use Rattle.ptpm_codec.specs.Canonical.{canonical}
use Rattle.ptpm_codec.specs.declared.message.Action.{Action}
use Rattle.ptpm_codec.specs.declared.message.Message.{Message}
use Rattle.ptpm_codec.specs.Envelope.{envelope_of}
use Rattle.ptpm_codec.specs.Message.{BodyFits, Fits}
use Rattle.ptpm_table.specs.Rendering.{answer_body}
use Rattle.ptpm_data.specs.Reply.{Answer}
use Rattle.ptpm_table.specs.Sending.{HasSent, last_of_port, message_like}
use Rattle.ptpm_table.specs.declared.rendering.Sender.{Sender}

last_of_both : (b : Bool) (xs ys : List Answer) → last_of_port (last_of_port b xs) ys ≡ last_of_port b (xs ++ ys)
last_of_both b [] ys = refl
last_of_both b (a ∷ xs) ys = last_of_both _ xs ys

pub sent_none : {O : Type 0} (sent : O → List (ℕ × List ℕ)) (grown : O → O → Type 0)
    → ((o : O) → grown o o)
    → (a : Sender O)
    → HasSent sent grown a [] a
sent_none sent grown none a = record {
  grown_is = none a.out.now;
  same_reference = refl;
  envelope = refl;
  id = refl;
  fits = λ v action fits low k d below. absurd (omega arith);
  ingress = refl;
  of_port = refl;
  count = omega arith;
  messages = λ v action fits is. sym (append-nil (sent a.out.now));
}

pub sent_twice : {O : Type 0} (sent : O → List (ℕ × List ℕ)) (grown : O → O → Type 0)
    → ((o p q : O) → grown o p → grown p q → grown o q)
    → (a b c : Sender O) (xs ys : List Answer)
    → HasSent sent grown a xs b
    → HasSent sent grown b ys c
    → HasSent sent grown a (xs ++ ys) c
sent_twice sent grown twice a b c xs ys first second = record {
  grown_is = twice a.out.now b.out.now c.out.now first.grown_is second.grown_is;
  same_reference = second.same_reference ∙ first.same_reference;
  envelope = second.envelope ∙ first.envelope;
  id = second.id ∙ first.id;
  ingress = second.ingress ∙ first.ingress;
  of_port = second.of_port ∙ (ap (λ (o : Bool). last_of_port o ys) first.of_port ∙ last_of_both a.of_port xs ys);
  count = omega (arith, first.count, second.count, length-append xs ys);
  fits = λ v action fits low.
      All-append (λ (x : Answer). Fits (message_like v action a.id a.ingress x)) xs ys (first.fits v action fits low)
      (subst (λ (p : ℕ × ℕ). All (λ (x : Answer). Fits (message_like v action p.0 p.1 x)) ys) (λ i. (first.id i, first.ingress i)) (second.fits v action fits (subst (λ (i : ℕ). i < 2 ^ 16) (sym first.id) low)));
  messages = λ v action fits is.
      let here = first.envelope ∙ (is ∙ ap (λ (i : ℕ). envelope_of v action i) (sym first.id)) in
      second.messages v action fits here
      ∙ (λ i. first.messages v action fits is i ++ map (λ x. (first.ingress i, canonical (message_like v action (first.id i) (first.ingress i) x))) ys)
      ∙ append_assoc (sent a.out.now) (map (λ x. (a.ingress, canonical (message_like v action a.id a.ingress x))) xs)
      (map (λ x. (a.ingress, canonical (message_like v action a.id a.ingress x))) ys)
      ∙ ap (λ z. sent a.out.now ++ z) (sym (map-append (λ x. (a.ingress, canonical (message_like v action a.id a.ingress x))) xs ys));
}

pub sent_count : {O : Type 0} (sent : O → List (ℕ × List ℕ)) (grown : O → O → Type 0) (a b : Sender O) (xs : List Answer)
    → HasSent sent grown a xs b
    → length (sent b.out.now) ≡ length (sent a.out.now) + length xs
sent_count sent grown a b xs has = has.count

pub sent_as_many : {O : Type 0} (sent : O → List (ℕ × List ℕ)) (grown : O → O → Type 0) (most : O → ℕ)
    → ((o p : O) → grown o p → most p ≡ most o)
    → (a b : Sender O) (xs : List Answer)
    → HasSent sent grown a xs b
    → most b.out.now ≡ most a.out.now
sent_as_many sent grown most as_many a b xs has = as_many a.out.now b.out.now has.grown_is

pub one_fits : (v : Message) (action : Action) (id ingress : ℕ) (a : Answer)
    → Fits v
    → unwrap_or a.port ingress < 2 ^ 16
    → BodyFits (answer_body action id a.outcome)
    → All (λ x. Fits (message_like v action id ingress x)) (a ∷ [])
one_fits v action id ingress a fits port body =
    All-cons (λ x. Fits (message_like v action id ingress x)) a []
    (record { source = record { clock = fits.source.clock; port = port }; number = fits.number; target = fits.target; body = body })
    (λ k x below. absurd (omega arith))
