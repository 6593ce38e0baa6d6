-- A sender whose every answer is a refusal.
use Rattle.std.specs.Prelude.{◌≡◌, ◌+◌, ℕ, List, [], ◌++◌, length, map}
use Rattle.std.proofs.Common.{◌∙◌, ap, refl, subst, sym}
use Rattle.std.proofs.lemmas.List.{length-map, map-append}
use Rattle.ptpm_codec.specs.declared.error.ErrorId.{ErrorId}
use Rattle.ptpm_data.specs.Reply.{Answer, Refused}
use Rattle.ptpm_table.specs.declared.rendering.Sender.{Sender}
use Rattle.ptpm_table.specs.Sending.{HasSent}
use Rattle.ptpm_table.specs.SendingLaws.{sent_as_many, sent_count, sent_none, sent_twice}

-- the answer of the same port, or of the clock, with this error
abbrev pub refused_answer : ErrorId → Answer → Answer
refused_answer error a = record { port = a.port; outcome = Refused error }

-- a sender takes these answers, each as this refusal, and the error stays
pub record TakesAsRefused {O : Type 0} (sent : O → List (ℕ × List ℕ)) (grown : O → O → Type 0) (error : ErrorId) (before : Sender O) (xs : List Answer)
    (then : ErrorId) (after : Sender O) : Type 0 where
  pub error_is : then ≡ error
  pub sent_is : HasSent sent grown before (map (refused_answer error) xs) after

pub refused_none : {O : Type 0} (sent : O → List (ℕ × List ℕ)) (grown : O → O → Type 0)
    → ((o : O) → grown o o)
    → (error : ErrorId) (s : Sender O)
    → TakesAsRefused sent grown error s [] error s
refused_none sent grown none error s = record { error_is = refl; sent_is = sent_none sent grown none s }

pub refused_twice : {O : Type 0} (sent : O → List (ℕ × List ℕ)) (grown : O → O → Type 0)
    → ((o p q : O) → grown o p → grown p q → grown o q)
    → (e f g : ErrorId) (a b c : Sender O) (xs ys : List Answer)
    → TakesAsRefused sent grown e a xs f b
    → TakesAsRefused sent grown f b ys g c
    → TakesAsRefused sent grown e a (xs ++ ys) g c
refused_twice sent grown twice e f g a b c xs ys first second = record {
  error_is = second.error_is ∙ first.error_is;
  sent_is = subst (λ (zs : List Answer). HasSent sent grown a zs c) (sym (map-append (refused_answer e) xs ys))
      (sent_twice sent grown twice a b c (map (refused_answer e) xs) (map (refused_answer e) ys) first.sent_is
      (subst (λ (error : ErrorId). HasSent sent grown b (map (refused_answer error) ys) c) first.error_is second.sent_is));
}

pub refused_count : {O : Type 0} (sent : O → List (ℕ × List ℕ)) (grown : O → O → Type 0) (e f : ErrorId) (a b : Sender O) (xs : List Answer)
    → TakesAsRefused sent grown e a xs f b
    → length (sent b.out.now) ≡ length (sent a.out.now) + length xs
refused_count sent grown e f a b xs taken =
    sent_count sent grown a b (map (refused_answer e) xs) taken.sent_is
    ∙ ap (λ n. length (sent a.out.now) + n) (length-map xs (refused_answer e))

pub refused_as_many : {O : Type 0} (sent : O → List (ℕ × List ℕ)) (grown : O → O → Type 0) (most : O → ℕ)
    → ((o p : O) → grown o p → most p ≡ most o)
    → (e f : ErrorId) (a b : Sender O) (xs : List Answer)
    → TakesAsRefused sent grown e a xs f b
    → most b.out.now ≡ most a.out.now
refused_as_many sent grown most as_many e f a b xs taken =
    sent_as_many sent grown most as_many a b (map (refused_answer e) xs) taken.sent_is
