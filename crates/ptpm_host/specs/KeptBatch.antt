-- What is kept of a process that is saved in batches: its state, what of it is shown, and the messages.
use Rattle.std.specs.Prelude.{◌≡◌, ◌≤◌, ◌+◌, ◌-◌, ℕ, Bool, true, false, ◌&&◌, ◌||◌, if◌then◌else◌, List, [], ◌++◌, drop, length, replicate, take}
use Rattle.ptpm_saved.specs.Saving.{Process, after_all, all_messages}
use Rattle.ptpm_saved.specs.Batching.{Batch, GivesOut, calls_each, changes_in, live, shown, shown_from, waits}

pub record KeptBatch (S V M : Type 0) : Type 0 where
  pub live : S
  -- what others see, and what they see once the latest image is saved
  pub shown : V
  pub copied : V
  -- the messages that were released, `ready` in number, then those that wait for that image, then the rest
  pub messages : List M
  pub ready : ℕ
  pub first : ℕ
  -- whether that image counts; whether anything waits; and whether it changed since that image
  pub is_imaged : Bool
  pub waits : Bool
  pub is_changed : Bool

-- its latest image was made after the first `count` of what happened since
pub record IsImage {S V A N M : Type 0} (p : Process S A N M) (look : S → V) (k : KeptBatch S V M) (b : Batch S A N M) (count : ℕ) : Type 0 where
  pub inside : count ≤ length b.since
  pub copied : look (shown_from p (after_all p b.base (take count b.since)) (drop count b.since)) ≡ k.copied
  pub is_changed : changes_in p (after_all p b.base (take count b.since)) (drop count b.since) ≡ k.is_changed
  pub first : length (all_messages p b.base (take count b.since)) ≡ k.first

abbrev pub IsImageIf : {S V A N M : Type 0} → Bool → Process S A N M → (S → V) → KeptBatch S V M → Batch S A N M → ℕ → Type 0
IsImageIf true p look k b count = IsImage p look k b count
IsImageIf false p look k b count = Unit {0}

-- it is that batch
pub record IsKept {S V A N M : Type 0} (p : Process S A N M) (look : S → V) (k : KeptBatch S V M) (b : Batch S A N M) (count : ℕ) : Type 0 where
  pub live : live p b ≡ k.live
  pub shown : look (shown p b) ≡ k.shown
  pub waits : waits b.since ≡ k.waits
  pub messages : k.messages ≡ b.ready ++ all_messages p b.base b.since
  pub ready : length b.ready ≡ k.ready
  pub image : IsImageIf k.is_imaged p look k b count

-- each message that was ready was given out
abbrev pub all_given : {S A N M : Type 0} → Batch S A N M → Batch S A N M
all_given b = record b { ready = []; sent = b.sent ++ b.ready }

-- a call for each of them gives it out
abbrev pub IsGivenOut : {S A N M : Type 0} → Process S A N M → (A → Bool) → Batch S A N M → Type 0
IsGivenOut p held b = calls_each p held b (replicate (length b.ready) GivesOut) ≡ all_given b

-- a call at the batch gives these messages out at once, and it is the batch after it
pub record LeadsTo {S V A N M : Type 0} (p : Process S A N M) (look : S → V) (given : List M) (k : KeptBatch S V M) (after : Batch S A N M) (count : ℕ) : Type 0 where
  pub given_out : after.ready ≡ given
  pub as_batch : IsKept p look k (all_given after) count

-- ---- after each call

-- an input waits
abbrev pub kept_held : {S V M : Type 0} → S → List M → Bool → KeptBatch S V M → KeptBatch S V M
kept_held now made changes k = record k { live = now; messages = k.messages ++ made; waits = true; is_changed = k.is_changed || changes }

abbrev pub kept_observed : {S V M : Type 0} → S → (V → V) → KeptBatch S V M → KeptBatch S V M
kept_observed now move k = record k { live = now; shown = move k.shown; copied = move k.copied; is_imaged = k.is_imaged && k.waits }

abbrev pub kept_imaged : {S V M : Type 0} → V → KeptBatch S V M → KeptBatch S V M
kept_imaged copied k = record k { copied = copied; first = length k.messages - k.ready; is_imaged = true; is_changed = false }

abbrev pub kept_confirmed : {S V M : Type 0} → KeptBatch S V M → KeptBatch S V M
kept_confirmed k = record k {
  shown = k.copied;
  ready = if k.is_changed then k.ready + k.first else length k.messages;
  first = 0;
  is_imaged = false;
  waits = k.is_changed;
}
