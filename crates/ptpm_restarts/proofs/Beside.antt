-- What a network that never crashes has in place of what this one has stored, and how the two compare.
use Rattle.ptpm_network.proofs.Common.{arith, ◌≡◌, ℕ, ◌&&◌, List, Result, Ok, Err, Clock, Message, DecodeError, judged, reading, turn, turn_by, Bool, true, false, if◌then◌else◌, refl, ◌∙◌, by_test, ◌⊎◌, inl, inr, ◌++◌, sym, subst, eqb-true, eq-eqb, true≢false, with_place, Held, RunningNetwork, at_place, at_places, with_place-same}
use Rattle.ptpm_agent.specs.declared.verdict.Verdict.{Verdict}
use Rattle.ptpm_agent.specs.Turn.{State, next_by}
use Rattle.ptpm_restarts.specs.Restarting.{after_verdict, RestartingNetwork, SessionLog, log_of, sent_or_waiting, turned, with_log}
use Rattle.ptpm_restarts.specs.Storage.{Stored, changed, noted, restored, saved, saved_as}
use Rattle.ptpm_restarts.specs.Incidents.{crashes_clock, saves_clock}
use Rattle.ptpm_restarts.proofs.Sent.{AreSent, sent-both, sent-crashed, sent-saved, wait-going, wait-lost}
use Rattle.ptpm_agent.specs.declared.verdict.Verdict.TheVariants as verdicts

-- ---- what a network that never crashes has in place of what this one has stored. It is the value as it is live, or, if a crash will
-- lose the changes that are not saved, as it is stored.

pub record IsSettled {A : Type 0} (lost : Bool) (x : Stored A) (a : A) : Type 0 where
  pub at : a ≡ (if lost then x.stored else x.live)
  pub clean : x.is_unsaved ≡ false → x.stored ≡ x.live

-- An act makes y of what is live, and x' of what is stored. It is lost if it is unsaved and a crash comes first. Else it stays.
pub record IsAct {A : Type 0} (lost : Bool) (x : Stored A) (a : A) (x' : Stored A) (y : A) : Type 0 where
  pub stays : lost && x'.is_unsaved ≡ true → IsSettled lost x' a
  pub goes : lost && x'.is_unsaved ≡ false → (a ≡ x.live) × IsSettled lost x' y

-- ---- tests

pub front-true : (a : Bool) → a && true ≡ true → a ≡ true
front-true true e = refl
front-true false e = e

pub front-false : (a : Bool) → a && true ≡ false → a ≡ false
front-false true e = e
front-false false e = refl

pub not_both : (a b : Bool) → b ≡ false → a && b ≡ false
not_both true b e = e
not_both false b e = refl

-- ---- acts

pub settled-as : {A : Type 0} (lost : Bool) (a b : A) → b ≡ a → IsSettled lost (saved_as a) b
settled-as true a b e = grind arith
settled-as false a b e = grind arith

pub settled-live : {A : Type 0} (lost : Bool) (x : Stored A) (a : A)
    → IsSettled lost x a → lost && x.is_unsaved ≡ false
    → a ≡ x.live
settled-live true x a h n = h.at ∙ h.clean n
settled-live false x a h n = h.at

pub settled-saved : {A : Type 0} (lost : Bool) (x : Stored A) (a : A) → IsSettled false x a → IsSettled lost (saved x) a
settled-saved lost x a h = settled-as lost x.live a h.at

pub settled-restored : {A : Type 0} (lost : Bool) (x : Stored A) (a : A) → IsSettled true x a → IsSettled lost (restored x) a
settled-restored lost x a h = settled-as lost x.stored a h.at

pub changed-act : {A : Type 0} (lost : Bool) (x : Stored A) (a y : A) → IsSettled lost x a → IsAct lost x a (changed x y) y
changed-act true x a y h = grind arith
changed-act false x a y h = grind arith

noted-by : {A : Type 0} (lost unsaved : Bool) (live stored a y : A)
    → IsSettled lost (record { live = live; stored = stored; is_unsaved = unsaved }) a
    → IsAct lost (record { live = live; stored = stored; is_unsaved = unsaved }) a
    (noted (record { live = live; stored = stored; is_unsaved = unsaved }) y) y
noted-by true true live stored a y h = grind arith
noted-by true false live stored a y h = grind arith
noted-by false true live stored a y h = grind arith
noted-by false false live stored a y h = grind arith

pub noted-act : {A : Type 0} (lost : Bool) (x : Stored A) (a y : A) → IsSettled lost x a → IsAct lost x a (noted x y) y
noted-act lost x a y h = noted-by lost x.is_unsaved x.live x.stored a y h

-- a turn that is not the first answer to a request leaves the clock as it is
kept-act : (lost : Bool) (x : Stored State) (a next : State) → IsSettled lost x a → next ≡ x.live → IsAct lost x a x next
kept-act lost x a next h e = grind (arith, settled-live)

abbrev pub NextIs : Verdict → State → State → Type 0
NextIs verdicts.AnsweredNew live next = Unit {0}
NextIs _ live next = next ≡ live

pub turn-act : (v : Verdict) (lost : Bool) (x : Stored State) (a next : State)
    → IsSettled lost x a → NextIs v x.live next
    → IsAct lost x a (after_verdict v x next) next
turn-act verdicts.AnsweredNew lost x a next h e = changed-act lost x a next h
turn-act _ lost x a next h e = kept-act lost x a next h e

-- the state after a turn, by its verdict
next_by-is : (v : Verdict) (c : Clock) (s : State) (m : Message) → NextIs v s (next_by v c s m)
next_by-is verdicts.AnsweredNew c s m = tt
next_by-is _ c s m = refl

turn_by-next : (c : Clock) (s : State) (ingress : ℕ) (datagram : List ℕ) (x : Result Message DecodeError)
    → NextIs (turn_by c s ingress datagram x).verdict s (turn_by c s ingress datagram x).next
turn_by-next c s ingress datagram (Err cause) = refl
turn_by-next c s ingress datagram (Ok v) = next_by-is (judged c s v) c s v

pub turn-next : (c : Clock) (s : State) (ingress : ℕ) (datagram : List ℕ)
    → NextIs (turn c s ingress datagram).verdict s (turn c s ingress datagram).next
unfolding turn
turn-next c s ingress datagram = turn_by-next c s ingress datagram (reading datagram)

-- ---- a network that never crashes, compared with one that does, if the changes of these clocks and sessions that are not saved will
-- be lost.

pub record IsBeside (lost_clocks lost_sessions : ℕ → Bool) (k : RestartingNetwork) (r : RunningNetwork) : Type 0 where
  pub clocks : (c : ℕ) → IsSettled (lost_clocks c) (k.clock c) (r.clock c)
  pub sessions : (s : ℕ) → IsSettled (lost_sessions s) (k.session s) (log_of r s)
  pub frames : AreSent lost_clocks k.frames k.waiting r.frames

pub here : {A : Type 0} (f : ℕ → A) (i : ℕ) (a : A) → with_place f i a i ≡ a
here f i a = with_place-same f i a i (eq-eqb i i refl)

-- one is saved or crashes, and no other
settled-other : {A : Type 0} (lost : ℕ → Bool) (i : ℕ) (b : Bool) (f : ℕ → Stored A) (x : Stored A) (g : ℕ → A) (j : ℕ)
    → IsSettled (lost i) x (g i) → IsSettled (with_place lost i b j) (f j) (g j)
    → IsSettled (lost j) (with_place f i x j) (g j)
settled-other lost i b f x g j new old = grind (arith, eqb-true)

module _ (lc ls : ℕ → Bool) (k : RestartingNetwork) (r : RunningNetwork) where
  -- ---- a clock's turn

  abbrev pub after_clock : ℕ → State → List Held → RunningNetwork
  after_clock c next made = record r { clock = with_place r.clock c next; frames = r.frames ++ made }

  goes-on : (c : ℕ) (x : Stored State) (next : State) (made : List Held) (b : Bool)
      → x.is_unsaved ≡ b → lc c && b ≡ false
      → IsBeside lc ls k r → IsSettled (lc c) x next
      → IsBeside lc ls (sent_or_waiting b (record k { clock = with_place k.clock c x }) c made) (after_clock c next made)
  goes-on c x next made true u n h settled = record {
    clocks = λ d. at_places (λ i y a. IsSettled (lc i) y a) k.clock r.clock c x next d settled (h.clocks d);
    sessions = h.sessions;
    frames = wait-going lc k.frames k.waiting r.frames c made (front-false (lc c) n) h.frames;
  }
  goes-on c x next made false u n h settled = record {
    clocks = λ d. at_places (λ i y a. IsSettled (lc i) y a) k.clock r.clock c x next d settled (h.clocks d);
    sessions = h.sessions;
    frames = sent-both lc k.frames k.waiting r.frames made h.frames;
  }

  stays-so : (c : ℕ) (x : Stored State) (made : List Held) (b : Bool)
      → x.is_unsaved ≡ b → lc c && b ≡ true
      → IsBeside lc ls k r → IsSettled (lc c) x (r.clock c)
      → IsBeside lc ls (sent_or_waiting b (record k { clock = with_place k.clock c x }) c made) r
  stays-so c x made true u y h settled = record {
    clocks = λ d. at_place (λ i z. IsSettled (lc i) z (r.clock i)) k.clock c x d settled (h.clocks d);
    sessions = h.sessions;
    frames = wait-lost lc k.frames k.waiting r.frames c made (front-true (lc c) y) h.frames;
  }
  stays-so c x made false u y h settled = absurd (true≢false (sym y ∙ not_both (lc c) false refl))

  pub turned-beside : (c : ℕ) (x : Stored State) (next : State) (made : List Held)
      → IsBeside lc ls k r → IsAct (lc c) (k.clock c) (r.clock c) x next
      → IsBeside lc ls (turned k c x made) r
      ⊎ ((r.clock c ≡ (k.clock c).live) × IsBeside lc ls (turned k c x made) (after_clock c next made))
  turned-beside c x next made h act = by_test (lc c && x.is_unsaved)
      (λ y. inl (stays-so c x made x.is_unsaved refl y h (act.stays y)))
      (λ n. inr ((act.goes n).0, goes-on c x next made x.is_unsaved refl n h (act.goes n).1))

  -- ---- a session acts

  pub log-stays : (s : ℕ) (x : Stored SessionLog)
      → IsBeside lc ls k r → IsSettled (ls s) x (log_of r s)
      → IsBeside lc ls (with_log k s x) r
  log-stays s x h settled = record {
    clocks = h.clocks;
    sessions = λ t. at_place (λ i z. IsSettled (ls i) z (log_of r i)) k.session s x t settled (h.sessions t);
    frames = h.frames;
  }

  -- ---- saves and crashes

  pub clock-saved : (c : ℕ) → IsBeside (with_place lc c false) ls k r → IsBeside lc ls (saves_clock k c) r
  clock-saved c h = record {
    clocks = λ d. settled-other lc c false k.clock (saved (k.clock c)) r.clock d
        (settled-saved (lc c) (k.clock c) (r.clock c) (subst (λ z. IsSettled z (k.clock c) (r.clock c)) (here lc c false) (h.clocks c))) (h.clocks d);
    sessions = h.sessions;
    frames = sent-saved lc k.frames k.waiting r.frames c h.frames;
  }

  pub clock-crashed : (c : ℕ) → IsBeside (with_place lc c true) ls k r → IsBeside lc ls (crashes_clock k c) r
  clock-crashed c h = record {
    clocks = λ d. settled-other lc c true k.clock (restored (k.clock c)) r.clock d
        (settled-restored (lc c) (k.clock c) (r.clock c) (subst (λ z. IsSettled z (k.clock c) (r.clock c)) (here lc c true) (h.clocks c))) (h.clocks d);
    sessions = h.sessions;
    frames = sent-crashed lc k.frames k.waiting r.frames c h.frames;
  }

  pub session-saved : (s : ℕ) → IsBeside lc (with_place ls s false) k r → IsBeside lc ls (with_log k s (saved (k.session s))) r
  session-saved s h = record {
    clocks = h.clocks;
    sessions = λ t. settled-other ls s false k.session (saved (k.session s)) (log_of r) t
        (settled-saved (ls s) (k.session s) (log_of r s) (subst (λ z. IsSettled z (k.session s) (log_of r s)) (here ls s false) (h.sessions s))) (h.sessions t);
    frames = h.frames;
  }

  pub session-crashed : (s : ℕ) → IsBeside lc (with_place ls s true) k r → IsBeside lc ls (with_log k s (restored (k.session s))) r
  session-crashed s h = record {
    clocks = h.clocks;
    sessions = λ t. settled-other ls s true k.session (restored (k.session s)) (log_of r) t
        (settled-restored (ls s) (k.session s) (log_of r s) (subst (λ z. IsSettled z (k.session s) (log_of r s)) (here ls s true) (h.sessions s))) (h.sessions t);
    frames = h.frames;
  }
