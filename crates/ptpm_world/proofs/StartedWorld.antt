-- A world that is where its network starts is the started network.
use Rattle.ptpm_world.proofs.Common.{◌≡◌, ℕ, ◌<◌, ◌≤◌, ⊎_elim, Option, Some, None, length, refl, sym, ap, ◌∙◌, arith, cases_lt, get_or_past, slice_get_past, PortIdentity, identity_cmp, DataSetsValue, Entry, IsKept, StandsAt, initial_clock_state, State, Stands, initial_state, NetworkValue, first_sets, World, clock_at, described, no_clock, IsOf, reports_of, running, session_of, state_of, started_session}
use Rattle.std.specs.FinMap.{empty, get, get-empty, same_map}
use Rattle.ptpm_table.proofs.Identities.{exact_identities, identities_total}
use Rattle.ptpm_agent.specs.Once.{initial_history}
use Rattle.ptpm_world.specs.Described.{no_session}
use Rattle.ptpm_world.specs.Script.{started}
use Rattle.ptpm_world.proofs.DescribedLaws.{there}

-- ---- a clock

nothing_kept : (first : PortIdentity → ℕ) (d : DataSetsValue) (m : PortIdentity) (o : Option Entry)
    → IsKept first (initial_history d) m o
    → o ≡ None
nothing_kept first d m None h = refl
nothing_kept first d m (Some e) h = absurd (omega (arith, h.some))

fresh_clock : (first : PortIdentity → ℕ) (s : State) (d : DataSetsValue)
    → StandsAt first s (initial_history d)
    → s ≡ initial_clock_state d
fresh_clock first s d h =
    let none : s.entries ≡ empty =
    same_map identities_total exact_identities s.entries empty (λ m. nothing_kept first d m (get s.entries m) (h.entries m) ∙ sym (get-empty identity_cmp m)) in
    λ i. record { sets = h.sets i; entries = none i }

-- ---- the whole

pub started-is : (n : NetworkValue) (w : World)
    → IsOf (described n) w
    → ((first : ℕ → PortIdentity → ℕ)
    → Stands (described n) first (running w) (initial_state (described n)))
    → running w ≡ started n
started-is n w is stands =
    let at : Stands (described n) (λ c m. 0) (running w) (initial_state (described n)) = stands (λ c m. 0) in
    λ i. record {
      clock = λ c. ⊎_elim
          (λ (within : c < length n.clocks). fresh_clock (λ m. 0) ((running w).clock c) (first_sets (clock_at n c)) (at.clocks c within))
          (λ (past : length n.clocks ≤ c).
          ap state_of (slice_get_past w.clocks.items c (omega (arith, is.clock_count)))
          ∙ ap (λ x. initial_clock_state (first_sets x)) (sym (get_or_past n.clocks c no_clock past)))
          (cases_lt c (length n.clocks)) i;
      session = λ s. ⊎_elim
          (λ (within : s < length n.sessions). at.sessions s within ∙ ap (started_session n) (sym (there n.sessions s no_session within)))
          (λ (past : length n.sessions ≤ s).
          ap session_of (slice_get_past w.sessions.items s (omega (arith, is.session_count)))
          ∙ ap (started_session n) (sym (slice_get_past n.sessions s past)))
          (cases_lt s (length n.sessions)) i;
      reports = λ s. ⊎_elim
          (λ (within : s < length n.sessions). at.reports s within)
          (λ (past : length n.sessions ≤ s). ap reports_of (slice_get_past w.sessions.items s (omega (arith, is.session_count))))
          (cases_lt s (length n.sessions)) i;
      frames = at.frames i;
    }
