-- Whose identity a stranger's datagram has: the clocks and sessions of a world have those of its network.
use Rattle.ptpm_world.proofs.Common.{suc, ◌≡◌, ℕ, ◌+◌, ◌||◌, List, [], ◌∷◌, Some, None, Bool, refl, ◌∙◌, ap, length, arith, nat_le, if◌then◌else◌, slice_get, list_any, range_with_len, PortIdentity, same_clock, same_identity, is_forged, is_taken, Network, manager, World, IsOf, sym, or_left}
use Rattle.ptpm_codec.specs.Layout.{source_port_identity}
use Rattle.ptpm_world.proofs.world.World.is_forged.Goals as goal

-- elements are tested as their places are
any-places : {X : Type 0} (test : X → Bool) (at : ℕ → Bool) (xs : List X) (a : ℕ)
    → ((i : ℕ) (x : X) → slice_get xs i ≡ Some x → test x ≡ at (a + i))
    → list_any test xs ≡ list_any at (range_with_len a (length xs))
any-places test at [] a each = refl
any-places test at (x ∷ xs) a each =
    let head : test x ≡ at a = each 0 x refl ∙ ap at (omega arith) in
    let tail = any-places test at xs (a + 1) (λ i y e. each (suc i) y e ∙ ap at (omega arith)) in grind (arith)

any-sessions : (N : Network) (w : World) (who : PortIdentity)
    → IsOf N w
    → list_any (λ x. same_identity who x.identity) w.sessions.items
    ≡ list_any (λ s. same_identity who (manager N s)) (range_with_len 0 N.sessions)
any-sessions N w who is = grind (arith, any-places)

-- an identity is taken in the network if a clock or a session of the world has it
taken : (N : Network) (w : World) (who : PortIdentity) → IsOf N w
    → (list_any (λ x. same_clock who.clock x.agent.table.clock) w.clocks.items
    || list_any (λ x. same_identity who x.identity) w.sessions.items) ≡ is_taken N who
taken N w who is = grind (arith, any-sessions, any-places)

forged-source : (N : Network) (d : List ℕ) (who : PortIdentity)
    → (if nat_le 30 (length d) then Some (source_port_identity d) else None) ≡ Some who
    → is_forged N d ≡ is_taken N who
forged-source N d who e = grind arith

pub returns-then-is_of_clock : goal.returns-then-is_of_clock
returns-then-is_of_clock c = λ N is.
    let w = c.args.self.now in
    let who = c.in-Some.source in
    let found = ap (list_any (λ x. same_clock who.clock x.agent.table.clock)) (sym c.as_slice.ensures.value) ∙ sym c.is_of_clock.ensures ∙ c.if-is_of_clock.true in
    c.if-is_of_clock.true
    ∙ sym (forged-source N c.args.datagram.now who (sym c.in-Some.ensures) ∙ sym (taken N w who is) ∙ or_left _ (list_any (λ x. same_identity who x.identity) w.sessions.items) found)

pub returns-else-is_of_clock : goal.returns-else-is_of_clock
returns-else-is_of_clock c = λ N is.
    let w = c.args.self.now in
    let who = c.in-Some.source in
    let clocks = ap (list_any (λ x. same_clock who.clock x.agent.table.clock)) (sym c.as_slice.ensures.value) ∙ sym c.is_of_clock.ensures ∙ c.if-is_of_clock.false in
    c.is_of_session.ensures
    ∙ ap (list_any (λ x. same_identity who x.identity)) c.as_slice-else-is_of_clock.ensures.value
    ∙ sym (ap (λ b. b || list_any (λ x. same_identity who x.identity) w.sessions.items) clocks)
    ∙ taken N w who is ∙ sym (forged-source N c.args.datagram.now who (sym c.in-Some.ensures))
