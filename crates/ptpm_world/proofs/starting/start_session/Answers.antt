use Rattle.ptpm_world.proofs.Common.{◌≡◌, ◌<◌, ℕ, Some, ap, ◌∙◌, refl, length, length-map, arith, slice_get, fresh, clock_value, network_value}
use Rattle.ptpm_script.specs.declared.network.Network.{Network}
use Rattle.ptpm_script.specs.declared.network.NetworkSession.{NetworkSession}
use Rattle.ptpm_script.specs.NetworkValue.{CanStart}
use Rattle.ptpm_script.proofs.NetworkLaw.{of_text-accepted}
use Rattle.ptpm_world.proofs.StartingLemmas.{clock_is, read_at, session_at_clock, started_session, starts_at, two_clocks, value_at}
use Rattle.ptpm_world.specs.Described.{no_session}
use Rattle.ptpm_world.proofs.DescribedLaws.{at_place}
use Rattle.ptpm_world.proofs.starting.start_session.Goals as goal
use Rattle.ptpm_world.proofs.starting.start_session.Goals.{After-index-clocks-session}

-- the target of a session is a clock of the network
below : (network : Network) (place : ℕ) (s : NetworkSession)
    → slice_get network.sessions.items place ≡ Some s
    → s.target < length network.clocks.items
below network place s here =
    let n = network_value network in
    omega (arith, (session_at_clock n (of_text-accepted n network.of_text) place s here).target, length-map network.clocks.items clock_value)

-- the session at its place
session_there : (c : After-index-clocks-session)
    → slice_get c.args.network.now.sessions.items c.args.place ≡ Some c.index-sessions-place.result
session_there c = read_at c.args.network.now.sessions.items c.sessions.result.now c.args.place c.index-sessions-place.result c.sessions.ensures c.requires c.index-sessions-place.is

-- its target
clock_there : (c : After-index-clocks-session)
    → slice_get c.args.network.now.clocks.items c.index-sessions-place.result.target ≡ Some c.index-clocks-session.result
clock_there c =
    read_at c.args.network.now.clocks.items c.clocks.result.now c.index-sessions-place.result.target c.index-clocks-session.result c.clocks.ensures
    (below c.args.network.now c.args.place c.index-sessions-place.result (session_there c)) c.index-clocks-session.is

-- which can start
starts : (c : After-index-clocks-session) → CanStart (clock_value c.index-clocks-session.result)
starts c =
    let n = network_value c.args.network.now in
    let target = c.index-sessions-place.result.target in
    starts_at n (of_text-accepted n c.args.network.now.of_text) target (clock_value c.index-clocks-session.result)
    (value_at c.args.network.now.clocks.items target c.index-clocks-session.result (clock_there c))

pub bounds-clocks-session : goal.bounds-clocks-session
bounds-clocks-session c =
    let s = c.index-sessions-place.result in
    let here = read_at c.args.network.now.sessions.items c.sessions.result.now c.args.place s c.sessions.ensures c.requires c.index-sessions-place.is in
    omega (arith, below c.args.network.now c.args.place s here, ap length c.clocks.ensures)

pub overflow_cast-len : goal.overflow_cast-len
overflow_cast-len c =
    omega (arith, (starts (goal.at.overflow_cast-len c).After-index-clocks-session).few_ports, c.len.ensures, c.index-clocks-session.result.ports.ok.0)

pub new-requires-clause-clocks : goal.new-requires-clause-clocks
new-requires-clause-clocks c =
    let here = (goal.at.new-requires-clause-clocks c).After-index-clocks-session in
    let n = network_value c.args.network.now in
    let facts = of_text-accepted n c.args.network.now.of_text in
    let s = c.index-sessions-place.result in
    let k = c.index-clocks-session.result in
    two_clocks n facts s (clock_value k) (session_at_clock n facts c.args.place s (session_there here))
    (value_at c.args.network.now.clocks.items s.target k (clock_there here))

pub new-requires-clause-some_port : goal.new-requires-clause-some_port
new-requires-clause-some_port c =
    omega (arith, (starts (goal.at.new-requires-clause-some_port c).After-index-clocks-session).some_port, c.len.ensures, c.index-clocks-session.result.ports.ok.0)

pub new-requires-clause-few_ports : goal.new-requires-clause-few_ports
new-requires-clause-few_ports c =
    omega (arith, (starts (goal.at.new-requires-clause-few_ports c).After-index-clocks-session).few_ports, c.len.ensures, c.index-clocks-session.result.ports.ok.0)

pub returns : goal.returns
returns c =
    let here = (goal.at.returns c).After-index-clocks-session in
    let n = network_value c.args.network.now in
    let s = c.index-sessions-place.result in
    let k = c.index-clocks-session.result in
    started_session n c.args.place s (clock_value k) _ (at_place n.sessions c.args.place s no_session (session_there here))
    (clock_is c.args.network.now.clocks.items s.target k (clock_there here)) c.in_ok-copy.ensures refl
    (c.new.ensures
    ∙ ap (λ p. fresh (record { me = s.identity; target = k.start.identity; ports = p; first = s.first; hops = s.hops; attempts = s.attempts }) s.domain)
    (c.len.ensures ∙ k.ports.ok.0))
    c.new-2.ensures.items
