use Rattle.ptpm_world.proofs.Common.{ap, arith, refl, rules, sym, subst, ◌≡◌, ◌≤◌, false, length, ◌∙◌, has_twice, identities, clock_value, network_value, RunningClock, configured, agent_clock}
use Rattle.ptpm_table.specs.Managers.{Clock}
use Rattle.ptpm_script.proofs.NetworkLaw.{of_text-accepted}
use Rattle.ptpm_world.proofs.StartingLemmas.{changed_last, clock_is, few_managers, is_last, none_twice, pushed_on, read_at, started_clock, starts_at, value_at}
use Rattle.ptpm_world.proofs.starting.start_clock.Goals as goal

pub data_sets-requires : goal.data_sets-requires
data_sets-requires c =
    let n = network_value c.args.network.now in
    let facts = of_text-accepted n c.args.network.now.of_text in
    let at = read_at c.args.network.now.clocks.items c.clocks.result.now c.args.place c.index-clocks-place.result c.clocks.ensures c.requires
    c.index-clocks-place.is in
    starts_at n facts c.args.place (clock_value c.index-clocks-place.result)
    (value_at c.args.network.now.clocks.items c.args.place c.index-clocks-place.result at)

pub admit-requires : goal.admit-requires
admit-requires c =
    let n = network_value c.args.network.now in
    let facts = of_text-accepted n c.args.network.now.of_text in
    let managers_are = c.as_slice.ensures.value ∙ c.in_ok-managers.ensures ∙ ap (λ ss. configured ss c.args.place) c.sessions.ensures in
    let old = c.args.running.now.items in
    let pushed = pushed_on old _ _ _ c.push_reserved.ensures.items c.reserve.ensures.items in
    let at : c.len-last.result ≡ length old = omega (arith, c.len-last.ensures, c.reserve.ensures.len, c.args.running.now.ok.0) in
    let is = is_last old _ c.len-last.result _ c.index_mut-clock.result.now pushed at c.index_mut-clock.ensures.value in (
      search rules,
      (
        ap (λ (r : RunningClock). (agent_clock r.agent).managers) is ∙ ap (λ (k : Clock). k.managers) c.without_managers.ensures.table.owner_is,
        (
          subst (λ ms. length ms ≤ 16) (sym managers_are) (few_managers n facts c.args.place),
          (
            subst (λ ms. has_twice (identities ms) ≡ false) (sym managers_are) (none_twice n.sessions c.args.place facts.session_identities),
            c.index_mut-clock.result.now.few_answers,
          ),
        ),
      ),
    )

pub returns : goal.returns
returns c =
    let n = network_value c.args.network.now in
    let k = c.index-clocks-place.result in
    let at = read_at c.args.network.now.clocks.items c.clocks.result.now c.args.place k c.clocks.ensures c.requires c.index-clocks-place.is in
    let managers_are = c.as_slice.ensures.value ∙ c.in_ok-managers.ensures ∙ ap (λ ss. configured ss c.args.place) c.sessions.ensures in
    let old = c.args.running.now.items in
    let pushed = pushed_on old _ _ _ c.push_reserved.ensures.items c.reserve.ensures.items in
    let last : c.len-last.result ≡ length old = omega (arith, c.len-last.ensures, c.reserve.ensures.len, c.args.running.now.ok.0) in
    let is = is_last old _ c.len-last.result _ c.index_mut-clock.result.now pushed last c.index_mut-clock.ensures.value in (
      _,
      (
        changed_last old _ c.len-last.result _ _ pushed last,
        started_clock n c.args.place (clock_value k) c.as_slice.result.now c.data_sets.result _ c.index_mut-clock.result.now _ is
            (clock_is c.args.network.now.clocks.items c.args.place k at) managers_are c.in_ok-name.ensures c.data_sets.ensures.sets
            c.without_managers.ensures.sets c.without_managers.ensures.table refl c.admit.ensures.sets c.admit.ensures.table,
      ),
    )
