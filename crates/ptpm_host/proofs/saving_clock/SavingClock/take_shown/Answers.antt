use Rattle.std.proofs.Common.{◌≡◌, ◌∙◌, ap, false, refl, rules, take}
use Rattle.ptpm_table.specs.Tables.{owner_of_block}
use Rattle.ptpm_host.specs.declared.clock.HostedClock.{HostedClock}
use Rattle.ptpm_host.specs.Clock.{clock_in, messages_in}
use Rattle.ptpm_device.specs.Saying.{said_value}
use Rattle.ptpm_host.specs.SavingClock.{request_under_way}
use Rattle.ptpm_host.proofs.AskedCalls.{asks_called, led_to}
use Rattle.ptpm_host.proofs.SavingCalls.{shown_not_new, shown_turn}
use Rattle.ptpm_host.proofs.saving_clock.SavingClock.take_shown.Goals as goal

pub returns-clause-called : goal.returns-clause-called
returns-clause-called c = λ b count as_batch.
    let last : HostedClock = record c.deref_mut-3.result.now { agent = c.swap_sets-2.new.self } in
    let with_table : c.deref_mut-2.result.now.agent.table ≡ c.args.self.now.clock.value.agent.table = first_of (search rules, cc) in
    let with_rows : c.deref_mut-2.result.now.relayed.items ≡ c.args.self.now.clock.value.relayed.items = first_of (search rules, cc) in
    let with_sets : c.deref_mut-2.result.now.agent.sets ≡ c.args.self.now.shown = first_of (search rules, cc) in
    let back : c.swap_sets-2.new.self.sets ≡ c.args.self.now.clock.value.agent.sets = first_of (search rules, cc) in
    let table : c.swap_sets-2.new.self.table ≡ c.carry_out-handled.new.self.agent.table = first_of (search rules, cc) in
    let rows : last.relayed.items ≡ c.carry_out-handled.new.self.relayed.items = first_of (search rules, cc) in
    let now : c.swap_sets-2.new.sets ≡ c.carry_out-handled.new.self.agent.sets = first_of (search rules, cc) in
    let turned : c.deref_mut-3.result.now.under_way ≡ c.carry_out-handled.new.self.under_way = first_of (search rules, cc) in
    let kept : c.carry_out-handled.new.self.under_way ≡ c.args.self.now.clock.value.under_way = first_of (search rules, cc) in
    let under_way = turned ∙ kept in
    led_to _ _ _ count
    (shown_turn c.args.self.now c.deref_mut-2.result.now c.carry_out-handled.new.self last c.swap_sets-2.new.sets c.args.port c.args.datagram.now
    (said_value c.args.said) c.carry_out-handled.result.verdict (messages_in (take c.carry_out-handled.result.count c.carry_out-handled.new.room))
    with_table with_rows with_sets c.carry_out-handled.ensures.turned c.carry_out-handled.ensures.clock back table rows now under_way c.requires.other
    b count as_batch.kept c.requires.ready)
    (asks_called c.args.self.now _ b count as_batch c.args.port c.args.datagram.now (said_value c.args.said) false (record {
      clock =
          let last_clock : clock_in last ≡ clock_in c.carry_out-handled.new.self = λ i. record { clock = owner_of_block (table i); rows = rows i } in
          let first_clock : clock_in c.deref_mut-2.result.now ≡ clock_in c.args.self.now.clock.value =
          λ i. record { clock = owner_of_block (with_table i); rows = with_rows i } in
          last_clock ∙ c.carry_out-handled.ensures.clock ∙ first_clock;
      acting = refl;
      under_way = ap request_under_way under_way;
      imaged = λ is. is;
    }))

pub returns-clause-new : goal.returns-clause-new
returns-clause-new c =
    let last : HostedClock = record c.deref_mut-3.result.now { agent = c.swap_sets-2.new.self } in
    let with_table : c.deref_mut-2.result.now.agent.table ≡ c.args.self.now.clock.value.agent.table = first_of (search rules, cc) in
    let with_rows : c.deref_mut-2.result.now.relayed.items ≡ c.args.self.now.clock.value.relayed.items = first_of (search rules, cc) in
    let with_sets : c.deref_mut-2.result.now.agent.sets ≡ c.args.self.now.shown = first_of (search rules, cc) in
    let back : c.swap_sets-2.new.self.sets ≡ c.args.self.now.clock.value.agent.sets = first_of (search rules, cc) in
    let table : c.swap_sets-2.new.self.table ≡ c.carry_out-handled.new.self.agent.table = first_of (search rules, cc) in
    let rows : last.relayed.items ≡ c.carry_out-handled.new.self.relayed.items = first_of (search rules, cc) in
    let now : c.swap_sets-2.new.sets ≡ c.carry_out-handled.new.self.agent.sets = first_of (search rules, cc) in
    let turned : c.deref_mut-3.result.now.under_way ≡ c.carry_out-handled.new.self.under_way = first_of (search rules, cc) in
    let kept : c.carry_out-handled.new.self.under_way ≡ c.args.self.now.clock.value.under_way = first_of (search rules, cc) in
    let under_way = turned ∙ kept in
    shown_not_new c.args.self.now c.deref_mut-2.result.now c.carry_out-handled.new.self last c.swap_sets-2.new.sets c.args.port
    c.args.datagram.now (said_value c.args.said) c.carry_out-handled.result.verdict
    (messages_in (take c.carry_out-handled.result.count c.carry_out-handled.new.room)) with_table with_rows with_sets c.carry_out-handled.ensures.turned
    c.carry_out-handled.ensures.clock back table rows now under_way c.requires.other
