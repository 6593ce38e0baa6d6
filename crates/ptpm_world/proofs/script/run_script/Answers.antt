use Rattle.ptpm_world.proofs.Common.{◌+◌, ◌++◌, refl, subst, network_value, described, left_in, names_in, running, data_lines, report_lines, Appends, Appends-trans, TakesFirst}
use Rattle.ptpm_world.specs.declared.script_error.ScriptError.TheVariants as faults
use Rattle.ptpm_world.proofs.FaultLemmas.{outside}
use Rattle.ptpm_world.proofs.ScriptLemmas.{none-shown, script-cut, script-goes, script-prints, script-shows, script-stopped, stopped-file, stopped-first}
use Rattle.ptpm_world.proofs.StartedWorld.{started-is}
use Rattle.ptpm_world.proofs.Taking.{takes-after, takes-front, takes-kept, takes-whole}
use Rattle.ptpm_world.proofs.script.run_script.Goals as goal

pub returns-clause-printed : goal.returns-clause-printed
returns-clause-printed g c =
    let R = g.R.Read.remaining in
    let W = g.W.Write.contents in
    let n = network_value c.in_ok-network.network in
    let names = c.in_ok-play.ensures.names in
    let all = R c.args.reader in
    let second = left_in R c.read_network.new.script in
    let called = names_in c.in_ok-world.world in
    let start = running c.in_ok-world.world in
    let last = running c.play.new.world in
    let k = c.read_network.new.script.count + 1 in
    let is = c.in_ok-world.ensures.network in
    script-prints all second (W c.args.out.now) (W c.play.new.out) (W c.write_reports.new.out) (W c.write_data_sets.new.out) (W c.flush.new.self) n called start last k
    (script-goes all (left_in R c.in_ok-script.script) second n called start c.in_ok-script.script.count k c.in_ok-script.ensures.count c.in_ok-script.ensures.octets
    c.in_ok-network.ensures.network c.in_ok-world.ensures.names (started-is n c.in_ok-world.world is c.in_ok-world.ensures.stands))
    (c.in_ok-play.ensures.played (described n) is)
    (subst (λ m. Appends (W c.play.new.out) (W c.write_reports.new.out) (report_lines m last)) names c.in_ok-write_reports.ensures)
    (subst (λ m. Appends (W c.write_reports.new.out) (W c.write_data_sets.new.out) (data_lines m last)) names c.in_ok-write_data_sets.ensures)
    c.flush.ensures.bytes

pub returns-clause-headline : goal.returns-clause-headline
returns-clause-headline g c =
    let R = g.R.Read.remaining in
    let n = network_value c.in_ok-network.network in
    let all = R c.args.reader in
    let second = left_in R c.read_network.new.script in
    let called = names_in c.in_ok-world.world in
    let start = running c.in_ok-world.world in
    let k = c.read_network.new.script.count + 1 in
    let is = c.in_ok-world.ensures.network in
    script-shows all second (g.W.Write.contents c.args.out.now) (g.W.Write.contents c.play.new.out) n called start (running c.play.new.world) k c.in_ok-world.ensures.names c.in_ok-world.ensures.after
    (script-goes all (left_in R c.in_ok-script.script) second n called start c.in_ok-script.script.count k c.in_ok-script.ensures.count c.in_ok-script.ensures.octets
    c.in_ok-network.ensures.network c.in_ok-world.ensures.names (started-is n c.in_ok-world.world is c.in_ok-world.ensures.stands))
    (c.in_ok-play.ensures.played (described n) is)

pub returns-in_err-script-clause-printed : goal.returns-in_err-script-clause-printed
returns-in_err-script-clause-printed g c =
    stopped-first c.from_residual.result c.in_err-script.field-0.0 (g.R.Read.remaining c.args.reader) (g.W.Write.contents c.args.out.now) c.from_residual.ensures.1
    (λ inside. outside c.in_err-script.field-0.0 c.in_err-script.ensures.fault inside)

pub returns-in_err-network-clause-printed : goal.returns-in_err-network-clause-printed
returns-in_err-network-clause-printed g c =
    stopped-file c.from_residual-in_err-network.result c.in_err-network.field-0.0 (g.R.Read.remaining c.args.reader)
    (left_in g.R.Read.remaining c.in_ok-script.script) (g.W.Write.contents c.args.out.now) c.in_ok-script.script.count c.from_residual-in_err-network.ensures.1
    c.in_ok-script.ensures.count c.in_ok-script.ensures.octets c.in_err-network.ensures.fault

pub returns-in_err-world-clause-printed : goal.returns-in_err-world-clause-printed
returns-in_err-world-clause-printed g c =
    stopped-first c.from_residual-in_err-world.result faults.OutOfMemory (g.R.Read.remaining c.args.reader) (g.W.Write.contents c.args.out.now) c.from_residual-in_err-world.ensures.1
    (λ inside. outside faults.OutOfMemory refl inside)

pub returns-in_err-play-clause-printed : goal.returns-in_err-play-clause-printed
returns-in_err-play-clause-printed g c =
    let R = g.R.Read.remaining in
    let n = network_value c.in_ok-network.network in
    let all = R c.args.reader in
    let second = left_in R c.read_network.new.script in
    let called = names_in c.in_ok-world.world in
    let start = running c.in_ok-world.world in
    let k = c.read_network.new.script.count + 1 in
    let is = c.in_ok-world.ensures.network in
    script-stopped c.from_residual-in_err-play.result c.in_err-play.field-0.0 all second (g.W.Write.contents c.args.out.now) (g.W.Write.contents c.play.new.out) n called start k
    c.from_residual-in_err-play.ensures.1
    (script-goes all (left_in R c.in_ok-script.script) second n called start c.in_ok-script.script.count k c.in_ok-script.ensures.count c.in_ok-script.ensures.octets
    c.in_ok-network.ensures.network c.in_ok-world.ensures.names (started-is n c.in_ok-world.world is c.in_ok-world.ensures.stands))
    (c.in_err-play.ensures.played (described n) is)

pub returns-in_err-write_reports-clause-printed : goal.returns-in_err-write_reports-clause-printed
returns-in_err-write_reports-clause-printed g c =
    let R = g.R.Read.remaining in
    let W = g.W.Write.contents in
    let n = network_value c.in_ok-network.network in
    let names = c.in_ok-play.ensures.names in
    let all = R c.args.reader in
    let second = left_in R c.read_network.new.script in
    let called = names_in c.in_ok-world.world in
    let start = running c.in_ok-world.world in
    let last = running c.play.new.world in
    let k = c.read_network.new.script.count + 1 in
    let wrote = c.in_err-write_reports.ensures in
    script-cut c.from_residual-in_err-write_reports.result c.in_err-write_reports.field-0.0 all second (W c.args.out.now) (W c.play.new.out) (W c.write_reports.new.out) n called start last k
    c.from_residual-in_err-write_reports.ensures.1 wrote.0
    (script-goes all (left_in R c.in_ok-script.script) second n called start c.in_ok-script.script.count k c.in_ok-script.ensures.count c.in_ok-script.ensures.octets
    c.in_ok-network.ensures.network c.in_ok-world.ensures.names (started-is n c.in_ok-world.world c.in_ok-world.ensures.network c.in_ok-world.ensures.stands))
    (c.in_ok-play.ensures.played (described n) c.in_ok-world.ensures.network)
    (takes-front (data_lines called last)
    (subst (λ m. TakesFirst (report_lines m last) (W c.play.new.out) (W c.write_reports.new.out)) names wrote.1))

pub returns-in_err-write_data_sets-clause-printed : goal.returns-in_err-write_data_sets-clause-printed
returns-in_err-write_data_sets-clause-printed g c =
    let R = g.R.Read.remaining in
    let W = g.W.Write.contents in
    let n = network_value c.in_ok-network.network in
    let names = c.in_ok-play.ensures.names in
    let all = R c.args.reader in
    let second = left_in R c.read_network.new.script in
    let called = names_in c.in_ok-world.world in
    let start = running c.in_ok-world.world in
    let last = running c.play.new.world in
    let k = c.read_network.new.script.count + 1 in
    let wrote = c.in_err-write_data_sets.ensures in
    script-cut c.from_residual-in_err-write_data_sets.result c.in_err-write_data_sets.field-0.0 all second (W c.args.out.now) (W c.play.new.out) (W c.write_data_sets.new.out) n called start last k
    c.from_residual-in_err-write_data_sets.ensures.1 wrote.0
    (script-goes all (left_in R c.in_ok-script.script) second n called start c.in_ok-script.script.count k c.in_ok-script.ensures.count c.in_ok-script.ensures.octets
    c.in_ok-network.ensures.network c.in_ok-world.ensures.names (started-is n c.in_ok-world.world c.in_ok-world.ensures.network c.in_ok-world.ensures.stands))
    (c.in_ok-play.ensures.played (described n) c.in_ok-world.ensures.network)
    (takes-after (W c.play.new.out) (report_lines called last)
    (subst (λ m. Appends (W c.play.new.out) (W c.write_reports.new.out) (report_lines m last)) names c.in_ok-write_reports.ensures)
    (subst (λ m. TakesFirst (data_lines m last) (W c.write_reports.new.out) (W c.write_data_sets.new.out)) names wrote.1))

pub returns-in_err-flush-clause-printed : goal.returns-in_err-flush-clause-printed
returns-in_err-flush-clause-printed g c =
    let R = g.R.Read.remaining in
    let W = g.W.Write.contents in
    let n = network_value c.in_ok-network.network in
    let names = c.in_ok-play.ensures.names in
    let all = R c.args.reader in
    let second = left_in R c.read_network.new.script in
    let called = names_in c.in_ok-world.world in
    let start = running c.in_ok-world.world in
    let last = running c.play.new.world in
    let k = c.read_network.new.script.count + 1 in
    let reports = report_lines called last in
    let sets = data_lines called last in
    script-cut c.from_residual-in_err-flush.result faults.WriteFault all second (W c.args.out.now) (W c.play.new.out) (W c.flush.new.self) n called start last k
    c.from_residual-in_err-flush.ensures.1 refl
    (script-goes all (left_in R c.in_ok-script.script) second n called start c.in_ok-script.script.count k c.in_ok-script.ensures.count c.in_ok-script.ensures.octets
    c.in_ok-network.ensures.network c.in_ok-world.ensures.names (started-is n c.in_ok-world.world c.in_ok-world.ensures.network c.in_ok-world.ensures.stands))
    (c.in_ok-play.ensures.played (described n) c.in_ok-world.ensures.network)
    (takes-kept (W c.flush.new.self)
    (takes-whole (W c.play.new.out) (W c.write_data_sets.new.out) (reports ++ sets)
    (Appends-trans (W c.play.new.out) (W c.write_reports.new.out) (W c.write_data_sets.new.out) reports sets
    (subst (λ m. Appends (W c.play.new.out) (W c.write_reports.new.out) (report_lines m last)) names c.in_ok-write_reports.ensures)
    (subst (λ m. Appends (W c.write_reports.new.out) (W c.write_data_sets.new.out) (data_lines m last)) names c.in_ok-write_data_sets.ensures)))
    c.flush.ensures.bytes)

pub returns-in_err-script-clause-headline : goal.returns-in_err-script-clause-headline
returns-in_err-script-clause-headline g c = none-shown c.from_residual.result c.in_err-script.field-0.0 (g.R.Read.remaining c.args.reader) c.from_residual.ensures.1

pub returns-in_err-network-clause-headline : goal.returns-in_err-network-clause-headline
returns-in_err-network-clause-headline g c = none-shown c.from_residual-in_err-network.result c.in_err-network.field-0.0 (g.R.Read.remaining c.args.reader) c.from_residual-in_err-network.ensures.1

pub returns-in_err-world-clause-headline : goal.returns-in_err-world-clause-headline
returns-in_err-world-clause-headline g c = none-shown c.from_residual-in_err-world.result faults.OutOfMemory (g.R.Read.remaining c.args.reader) c.from_residual-in_err-world.ensures.1

pub returns-in_err-play-clause-headline : goal.returns-in_err-play-clause-headline
returns-in_err-play-clause-headline g c = none-shown c.from_residual-in_err-play.result c.in_err-play.field-0.0 (g.R.Read.remaining c.args.reader) c.from_residual-in_err-play.ensures.1

pub returns-in_err-write_reports-clause-headline : goal.returns-in_err-write_reports-clause-headline
returns-in_err-write_reports-clause-headline g c = none-shown c.from_residual-in_err-write_reports.result c.in_err-write_reports.field-0.0 (g.R.Read.remaining c.args.reader) c.from_residual-in_err-write_reports.ensures.1

pub returns-in_err-write_data_sets-clause-headline : goal.returns-in_err-write_data_sets-clause-headline
returns-in_err-write_data_sets-clause-headline g c = none-shown c.from_residual-in_err-write_data_sets.result c.in_err-write_data_sets.field-0.0 (g.R.Read.remaining c.args.reader) c.from_residual-in_err-write_data_sets.ensures.1

pub returns-in_err-flush-clause-headline : goal.returns-in_err-flush-clause-headline
returns-in_err-flush-clause-headline g c = none-shown c.from_residual-in_err-flush.result faults.WriteFault (g.R.Read.remaining c.args.reader) c.from_residual-in_err-flush.ensures.1
