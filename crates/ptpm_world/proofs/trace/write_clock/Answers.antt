use Rattle.ptpm_world.proofs.Common.{Appends-trans}
use Rattle.ptpm_world.specs.Trace.{data_set_lines}
use Rattle.ptpm_world.proofs.Taking.{takes-after, takes-front, writes-after, writes-err}
use Rattle.ptpm_world.proofs.trace.write_clock.Goals as goal

pub returns-in_err-write_data : goal.returns-in_err-write_data
unfolding data_set_lines
returns-in_err-write_data g c =
    writes-err c.from_residual.result c.in_err-write_data.field-0.0 c.from_residual.ensures.1 c.in_err-write_data.ensures.0
    (takes-front _ (takes-front _ (takes-front _ (takes-front _ c.in_err-write_data.ensures.1))))

pub returns-in_err-write_data-2 : goal.returns-in_err-write_data-2
unfolding data_set_lines
returns-in_err-write_data-2 g c =
    writes-err c.from_residual-in_err-write_data-2.result c.in_err-write_data-2.field-0.0 c.from_residual-in_err-write_data-2.ensures.1 c.in_err-write_data-2.ensures.0
    (takes-front _ (takes-front _ (takes-front _ (takes-after _ _ c.in_ok-write_data.ensures c.in_err-write_data-2.ensures.1))))

pub returns-in_err-write_data-3 : goal.returns-in_err-write_data-3
unfolding data_set_lines
returns-in_err-write_data-3 g c =
    let two = Appends-trans _ _ _ _ _ c.in_ok-write_data.ensures c.in_ok-write_data-2.ensures in
    writes-err c.from_residual-in_err-write_data-3.result c.in_err-write_data-3.field-0.0 c.from_residual-in_err-write_data-3.ensures.1 c.in_err-write_data-3.ensures.0
    (takes-front _ (takes-front _ (takes-after _ _ two c.in_err-write_data-3.ensures.1)))

pub returns-in_err-write_data-4 : goal.returns-in_err-write_data-4
unfolding data_set_lines
returns-in_err-write_data-4 g c =
    let two = Appends-trans _ _ _ _ _ c.in_ok-write_data.ensures c.in_ok-write_data-2.ensures in
    let three = Appends-trans _ _ _ _ _ two c.in_ok-write_data-3.ensures in
    writes-err c.from_residual-in_err-write_data-4.result c.in_err-write_data-4.field-0.0 c.from_residual-in_err-write_data-4.ensures.1 c.in_err-write_data-4.ensures.0
    (takes-front _ (takes-after _ _ three c.in_err-write_data-4.ensures.1))

pub returns : goal.returns
unfolding data_set_lines
returns g c =
    let two = Appends-trans _ _ _ _ _ c.in_ok-write_data.ensures c.in_ok-write_data-2.ensures in
    let three = Appends-trans _ _ _ _ _ two c.in_ok-write_data-3.ensures in
    let four = Appends-trans _ _ _ _ _ three c.in_ok-write_data-4.ensures in
    writes-after c.write_data-5.result _ _ _ _ _ four c.write_data-5.ensures
