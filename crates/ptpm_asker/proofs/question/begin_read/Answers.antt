use Rattle.std.proofs.Common.{◌≡◌, ◌∙◌, [], ℕ, true, refl, sym}
use Rattle.ptpm_data.specs.ManagementId.{is_of_port}
use Rattle.ptpm_asker.proofs.Permitted.{begins-also, memory-alone, of-clock}
use Rattle.ptpm_asker.proofs.question.begin_read.Goals as goal
use Rattle.ptpm_asker.proofs.question.begin_read.Goals.{then-is_of_port, else-is_of_port}

no-port : (id asked : ℕ) → id ≡ 0x2000 → is_of_port id ≡ true → is_of_port asked ≡ true
no-port id asked is port = of-clock asked (rw is at port)

pub returns-clause-memory : goal.returns-clause-memory
returns-clause-memory c h =
    let port : is_of_port c.if-is_of_port.id ≡ true → is_of_port c.args.wanted.now.id ≡ true =
    elim c.if-is_of_port.branch [
      | then-is_of_port w ↦ (λ port. sym c.is_of_port.ensures ∙ w.if-is_of_port.true)
      | else-is_of_port w ↦ no-port _ _ w.id-is
    ] in
    memory-alone _ _ c.begin_asked.ensures.no_other (begins-also _ _ c.if-is_of_port.id [] port refl h)
