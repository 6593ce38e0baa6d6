use Rattle.std.proofs.Common.{◌∙◌, refl, w8, w64}
use Rattle.std.proofs.lemmas.Int.{to_z-of_z}
use Rattle.ptpm_script.specs.Starts.{port_over}
use Rattle.ptpm_script.proofs.starts.port_start.Goals as goal

pub returns : goal.returns
unfolding port_over
returns c =
    let delay_req = to_z-of_z w8 c.i8_or.result (record { sfits = c.i8_or.type_inv }) ∙ c.i8_or.ensures in
    let delay = to_z-of_z w64 c.i64_or.result (record { sfits = c.i64_or.type_inv }) ∙ c.i64_or.ensures in
    let announce = to_z-of_z w8 c.i8_or-2.result (record { sfits = c.i8_or-2.type_inv }) ∙ c.i8_or-2.ensures in
    let sync = to_z-of_z w8 c.i8_or-3.result (record { sfits = c.i8_or-3.type_inv }) ∙ c.i8_or-3.ensures in
    let pdelay = to_z-of_z w8 c.i8_or-4.result (record { sfits = c.i8_or-4.type_inv }) ∙ c.i8_or-4.ensures in
    (λ i. record {
      state = c.u8_or.ensures i;
      log_min_delay_req = delay_req i;
      peer_delay = delay i;
      log_announce = announce i;
      receipt_timeout = c.u8_or-2.ensures i;
      log_sync = sync i;
      delay_mechanism = c.u8_or-3.ensures i;
      log_min_pdelay = pdelay i;
    }) ∙ rw c.new-default.ensures refl
