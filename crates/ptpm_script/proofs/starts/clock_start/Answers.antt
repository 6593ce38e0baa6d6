use Rattle.std.proofs.Common.{◌∙◌, refl, w16, w32, w64}
use Rattle.std.proofs.lemmas.Int.{to_z-of_z}
use Rattle.ptpm_script.specs.Starts.{clock_over}
use Rattle.ptpm_script.proofs.starts.clock_start.Goals as goal

pub returns : goal.returns
unfolding clock_over
returns c =
    let offset = to_z-of_z w64 c.i64_or.result (record { sfits = c.i64_or.type_inv }) ∙ c.i64_or.ensures in
    let delay = to_z-of_z w64 c.i64_or-2.result (record { sfits = c.i64_or-2.type_inv }) ∙ c.i64_or-2.ensures in
    let rate = to_z-of_z w32 c.i32_or.result (record { sfits = c.i32_or.type_inv }) ∙ c.i32_or.ensures in
    let utc = to_z-of_z w16 c.i16_or.result (record { sfits = c.i16_or.type_inv }) ∙ c.i16_or.ensures in
    (λ i. record {
      identity = c.new-default.result.identity;
      domain = c.new-default.result.domain;
      user_description = record { items = c.description_at.ensures i };
      two_step = c.flag_or.ensures i;
      priority1 = c.u8_or.ensures i;
      clock_class = c.u8_or-2.ensures i;
      clock_accuracy = c.u8_or-3.ensures i;
      variance = c.u16_or.ensures i;
      priority2 = c.u8_or-4.ensures i;
      steps_removed = c.u16_or-2.ensures i;
      offset_from_master = offset i;
      mean_path_delay = delay i;
      parent_port = c.port_at.ensures i;
      parent_stats = c.flag_or-2.ensures i;
      observed_variance = c.u16_or-3.ensures i;
      observed_rate = rate i;
      grandmaster_priority1 = c.u8_at.ensures i;
      grandmaster_class = c.u8_at-2.ensures i;
      grandmaster_accuracy = c.u8_at-3.ensures i;
      grandmaster_variance = c.u16_at.ensures i;
      grandmaster_priority2 = c.u8_at-4.ensures i;
      grandmaster = c.clock_at.ensures i;
      utc_offset = utc i;
      leap61 = c.flag_or-3.ensures i;
      leap59 = c.flag_or-4.ensures i;
      utc_valid = c.flag_or-5.ensures i;
      ptp_timescale = c.flag_or-6.ensures i;
      time_traceable = c.flag_or-7.ensures i;
      frequency_traceable = c.flag_or-8.ensures i;
      time_source = c.u8_or-5.ensures i;
    }) ∙ rw c.new-default.ensures refl
