use Rattle.std.proofs.Common.{arith, length, subst, sym}
use Rattle.ptpm_codec.specs.Message.{reply_action}
use Rattle.ptpm_data.specs.ManagementId.{is_of_port}
use Rattle.ptpm_table.specs.Entries.{FitsCount}
use Rattle.ptpm_table.specs.KeptMessages.{Envelope, KeptValue, pieces}
use Rattle.ptpm_table.specs.Lending.{EntryFits}
use Rattle.ptpm_table.proofs.LendingLaws.{answers_fit, envelope_fits}
use Rattle.ptpm_table.proofs.slot.Kept.entry.Goals as goal

pub returns-clause-fits : goal.returns-clause-fits
returns-clause-fits c = λ keepable.
    let k = c.self.inside in
    let e : Envelope = record { clock = k.clock; manager = k.manager; number = k.number; action = reply_action k.action; id = k.id } in
    let count = subst (λ (v : KeptValue). FitsCount (is_of_port v.entry.request.id) (length v.entry.reply.answers)) (sym c.self.view_is) keepable.fits.count in
    let common = envelope_fits e k.of_port (is_of_port k.id) (pieces k.reply.sizes k.reply.octets) c.self.invariant.0.each count in
    subst (λ (v : KeptValue). EntryFits (record { manager = v.manager; entry = v.entry })) c.self.view_is
    (record {
      manager = common.manager;
      number = common.number;
      id = common.id;
      port = omega arith;
      answers = answers_fit e k.of_port (pieces k.reply.sizes k.reply.octets) c.self.invariant.0.each;
    })
