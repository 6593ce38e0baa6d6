use Rattle.std.proofs.Common.{◌∙◌, ◌++◌, subst, sym}
use Rattle.byteorder.specs.Endian.{big_bytes}
use Rattle.ptpm_data.specs.Request.{RequestValue}
use Rattle.ptpm_manager.specs.Image.{request_image}
use Rattle.ptpm_table.specs.Lending.{IsKeepable}
use Rattle.ptpm_saved.specs.Image.{reply_image}
use Rattle.ptpm_saved.proofs.ReadingLemmas.{entry_parts, request_fits}
use Rattle.ptpm_saved.proofs.entry_reading.read_entry.Goals as goal

pub returns-in_err-octets-clause-found : goal.returns-in_err-octets-clause-found
returns-in_err-octets-clause-found c = λ e rest s is.
    let reply = reply_image e.1.reply ++ rest in
    let request = request_image e.1.request ++ reply in
    let who = c.in_ok-manager.ensures.found e.0 (big_bytes 2 e.1.number ++ request) s.fits.manager (is ∙ entry_parts e rest) in
    let number = c.in_ok-number.ensures.found e.1.number request s.fits.number who.1 in
    let asked = c.in_ok-request.ensures.found e.1.request reply s.keepable.action (request_fits e s.fits s.keepable.octets) number.1 in
    absurd (c.in_err-octets.ensures.found e.1.number e.1.reply rest
    (subst (λ (q : RequestValue). IsKeepable (record { number = e.1.number; request = q; reply = e.1.reply })) (sym asked.0) s.keepable) s.fits.answers s.few asked.1)

pub returns-clause-keepable : goal.returns-clause-keepable
returns-clause-keepable c = record {
  keepable = c.in_ok-octets.ensures.keepable c.in_ok-number.number;
  few = c.in_ok-octets.ensures.few;
  fits = record {
    manager = c.in_ok-manager.ensures.fits;
    number = c.in_ok-number.ensures.fits;
    id = c.in_ok-request.ensures.fits.id;
    port = c.in_ok-request.ensures.fits.port;
    answers = c.in_ok-octets.ensures.fits;
  };
}

pub returns-clause-found : goal.returns-clause-found
returns-clause-found c = λ e rest s is.
    let reply = reply_image e.1.reply ++ rest in
    let request = request_image e.1.request ++ reply in
    let who = c.in_ok-manager.ensures.found e.0 (big_bytes 2 e.1.number ++ request) s.fits.manager (is ∙ entry_parts e rest) in
    let number = c.in_ok-number.ensures.found e.1.number request s.fits.number who.1 in
    let asked = c.in_ok-request.ensures.found e.1.request reply s.keepable.action (request_fits e s.fits s.keepable.octets) number.1 in
    let read = c.in_ok-octets.ensures.found e.1.number e.1.reply rest
    (subst (λ (q : RequestValue). IsKeepable (record { number = e.1.number; request = q; reply = e.1.reply })) (sym asked.0) s.keepable) s.fits.answers s.few asked.1 in
    ((λ i. (who.0 i, record { number = number.0 i; request = asked.0 i; reply = read.0 i })), read.1)
