use Rattle.std.proofs.Common.{◌∙◌, ◌++◌, length, sym}
use Rattle.byteorder.specs.Endian.{big_bytes}
use Rattle.ptpm_codec.specs.Message.{action_code}
use Rattle.ptpm_saved.proofs.ReadingLemmas.{request_parts, same_tails}
use Rattle.ptpm_saved.proofs.entry_reading.read_request.Goals as goal

pub returns-in_err-size-clause-found : goal.returns-in_err-size-clause-found
returns-in_err-size-clause-found c = λ q rest asks fits is.
    let behind = big_bytes 2 (length q.octets) ++ (q.octets ++ rest) in
    let tail = same_tails c.in_ok-code.code.now (action_code q.action) c.in_ok-code.octets.now (big_bytes 2 q.id ++ (big_bytes 2 q.port ++ behind))
    (sym c.in_ok-code.ensures.cases.0 ∙ is ∙ request_parts q rest) in
    let id = c.in_ok-id.ensures.found q.id (big_bytes 2 q.port ++ behind) fits.id tail in
    let port = c.in_ok-port.ensures.found q.port behind fits.port id.1 in
    absurd (c.in_err-size.ensures.found (length q.octets) (q.octets ++ rest) fits.octets port.1)
