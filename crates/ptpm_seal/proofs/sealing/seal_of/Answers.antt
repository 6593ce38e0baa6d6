use Rattle.std.proofs.Common.{◌≡◌, ◌∙◌, ◌++◌, List, ℕ, ap, rules}
use Rattle.byteorder.specs.Endian.{big_bytes}
use Rattle.ptpm_seal.specs.Crc.{crc_of}
use Rattle.ptpm_seal.specs.Sealing.{counted, seal_mark, seal_of}
use Rattle.ptpm_seal.proofs.sealing.seal_of.Goals as goal

pub returns-clause-octets : goal.returns-clause-octets
unfolding seal_of
returns-clause-octets c =
    let marked : c.put.new.buffer.items ≡ seal_mark = search rules in
    let front : c.put-2.new.buffer.items ≡ counted c.args.count =
    c.put-2.ensures.items ∙ ap (λ (l : List ℕ). l ++ c.to_be_bytes.result) marked ∙ ap (λ (l : List ℕ). seal_mark ++ l) c.to_be_bytes.ensures in
    let crc : c.crc32-crc.result ≡ crc_of (c.args.image.now ++ counted c.args.count) =
    c.crc32-crc.ensures ∙ ap (λ (l : List ℕ). crc_of (c.args.image.now ++ l)) (c.as_slice.ensures.value ∙ front) in
    c.put-3.ensures.items
    ∙ ap (λ (l : List ℕ). l ++ c.to_be_bytes-2.result) front
    ∙ ap (λ (l : List ℕ). counted c.args.count ++ l) (c.to_be_bytes-2.ensures ∙ ap (big_bytes 4) crc)
