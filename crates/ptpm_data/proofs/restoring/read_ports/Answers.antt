use Rattle.std.proofs.Common.{◌≡◌, ◌<◌, ◌≤◌, ◌+◌, ◌-◌, ◌*◌, ◌∙◌, ℕ, arith, ap, drop, length, map, rules, take}
use Rattle.std.proofs.lemmas.List.{take_all}
use Rattle.ptpm_data.specs.ImageReading.{port_read, port_start}
use Rattle.ptpm_data.specs.Start.{default_port, port_data_set}
use Rattle.ptpm_data.proofs.ImageLemmas.{ports_length, starts_more}
use Rattle.ptpm_data.proofs.restoring.read_ports.Goals as goal

pub returns-then-count-gt-INLINE_PORTS : goal.returns-then-count-gt-INLINE_PORTS
returns-then-count-gt-INLINE_PORTS c = λ ports few fits is. let size = ap length is in let each = ports_length ports in omega arith

pub loop-place-preserved : goal.loop-place-preserved
loop-place-preserved c = record {
  made = λ ports fits is. let size = ap length is in
      let each = ports_length ports in
      let below : c.loop-place.place < length ports = omega arith in
      let whole : 15 * c.loop-place.place + 15 - 15 * c.loop-place.place ≡ 15 = omega arith in
      let read = c.read_port.ensures ∙ ap (λ (n : ℕ). port_read (take n (drop (15 * c.loop-place.place) c.args.octets.now))) whole in
      c.push.ensures.items
      ∙ starts_more ports c.args.octets.now c.loop-place.place (port_data_set default_port) _ _ fits is below (c.loop-place.invariant.made ports fits is) read;
  count = search rules;
}

pub returns : goal.returns
returns c =
    λ ports few fits is. let size = ap length is in
    let each = ports_length ports in
    let past : length ports ≤ c.loop-place.place = omega arith in
    c.loop-place.invariant.made ports fits is ∙ ap (map port_start) (take_all c.loop-place.place ports past)
