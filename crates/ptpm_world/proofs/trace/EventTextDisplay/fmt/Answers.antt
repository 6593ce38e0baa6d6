use Rattle.ptpm_world.proofs.Common.{refl, event_text}
use Rattle.std.proofs.lemmas.Grind.{put_two}
use Rattle.ptpm_world.proofs.trace.EventTextDisplay.fmt.Goals as goal

pub returns-clause-writes : goal.returns-clause-writes
unfolding event_text
returns-clause-writes g c = λ plain ok.
    let one = c.in_ok-show_number.ensures plain refl in
    let two = put_two _ _ _ _ _ _ _ one (c.in_ok-write_str.ensures.writes one.plain refl) refl in
    let three = put_two _ _ _ _ _ _ _ two (c.in_ok-write_str-2.ensures.writes two.plain refl) refl in
    let four = put_two _ _ _ _ _ _ _ three (c.in_ok-write_str-3.ensures.writes three.plain refl) refl in
    let five = put_two _ _ _ _ _ _ _ four (c.in_ok-show_answer.ensures four.plain refl) refl in
    let six = put_two _ _ _ _ _ _ _ five (c.in_ok-show_frames.ensures five.plain refl) refl in
    put_two _ _ _ _ _ _ _ six (c.write_str-4.ensures.writes six.plain ok) refl
