use Rattle.std.proofs.Common.{◌≡◌, flat_map, map, take}
use Rattle.ptpm_commands.specs.RequestWords.{words_of_member}
use Rattle.ptpm_commands.proofs.make.words_of_members.Given as goal

abbrev pub invariant-loop-member : goal.invariant-loop-member
invariant-loop-member l = map (λ w. w.now) l.words.items ≡ flat_map words_of_member (map (λ m. m.now) (take l.member-index l.members))
