use Rattle.std.proofs.Common.{◌≡◌, IsUtf8, length}
use Rattle.ptpm_commands.specs.DatagramLine.{behind_all, texts}
use Rattle.ptpm_commands.proofs.datagram_line.after_words.Given as goal

-- what follows the words so far is what follows all of them
abbrev pub invariant-loop-word : goal.invariant-loop-word
invariant-loop-word l = (behind_all (texts l.fn.line) ≡ behind_all (texts l.rest)) × IsUtf8 l.rest

abbrev pub decreases-loop-word : goal.decreases-loop-word
decreases-loop-word l = length l.rest
