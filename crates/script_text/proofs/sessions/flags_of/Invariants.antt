use Rattle.std.proofs.Common.{◌≡◌, length, vec_len}
use Rattle.script_text.specs.Commands.{flags_over, no_flags}
use Rattle.script_text.specs.Lines.{lines_of}
use Rattle.script_text.proofs.sessions.flags_of.Given as goal

abbrev pub invariant-lines : goal.invariant-lines
invariant-lines l = (flags_over l.flags.items (lines_of l.rest) ≡ flags_over no_flags (lines_of l.body)) × (vec_len l.flags ≡ 1001)

abbrev pub decreases-lines : goal.decreases-lines
decreases-lines l = length l.rest
