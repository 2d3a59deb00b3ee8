use Rattle.std.proofs.Common.{◌≡◌, ◌+◌, ◌≤◌, length}
use Rattle.script_text.specs.Lines.{lines_of}
use Rattle.script_text.specs.Said.{said_of}
use Rattle.script_text.specs.Script.{body_of, body_over}
use Rattle.script_text.proofs.body.read_body.Given as goal

abbrev pub invariant-lines : goal.invariant-lines
invariant-lines l =
    (body_over l.config l.flags.items (said_of l.said) l.number (lines_of l.rest) ≡ body_of l.config l.first (lines_of l.body))
    × (l.number + length l.rest ≤ l.first + length l.body)

abbrev pub decreases-lines : goal.decreases-lines
decreases-lines l = length l.rest
