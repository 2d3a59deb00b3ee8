use Rattle.std.proofs.Common.{◌≡◌, ◌+◌, ◌++◌, drop, string_bytes}
use Rattle.report_text.specs.Text.{numbered_lines}
use Rattle.report_text.proofs.reporting.put_session.Given as goal

abbrev pub invariant-loop-at : goal.invariant-loop-at
invariant-loop-at l =
    string_bytes l.text ++ numbered_lines l.json l.session (l.at + 1) (drop l.at l.lines) ≡ string_bytes l.initial.text ++ numbered_lines l.json l.session 1 l.lines
