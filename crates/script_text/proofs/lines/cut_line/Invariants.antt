use Rattle.std.proofs.Common.{◌≡◌, take, drop}
use Rattle.script_text.specs.Lines.{lines_of}
use Rattle.script_text.proofs.Cutting.{onto_line}
use Rattle.script_text.proofs.lines.cut_line.Given as goal

abbrev pub invariant-bytes : goal.invariant-bytes
invariant-bytes l = onto_line (take l.i l.bytes) (lines_of (drop l.i l.bytes)) ≡ lines_of l.bytes
