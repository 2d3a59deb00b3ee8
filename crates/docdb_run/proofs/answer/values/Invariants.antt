use Rattle.std.proofs.Common.{◌≡◌, ◌++◌, flat_map, string_bytes, take}
use Rattle.docdb_run.specs.Text.{row_text}
use Rattle.docdb_run.proofs.answer.values.Given as goal

abbrev pub invariant-loop-row : goal.invariant-loop-row
invariant-loop-row l = l.text.items ≡ string_bytes l.head ++ flat_map row_text (take l.row-index l.rows)
