use Rattle.std.proofs.Common.{◌≡◌, ◌++◌, take}
use Rattle.doc_key.specs.Spelling.{columns}
use Rattle.doc_key.proofs.encode.append_group.Given as goal

abbrev pub invariant-loop-column : goal.invariant-loop-column
invariant-loop-column l = l.out.items ≡ l.fn.out.items ++ columns (take l.column-index l.group)
