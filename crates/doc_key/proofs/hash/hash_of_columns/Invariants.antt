use Rattle.std.proofs.Common.{◌≡◌, take}
use Rattle.doc_key.specs.Hash.{fnv}
use Rattle.doc_key.specs.Spelling.{columns}
use Rattle.doc_key.proofs.hash.hash_of_columns.Given as goal

abbrev pub invariant-loop-column : goal.invariant-loop-column
invariant-loop-column l = l.hash ≡ fnv (columns (take l.column-index l.group))
