use Rattle.std.proofs.Common.{◌≡◌, ◌+◌, drop}
use Rattle.docdb_run.specs.Form.{letter_count}
use Rattle.docdb_run.proofs.form_text.letter_count.Given as goal

abbrev pub invariant-loop-byte : goal.invariant-loop-byte
invariant-loop-byte l = record {
  index : l.count ≡ l.byte-index;
  counted : l.count + letter_count (drop l.count l.bytes) ≡ letter_count l.bytes;
}
