use Rattle.std.proofs.Common.{◌≡◌}
use Rattle.doc_path.specs.Path.{Parts}
use Rattle.regular_records.specs.Store.{first_until}
use Rattle.regular_records.proofs.Slots.{first_shown}
use Rattle.regular_records.proofs.word.first_until.Given as goal

abbrev pub invariant-loop-key : goal.invariant-loop-key
invariant-loop-key l = (p : Parts) → first_until l.fn.t p l.versions.entries ≡ first_shown p l.key-iterator
