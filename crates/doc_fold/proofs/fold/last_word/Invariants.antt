use Rattle.std.proofs.Common.{◌≡◌, Some, None, take}
use Rattle.std.specs.Prelude.{MatchOption}
use Rattle.txn_types.specs.Writes.{last_word as last_word_in}
use Rattle.doc_fold.proofs.fold.last_word.Given as goal

abbrev pub invariant-loop-write : goal.invariant-loop-write
invariant-loop-write l = MatchOption l.last (last_word_in (take l.write-index l.writes) l.path ≡ None)
    (λ word. last_word_in (take l.write-index l.writes) l.path ≡ Some word.now)
