use Rattle.std.proofs.Common.{rules}
use Rattle.std.proofs.lemmas.List.Sorted.{answers_always}
use Rattle.conflict_matrix.proofs.Walk.{rises-from_answer}
use Rattle.conflict_matrix.proofs.first_fates.rise.Goals as goal

pub returns : goal.returns
returns c = λ yes.
    rises-from_answer (λ f. f.txn) c.args.fates.now c.is_sorted_by_key.result yes
    (c.is_sorted_by_key.ensures.cases (λ f. f.txn) (answers_always _ _ _ (λ f a r g k. search rules)))
