use Rattle.std.proofs.Common.{◌∙◌}
use Rattle.std.proofs.lemmas.Result.{IfOk-weaker}
use Rattle.regular_records.proofs.merged.get_merged.Goals as goal

pub returns-then-is_older : goal.returns-then-is_older
returns-then-is_older g c us vs h k =
    IfOk-weaker c.get_at.result _ _ (λ found f. f ∙ c.is_older.ensures.older us vs h k c.if-is_older.true) (c.get_at.ensures us h)

pub returns-else-is_older : goal.returns-else-is_older
returns-else-is_older g c us vs h k =
    IfOk-weaker c.get_at-else-is_older.result _ _ (λ found f. f ∙ c.is_older.ensures.newer us vs h k c.if-is_older.false) (c.get_at-else-is_older.ensures vs k)
