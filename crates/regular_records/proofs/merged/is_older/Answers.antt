use Rattle.std.proofs.Common.{sym, ◌∙◌}
use Rattle.regular_records.proofs.Both.{older-newest, newer-newest}
use Rattle.regular_records.proofs.merged.is_older.Goals as goal

pub returns-clause-older : goal.returns-clause-older
returns-clause-older g c us vs h k is =
    older-newest c.args.t c.args.path.now us vs c.decided_at.result c.decided_at-2.result (c.decided_at.ensures vs k) (c.decided_at-2.ensures us h) (sym c.lt.ensures ∙ is)

pub returns-clause-newer : goal.returns-clause-newer
returns-clause-newer g c us vs h k is =
    newer-newest c.args.t c.args.path.now us vs c.decided_at.result c.decided_at-2.result (c.decided_at.ensures vs k) (c.decided_at-2.ensures us h) (sym c.lt.ensures ∙ is)
