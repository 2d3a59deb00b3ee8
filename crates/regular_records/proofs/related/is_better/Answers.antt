use Rattle.std.proofs.Common.{arith}
use Rattle.regular_records.proofs.Order.{not_after-upto}
use Rattle.regular_records.proofs.related.is_better.Goals as goal

pub returns-then-eq : goal.returns-then-eq
returns-then-eq c = grind (arith, not_after-upto c.args.second.now.path.now c.args.first.now.path.now, c.lt.ensures, c.if-lt.ensures, c.eq.ensures, c.if-eq.ensures, c.cmp.ensures, c.is_le.ensures)
