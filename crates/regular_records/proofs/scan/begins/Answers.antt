use Rattle.std.proofs.Common.{◌∙◌, arith}
use Rattle.regular_records.proofs.Prefix.{is_prefix-longer, is_prefix-front}
use Rattle.regular_records.proofs.scan.begins.Goals as goal

pub returns-then-path-other : goal.returns-then-path-other
returns-then-path-other c = c.eq.ensures ∙ is_prefix-front c.args.path.now c.args.other.now c.if-path-other.true

pub returns-else-path-other : goal.returns-else-path-other
returns-else-path-other c = grind (arith, is_prefix-longer c.args.path.now c.args.other.now c.if-path-other.false)
