use Rattle.std.proofs.Common.{refl}
use Rattle.trace_merge.proofs.Walking.{walked_first}
use Rattle.trace_merge.proofs.walk.Walk.new.Goals as goal

pub returns : goal.returns
returns c = λ skew. walked_first skew c.new.result _ c.new.ensures refl refl refl
