use Rattle.std.proofs.Common.{arith}
use Rattle.partition_map.proofs.Ranges.{owner_in_range, range_of_owner}
use Rattle.partition_map.proofs.partition.range_of.Goals as goal

pub returns-clause-owned : goal.returns-clause-owned
returns-clause-owned c =
    λ hash. (λ within. owner_in_range hash c.args.i c.args.n c.requires.some (record { from_first = omega arith; below_next = omega arith }), λ owned. let within = range_of_owner hash c.args.i c.args.n c.requires.some owned in (omega arith, omega arith))
