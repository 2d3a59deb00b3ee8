use Rattle.std.proofs.Common.{◌∙◌, refl, sym}
use Rattle.partition_map.specs.Partition.{owner}
use Rattle.partition_map.proofs.Ranges.{owner_in_range, range_of_owner, owner_below}
use Rattle.partition_map.proofs.laws.parts_all_hashes.Goals as goal

pub returns-clause-some : goal.returns-clause-some
returns-clause-some c =
    λ hash n small some. (owner hash n, owner_below hash n small some, range_of_owner hash (owner hash n) n some refl)

pub returns-clause-one : goal.returns-clause-one
returns-clause-one c =
    λ hash n i j some first second. sym (owner_in_range hash i n some first) ∙ owner_in_range hash j n some second
