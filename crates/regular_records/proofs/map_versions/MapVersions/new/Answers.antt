use Rattle.std.proofs.Common.{sym, ap, subst}
use Rattle.regular_records.specs.Kept.{AreKept}
use Rattle.regular_records.specs.Store.{versions_of}
use Rattle.regular_records.specs.NewestBeneath.{SumsUp}
use Rattle.regular_records.proofs.Summed.{sums-none}
use Rattle.regular_records.proofs.map_versions.MapVersions.new.Goals as goal

pub invariant_of-result : goal.invariant_of-result
invariant_of-result c = (
  (c.new.ensures.ordered, subst AreKept (sym c.new.ensures.empty) tt),
  subst (SumsUp c.new-2.result) (sym (ap versions_of c.new.ensures.empty)) (sums-none c.new-2.result c.new-2.ensures),
)
