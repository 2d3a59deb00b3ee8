use Rattle.std.proofs.Common.{◌++◌, if◌then◌else◌, refl, subst}
use Rattle.std.specs.List.{AllByRecursion}
use Rattle.txn_data.specs.declared.row.Row.{Row}
use Rattle.txn_types.specs.Tablet.{writes_at}
use Rattle.regular_records.specs.Merged.{paths_in, HaveValues}
use Rattle.regular_records.proofs.Both.{paths-turn}
use Rattle.regular_records.proofs.merged.add_rows.Goals as goal

pub loop-row-preserved : goal.loop-row-preserved
loop-row-preserved g c =
    let steps = c.in-Some.ensures.steps.0 in
    record {
      fit = (subst (AllByRecursion (λ (r : Row). g.V.Versions.fits r.path)) steps c.loop-row.invariant.fit).1;
      paths = paths-turn (paths_in c.loop-row.places.entries) (paths_in c.add_place.new.places.entries) c.in-Some.row.path c.in-Some.row c.loop-row.row-iterator.rest.items c.next.new.self.rest.items _
          c.in_ok-add_place.ensures.paths refl steps c.loop-row.invariant.paths;
      parts = λ a. c.in_ok-add_place.ensures.parts (c.loop-row.invariant.parts a);
      known = λ us vs h k have known.
          let before = c.loop-row.invariant.known us vs h k have known in
          let rows = subst (HaveValues (writes_at c.args.t (if c.args.of_older then us else vs))) steps before.0 in
          (rows.1, c.in_ok-add_place.ensures.known (writes_at c.args.t (us ++ vs)) (c.known_value-known.ensures us vs h k rows.0) before.1);
    }
