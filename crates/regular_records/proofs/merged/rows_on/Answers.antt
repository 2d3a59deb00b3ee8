use Rattle.std.proofs.Common.{List, ◌++◌, ap, sym, ◌∙◌, subst}
use Rattle.std.specs.List.{AllByRecursion}
use Rattle.txn_types.specs.Writes.{value, row_with}
use Rattle.txn_types.specs.Tablet.{writes_at}
use Rattle.regular_records.specs.Merged.{Place, paths_in, HasParts, IsKnown, AreKnown}
use Rattle.regular_records.proofs.Both.{rows-turn}
use Rattle.regular_records.proofs.merged.rows_on.Goals as goal

pub loop-parts-preserved : goal.loop-parts-preserved
loop-parts-preserved g c =
    let P : List Place → Type 0 = λ es. AllByRecursion HasParts (paths_in es) in
    let Q : List Place → Type 0 = λ es. AllByRecursion g.V.Versions.fits (paths_in es) in
    let steps = c.in-Some.ensures.steps in
    let q = c.in-Some.parts.items in
    record {
      rows = λ us vs h k known.
          let before = c.loop-parts.invariant.rows us vs h k known in
          let all = subst (AreKnown (writes_at c.args.t (us ++ vs))) steps before.0 in
          let here = subst (λ r. IsKnown (writes_at c.args.t (us ++ vs)) r c.in-Some.known) (sym c.deref.ensures.value) all.0 in
          let found = c.in_ok-value.ensures us vs h k here ∙ ap (value (writes_at c.args.t (us ++ vs))) c.deref.ensures.value in (
            all.1,
            rows-turn c.args.t (us ++ vs) c.loop-parts.rows c.push_row.new.rows _ (c.in-Some.parts, c.in-Some.known) c.loop-parts.parts-iterator c.next.new.self c.in_ok-value.value
                steps found (c.in_ok-push_row.ensures ∙ ap (λ r. c.loop-parts.rows ++ row_with r c.in_ok-value.value) c.deref-in-loop-parts.ensures.value) before.1,
          );
      parts = (subst P steps c.loop-parts.invariant.parts).1;
      fit = (subst Q steps c.loop-parts.invariant.fit).1;
    }
