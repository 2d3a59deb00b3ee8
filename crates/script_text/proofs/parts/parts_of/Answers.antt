use Rattle.std.proofs.Common.{arith, sym}
use Rattle.std.proofs.lemmas.Bool.{eqb-true, eqb-false}
use Rattle.script_text.proofs.Fronts.{parted_at, parted_end, parted_next, parted_without}
use Rattle.script_text.proofs.parts.parts_of.Goals as goal

pub returns-then-eq-clause-parts : goal.returns-then-eq-clause-parts
returns-then-eq-clause-parts c =
    parted_end c.args.bytes.now c.lines.rest.now c.cut_line.result.0.now c.cut_line.result.1.now c.lines.before c.lines.invariant.0 c.cut_line.ensures.lines (rw c.as_slice.ensures at (sym c.if-eq.ensures))

pub returns-then-eq-clause-whole : goal.returns-then-eq-clause-whole
returns-then-eq-clause-whole c = λ u. parted_at c.args.bytes.now c.lines.rest.now c.lines.before c.lines.invariant.0 c.lines.invariant.1 u

pub lines-preserved : goal.lines-preserved
lines-preserved c =
    let some = eqb-false _ _ (sym c.lines-test.ensures) in
    let other = rw c.as_slice.ensures at (sym c.if-eq.ensures) in (
      parted_next c.args.bytes.now c.lines.rest.now c.cut_line.result.0.now c.cut_line.result.1.now c.lines.before c.lines.invariant.0 c.cut_line.ensures.lines c.cut_line.ensures.whole (omega (arith, some)) other,
      omega (arith, c.lines.invariant.1, c.cut_line.ensures.shorter),
    )

pub returns-clause-parts : goal.returns-clause-parts
returns-clause-parts c =
    parted_without c.args.bytes.now c.lines.rest.now c.lines.before c.lines.invariant.0 (eqb-true _ _ (sym c.lines-test.ensures))
