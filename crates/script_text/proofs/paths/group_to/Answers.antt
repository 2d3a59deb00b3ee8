use Rattle.std.proofs.lemmas.Result.{err_from_is_err_and}
use Rattle.script_text.proofs.Grouping.{Reading, group_breaks, group_ends, group_fails, group_more}
use Rattle.script_text.proofs.paths.group_to.Goals as goal

pub returns-in_err-part_of : goal.returns-in_err-part_of
returns-in_err-part_of c =
    let p = err_from_is_err_and c.from_residual.result c.from_residual.ensures.1 in
    let r : Reading _ _ _ _ _ _ _ _ = record { pieces = _; said = c.values.invariant; first = c.cut-mark.ensures.pieces } in
    rw (p.1, p.2) (group_fails _ _ _ _ _ _ _ _ _ r c.in_err-part_of.ensures)

pub returns-then-mark-ends : goal.returns-then-mark-ends
returns-then-mark-ends c =
    rw c.in_ok-push.ensures.items (group_ends _ _ _ _ _ _ _ _ _ (record { pieces = _; said = c.values.invariant; first = c.cut-mark.ensures.pieces }) c.in_ok-part_of.ensures c.if-mark-ends.true)

pub returns-then-mark-between : goal.returns-then-mark-between
returns-then-mark-between c =
    group_breaks _ _ _ _ _ _ _ _ _ (record { pieces = _; said = c.values.invariant; first = c.cut-mark.ensures.pieces }) c.in_ok-part_of.ensures c.if-mark-ends.false c.if-mark-between.true

pub values-preserved : goal.values-preserved
values-preserved c =
    rw c.in_ok-push.ensures.items (group_more _ _ _ _ _ _ _ _ _ (record { pieces = _; said = c.values.invariant; first = c.cut-mark.ensures.pieces }) c.in_ok-part_of.ensures c.if-mark-ends.false c.if-mark-between.false c.requires)
