use Rattle.std.proofs.Common.{◌≡◌, ◌-◌, length, arith, ◌∙◌, sym}
use Rattle.std.proofs.lemmas.List.{nil_from_length}
use Rattle.std.proofs.lemmas.Result.{err_from_is_err_and}
use Rattle.doc_key.proofs.Groups.{MayStand, group_cut, group_ends, group_is_full, group_goes_on, group_fails}
use Rattle.doc_key.proofs.read.columns_at.Goals as goal
use Rattle.doc_key.proofs.read.columns_at.Goals.{else-len-most-via-then-len-most+else-is_column_tag, else-len-most-via-else-len-most}

pub returns-then-tag-eq-GROUP_END-clause-value : goal.returns-then-tag-eq-GROUP_END-clause-value
returns-then-tag-eq-GROUP_END-clause-value c =
    let first = c.in-Some.ensures.cases in
    group_ends c.args.whole (c.args.most - length c.loop-tag.columns.items) c.loop-tag.columns.items c.loop-tag.rest.now c.in-Some.tag.now c.in-Some.after.now _ first.0 c.if-tag-eq-GROUP_END.true c.loop-tag.invariant.0

pub returns-then-is_column_tag-clause-value : goal.returns-then-is_column_tag-clause-value
returns-then-is_column_tag-clause-value c =
    let first = c.in-Some.ensures.cases in
    let full : c.args.most - length c.loop-tag.columns.items ≡ 0 = omega (arith, c.len.ensures) in
    group_is_full c.args.whole (c.args.most - length c.loop-tag.columns.items) c.loop-tag.columns.items c.loop-tag.rest.now c.in-Some.tag.now c.in-Some.after.now _ (record { bytes_are = first.0; no_end = c.if-tag-eq-GROUP_END.false }) full (sym c.if-is_column_tag.ensures) c.loop-tag.invariant.0

pub returns-in_err-column-clause-value : goal.returns-in_err-column-clause-value
returns-in_err-column-clause-value c =
    let first = c.in-Some.ensures.cases in
    let may : MayStand (c.args.most - length c.loop-tag.columns.items) c.in-Some.tag.now =
    λ full. elim c.else-len-most.branch [
      | else-len-most-via-then-len-most+else-is_column_tag w ↦ sym w.is_column_tag.ensures ∙ w.if-is_column_tag.false
      | else-len-most-via-else-len-most w ↦ absurd (w.if-len-most.false (omega (arith, c.len.ensures)))
    ] in
    let p = err_from_is_err_and c.from_residual.result c.from_residual.ensures.1 in
    rw (p.1, p.2) (group_fails c.in_err-column.field-0.0 c.args.whole (c.args.most - length c.loop-tag.columns.items) c.loop-tag.columns.items c.loop-tag.rest.now c.in-Some.tag.now c.in-Some.after.now _ (record { bytes_are = first.0; no_end = c.if-tag-eq-GROUP_END.false }) may c.in_err-column.ensures.value c.loop-tag.invariant.0)

pub loop-tag-preserved : goal.loop-tag-preserved
loop-tag-preserved c =
    let first = c.in-Some.ensures.cases in
    let may : MayStand (c.args.most - length c.loop-tag.columns.items) c.in-Some.tag.now =
    λ full. elim c.else-len-most.branch [
      | else-len-most-via-then-len-most+else-is_column_tag w ↦ sym w.is_column_tag.ensures ∙ w.if-is_column_tag.false
      | else-len-most-via-else-len-most w ↦ absurd (w.if-len-most.false (omega (arith, c.len.ensures)))
    ] in
    let next = group_goes_on c.args.whole c.args.most c.loop-tag.columns.items c.loop-tag.rest.now c.in-Some.tag.now c.in-Some.after.now c.in_ok-column.after.now c.in_ok-column.column _ (record { bytes_are = first.0; no_end = c.if-tag-eq-GROUP_END.false }) c.loop-tag.invariant.1 may c.in_ok-column.ensures.value c.loop-tag.invariant.0 in
    rw c.in_ok-push.ensures.items (next.0, next.1, omega (arith, c.in_ok-column.ensures.rest))

pub returns-clause-value : goal.returns-clause-value
returns-clause-value c =
    group_cut c.args.whole (c.args.most - length c.loop-tag.columns.items) c.loop-tag.columns.items c.loop-tag.rest.now _ (nil_from_length c.loop-tag.rest.now c.in_default.ensures.cases) c.loop-tag.invariant.0
