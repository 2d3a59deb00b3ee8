use Rattle.std.proofs.Common.{◌≡◌, ◌+◌, ◌≤◌, ◌∷◌, ◌++◌, [], take, length, refl, ap, ◌∙◌, arith}
use Rattle.std.specs.Ordering.{is_gt}
use Rattle.std.proofs.lemmas.Grind.{common_steps}
use Rattle.std.proofs.lemmas.List.{take_more}
use Rattle.std.proofs.lemmas.Option.{slice_get_within, get_or_from_slice_get}
use Rattle.doc_path.specs.Path.{path_order}
use Rattle.intent_records.specs.Search.{in_any}
use Rattle.intent_records.proofs.Between.{forward-next, forward-after, ranges-above, ranges-all}
use Rattle.intent_records.proofs.bounds.related_ranges.Goals as goal

pub invariant_of-push : goal.invariant_of-push
invariant_of-push c = record {
  forward = ap (λ p. is_gt (path_order p c.in_ok-end.end)) c.in_ok-first.ensures ∙ ap (λ e. is_gt (path_order c.loop-i.above e)) c.in_ok-end.ensures ∙ forward-next c.loop-i.above;
}

pub loop-i-preserved : goal.loop-i-preserved
loop-i-preserved c =
    let path = c.args.path.now in
    let i = c.loop-i.i in
    let part = c.part-in-loop-i.result.now in
    let more : take (i + 1) path ≡ take i path ++ part ∷ [] =
    take_more path i part (slice_get_within path i part c.part-in-loop-i.ensures)
    ∙ ap (λ q. take i path ++ q ∷ []) (get_or_from_slice_get path i part part c.part-in-loop-i.ensures) in
    record {
      above = grind (arith, common_steps, c.loop-i.invariant.above, more);
      ranges = λ q.
          ap (λ l. in_any l q) c.in_ok-push.ensures.items
          ∙ ranges-above path c.loop-i.above c.in_ok-end.end i c.loop-i.ranges.items _ (omega arith) (omega arith) c.loop-i.invariant.above c.in_ok-end.ensures
          c.in_ok-first.ensures refl c.loop-i.invariant.ranges q;
    }

pub invariant_of-push-2 : goal.invariant_of-push-2
invariant_of-push-2 c =
    let long : 1 ≤ length c.args.path.now = omega arith in
    record {
      forward = ap (λ p. is_gt (path_order p c.in_ok-end-2.end)) c.in_ok-first-2.ensures ∙ ap (λ e. is_gt (path_order c.args.path.now e)) c.in_ok-end-2.ensures ∙ forward-after c.args.path.now long;
    }

pub returns-clause-related : goal.returns-clause-related
returns-clause-related c = λ q.
    let long : 1 ≤ length c.args.path.now = omega arith in
    let whole : c.loop-i.i ≡ length c.args.path.now = omega arith in
    ap (λ l. in_any l q) c.in_ok-push-3.ensures.items
    ∙ ranges-all c.args.path.now c.loop-i.i c.loop-i.ranges.items _ long whole c.in_ok-first-2.ensures c.in_ok-end-2.ensures c.loop-i.invariant.ranges q
