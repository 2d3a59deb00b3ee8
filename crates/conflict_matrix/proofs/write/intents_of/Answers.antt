use Rattle.std.proofs.Common.{◌≡◌, ◌+◌, ◌∷◌, ◌++◌, [], take, ap, ◌∙◌, arith}
use Rattle.std.proofs.lemmas.Grind.{common_steps}
use Rattle.std.proofs.lemmas.List.{take_more}
use Rattle.std.proofs.lemmas.Option.{slice_get_within, get_or_from_slice_get}
use Rattle.conflict_matrix.proofs.Meeting.{intents_of-from, weak_above-push, two_more}
use Rattle.conflict_matrix.proofs.write.intents_of.Goals as goal

pub loop-i-preserved : goal.loop-i-preserved
loop-i-preserved c =
    let path = c.args.path.now in
    let i = c.loop-i.i in
    let part = c.part-in-loop-i.result.now in
    let more : take (i + 1) path ≡ take i path ++ part ∷ [] = take_more path i part (slice_get_within path i part c.part-in-loop-i.ensures) ∙ ap (λ q. take i path ++ q ∷ []) (get_or_from_slice_get path i part part c.part-in-loop-i.ensures) in
    let step = weak_above-push path i part (omega arith) (omega arith) more in
    record {
      above = grind (arith, common_steps, c.loop-i.invariant.above, more);
      intents = two_more (take i path) c.loop-i.above c.loop-i.intents.items c.push_intent.new.intents.items c.push_intent-in-loop-i.new.intents.items _
          c.loop-i.invariant.intents c.loop-i.invariant.above c.in_ok-push_intent.ensures c.in_ok-push_intent-2.ensures step;
    }

pub returns : goal.returns
returns c =
    let whole = intents_of-from c.args.path.now c.loop-i.i c.loop-i.intents.items (omega arith) c.loop-i.invariant.intents in
    grind (arith, common_steps, whole)
