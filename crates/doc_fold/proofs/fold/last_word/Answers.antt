use Rattle.std.proofs.Common.{◌≡◌, ◌+◌, ◌∷◌, ◌++◌, [], take, arith, refl, ap, ◌∙◌}
use Rattle.std.proofs.lemmas.Grind.{common_steps}
use Rattle.std.proofs.lemmas.List.{take_more}
use Rattle.txn_types.specs.Writes.{last_word as last_word_in}
use Rattle.doc_fold.proofs.Steps.{last_word-push}
use Rattle.doc_fold.proofs.fold.last_word.Goals as goal
use Rattle.doc_fold.proofs.fold.last_word.Goals.{then-is_prefix, else-is_prefix}

pub loop-write-init : goal.loop-write-init
unfolding last_word_in
loop-write-init c = refl

pub loop-write-preserved : goal.loop-write-preserved
loop-write-preserved c =
    let i = c.loop-write.write-index in
    let ws = c.args.writes.now in
    let w = c.write-item.result in
    let more : take (i + 1) ws ≡ take i ws ++ w ∷ [] = grind (arith, take_more c.items-write-items.result.now i w c.loop-write-test.true, c.write-item.is, c.items-write-items.ensures) in
    let pushed = ap (λ us. last_word_in us c.args.path.now) more ∙ last_word-push (take i ws) w c.args.path.now in
    elim c.if-is_prefix.branch [
      | then-is_prefix b ↦ grind (arith, common_steps, pushed, b.last-is, b.if-is_prefix.true, c.is_prefix.ensures)
      | else-is_prefix b ↦ rw b.last-is (grind (arith, common_steps, pushed, b.if-is_prefix.false, c.is_prefix.ensures, c.loop-write.invariant))
    ]
