use Rattle.std.proofs.Common.{◌≡◌, suc, ◌-◌, arith, ◌∙◌}
use Rattle.actor_table.proofs.Dealing.{opening-kept, all-dealt}
use Rattle.actor_table.proofs.stage.Stage.open.Goals as goal

pub of_words-requires : goal.of_words-requires
of_words-requires c = opening-kept _ (omega arith) (omega arith)

pub returns : goal.returns
returns c =
    let i = c.loop-next.invariant in
    let e = c.in_ok-push-2.ensures.items in
    let n : suc c.loop-next.next ≡ c.args.actors = omega (arith, c.loop-next-test.false, c.loop-next.auto.next-end) in
    let last : c.args.actors - 1 ≡ c.loop-next.next = omega arith in
    record { actors = c.in_ok-table.ensures.5 ∙ c.from.ensures; seats = e ∙ all-dealt _ _ _ _ _ _ i.0 i.1 i.2 last n }
