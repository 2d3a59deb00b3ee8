use Rattle.std.proofs.Common.{sym, ◌∙◌}
use Rattle.intent_records.specs.Holds.{own}
use Rattle.intent_records.proofs.Picked.{push-more, push-less, push-end}
use Rattle.intent_records.proofs.intents.Intents.push_writes.Goals as goal

pub loop-position-preserved-in-Continue-branch-3 : goal.loop-position-preserved-in-Continue-branch-3
loop-position-preserved-in-Continue-branch-3 c = λ ps holds.
    push-more (own c.args.txn ps) c.in-Some.position.now c.next.new.self c.loop-position.position-iterator c.in-Some-2.write
    c.loop-position.list.items c.push.new.self.items _
    c.in-Some.ensures.steps (sym c.in-Some-2.is ∙ c.in_ok-write.ensures ps holds) c.in_ok-push.ensures.items (c.loop-position.invariant ps holds)

pub loop-position-preserved : goal.loop-position-preserved
loop-position-preserved c = λ ps holds.
    push-less (own c.args.txn ps) c.in-Some.position.now c.next.new.self c.loop-position.position-iterator c.loop-position.list.items _
    c.in-Some.ensures.steps (sym (c.in_ok-write.ensures ps holds) ∙ c.in_default.is) (c.loop-position.invariant ps holds)

pub returns-clause-pushed : goal.returns-clause-pushed
returns-clause-pushed c = λ ps holds.
    push-end (own c.args.txn ps) c.loop-position.position-iterator c.loop-position.list.items _ c.in-None.ensures.steps.0 (c.loop-position.invariant ps holds)
