use Rattle.std.proofs.Common.{◌≡◌, length, arith, ◌∙◌}
use Rattle.read_plan.proofs.Numbers.{above, below, there, past}
use Rattle.read_plan.proofs.places.place_of.Goals as goal

pub returns-then-number-other : goal.returns-then-number-other
returns-then-number-other c = (
  omega arith,
  c.loop-i.invariant ∙ below c.args.number c.args.numbers.now c.loop-i.i c.loop-i-test.true c.if-number-other.true,
)

pub returns-then-number-other-2 : goal.returns-then-number-other-2
returns-then-number-other-2 c =
    c.loop-i.invariant ∙ there c.args.number c.args.numbers.now c.loop-i.i c.loop-i-test.true c.if-number-other-2.true

pub loop-i-preserved : goal.loop-i-preserved
loop-i-preserved c =
    c.loop-i.invariant ∙ above c.args.number c.args.numbers.now c.loop-i.i c.loop-i-test.true c.if-number-other.false c.if-number-other-2.false

pub returns : goal.returns
returns c =
    let ended : c.loop-i.i ≡ length c.args.numbers.now = omega arith in
    (omega arith, rw (← ended) (c.loop-i.invariant ∙ past c.args.number c.args.numbers.now c.loop-i.i (omega arith)))
