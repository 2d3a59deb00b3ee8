use Rattle.std.proofs.Common.{◌≡◌, ◌-◌, arith, refl, sym, ◌∙◌}
use Rattle.script_text.specs.Said.{said_of}
use Rattle.load_maker.proofs.Steps.{blocks_more, blocks_none}
use Rattle.load_maker.proofs.making.plan.Goals as goal

pub each-init : goal.each-init
each-init c =
    let all : c.args.blocks - 0 ≡ c.args.blocks = omega arith in
    rw (all, c.of-generator.ensures, c.nothing-said.ensures) refl

pub each-preserved : goal.each-preserved
each-preserved c =
    rw (c.of-draws.ensures.state, c.in_ok-put_block.ensures, c.of-draws.ensures.draws)
    (sym (blocks_more c.args.blocks c.each.block c.each.generator.state (said_of c.each.said) (omega arith)) ∙ c.each.invariant)

pub returns : goal.returns
returns c =
    rw c.into_commands.ensures
    (sym (blocks_none c.args.blocks c.each.block c.each.generator.state (said_of c.each.said) (omega arith)) ∙ c.each.invariant)
