use Rattle.std.proofs.Common.{◌≡◌, ◌-◌}
use Rattle.script_text.specs.Said.{said_of}
use Rattle.load_maker.specs.Made.{blocks_from, made}
use Rattle.load_maker.proofs.making.plan.Given as goal

abbrev pub invariant-each : goal.invariant-each
invariant-each l = blocks_from (l.blocks - l.block) l.block l.generator.state (said_of l.said) ≡ made l.blocks l.number
