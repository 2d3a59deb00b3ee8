use Rattle.std.proofs.Common.{◌≡◌, true, false, ap, sym, ◌∙◌}
use Rattle.txn_types.specs.Program.{heard}
use Rattle.txn_types.specs.Run.{limits_of, is_settling}
use Rattle.session_core.specs.Mover.{within}
use Rattle.session_core.proofs.Movers.{on_ok, same_gone_on, settled_and, unsettled_and}
use Rattle.session_core.proofs.command_in_flight.CommandInFlight.hear.Goals as goal

pub returns-then-is_settling-clause-mover : goal.returns-then-is_settling-clause-mover
returns-then-is_settling-clause-mover c = λ config i s n.
    let u = c.args.self.now in
    let before = limits_of s.opened in
    let settles : is_settling c.args.reply.now ≡ true = sym c.is_settling.ensures ∙ c.if-is_settling.true in
    on_ok c.hear-heard.result
    (λ ok. same_gone_on (within config i s n u) _ _ _ _ _ _ (ok ∙ ap (λ p. heard p c.args.reply.now) (c.fix_limit.ensures.rest config i s u.line)) (c.hear-heard.ensures.limits before ∙ c.fix_limit.ensures.limits before) (settled_and u.may_lose (is_settling c.args.reply.now) settles))
    (c.hear-heard.ensures.ok config i s u.line)

pub returns-then-is_settling-clause-limits : goal.returns-then-is_settling-clause-limits
returns-then-is_settling-clause-limits c = λ s. c.hear-heard.ensures.limits (limits_of s.opened) ∙ c.fix_limit.ensures.limits (limits_of s.opened)

pub returns-else-is_settling-clause-mover : goal.returns-else-is_settling-clause-mover
returns-else-is_settling-clause-mover c = λ config i s n.
    let u = c.args.self.now in
    let before = limits_of s.opened in
    let settles : is_settling c.args.reply.now ≡ false = sym c.is_settling.ensures ∙ c.if-is_settling.false in
    on_ok c.hear-heard.result
    (λ ok. same_gone_on (within config i s n u) _ _ _ _ _ _ (ok ∙ ap (λ p. heard p c.args.reply.now) (c.fix_limit.ensures.rest config i s u.line)) (c.hear-heard.ensures.limits before ∙ c.fix_limit.ensures.limits before) (unsettled_and u.may_lose (is_settling c.args.reply.now) settles))
    (c.hear-heard.ensures.ok config i s u.line)

pub returns-else-is_settling-clause-limits : goal.returns-else-is_settling-clause-limits
returns-else-is_settling-clause-limits c = λ s. c.hear-heard.ensures.limits (limits_of s.opened) ∙ c.fix_limit.ensures.limits (limits_of s.opened)
