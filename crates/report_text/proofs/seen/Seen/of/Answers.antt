use Rattle.std.proofs.Common.{sym, subst, reverse, take}
use Rattle.txn_types.specs.History.{History}
use Rattle.report_text.specs.Walk.{Saw}
use Rattle.report_text.proofs.Walks.{saw_nothing, reverse_take}
use Rattle.report_text.proofs.seen.Seen.of.Goals as goal

pub loop-entry-init : goal.loop-entry-init
loop-entry-init c =
    saw_nothing c.args.config.now c.in_ok-no_lines.field-0.items c.in_ok-no_passes.field-0.items c.none.result
    c.in_ok-no_lines.ensures c.in_ok-no_passes.ensures c.none.ensures

pub loop-entry-preserved : goal.loop-entry-preserved
loop-entry-preserved c =
    let entries = c.args.entries.now in
    let i = c.loop-entry.entry-index in
    let new = c.take.new.self in
    subst (λ (h : History). Saw c.args.config.now h new.sessions.items new.passes.items new.counts)
    (sym (reverse_take entries i c.entry-item.result c.loop-entry-test.true c.entry-item.is))
    (c.in_ok-take.ensures c.args.config.now (reverse (take i entries)) c.loop-entry.invariant)
