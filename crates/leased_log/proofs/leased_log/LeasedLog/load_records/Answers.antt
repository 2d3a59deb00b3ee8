use Rattle.std.proofs.Common.{Err, ap, ◌∙◌}
use Rattle.leased_log.proofs.leased_log.LeasedLog.load_records.Goals as goal

pub unreachable-requires : goal.unreachable-requires
unreachable-requires g c =
    c.bytes_have_one_meaning.ensures.not_both (g.L.LogStore.held c.self.inside.store) c.self.invariant.records c.in-Err-LogBad.field-0-0 c.self.invariant.holds
    (c.replay.ensures.broken c.in-Err-LogBad.field-0-0 (c.in-Err-LogBad.is ∙ ap Err c.in-Err-LogBad.field-0-is))
