use Rattle.std.proofs.Common.{not, arith}
use Rattle.docdb_run.specs.Text.{is_refused, is_committed, is_values}
use Rattle.docdb_run.proofs.ReportLines.{counted-more, restarts-more, one-most}
use Rattle.docdb_run.proofs.counts.Counts.of.Goals as goal

pub loop-t-preserved : goal.loop-t-preserved
loop-t-preserved c =
    let ts = c.args.told.now in
    let i = c.loop-t.t-index in
    let t = c.t-item.result in
    record {
      ok = counted-more (λ x. not (is_refused x)) ts i t _ _ c.loop-t-test.true c.t-item.is c.loop-t.invariant.ok c.add.ensures.ok;
      refused = counted-more is_refused ts i t _ _ c.loop-t-test.true c.t-item.is c.loop-t.invariant.refused c.add.ensures.refused;
      committed = counted-more is_committed ts i t _ _ c.loop-t-test.true c.t-item.is c.loop-t.invariant.committed c.add.ensures.committed;
      reads = counted-more is_values ts i t _ _ c.loop-t-test.true c.t-item.is c.loop-t.invariant.reads c.add.ensures.reads;
      restarts = restarts-more ts i t _ _ c.loop-t-test.true c.t-item.is c.loop-t.invariant.restarts c.add.ensures.restarts;
      most_ok = omega (arith, one-most (not (is_refused t)), c.add.ensures.ok, c.loop-t.invariant.most_ok);
      most_refused = omega (arith, one-most (is_refused t), c.add.ensures.refused, c.loop-t.invariant.most_refused);
      most_committed = omega (arith, one-most (is_committed t), c.add.ensures.committed, c.loop-t.invariant.most_committed);
      most_reads = omega (arith, one-most (is_values t), c.add.ensures.reads, c.loop-t.invariant.most_reads);
      most_restarts = omega (arith, c.add.ensures.most_restarts, c.loop-t.invariant.most_restarts);
    }
