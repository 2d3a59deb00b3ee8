use Rattle.std.proofs.Common.{◌≡◌, ◌≤◌, ◌++◌, drop}
use Rattle.docdb_run.specs.Form.{AreFormLines}
use Rattle.docdb_run.specs.Course.{at_first, entries_from, told_from}
use Rattle.docdb_run.proofs.simulate.simulate.Given as goal

abbrev pub invariant-loop-command : goal.invariant-loop-command
invariant-loop-command l = record {
  told : told_from at_first l.commands ≡ l.tolds.items ++ told_from l.world (drop l.command-index l.commands);
  recorded : entries_from at_first l.commands ≡ l.trace.entries ++ entries_from l.world (drop l.command-index l.commands);
  lines : AreFormLines l.world.clock (drop l.command-index l.commands);
  few : l.world.commands ≤ l.command-index;
}
