use Rattle.std.proofs.Common.{length, ◌-◌, ◌≡◌, ◌≤◌, ◌++◌, take, Some, IfSome, is_some}
use Rattle.docdb_run.proofs.output.write_all.Given as goal

abbrev pub invariant-pieces : goal.invariant-pieces
invariant-pieces g l = record {
  within : l.done ≤ length l.bytes;
  told : is_some (g.K.Sink.taken l.out) ≡ is_some (g.K.Sink.taken l.fn.out);
  written : IfSome (g.K.Sink.taken l.fn.out) (λ before. g.K.Sink.taken l.out ≡ Some (before ++ take l.done l.bytes));
  faults : g.K.Sink.faults l.fn.out ≤ g.K.Sink.faults l.out;
  stalls : g.K.Sink.stalls l.fn.out ≤ g.K.Sink.stalls l.out;
}

abbrev pub decreases-pieces : goal.decreases-pieces
decreases-pieces g l = length l.bytes - l.done
