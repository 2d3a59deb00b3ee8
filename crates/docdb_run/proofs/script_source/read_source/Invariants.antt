use Rattle.std.proofs.Common.{◌≡◌, ◌≤◌, ◌-◌, length, take, drop, Some, IfSome, vec_len}
use Rattle.docdb_run.proofs.script_source.read_source.Given as goal

abbrev pub invariant-pieces : goal.invariant-pieces
invariant-pieces g l = record {
  within : vec_len l.script ≤ 16777217;
  buffer : length l.buffer ≡ 4096;
  read : IfSome (g.S.Source.left l.fn.source)
      (λ bytes. (l.script.items ≡ take (vec_len l.script) bytes) × (g.S.Source.left l.source ≡ Some (drop (vec_len l.script) bytes)));
  faults : g.S.Source.faults l.fn.source ≤ g.S.Source.faults l.source;
}

abbrev pub decreases-pieces : goal.decreases-pieces
decreases-pieces g l = 16777217 - vec_len l.script
