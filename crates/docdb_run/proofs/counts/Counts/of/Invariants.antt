use Rattle.std.proofs.Common.{◌≡◌, ◌≤◌, ◌*◌, ◌^◌, not, map, sum, take}
use Rattle.docdb_run.specs.Text.{is_refused, is_committed, is_values, restarts_of, count_told}
use Rattle.docdb_run.proofs.counts.Counts.of.Given as goal

abbrev pub invariant-loop-t : goal.invariant-loop-t
invariant-loop-t l = record {
  ok : l.counts.ok ≡ count_told (λ t. not (is_refused t)) (take l.t-index l.told);
  refused : l.counts.refused ≡ count_told is_refused (take l.t-index l.told);
  committed : l.counts.committed ≡ count_told is_committed (take l.t-index l.told);
  reads : l.counts.reads ≡ count_told is_values (take l.t-index l.told);
  restarts : l.counts.restarts ≡ sum (map restarts_of (take l.t-index l.told));
  most_ok : l.counts.ok ≤ l.t-index;
  most_refused : l.counts.refused ≤ l.t-index;
  most_committed : l.counts.committed ≤ l.t-index;
  most_reads : l.counts.reads ≤ l.t-index;
  most_restarts : l.counts.restarts ≤ l.t-index * 2 ^ 32;
}
