use Rattle.std.proofs.Common.{◌≡◌, ◌≤◌, ℕ, drop, length, vec_len}
use Rattle.txn_types.specs.Script.{commands_of}
use Rattle.script_text.specs.Queues.{queue_of}
use Rattle.script_text.proofs.queues.queues_of.Given as goal

abbrev pub decreases-loop-at : goal.decreases-loop-at
decreases-loop-at l = l.at

abbrev pub invariant-loop-at : goal.invariant-loop-at
invariant-loop-at l = record {
  within : l.at ≤ length l.plans;
  room : vec_len l.queues ≡ 1001;
  each : (i : ℕ) → i ≤ 1000 → queue_of l.queues.items i ≡ commands_of i (drop l.at l.plans);
}
