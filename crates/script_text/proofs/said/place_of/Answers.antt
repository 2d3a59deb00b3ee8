use Rattle.std.proofs.Common.{ltb, ltb-true, rules}
use Rattle.std.proofs.lemmas.Bool.{ltb-false}
use Rattle.std.proofs.lemmas.List.Sorted.{IsPartitionPoint-from_clause, IsPartitionedBy-ltb}
use Rattle.txn_data.specs.declared.session_plan.SessionPlan.{SessionPlan}
use Rattle.script_text.proofs.Telling.{told_past}
use Rattle.script_text.proofs.said.place_of.Goals as goal

pub returns : goal.returns
returns c =
    let parted = IsPartitionedBy-ltb (λ (p : SessionPlan). p.session) c.args.plans.now c.args.session c.requires in
    let point = IsPartitionPoint-from_clause (λ (p : SessionPlan). ltb p.session c.args.session) c.args.plans.now _ c.partition_point.ensures.partitioned parted (λ a r q k. search rules) in
    record {
      within = c.partition_point.ensures.bound;
      before = λ told. told_past c.args.session told c.args.plans.now c.partition_point.result c.partition_point.ensures.bound (λ k d low high. ltb-true _ _ (point.0 k d low high));
      below = λ k d low high. ltb-true _ _ (point.0 k d low high);
      at_least = λ k d low high. ltb-false _ _ (point.1 k d low high);
    }
