-- A step and a pass ask no tablet to list for a read.
use Rattle.std.proofs.Common.{◌≡◌, false, ap, ◌∙◌}
use Rattle.txn_data.specs.declared.actor.Actor.{Actor}
use Rattle.txn_data.specs.declared.request.Request.{Request}
use Rattle.txn_types.specs.Program.{Ask, turn}
use Rattle.txn_plan.specs.Laws as step
use Rattle.txn_plan.specs.Rest.{rest as step_rest}
use Rattle.txn_plan.specs.declared.txn_plan.TxnPlan.{TxnPlan}
use Rattle.intent_applier.specs.Laws as pass
use Rattle.intent_applier.specs.Rest.{rest as pass_rest}
use Rattle.intent_applier.specs.declared.pass.Pass.{Pass}
use Rattle.session_core.specs.Turn.{lists}

pub step_lists : (p : TxnPlan) (to : Actor) (request : Request) → step.ListsForNoRead → Ask to request ≡ turn (step_rest p) → lists request ≡ false
step_lists p to request law e = ap step.lists e ∙ law p

pub pass_lists : (p : Pass) (to : Actor) (request : Request) → pass.ListsForNoRead → Ask to request ≡ turn (pass_rest p) → lists request ≡ false
pass_lists p to request law e = ap pass.lists e ∙ law p
