use Rattle.std.proofs.Common.{◌≤◌, ℕ, List, All, subst, sym}
use Rattle.std.proofs.lemmas.Result.{on_ok_weaker}
use Rattle.txn_data.specs.declared.session_plan.SessionPlan.{SessionPlan}
use Rattle.script_text.proofs.Kept.{on_ok}
use Rattle.script_text.proofs.Queueing.{AreOfBytes}
use Rattle.script_text.proofs.WrittenBody.{all_of_bytes, order_small}
use Rattle.script_text.proofs.WrittenScript.{all_parts}
use Rattle.script_text.proofs.writing.write.Goals as goal

pub write_commands-requires-clause-order : goal.write_commands-requires-clause-order
write_commands-requires-clause-order c =
    subst (λ (js : List ℕ). All (λ i. i ≤ 1000) js) (sym c.items-2.ensures) (order_small c.args.config.now c.args.plan.now c.requires.said)

pub returns-clause-ok : goal.returns-clause-ok
returns-clause-ok c =
    on_ok_weaker c.write_moves.result (λ e. all_parts c.args.config.now c.args.plan.now c.args.out.now.items c.write_top.new.out.items c.write_commands.new.out.items c.write_moves.new.out.items
    c.items.result.now c.items-2.result.now c.items-3.result.now c.items.ensures c.items-2.ensures c.items-3.ensures
    c.in_ok-write_top.ensures.ok c.in_ok-write_commands.ensures.ok e) c.write_moves.ensures.ok

pub returns-clause-read : goal.returns-clause-read
returns-clause-read c =
    let config = c.args.config.now in
    let plan = c.args.plan.now in
    let some : AreOfBytes c.items.result.now c.items-2.result.now = c.in_ok-write_commands.ensures.bytes in
    let all : AreOfBytes plan.sessions plan.order =
    subst (λ (js : List ℕ). AreOfBytes plan.sessions js) c.items-2.ensures
    (subst (λ (ps : List SessionPlan). AreOfBytes ps c.items-2.result.now) c.items.ensures some) in
    on_ok c.write_moves.result _
    (c.what_is_written_is_read.ensures config plan c.requires.spelled c.requires.said (all_of_bytes config plan c.requires.said all))
