use Rattle.std.proofs.Common.{◌≤◌, Some, None, length, ap, ◌∙◌, arith, subst}
use Rattle.std.specs.Prelude.{cond}
use Rattle.std.specs.BTreeMap.{get, is_at}
use Rattle.std.specs.Ordering.{nat_cmp}
use Rattle.doc_path.specs.Path.{Parts}
use Rattle.txn_data.specs.declared.op.Op.{Op}
use Rattle.txn_types.specs.Tablet.{Intent}
use Rattle.intent_records.specs.declared.primary_record.PrimaryRecord.{PrimaryRecord}
use Rattle.intent_records.specs.declared.record_key.RecordKey.{RecordKey}
use Rattle.intent_records.specs.Keys.{key_order}
use Rattle.intent_records.specs.Steps.{Lists, paths_or_none}
use Rattle.intent_records.proofs.Changes.{holds-added, holds-kept, no_meta}
use Rattle.intent_records.proofs.intents.Intents.add.Goals as goal

pub returns-in-Err-clause-memory : goal.returns-in-Err-clause-memory
returns-in-Err-clause-memory c = λ ps holds.
    let s = c.args.self.now in
    let x = c.args.meta.now.txn in
    let r : PrimaryRecord = record { number = c.args.number; op = c.in_ok-try_copy.field-0; wrote = c.args.wrote } in
    holds-kept s _ ps c.args.path.now x r holds
    (c.in-Err.ensures.memory.first (no_meta s ps holds x))
    c.in-Err.ensures.memory.paths
    (λ k. c.remove.ensures.updates.0 k
    ∙ ap (cond (is_at (key_order c.in_ok-key_again.key_again) k) None) (c.in_ok-insert.ensures.updates.0 k)
    ∙ ap (λ (a : RecordKey). cond (is_at (key_order a) k) None (cond (is_at (key_order c.in_ok-key.key) k) (Some r) (get key_order s.records k))) c.in_ok-key_again.ensures
    ∙ ap (λ (a : RecordKey). cond (is_at (key_order (record { path = c.args.path.now; txn = x; position = length (paths_or_none (get nat_cmp s.index c.args.meta.now.txn)) })) k) None (cond (is_at (key_order a) k) (Some r) (get key_order s.records k))) c.in_ok-key.ensures)
    c.remove.ensures.ordered

pub returns-clause-ok : goal.returns-clause-ok
returns-clause-ok c = λ ps holds.
    let s = c.args.self.now in
    let p : Intent = record { meta = c.args.meta.now; number = c.args.number; path = c.args.path.now; op = c.args.op.now; wrote = c.args.wrote } in
    let long : 1 ≤ length c.args.path.now = omega arith in
    let P : Parts → Type 0 = λ q. Lists (get nat_cmp s.metas) (get nat_cmp s.index) c.args.meta.now q (get nat_cmp c.list.new.metas) (get nat_cmp c.list.new.index) in
    holds-added s _ ps p holds long (subst P c.in_ok-path.ensures c.in_default.ensures.ok)
    (λ k. c.in_ok-insert.ensures.updates.0 k
    ∙ ap (λ (a : RecordKey). cond (is_at (key_order a) k) (Some (record { number = c.args.number; op = c.in_ok-try_copy.field-0; wrote = c.args.wrote })) (get key_order s.records k)) c.in_ok-key.ensures
    ∙ ap (λ (o : Op). cond (is_at (key_order (record { path = c.args.path.now; txn = c.args.meta.now.txn; position = length (paths_or_none (get nat_cmp s.index c.args.meta.now.txn)) })) k) (Some (record { number = c.args.number; op = o; wrote = c.args.wrote })) (get key_order s.records k)) c.in_ok-try_copy.ensures)
    c.insert.ensures.ordered
