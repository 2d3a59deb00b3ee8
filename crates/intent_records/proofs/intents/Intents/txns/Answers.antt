use Rattle.std.proofs.Common.{is_some, sym, ap, ◌∙◌}
use Rattle.std.specs.List.{list_any}
use Rattle.std.specs.BTreeMap.{get, is_at}
use Rattle.std.specs.BTreeSet.{contains}
use Rattle.std.specs.Ordering.{nat_cmp}
use Rattle.std.proofs.lemmas.Result.{IfOk-weaker}
use Rattle.intent_records.proofs.Told.{told-founds, set-turn, set-end}
use Rattle.intent_records.proofs.Writes.{has_number-all, is_some-first_meta}
use Rattle.intent_records.proofs.intents.Intents.txns.Goals as goal

pub loop-txn-preserved : goal.loop-txn-preserved
loop-txn-preserved c = λ x.
    set-turn x c.in-Some.txn.now (contains nat_cmp c.loop-txn.found x) (contains nat_cmp c.insert.new.self x) c.next.new.self c.loop-txn.txn-iterator
    c.in-Some.ensures.steps (c.in_ok-insert.ensures.updates.0 x)
    ∙ c.loop-txn.invariant x

pub returns : goal.returns
returns c = λ ps holds.
    let s = c.args.self.now in
    let keys = c.loop-txn.found.keys in
    let is = told-founds (get nat_cmp s.metas) ps ps keys holds.metas c.founds.ensures.ordered
    (λ y. set-end y c.loop-txn.txn-iterator (contains nat_cmp c.loop-txn.found y) _ c.in-None.ensures.steps.0 (c.loop-txn.invariant y)
    ∙ ap (list_any (is_at (nat_cmp y))) (sym c.keys-txn-items.ensures.rest)
    ∙ sym (c.keys-txn-items.ensures.has y)
    ∙ ap is_some (holds.metas y)
    ∙ is_some-first_meta y ps
    ∙ sym (has_number-all y ps))
    (λ y h. sym (has_number-all y ps) ∙ h) in
    IfOk-weaker c.founds.result _ _ (λ all e. e ∙ is) c.founds.ensures.told
