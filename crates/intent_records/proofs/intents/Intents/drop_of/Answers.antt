use Rattle.std.proofs.Common.{◌≡◌, List, [], ◌∷◌, None, length, refl, sym, ap, ◌∙◌, arith}
use Rattle.std.specs.Prelude.{cond}
use Rattle.std.specs.BTreeMap.{get}
use Rattle.std.specs.Ordering.{nat_cmp}
use Rattle.std.proofs.lemmas.Grind.{common_steps}
use Rattle.intent_records.specs.Keys.{key_order}
use Rattle.intent_records.specs.Steps.{is_listed, paths_or_none}
use Rattle.intent_records.proofs.Changes.{holds-dropped}
use Rattle.intent_records.proofs.Positions.{none_listed, listed-pop}
use Rattle.intent_records.proofs.intents.Intents.drop_of.Goals as goal

pub returns-in_default : goal.returns-in_default
returns-in_default c = λ ps holds.
    let s = c.args.self.now in
    let none : get nat_cmp s.index c.args.txn ≡ None = sym c.remove-2.ensures.value ∙ c.in_default.is in
    holds-dropped s _ ps c.args.txn holds c.remove.ensures.updates.0 c.remove-2.ensures.updates.0
    (λ k. sym (ap (λ o. cond (is_listed c.args.txn (paths_or_none o) k) None (get key_order s.records k)) none ∙ none_listed c.args.txn k (get key_order s.records k)))
    holds.ordered

pub loop-path-preserved : goal.loop-path-preserved
loop-path-preserved c = record {
  metas = c.loop-path.invariant.metas;
  index = c.loop-path.invariant.index;
  kept = λ k.
      listed-pop c.args.txn c.loop-path.paths.items c.pop.new.self.items c.in-Some-pop.path k c.len-position.result
      (get key_order c.loop-path.self.records k) (get key_order c.remove-in-Some-pop.new.self k)
      c.in-Some-pop.ensures.items (grind (arith, common_steps)) (c.remove-in-Some-pop.ensures.updates.0 k)
      ∙ c.loop-path.invariant.kept k;
  ordered = λ _. c.remove-in-Some-pop.ensures.ordered;
}

empty : {A : Type 0} (l : List A) → length l ≡ 0 → l ≡ []
empty [] h = refl
empty (x ∷ l) h = absurd (omega arith)

pub returns : goal.returns
returns c = λ ps holds.
    let s = c.args.self.now in
    let t = c.loop-path.self in
    let none : length c.loop-path.paths.items ≡ 0 = omega (arith, c.in_default-pop.ensures.cases.0) in
    let done = empty c.loop-path.paths.items none in
    holds-dropped s t ps c.args.txn holds
    (λ y. ap (λ m. get nat_cmp m y) c.loop-path.invariant.metas ∙ c.remove.ensures.updates.0 y)
    (λ y. ap (λ m. get nat_cmp m y) c.loop-path.invariant.index ∙ c.remove-2.ensures.updates.0 y)
    (λ k.
    sym (none_listed c.args.txn k (get key_order t.records k))
    ∙ ap (λ l. cond (is_listed c.args.txn l k) None (get key_order t.records k)) (sym done)
    ∙ c.loop-path.invariant.kept k)
    (c.loop-path.invariant.ordered holds.ordered)
