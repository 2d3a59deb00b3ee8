use Rattle.std.proofs.Common.{◌≡◌, Some, None, ◌∷◌, [], sym, ap, ◌∙◌, arith, rules}
use Rattle.std.specs.Prelude.{cond}
use Rattle.std.specs.BTreeMap.{get, is_at}
use Rattle.std.specs.Map.{lookup}
use Rattle.std.specs.Ordering.{nat_cmp}
use Rattle.std.proofs.lemmas.Grind.{common_steps}
use Rattle.std.proofs.lemmas.Result.{on_err_weaker}
use Rattle.intent_records.proofs.Listing.{lists-new, lists_nothing-new, lists_nothing-old, on_err_at, on_ok_at}
use Rattle.intent_records.proofs.intents.list.Goals as goal

pub returns-in-Some-clause-memory : goal.returns-in-Some-clause-memory
returns-in-Some-clause-memory c =
    let some : get nat_cmp c.args.index.now c.args.meta.now.txn ≡ Some c.in-Some.paths.now = sym c.in-Some.ensures.value in
    let written = (c.get_mut.follows.holds c.push.new.self).3 (search rules) in
    on_err_weaker c.push.result
    (λ same. lists_nothing-old (get nat_cmp c.args.metas.now) (get nat_cmp c.args.index.now) _ c.args.meta.now c.in-Some.paths.now some
    (λ x. written.0 x ∙ ap (λ w. cond (is_at (nat_cmp c.args.meta.now.txn) x) (Some w) (get nat_cmp c.args.index.now x)) same))
    c.push.ensures.memory

pub returns-then-is_err-clause-memory : goal.returns-then-is_err-clause-memory
returns-then-is_err-clause-memory c =
    let none : get nat_cmp c.args.index.now c.args.meta.now.txn ≡ None = sym c.in_default.ensures.value in
    let kept = on_err_at c.insert-2.result (sym c.is_err.ensures.value ∙ c.if-is_err.true) c.insert-2.ensures.err in
    lists_nothing-new (get nat_cmp c.args.metas.now) (get nat_cmp c.insert.new.self) (get nat_cmp c.remove.new.self) (get nat_cmp c.args.index.now) (get nat_cmp c.insert-2.new.self) c.args.meta.now none
    c.in_ok-insert.ensures.updates.0 c.remove.ensures.updates.0 (λ x. ap (lookup (is_at (nat_cmp x))) kept ∙ ap (λ m. get nat_cmp m x) c.get_mut.follows.holds-at-none)

pub returns-clause-ok : goal.returns-clause-ok
returns-clause-ok c =
    let none : get nat_cmp c.args.index.now c.args.meta.now.txn ≡ None = sym c.in_default.ensures.value in
    let put = on_ok_at c.insert-2.result (sym c.is_err.ensures.value ∙ c.if-is_err.false) c.insert-2.ensures.updates in
    let paths : c.push-2.new.self ≡ c.args.path ∷ [] = grind (arith, common_steps) in
    lists-new (get nat_cmp c.args.metas.now) (get nat_cmp c.insert.new.self) (get nat_cmp c.args.index.now) (get nat_cmp c.insert-2.new.self) c.args.meta.now c.args.path none
    c.in_ok-insert.ensures.updates.0
    (λ x. put.0 x
    ∙ ap (λ w. cond (is_at (nat_cmp c.args.meta.now.txn) x) (Some w) (get nat_cmp c.get_mut.follows.lender-at-none x)) paths
    ∙ ap (λ m. cond (is_at (nat_cmp c.args.meta.now.txn) x) (Some (c.args.path ∷ [])) (get nat_cmp m x)) c.get_mut.follows.holds-at-none)
