use Rattle.std.proofs.Common.{◌≡◌, ◌&&◌, not, nat_le, Some, take, refl, sym, ap, ◌∙◌, arith}
use Rattle.std.specs.List.{list_any}
use Rattle.std.specs.BTreeMap.{get, is_at}
use Rattle.std.specs.BTreeSet.{contains}
use Rattle.std.specs.Ordering.{nat_cmp}
use Rattle.std.proofs.lemmas.Grind.{common_steps}
use Rattle.std.proofs.lemmas.List.{take_all}
use Rattle.std.proofs.lemmas.Result.{IfOk-weaker}
use Rattle.doc_path.specs.Path.{related}
use Rattle.txn_types.specs.Tablet.{Intent, is_own, txn_of}
use Rattle.intent_records.specs.Search.{hit, near_any, others_until}
use Rattle.intent_records.proofs.Hits.{hit-none, hit-near_more, hit-others_until}
use Rattle.intent_records.proofs.Told.{told-founds, among_all}
use Rattle.intent_records.proofs.Writes.{has_number-filter}
use Rattle.intent_records.proofs.intents.Intents.related_until.Goals as goal

pub loop-path-init : goal.loop-path-init
loop-path-init c = λ x.
    ap (list_any (is_at (nat_cmp x))) c.new-found.ensures.empty
    ∙ sym (hit-none (near_any (take 0 c.args.paths.now)) (λ q. refl) c.args.own (Some c.args.until) x c.args.self.now.records.entries)

pub loop-path-preserved : goal.loop-path-preserved
loop-path-preserved c = λ x.
    hit-near_more c.args.paths.now c.loop-path.path-index c.path-item.result c.args.own (Some c.args.until) x c.args.self.now.records.entries
    (contains nat_cmp c.loop-path.found x) (contains nat_cmp c.find_related.new.found x)
    (grind (arith, common_steps)) (grind (arith, common_steps)) (c.loop-path.invariant x) (c.in_ok-find_related.ensures.found x)

pub returns : goal.returns
returns c = λ ps holds.
    let s = c.args.self.now in
    let own_txn = c.args.own in
    let paths = c.args.paths.now in
    let until = c.args.until in
    let keys = c.loop-path.found.keys in
    let whole : take c.loop-path.path-index paths ≡ paths = take_all c.loop-path.path-index paths (grind (arith, common_steps)) in
    let is = told-founds (get nat_cmp s.metas) ps (others_until own_txn paths until ps) keys holds.metas c.founds.ensures.ordered
    (λ y. c.loop-path.invariant y
    ∙ ap (λ l. hit (near_any l) own_txn (Some until) y s.records.entries) whole
    ∙ hit-others_until s ps holds own_txn paths until y)
    (λ y h. among_all (λ (p : Intent). not (is_own own_txn (txn_of p)) && nat_le p.wrote until && list_any (related p.path) paths) y ps
    (sym (has_number-filter (λ (p : Intent). not (is_own own_txn (txn_of p)) && nat_le p.wrote until && list_any (related p.path) paths) y ps) ∙ h)) in
    IfOk-weaker c.founds.result _ _ (λ others e. e ∙ is) c.founds.ensures.told
