use Rattle.std.proofs.Common.{◌||◌, ◌&&◌, not, Some, None, sym, ap, ◌∙◌}
use Rattle.std.specs.List.{list_any}
use Rattle.std.specs.BTreeMap.{get, is_at}
use Rattle.std.specs.Ordering.{nat_cmp}
use Rattle.std.proofs.lemmas.Result.{IfOk-weaker}
use Rattle.doc_path.specs.Path.{related}
use Rattle.txn_types.specs.Tablet.{Intent, is_of, others_on, founds}
use Rattle.intent_records.specs.Search.{hit, near}
use Rattle.intent_records.proofs.Hits.{hit-others_on, meeting-related}
use Rattle.intent_records.proofs.Told.{told-founds, among_all}
use Rattle.intent_records.proofs.Writes.{has_number-filter}
use Rattle.intent_records.proofs.intents.Intents.conflicting.Goals as goal

pub returns-clause-related : goal.returns-clause-related
returns-clause-related c = λ ps holds.
    let s = c.args.self.now in
    let x = c.args.txn in
    let path = c.args.path.now in
    let keys = c.find_related.new.found.keys in
    let is = told-founds (get nat_cmp s.metas) ps (others_on x path ps) keys holds.metas c.founds.ensures.ordered
    (λ y. c.in_ok-find_related.ensures.found y
    ∙ ap (λ l. list_any (is_at (nat_cmp y)) l || hit (near path) (Some x) None y s.records.entries) c.new-found.ensures.empty
    ∙ hit-others_on s ps holds x path y)
    (λ y h. among_all (λ (p : Intent). not (is_of x p) && related p.path path) y ps (sym (has_number-filter (λ (p : Intent). not (is_of x p) && related p.path path) y ps) ∙ h)) in
    IfOk-weaker c.founds.result _ _ (λ others e. e ∙ is) c.founds.ensures.told

pub returns-clause-conflicting : goal.returns-clause-conflicting
returns-clause-conflicting c = λ ps holds.
    let same = meeting-related c.writes_meet_where_related.ensures c.args.self.now ps holds c.args.txn c.args.path.now c.find_related.ensures.parts in
    IfOk-weaker c.founds.result _ _ (λ others e. e ∙ ap (founds ps) (sym same)) (returns-clause-related c ps holds)
