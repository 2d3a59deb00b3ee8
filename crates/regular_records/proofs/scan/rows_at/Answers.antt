use Rattle.std.proofs.Common.{◌≡◌, true, [], ◌∷◌, ◌++◌, inl, inr, if◌then◌else◌, append_assoc, ap, refl, sym, ◌∙◌, subst, arith}
use Rattle.std.proofs.lemmas.Grind.{common_steps}
use Rattle.doc_path.specs.Path.{is_prefix}
use Rattle.txn_types.specs.Lists.{Member}
use Rattle.txn_types.specs.Writes.{row_with}
use Rattle.regular_records.specs.Scan.{value_upto, rows_down}
use Rattle.regular_records.specs.Store.{Key, PathVersions, path_versions_at}
use Rattle.regular_records.proofs.Kept.{lookup-entry}
use Rattle.regular_records.specs.Kept.{AreKept}
use Rattle.regular_records.proofs.Beneath.{kept-filter, filter-member}
use Rattle.regular_records.proofs.scan.rows_at.Goals as goal

pub loop-beneath-init : goal.loop-beneath-init
loop-beneath-init c =
    let all = c.into_iter-beneath-iterator.ensures.into_iter_gives ∙ c.range-beneath-items.ensures.between tt in
    record {
      rows = grind (arith, common_steps, all, c.new-rows.ensures);
      kept = subst AreKept (sym all) (kept-filter _ c.args.paths.now.entries c.requires.1);
      found = λ e m. lookup-entry c.args.paths.now.entries c.requires.0 e (filter-member _ c.args.paths.now.entries e (subst (Member e) all m)) e.0.items refl;
      words = c.new-words.ensures c.args.t c.args.paths.now;
    }

pub go_to-requires-clause-some : goal.go_to-requires-clause-some
go_to-requires-clause-some c =
    let kept = subst AreKept c.in-Some.ensures.steps c.loop-beneath.invariant.kept in
    rw c.deref-in-loop-beneath-2.ensures.value kept.0.0

pub go_to-requires-clause-there : goal.go_to-requires-clause-there
go_to-requires-clause-there c =
    let e : Key × PathVersions = (c.in-Some.beneath.now, c.in-Some.versions.now) in
    let among = subst (Member e) (sym c.in-Some.ensures.steps) (inl refl) in
    ap (λ q. path_versions_at q c.args.paths.now) c.deref-in-loop-beneath-2.ensures.value ∙ c.loop-beneath.invariant.found e among

pub go_to-requires-clause-words : goal.go_to-requires-clause-words
go_to-requires-clause-words c = c.loop-beneath.invariant.words

pub loop-beneath-preserved : goal.loop-beneath-preserved
loop-beneath-preserved c =
    let t = c.args.t in
    let store = c.args.paths.now in
    let p = c.args.path.now.items in
    let q = c.in-Some.beneath.now.items in
    let e : Key × PathVersions = (c.in-Some.beneath.now, c.in-Some.versions.now) in
    let rest = c.next.new.self in
    let steps = c.in-Some.ensures.steps in
    let begins : is_prefix p q ≡ true =
    ap (λ r. is_prefix r q) (sym c.deref.ensures.value) ∙ ap (is_prefix c.deref.result.now) (sym c.deref-in-loop-beneath.ensures.value) ∙ sym c.begins.ensures ∙ c.if-not-begins.false in
    let path : c.go_to.new.self.path.now ≡ q = c.in_ok-go_to.ensures.path ∙ c.deref-in-loop-beneath-2.ensures.value in
    let value : c.in_ok-value.field-0 ≡ value_upto t store q = c.in_ok-value.ensures t store c.in_ok-go_to.ensures.words ∙ ap (value_upto t store) path in
    let row : c.push_row.new.rows ≡ c.loop-beneath.rows ++ row_with q (value_upto t store q) =
    c.in_ok-push_row.ensures ∙ ap (λ r. c.loop-beneath.rows ++ row_with r c.in_ok-value.field-0) c.deref-in-loop-beneath-3.ensures.value ∙ ap (λ v. c.loop-beneath.rows ++ row_with q v) value in
    let down : rows_down t p store (e ∷ rest) ≡ row_with q (value_upto t store q) ++ rows_down t p store rest =
    ap (λ b. if b then row_with q (value_upto t store q) ++ rows_down t p store rest else []) begins in
    record {
      rows = ap (λ rs. rs ++ rows_down t p store rest) row
          ∙ append_assoc c.loop-beneath.rows (row_with q (value_upto t store q)) (rows_down t p store rest)
          ∙ ap (λ rs. c.loop-beneath.rows ++ rs) (sym down)
          ∙ ap (λ es. c.loop-beneath.rows ++ rows_down t p store es) (sym steps)
          ∙ c.loop-beneath.invariant.rows;
      kept = (subst AreKept steps c.loop-beneath.invariant.kept).1;
      found = λ d m. c.loop-beneath.invariant.found d (subst (Member d) (sym steps) (inr m));
      words = c.in_ok-go_to.ensures.words;
    }

pub push_row-requires-clause-least : goal.push_row-requires-clause-least
push_row-requires-clause-least c =
    let kept = subst AreKept c.in-Some.ensures.steps c.loop-beneath.invariant.kept in
    rw c.deref-in-loop-beneath-3.ensures.value kept.0.0

pub push_row-requires-clause-most : goal.push_row-requires-clause-most
push_row-requires-clause-most c =
    let kept = subst AreKept c.in-Some.ensures.steps c.loop-beneath.invariant.kept in
    rw c.deref-in-loop-beneath-3.ensures.value kept.0.1
