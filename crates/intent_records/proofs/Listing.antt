-- What the index and the metadata have after one more path.
use Rattle.std.proofs.Common.{◌≡◌, ℕ, Bool, true, false, ◌&&◌, List, [], ◌∷◌, ◌++◌, Option, Some, None, Result, Ok, Err, OnOk, OnErr, is_err, refl, sym, ap, ◌∙◌, arith, nat_eq}
use Rattle.std.specs.Prelude.{cond, is_none}
use Rattle.std.specs.BTreeMap.{is_at}
use Rattle.std.specs.Ordering.{nat_cmp}
use Rattle.std.proofs.lemmas.Bool.Decides.{nat_tests}
use Rattle.doc_path.specs.Path.{Parts}
use Rattle.txn_data.specs.declared.meta.Meta.{Meta}
use Rattle.intent_records.specs.Steps.{Lists, ListsNothing, paths_or_none}
use Rattle.intent_records.proofs.Between.{is_eq-nat_cmp}

same_number : (t x : ℕ) → nat_eq t x ≡ true → t ≡ x
same_number t x h = grind (arith, nat_tests, h)

pub lists-new : (metas metas_after : ℕ → Option Meta) (index index_after : ℕ → Option (List Parts)) (meta : Meta) (path : Parts)
    → index meta.txn ≡ None
    → ((x : ℕ) → metas_after x ≡ cond (is_at (nat_cmp meta.txn) x) (Some meta) (metas x))
    → ((x : ℕ) → index_after x ≡ cond (is_at (nat_cmp meta.txn) x) (Some (path ∷ [])) (index x))
    → Lists metas index meta path metas_after index_after
lists-new metas metas_after index index_after meta path none first paths = record {
  paths = λ x. paths x ∙ ap (λ b. cond b (Some (path ∷ [])) (index x)) (is_eq-nat_cmp meta.txn x) ∙ paths_by x (nat_eq meta.txn x) refl;
  first = λ x. first x ∙ ap (λ b. cond b (Some meta) (metas x)) (is_eq-nat_cmp meta.txn x) ∙ first_by x (nat_eq meta.txn x) refl;
}
  where
    none_at : (x : ℕ) → nat_eq meta.txn x ≡ true → index x ≡ None
    none_at x h = ap index (sym (same_number meta.txn x h)) ∙ none

    paths_by : (x : ℕ) (b : Bool) → nat_eq meta.txn x ≡ b → cond b (Some (path ∷ [])) (index x) ≡ cond b (Some (paths_or_none (index x) ++ path ∷ [])) (index x)
    paths_by x true h = ap (λ o. Some (paths_or_none o ++ path ∷ [])) (sym (none_at x h))
    paths_by x false h = refl

    first_by : (x : ℕ) (b : Bool) → nat_eq meta.txn x ≡ b → cond b (Some meta) (metas x) ≡ cond (b && is_none (index x)) (Some meta) (metas x)
    first_by x true h = ap (λ o. cond (is_none o) (Some meta) (metas x)) (sym (none_at x h))
    first_by x false h = refl

-- the metadata was taken back
pub lists_nothing-new : (metas between metas_after : ℕ → Option Meta) (index index_after : ℕ → Option (List Parts)) (meta : Meta)
    → index meta.txn ≡ None
    → ((x : ℕ) → between x ≡ cond (is_at (nat_cmp meta.txn) x) (Some meta) (metas x))
    → ((x : ℕ) → metas_after x ≡ cond (is_at (nat_cmp meta.txn) x) None (between x))
    → ((x : ℕ) → index_after x ≡ index x)
    → ListsNothing metas index meta metas_after index_after
lists_nothing-new metas between metas_after index index_after meta none added removed paths = record {
  paths = paths;
  first = λ empty x.
      removed x
      ∙ ap (cond (is_at (nat_cmp meta.txn) x) None) (added x)
      ∙ ap (λ b. cond b None (cond b (Some meta) (metas x))) (is_eq-nat_cmp meta.txn x)
      ∙ by x (nat_eq meta.txn x) refl (empty none);
}
  where
    by : (x : ℕ) (b : Bool) → nat_eq meta.txn x ≡ b → metas meta.txn ≡ None → cond b None (cond b (Some meta) (metas x)) ≡ metas x
    by x true h empty = sym (ap metas (sym (same_number meta.txn x h)) ∙ empty)
    by x false h empty = refl

-- the paths were written back as they were
pub lists_nothing-old : (metas : ℕ → Option Meta) (index index_after : ℕ → Option (List Parts)) (meta : Meta) (paths : List Parts)
    → index meta.txn ≡ Some paths
    → ((x : ℕ) → index_after x ≡ cond (is_at (nat_cmp meta.txn) x) (Some paths) (index x))
    → ListsNothing metas index meta metas index_after
lists_nothing-old metas index index_after meta paths some written = record {
  paths = λ x. written x ∙ ap (λ b. cond b (Some paths) (index x)) (is_eq-nat_cmp meta.txn x) ∙ by x (nat_eq meta.txn x) refl;
  first = λ _ x. refl;
}
  where
    by : (x : ℕ) (b : Bool) → nat_eq meta.txn x ≡ b → cond b (Some paths) (index x) ≡ index x
    by x true h = sym (ap index (sym (same_number meta.txn x h)) ∙ some)
    by x false h = refl

pub on_err_at : {T E P : Type 0} (r : Result T E) → is_err r ≡ true → OnErr r P → P
on_err_at (Ok x) h p = cc
on_err_at (Err e) h p = p

pub on_ok_at : {T E P : Type 0} (r : Result T E) → is_err r ≡ false → OnOk r P → P
on_ok_at (Ok x) h p = p
on_ok_at (Err e) h p = cc
