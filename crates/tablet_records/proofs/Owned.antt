-- The provisional writes on related paths, as versions at their commit times.
use Rattle.std.proofs.Common.{◌≡◌, ℕ, Bool, true, false, List, [], ◌∷◌, ◌++◌, Option, Some, None, cond, refl, sym, ap, ◌∙◌}
use Rattle.std.specs.Prelude.{map, filter, filter_map, option_map}
use Rattle.std.specs.List.{AllByRecursion, cons_option}
use Rattle.std.proofs.lemmas.List.Elements.{filter-append, filter_map-append}
use Rattle.doc_path.specs.Path.{Parts}
use Rattle.txn_data.specs.declared.fate.Fate.{Fate}
use Rattle.txn_data.specs.declared.fate_of.FateOf.{FateOf}
use Rattle.txn_data.specs.declared.version.Version.{Version}
use Rattle.txn_data.specs.declared.provisional.Provisional.{Provisional}
use Rattle.txn_types.specs.Tablet.{Intent, txn_of, first_fate, commit_time, version_at, under_fate}
use Rattle.intent_records.specs.Holds.{own, provisional_of}
use Rattle.intent_records.specs.Related.{related_writes, on_related as write_on_related}
use Rattle.tablet_records.specs.Fitting.{WriteFits}
use Rattle.tablet_records.specs.Keeps.{version_of}
use Rattle.tablet_records.specs.Committed.{committed_of, on_related, version_under}

abbrev as_version : Intent → Option ℕ → Option Version
as_version p at = elim at [ Some c ↦ Some (version_at c p) | None ↦ None ]

under-first : (fates : List FateOf) (fate_of : ℕ → Option Fate) → ((x : ℕ) → fate_of x ≡ first_fate fates x) → (p : Intent) → version_under fate_of (provisional_of p) ≡ under_fate fates p
under-first fates fate_of is p = ap (λ f. option_map (λ c. version_of c (provisional_of p)) (commit_time f)) (is (txn_of p)) ∙ by (commit_time (first_fate fates (txn_of p)))
  where
    by : (o : Option ℕ) → option_map (λ c. version_of c (provisional_of p)) o ≡ as_version p o
    by None = refl
    by (Some c) = refl

-- records as versions are their writes as versions
pub under-firsts : (fates : List FateOf) (fate_of : ℕ → Option Fate) → ((x : ℕ) → fate_of x ≡ first_fate fates x) → (ps : List Intent)
    → filter_map (version_under fate_of) (map provisional_of ps) ≡ filter_map (under_fate fates) ps
under-firsts fates fate_of is [] = refl
under-firsts fates fate_of is (p ∷ ps) =
    ap (λ o. cons_option o (filter_map (version_under fate_of) (map provisional_of ps))) (under-first fates fate_of is p)
    ∙ ap (cons_option (under_fate fates p)) (under-firsts fates fate_of is ps)

-- a version is on the path of its write
related-kept : (paths : List Parts) (fates : List FateOf) (ps : List Intent)
    → filter (on_related paths) (filter_map (under_fate fates) ps) ≡ filter_map (under_fate fates) (filter (write_on_related paths) ps)
related-kept paths fates [] = refl
related-kept paths fates (p ∷ ps) = by (related-kept paths fates ps) (commit_time (first_fate fates (txn_of p))) refl
  where
    some : (c : ℕ) (b : Bool) → cond b (version_at c p ∷ filter_map (under_fate fates) (filter (write_on_related paths) ps)) (filter_map (under_fate fates) (filter (write_on_related paths) ps))
        ≡ cond b (cons_option (Some (version_at c p)) (filter_map (under_fate fates) (filter (write_on_related paths) ps))) (filter_map (under_fate fates) (filter (write_on_related paths) ps))
    some c true = refl
    some c false = refl

    out : (b : Bool) → cond b (cons_option (under_fate fates p) (filter_map (under_fate fates) (filter (write_on_related paths) ps))) (filter_map (under_fate fates) (filter (write_on_related paths) ps))
        ≡ filter_map (under_fate fates) (cond b (p ∷ filter (write_on_related paths) ps) (filter (write_on_related paths) ps))
    out true = refl
    out false = refl

    none : (b : Bool) → filter_map (under_fate fates) (filter (write_on_related paths) ps)
        ≡ cond b (cons_option (as_version p None) (filter_map (under_fate fates) (filter (write_on_related paths) ps))) (filter_map (under_fate fates) (filter (write_on_related paths) ps))
    none true = refl
    none false = refl

    by : filter (on_related paths) (filter_map (under_fate fates) ps) ≡ filter_map (under_fate fates) (filter (write_on_related paths) ps)
        → (o : Option ℕ) → commit_time (first_fate fates (txn_of p)) ≡ o
        → filter (on_related paths) (cons_option (under_fate fates p) (filter_map (under_fate fates) ps)) ≡ filter_map (under_fate fates) (filter (write_on_related paths) (p ∷ ps))
    by rest None h =
        ap (λ o. filter (on_related paths) (cons_option (as_version p o) (filter_map (under_fate fates) ps))) h
        ∙ rest
        ∙ none (write_on_related paths p)
        ∙ ap (λ o. cond (write_on_related paths p) (cons_option (as_version p o) (filter_map (under_fate fates) (filter (write_on_related paths) ps))) (filter_map (under_fate fates) (filter (write_on_related paths) ps))) (sym h)
        ∙ out (write_on_related paths p)
    by rest (Some c) h =
        ap (λ o. filter (on_related paths) (cons_option (as_version p o) (filter_map (under_fate fates) ps))) h
        ∙ ap (λ l. cond (write_on_related paths p) (version_at c p ∷ l) l) rest
        ∙ some c (write_on_related paths p)
        ∙ ap (λ o. cond (write_on_related paths p) (cons_option (as_version p o) (filter_map (under_fate fates) (filter (write_on_related paths) ps))) (filter_map (under_fate fates) (filter (write_on_related paths) ps))) (sym h)
        ∙ out (write_on_related paths p)

-- the committed writes of some transactions on related paths
pub related-committed : (paths : List Parts) (fates : List FateOf) (ps : List Intent) (xs : List ℕ)
    → filter_map (under_fate fates) (related_writes paths xs ps) ≡ filter (on_related paths) (committed_of fates ps xs)
related-committed paths fates ps [] = refl
related-committed paths fates ps (x ∷ xs) =
    filter_map-append (under_fate fates) (filter (write_on_related paths) (own x ps)) (related_writes paths xs ps)
    ∙ ap (λ l. l ++ filter_map (under_fate fates) (related_writes paths xs ps)) (sym (related-kept paths fates (own x ps)))
    ∙ ap (λ l. filter (on_related paths) (filter_map (under_fate fates) (own x ps)) ++ l) (related-committed paths fates ps xs)
    ∙ sym (filter-append (on_related paths) (filter_map (under_fate fates) (own x ps)) (committed_of fates ps xs))

-- ---- their paths fit

pub versions-fit : (fits : Parts → Type 0) (fate_of : ℕ → Option Fate) (ws : List Provisional) → AllByRecursion (WriteFits fits) ws
    → AllByRecursion (λ (v : Version). fits v.path) (filter_map (version_under fate_of) ws)
versions-fit fits fate_of [] a = tt
versions-fit fits fate_of (w ∷ ws) a = by (versions-fit fits fate_of ws a.1) (commit_time (fate_of w.txn))
  where
    by : AllByRecursion (λ (v : Version). fits v.path) (filter_map (version_under fate_of) ws)
        → (o : Option ℕ) → AllByRecursion (λ (v : Version). fits v.path) (cons_option (option_map (λ c. version_of c w) o) (filter_map (version_under fate_of) ws))
    by rest None = rest
    by rest (Some c) = (a.0, rest)
