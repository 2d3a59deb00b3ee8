-- How records of the log change the contents.
use Rattle.std.proofs.Common.{◌≡◌, ℕ, zero, suc, List, [], ◌∷◌, ◌++◌, Option, Some, None, refl, ap, subst, sym, arith}
use Rattle.std.specs.Prelude.{map, Result, Ok, Err, OnErr}
use Rattle.std.specs.List.{All, AllByRecursion, fold}
use Rattle.doc_path.specs.Path.{Parts}
use Rattle.txn_data.specs.declared.provisional.Provisional.{Provisional}
use Rattle.txn_data.specs.declared.version.Version.{Version}
use Rattle.txn_types.specs.Tablet.{Intent, version_at}
use Rattle.intent_records.specs.Holds.{provisional_of}
use Rattle.tablet_records.specs.Fitting.{WriteFits}
use Rattle.conflict_matrix.specs.Decide.{decision}
use Rattle.tablet_records.specs.Keeps.{version_of, other_in}

-- what holds of each element, by its place
pub all_placed : {X : Type 0} (P : X → Type 0) (xs : List X) → AllByRecursion P xs → All P xs
all_placed P [] all k d h = absurd (omega arith)
all_placed P (x ∷ xs) all zero d h = all.0
all_placed P (x ∷ xs) all (suc k) d h = all_placed P xs all.1 k d (omega arith)

-- provisional writes as versions
pub as_versions : (at : ℕ) (ps : List Intent) → map (version_of at) (map provisional_of ps) ≡ map (version_at at) ps
as_versions at [] = refl
as_versions at (p ∷ ps) = ap (λ (vs : List Version). version_at at p ∷ vs) (as_versions at ps)

abbrev VersionFits : (Parts → Type 0) → Version → Type 0
VersionFits fits v = fits v.path

versions_fit_by : (fits : Parts → Type 0) (at : ℕ) (ws : List Provisional) → AllByRecursion (WriteFits fits) ws → AllByRecursion (VersionFits fits) (map (version_of at) ws)
versions_fit_by fits at [] all = tt
versions_fit_by fits at (w ∷ ws) all = (all.0, versions_fit_by fits at ws all.1)

pub versions_fit : (fits : Parts → Type 0) (at : ℕ) (ws : List Provisional) (list : List Version) → AllByRecursion (WriteFits fits) ws → list ≡ map (version_of at) ws
    → All (λ (v : Version). fits v.path) list
versions_fit fits at ws list all is = all_placed (VersionFits fits) list (subst (AllByRecursion (VersionFits fits)) (sym is) (versions_fit_by fits at ws all))

pub fold_push : {A B : Type 0} (f : A → B → A) (a : A) (xs : List B) (y : B) → fold f a (xs ++ y ∷ []) ≡ f (fold f a xs) y
fold_push f a [] y = refl
fold_push f a (x ∷ xs) y = fold_push f (f a x) xs y

pub on_err : {A E : Type 0} (P : Type 0) (r : Result A E) → P → OnErr r P
on_err P (Ok a) p = tt
on_err P (Err e) p = p

-- a write without a read time conflicts or goes on
pub other_alone : (c : Option ℕ) → other_in (decision c None) ≡ c
other_alone None = refl
other_alone (Some other) = refl
