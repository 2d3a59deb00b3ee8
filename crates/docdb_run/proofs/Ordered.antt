-- Versions in the order of their commit times, as the tablet of one session without transactions has them.
use Rattle.std.proofs.Common.{◌≡◌, ℕ, ◌<◌, ◌≤◌, Bool, true, false, ◌&&◌, List, [], ◌∷◌, ◌++◌, None, refl, ap, filter, nat_le, arith}
use Rattle.std.proofs.lemmas.Bool.{lt-ltb, le-leb, le-ltb, ne_eqb}
use Rattle.doc_path.specs.Path.{Parts}
use Rattle.txn_data.specs.declared.version.Version.{Version}
use Rattle.txn_data.specs.declared.window.Window.{Window}
use Rattle.txn_types.specs.Lists.{inserted_by, sorted_by}
use Rattle.txn_types.specs.Tablet.{version_before, same_place, same_path, with_version, writes_at, met_in}
use Rattle.docdb_run.specs.Course.{writes_of}

-- all committed not later than n; and all later than n
abbrev pub Upto : ℕ → List Version → Type 0
Upto n [] = Unit {0}
Upto n (v ∷ vs) = (v.at ≤ n) × Upto n vs

abbrev pub Above : ℕ → List Version → Type 0
Above n [] = Unit {0}
Above n (v ∷ vs) = (n < v.at) × Above n vs

-- each later than the ones before it
abbrev pub Ascending : List Version → Type 0
Ascending [] = Unit {0}
Ascending (v ∷ vs) = Above v.at vs × Ascending vs

pub upto_more : (n m : ℕ) (vs : List Version) → n ≤ m → Upto n vs → Upto m vs
upto_more n m [] le u = tt
upto_more n m (v ∷ vs) le u = (omega arith, upto_more n m vs le u.1)

pub upto_end : (n : ℕ) (vs : List Version) (v : Version) → Upto n vs → v.at ≤ n → Upto n (vs ++ v ∷ [])
upto_end n [] v u le = (le, tt)
upto_end n (w ∷ vs) v u le = (u.0, upto_end n vs v u.1 le)

pub above_end : (n : ℕ) (vs : List Version) (v : Version) → Above n vs → n < v.at → Above n (vs ++ v ∷ [])
above_end n [] v u le = (le, tt)
above_end n (w ∷ vs) v u le = (u.0, above_end n vs v u.1 le)

pub ascending_end : (n : ℕ) (vs : List Version) (v : Version) → Ascending vs → Upto n vs → n < v.at → Ascending (vs ++ v ∷ [])
ascending_end n [] v a u lt = (tt, tt)
ascending_end n (w ∷ vs) v a u lt = (above_end w.at vs v a.0 (omega arith), ascending_end n vs v a.1 u.1 lt)

-- a version of a new time goes to the end
pub and-false : (b : Bool) → (b && false) ≡ false
and-false true = refl
and-false false = refl

pub other_place : (u v : Version) → u.at < v.at → same_place u v ≡ false
other_place u v lt = rw (ne_eqb u.at v.at (λ (e : u.at ≡ v.at). omega arith), and-false (same_path u.path v.path)) refl

pub with_version_end : (n : ℕ) (vs : List Version) (v : Version) → Upto n vs → n < v.at → with_version vs v ≡ vs ++ v ∷ []
unfolding with_version
with_version_end n [] v u lt = refl
with_version_end n (w ∷ vs) v u lt = rw (other_place w v (omega arith), with_version_end n vs v u.1 lt) refl

-- all that is committed up to t is kept, and is in its order
pub filter_upto : (t : ℕ) (vs : List Version) → Upto t vs → filter (λ (v : Version). nat_le v.at t) vs ≡ vs
filter_upto t [] u = refl
filter_upto t (v ∷ vs) u = rw (le-leb v.at t u.0) (ap (λ (ws : List Version). v ∷ ws) (filter_upto t vs u.1))

pub before_later : (u v : Version) → u.at < v.at → version_before u v ≡ true
before_later u v lt = rw (lt-ltb u.at v.at lt) refl

pub inserted_first : (v : Version) (vs : List Version) → Above v.at vs → inserted_by version_before v vs ≡ v ∷ vs
unfolding inserted_by
inserted_first v [] a = refl
inserted_first v (w ∷ vs) a = rw (before_later v w a.0) refl

pub sorted_ascending : (vs : List Version) → Ascending vs → sorted_by version_before vs ≡ vs
unfolding sorted_by
sorted_ascending [] a = refl
sorted_ascending (v ∷ vs) a = rw (sorted_ascending vs a.1) (inserted_first v vs a.0)

pub writes_at_all : (t : ℕ) (vs : List Version) → Ascending vs → Upto t vs → writes_at t vs ≡ writes_of vs
unfolding writes_at
writes_at_all t vs a u = rw (filter_upto t vs u, sorted_ascending vs a) refl

-- nothing is newer than t, so nothing is met
pub met_none : (w : Window) (t : ℕ) (paths : List Parts) (vs : List Version) → Upto t vs → met_in w t paths vs ≡ None
unfolding met_in
met_none w t paths [] u = refl
met_none w t paths (v ∷ vs) u = rw (le-ltb t v.at u.0) (met_none w t paths vs u.1)
