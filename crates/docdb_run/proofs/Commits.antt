-- What is committed in the recorded history of a course: its single writes, in the order of their times.
use Rattle.std.proofs.Common.{◌≡◌, ℕ, ◌<◌, ◌≤◌, Bool, true, false, List, [], ◌∷◌, ◌++◌, refl, ap, ◌∙◌, arith, reverse, filter, flat_map, nat_le, ◌⊎◌, inl, inr}
use Rattle.std.proofs.lemmas.Bool.{le-leb, le-ltb, lt-leb, ne_eqb}
use Rattle.std.proofs.lemmas.List.{reverse-append, map-append}
use Rattle.std.proofs.lemmas.Grind.{flat_map-append}
use Rattle.doc_path.specs.Path.{Parts}
use Rattle.txn_data.specs.declared.append.Append.TheVariants.{Nothing, Took, Failed}
use Rattle.txn_data.specs.declared.op.Op.TheVariants.{Put}
use Rattle.txn_data.specs.declared.version.Version.{Version}
use Rattle.txn_data.specs.declared.written.Written.{Written}
use Rattle.txn_data.specs.declared.committed_txn.CommittedTxn.{CommittedTxn}
use Rattle.txn_data.specs.declared.request.Request.TheVariants as request
use Rattle.txn_data.specs.declared.event.Event.{Event}
use Rattle.txn_data.specs.declared.event.Event.TheVariants.{Serve}
use Rattle.txn_data.specs.declared.entry.Entry.{Entry}
use Rattle.txn_types.specs.Lists.{inserted_by, sorted_by}
use Rattle.txn_types.specs.History.{History, event_counts, next_restart_kept, counting_before}
use Rattle.txn_types.specs.Committed.{snapshot_by, single_by, committed, commits_before, fold_of}
use Rattle.docdb_run.specs.Course.{version_of, writes_of}

-- an entry of such a history: nothing is logged, and no transaction commits
abbrev pub Simple : Event → Type 0
Simple (Serve from (request.Commit x floor tablets) r time append) = ⊥
Simple (Serve from asked r time Nothing) = Unit {0}
Simple (Serve from asked r time append) = ⊥
Simple event = Unit {0}

abbrev pub AllSimple : History → Type 0
AllSimple [] = Unit {0}
AllSimple (e ∷ h) = Simple e.event × AllSimple h

pub no_snapshot : (h : History) (event : Event) → Simple event → snapshot_by h event ≡ []
no_snapshot h (Serve from (request.Commit x floor tablets) r time append) s = absurd s
no_snapshot h event s = refl

-- what an entry that counts commits, and what one that does not
pub counted_or_not : (event : Event) (kept : Bool) → Simple event → (event_counts event kept ≡ true) ⊎ ((event_counts event kept ≡ false) × (single_by event ≡ []))
counted_or_not (Serve from (request.Commit x floor tablets) r time append) kept s = absurd s
counted_or_not (Serve from asked r time Nothing) kept s = inl refl
counted_or_not (Serve from asked r time Took) kept s = absurd s
counted_or_not (Serve from asked r time Failed) kept s = absurd s
counted_or_not event kept s = inr (refl, refl)

unfoldable pub singles : History → List CommittedTxn
singles [] = []
singles (e ∷ h) = single_by e.event ++ singles h

commits_in : History → History → List CommittedTxn
commits_in whole h = flat_map (λ (e : Entry). snapshot_by whole e.event ++ single_by e.event) h

-- what is committed is what the single writes committed
with_single : (whole : History) (event : Event) (rest : List CommittedTxn) → Simple event →
    (snapshot_by whole event ++ single_by event) ++ rest ≡ single_by event ++ rest
with_single whole event rest s = rw (no_snapshot whole event s) refl

commits_counted : (whole later h : History) → AllSimple h → commits_in whole (counting_before later h) ≡ singles h
unfolding commits_in counting_before singles
commits_counted whole later [] s = refl
commits_counted whole later (e ∷ h) s = elim (counted_or_not e.event (next_restart_kept e.actor later) s.0) [
  | inl counts ↦ rw counts (with_single whole e.event (commits_in whole (counting_before (e ∷ later) h)) s.0
      ∙ ap (λ (cs : List CommittedTxn). single_by e.event ++ cs) (commits_counted whole (e ∷ later) h s.1))
  | inr not ↦ rw (not.0, not.1) (commits_counted whole (e ∷ later) h s.1)
]

pub committed_is : (h : History) → AllSimple h → committed h ≡ singles h
unfolding committed commits_in
committed_is h s = commits_counted h [] h s

-- commits in the order of their times, the newest first
abbrev pub Below : ℕ → List CommittedTxn → Type 0
Below n [] = Unit {0}
Below n (x ∷ xs) = (x.at < n) × Below n xs

abbrev pub Descending : List CommittedTxn → Type 0
Descending [] = Unit {0}
Descending (x ∷ xs) = Below x.at xs × Descending xs

pub below_more : (n m : ℕ) (xs : List CommittedTxn) → n ≤ m → Below n xs → Below m xs
below_more n m [] le b = tt
below_more n m (x ∷ xs) le b = (omega arith, below_more n m xs le b.1)

pub below_end : (n : ℕ) (xs : List CommittedTxn) (x : CommittedTxn) → Below n xs → x.at < n → Below n (xs ++ x ∷ [])
below_end n [] x b lt = (lt, tt)
below_end n (y ∷ xs) x b lt = (b.0, below_end n xs x b.1 lt)

pub below_reverse : (n : ℕ) (xs : List CommittedTxn) → Below n xs → Below n (reverse xs)
below_reverse n [] b = tt
below_reverse n (x ∷ xs) b = rw (reverse-append (x ∷ []) xs) (below_end n (reverse xs) x (below_reverse n xs b.1) b.0)

not_before : (x y : CommittedTxn) → y.at < x.at → commits_before x y ≡ false
not_before x y lt =
    rw (le-ltb x.at y.at (omega arith), ne_eqb x.at y.at (λ (e : x.at ≡ y.at). omega arith)) refl

inserted_end : (x : CommittedTxn) (ys : List CommittedTxn) → Below x.at ys → inserted_by commits_before x ys ≡ ys ++ x ∷ []
unfolding inserted_by
inserted_end x [] b = refl
inserted_end x (y ∷ ys) b = rw (not_before x y b.0) (ap (λ (zs : List CommittedTxn). y ∷ zs) (inserted_end x ys b.1))

pub sorted_descending : (xs : List CommittedTxn) → Descending xs → sorted_by commits_before xs ≡ reverse xs
unfolding sorted_by
sorted_descending [] d = refl
sorted_descending (x ∷ xs) d =
    rw (sorted_descending xs d.1, reverse-append (x ∷ []) xs) (inserted_end x (reverse xs) (below_reverse x.at xs d.0))

-- all up to t are in the fold at t; what is later is not
abbrev pub CommitsUpto : ℕ → List CommittedTxn → Type 0
CommitsUpto t [] = Unit {0}
CommitsUpto t (x ∷ xs) = (x.at ≤ t) × CommitsUpto t xs

pub commits_upto_more : (n m : ℕ) (xs : List CommittedTxn) → n ≤ m → CommitsUpto n xs → CommitsUpto m xs
commits_upto_more n m [] le u = tt
commits_upto_more n m (x ∷ xs) le u = (omega arith, commits_upto_more n m xs le u.1)

pub upto_below : (n m : ℕ) (xs : List CommittedTxn) → n < m → CommitsUpto n xs → Below m xs
upto_below n m [] lt u = tt
upto_below n m (x ∷ xs) lt u = (omega arith, upto_below n m xs lt u.1)

all_kept : (t : ℕ) (xs : List CommittedTxn) → CommitsUpto t xs → filter (λ (x : CommittedTxn). nat_le x.at t) xs ≡ xs
all_kept t [] u = refl
all_kept t (x ∷ xs) u = rw (le-leb x.at t u.0) (ap (λ (ys : List CommittedTxn). x ∷ ys) (all_kept t xs u.1))

abbrev pub writes_in : List CommittedTxn → List Written
writes_in xs = flat_map (λ (x : CommittedTxn). x.writes) xs

pub fold_all : (t : ℕ) (xs : List CommittedTxn) → Descending xs → CommitsUpto t xs → fold_of xs t ≡ writes_in (reverse xs)
unfolding fold_of
fold_all t xs d u = rw (all_kept t xs u, sorted_descending xs d) refl

pub fold_later : (t : ℕ) (x : CommittedTxn) (xs : List CommittedTxn) → t < x.at → fold_of (x ∷ xs) t ≡ fold_of xs t
unfolding fold_of
fold_later t x xs lt = rw (lt-leb x.at t lt) refl

-- one more commit, as a version
pub writes_one_more : (xs : List CommittedTxn) (vs : List Version) (x c : ℕ) (path : Parts) (v : List ℕ) →
    writes_in (reverse xs) ≡ writes_of vs →
    writes_in (reverse ((record { txn = x; at = c; writes = (record { path = path; op = Put v }) ∷ [] }) ∷ xs))
    ≡ writes_of (vs ++ version_of path v c ∷ [])
writes_one_more xs vs x c path v is =
    let commit : CommittedTxn = record { txn = x; at = c; writes = (record { path = path; op = Put v }) ∷ [] } in
    rw (
      reverse-append (commit ∷ []) xs,
      flat_map-append (λ (y : CommittedTxn). y.writes) (reverse xs) (commit ∷ []),
      map-append {B = Written} (λ (w : Version). record { path = w.path; op = w.op }) vs (version_of path v c ∷ []),
      is,
    ) refl
