-- What the words of the map answer for a list that it holds.
use Rattle.std.proofs.Common.{◌≡◌, ℕ, List, length, sym, ap, ◌∙◌, subst}
use Rattle.std.specs.Prelude.{option_map, Result, IfOk}
use Rattle.doc_path.specs.Path.{Parts}
use Rattle.txn_data.specs.declared.version.Version.{Version}
use Rattle.txn_types.specs.Writes.{set_at, value}
use Rattle.txn_types.specs.Tablet.{writes_at}
use Rattle.regular_records.specs.Records.{newest, write_of}
use Rattle.regular_records.specs.Holding.{Holds}
use Rattle.regular_records.specs.Store.{VersionStore, versions_of, newest_upto}
use Rattle.regular_records.specs.Kept.{IsKept}
use Rattle.regular_records.proofs.Newest.{newest_is_last_word}
use Rattle.regular_records.proofs.Down.{newest-kept}

-- a list that is held by what the map shows
pub held-by : (kept : List Version) (store : VersionStore) (vs : List Version) → versions_of store.entries ≡ kept → Holds kept vs → Holds (versions_of store.entries) vs
held-by kept store vs is h = let P : List Version → Type 0 = λ k. Holds k vs in subst P (sym is) h

pub newest-at : (t : ℕ) (p q : Parts) (store : VersionStore) (vs : List Version) → IsKept store → Holds (versions_of store.entries) vs → q ≡ p
    → newest_upto t q store (length q) ≡ newest t p vs
newest-at t p q store vs k h is = newest-kept t q store vs k h ∙ ap (λ r. newest t r vs) is

pub value-kept : (t : ℕ) (p q : Parts) (store : VersionStore) (vs : List Version) → IsKept store → Holds (versions_of store.entries) vs → q ≡ p
    → set_at q (option_map write_of (newest_upto t q store (length q))) ≡ value (writes_at t vs) p
value-kept t p q store vs k h is =
    ap (λ o. set_at q (option_map write_of o)) (newest-at t p q store vs k h is)
    ∙ ap (λ r. set_at r (option_map write_of (newest t p vs))) is
    ∙ ap (set_at p) (sym (newest_is_last_word t p vs))

pub if_ok-same : {A E : Type 0} (r : Result A E) (x y : A) → x ≡ y → IfOk r (λ a. a ≡ x) → IfOk r (λ a. a ≡ y)
if_ok-same {A} {E} r x y is h = let P : A → Type 0 = λ z. IfOk r (λ a. a ≡ z) in subst P is h
