-- What the map finds on the paths related to one is the best of the versions there.
use Rattle.std.proofs.Common.{◌≡◌, ℕ, ◌-◌, ◌≤◌, Bool, true, false, ◌&&◌, ◌||◌, List, ◌++◌, Option, suc, length, take, refl, sym, ap, ◌∙◌, arith, inl, inr, subst}
use Rattle.std.specs.Ordering.{is_lt, is_le}
use Rattle.std.specs.declared.cmp.Ordering.{Ordering}
use Rattle.std.specs.declared.cmp.Ordering.TheVariants.{Less, Equal, Greater}
use Rattle.doc_path.specs.Path.{Parts, is_prefix, related}
use Rattle.txn_data.specs.declared.version.Version.{Version}
use Rattle.txn_data.specs.declared.window.Window.{Window}
use Rattle.txn_data.specs.declared.met_at.MetAt.{MetAt}
use Rattle.txn_types.specs.Lists.{Member}
use Rattle.txn_types.specs.Tablet.{not_after}
use Rattle.regular_records.specs.Holding.{Holds}
use Rattle.regular_records.specs.Store.{VersionStore, versions_of}
use Rattle.regular_records.specs.Kept.{IsKept}
use Rattle.regular_records.specs.Related.{above_upto, found_at}
use Rattle.regular_records.proofs.Order.{parts_cmp, parts_exact, path_order-cmp}
use Rattle.regular_records.proofs.Prefix.{and-left, and-right, prefix-take, prefix-length, is_prefix-take, is_prefix-itself}
use Rattle.regular_records.proofs.Kept.{entry-of, path-on, member-append, member-left, member-right}
use Rattle.regular_records.proofs.Down.{entry-kept}
use Rattle.regular_records.proofs.Beneath.{prefix-first}
use Rattle.regular_records.proofs.Times.{passes, both}
use Rattle.regular_records.proofs.Best.{IsBest, transfer, not_after-less, not_after-trans}
use Rattle.regular_records.proofs.Below.{above_list, beneath_list, Earlier, above-best, above-prefix, above-has, above-kept, down-best, below-has, below-kept}

abbrev pub passes_on : ℕ → Option Window → Parts → Version → Bool
passes_on t w p v = passes t w v && related v.path p

pub or-left : (a b : Bool) → a ≡ true → (a || b) ≡ true
or-left true b h = refl
or-left false b h = cc

pub or-right : (a b : Bool) → b ≡ true → (a || b) ≡ true
or-right true b h = refl
or-right false b h = h

le-not_after : (o : Ordering) → is_le o ≡ true → not_after o ≡ true
le-not_after Less h = refl
le-not_after Equal h = refl
le-not_after Greater h = h

lt-less : (o : Ordering) → is_lt o ≡ true → o ≡ Less
lt-less Less h = refl
lt-less Equal h = cc
lt-less Greater h = cc

le-apart : (o : Ordering) → is_le o ≡ true → (o ≡ Equal → ⊥) → is_lt o ≡ true
le-apart Less h no_tie = refl
le-apart Equal h no_tie = absurd (no_tie refl)
le-apart Greater h no_tie = h

above-early : (p : Parts) (store : VersionStore) (n : ℕ) → Earlier p (above_list p store n) store.entries
above-early p store n v m e k below =
    let at = above-prefix p store n v m in
    let front : is_prefix v.path p ≡ true = ap (λ q. is_prefix q p) at.2 ∙ is_prefix-take p at.0 in
    not_after-trans v.path p e.0.items
    (ap not_after (path_order-cmp v.path p) ∙ le-not_after (parts_cmp v.path p) (prefix-first v.path p front))
    (not_after-less p e.0.items (lt-less (parts_cmp p e.0.items) (and-left (is_lt (parts_cmp p e.0.items)) (is_prefix p e.0.items) below)))

found-in : (t : ℕ) (w : Option Window) (p : Parts) (store : VersionStore) → IsKept store → (v : Version) → Member v (versions_of store.entries) → passes_on t w p v ≡ true
    → Member v (above_list p store (length p) ++ beneath_list p store.entries) × (passes t w v ≡ true)
found-in t w p store k v m g =
    let pass = and-left (passes t w v) (related v.path p) g in
    let at = entry-of store.entries v m in
    let path : v.path ≡ at.0.0.items = path-on at.0.0.items at.0.1.entries v at.2 in
    let some : 1 ≤ length v.path = subst (λ q. 1 ≤ length q) (sym path) (entry-kept store.entries k.1 at.0 at.1).0 in
    let P : Bool → Type 0 = λ b. is_prefix v.path p ≡ b → (b || is_prefix p v.path) ≡ true → Member v (above_list p store (length p) ++ beneath_list p store.entries) × (passes t w v ≡ true) in
    (elim (is_prefix v.path p) as P [
      | true ↦ λ front r.
          let j = length v.path - 1 in
          let many : suc j ≡ length v.path = omega arith in
          let fits : suc j ≤ length p = (let le = prefix-length v.path p front in omega arith) in (
            member-left v (above_list p store (length p)) (beneath_list p store.entries)
                (above-has p store k (length p) j fits v m (prefix-take v.path p front ∙ ap (λ n. take n p) (sym many))),
            pass,
          )
      | false ↦ λ front r.
          let below : is_prefix p at.0.0.items ≡ true = ap (is_prefix p) (sym path) ∙ r in
          let less = le-apart (parts_cmp p at.0.0.items) (prefix-first p at.0.0.items below)
          (λ e. let same : p ≡ v.path = parts_exact p at.0.0.items e ∙ sym path in let bad : true ≡ false = sym (is_prefix-itself v.path) ∙ ap (is_prefix v.path) (sym same) ∙ front in cc) in (
            member-right v (above_list p store (length p)) (beneath_list p store.entries)
                (below-has p store.entries at.0 v at.1 at.2 (both (is_lt (parts_cmp p at.0.0.items)) (is_prefix p at.0.0.items) less below)),
            pass,
          )
    ]) refl (and-right (passes t w v) (related v.path p) g)

found-from : (t : ℕ) (w : Option Window) (p : Parts) (store : VersionStore) (v : Version) → Member v (above_list p store (length p) ++ beneath_list p store.entries) → passes t w v ≡ true
    → Member v (versions_of store.entries) × (passes_on t w p v ≡ true)
found-from t w p store v m g = elim (member-append v (above_list p store (length p)) (beneath_list p store.entries) m) [
  | inl a ↦
      let at = above-prefix p store (length p) v a in
      let front : is_prefix v.path p ≡ true = ap (λ q. is_prefix q p) at.2 ∙ is_prefix-take p at.0 in
      (above-kept p store (length p) v a, both (passes t w v) (related v.path p) g (or-left (is_prefix v.path p) (is_prefix p v.path) front))
  | inr b ↦
      let at = below-kept p store.entries v b in
      (at.0, both (passes t w v) (related v.path p) g (or-right (is_prefix v.path p) (is_prefix p v.path) at.1))
]

pub related-kept : (t : ℕ) (w : Option Window) (p : Parts) (store : VersionStore) → IsKept store → IsBest (passes_on t w p) (versions_of store.entries) (found_at t w p store)
related-kept t w p store k =
    transfer (passes t w) (passes_on t w p) (above_list p store (length p) ++ beneath_list p store.entries) (versions_of store.entries) (found-from t w p store) (found-in t w p store k) (found_at t w p store)
    (down-best t w p store.entries k.0 k.1 (above_list p store (length p)) (above_upto t w p store (length p)) (above-best t w p store k (length p) (omega arith)) (above-early p store (length p)))

pub held-best : (f : Version → Bool) (kept vs : List Version) (r : Option MetAt) → Holds kept vs → IsBest f kept r → IsBest f vs r
held-best f kept vs r h b = transfer f f kept vs (λ v m g. ((h.1 v).1 m, g)) (λ v m g. ((h.1 v).0 m, g)) r b
