-- The places of prefixes: what one more place, or another time at one, changes.
use Rattle.std.proofs.Common.{◌≡◌, ℕ, Bool, true, false, List, [], ◌∷◌, Option, Some, None, cond, refl, sym, ap, ◌∙◌}
use Rattle.std.specs.Prelude.{is_some, IsSome}
use Rattle.std.specs.BTreeMap.{insert_entry}
use Rattle.std.specs.Map.{set_value}
use Rattle.std.specs.Cmp.{tied_itself}
use Rattle.std.specs.Ordering.{is_eq, match_ordering}
use Rattle.std.specs.declared.cmp.Ordering.{Ordering}
use Rattle.std.specs.declared.cmp.Ordering.TheVariants.{Less, Equal, Greater}
use Rattle.doc_path.specs.Path.{Parts}
use Rattle.txn_types.specs.Lists.{or_zero}
use Rattle.regular_records.specs.Store.{Key}
use Rattle.regular_records.specs.Kept.{key_order}
use Rattle.regular_records.specs.NewestBeneath.{place_of}
use Rattle.regular_records.proofs.Order.{parts_cmp, parts_total, parts_exact}
use Rattle.regular_records.proofs.Made.{key_at}

equal-is : (o : Ordering) → is_eq o ≡ true → o ≡ Equal
equal-is Less h = cc
equal-is Equal h = refl
equal-is Greater h = cc

pub key-is : (q : Parts) (k : Key) → key_at q k ≡ true → q ≡ k.items
key-is q k h = parts_exact q k.items (equal-is (parts_cmp q k.items) h)

pub key-itself : (q : Parts) (k : Key) → q ≡ k.items → key_at q k ≡ true
key-itself q k is = ap (λ p. is_eq (parts_cmp p k.items)) is ∙ ap is_eq (tied_itself parts_total k.items)

missing-head : (p : Parts) (e : Key × ℕ) (es : List (Key × ℕ)) → place_of p (e ∷ es) ≡ None → (key_at p e.0 ≡ false) × (place_of p es ≡ None)
missing-head p e es h =
    let P : Bool → Type 0 = λ b. key_at p e.0 ≡ b → cond b (Some e.1) (place_of p es) ≡ None → (key_at p e.0 ≡ false) × (place_of p es ≡ None) in
    (elim (key_at p e.0) as P [ true ↦ λ t n. cc | false ↦ λ t n. (t, n) ]) refl h

swap-cond : (a b : Bool) (x y : ℕ) (o : Option ℕ) → (a ≡ true → b ≡ true → ⊥) → cond a (Some x) (cond b (Some y) o) ≡ cond b (Some y) (cond a (Some x) o)
swap-cond true true x y o h = absurd (h refl refl)
swap-cond true false x y o h = refl
swap-cond false true x y o h = refl
swap-cond false false x y o h = refl

-- one more place
pub place-inserted : (q : Parts) (k : Key) (es : List (Key × ℕ)) (c : ℕ) → place_of k.items es ≡ None
    → place_of q (insert_entry key_order es k c) ≡ cond (key_at q k) (Some c) (place_of q es)
place-inserted q k [] c h = refl
place-inserted q k (e ∷ es) c h =
    let head = missing-head k.items e es h in
    let P : Ordering → Type 0 = λ o. key_order k e.0 ≡ o
    → place_of q (match_ordering o ((k, c) ∷ e ∷ es) ((e.0, c) ∷ es) (e ∷ insert_entry key_order es k c)) ≡ cond (key_at q k) (Some c) (place_of q (e ∷ es)) in
    (elim (key_order k e.0) as P [
      | Less ↦ λ o. refl
      | Equal ↦ λ o. let bad : true ≡ false = sym (ap is_eq o) ∙ head.0 in cc
      | Greater ↦ λ o.
          ap (cond (key_at q e.0) (Some e.1)) (place-inserted q k es c head.1)
          ∙ swap-cond (key_at q e.0) (key_at q k) e.1 c (place_of q es)
          (λ a b. let bad : true ≡ false = sym (key-itself k.items e.0 (sym (key-is q k b) ∙ key-is q e.0 a)) ∙ head.0 in cc)
    ]) refl

zero-cond : (b : Bool) (o : Option ℕ) → (b ≡ true → o ≡ None) → or_zero (cond b (Some 0) o) ≡ or_zero o
zero-cond true o h = sym (ap or_zero (h refl))
zero-cond false o h = refl

-- a new place without a time changes no time
pub time-inserted : (q : Parts) (k : Key) (es : List (Key × ℕ)) → place_of k.items es ≡ None
    → or_zero (place_of q (insert_entry key_order es k 0)) ≡ or_zero (place_of q es)
time-inserted q k es h =
    ap or_zero (place-inserted q k es 0 h)
    ∙ zero-cond (key_at q k) (place_of q es) (λ b. ap (λ p. place_of p es) (key-is q k b) ∙ h)

some-cond : (b : Bool) (c : ℕ) (o : Option ℕ) → IsSome o → IsSome (cond b (Some c) o)
some-cond true c o h = refl
some-cond false c o h = h

pub place-stays : (q : Parts) (k : Key) (es : List (Key × ℕ)) (c : ℕ) → place_of k.items es ≡ None → IsSome (place_of q es) → IsSome (place_of q (insert_entry key_order es k c))
place-stays q k es c h some = ap is_some (place-inserted q k es c h) ∙ some-cond (key_at q k) c (place_of q es) some

pub place-made : (q : Parts) (k : Key) (es : List (Key × ℕ)) (c : ℕ) → place_of k.items es ≡ None → q ≡ k.items → IsSome (place_of q (insert_entry key_order es k c))
place-made q k es c h is = ap is_some (place-inserted q k es c h) ∙ ap (λ b. is_some (cond b (Some c) (place_of q es))) (key-itself q k is)

-- ---- another time at a place

pub place-other : (q p : Parts) (es : List (Key × ℕ)) (c : ℕ) → (q ≡ p → ⊥) → place_of q (set_value (key_at p) es c) ≡ place_of q es
place-other q p [] c apart = refl
place-other q p (e ∷ es) c apart =
    let P : Bool → Type 0 = λ b. key_at p e.0 ≡ b → place_of q (cond b ((e.0, c) ∷ es) (e ∷ set_value (key_at p) es c)) ≡ place_of q (e ∷ es) in
    (elim (key_at p e.0) as P [
      | true ↦ λ t.
          let Q : Bool → Type 0 = λ b. key_at q e.0 ≡ b → cond b (Some c) (place_of q es) ≡ cond b (Some e.1) (place_of q es) in
          (elim (key_at q e.0) as Q [
            | true ↦ λ s. absurd (apart (key-is q e.0 s ∙ sym (key-is p e.0 t)))
            | false ↦ λ s. refl
          ]) refl
      | false ↦ λ t. ap (cond (key_at q e.0) (Some e.1)) (place-other q p es c apart)
    ]) refl

pub place-set : (p : Parts) (es : List (Key × ℕ)) (c : ℕ) → IsSome (place_of p es) → place_of p (set_value (key_at p) es c) ≡ Some c
place-set p [] c some = cc
place-set p (e ∷ es) c some =
    let P : Bool → Type 0 = λ b. key_at p e.0 ≡ b → IsSome (cond b (Some e.1) (place_of p es)) → place_of p (cond b ((e.0, c) ∷ es) (e ∷ set_value (key_at p) es c)) ≡ Some c in
    (elim (key_at p e.0) as P [
      | true ↦ λ t s. ap (λ b. cond b (Some c) (place_of p es)) t
      | false ↦ λ t s. ap (λ b. cond b (Some e.1) (place_of p (set_value (key_at p) es c))) t ∙ place-set p es c s
    ]) refl some

pub place-kept : (q p : Parts) (es : List (Key × ℕ)) (c : ℕ) → IsSome (place_of q es) → IsSome (place_of q (set_value (key_at p) es c))
place-kept q p [] c some = some
place-kept q p (e ∷ es) c some =
    let P : Bool → Type 0 = λ b. IsSome (place_of q (cond b ((e.0, c) ∷ es) (e ∷ set_value (key_at p) es c))) in
    (elim (key_at p e.0) as P [
      | true ↦
          let Q : Bool → Type 0 = λ b. IsSome (cond b (Some e.1) (place_of q es)) → IsSome (cond b (Some c) (place_of q es)) in
          (elim (key_at q e.0) as Q [ true ↦ λ s. refl | false ↦ λ s. s ]) some
      | false ↦
          let Q : Bool → Type 0 = λ b. IsSome (cond b (Some e.1) (place_of q es)) → IsSome (cond b (Some e.1) (place_of q (set_value (key_at p) es c))) in
          (elim (key_at q e.0) as Q [ true ↦ λ s. refl | false ↦ λ s. place-kept q p es c s ]) some
    ])
