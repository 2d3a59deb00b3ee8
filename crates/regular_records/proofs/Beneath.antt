-- What lies beneath a path stands together in the order of paths.
use Rattle.std.proofs.Common.{◌≡◌, ℕ, Bool, true, false, ◌&&◌, List, [], ◌∷◌, if◌then◌else◌, refl, sym, ap, ◌∙◌, ◌⊎◌, inl, inr}
use Rattle.std.specs.Prelude.{filter}
use Rattle.std.specs.Cmp.{tied_itself}
use Rattle.std.specs.Cmp.Lexicographic.{slice_cmp}
use Rattle.std.specs.Ordering.{nat_cmp, is_le, ordering_then, ordering_reverse}
use Rattle.std.specs.declared.cmp.Ordering.{Ordering}
use Rattle.std.specs.declared.cmp.Ordering.TheVariants.{Less, Equal, Greater}
use Rattle.std.proofs.lemmas.Cmp.{nat_list_cmp_total}
use Rattle.std.proofs.lemmas.Map.Lookups.{exact_bytes}
use Rattle.std.proofs.lemmas.Slice.Eq.{bytes_eq-Decides}
use Rattle.std.specs.Str.{bytes_eq}
use Rattle.txn_types.specs.Lists.{Member}
use Rattle.doc_path.specs.Path.{Parts, is_prefix}
use Rattle.regular_records.specs.Store.{Key, PathVersions}
use Rattle.regular_records.specs.Kept.{AreKept}
use Rattle.regular_records.proofs.Order.{parts_cmp}
use Rattle.regular_records.proofs.Prefix.{and-left, and-right}

pub kept-filter : (f : Key × PathVersions → Bool) (es : List (Key × PathVersions)) → AreKept es → AreKept (filter f es)
kept-filter f [] k = tt
kept-filter f (e ∷ es) k = elim (f e) as (λ b. AreKept (if b then e ∷ filter f es else filter f es)) [ true ↦ (k.0, kept-filter f es k.1) | false ↦ kept-filter f es k.1 ]

pub filter-member : (f : Key × PathVersions → Bool) (es : List (Key × PathVersions)) (e : Key × PathVersions) → Member e (filter f es) → Member e es
filter-member f [] e m = m
filter-member f (d ∷ es) e m =
    let P : Bool → Type 0 = λ b. Member e (if b then d ∷ filter f es else filter f es) → Member e (d ∷ es) in
    (elim (f d) as P [ true ↦ λ k. elim k [ inl is ↦ inl is | inr n ↦ inr (filter-member f es e n) ] | false ↦ λ k. inr (filter-member f es e k) ]) m

-- ---- a path is not after what lies beneath it, and what stands between lies beneath it too

pub prefix-first : (p q : Parts) → is_prefix p q ≡ true → is_le (parts_cmp p q) ≡ true
prefix-first [] [] h = refl
prefix-first [] (b ∷ q) h = refl
prefix-first (a ∷ p) [] h = cc
prefix-first (a ∷ p) (b ∷ q) h =
    let same : a ≡ b = (bytes_eq-Decides a b).0 (and-left (bytes_eq a b) (is_prefix p q) h) in
    let equal : slice_cmp nat_cmp a b ≡ Equal = ap (slice_cmp nat_cmp a) (sym same) ∙ tied_itself nat_list_cmp_total a in
    ap (λ o. is_le (ordering_then o (parts_cmp p q))) equal ∙ prefix-first p q (and-right (bytes_eq a b) (is_prefix p q) h)

first-or : (o r : Ordering) → is_le (ordering_then o r) ≡ true → (o ≡ Less) ⊎ ((o ≡ Equal) × (is_le r ≡ true))
first-or Less r h = inl refl
first-or Equal r h = inr (refl, h)
first-or Greater r h = cc

less-or : (o r : Ordering) → ordering_then o r ≡ Less → (o ≡ Less) ⊎ ((o ≡ Equal) × (r ≡ Less))
less-or Less r h = inl refl
less-or Equal r h = inr (refl, h)
less-or Greater r h = cc

not-both : (a c : List ℕ) → slice_cmp nat_cmp a c ≡ Less → (slice_cmp nat_cmp c a ≡ Less) ⊎ (slice_cmp nat_cmp c a ≡ Equal) → ⊥
not-both a c h k =
    let turned : slice_cmp nat_cmp c a ≡ Greater = nat_list_cmp_total.antisymm c a ∙ ap ordering_reverse h in
    elim k [ inl e ↦ let bad : Less ≡ Greater = sym e ∙ turned in cc | inr e ↦ let bad : Equal ≡ Greater = sym e ∙ turned in cc ]

pub between-beneath : (p k q : Parts) → is_le (parts_cmp p k) ≡ true → parts_cmp k q ≡ Less → is_prefix p q ≡ true → is_prefix p k ≡ true
between-beneath [] k q h less b = refl
between-beneath (a ∷ p) [] q h less b = cc
between-beneath (a ∷ p) (c ∷ k) [] h less b = cc
between-beneath (a ∷ p) (c ∷ k) (d ∷ q) h less b =
    let same : a ≡ d = (bytes_eq-Decides a d).0 (and-left (bytes_eq a d) (is_prefix p q) b) in
    let rest = and-right (bytes_eq a d) (is_prefix p q) b in
    let upper : (slice_cmp nat_cmp c a ≡ Less) ⊎ ((slice_cmp nat_cmp c a ≡ Equal) × (parts_cmp k q ≡ Less)) =
    less-or (slice_cmp nat_cmp c a) (parts_cmp k q) (ap (λ x. ordering_then (slice_cmp nat_cmp c x) (parts_cmp k q)) same ∙ less) in
    elim (first-or (slice_cmp nat_cmp a c) (parts_cmp p k) h) [
      | inl lower ↦ absurd (not-both a c lower (elim upper [ inl e ↦ inl e | inr e ↦ inr e.0 ]))
      | inr level ↦
          let is : a ≡ c = exact_bytes a c level.0 in
          elim upper [
            | inl e ↦ let bad : Equal ≡ Less = sym (ap (slice_cmp nat_cmp c) is ∙ tied_itself nat_list_cmp_total c) ∙ e in cc
            | inr e ↦
                let deeper = between-beneath p k q level.1 e.1 rest in
                ap (λ x. x && is_prefix p k) ((bytes_eq-Decides a c).1 is) ∙ deeper
          ]
    ]
