-- Versions at one place, and one more version in a list.
use Rattle.std.proofs.Common.{◌≡◌, ℕ, Bool, true, false, ◌&&◌, List, [], ◌∷◌, nat_eq, if◌then◌else◌, refl, sym, ap, ◌∙◌, arith, ◌⊎◌, inl, inr, subst}
use Rattle.std.proofs.lemmas.Bool.Decides.{nat_tests}
use Rattle.std.proofs.lemmas.List.{take_all}
use Rattle.doc_path.specs.Path.{Parts, is_prefix}
use Rattle.txn_data.specs.declared.version.Version.{Version}
use Rattle.txn_types.specs.Lists.{Member}
use Rattle.txn_types.specs.Tablet.{same_place, same_path, with_version, with_versions}
use Rattle.regular_records.specs.Holding.{IsApart, AreApart, Holds}
use Rattle.regular_records.specs.Adding.{Replaces}
use Rattle.regular_records.proofs.Prefix.{and-left, and-right, is_prefix-itself, prefix-take, prefix-length}

nat-is : (a b : ℕ) → nat_eq a b ≡ true → a ≡ b
nat-is a b h = grind (arith, nat_tests)

nat-same : (n : ℕ) → nat_eq n n ≡ true
nat-same n = grind (arith, nat_tests)

path-is : (p q : Parts) → same_path p q ≡ true → p ≡ q
path-is p q h =
    prefix-take p q (and-left (is_prefix p q) (is_prefix q p) h)
    ∙ take_all _ q (prefix-length q p (and-right (is_prefix p q) (is_prefix q p) h))

-- the two have one place
abbrev pub OnePlace : Version → Version → Type 0
OnePlace u v = (u.path ≡ v.path) × (u.at ≡ v.at) × (u.number ≡ v.number)

pub place-is : (u v : Version) → same_place u v ≡ true → OnePlace u v
place-is u v h =
    let first-two : (same_path u.path v.path && nat_eq u.at v.at) ≡ true = and-left (same_path u.path v.path && nat_eq u.at v.at) (nat_eq u.number v.number) h in (
      path-is u.path v.path (and-left (same_path u.path v.path) (nat_eq u.at v.at) first-two),
      nat-is u.at v.at (and-right (same_path u.path v.path) (nat_eq u.at v.at) first-two),
      nat-is u.number v.number (and-right (same_path u.path v.path && nat_eq u.at v.at) (nat_eq u.number v.number) h),
    )

pub place-from : (u v : Version) → OnePlace u v → same_place u v ≡ true
place-from u v h = rw (h.0, h.1, h.2, is_prefix-itself v.path) (rw (nat-same v.at, nat-same v.number) refl)

true-not-false : true ≡ false → ⊥
true-not-false h = cc

not-true : (b : Bool) → (b ≡ true → ⊥) → b ≡ false
not-true true h = absurd (h refl)
not-true false h = refl

pub apart-from : (u v : Version) → (OnePlace u v → ⊥) → same_place u v ≡ false
apart-from u v h = not-true (same_place u v) (λ e. h (place-is u v e))

pub apart-places : (u v : Version) → same_place u v ≡ false → OnePlace u v → ⊥
apart-places u v h k = true-not-false (sym (place-from u v k) ∙ h)

turned : (u v : Version) → OnePlace u v → OnePlace v u
turned u v h = (sym h.0, sym h.1, sym h.2)

joined : (u v w : Version) → OnePlace u v → OnePlace v w → OnePlace u w
joined u v w h k = (h.0 ∙ k.0, h.1 ∙ k.1, h.2 ∙ k.2)

apart-member : (v : Version) (vs : List Version) → IsApart v vs → (u : Version) → Member u vs → same_place v u ≡ false
apart-member v [] a u m = absurd m
apart-member v (w ∷ vs) a u m = elim m [ inl e ↦ rw e a.0 | inr n ↦ apart-member v vs a.1 u n ]

-- ---- one more version in a list

abbrev put : Bool → Version → Version → List Version → List Version
put b w v us = if b then v ∷ us else w ∷ with_version us v

with-cons : (w v : Version) (us : List Version) → with_version (w ∷ us) v ≡ put (same_place w v) w v us
unfolding with_version
with-cons w v us = refl

with-nil : (v : Version) → with_version [] v ≡ v ∷ []
unfolding with_version
with-nil v = refl

pub with-replaces : (v : Version) (us : List Version) → AreApart us → Replaces v us (with_version us v)
with-replaces v [] a u = (
  λ m. elim (subst (Member u) (with-nil v) m) [ inl e ↦ inl e | inr n ↦ absurd n ],
  λ m. subst (Member u) (sym (with-nil v)) (elim m [ inl e ↦ inl e | inr n ↦ absurd n.0 ]),
)
with-replaces v (w ∷ us) a u =
    let P : Bool → Type 0 = λ b. same_place w v ≡ b
    → (Member u (put b w v us) → (u ≡ v) ⊎ (Member u (w ∷ us) × (same_place u v ≡ false)))
    × ((u ≡ v) ⊎ (Member u (w ∷ us) × (same_place u v ≡ false)) → Member u (put b w v us)) in
    let both = (elim (same_place w v) as P [
      | true ↦ λ h. (
        λ m. elim m [
          | inl e ↦ inl e
          | inr n ↦ inr (inr n, apart-from u v (λ k. apart-places w u (apart-member w us a.0 u n) (joined w v u (place-is w v h) (turned u v k))))
        ],
        λ m. elim m [
          | inl e ↦ inl e
          | inr n ↦ elim n.0 [ inl e ↦ absurd (apart-places u v n.1 (let Q : Version → Type 0 = λ x. OnePlace x v in subst Q (sym e) (place-is w v h))) | inr o ↦ inr o ]
        ],
      )
      | false ↦ λ h. (
        λ m. elim m [
          | inl e ↦ inr (inl e, ap (λ x. same_place x v) e ∙ h)
          | inr n ↦ elim ((with-replaces v us a.1 u).0 n) [ inl e ↦ inl e | inr o ↦ inr (inr o.0, o.1) ]
        ],
        λ m. elim m [
          | inl e ↦ inr ((with-replaces v us a.1 u).1 (inl e))
          | inr n ↦ elim n.0 [ inl e ↦ inl e | inr o ↦ inr ((with-replaces v us a.1 u).1 (inr (o, n.1))) ]
        ],
      )
    ]) refl in
    (λ m. both.0 (subst (Member u) (with-cons w v us) m), λ m. subst (Member u) (sym (with-cons w v us)) (both.1 m))

apart-alike : (w v : Version) (us : List Version) → OnePlace w v → IsApart w us → IsApart v us
apart-alike w v [] h a = tt
apart-alike w v (u ∷ us) h a = (apart-from v u (λ k. apart-places w u a.0 (joined w v u h k)), apart-alike w v us h a.1)

apart-with : (w v : Version) (us : List Version) → same_place w v ≡ false → IsApart w us → IsApart w (with_version us v)
apart-with w v [] h a = subst (IsApart w) (sym (with-nil v)) (h, tt)
apart-with w v (u ∷ us) h a =
    subst (IsApart w) (sym (with-cons u v us))
    (elim (same_place u v) as (λ b. IsApart w (put b u v us)) [ true ↦ (h, a.1) | false ↦ (a.0, apart-with w v us h a.1) ])

pub apart-with_version : (v : Version) (us : List Version) → AreApart us → AreApart (with_version us v)
apart-with_version v [] a = subst AreApart (sym (with-nil v)) (tt, tt)
apart-with_version v (w ∷ us) a =
    let P : Bool → Type 0 = λ b. same_place w v ≡ b → AreApart (put b w v us) in
    subst AreApart (sym (with-cons w v us)) ((elim (same_place w v) as P [
      | true ↦ λ h. (apart-alike w v us (place-is w v h) a.0, a.1)
      | false ↦ λ h. (apart-with w v us h a.0, apart-with_version v us a.1)
    ]) refl)

replaced : (v : Version) (old new vs ws : List Version) → Replaces v old new → Replaces v vs ws → ((u : Version) → Member u vs → Member u old) → (u : Version) → Member u ws → Member u new
replaced v old new vs ws r s h u m = (r u).1 (elim ((s u).0 m) [ inl e ↦ inl e | inr n ↦ inr (h u n.0, n.1) ])

-- a set that takes one version more holds the list with it
pub holds-with : (v : Version) (old new vs : List Version) → Replaces v old new → Holds old vs → Holds new (with_version vs v)
holds-with v old new vs r h = (
  apart-with_version v vs h.0,
  λ u. (
    replaced v old new vs (with_version vs v) r (with-replaces v vs h.0) (λ u m. (h.1 u).0 m) u,
    replaced v vs (with_version vs v) old new (with-replaces v vs h.0) r (λ u m. (h.1 u).1 m) u,
  ),
)

pub with_versions-cons : (us : List Version) (v : Version) (vs : List Version) → with_versions us (v ∷ vs) ≡ with_versions (with_version us v) vs
unfolding with_versions
with_versions-cons us v vs = refl

pub with_versions-nil : (us : List Version) → with_versions us [] ≡ us
unfolding with_versions
with_versions-nil us = refl
