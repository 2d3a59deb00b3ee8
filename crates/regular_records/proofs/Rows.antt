-- Two lists of paths in order, which have the same paths with a value, have the same rows.
use Rattle.std.proofs.Common.{◌≡◌, ℕ, ◌+◌, ◌≤◌, Bool, true, false, List, [], ◌∷◌, ◌++◌, if◌then◌else◌, zero, suc, length, refl, sym, ap, ◌∙◌, arith, ◌⊎◌, inl, inr, subst}
use Rattle.std.specs.Prelude.{filter, flat_map, map}
use Rattle.std.specs.List.{AllByRecursion}
use Rattle.std.specs.List.Sorted.{IsStrictlySortedBy}
use Rattle.std.specs.Map.{keys_of}
use Rattle.std.specs.Cmp.{tied_itself}
use Rattle.std.specs.Ordering.{ordering_reverse}
use Rattle.std.specs.declared.cmp.Ordering.{Ordering}
use Rattle.std.specs.declared.cmp.Ordering.TheVariants.{Less, Equal, Greater}
use Rattle.doc_path.specs.Path.{Parts, is_prefix, path_order}
use Rattle.txn_data.specs.declared.row.Row.{Row}
use Rattle.txn_data.specs.declared.written.Written.{Written}
use Rattle.txn_types.specs.Lists.{Member}
use Rattle.txn_types.specs.Writes.{with_path, paths_beneath}
use Rattle.regular_records.specs.Store.{Key, PathVersions}
use Rattle.regular_records.specs.Kept.{key_order}
use Rattle.regular_records.proofs.Order.{parts_cmp, parts_total, parts_exact, path_order-cmp}

-- p is before each of these
abbrev pub AllAfter : Parts → List Parts → Type 0
AllAfter p [] = Unit {0}
AllAfter p (q ∷ qs) = (parts_cmp p q ≡ Less) × AllAfter p qs

abbrev pub Rising : List Parts → Type 0
Rising [] = Unit {0}
Rising (q ∷ qs) = AllAfter q qs × Rising qs

after-trans : (p q : Parts) (qs : List Parts) → parts_cmp p q ≡ Less → AllAfter q qs → AllAfter p qs
after-trans p q [] h a = tt
after-trans p q (r ∷ qs) h a = (parts_total.trans p q r h a.0, after-trans p q qs h a.1)

after-member : (p : Parts) (qs : List Parts) → AllAfter p qs → (q : Parts) → Member q qs → parts_cmp p q ≡ Less
after-member p [] a q m = absurd m
after-member p (r ∷ qs) a q m = elim m [ inl e ↦ ap (parts_cmp p) e ∙ a.0 | inr n ↦ after-member p qs a.1 q n ]

not-after-itself : (p : Parts) → parts_cmp p p ≡ Less → ⊥
not-after-itself p h = let bad : Equal ≡ Less = sym (tied_itself parts_total p) ∙ h in cc

not-after-both : (p q : Parts) → parts_cmp p q ≡ Less → parts_cmp q p ≡ Less → ⊥
not-after-both p q h k = let bad : Less ≡ Greater = sym h ∙ parts_total.antisymm p q ∙ ap ordering_reverse k in cc

turn-greater : (o r : Ordering) → o ≡ Greater → o ≡ ordering_reverse r → r ≡ Less
turn-greater o Less h e = refl
turn-greater o Equal h e = let bad : Greater ≡ Equal = sym h ∙ e in cc
turn-greater o Greater h e = let bad : Greater ≡ Less = sym h ∙ e in cc

pub greater-less : (p q : Parts) → parts_cmp p q ≡ Greater → parts_cmp q p ≡ Less
greater-less p q h = turn-greater (parts_cmp p q) (parts_cmp q p) h (parts_total.antisymm p q)

-- ---- lists that rise

abbrev pub items_of : List (Key × PathVersions) → List Parts
items_of es = map (λ (e : Key × PathVersions). e.0.items) es

after-items : (k : Key) (es : List (Key × PathVersions)) → AllByRecursion (λ y. key_order k y ≡ Less) (keys_of es) → AllAfter k.items (items_of es)
after-items k [] a = tt
after-items k (e ∷ es) a = (a.0, after-items k es a.1)

pub rising-items : (es : List (Key × PathVersions)) → IsStrictlySortedBy key_order (keys_of es) → Rising (items_of es)
unfolding IsStrictlySortedBy
rising-items [] o = tt
rising-items (e ∷ es) o = (after-items e.0 es o.0, rising-items es o.1)

after-filter : (f : Parts → Bool) (p : Parts) (qs : List Parts) → AllAfter p qs → AllAfter p (filter f qs)
after-filter f p [] a = tt
after-filter f p (q ∷ qs) a = elim (f q) as (λ b. AllAfter p (if b then q ∷ filter f qs else filter f qs)) [ true ↦ (a.0, after-filter f p qs a.1) | false ↦ after-filter f p qs a.1 ]

pub rising-filter : (f : Parts → Bool) (qs : List Parts) → Rising qs → Rising (filter f qs)
rising-filter f [] r = tt
rising-filter f (q ∷ qs) r = elim (f q) as (λ b. Rising (if b then q ∷ filter f qs else filter f qs)) [ true ↦ (after-filter f q qs r.0, rising-filter f qs r.1) | false ↦ rising-filter f qs r.1 ]

abbrev pub placed : Ordering → Parts → Parts → List Parts → List Parts
placed Less p q qs = p ∷ q ∷ qs
placed Equal p q qs = q ∷ qs
placed Greater p q qs = q ∷ with_path p qs

pub with_path-cons : (p q : Parts) (qs : List Parts) → with_path p (q ∷ qs) ≡ placed (parts_cmp p q) p q qs
unfolding with_path
with_path-cons p q qs =
    elim (path_order p q) as (λ o. (elim o [ Less ↦ p ∷ q ∷ qs | Equal ↦ q ∷ qs | Greater ↦ q ∷ with_path p qs ]) ≡ placed o p q qs) [ Less ↦ refl | Equal ↦ refl | Greater ↦ refl ]
    ∙ ap (λ o. placed o p q qs) (path_order-cmp p q)

pub with_path-nil : (p : Parts) → with_path p [] ≡ p ∷ []
unfolding with_path
with_path-nil p = refl

after-with : (r p : Parts) (qs : List Parts) → parts_cmp r p ≡ Less → AllAfter r qs → AllAfter r (with_path p qs)
after-with r p [] h a = subst (AllAfter r) (sym (with_path-nil p)) (h, tt)
after-with r p (q ∷ qs) h a =
    let P : Ordering → Type 0 = λ o. AllAfter r (placed o p q qs) in
    subst (AllAfter r) (sym (with_path-cons p q qs)) (elim (parts_cmp p q) as P [ Less ↦ (h, a) | Equal ↦ a | Greater ↦ (a.0, after-with r p qs h a.1) ])

pub rising-with : (p : Parts) (qs : List Parts) → Rising qs → Rising (with_path p qs)
rising-with p [] r = subst Rising (sym (with_path-nil p)) (tt, tt)
rising-with p (q ∷ qs) r =
    let P : Ordering → Type 0 = λ o. parts_cmp p q ≡ o → Rising (placed o p q qs) in
    subst Rising (sym (with_path-cons p q qs)) ((elim (parts_cmp p q) as P [
      | Less ↦ λ h. ((h, after-trans p q qs h r.0), r)
      | Equal ↦ λ h. r
      | Greater ↦ λ h. (after-with q p qs (greater-less p q h) r.0, rising-with p qs r.1)
    ]) refl)

pub rising-beneath : (p : Parts) (ws : List Written) → Rising (paths_beneath p ws)
unfolding paths_beneath
rising-beneath p [] = tt
rising-beneath p (w ∷ ws) = elim (is_prefix p w.path) as (λ b. Rising (if b then with_path w.path (paths_beneath p ws) else paths_beneath p ws)) [
  | true ↦ rising-with w.path (paths_beneath p ws) (rising-beneath p ws)
  | false ↦ rising-beneath p ws
]

pub with-has : (p : Parts) (qs : List Parts) → Member p (with_path p qs)
with-has p [] = subst (Member p) (sym (with_path-nil p)) (inl refl)
with-has p (q ∷ qs) =
    let P : Ordering → Type 0 = λ o. parts_cmp p q ≡ o → Member p (placed o p q qs) in
    subst (Member p) (sym (with_path-cons p q qs)) ((elim (parts_cmp p q) as P [ Less ↦ λ h. inl refl | Equal ↦ λ h. inl (parts_exact p q h) | Greater ↦ λ h. inr (with-has p qs) ]) refl)

pub with-keeps : (r p : Parts) (qs : List Parts) → Member r qs → Member r (with_path p qs)
with-keeps r p [] m = absurd m
with-keeps r p (q ∷ qs) m =
    let P : Ordering → Type 0 = λ o. Member r (placed o p q qs) in
    subst (Member r) (sym (with_path-cons p q qs)) (elim (parts_cmp p q) as P [ Less ↦ inr m | Equal ↦ m | Greater ↦ (elim m [ inl e ↦ inl e | inr n ↦ inr (with-keeps r p qs n) ]) ])

pub with-only : (r p : Parts) (qs : List Parts) → Member r (with_path p qs) → (r ≡ p) ⊎ Member r qs
with-only r p [] m = elim (subst (Member r) (with_path-nil p) m) [ inl e ↦ inl e | inr n ↦ absurd n ]
with-only r p (q ∷ qs) m =
    let P : Ordering → Type 0 = λ o. Member r (placed o p q qs) → (r ≡ p) ⊎ Member r (q ∷ qs) in
    (elim (parts_cmp p q) as P [
      | Less ↦ λ k. elim k [ inl e ↦ inl e | inr n ↦ inr n ]
      | Equal ↦ λ k. inr k
      | Greater ↦ λ k. elim k [ inl e ↦ inr (inl e) | inr n ↦ elim (with-only r p qs n) [ inl e ↦ inl e | inr o ↦ inr (inr o) ] ]
    ]) (subst (Member r) (with_path-cons p q qs) m)

pub beneath-has : (p : Parts) (ws : List Written) (w : Written) → Member w ws → is_prefix p w.path ≡ true → Member w.path (paths_beneath p ws)
unfolding paths_beneath
beneath-has p [] w m h = absurd m
beneath-has p (v ∷ ws) w m h = elim m [
  | inl e ↦
      let here : is_prefix p v.path ≡ true = ap (λ (x : Written). is_prefix p x.path) (sym e) ∙ h in
      let P : Bool → Type 0 = λ b. Member w.path (if b then with_path v.path (paths_beneath p ws) else paths_beneath p ws) in
      subst P (sym here) (let Q : Parts → Type 0 = λ q. Member w.path (with_path q (paths_beneath p ws)) in subst Q (ap (λ (x : Written). x.path) e) (with-has w.path (paths_beneath p ws)))
  | inr n ↦
      let there = beneath-has p ws w n h in
      elim (is_prefix p v.path) as (λ b. Member w.path (if b then with_path v.path (paths_beneath p ws) else paths_beneath p ws)) [ true ↦ with-keeps w.path v.path (paths_beneath p ws) there | false ↦ there ]
]

pub beneath-prefix : (p : Parts) (ws : List Written) (q : Parts) → Member q (paths_beneath p ws) → is_prefix p q ≡ true
unfolding paths_beneath
beneath-prefix p [] q m = absurd m
beneath-prefix p (v ∷ ws) q m =
    let P : Bool → Type 0 = λ b. is_prefix p v.path ≡ b → Member q (if b then with_path v.path (paths_beneath p ws) else paths_beneath p ws) → is_prefix p q ≡ true in
    (elim (is_prefix p v.path) as P [
      | true ↦ λ h k. elim (with-only q v.path (paths_beneath p ws) k) [ inl e ↦ ap (is_prefix p) e ∙ h | inr n ↦ beneath-prefix p ws q n ]
      | false ↦ λ h k. beneath-prefix p ws q k
    ]) refl m

-- ---- the same rows

abbrev pub Covers : (Parts → List Row) → List Parts → List Parts → Type 0
Covers rows qs rs = (q : Parts) → Member q qs → (rows q ≡ []) ⊎ Member q rs

no-rows : (rows : Parts → List Row) (qs : List Parts) → Covers rows qs [] → flat_map rows qs ≡ []
no-rows rows [] c = refl
no-rows rows (q ∷ qs) c =
    let none : rows q ≡ [] = elim (c q (inl refl)) [ inl e ↦ e | inr n ↦ absurd n ] in
    ap (λ r. r ++ flat_map rows qs) none ∙ no-rows rows qs (λ r m. c r (inr m))

-- a path before all others has no row, and may be left out
skip : (rows : Parts → List Row) (a b : Parts) (ys : List Parts) → parts_cmp a b ≡ Less → AllAfter b ys → (rows a ≡ []) ⊎ Member a (b ∷ ys) → rows a ≡ []
skip rows a b ys less after k = elim k [
  | inl e ↦ e
  | inr m ↦ absurd (elim m [
    | inl e ↦ not-after-itself a (ap (parts_cmp a) e ∙ less)
    | inr n ↦ not-after-both a b less (after-member b ys after a n)
  ])
]

covers-skip : (rows : Parts → List Row) (a : Parts) (xs ys : List Parts) → rows a ≡ [] → Covers rows ys (a ∷ xs) → Covers rows ys xs
covers-skip rows a xs ys none c q m = elim (c q m) [ inl e ↦ inl e | inr n ↦ elim n [ inl e ↦ inl (ap rows e ∙ none) | inr o ↦ inr o ] ]

covers-both : (rows : Parts → List Row) (a : Parts) (xs ys : List Parts) → AllAfter a xs → Covers rows (a ∷ xs) (a ∷ ys) → Covers rows xs ys
covers-both rows a xs ys after c q m = elim (c q (inr m)) [
  | inl e ↦ inl e
  | inr n ↦ elim n [ inl e ↦ absurd (not-after-itself a (ap (parts_cmp a) (sym e) ∙ after-member a xs after q m)) | inr o ↦ inr o ]
]

pub same-rows : (n : ℕ) (rows : Parts → List Row) (xs ys : List Parts) → length xs + length ys ≤ n → Rising xs → Rising ys → Covers rows xs ys → Covers rows ys xs
    → flat_map rows xs ≡ flat_map rows ys
same-rows n rows [] ys few r s c d = sym (no-rows rows ys d)
same-rows n rows (a ∷ xs) [] few r s c d = no-rows rows (a ∷ xs) c
same-rows zero rows (a ∷ xs) (b ∷ ys) few r s c d = absurd (omega arith)
same-rows (suc n) rows (a ∷ xs) (b ∷ ys) few r s c d =
    let P : Ordering → Type 0 = λ o. parts_cmp a b ≡ o → flat_map rows (a ∷ xs) ≡ flat_map rows (b ∷ ys) in
    (elim (parts_cmp a b) as P [
      | Less ↦ λ h.
          let none = skip rows a b ys h s.0 (c a (inl refl)) in
          ap (λ x. x ++ flat_map rows xs) none
          ∙ same-rows n rows xs (b ∷ ys) (omega arith) r.1 s (λ q m. c q (inr m)) (covers-skip rows a xs (b ∷ ys) none d)
      | Equal ↦ λ h.
          let is : a ≡ b = parts_exact a b h in
          let P : Parts → Type 0 = λ x. Covers rows (a ∷ xs) (x ∷ ys) in
          let Q : Parts → Type 0 = λ x. Covers rows (x ∷ ys) (a ∷ xs) in
          let R : Parts → Type 0 = λ x. AllAfter x ys in
          ap (λ x. rows x ++ flat_map rows xs) is
          ∙ ap (λ x. rows b ++ x) (same-rows n rows xs ys (omega arith) r.1 s.1 (covers-both rows a xs ys r.0 (subst P (sym is) c)) (covers-both rows a ys xs (subst R (sym is) s.0) (subst Q (sym is) d)))
      | Greater ↦ λ h.
          let less = greater-less a b h in
          let none = skip rows b a xs less r.0 (d b (inl refl)) in
          same-rows n rows (a ∷ xs) ys (omega arith) r s.1 (covers-skip rows b ys (a ∷ xs) none c) (λ q m. d q (inr m))
          ∙ sym (ap (λ x. x ++ flat_map rows ys) none)
    ]) refl
