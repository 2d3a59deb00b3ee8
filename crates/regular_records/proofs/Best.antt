-- The version with the greatest commit time, and among those the least path.
use Rattle.std.proofs.Common.{◌≡◌, ℕ, ◌<◌, ◌≤◌, Bool, true, false, ◌&&◌, ◌||◌, List, [], ◌∷◌, ◌++◌, Option, Some, None, if◌then◌else◌, nat_lt, nat_eq, refl, sym, ap, ◌∙◌, arith, ◌⊎◌, inl, inr, subst}
use Rattle.std.specs.Cmp.{tied_itself, upto}
use Rattle.std.specs.Ordering.{is_gt, ordering_reverse}
use Rattle.std.specs.declared.cmp.Ordering.{Ordering}
use Rattle.std.specs.declared.cmp.Ordering.TheVariants.{Less, Equal, Greater}
use Rattle.std.proofs.lemmas.Bool.Decides.{nat_tests}
use Rattle.doc_path.specs.Path.{Parts, path_order}
use Rattle.txn_data.specs.declared.version.Version.{Version}
use Rattle.txn_data.specs.declared.window.Window.{Window}
use Rattle.txn_data.specs.declared.met_at.MetAt.{MetAt}
use Rattle.txn_types.specs.Lists.{Member}
use Rattle.txn_types.specs.Tablet.{not_after, is_met, better_met, met_in}
use Rattle.regular_records.specs.Related.{newer}
use Rattle.regular_records.proofs.Order.{parts_cmp, parts_total, parts_exact, path_order-cmp}
use Rattle.regular_records.proofs.Kept.{member-append, member-left, member-right}
use Rattle.regular_records.proofs.Times.{IsBestTime}

abbrev pub met_of : Version → MetAt
met_of v = record { at = v.at; path = v.path }

-- v is not newer than m, and on no lesser path where it is as new
abbrev pub IsUpTo : MetAt → Version → Type 0
IsUpTo m v = (v.at < m.at) ⊎ ((v.at ≡ m.at) × (not_after (path_order m.path v.path) ≡ true))

abbrev pub IsBest : (Version → Bool) → List Version → Option MetAt → Type 0
IsBest f vs None = (v : Version) → Member v vs → f v ≡ true → ⊥
IsBest f vs (Some m) = ((v : Version) × Member v vs × (f v ≡ true) × (met_of v ≡ m)) × ((v : Version) → Member v vs → f v ≡ true → IsUpTo m v)

not_after-gt : (o : Ordering) → not_after o ≡ true → is_gt o ≡ false
not_after-gt Less h = refl
not_after-gt Equal h = refl
not_after-gt Greater h = sym h

gt-not_after : (o : Ordering) → is_gt o ≡ false → not_after o ≡ true
gt-not_after Less h = refl
gt-not_after Equal h = refl
gt-not_after Greater h = sym h

pub not_after-itself : (p q : Parts) → p ≡ q → not_after (path_order p q) ≡ true
not_after-itself p q is = gt-not_after (path_order p q) (ap is_gt (path_order-cmp p q ∙ ap (parts_cmp p) (sym is) ∙ tied_itself parts_total p))

pub not_after-less : (p q : Parts) → parts_cmp p q ≡ Less → not_after (path_order p q) ≡ true
not_after-less p q h = ap not_after (path_order-cmp p q ∙ h)

pub not_after-trans : (p q r : Parts) → not_after (path_order p q) ≡ true → not_after (path_order q r) ≡ true → not_after (path_order p r) ≡ true
not_after-trans p q r h k =
    gt-not_after (path_order p r) (ap is_gt (path_order-cmp p r) ∙ upto parts_total p q r (ap is_gt (sym (path_order-cmp p q)) ∙ not_after-gt (path_order p q) h) (ap is_gt (sym (path_order-cmp q r)) ∙ not_after-gt (path_order q r) k))

level : (o r : Ordering) → is_gt o ≡ false → is_gt r ≡ false → o ≡ ordering_reverse r → o ≡ Equal
level Less Less h k e = cc
level Less Equal h k e = cc
level Less Greater h k e = cc
level Equal r h k e = refl
level Greater r h k e = cc

not_after-both : (p q : Parts) → not_after (path_order p q) ≡ true → not_after (path_order q p) ≡ true → p ≡ q
not_after-both p q h k =
    parts_exact p q (level (parts_cmp p q) (parts_cmp q p)
    (ap is_gt (sym (path_order-cmp p q)) ∙ not_after-gt (path_order p q) h) (ap is_gt (sym (path_order-cmp q p)) ∙ not_after-gt (path_order q p) k) (parts_total.antisymm p q))

-- ---- the versions of one more path

pub at-most : (m : MetAt) (v : Version) → IsUpTo m v → v.at ≤ m.at
at-most m v u = elim u [ inl l ↦ omega arith | inr e ↦ let is = e.0 in omega arith ]

at-path : (c : ℕ) (p : Parts) (v : Version) → v.at ≤ c → v.path ≡ p → IsUpTo (record { at = c; path = p }) v
at-path c p v le is =
    let P : Bool → Type 0 = λ b. nat_lt v.at c ≡ b → IsUpTo (record { at = c; path = p }) v in
    (elim (nat_lt v.at c) as P [
      | true ↦ λ h. inl (let l : v.at < c = grind (arith, nat_tests) in l)
      | false ↦ λ h. inr (let e : v.at ≡ c = grind (arith, nat_tests) in e, not_after-itself p v.path (sym is))
    ]) refl

pub extend : (f : Version → Bool) (done vs : List Version) (p : Parts) (a : Option MetAt) (c : Option ℕ)
    → IsBest f done a → IsBestTime f vs c → ((v : Version) → Member v vs → v.path ≡ p)
    → ((v : Version) → Member v done → f v ≡ true → not_after (path_order v.path p) ≡ true)
    → IsBest f (done ++ vs) (newer a p c)
extend f done vs p None None x y on before = λ v m g. elim (member-append v done vs m) [ inl n ↦ x v n g | inr n ↦ y v n g ]
extend f done vs p (Some m) None x y on before =
    ((x.0.0, member-left x.0.0 done vs x.0.1, x.0.2, x.0.3), λ v k g. elim (member-append v done vs k) [ inl n ↦ x.1 v n g | inr n ↦ absurd (y v n g) ])
extend f done vs p None (Some c) x y on before =
    let u = y.0.0 in (
      (u, member-right u done vs y.0.1, y.0.2, cc (y.0.3, on u y.0.1)),
      λ v k g. elim (member-append v done vs k) [ inl n ↦ absurd (x v n g) | inr n ↦ at-path c p v (y.1 v n g) (on v n) ],
    )
extend f done vs p (Some m) (Some c) x y on before =
    let P : Bool → Type 0 = λ b. nat_lt m.at c ≡ b → IsBest f (done ++ vs) (if b then Some (record { at = c; path = p }) else Some m) in
    (elim (nat_lt m.at c) as P [
      | true ↦ λ b.
          let u = y.0.0 in (
            (u, member-right u done vs y.0.1, y.0.2, cc (y.0.3, on u y.0.1)),
            λ v k g. elim (member-append v done vs k) [
              | inl n ↦ let le = at-most m v (x.1 v n g) in inl (let l : v.at < c = grind (arith, nat_tests) in l)
              | inr n ↦ at-path c p v (y.1 v n g) (on v n)
            ],
          )
      | false ↦ λ b. (
        (x.0.0, member-left x.0.0 done vs x.0.1, x.0.2, x.0.3),
        λ v k g. elim (member-append v done vs k) [
          | inl n ↦ x.1 v n g
          | inr n ↦
              let le = y.1 v n g in
              let Q : Bool → Type 0 = λ d. nat_lt v.at m.at ≡ d → IsUpTo m v in
              (elim (nat_lt v.at m.at) as Q [
                | true ↦ λ h. inl (let l : v.at < m.at = grind (arith, nat_tests) in l)
                | false ↦ λ h.
                    let e : v.at ≡ m.at = grind (arith, nat_tests) in
                    let path : x.0.0.path ≡ m.path = ap (λ (z : MetAt). z.path) x.0.3 in
                    inr (e, ap (λ q. not_after (path_order q v.path)) (sym path) ∙ ap (λ q. not_after (path_order x.0.0.path q)) (on v n) ∙ before x.0.0 x.0.1 x.0.2)
              ]) refl
        ],
      )
    ]) refl

pub transfer : (f g : Version → Bool) (us vs : List Version) → ((v : Version) → Member v us → f v ≡ true → Member v vs × (g v ≡ true)) → ((v : Version) → Member v vs → g v ≡ true → Member v us × (f v ≡ true))
    → (r : Option MetAt) → IsBest f us r → IsBest g vs r
transfer f g us vs to from None b = λ v m k. let h = from v m k in b v h.0 h.1
transfer f g us vs to from (Some m) b =
    let h = to b.0.0 b.0.1 b.0.2 in
    ((b.0.0, h.0, h.1, b.0.3), λ v k g. let h = from v k g in b.1 v h.0 h.1)

abbrev meeting : ℕ → Parts → MetAt
meeting a p = record { at = a; path = p }

met-same : (a b : ℕ) (p q : Parts) → a ≡ b → p ≡ q → meeting a p ≡ meeting b q
met-same a b p q h k = ap (λ x. meeting x p) h ∙ ap (meeting b) k

same-met : (m n : MetAt) → (n.at < m.at) ⊎ ((n.at ≡ m.at) × (not_after (path_order m.path n.path) ≡ true)) → (m.at < n.at) ⊎ ((m.at ≡ n.at) × (not_after (path_order n.path m.path) ≡ true)) → m ≡ n
same-met m n x y = elim x [
  | inl l ↦ elim y [ inl k ↦ absurd (omega arith) | inr k ↦ absurd (let e = k.0 in omega arith) ]
  | inr l ↦ elim y [ inl k ↦ absurd (let e = l.0 in omega arith) | inr k ↦ let path = not_after-both m.path n.path l.1 k.1 in met-same m.at n.at m.path n.path k.0 path ]
]

pub best-unique : (f : Version → Bool) (vs : List Version) (r s : Option MetAt) → IsBest f vs r → IsBest f vs s → r ≡ s
best-unique f vs None None x y = refl
best-unique f vs None (Some n) x y = absurd (x y.0.0 y.0.1 y.0.2)
best-unique f vs (Some m) None x y = absurd (y x.0.0 x.0.1 x.0.2)
best-unique f vs (Some m) (Some n) x y =
    let nm : IsUpTo m y.0.0 = x.1 y.0.0 y.0.1 y.0.2 in
    let mn : IsUpTo n x.0.0 = y.1 x.0.0 x.0.1 x.0.2 in
    let P : MetAt → Type 0 = λ z. (z.at < m.at) ⊎ ((z.at ≡ m.at) × (not_after (path_order m.path z.path) ≡ true)) in
    let Q : MetAt → Type 0 = λ z. (z.at < n.at) ⊎ ((z.at ≡ n.at) × (not_after (path_order n.path z.path) ≡ true)) in
    ap Some (same-met m n (subst P y.0.3 nm) (subst Q x.0.3 mn))

-- ---- the definition of what is met

turn : (o r : Ordering) → not_after r ≡ false → o ≡ ordering_reverse r → not_after o ≡ true
turn o Less h e = cc
turn o Equal h e = cc
turn o Greater h e = ap not_after e

pub turned-after : (p q : Parts) → not_after (path_order q p) ≡ false → not_after (path_order p q) ≡ true
turned-after p q h = ap not_after (path_order-cmp p q) ∙ turn (parts_cmp p q) (parts_cmp q p) (ap not_after (sym (path_order-cmp q p)) ∙ h) (parts_total.antisymm p q)

front-best : (f : Version → Bool) (u : Version) (vs : List Version) (r : Option MetAt) → f u ≡ true → IsBest f vs r → IsBest f (u ∷ vs) (Some (better_met u r))
front-best f u vs None is b = ((u, inl refl, is, refl), λ v m g. elim m [ inl e ↦ inr (ap (λ (x : Version). x.at) e, not_after-itself u.path v.path (sym (ap (λ (x : Version). x.path) e))) | inr n ↦ absurd (b v n g) ])
front-best f u vs (Some m) is b =
    let P : Bool → Bool → Bool → Type 0 = λ x y z. nat_lt m.at u.at ≡ x → nat_eq m.at u.at ≡ y → not_after (path_order u.path m.path) ≡ z → IsBest f (u ∷ vs) (Some (if (x || (y && z)) then met_of u else m)) in
    let new : ((v : Version) → Member v vs → f v ≡ true → IsUpTo (met_of u) v) → IsBest f (u ∷ vs) (Some (met_of u)) =
    λ h. ((u, inl refl, is, refl), λ v k g. elim k [ inl e ↦ inr (ap (λ (x : Version). x.at) e, not_after-itself u.path v.path (sym (ap (λ (x : Version). x.path) e))) | inr n ↦ h v n g ]) in
    let old : IsUpTo m u → IsBest f (u ∷ vs) (Some m) =
    λ h. ((b.0.0, inr b.0.1, b.0.2, b.0.3), λ v k g. elim k [ inl e ↦ (let Q : Version → Type 0 = λ x. IsUpTo m x in subst Q (sym e) h) | inr n ↦ b.1 v n g ]) in
    (elim (nat_lt m.at u.at) as (λ x. (y z : Bool) → P x y z) [
      | true ↦ λ y z lt eq na. new (λ v n g. let le = at-most m v (b.1 v n g) in inl (let l : v.at < u.at = grind (arith, nat_tests) in l))
      | false ↦ λ y. elim y as (λ y. (z : Bool) → P false y z) [
        | true ↦ λ z. elim z as (λ z. P false true z) [
          | true ↦ λ lt eq na. new (λ v n g.
              let same : m.at ≡ u.at = grind (arith, nat_tests) in
              elim (b.1 v n g) [
                | inl l ↦ inl (omega arith)
                | inr e ↦ inr (e.0 ∙ same, not_after-trans u.path m.path v.path na e.1)
              ])
          | false ↦ λ lt eq na. old (let same : u.at ≡ m.at = grind (arith, nat_tests) in inr (same, turned-after m.path u.path na))
        ]
        | false ↦ λ z lt eq na. old (inl (let l : u.at < m.at = grind (arith, nat_tests) in l))
      ]
    ]) (nat_eq m.at u.at) (not_after (path_order u.path m.path)) refl refl refl

skip-front : (f : Version → Bool) (u : Version) (vs : List Version) (r : Option MetAt) → f u ≡ false → IsBest f vs r → IsBest f (u ∷ vs) r
skip-front f u vs None none b = λ v m g. elim m [ inl e ↦ absurd (let bad : true ≡ false = sym g ∙ ap f e ∙ none in cc) | inr n ↦ b v n g ]
skip-front f u vs (Some m) none b = ((b.0.0, inr b.0.1, b.0.2, b.0.3), λ v k g. elim k [ inl e ↦ absurd (let bad : true ≡ false = sym g ∙ ap f e ∙ none in cc) | inr n ↦ b.1 v n g ])

pub met_in-best : (w : Window) (t : ℕ) (paths : List Parts) (vs : List Version) → IsBest (is_met w t paths) vs (met_in w t paths vs)
unfolding met_in
met_in-best w t paths [] = λ v m g. m
met_in-best w t paths (u ∷ vs) =
    let rest = met_in-best w t paths vs in
    let P : Bool → Type 0 = λ b. is_met w t paths u ≡ b → IsBest (is_met w t paths) (u ∷ vs) (if b then Some (better_met u (met_in w t paths vs)) else met_in w t paths vs) in
    (elim (is_met w t paths u) as P [
      | true ↦ λ b. front-best (is_met w t paths) u vs (met_in w t paths vs) b rest
      | false ↦ λ b. skip-front (is_met w t paths) u vs (met_in w t paths vs) b rest
    ]) refl
