-- A version that takes the place of another has its path and commit time.
use Rattle.std.proofs.Common.{◌≡◌, ℕ, Bool, true, false, ◌&&◌, List, [], ◌∷◌, nat_eq, bytes_eq, refl, sym, ◌∙◌, ap, inl, inr, if◌then◌else◌}
use Rattle.std.proofs.lemmas.Bool.{and_parts}
use Rattle.doc_path.specs.Path.{Parts, is_prefix}
use Rattle.txn_data.specs.declared.version.Version.{Version}
use Rattle.txn_types.specs.Lists.{Member}
use Rattle.txn_types.specs.Tablet.{same_path, same_place, with_version, with_versions}
use Rattle.law_machines.proofs.Basics.{eq_true}

-- a version with this path and commit time
abbrev pub HasVersion : Parts → ℕ → List Version → Type 0
HasVersion path c vs = (v : Version) × Member v vs × (v.path ≡ path) × (v.at ≡ c)

pub bytes_same : (a b : List ℕ) → bytes_eq a b ≡ true → a ≡ b
bytes_same [] [] is = refl
bytes_same [] (b ∷ bs) is = cc
bytes_same (a ∷ rest) [] is = cc
bytes_same (a ∷ rest) (b ∷ bs) is =
    let p = and_parts (nat_eq a b) (bytes_eq rest bs) is in
    ap (λ (x : ℕ). x ∷ rest) (eq_true a b p.0) ∙ ap (λ (l : List ℕ). b ∷ l) (bytes_same rest bs p.1)

pub path_same : (p q : Parts) → is_prefix p q ≡ true → is_prefix q p ≡ true → p ≡ q
path_same [] [] one two = refl
path_same [] (b ∷ q) one two = cc
path_same (a ∷ p) [] one two = cc
path_same (a ∷ p) (b ∷ q) one two =
    let u = and_parts (bytes_eq a b) (is_prefix p q) one in
    let v = and_parts (bytes_eq b a) (is_prefix q p) two in
    ap (λ (x : List ℕ). x ∷ p) (bytes_same a b u.0) ∙ ap (λ (l : Parts). b ∷ l) (path_same p q u.1 v.1)

place_same : (u v : Version) → same_place u v ≡ true → (u.path ≡ v.path) × (u.at ≡ v.at)
place_same u v is =
    let a = and_parts (same_path u.path v.path && nat_eq u.at v.at) (nat_eq u.number v.number) is in
    let b = and_parts (same_path u.path v.path) (nat_eq u.at v.at) a.0 in
    let c = and_parts (is_prefix u.path v.path) (is_prefix v.path u.path) b.0 in
    (path_same u.path v.path c.0 c.1, eq_true u.at v.at b.1)

new_choice : (b : Bool) (u v : Version) (us : List Version) → Member v (with_version us v) → Member v (if b then v ∷ us else u ∷ with_version us v)
new_choice true u v us m = inl refl
new_choice false u v us m = inr m

pub with_new : (us : List Version) (v : Version) → Member v (with_version us v)
unfolding with_version
with_new [] v = inl refl
with_new (u ∷ us) v = new_choice (same_place u v) u v us (with_new us v)

old_choice : (b : Bool) (path : Parts) (c : ℕ) (u v : Version) (us : List Version) → same_place u v ≡ b → HasVersion path c (u ∷ us) → (HasVersion path c us → HasVersion path c (with_version us v)) →
    HasVersion path c (if b then v ∷ us else u ∷ with_version us v)
old_choice true path c u v us same has more = elim has.1 [
  | inl is ↦
      let p = place_same u v same in
      (v, inl refl, sym p.0 ∙ (ap (λ (x : Version). x.path) (sym is) ∙ has.2), sym p.1 ∙ (ap (λ (x : Version). x.at) (sym is) ∙ has.3))
  | inr later ↦ (has.0, inr later, has.2, has.3)
]
old_choice false path c u v us same has more = elim has.1 [
  | inl is ↦ (has.0, inl is, has.2, has.3)
  | inr later ↦ let r = more (has.0, later, has.2, has.3) in (r.0, inr r.1, r.2, r.3)
]

pub with_old : (path : Parts) (c : ℕ) (us : List Version) (v : Version) → HasVersion path c us → HasVersion path c (with_version us v)
unfolding with_version
with_old path c [] v has = absurd has.1
with_old path c (u ∷ us) v has = old_choice (same_place u v) path c u v us refl has (with_old path c us v)

pub withs_old : (path : Parts) (c : ℕ) (us vs : List Version) → HasVersion path c us → HasVersion path c (with_versions us vs)
unfolding with_versions
withs_old path c us [] has = has
withs_old path c us (v ∷ vs) has = withs_old path c (with_version us v) vs (with_old path c us v has)

pub withs_new : (us vs : List Version) (v : Version) → Member v vs → HasVersion v.path v.at (with_versions us vs)
unfolding with_versions
withs_new us [] v m = absurd m
withs_new us (u ∷ vs) v m = elim m [
  | inl is ↦ withs_old v.path v.at (with_version us u) vs (u, with_new us u, ap (λ (x : Version). x.path) (sym is), ap (λ (x : Version). x.at) (sym is))
  | inr more ↦ withs_new (with_version us u) vs v more
]
