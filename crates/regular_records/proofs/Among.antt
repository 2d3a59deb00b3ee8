-- The newest version among those that pass a test, whatever the order of the list.
use Rattle.std.proofs.Common.{◌≡◌, ℕ, Bool, true, false, ◌&&◌, List, [], ◌∷◌, Option, Some, None, if◌then◌else◌, refl, sym, ap, ◌∙◌, inl, inr}
use Rattle.std.specs.Prelude.{nat_le}
use Rattle.doc_path.specs.Path.{Parts, is_prefix}
use Rattle.txn_data.specs.declared.version.Version.{Version}
use Rattle.txn_types.specs.Lists.{Member}
use Rattle.txn_types.specs.Tablet.{version_before, same_place}
use Rattle.regular_records.specs.Records.{later, newest}
use Rattle.regular_records.specs.Holding.{IsApart, AreApart, Holds}
use Rattle.regular_records.proofs.Order.{before-trans, before-total, before-itself, before-place}

abbrev pub IsNewestAmong : (Version → Bool) → List Version → Option Version → Type 0
IsNewestAmong f vs None = (v : Version) → Member v vs → f v ≡ true → ⊥
IsNewestAmong f vs (Some x) = Member x vs × (f x ≡ true) × ((v : Version) → Member v vs → f v ≡ true → version_before v x ≡ true)

abbrev pub decides : ℕ → Parts → Version → Bool
decides t p v = nat_le v.at t && is_prefix v.path p

true-not-false : true ≡ false → ⊥
true-not-false h = cc

-- with one more version at the front
pub front : (f : Version → Bool) (u : Version) (vs : List Version) (b : Bool) (o : Option Version) → f u ≡ b → IsNewestAmong f vs o
    → IsNewestAmong f (u ∷ vs) (later (if b then Some u else None) o)
front f u vs true None is h = (inl refl, is, λ v m g. elim m [ inl e ↦ rw e (before-itself u) | inr m ↦ absurd (h v m g) ])
front f u vs false None is h = λ v m g. elim m [ inl e ↦ absurd (true-not-false (sym g ∙ ap f e ∙ is)) | inr m ↦ h v m g ]
front f u vs false (Some x) is h = (inr h.0, h.1, λ v m g. elim m [ inl e ↦ absurd (true-not-false (sym g ∙ ap f e ∙ is)) | inr m ↦ h.2 v m g ])
front f u vs true (Some x) is h =
    let P : Bool → Type 0 = λ c. version_before u x ≡ c → IsNewestAmong f (u ∷ vs) (if c then Some x else Some u) in
    (elim (version_before u x) as P [
      | true ↦ λ b. (inr h.0, h.1, λ v m g. elim m [ inl e ↦ rw e b | inr m ↦ h.2 v m g ])
      | false ↦ λ b. (inl refl, is, λ v m g. elim m [ inl e ↦ rw e (before-itself u) | inr m ↦ before-trans v x u (h.2 v m g) (before-total u x b) ])
    ]) refl

pub newest-among : (t : ℕ) (p : Parts) (vs : List Version) → IsNewestAmong (decides t p) vs (newest t p vs)
unfolding newest
newest-among t p [] = λ v m g. m
newest-among t p (u ∷ vs) = front (decides t p) u vs (decides t p u) (newest t p vs) refl (newest-among t p vs)

-- ---- one place, one version

apart-member : (v : Version) (vs : List Version) → IsApart v vs → (u : Version) → Member u vs → same_place v u ≡ false
apart-member v [] a u m = absurd m
apart-member v (w ∷ vs) a u m = elim m [ inl e ↦ rw e a.0 | inr m ↦ apart-member v vs a.1 u m ]

pub one-at-place : (vs : List Version) → AreApart vs → (u v : Version) → Member u vs → Member v vs → same_place u v ≡ true → same_place v u ≡ true → u ≡ v
one-at-place [] a u v m n h k = absurd m
one-at-place (w ∷ vs) a u v m n h k =
    elim m [
      | inl e ↦ elim n [
        | inl d ↦ e ∙ sym d
        | inr n ↦ absurd (true-not-false (sym h ∙ ap (λ x. same_place x v) e ∙ apart-member w vs a.0 v n))
      ]
      | inr m ↦ elim n [
        | inl d ↦ absurd (true-not-false (sym k ∙ ap (λ x. same_place x u) d ∙ apart-member w vs a.0 u m))
        | inr n ↦ one-at-place vs a.1 u v m n h k
      ]
    ]

pub newest-unique : (f : Version → Bool) (vs : List Version) → AreApart vs → (o r : Option Version) → IsNewestAmong f vs o → IsNewestAmong f vs r → o ≡ r
newest-unique f vs a None None h k = refl
newest-unique f vs a None (Some x) h k = absurd (h x k.0 k.1)
newest-unique f vs a (Some x) None h k = absurd (k x h.0 h.1)
newest-unique f vs a (Some x) (Some y) h k =
    let xy = k.2 x h.0 h.1 in
    let yx = h.2 y k.0 k.1 in
    ap Some (one-at-place vs a x y h.0 k.0 (before-place x y xy yx) (before-place y x yx xy))

-- what is newest among the versions that are kept is newest in a list that they hold
among-held : (f : Version → Bool) (kept vs : List Version) → Holds kept vs → (o : Option Version) → IsNewestAmong f kept o → IsNewestAmong f vs o
among-held f kept vs h None k = λ v m g. k v ((h.1 v).0 m) g
among-held f kept vs h (Some x) k = ((h.1 x).1 k.0, k.1, λ v m g. k.2 v ((h.1 v).0 m) g)

pub newest-held : (t : ℕ) (p : Parts) (kept vs : List Version) (o : Option Version) → Holds kept vs → IsNewestAmong (decides t p) kept o → o ≡ newest t p vs
newest-held t p kept vs o h k =
    newest-unique (decides t p) vs h.0 o (newest t p vs) (among-held (decides t p) kept vs h o k) (newest-among t p vs)
