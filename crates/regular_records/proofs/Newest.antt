-- The newest version among some, and the last word of the versions in order.
use Rattle.std.proofs.Common.{◌≡◌, ℕ, Bool, true, false, ◌&&◌, List, [], ◌∷◌, Option, Some, None, if◌then◌else◌, refl, sym, ap, ◌∙◌}
use Rattle.std.specs.Prelude.{nat_le, filter, map, option_map}
use Rattle.doc_path.specs.Path.{Parts, is_prefix}
use Rattle.txn_data.specs.declared.version.Version.{Version}
use Rattle.txn_types.specs.Lists.{or_else, inserted_by, sorted_by}
use Rattle.txn_types.specs.Writes.{last_word}
use Rattle.txn_types.specs.Tablet.{version_before, writes_at}
use Rattle.regular_records.specs.Records.{later, deciding, newest, write_of}
use Rattle.regular_records.specs.Laws.{NewestIsLastWord, NewestOfBoth}
use Rattle.regular_records.proofs.Order.{before-trans, before-total}

abbrev pub chosen : Bool → Version → Option Version
chosen b v = if b then Some v else None

-- the last one that passes
abbrev last_of : (Version → Bool) → List Version → Option Version
last_of f [] = None
last_of f (v ∷ vs) = or_else (last_of f vs) (chosen (f v) v)

-- the newest one that passes
abbrev newest_of : (Version → Bool) → List Version → Option Version
newest_of f [] = None
newest_of f (v ∷ vs) = later (chosen (f v) v) (newest_of f vs)

-- u is before each of these
abbrev BeforeAll : Version → List Version → Type 0
BeforeAll u [] = Unit {0}
BeforeAll u (v ∷ vs) = (version_before u v ≡ true) × BeforeAll u vs

abbrev InOrder : List Version → Type 0
InOrder [] = Unit {0}
InOrder (v ∷ vs) = BeforeAll v vs × InOrder vs

before_all-trans : (u v : Version) (vs : List Version) → version_before u v ≡ true → BeforeAll v vs → BeforeAll u vs
before_all-trans u v [] h b = tt
before_all-trans u v (w ∷ vs) h b = (before-trans u v w h b.0, before_all-trans u v vs h b.1)

before_all-inserted : (u v : Version) (vs : List Version) → version_before u v ≡ true → BeforeAll u vs → BeforeAll u (inserted_by version_before v vs)
unfolding inserted_by
before_all-inserted u v [] h b = (h, tt)
before_all-inserted u v (w ∷ vs) h b =
    elim (version_before v w) as (λ x. BeforeAll u (if x then v ∷ w ∷ vs else w ∷ inserted_by version_before v vs)) [
      | true ↦ (h, b)
      | false ↦ (b.0, before_all-inserted u v vs h b.1)
    ]

in_order-inserted : (v : Version) (vs : List Version) → InOrder vs → InOrder (inserted_by version_before v vs)
unfolding inserted_by
in_order-inserted v [] o = (tt, tt)
in_order-inserted v (w ∷ vs) o =
    let P : Bool → Type 0 = λ x. version_before v w ≡ x → InOrder (if x then v ∷ w ∷ vs else w ∷ inserted_by version_before v vs) in
    (elim (version_before v w) as P [
      | true ↦ λ h. ((h, before_all-trans v w vs h o.0), o)
      | false ↦ λ h. (before_all-inserted w v vs (before-total v w h) o.0, in_order-inserted v vs o.1)
    ]) refl

in_order-sorted : (vs : List Version) → InOrder (sorted_by version_before vs)
unfolding sorted_by
in_order-sorted [] = tt
in_order-sorted (v ∷ vs) = in_order-inserted v (sorted_by version_before vs) (in_order-sorted vs)

-- where u is before all, it is before the last one that passes
later-last : (f : Version → Bool) (u : Version) (vs : List Version) → BeforeAll u vs → (x : Version) → last_of f vs ≡ Some x → version_before u x ≡ true
later-last f u [] b x e = cc
later-last f u (v ∷ vs) b x e =
    let P : Option Version → Type 0 = λ o. last_of f vs ≡ o → or_else o (chosen (f v) v) ≡ Some x → version_before u x ≡ true in
    let Q : Bool → Type 0 = λ c. chosen c v ≡ Some x → version_before u x ≡ true in
    (elim (last_of f vs) as P [
      | Some y ↦ λ h k. later-last f u vs b.1 x (h ∙ k)
      | None ↦ λ h k. (elim (f v) as Q [ true ↦ λ k. let e : v ≡ x = cc in rw (← e) b.0 | false ↦ λ k. cc ]) k
    ]) refl e

later-none : (o : Option Version) → o ≡ later None o
later-none None = refl
later-none (Some x) = refl

pub later-none-back : (o : Option Version) → later None o ≡ o
later-none-back None = refl
later-none-back (Some x) = refl

or_else-map : (o : Option Version) (b : Bool) (v : Version)
    → or_else (option_map write_of o) (if b then Some (write_of v) else None) ≡ option_map write_of (or_else o (chosen b v))
or_else-map None true v = refl
or_else-map None false v = refl
or_else-map (Some x) b v = refl

-- what is after a later one is not before an earlier one
not-later : (u v w : Version) → version_before u v ≡ false → version_before v w ≡ false → version_before u w ≡ false
not-later u v w h k =
    let P : Bool → Type 0 = λ b. version_before u w ≡ b → b ≡ false in
    (elim (version_before u w) as P [
      | true ↦ λ e. sym (before-trans u w v e (before-total v w k)) ∙ h
      | false ↦ λ e. refl
    ]) refl

-- a version that is before all that follow goes to the front, and the last one is as before, or else it
put-front : (c : Bool) (v : Version) (o : Option Version) → ((x : Version) → o ≡ Some x → version_before v x ≡ true)
    → or_else o (chosen c v) ≡ later (chosen c v) o
put-front true v None h = refl
put-front false v None h = refl
put-front true v (Some x) h = rw (h x refl) refl
put-front false v (Some x) h = refl

put-behind : (c d : Bool) (v w : Version) (o : Option Version) → version_before v w ≡ false
    → or_else (later (chosen c v) o) (chosen d w) ≡ later (chosen c v) (or_else o (chosen d w))
put-behind true true v w None h = rw h refl
put-behind true false v w None h = refl
put-behind false d v w None h = elim d as (λ d. or_else None (chosen d w) ≡ later None (chosen d w)) [ true ↦ refl | false ↦ refl ]
put-behind true d v w (Some x) h = elim (version_before v x) as (λ b. or_else (if b then Some x else Some v) (chosen d w) ≡ (if b then Some x else Some v)) [ true ↦ refl | false ↦ refl ]
put-behind false d v w (Some x) h = refl

-- the newest comes last
inserted-last : (f : Version → Bool) (v : Version) (vs : List Version) → InOrder vs
    → last_of f (inserted_by version_before v vs) ≡ later (chosen (f v) v) (last_of f vs)
unfolding inserted_by
inserted-last f v [] o = elim (f v) as (λ c. or_else None (chosen c v) ≡ later (chosen c v) None) [ true ↦ refl | false ↦ refl ]
inserted-last f v (w ∷ vs) o =
    let P : Bool → Type 0 = λ x. version_before v w ≡ x → last_of f (if x then v ∷ w ∷ vs else w ∷ inserted_by version_before v vs) ≡ later (chosen (f v) v) (last_of f (w ∷ vs)) in
    (elim (version_before v w) as P [
      | true ↦ λ h. put-front (f v) v (last_of f (w ∷ vs)) (later-last f v (w ∷ vs) (h, before_all-trans v w vs h o.0))
      | false ↦ λ h. ap (λ x. or_else x (chosen (f w) w)) (inserted-last f v vs o.1) ∙ put-behind (f v) (f w) v w (last_of f vs) h
    ]) refl

sorted-last : (f : Version → Bool) (vs : List Version) → last_of f (sorted_by version_before vs) ≡ newest_of f vs
unfolding sorted_by
sorted-last f [] = refl
sorted-last f (v ∷ vs) =
    inserted-last f v (sorted_by version_before vs) (in_order-sorted vs) ∙ ap (later (chosen (f v) v)) (sorted-last f vs)

last_word-last : (p : Parts) (vs : List Version) → last_word (map write_of vs) p ≡ option_map write_of (last_of (λ v. is_prefix v.path p) vs)
unfolding last_word
last_word-last p [] = refl
last_word-last p (v ∷ vs) =
    rw (last_word-last p vs) (or_else-map (last_of (λ v. is_prefix v.path p) vs) (is_prefix v.path p) v)

newest_of-filter : (t : ℕ) (p : Parts) (vs : List Version)
    → newest_of (λ v. is_prefix v.path p) (filter (λ (v : Version). nat_le v.at t) vs) ≡ newest t p vs
unfolding newest
newest_of-filter t p [] = refl
newest_of-filter t p (v ∷ vs) =
    elim (nat_le v.at t) as (λ b. newest_of (λ v. is_prefix v.path p) (if b then v ∷ filter (λ (v : Version). nat_le v.at t) vs else filter (λ (v : Version). nat_le v.at t) vs) ≡ later (if (b && is_prefix v.path p) then Some v else None) (newest t p vs)) [
      | true ↦ ap (later (chosen (is_prefix v.path p) v)) (newest_of-filter t p vs)
      | false ↦ newest_of-filter t p vs ∙ later-none (newest t p vs)
    ]

pub newest_is_last_word : NewestIsLastWord
unfolding writes_at
newest_is_last_word t p vs =
    last_word-last p (sorted_by version_before (filter (λ (v : Version). nat_le v.at t) vs))
    ∙ ap (option_map write_of) (sorted-last (λ v. is_prefix v.path p) (filter (λ (v : Version). nat_le v.at t) vs) ∙ newest_of-filter t p vs)

-- ---- of two lists

pub later-assoc : (a b c : Option Version) → later a (later b c) ≡ later (later a b) c
later-assoc None b c = later-none-back (later b c) ∙ ap (λ x. later x c) (later-none b)
later-assoc (Some u) None c = refl
later-assoc (Some u) (Some v) None = elim (version_before u v) as (λ b. (if b then Some v else Some u) ≡ later (if b then Some v else Some u) None) [ true ↦ refl | false ↦ refl ]
later-assoc (Some u) (Some v) (Some w) =
    let P : Bool → Bool → Type 0 = λ x y. version_before u v ≡ x → version_before v w ≡ y → later (Some u) (if y then Some w else Some v) ≡ later (if x then Some v else Some u) (Some w) in
    (elim (version_before u v) as (λ x. (y : Bool) → P x y) [
      | true ↦ λ y. elim y as (P true) [
        | true ↦ λ h k. rw (before-trans u v w h k, k) refl
        | false ↦ λ h k. rw (h, k) refl
      ]
      | false ↦ λ y. elim y as (P false) [
        | true ↦ λ h k. refl
        | false ↦ λ h k. rw (h, not-later u v w h k) refl
      ]
    ]) (version_before v w) refl refl

pub newest_of_both : NewestOfBoth
unfolding newest
newest_of_both t p [] vs = later-none (newest t p vs)
newest_of_both t p (u ∷ us) vs =
    ap (later (deciding t p u)) (newest_of_both t p us vs) ∙ later-assoc (deciding t p u) (newest t p us) (newest t p vs)
