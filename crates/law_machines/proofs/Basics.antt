-- Members of lists, actors, and tests that decide.
use Rattle.std.proofs.Common.{◌≡◌, ◌≢◌, ℕ, Bool, true, false, cond, List, [], ◌∷◌, ◌++◌, nat_eq, map, filter, flat_map, refl, sym, ◌∙◌, ap, subst, inl, inr, ◌⊎◌, if◌then◌else◌, nat_lt}
use Rattle.std.proofs.lemmas.Bool.Decides.{eqb_tells}
use Rattle.std.proofs.lemmas.Bool.{or_cases}
use Rattle.std.specs.List.{list_any}
use Rattle.txn_data.specs.declared.actor.Actor.{Actor}
use Rattle.txn_data.specs.declared.actor.Actor.TheVariants.{Tablet, Status, Session, Applier}
use Rattle.txn_types.specs.Lists.{Member, with_number, rising, inserted_by, sorted_by}
use Rattle.txn_types.specs.History.{same_actor}

pub eq_refl : (a : ℕ) → nat_eq a a ≡ true
eq_refl a = elim (eqb_tells a a) [ inl h ↦ h.0 | inr h ↦ absurd (h.1 refl) ]

pub eq_true : (a b : ℕ) → nat_eq a b ≡ true → a ≡ b
eq_true a b e = elim (eqb_tells a b) [ inl h ↦ h.1 | inr h ↦ cc ]

pub eq_cases : (a b : ℕ) → (nat_eq a b ≡ true) × (a ≡ b) ⊎ (nat_eq a b ≡ false) × (a ≢ b)
eq_cases a b = eqb_tells a b

pub same_refl : (a : Actor) → same_actor a a ≡ true
same_refl (Tablet k) = eq_refl k
same_refl (Status k) = eq_refl k
same_refl (Session k) = eq_refl k
same_refl (Applier k) = eq_refl k

pub same_true : (a b : Actor) → same_actor a b ≡ true → a ≡ b
same_true (Tablet a) (Tablet b) e = ap Tablet (eq_true a b e)
same_true (Status a) (Status b) e = ap Status (eq_true a b e)
same_true (Session a) (Session b) e = ap Session (eq_true a b e)
same_true (Applier a) (Applier b) e = ap Applier (eq_true a b e)
same_true _ _ e = cc

pub test_cases : (b : Bool) → (b ≡ true) ⊎ (b ≡ false)
test_cases true = inl refl
test_cases false = inr refl

pub same_of : (a b : Actor) → a ≡ b → same_actor a b ≡ true
same_of a b e = subst (λ (x : Actor). same_actor a x ≡ true) e (same_refl a)

pub same_cases : (a b : Actor) → (same_actor a b ≡ true) × (a ≡ b) ⊎ (same_actor a b ≡ false) × (a ≢ b)
same_cases a b = elim (test_cases (same_actor a b)) [
  | inl e ↦ inl (e, same_true a b e)
  | inr e ↦ inr (e, λ h. let k : same_actor a b ≡ true = same_of a b h in cc)
]

pub member_left : {A : Type 0} (x : A) (xs ys : List A) → Member x xs → Member x (xs ++ ys)
member_left x [] ys m = absurd m
member_left x (y ∷ xs) ys m = elim m [ inl e ↦ inl e | inr h ↦ inr (member_left x xs ys h) ]

pub member_right : {A : Type 0} (x : A) (xs ys : List A) → Member x ys → Member x (xs ++ ys)
member_right x [] ys m = m
member_right x (y ∷ xs) ys m = inr (member_right x xs ys m)

pub member_cases : {A : Type 0} (x : A) (xs ys : List A) → Member x (xs ++ ys) → Member x xs ⊎ Member x ys
member_cases x [] ys m = inr m
member_cases x (y ∷ xs) ys m = elim m [
  | inl e ↦ inl (inl e)
  | inr h ↦ elim (member_cases x xs ys h) [ inl l ↦ inl (inr l) | inr r ↦ inr r ]
]

pub member_map : {A B : Type 0} (f : A → B) (x : A) (xs : List A) → Member x xs → Member (f x) (map f xs)
member_map f x [] m = m
member_map f x (y ∷ xs) m = elim m [ inl e ↦ inl (ap f e) | inr h ↦ inr (member_map f x xs h) ]

pub map_member : {A B : Type 0} (f : A → B) (y : B) (xs : List A) → Member y (map f xs) → (x : A) × Member x xs × (y ≡ f x)
map_member f y [] m = absurd m
map_member f y (x ∷ xs) m = elim m [
  | inl e ↦ (x, inl refl, e)
  | inr h ↦ let r = map_member f y xs h in (r.0, inr r.1, r.2)
]

-- a filter keeps what passes
pub member_filter : {A : Type 0} (test : A → Bool) (x : A) (xs : List A) → Member x xs → test x ≡ true → Member x (filter test xs)
member_filter test x [] m e = m
member_filter test x (y ∷ xs) m e = elim m [
  | inl same ↦ let t : test y ≡ true = (ap test (sym same)) ∙ e in rw t (inl same)
  | inr h ↦ elim (test_cases (test y)) [
    | inl t ↦ rw t (inr (member_filter test x xs h e))
    | inr t ↦ rw t (member_filter test x xs h e)
  ]
]

pub filter_member : {A : Type 0} (test : A → Bool) (x : A) (xs : List A) → Member x (filter test xs) → Member x xs × (test x ≡ true)
filter_member test x [] m = absurd m
filter_member test x (y ∷ xs) m = elim (test_cases (test y)) [
  | inl t ↦ elim (rw t at m) [
    | inl e ↦ (inl e, ap test e ∙ t)
    | inr h ↦ let r = filter_member test x xs h in (inr r.0, r.1)
  ]
  | inr t ↦ let r = filter_member test x xs (rw t at m) in (inr r.0, r.1)
]

pub member_flat : {A B : Type 0} (f : A → List B) (x : A) (y : B) (xs : List A) → Member x xs → Member y (f x) → Member y (flat_map f xs)
member_flat f x y [] m n = m
member_flat f x y (z ∷ xs) m n = elim m [
  | inl e ↦ member_left y (f z) (flat_map f xs) (subst (λ w. Member y (f w)) e n)
  | inr r ↦ member_right y (f z) (flat_map f xs) (member_flat f x y xs r n)
]

pub flat_member : {A B : Type 0} (f : A → List B) (y : B) (xs : List A) → Member y (flat_map f xs) → (x : A) × Member x xs × Member y (f x)
flat_member f y [] m = absurd m
flat_member f y (x ∷ xs) m = elim (member_cases y (f x) (flat_map f xs) m) [
  | inl here ↦ (x, inl refl, here)
  | inr there ↦ let r = flat_member f y xs there in (r.0, inr r.1, r.2)
]

-- the two sides of a choice, whichever it is
pub same_choice : {A : Type 0} (b : Bool) (x : A) → cond b x x ≡ x
same_choice true x = refl
same_choice false x = refl

-- ## a test of some member, and rising numbers

pub any_member : {A : Type 0} (test : A → Bool) (xs : List A) → list_any test xs ≡ true → (a : A) × Member a xs × (test a ≡ true)
any_member test [] is = cc
any_member test (x ∷ xs) is = elim (or_cases (test x) (list_any test xs) is) [
  | inl here ↦ (x, inl refl, here)
  | inr later ↦ let r = any_member test xs later in (r.0, inr r.1, r.2)
]

number_choice : (b d : Bool) (x n m : ℕ) (ms : List ℕ) → nat_eq n m ≡ d → (x ≡ n) ⊎ Member x (m ∷ ms) → ((x ≡ n) ⊎ Member x ms → Member x (with_number n ms)) →
    Member x (if b then n ∷ m ∷ ms else (if d then m ∷ ms else m ∷ with_number n ms))
number_choice true d x n m ms same is more = is
number_choice false true x n m ms same is more = elim is [ inl new ↦ inl (new ∙ eq_true n m same) | inr old ↦ old ]
number_choice false false x n m ms same is more = elim is [
  | inl new ↦ inr (more (inl new))
  | inr old ↦ elim old [ inl here ↦ inl here | inr later ↦ inr (more (inr later)) ]
]

member_number : (x n : ℕ) (ms : List ℕ) → (x ≡ n) ⊎ Member x ms → Member x (with_number n ms)
unfolding with_number
member_number x n [] is = elim is [ inl new ↦ inl new | inr none ↦ absurd none ]
member_number x n (m ∷ ms) is = number_choice (nat_lt n m) (nat_eq n m) x n m ms refl is (member_number x n ms)

pub member_rising : (x : ℕ) (ns : List ℕ) → Member x ns → Member x (rising ns)
unfolding rising
member_rising x [] m = m
member_rising x (n ∷ ns) m = member_number x n (rising ns) (elim m [ inl here ↦ inl here | inr later ↦ inr (member_rising x ns later) ])

-- ## a list that was sorted has the same members

from_choice : {A : Type 0} (b : Bool) (le : A → A → Bool) (x y z : A) (ys : List A) → Member z (if b then x ∷ y ∷ ys else y ∷ inserted_by le x ys) → (Member z (inserted_by le x ys) → (z ≡ x) ⊎ Member z ys) → (z ≡ x) ⊎ Member z (y ∷ ys)
from_choice true le x y z ys m more = m
from_choice false le x y z ys m more = elim m [
  | inl here ↦ inr (inl here)
  | inr later ↦ elim (more later) [ inl new ↦ inl new | inr old ↦ inr (inr old) ]
]

pub inserted_from : {A : Type 0} (le : A → A → Bool) (x z : A) (ys : List A) → Member z (inserted_by le x ys) → (z ≡ x) ⊎ Member z ys
unfolding inserted_by
inserted_from le x z [] m = m
inserted_from le x z (y ∷ ys) m = from_choice (le x y) le x y z ys m (inserted_from le x z ys)

pub sorted_from : {A : Type 0} (le : A → A → Bool) (z : A) (xs : List A) → Member z (sorted_by le xs) → Member z xs
unfolding sorted_by
sorted_from le z [] m = m
sorted_from le z (x ∷ xs) m = elim (inserted_from le x z (sorted_by le xs) m) [
  | inl here ↦ inl here
  | inr later ↦ inr (sorted_from le z xs later)
]
