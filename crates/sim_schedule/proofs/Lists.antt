-- Lists that are gone through, item by item.
use Rattle.std.proofs.Common.{◌≡◌, ℕ, suc, ◌+◌, ◌<◌, ◌≤◌, List, [], ◌∷◌, ◌++◌, get_or, length, map, take, drop, refl, sym, ◌∙◌, ap, subst, arith}
use Rattle.std.proofs.Math.Seq.{drop-cons}
use Rattle.std.proofs.lemmas.List.{get_or_default, map-append, take-append-drop, take_all, take_more}
use Rattle.txn_types.specs.History.{History}
use Rattle.txn_types.specs.Script.{from_up}
use Rattle.law_schedules.specs.Courses.{OneByOne}
use Rattle.law_moves.proofs.OneMore.{one_at_first, one_more, up_last}

pub none_taken : {X : Type 0} (moved : X → History → History → Type 0) (xs : List X) (g : History) → OneByOne moved (take 0 xs) g g
none_taken {X} moved xs g = subst (λ (l : List X). OneByOne moved l g g) (sym (take_none xs)) (one_at_first moved g)
  where
    take_none : {A : Type 0} (l : List A) → take 0 l ≡ []
    take_none [] = refl
    take_none (x ∷ xs) = refl

pub one_taken : {X : Type 0} (moved : X → History → History → Type 0) (xs : List X) (i : ℕ) (x : X) (g k h : History) → i < length xs → x ≡ get_or xs i x → OneByOne moved (take i xs) g k → moved x k h → OneByOne moved (take (i + 1) xs) g h
one_taken {X} moved xs i x g k h within is all last =
    subst (λ (l : List X). OneByOne moved l g h) (sym (take_more xs i x within ∙ ap (λ (y : X). take i xs ++ y ∷ []) (sym is)))
    (one_more moved (take i xs) x g k h all last)

pub all_taken : {X : Type 0} (moved : X → History → History → Type 0) (xs : List X) (i : ℕ) (g h : History) → length xs ≤ i → OneByOne moved (take i xs) g h → OneByOne moved xs g h
all_taken {X} moved xs i g h past all = subst (λ (l : List X). OneByOne moved l g h) (take_all i xs past) all

-- what was taken, the next one and the rest
pub parts_at : {X : Type 0} (xs : List X) (i : ℕ) (x : X) → i < length xs → x ≡ get_or xs i x → xs ≡ take i xs ++ x ∷ drop (suc i) xs
parts_at {X} xs i x within is = sym (take-append-drop i xs) ∙ ap (λ (l : List X). take i xs ++ l) (drop-cons xs i x within ∙ ap (λ (y : X). y ∷ drop (suc i) xs) (sym is))

-- what was taken, under a function
pub mapped_none : {X Y : Type 0} (f : X → Y) (xs : List X) → map f (take 0 xs) ≡ []
mapped_none f [] = refl
mapped_none f (x ∷ xs) = refl

pub mapped_more : {X Y : Type 0} (f : X → Y) (xs : List X) (i : ℕ) (x : X) → i < length xs → x ≡ get_or xs i x → map f (take (i + 1) xs) ≡ map f (take i xs) ++ f x ∷ []
mapped_more {X} {Y} f xs i x within is =
    ap (map f) (take_more xs i x within ∙ ap (λ (y : X). take i xs ++ y ∷ []) (sym is)) ∙ map-append f (take i xs) (x ∷ [])

pub mapped_all : {X Y : Type 0} (f : X → Y) (xs : List X) (i : ℕ) → length xs ≤ i → map f (take i xs) ≡ map f xs
mapped_all f xs i past = ap (map f) (take_all i xs past)

-- numbers that go up from 0
pub up_more : (k : ℕ) → from_up 0 (k + 1) ≡ from_up 0 k ++ k ∷ []
up_more k = ap (from_up 0) (one k) ∙ up_last 0 k ∙ ap (λ (n : ℕ). from_up 0 k ++ n ∷ []) (same k)
  where
    one : (j : ℕ) → j + 1 ≡ suc j
    one j = omega arith

    same : (j : ℕ) → 0 + j ≡ j
    same j = omega arith

pub numbers_none : {Y : Type 0} (f : ℕ → Y) → map f (from_up 0 0) ≡ []
unfolding from_up
numbers_none f = refl

pub numbers_more : {Y : Type 0} (f : ℕ → Y) (k : ℕ) → map f (from_up 0 (k + 1)) ≡ map f (from_up 0 k) ++ f k ∷ []
numbers_more f k = ap (map f) (up_more k) ∙ map-append f (from_up 0 k) (k ∷ [])

-- an item that was read at some default
pub read_at : {X : Type 0} (xs ys : List X) (i : ℕ) (d : X) → ys ≡ xs → i < length ys → get_or ys i d ≡ get_or xs i (get_or ys i d)
read_at {X} xs ys i d same within = subst (λ (l : List X). get_or ys i d ≡ get_or l i (get_or ys i d)) same (get_or_default ys i d (get_or ys i d) within)
