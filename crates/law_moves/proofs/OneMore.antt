-- One more of a list that is gone through, one after another.
use Rattle.std.proofs.Common.{◌≡◌, ℕ, zero, suc, ◌+◌, List, [], ◌∷◌, ◌++◌, map, refl, sym, ◌∙◌, ap, subst, arith}
use Rattle.txn_types.specs.History.{History}
use Rattle.txn_types.specs.Script.{from_up}
use Rattle.law_schedules.specs.Courses.{OneByOne}
use Rattle.law_schedules.proofs.Passing.{up_first, up_none}

pub one_at_first : {X : Type 0} (moved : X → History → History → Type 0) (g : History) → OneByOne moved [] g g
unfolding OneByOne
one_at_first moved g = refl

one_cons : {X : Type 0} (moved : X → History → History → Type 0) (x : X) (xs : List X) (g k h : History) → moved x g k → OneByOne moved xs k h → OneByOne moved (x ∷ xs) g h
unfolding OneByOne
one_cons moved x xs g k h first rest = (k, first, rest)

pub one_more : {X : Type 0} (moved : X → History → History → Type 0) (xs : List X) (x : X) (g k h : History) → OneByOne moved xs g k → moved x k h → OneByOne moved (xs ++ x ∷ []) g h
unfolding OneByOne
one_more moved [] x g k h all last = (h, subst (λ (f : History). moved x f h) all last, refl)
one_more moved (y ∷ ys) x g k h (next, first, rest) last = (next, first, one_more moved ys x next k h rest last)

pub one_over : {X : Type 0} (moved : X → History → History → Type 0) (xs ys : List X) (g k h : History) → OneByOne moved xs g k → OneByOne moved ys k h → OneByOne moved (xs ++ ys) g h
unfolding OneByOne
one_over moved [] ys g k h all rest = subst (λ (f : History). OneByOne moved ys f h) all rest
one_over moved (x ∷ xs) ys g k h (next, first, more) rest = (next, first, one_over moved xs ys next k h more rest)

-- movers that are told by the things of a list
pub one_mapped : {X Y : Type 0} (moved : Y → History → History → Type 0) (f : X → Y) (xs : List X) (g h : History) → OneByOne (λ (x : X). moved (f x)) xs g h → OneByOne moved (map f xs) g h
unfolding OneByOne
one_mapped moved f [] g h all = all
one_mapped moved f (x ∷ xs) g h (next, first, more) = (next, first, one_mapped moved f xs next h more)

-- numbers that go up
pub up_last : (n t : ℕ) → from_up n (suc t) ≡ from_up n t ++ (n + t) ∷ []
up_last n zero = up_first n zero ∙ ap (λ (l : List ℕ). n ∷ l) (up_none (n + 1)) ∙ ap (λ (m : ℕ). m ∷ []) (same n) ∙ ap (λ (l : List ℕ). l ++ (n + zero) ∷ []) (sym (up_none n))
  where
    same : (m : ℕ) → m ≡ m + zero
    same m = omega arith
up_last n (suc t) =
    up_first n (suc t) ∙ ap (λ (l : List ℕ). n ∷ l) (up_last (n + 1) t)
    ∙ ap (λ (m : ℕ). n ∷ (from_up (n + 1) t ++ m ∷ [])) (more n t)
    ∙ ap (λ (l : List ℕ). l ++ (n + suc t) ∷ []) (sym (up_first n t))
  where
    more : (m k : ℕ) → m + 1 + k ≡ m + suc k
    more m k = omega arith

pub one_up : (moved : ℕ → History → History → Type 0) (n t m : ℕ) (g k h : History) → m ≡ n + t → OneByOne moved (from_up n t) g k → moved m k h → OneByOne moved (from_up n (t + 1)) g h
one_up moved n t m g k h is all last =
    subst (λ (l : List ℕ). OneByOne moved l g h) (sym (ap (from_up n) (one t) ∙ up_last n t))
    (one_more moved (from_up n t) (n + t) g k h all (subst (λ (j : ℕ). moved j k h) is last))
  where
    one : (j : ℕ) → j + 1 ≡ suc j
    one j = omega arith

pub up_at_first : (moved : ℕ → History → History → Type 0) (n : ℕ) (g : History) → OneByOne moved (from_up n 0) g g
up_at_first moved n g = subst (λ (l : List ℕ). OneByOne moved l g g) (sym (up_none n)) (one_at_first moved g)
