-- The items of a list one by one, as a loop over their places meets them.
use Rattle.std.proofs.Common.{◌≡◌, ℕ, ◌+◌, Bool, true, false, ◌&&◌, List, [], ◌∷◌, ◌++◌, get_or, take, Some, refl, ap, ◌∙◌}
use Rattle.std.specs.List.{list_all, flat_map, slice_get}
use Rattle.std.proofs.lemmas.Grind.{flat_map-append}
use Rattle.std.proofs.lemmas.List.{take_more, append-nil}
use Rattle.std.proofs.lemmas.Option.{slice_get_within, get_or_from_slice_get}
use Rattle.std.proofs.lemmas.List.Folds.{list_all_at, list_all_more}

-- a test that all items pass is passed by each
pub passes_at : {A : Type 0} (test : A → Bool) (xs : List A) (i : ℕ) (x : A) → list_all test xs ≡ true → slice_get xs i ≡ Some x → test x ≡ true
passes_at test xs i x all at =
    let within = slice_get_within xs i x at in
    let is = get_or_from_slice_get xs i x x at in
    elim (test x) as (λ b. test x ≡ b → b ≡ true) [
      | true ↦ λ e. refl
      | false ↦ λ e. absurd (let none = list_all_at test xs i x within (ap test is ∙ e) in cc)
    ] refl

pub fails_at : {A : Type 0} (test : A → Bool) (xs : List A) (i : ℕ) (x : A) → slice_get xs i ≡ Some x → test x ≡ false → list_all test xs ≡ false
fails_at test xs i x at fails = list_all_at test xs i x (slice_get_within xs i x at) (ap test (get_or_from_slice_get xs i x x at) ∙ fails)

pub passes_more : {A : Type 0} (test : A → Bool) (xs : List A) (i : ℕ) (x : A) → list_all test (take i xs) ≡ true → slice_get xs i ≡ Some x → test x ≡ true → list_all test (take (i + 1) xs) ≡ true
passes_more test xs i x all at passes =
    let within = slice_get_within xs i x at in
    let is = get_or_from_slice_get xs i x x at in
    list_all_more test xs i x within ∙ rw (all, is, passes) refl

pub joined_more : {A B : Type 0} (f : A → List B) (xs : List A) (i : ℕ) (x : A) → slice_get xs i ≡ Some x → flat_map f (take (i + 1) xs) ≡ flat_map f (take i xs) ++ f x
joined_more f xs i x at =
    let within = slice_get_within xs i x at in
    let is = get_or_from_slice_get xs i x x at in
    ap (flat_map f) (take_more xs i x within)
    ∙ flat_map-append f (take i xs) (get_or xs i x ∷ [])
    ∙ ap (λ t. flat_map f (take i xs) ++ t) (append-nil (f (get_or xs i x)) ∙ ap f is)

-- one that fails makes all fail
pub none_fails : (a b c : Bool) → c ≡ false → (a && b && c) ≡ false
none_fails true true c e = e
none_fails true false c e = refl
none_fails false b c e = refl
