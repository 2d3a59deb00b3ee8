-- The tablets in the order of first use, after one more write.
use Rattle.std.proofs.Common.{◌≡◌, ℕ, Bool, true, false, List, [], ◌∷◌, ◌++◌, ◌||◌, nat_eq, if◌then◌else◌, refl, ◌∙◌, append-nil}
use Rattle.std.specs.List.{list_any}
use Rattle.txn_types.specs.Lists.{has_number}
use Rattle.txn_types.specs.Session.{Accepted, tablets_used}

abbrev one_more : Bool → ℕ → List ℕ
one_more true n = []
one_more false n = n ∷ []

swap_or : (a b c : Bool) → (a || b) || c ≡ b || (a || c)
swap_or true true c = refl
swap_or true false c = refl
swap_or false true c = refl
swap_or false false c = refl

used_more : (before : List ℕ) (ws : List Accepted) (a : Accepted) →
    tablets_used before (ws ++ a ∷ []) ≡ tablets_used before ws ++ one_more (has_number a.tablet before || list_any (nat_eq a.tablet) (tablets_used before ws)) a.tablet
unfolding tablets_used
used_more before [] a =
    elim (has_number a.tablet before) as (λ b. (if b then [] else a.tablet ∷ []) ≡ one_more (b || false) a.tablet) [ true ↦ refl | false ↦ refl ]
used_more before (w ∷ ws) a =
    let P : Bool → Type 0 = λ b. (if b then tablets_used before (ws ++ a ∷ []) else w.tablet ∷ tablets_used (w.tablet ∷ before) (ws ++ a ∷ []))
    ≡ (if b then tablets_used before ws else w.tablet ∷ tablets_used (w.tablet ∷ before) ws)
    ++ one_more (has_number a.tablet before || list_any (nat_eq a.tablet) (if b then tablets_used before ws else w.tablet ∷ tablets_used (w.tablet ∷ before) ws)) a.tablet in
    elim (has_number w.tablet before) as P [
      | true ↦ used_more before ws a
      | false ↦ rw (used_more (w.tablet ∷ before) ws a, swap_or (nat_eq a.tablet w.tablet) (has_number a.tablet before) (list_any (nat_eq a.tablet) (tablets_used (w.tablet ∷ before) ws))) refl
    ]

put_last : (b : Bool) (n : ℕ) (ns : List ℕ) → ns ++ one_more b n ≡ (if b then ns else ns ++ n ∷ [])
put_last true n ns = append-nil ns
put_last false n ns = refl

pub used_push : (ws : List Accepted) (a : Accepted) →
    tablets_used [] (ws ++ a ∷ []) ≡ (if list_any (nat_eq a.tablet) (tablets_used [] ws) then tablets_used [] ws else tablets_used [] ws ++ a.tablet ∷ [])
used_push ws a = used_more [] ws a ∙ put_last (list_any (nat_eq a.tablet) (tablets_used [] ws)) a.tablet (tablets_used [] ws)
