-- The first reading above a bound, where entries are gone over from the oldest on.
use Rattle.std.proofs.Common.{◌≡◌, ℕ, ◌+◌, ◌<◌, ◌≤◌, Bool, true, false, List, [], ◌∷◌, ◌++◌, Option, Some, None, length, get_or, take, drop, reverse, refl, sym, ◌∙◌, ap, arith}
use Rattle.std.proofs.lemmas.List.{take_more, reverse-append, take-append-drop, length-reverse, length-take-le}
use Rattle.txn_data.specs.declared.entry.Entry.{Entry}
use Rattle.txn_types.specs.Lists.{or_else}
use Rattle.txn_types.specs.History.{History}
use Rattle.trace_merge.specs.Clocks.{is_above, place_if, first_above}
use Rattle.trace_merge.proofs.Agreeing.{above_later}

pub one_more : (xs : List Entry) (i : ℕ) (x : Entry) → i < length xs → x ≡ get_or xs i x → reverse (take (i + 1) xs) ≡ x ∷ reverse (take i xs)
one_more xs i x lt is =
    ap (λ (ys : List Entry). reverse ys) (take_more xs i x lt) ∙ (reverse-append (take i xs) (get_or xs i x ∷ []) ∙ ap (λ (y : Entry). y ∷ reverse (take i xs)) (sym is))

above_is : (most : ℕ) (e : Entry) (h : History) → first_above most (e ∷ h) ≡ or_else (first_above most h) (place_if (is_above most e.reading) (length h))
unfolding first_above
above_is most e h = refl

above_none : (most : ℕ) (e : Entry) (h : History) → first_above most h ≡ None → is_above most e.reading ≡ false → first_above most (e ∷ h) ≡ None
above_none most e h none not = above_is most e h ∙ (ap (λ (o : Option ℕ). or_else o (place_if (is_above most e.reading) (length h))) none ∙ ap (λ (b : Bool). place_if b (length h)) not)

above_here : (most : ℕ) (e : Entry) (h : History) → first_above most h ≡ None → is_above most e.reading ≡ true → first_above most (e ∷ h) ≡ Some (length h)
above_here most e h none is = above_is most e h ∙ (ap (λ (o : Option ℕ). or_else o (place_if (is_above most e.reading) (length h))) none ∙ ap (λ (b : Bool). place_if b (length h)) is)

pub none_more : (most : ℕ) (xs : List Entry) (i : ℕ) (x : Entry) → i < length xs → x ≡ get_or xs i x → first_above most (reverse (take i xs)) ≡ None → is_above most x.reading ≡ false → first_above most (reverse (take (i + 1) xs)) ≡ None
none_more most xs i x lt is none not = ap (λ (h : History). first_above most h) (one_more xs i x lt is) ∙ above_none most x (reverse (take i xs)) none not

pub found_at : (most : ℕ) (xs : List Entry) (i : ℕ) (x : Entry) → i < length xs → x ≡ get_or xs i x → first_above most (reverse (take i xs)) ≡ None → is_above most x.reading ≡ true → first_above most (reverse xs) ≡ Some i
found_at most xs i x lt is none above =
    let le : i ≤ length xs = omega (arith, lt) in
    let size : length (reverse (take i xs)) ≡ i = length-reverse (take i xs) ∙ length-take-le i xs le in
    let here : first_above most (reverse (take (i + 1) xs)) ≡ Some i = ap (λ (h : History). first_above most h) (one_more xs i x lt is) ∙ (above_here most x (reverse (take i xs)) none above ∙ ap Some size) in
    let parts : reverse xs ≡ reverse (drop (i + 1) xs) ++ reverse (take (i + 1) xs) = ap (λ (ys : List Entry). reverse ys) (sym (take-append-drop (i + 1) xs)) ∙ reverse-append (take (i + 1) xs) (drop (i + 1) xs) in
    ap (λ (h : History). first_above most h) parts ∙ above_later most (reverse (drop (i + 1) xs)) (reverse (take (i + 1) xs)) i here
