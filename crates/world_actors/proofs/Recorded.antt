-- Places of a trace, and readings by node.
use Rattle.std.proofs.Common.{slice_index_or, ◌≡◌, ℕ, zero, suc, List, [], ◌∷◌, ◌++◌, Some, None, length, reverse, refl, sym, ◌∙◌, ap, subst}
use Rattle.std.specs.List.{slice_get}
use Rattle.std.proofs.lemmas.Grind.{reverse_onto}
use Rattle.std.proofs.lemmas.List.{length-reverse, reverse-append, reverse-reverse}
use Rattle.std.proofs.Math.Seq.{append_snoc}
use Rattle.txn_data.specs.declared.entry.Entry.{Entry}
use Rattle.txn_types.specs.History.{History}
use Rattle.txn_types.specs.Script.{number_at}

get_at : (xs ys : List Entry) (e : Entry) → slice_get (xs ++ e ∷ ys) (length xs) ≡ Some e
get_at [] ys e = refl
get_at (x ∷ xs) ys e = get_at xs ys e

-- the entry of a history that has so many before it stands at that place of the trace
pub at_place : (entries : List Entry) (later earlier : History) (e : Entry) → reverse entries ≡ later ++ e ∷ earlier → slice_get entries (length earlier) ≡ Some e
at_place entries later earlier e is =
    let turned : entries ≡ reverse earlier ++ e ∷ reverse later =
    sym (reverse-reverse entries) ∙ ap reverse is ∙ reverse-append later (e ∷ earlier)
    ∙ ap (λ (l : List Entry). l ++ reverse later) (reverse_onto earlier e [])
    ∙ append_snoc (reverse earlier) e (reverse later) in
    subst (λ (l : List Entry). slice_get l (length earlier) ≡ Some e) (sym turned)
    (subst (λ n. slice_get (reverse earlier ++ e ∷ reverse later) n ≡ Some e) (length-reverse earlier) (get_at (reverse earlier) (reverse later) e))

-- the reading of a node is the one at its place
pub number_is : (readings : List ℕ) (n x : ℕ) → slice_get readings n ≡ Some x → number_at n readings ≡ x
unfolding number_at
number_is [] n x is = absurd (let not : None ≡ Some x = is in cc)
number_is (y ∷ ys) zero x is = let same : Some y ≡ Some x = is in cc
number_is (y ∷ ys) (suc n) x is = number_is ys n x is

pub indexed : (readings : List ℕ) (n : ℕ) → slice_index_or readings n 0 ≡ number_at n readings
unfolding number_at
indexed [] zero = refl
indexed [] (suc n) = refl
indexed (x ∷ xs) zero = refl
indexed (x ∷ xs) (suc n) = indexed xs n
