-- Bytes that are read or written piece by piece.
use Rattle.std.proofs.Common.{◌≡◌, ℕ, ◌+◌, ◌≤◌, ◌<◌, List, [], ◌++◌, length, take, drop, Option, Some, None, IfSome, sym, ap, ◌∙◌, subst, arith, append_assoc}
use Rattle.std.proofs.Math.Seq.{take-add}
use Rattle.std.proofs.lemmas.List.{drop-drop, take_all, drop_all, length-drop, take-append-le}
use Rattle.docdb_outside.specs.Source.{MovesFront}

-- one more piece is written
pub more_written : (start old new : Option (List ℕ)) (bytes piece : List ℕ) (done n : ℕ) → IfSome start (λ before. old ≡ Some (before ++ take done bytes)) → IfSome old (λ taken. new ≡ Some (taken ++ take n piece)) → piece ≡ drop done bytes → IfSome start (λ before. new ≡ Some (before ++ take (done + n) bytes))
more_written None old new bytes piece done n was moved rest = tt
more_written (Some before) old new bytes piece done n was moved rest =
    let P : Option (List ℕ) → Type 0 = λ o. IfSome o (λ taken. new ≡ Some (taken ++ take n piece)) in
    let joined : take done bytes ++ take n piece ≡ take (done + n) bytes =
    ap (λ p. take done bytes ++ take n p) rest ∙ sym (take-add done n bytes) in
    subst P was moved ∙ ap Some (append_assoc before (take done bytes) (take n piece) ∙ ap (λ t. before ++ t) joined)

-- what is read so far, and what is left
abbrev pub IsReadTo : Option (List ℕ) → Option (List ℕ) → List ℕ → ℕ → Type 0
IsReadTo start old script done = IfSome start (λ bytes. (script ≡ take done bytes) × (old ≡ Some (drop done bytes)))

-- one more piece is read
pub more_read : (start old new : Option (List ℕ)) (script piece rest : List ℕ) (done n : ℕ) → IsReadTo start old script done → IfSome old (λ bytes. MovesFront bytes n piece new) → n ≤ length piece → IsReadTo start new (script ++ take n (piece ++ rest)) (done + n)
more_read None old new script piece rest done n was moved fits = tt
more_read (Some bytes) old new script piece rest done n was moved fits =
    let P : Option (List ℕ) → Type 0 = λ o. IfSome o (λ left. MovesFront left n piece new) in
    let m : MovesFront (drop done bytes) n piece new = subst P was.1 moved in
    let front : take n (piece ++ rest) ≡ take n (drop done bytes) = take-append-le n piece rest fits ∙ m.copied in
    (ap (λ s. s ++ take n (piece ++ rest)) was.0 ∙ (ap (λ t. take done bytes ++ t) front ∙ sym (take-add done n bytes)), m.rest ∙ ap Some (drop-drop n done bytes))

-- nothing is left
pub all_read : (start old new : Option (List ℕ)) (script piece : List ℕ) (done n limit : ℕ) → IsReadTo start old script done → IfSome old (λ bytes. MovesFront bytes n piece new) → n ≡ 0 → 0 < length piece → done ≤ limit → IsReadTo start new script limit
all_read None old new script piece done n limit was moved none room within = tt
all_read (Some bytes) old new script piece done n limit was moved none room within =
    let P : Option (List ℕ) → Type 0 = λ o. IfSome o (λ left. MovesFront left n piece new) in
    let m : MovesFront (drop done bytes) n piece new = subst P was.1 moved in
    let at_end : drop done bytes ≡ [] = m.at_end none room in
    let short : length bytes ≤ done = omega (arith, length-drop done bytes, ap length at_end) in (
      was.0 ∙ (take_all done bytes short ∙ sym (take_all limit bytes (omega arith))),
      m.rest ∙ ap Some (ap (drop n) at_end ∙ (drop_all n [] (omega arith) ∙ sym (drop_all limit bytes (omega arith)))),
    )
