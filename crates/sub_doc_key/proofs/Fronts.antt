-- Pieces put one behind another.
use Rattle.std.proofs.Common.{◌≡◌, ℕ, ◌+◌, ◌-◌, List, ◌++◌, length, take, ap, ◌∙◌, append_assoc, arith}
use Rattle.std.proofs.lemmas.List.{take_at, length-append}
use Rattle.sub_doc_key.specs.Reading.{before}

-- three pieces were appended
pub three_pieces : (old a b new x y z : List ℕ) → a ≡ old ++ x → b ≡ a ++ y → new ≡ b ++ z → new ≡ old ++ (x ++ (y ++ z))
three_pieces old a b new x y z first second third =
    third ∙ ap (λ (t : List ℕ). t ++ z) (second ∙ ap (λ (t : List ℕ). t ++ y) first) ∙ append_assoc (old ++ x) y z ∙ append_assoc old x (y ++ z)

-- the piece in front of the rest
pub before_is : (bytes front rest : List ℕ) → bytes ≡ front ++ rest → before bytes rest ≡ front
before_is bytes front rest e =
    let len : length bytes ≡ length front + length rest = ap length e ∙ length-append front rest in
    ap (λ (t : List ℕ). take (length bytes - length rest) t) e ∙ take_at front rest (length bytes - length rest) (omega arith)
