-- Four numbers that differ.
use Rattle.std.proofs.Common.{◌≡◌, ℕ, false, nat_eq, [], ◌∷◌}
use Rattle.std.specs.List.{IsDistinct}

pub four : (a b c d : ℕ) → nat_eq a b ≡ false → nat_eq a c ≡ false → nat_eq a d ≡ false → nat_eq b c ≡ false → nat_eq b d ≡ false → nat_eq c d ≡ false → IsDistinct nat_eq (a ∷ b ∷ c ∷ d ∷ [])
unfolding IsDistinct
four a b c d ab ac ad bc bd cd = ((ab, (ac, (ad, tt))), ((bc, (bd, tt)), ((cd, tt), (tt, tt))))
