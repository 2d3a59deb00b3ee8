-- Paths, as the lists of parts that they are seen as: one to five byte strings.
use Rattle.std.specs.Prelude.{ℕ, Bool, true, false, ◌&&◌, ◌||◌, List, [], ◌∷◌, bytes_eq, nat_lt, if◌then◌else◌}
use Rattle.std.specs.declared.cmp.Ordering.{Ordering}
use Rattle.std.specs.declared.cmp.Ordering.TheVariants.{Less, Equal, Greater}

abbrev pub Parts : Type 0
Parts = List (List ℕ)

abbrev pub is_prefix : Parts → Parts → Bool
is_prefix [] q = true
is_prefix (a ∷ p) [] = false
is_prefix (a ∷ p) (b ∷ q) = bytes_eq a b && is_prefix p q

-- one is a prefix of the other
abbrev pub related : Parts → Parts → Bool
related p q = is_prefix p q || is_prefix q p

-- bytes by their first difference, a proper prefix first
abbrev pub byte_order : List ℕ → List ℕ → Ordering
byte_order [] [] = Equal
byte_order [] (b ∷ bs) = Less
byte_order (a ∷ rest) [] = Greater
byte_order (a ∷ rest) (b ∷ bs) = if nat_lt a b then Less else (if nat_lt b a then Greater else byte_order rest bs)

abbrev pub order_then : Ordering → Ordering → Ordering
order_then Less later = Less
order_then Equal later = later
order_then Greater later = Greater

-- paths by their first part that differs, a proper prefix first
abbrev pub path_order : Parts → Parts → Ordering
path_order [] [] = Equal
path_order [] (b ∷ q) = Less
path_order (a ∷ p) [] = Greater
path_order (a ∷ p) (b ∷ q) = order_then (byte_order a b) (path_order p q)
