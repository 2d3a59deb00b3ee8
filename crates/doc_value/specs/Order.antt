-- The order of values.
use Rattle.std.specs.Prelude.{ℕ}
use Rattle.std.specs.Cmp.Lexicographic.{slice_cmp}
use Rattle.std.specs.Ordering.{nat_cmp, int_cmp}
use Rattle.std.specs.declared.cmp.Ordering.{Ordering}
use Rattle.doc_value.specs.declared.primitive.Primitive.{Primitive}
use Rattle.doc_value.specs.declared.primitive.Primitive.TheVariants.{Int, Text, False, True, Column}

-- which kind comes before which
abbrev pub kind : Primitive → ℕ
kind False = 0
kind (Int z) = 1
kind (Column n) = 2
kind (Text bytes) = 3
kind True = 4

-- Values of one kind: integers and column numbers as numbers, texts by their first byte that differs, a proper prefix
-- first. Values of two kinds by their kinds.
abbrev pub value_order : Primitive → Primitive → Ordering
value_order (Int a) (Int b) = int_cmp a b
value_order (Column a) (Column b) = nat_cmp a b
value_order (Text a) (Text b) = slice_cmp nat_cmp a b
value_order p q = nat_cmp (kind p) (kind q)
