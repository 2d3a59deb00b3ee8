-- The order of spellings is the order of values.
use Rattle.std.proofs.Common.{◌≡◌, ℕ, zero, suc, ◌^◌, ◌<◌, ℤ, ◌<ℤ◌, pos, negsuc, List, [], ◌∷◌, ◌++◌, refl, sym, ap, ◌∙◌, arith}
use Rattle.std.specs.Cmp.{int_cmp_is}
use Rattle.std.specs.Cmp.Lexicographic.{slice_cmp}
use Rattle.std.specs.Int.{w32, w64, to_be_bytes}
use Rattle.std.specs.Int.RustNames.{FitsSigned}
use Rattle.std.specs.Ordering.{nat_cmp, int_cmp, ordering_then}
use Rattle.std.specs.declared.cmp.Ordering.{Ordering}
use Rattle.std.specs.declared.cmp.Ordering.TheVariants.{Less, Equal, Greater}
use Rattle.std.proofs.lemmas.Cmp.{ranked}
use Rattle.std.proofs.lemmas.Int.{ints}
use Rattle.doc_value.specs.declared.primitive.Primitive.{Primitive}
use Rattle.doc_value.specs.declared.primitive.Primitive.TheVariants.{Int, Text, False, True, Column}
use Rattle.doc_value.specs.Order.{value_order}
use Rattle.doc_value.specs.Spelling.{above_least, escaped, spelling, IsInRange}
use Rattle.doc_value.proofs.Order.{bytes_cmp, cmp_less, cmp_greater, alone, order_of_64, order_of_32}
use Rattle.doc_value.proofs.Values.{above_least-lt}

text_order : (a b : List ℕ) → bytes_cmp (escaped a ++ 0 ∷ 0 ∷ []) (escaped b ++ 0 ∷ 0 ∷ []) ≡ slice_cmp nat_cmp a b
text_order [] [] = refl
text_order [] (zero ∷ b) = refl
text_order [] (suc y ∷ b) = ap (λ (o : Ordering). ordering_then o (bytes_cmp (0 ∷ []) (escaped b ++ 0 ∷ 0 ∷ []))) (cmp_less 0 (suc y) (omega arith))
text_order (zero ∷ a) [] = refl
text_order (suc x ∷ a) [] = ap (λ (o : Ordering). ordering_then o (bytes_cmp (escaped a ++ 0 ∷ 0 ∷ []) (0 ∷ []))) (cmp_greater (suc x) 0 (omega arith))
text_order (zero ∷ a) (zero ∷ b) = text_order a b
text_order (zero ∷ a) (suc y ∷ b) =
    ap (λ (o : Ordering). ordering_then o (bytes_cmp (1 ∷ (escaped a ++ 0 ∷ 0 ∷ [])) (escaped b ++ 0 ∷ 0 ∷ []))) (cmp_less 0 (suc y) (omega arith))
    ∙ sym (ap (λ (o : Ordering). ordering_then o (slice_cmp nat_cmp a b)) (cmp_less 0 (suc y) (omega arith)))
text_order (suc x ∷ a) (zero ∷ b) =
    ap (λ (o : Ordering). ordering_then o (bytes_cmp (escaped a ++ 0 ∷ 0 ∷ []) (1 ∷ (escaped b ++ 0 ∷ 0 ∷ [])))) (cmp_greater (suc x) 0 (omega arith))
    ∙ sym (ap (λ (o : Ordering). ordering_then o (slice_cmp nat_cmp a b)) (cmp_greater (suc x) 0 (omega arith)))
text_order (suc x ∷ a) (suc y ∷ b) = ap (ordering_then (nat_cmp (suc x) (suc y))) (text_order a b)

above_less : (a b : ℤ) → FitsSigned w64 a → FitsSigned w64 b → above_least a < above_least b → a <ℤ b
above_less (pos m) (pos n) a_fits b_fits lt = omega (arith, ints)
above_less (pos m) (negsuc n) a_fits b_fits lt = absurd (omega arith)
above_less (negsuc m) (pos n) a_fits b_fits lt = omega (arith, ints)
above_less (negsuc m) (negsuc n) a_fits b_fits lt = omega (arith, ints, a_fits.sfits, b_fits.sfits)

above_same : (a b : ℤ) → FitsSigned w64 a → FitsSigned w64 b → above_least a ≡ above_least b → a ≡ b
above_same (pos m) (pos n) a_fits b_fits same = ap pos (omega arith)
above_same (pos m) (negsuc n) a_fits b_fits same = absurd (omega (arith, b_fits.sfits))
above_same (negsuc m) (pos n) a_fits b_fits same = absurd (omega (arith, a_fits.sfits))
above_same (negsuc m) (negsuc n) a_fits b_fits same = ap negsuc (omega (arith, a_fits.sfits, b_fits.sfits))

int_order : (o : Ordering) (a b : ℤ) → FitsSigned w64 a → FitsSigned w64 b → o ≡ nat_cmp (above_least a) (above_least b) → o ≡ int_cmp a b
int_order Less a b a_fits b_fits is = int_cmp_is a b Less (above_less a b a_fits b_fits (ranked _ _ Less is))
int_order Equal a b a_fits b_fits is = int_cmp_is a b Equal (above_same a b a_fits b_fits (ranked _ _ Equal is))
int_order Greater a b a_fits b_fits is = int_cmp_is a b Greater (above_less b a b_fits a_fits (ranked _ _ Greater is))

number_order : (m n : ℕ) → m < 2 ^ 64 → n < 2 ^ 64 → bytes_cmp (to_be_bytes w64 m) (to_be_bytes w64 n) ≡ nat_cmp m n
number_order m n m_lt n_lt = order_of_64 m n [] [] m_lt n_lt ∙ alone (nat_cmp m n)

column_order : (m n : ℕ) → m < 2 ^ 32 → n < 2 ^ 32 → bytes_cmp (to_be_bytes w32 m) (to_be_bytes w32 n) ≡ nat_cmp m n
column_order m n m_lt n_lt = order_of_32 m n [] [] m_lt n_lt ∙ alone (nat_cmp m n)

pub values_in_order : (p q : Primitive) → IsInRange p → IsInRange q → bytes_cmp (spelling p) (spelling q) ≡ value_order p q
values_in_order (Int a) (Int b) a_in b_in =
    number_order (above_least a) (above_least b) (above_least-lt a a_in) (above_least-lt b b_in) ∙ int_order _ a b a_in b_in refl
values_in_order (Column m) (Column n) m_in n_in = column_order m n m_in n_in
values_in_order (Text a) (Text b) a_in b_in = text_order a b
values_in_order False False p_in q_in = refl
values_in_order False (Int b) p_in q_in = refl
values_in_order False (Column n) p_in q_in = refl
values_in_order False (Text b) p_in q_in = refl
values_in_order False True p_in q_in = refl
values_in_order (Int a) False p_in q_in = refl
values_in_order (Int a) (Column n) p_in q_in = refl
values_in_order (Int a) (Text b) p_in q_in = refl
values_in_order (Int a) True p_in q_in = refl
values_in_order (Column m) False p_in q_in = refl
values_in_order (Column m) (Int b) p_in q_in = refl
values_in_order (Column m) (Text b) p_in q_in = refl
values_in_order (Column m) True p_in q_in = refl
values_in_order (Text a) False p_in q_in = refl
values_in_order (Text a) (Int b) p_in q_in = refl
values_in_order (Text a) (Column n) p_in q_in = refl
values_in_order (Text a) True p_in q_in = refl
values_in_order True False p_in q_in = refl
values_in_order True (Int b) p_in q_in = refl
values_in_order True (Column n) p_in q_in = refl
values_in_order True (Text b) p_in q_in = refl
values_in_order True True p_in q_in = refl
