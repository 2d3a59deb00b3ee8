-- The order of spellings is the order of keys.
use Rattle.std.proofs.Common.{◌≡◌, ℕ, true, IsTrue, List, [], ◌∷◌, ◌++◌, refl, sym, ap, ◌∙◌, append_assoc, arith}
use Rattle.std.specs.List.{list_all, AllByRecursion}
use Rattle.std.specs.Int.{w16, to_be_bytes}
use Rattle.std.specs.Ordering.{nat_cmp, ordering_then, ordering_reverse}
use Rattle.std.specs.declared.cmp.Ordering.{Ordering}
use Rattle.std.specs.declared.cmp.Ordering.TheVariants.{Less, Greater}
use Rattle.std.proofs.lemmas.Bool.{and_parts}
use Rattle.doc_value.specs.declared.primitive.Primitive.{Primitive}
use Rattle.doc_value.specs.declared.primitive.Primitive.TheVariants.{Int, Text, False, True, Column}
use Rattle.doc_value.specs.Order.{value_order}
use Rattle.doc_value.specs.Spelling as value
use Rattle.doc_value.proofs.Order.{bytes_cmp, then_assoc, alone, IsApart, order_behind, order_of_16}
use Rattle.doc_value.proofs.ValueOrder.{values_in_order}
use Rattle.doc_value.proofs.Values as of_value
use Rattle.doc_key.specs.declared.doc_key.DocKey.{DocKey}
use Rattle.doc_key.specs.Hash.{hash_of}
use Rattle.doc_key.specs.Order.{columns_order, plain_order, groups_order, key_order}
use Rattle.doc_key.specs.Spelling.{columns, is_column, spelling, has_spelling, IsInRange}
use Rattle.doc_key.proofs.Keys.{hash_of-lt, IsSpelled, is_spelled, key_with}

column_has : (c : Primitive) → is_column c ≡ true → value.has_spelling c ≡ true
column_has False column = refl
column_has (Int z) column = refl
column_has (Text bytes) column = column
column_has True column = refl
column_has (Column n) column = absurd cc

columns_apart : (c d : Primitive) → value.IsInRange c → value.IsInRange d → is_column c ≡ true → is_column d ≡ true → IsApart (value.spelling c) (value.spelling d)
columns_apart c d c_in d_in c_is d_is x y e =
    ap value.spelling (of_value.no_spelling_begins c d x y c_in d_in (column_has c c_is) (column_has d d_is) e).0

-- the end of a group comes before each column
end_first : (c : Primitive) (rest x : List ℕ) → bytes_cmp (0x21 ∷ x) (value.spelling c ++ rest) ≡ Less
end_first False rest x = refl
end_first (Int z) rest x = refl
end_first (Column n) rest x = refl
end_first (Text bytes) rest x = refl
end_first True rest x = refl

end_last : (c : Primitive) (rest x : List ℕ) → bytes_cmp (value.spelling c ++ rest) (0x21 ∷ x) ≡ Greater
end_last False rest x = refl
end_last (Int z) rest x = refl
end_last (Column n) rest x = refl
end_last (Text bytes) rest x = refl
end_last True rest x = refl

-- groups, and what stands behind them
columns_in_order : (cs ds : List Primitive) (x y : List ℕ) → AllByRecursion value.IsInRange cs → AllByRecursion value.IsInRange ds → list_all is_column cs ≡ true → list_all is_column ds ≡ true
    → bytes_cmp (columns cs ++ 0x21 ∷ x) (columns ds ++ 0x21 ∷ y) ≡ ordering_then (columns_order cs ds) (bytes_cmp x y)
columns_in_order [] [] x y cs_in ds_in cs_are ds_are = refl
columns_in_order [] (d ∷ ds) x y cs_in ds_in cs_are ds_are =
    ap (bytes_cmp (0x21 ∷ x)) (append_assoc (value.spelling d) (columns ds) (0x21 ∷ y)) ∙ end_first d (columns ds ++ 0x21 ∷ y) x
columns_in_order (c ∷ cs) [] x y cs_in ds_in cs_are ds_are =
    ap (λ (t : List ℕ). bytes_cmp t (0x21 ∷ y)) (append_assoc (value.spelling c) (columns cs) (0x21 ∷ x)) ∙ end_last c (columns cs ++ 0x21 ∷ x) y
columns_in_order (c ∷ cs) (d ∷ ds) x y cs_in ds_in cs_are ds_are =
    let c_is = and_parts (is_column c) (list_all is_column cs) cs_are in
    let d_is = and_parts (is_column d) (list_all is_column ds) ds_are in
    let later : Ordering = ordering_then (columns_order cs ds) (bytes_cmp x y) in
    ap (bytes_cmp (columns (c ∷ cs) ++ 0x21 ∷ x)) (append_assoc (value.spelling d) (columns ds) (0x21 ∷ y))
    ∙ ap (λ (t : List ℕ). bytes_cmp t (value.spelling d ++ (columns ds ++ 0x21 ∷ y))) (append_assoc (value.spelling c) (columns cs) (0x21 ∷ x))
    ∙ order_behind (value.spelling c) (value.spelling d) (columns cs ++ 0x21 ∷ x) (columns ds ++ 0x21 ∷ y) (columns_apart c d cs_in.0 ds_in.0 c_is.0 d_is.0)
    ∙ ap (ordering_then (bytes_cmp (value.spelling c) (value.spelling d))) (columns_in_order cs ds x y cs_in.1 ds_in.1 c_is.1 d_is.1)
    ∙ ap (λ (o : Ordering). ordering_then o later) (values_in_order c d cs_in.0 ds_in.0)
    ∙ sym (then_assoc (value_order c d) (columns_order cs ds) (bytes_cmp x y))

-- the bytes of a key with hashed columns, one after another
flat : (hash hashed range : List ℕ) → (0x47 ∷ (hash ++ (hashed ++ 0x21 ∷ []))) ++ (range ++ 0x21 ∷ []) ≡ 0x47 ∷ (hash ++ (hashed ++ 0x21 ∷ (range ++ 0x21 ∷ [])))
flat hash hashed range = simp append_assoc

abbrev behind_tag : List Primitive → List Primitive → List ℕ
behind_tag hashed range = to_be_bytes w16 (hash_of (columns hashed)) ++ (columns hashed ++ 0x21 ∷ (columns range ++ 0x21 ∷ []))

flat_key : (c : Primitive) (cs range : List Primitive) → spelling (key_with (c ∷ cs) range) ≡ 0x47 ∷ behind_tag (c ∷ cs) range
flat_key c cs range = flat (to_be_bytes w16 (hash_of (columns (c ∷ cs)))) (columns (c ∷ cs)) (columns range)

plain_first : (c : Primitive) (cs : List Primitive) (x : List ℕ) → bytes_cmp (columns (c ∷ cs) ++ 0x21 ∷ []) (0x47 ∷ x) ≡ plain_order (c ∷ cs)
plain_first False cs x = refl
plain_first (Int z) cs x = refl
plain_first (Column n) cs x = refl
plain_first (Text bytes) cs x = refl
plain_first True cs x = refl

plain_last : (c : Primitive) (cs : List Primitive) (x : List ℕ) → bytes_cmp (0x47 ∷ x) (columns (c ∷ cs) ++ 0x21 ∷ []) ≡ ordering_reverse (plain_order (c ∷ cs))
plain_last False cs x = refl
plain_last (Int z) cs x = refl
plain_last (Column n) cs x = refl
plain_last (Text bytes) cs x = refl
plain_last True cs x = refl

groups_in_order : (p-hashed p-range q-hashed q-range : List Primitive) → IsInRange (key_with p-hashed p-range) → IsInRange (key_with q-hashed q-range) → IsSpelled p-hashed p-range → IsSpelled q-hashed q-range
    → bytes_cmp (spelling (key_with p-hashed p-range)) (spelling (key_with q-hashed q-range)) ≡ groups_order p-hashed p-range q-hashed q-range
groups_in_order [] p-range [] q-range p_in q_in p_is q_is =
    columns_in_order p-range q-range [] [] p_in.range q_in.range p_is.range_columns q_is.range_columns ∙ alone (columns_order p-range q-range)
groups_in_order [] [] (d ∷ ds) q-range p_in q_in p_is q_is = absurd (omega (arith, p_is.some))
groups_in_order [] (c ∷ cs) (d ∷ ds) q-range p_in q_in p_is q_is =
    ap (bytes_cmp (columns (c ∷ cs) ++ 0x21 ∷ [])) (flat_key d ds q-range) ∙ plain_first c cs (behind_tag (d ∷ ds) q-range)
groups_in_order (c ∷ cs) p-range [] [] p_in q_in p_is q_is = absurd (omega (arith, q_is.some))
groups_in_order (c ∷ cs) p-range [] (d ∷ ds) p_in q_in p_is q_is =
    ap (λ (t : List ℕ). bytes_cmp t (columns (d ∷ ds) ++ 0x21 ∷ [])) (flat_key c cs p-range) ∙ plain_last d ds (behind_tag (c ∷ cs) p-range)
groups_in_order (c ∷ cs) p-range (d ∷ ds) q-range p_in q_in p_is q_is =
    let p-hash : ℕ = hash_of (columns (c ∷ cs)) in
    let q-hash : ℕ = hash_of (columns (d ∷ ds)) in
    let ranges : Ordering = columns_order p-range q-range in
    let hashes : Ordering = nat_cmp (hash_of (columns (c ∷ cs))) (hash_of (columns (d ∷ ds))) in
    ap (bytes_cmp (spelling (key_with (c ∷ cs) p-range))) (flat_key d ds q-range)
    ∙ ap (λ (t : List ℕ). bytes_cmp t (0x47 ∷ behind_tag (d ∷ ds) q-range)) (flat_key c cs p-range)
    ∙ order_of_16 p-hash q-hash (columns (c ∷ cs) ++ 0x21 ∷ (columns p-range ++ 0x21 ∷ [])) (columns (d ∷ ds) ++ 0x21 ∷ (columns q-range ++ 0x21 ∷ [])) (hash_of-lt (columns (c ∷ cs))) (hash_of-lt (columns (d ∷ ds)))
    ∙ ap (ordering_then hashes) (
    columns_in_order (c ∷ cs) (d ∷ ds) (columns p-range ++ 0x21 ∷ []) (columns q-range ++ 0x21 ∷ []) p_in.hashed q_in.hashed p_is.hashed_columns q_is.hashed_columns
    ∙ ap (ordering_then (columns_order (c ∷ cs) (d ∷ ds))) (columns_in_order p-range q-range [] [] p_in.range q_in.range p_is.range_columns q_is.range_columns ∙ alone ranges)
    )
    ∙ sym (then_assoc hashes (columns_order (c ∷ cs) (d ∷ ds)) ranges)

pub keys_in_order : (p q : DocKey) → IsInRange p → IsInRange q → IsTrue (has_spelling p) → IsTrue (has_spelling q) → bytes_cmp (spelling p) (spelling q) ≡ key_order p q
keys_in_order p q p_in q_in p_has q_has =
    groups_in_order p.hashed p.range q.hashed q.range p_in q_in (is_spelled p.hashed p.range p_has) (is_spelled q.hashed q.range q_has)
