-- Columns and groups: what is read is spelled so, what is spelled is read.
use Rattle.std.proofs.Common.{◌≡◌, ℕ, zero, suc, ◌-◌, ◌≤◌, true, false, cond, eqb, List, [], ◌∷◌, ◌++◌, length, Ok, Err, refl, sym, ap, subst, ◌∙◌, append_assoc, arith, inl, inr}
use Rattle.std.specs.List.{list_all, AllByRecursion}
use Rattle.std.proofs.lemmas.Bool.{eqb-true, false_from_ne_true, and_parts}
use Rattle.doc_value.specs.declared.key_refusal.KeyRefusal.TheVariants.{BadTag, TooMany}
use Rattle.doc_value.specs.declared.primitive.Primitive.{Primitive}
use Rattle.doc_value.specs.declared.primitive.Primitive.TheVariants.{Int, Text, False, True, Column}
use Rattle.doc_value.specs.Spelling as value
use Rattle.doc_value.specs.Reading.{◌>>=◌, onto, offset, value_at, IsBytes}
use Rattle.doc_value.proofs.Steps.{IsBytes-behind, bind_ok, chosen, ok_is, onto_ok}
use Rattle.doc_value.proofs.Values.{value_takes, value_again}
use Rattle.doc_key.specs.Spelling.{columns, is_column, most_columns}
use Rattle.doc_key.specs.Reading.{is_column_tag, column_at, columns_at, group_at}

-- a tag of a column is no other
pub other_tag : (tag other : ℕ) → is_column_tag tag ≡ true → is_column_tag other ≡ false → eqb tag other ≡ false
other_tag tag other column none =
    false_from_ne_true (eqb tag other) (λ same. let both : true ≡ false = sym column ∙ ap is_column_tag (eqb-true tag other same) ∙ none in absurd cc)

head_is : (a b : ℕ) (xs ys : List ℕ) → a ∷ xs ≡ b ∷ ys → a ≡ b
head_is a b xs ys e = cc

-- ---- one column

tag_of_column : (c : Primitive) (tag : ℕ) (bytes rest : List ℕ) → is_column_tag tag ≡ true → value.has_spelling c ≡ true → tag ∷ bytes ≡ value.spelling c ++ rest → is_column c ≡ true
tag_of_column False tag bytes rest column has e = refl
tag_of_column (Int z) tag bytes rest column has e = refl
tag_of_column (Text text) tag bytes rest column has e = has
tag_of_column True tag bytes rest column has e = refl
tag_of_column (Column n) tag bytes rest column has e =
    let both : true ≡ false = sym column ∙ ap is_column_tag (head_is tag 0x4B bytes _ e) in
    absurd cc

-- the column was taken from the front of the bytes
pub record TakesColumn (bytes : List ℕ) (c : Primitive) (rest : List ℕ) : Type 0 where
  pub in_range : value.IsInRange c
  pub column : is_column c ≡ true
  pub parts : bytes ≡ value.spelling c ++ rest

pub column_takes : (whole : ℕ) (bytes : List ℕ) (c : Primitive) (rest : List ℕ) → IsBytes bytes → column_at whole bytes ≡ Ok (c, rest) → TakesColumn bytes c rest
unfolding column_at
column_takes whole [] c rest fits e = absurd cc
column_takes whole (tag ∷ bytes) c rest fits e =
    elim (chosen (is_column_tag tag) (value_at whole (tag ∷ bytes)) (Err (BadTag (offset whole (tag ∷ bytes)))) (Ok (c, rest)) e) [
      | inl a ↦
          let t = value_takes whole (tag ∷ bytes) c rest fits a.1 in
          record { in_range = t.in_range; column = tag_of_column c tag bytes rest a.0 t.has t.parts; parts = t.parts }
      | inr a ↦ absurd cc
    ]

pub column_again : (whole : ℕ) (c : Primitive) (rest : List ℕ) → value.IsInRange c → is_column c ≡ true → column_at whole (value.spelling c ++ rest) ≡ Ok (c, rest)
unfolding column_at
column_again whole False rest in_range column = value_again whole False rest in_range refl
column_again whole (Int z) rest in_range column = value_again whole (Int z) rest in_range refl
column_again whole (Text text) rest in_range column = value_again whole (Text text) rest in_range column
column_again whole True rest in_range column = value_again whole True rest in_range refl
column_again whole (Column n) rest in_range column = absurd cc

-- where a column is read its tag stands
pub read_has_tag : (whole tag : ℕ) (bytes : List ℕ) (x : Primitive × List ℕ) → column_at whole (tag ∷ bytes) ≡ Ok x → is_column_tag tag ≡ true
unfolding column_at
read_has_tag whole tag bytes x e =
    elim (chosen (is_column_tag tag) (value_at whole (tag ∷ bytes)) (Err (BadTag (offset whole (tag ∷ bytes)))) (Ok x) e) [
      | inl a ↦ a.0
      | inr a ↦ absurd cc
    ]

no_bytes_no_column : (whole : ℕ) (x : Primitive × List ℕ) → column_at whole [] ≡ Ok x → ⊥
unfolding column_at
no_bytes_no_column whole x e = cc

-- ---- the columns of a group

-- the columns were taken from the front of the bytes, and the 21 behind them
pub record TakesGroup (most : ℕ) (bytes : List ℕ) (cs : List Primitive) (rest : List ℕ) : Type 0 where
  pub in_range : AllByRecursion value.IsInRange cs
  pub column : list_all is_column cs ≡ true
  pub few : length cs ≤ most
  pub parts : bytes ≡ columns cs ++ 0x21 ∷ rest

group_end : (most tag : ℕ) (bytes : List ℕ) (cs : List Primitive) (rest : List ℕ) (e : List Primitive × List ℕ) → eqb tag 0x21 ≡ true → e ≡ (cs, rest) → e ≡ ([], bytes) → TakesGroup most (tag ∷ bytes) cs rest
group_end most tag bytes cs rest e end at_is is =
    let pair : ([], bytes) ≡ (cs, rest) = sym is ∙ at_is in
    subst (λ (p : List Primitive × List ℕ). TakesGroup most (tag ∷ bytes) p.0 p.1) pair (record {
      in_range = tt;
      column = refl;
      few = omega arith;
      parts = ap (λ (b : ℕ). b ∷ bytes) (eqb-true tag 0x21 end);
    })

pub group_with : (most : ℕ) (bytes after : List ℕ) (c : Primitive) (cs : List Primitive) (rest : List ℕ) → TakesColumn bytes c after → TakesGroup most after cs rest → TakesGroup (suc most) bytes (c ∷ cs) rest
group_with most bytes after c cs rest first others = record {
  in_range = (first.in_range, others.in_range);
  column = rw (first.column, others.column) refl;
  few = omega (arith, others.few);
  parts = first.parts ∙ ap (λ (t : List ℕ). value.spelling c ++ t) others.parts ∙ sym (append_assoc (value.spelling c) (columns cs) (0x21 ∷ rest));
}

pub columns_take : (whole room : ℕ) (bytes : List ℕ) (cs : List Primitive) (rest : List ℕ) → IsBytes bytes → columns_at whole room bytes ≡ Ok (cs, rest) → TakesGroup room bytes cs rest
unfolding columns_at
columns_take whole zero [] cs rest fits e = absurd cc
columns_take whole (suc room) [] cs rest fits e = absurd cc
columns_take whole zero (tag ∷ bytes) cs rest fits e =
    elim (chosen (eqb tag 0x21) (Ok ([], bytes)) (cond (is_column_tag tag) (Err (TooMany (offset whole (tag ∷ bytes)))) (Err (BadTag (offset whole (tag ∷ bytes))))) (Ok (cs, rest)) e) [
      | inl a ↦ group_end 0 tag bytes cs rest ([], bytes) a.0 (ok_is ([], bytes) (cs, rest) a.1) refl
      | inr a ↦ elim (chosen (is_column_tag tag) (Err (TooMany (offset whole (tag ∷ bytes)))) (Err (BadTag (offset whole (tag ∷ bytes)))) (Ok (cs, rest)) a.1) [
        | inl b ↦ absurd cc
        | inr b ↦ absurd cc
      ]
    ]
columns_take whole (suc room) (tag ∷ bytes) cs rest fits e =
    elim (chosen (eqb tag 0x21) (Ok ([], bytes)) (column_at whole (tag ∷ bytes) >>= λ first. onto (first.0 ∷ []) (columns_at whole room first.1)) (Ok (cs, rest)) e) [
      | inl a ↦ group_end (suc room) tag bytes cs rest ([], bytes) a.0 (ok_is ([], bytes) (cs, rest) a.1) refl
      | inr a ↦
          let b = bind_ok (column_at whole (tag ∷ bytes)) (λ first. onto (first.0 ∷ []) (columns_at whole room first.1)) (cs, rest) a.1 in
          let first = column_takes whole (tag ∷ bytes) b.0.0 b.0.1 fits b.1 in
          let o = onto_ok (b.0.0 ∷ []) (columns_at whole room b.0.1) cs rest b.2 in
          let others = columns_take whole room b.0.1 o.0 rest (IsBytes-behind (tag ∷ bytes) (value.spelling b.0.0) b.0.1 first.parts fits) o.1 in
          subst (λ (t : List Primitive). TakesGroup (suc room) (tag ∷ bytes) t rest) o.2 (group_with room (tag ∷ bytes) b.0.1 b.0.0 o.0 rest first others)
    ]

columns_step : (whole room : ℕ) (bytes : List ℕ) (c : Primitive) (after : List ℕ) → column_at whole bytes ≡ Ok (c, after)
    → columns_at whole (suc room) bytes ≡ onto (c ∷ []) (columns_at whole room after)
unfolding columns_at
columns_step whole room [] c after e = absurd (no_bytes_no_column whole (c, after) e)
columns_step whole room (tag ∷ bytes) c after e =
    let not_end = other_tag tag 0x21 (read_has_tag whole tag bytes (c, after) e) refl in
    rw (not_end, e) refl

pub columns_again : (whole room : ℕ) (cs : List Primitive) (rest : List ℕ) → AllByRecursion value.IsInRange cs → list_all is_column cs ≡ true → length cs ≤ room
    → columns_at whole room (columns cs ++ 0x21 ∷ rest) ≡ Ok (cs, rest)
unfolding columns_at
columns_again whole zero [] rest in_range column few = refl
columns_again whole (suc room) [] rest in_range column few = refl
columns_again whole zero (c ∷ cs) rest in_range column few = absurd (omega arith)
columns_again whole (suc room) (c ∷ cs) rest in_range column few =
    let each = and_parts (is_column c) (list_all is_column cs) column in
    ap (columns_at whole (suc room)) (append_assoc (value.spelling c) (columns cs) (0x21 ∷ rest))
    ∙ columns_step whole room (value.spelling c ++ (columns cs ++ 0x21 ∷ rest)) c (columns cs ++ 0x21 ∷ rest) (column_again whole c (columns cs ++ 0x21 ∷ rest) in_range.0 each.0)
    ∙ ap (onto (c ∷ [])) (columns_again whole room cs rest in_range.1 each.1 (omega arith))

-- ---- a group of one column at least

pub group_takes : (whole : ℕ) (bytes : List ℕ) (x : List Primitive × List ℕ) → IsBytes bytes → group_at whole bytes ≡ Ok x
    → (c : Primitive) × (cs : List Primitive) × (x.0 ≡ c ∷ cs) × TakesGroup 8 bytes (c ∷ cs) x.1
unfolding group_at
group_takes whole bytes x fits e =
    let a = bind_ok (column_at whole bytes) (λ first. onto (first.0 ∷ []) (columns_at whole (most_columns - 1) first.1)) x e in
    let first = column_takes whole bytes a.0.0 a.0.1 fits a.1 in
    let o = onto_ok (a.0.0 ∷ []) (columns_at whole 7 a.0.1) x.0 x.1 a.2 in
    let others = columns_take whole 7 a.0.1 o.0 x.1 (IsBytes-behind bytes (value.spelling a.0.0) a.0.1 first.parts fits) o.1 in
    (a.0.0, o.0, sym o.2, group_with 7 bytes a.0.1 a.0.0 o.0 x.1 first others)

pub group_again : (whole : ℕ) (c : Primitive) (cs : List Primitive) (rest : List ℕ) → AllByRecursion value.IsInRange (c ∷ cs) → list_all is_column (c ∷ cs) ≡ true → length (c ∷ cs) ≤ 8
    → group_at whole (columns (c ∷ cs) ++ 0x21 ∷ rest) ≡ Ok (c ∷ cs, rest)
unfolding group_at
group_again whole c cs rest in_range column few =
    let each = and_parts (is_column c) (list_all is_column cs) column in
    ap (group_at whole) (append_assoc (value.spelling c) (columns cs) (0x21 ∷ rest))
    ∙ rw (column_again whole c (columns cs ++ 0x21 ∷ rest) in_range.0 each.0, columns_again whole 7 cs rest in_range.1 each.1 (omega arith)) refl

-- a group begins with the tag of a column
pub group_has_tag : (whole tag : ℕ) (bytes : List ℕ) (x : List Primitive × List ℕ) → group_at whole (tag ∷ bytes) ≡ Ok x → is_column_tag tag ≡ true
unfolding group_at
group_has_tag whole tag bytes x e =
    let a = bind_ok (column_at whole (tag ∷ bytes)) (λ first. onto (first.0 ∷ []) (columns_at whole (most_columns - 1) first.1)) x e in
    read_has_tag whole tag bytes a.0 a.1

pub no_bytes_no_group : (whole : ℕ) (x : List Primitive × List ℕ) → group_at whole [] ≡ Ok x → ⊥
unfolding group_at
no_bytes_no_group whole x e =
    let a = bind_ok (column_at whole []) (λ first. onto (first.0 ∷ []) (columns_at whole (most_columns - 1) first.1)) x e in
    no_bytes_no_column whole a.0 a.1
