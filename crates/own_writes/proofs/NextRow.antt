-- The next row of two lists of rows.
use Rattle.std.proofs.Common.{◌≡◌, List, [], ◌∷◌, ◌++◌, Option, Some, None, IfSome, drop, length, refl, sym, ap, ◌∙◌, subst, arith}
use Rattle.std.specs.Prelude.{option_to_list, IfNone}
use Rattle.std.specs.Ordering.{ordering_reverse}
use Rattle.std.specs.declared.cmp.Ordering.{Ordering}
use Rattle.std.specs.declared.cmp.Ordering.TheVariants.{Less, Equal, Greater}
use Rattle.doc_path.specs.Path.{Parts, path_order}
use Rattle.txn_data.specs.declared.row.Row.{Row}
use Rattle.txn_types.specs.Session.{with_row, with_rows}
use Rattle.own_writes.specs.Merging.{IsBefore, Rise, first_order}
use Rattle.own_writes.proofs.Rising.{order_equal, order_turned, order_less}

before_all : (p q : Parts) (rows : List Row) → path_order p q ≡ Less → IsBefore q rows → IsBefore p rows
before_all p q [] h b = tt
before_all p q (r ∷ rows) h b = (order_less p q r.path h b.0, before_all p q rows h b.1)

less_back : (p q : Parts) → path_order p q ≡ Less → path_order q p ≡ Greater
less_back p q h = order_turned p q ∙ ap ordering_reverse h

greater_back : (p q : Parts) → path_order p q ≡ Greater → path_order q p ≡ Less
greater_back p q h = order_turned p q ∙ ap ordering_reverse h

-- ## a row that comes before all rows stays first

row_past : (r q : Row) (others : List Row) → path_order q.path r.path ≡ Less → with_row r (q ∷ others) ≡ q ∷ with_row r others
unfolding with_row
row_past r q others h = rw (less_back q.path r.path h, with_row) refl

rows_past : (rows : List Row) (q : Row) (others : List Row) → IsBefore q.path rows → with_rows rows (q ∷ others) ≡ q ∷ with_rows rows others
unfolding with_rows
rows_past [] q others b = refl
rows_past (r ∷ rows) q others b = ap (with_row r) (rows_past rows q others b.1) ∙ row_past r q (with_rows rows others) b.0

-- ## a row before the first of them goes in front

abbrev IsFirst : Parts → List Row → Type 0
IsFirst p [] = Unit {0}
IsFirst p (r ∷ rows) = path_order p r.path ≡ Less

in_front : (r : Row) (rows : List Row) → IsFirst r.path rows → with_row r rows ≡ r ∷ rows
unfolding with_row
in_front r [] h = refl
in_front r (q ∷ rows) h = rw (h, with_row) refl

first_choice : (o : Ordering) (p : Parts) (r q : Row) (rows more : List Row) → path_order p r.path ≡ Less → path_order p q.path ≡ Less
    → IsFirst p (elim o [ Less ↦ r ∷ q ∷ rows | Equal ↦ r ∷ rows | Greater ↦ q ∷ more ])
first_choice Less p r q rows more h f = h
first_choice Equal p r q rows more h f = h
first_choice Greater p r q rows more h f = f

first_with : (p : Parts) (r : Row) (rows : List Row) → path_order p r.path ≡ Less → IsFirst p rows → IsFirst p (with_row r rows)
unfolding with_row
first_with p r [] h f = h
first_with p r (q ∷ rows) h f = first_choice (path_order r.path q.path) p r q rows (with_row r rows) h f

first_all : (p : Parts) (rows others : List Row) → IsBefore p rows → IsFirst p others → IsFirst p (with_rows rows others)
unfolding with_rows
first_all p [] others b f = f
first_all p (r ∷ rows) others b f = first_with p r (with_rows rows others) b.0 (first_all p rows others b.1 f)

-- ## the next row

-- the first list has it
pub less_next : (x : Row) (rows others : List Row) → Rise (x ∷ rows) → first_order (x ∷ rows) others ≡ Less → with_rows (x ∷ rows) others ≡ x ∷ with_rows rows others
unfolding with_rows
less_next x rows [] rise h = in_front x (with_rows rows []) (first_all x.path rows [] rise.0 tt)
less_next x rows (q ∷ others) rise h = in_front x (with_rows rows (q ∷ others)) (first_all x.path rows (q ∷ others) rise.0 h)

equal_front : (r q : Row) (rows : List Row) → path_order r.path q.path ≡ Equal → with_row r (q ∷ rows) ≡ r ∷ rows
unfolding with_row
equal_front r q rows h = rw (h, with_row) refl

-- both have it
pub equal_next : (x y : Row) (rows others : List Row) → Rise (x ∷ rows) → first_order (x ∷ rows) (y ∷ others) ≡ Equal → with_rows (x ∷ rows) (y ∷ others) ≡ x ∷ with_rows rows others
unfolding with_rows
equal_next x y rows others rise h =
    let before : IsBefore y.path rows = subst (λ (p : Parts). IsBefore p rows) (order_equal x.path y.path h) rise.0 in
    ap (with_row x) (rows_past rows y others before) ∙ equal_front x y (with_rows rows others) h

-- the second list has it
pub greater_next : (y : Row) (rows others : List Row) → Rise rows → first_order rows (y ∷ others) ≡ Greater → with_rows rows (y ∷ others) ≡ y ∷ with_rows rows others
unfolding with_rows
greater_next y [] others rise h = refl
greater_next y (x ∷ rows) others rise h =
    let less : path_order y.path x.path ≡ Less = greater_back x.path y.path h in
    rows_past (x ∷ rows) y others (less, before_all y.path x.path rows less rise.0)

-- ## the same where a first row is taken

pub less_some : (rows left others : List Row) (o : Option Row) → Rise rows → first_order rows others ≡ Less → rows ≡ option_to_list o ++ left → IfSome o (λ row. with_rows rows others ≡ row ∷ with_rows left others)
less_some rows left others None rise h e = tt
less_some rows left others (Some x) rise h e =
    let P : List Row → Type 0 = λ l. Rise l → first_order l others ≡ Less → with_rows l others ≡ x ∷ with_rows left others in
    subst P (sym e) (λ r i. less_next x left others r i) rise h

pub equal_some : (rows left others more : List Row) (o : Option Row) → Rise rows → first_order rows others ≡ Equal → rows ≡ option_to_list o ++ left → more ≡ drop 1 others → IfSome o (λ row. with_rows rows others ≡ row ∷ with_rows left more)
equal_some rows left others more None rise h e d = tt
equal_some [] left others more (Some x) rise h e d = cc
equal_some (r ∷ rows) left [] more (Some x) rise h e d = cc
equal_some (r ∷ rows) left (q ∷ others) more (Some x) rise h e d = cc (equal_next r q rows others rise h, e, d)

pub greater_some : (rows others more : List Row) (o : Option Row) → Rise rows → first_order rows others ≡ Greater → others ≡ option_to_list o ++ more → IfSome o (λ row. with_rows rows others ≡ row ∷ with_rows rows more)
greater_some rows others more None rise h e = tt
greater_some rows others more (Some y) rise h e =
    let P : List Row → Type 0 = λ l. first_order rows l ≡ Greater → with_rows rows l ≡ y ∷ with_rows rows more in
    subst P (sym e) (λ i. greater_next y rows more rise i) h

no_shorter : (q : Row) (others : List Row) → q ∷ others ≡ others → ⊥
no_shorter q others e = let long : length (q ∷ others) ≡ length others = ap length e in omega arith

pub greater_none : (rows others more : List Row) (o : Option Row) → first_order rows others ≡ Greater → others ≡ option_to_list o ++ more → more ≡ drop 1 others → IfNone o (with_rows rows others ≡ [])
unfolding with_rows
greater_none rows others more (Some q) h e d = tt
greater_none [] [] more None h e d = refl
greater_none (r ∷ rows) [] more None h e d = cc
greater_none [] (q ∷ others) more None h e d = absurd (no_shorter q others (e ∙ d))
greater_none (r ∷ rows) (q ∷ others) more None h e d = absurd (no_shorter q others (e ∙ d))
