-- Rows in path order: they are decided by their members.
use Rattle.std.proofs.Common.{◌≡◌, List, [], ◌∷◌, refl, sym, ◌∙◌, ap, subst, inl, inr, ◌⊎◌}
use Rattle.std.specs.declared.cmp.Ordering.{Ordering}
use Rattle.std.specs.declared.cmp.Ordering.TheVariants.{Less, Equal, Greater}
use Rattle.doc_path.specs.Path.{Parts, path_order}
use Rattle.txn_data.specs.declared.row.Row.{Row}
use Rattle.txn_types.specs.Lists.{Member}
use Rattle.txn_types.specs.Session.{with_row, with_rows}
use Rattle.law_values.proofs.Paths.{order_equal, order_back, order_less, less_apart}

-- the path comes before those of all these rows
abbrev pub IsBelow : Parts → List Row → Type 0
IsBelow p rows = (s : Row) → Member s rows → path_order p s.path ≡ Less

-- each path comes before all that follow
abbrev pub Rise : List Row → Type 0
Rise [] = Unit {0}
Rise (r ∷ rows) = IsBelow r.path rows × Rise rows

-- ## two such lists with the same members are one

first_same : (a b : Row) (xs ys : List Row) → IsBelow a.path xs → IsBelow b.path ys → Member a (b ∷ ys) → Member b (a ∷ xs) → a ≡ b
first_same a b xs ys one two here there = elim here [
  | inl same ↦ same
  | inr later ↦ elim there [
    | inl same ↦ sym same
    | inr after ↦ absurd (less_apart a.path a.path (order_less a.path b.path a.path (one b after) (two a later)) refl)
  ]
]

rest_in : (a b r : Row) (xs ys : List Row) → a ≡ b → IsBelow a.path xs → Member r xs → Member r (b ∷ ys) → Member r ys
rest_in a b r xs ys same below m n = elim n [
  | inl here ↦ absurd (less_apart a.path r.path (below r m) (ap (λ (s : Row). s.path) (same ∙ sym here)))
  | inr later ↦ later
]

pub rows_same : (xs ys : List Row) → Rise xs → Rise ys → ((r : Row) → Member r xs → Member r ys) → ((r : Row) → Member r ys → Member r xs) → xs ≡ ys
rows_same [] [] one two to back = refl
rows_same [] (b ∷ ys) one two to back = absurd (back b (inl refl))
rows_same (a ∷ xs) [] one two to back = absurd (to a (inl refl))
rows_same (a ∷ xs) (b ∷ ys) one two to back =
    let same = first_same a b xs ys one.0 two.0 (to a (inl refl)) (back b (inl refl)) in
    let more = rows_same xs ys one.1 two.1 (λ r m. rest_in a b r xs ys same one.0 m (to r (inr m))) (λ r m. rest_in b a r ys xs (sym same) two.0 m (back r (inr m))) in
    ap (λ (r : Row). r ∷ xs) same ∙ ap (λ (rows : List Row). b ∷ rows) more

-- ## a row in the place of one of its path

from_choice : (o : Ordering) (r q x : Row) (qs : List Row) → Member x (elim o [ Less ↦ r ∷ q ∷ qs | Equal ↦ r ∷ qs | Greater ↦ q ∷ with_row r qs ]) → (Member x (with_row r qs) → (x ≡ r) ⊎ Member x qs) → (x ≡ r) ⊎ Member x (q ∷ qs)
from_choice Less r q x qs m more = m
from_choice Equal r q x qs m more = elim m [ inl new ↦ inl new | inr old ↦ inr (inr old) ]
from_choice Greater r q x qs m more = elim m [
  | inl here ↦ inr (inl here)
  | inr later ↦ elim (more later) [ inl new ↦ inl new | inr old ↦ inr (inr old) ]
]

pub with_row_from : (r x : Row) (qs : List Row) → Member x (with_row r qs) → (x ≡ r) ⊎ Member x qs
unfolding with_row
with_row_from r x [] m = m
with_row_from r x (q ∷ qs) m = from_choice (path_order r.path q.path) r q x qs m (with_row_from r x qs)

new_choice : (o : Ordering) (r q : Row) (qs : List Row) → Member r (with_row r qs) → Member r (elim o [ Less ↦ r ∷ q ∷ qs | Equal ↦ r ∷ qs | Greater ↦ q ∷ with_row r qs ])
new_choice Less r q qs more = inl refl
new_choice Equal r q qs more = inl refl
new_choice Greater r q qs more = inr more

pub with_row_new : (r : Row) (qs : List Row) → Member r (with_row r qs)
unfolding with_row
with_row_new r [] = inl refl
with_row_new r (q ∷ qs) = new_choice (path_order r.path q.path) r q qs (with_row_new r qs)

old_choice : (o : Ordering) (r q x : Row) (qs : List Row) → path_order r.path q.path ≡ o → (r.path ≡ x.path → ⊥) → Member x (q ∷ qs) → (Member x qs → Member x (with_row r qs)) →
    Member x (elim o [ Less ↦ r ∷ q ∷ qs | Equal ↦ r ∷ qs | Greater ↦ q ∷ with_row r qs ])
old_choice Less r q x qs is apart m more = inr m
old_choice Equal r q x qs is apart m more = elim m [
  | inl here ↦ absurd (apart (order_equal r.path q.path is ∙ ap (λ (s : Row). s.path) (sym here)))
  | inr later ↦ inr later
]
old_choice Greater r q x qs is apart m more = elim m [ inl here ↦ inl here | inr later ↦ inr (more later) ]

pub with_row_old : (r x : Row) (qs : List Row) → (r.path ≡ x.path → ⊥) → Member x qs → Member x (with_row r qs)
unfolding with_row
with_row_old r x [] apart m = absurd m
with_row_old r x (q ∷ qs) apart m = old_choice (path_order r.path q.path) r q x qs refl apart m (with_row_old r x qs apart)

rise_choice : (o : Ordering) (r q : Row) (qs : List Row) → path_order r.path q.path ≡ o → IsBelow q.path qs → Rise qs → Rise (with_row r qs) → Rise (elim o [ Less ↦ r ∷ q ∷ qs | Equal ↦ r ∷ qs | Greater ↦ q ∷ with_row r qs ])
rise_choice Less r q qs is below rise more = (
  λ s m. elim m [
    | inl here ↦ subst (λ (t : Row). path_order r.path t.path ≡ Less) (sym here) is
    | inr later ↦ order_less r.path q.path s.path is (below s later)
  ],
  (below, rise),
)
rise_choice Equal r q qs is below rise more =
    (λ s m. subst (λ (p : Parts). path_order p s.path ≡ Less) (sym (order_equal r.path q.path is)) (below s m), rise)
rise_choice Greater r q qs is below rise more = (
  λ s m. elim (with_row_from r s qs m) [
    | inl new ↦ subst (λ (t : Row). path_order q.path t.path ≡ Less) (sym new) (order_back r.path q.path is)
    | inr old ↦ below s old
  ],
  more,
)

with_row_rise : (r : Row) (qs : List Row) → Rise qs → Rise (with_row r qs)
unfolding with_row
with_row_rise r [] rise = (λ s m. absurd m, tt)
with_row_rise r (q ∷ qs) rise = rise_choice (path_order r.path q.path) r q qs refl rise.0 rise.1 (with_row_rise r qs rise.1)

-- ## rows over other rows

pub with_rows_rise : (rs rows : List Row) → Rise rows → Rise (with_rows rs rows)
unfolding with_rows
with_rows_rise [] rows rise = rise
with_rows_rise (r ∷ rs) rows rise = with_row_rise r (with_rows rs rows) (with_rows_rise rs rows rise)

pub with_rows_from : (rs rows : List Row) (x : Row) → Member x (with_rows rs rows) → Member x rs ⊎ Member x rows
unfolding with_rows
with_rows_from [] rows x m = inr m
with_rows_from (r ∷ rs) rows x m = elim (with_row_from r x (with_rows rs rows) m) [
  | inl new ↦ inl (inl new)
  | inr more ↦ elim (with_rows_from rs rows x more) [ inl above ↦ inl (inr above) | inr under ↦ inr under ]
]

pub with_rows_new : (rs rows : List Row) (x : Row) → Rise rs → Member x rs → Member x (with_rows rs rows)
unfolding with_rows
with_rows_new [] rows x rise m = absurd m
with_rows_new (r ∷ rs) rows x rise m = elim m [
  | inl here ↦ subst (λ (s : Row). Member s (with_row r (with_rows rs rows))) (sym here) (with_row_new r (with_rows rs rows))
  | inr later ↦ with_row_old r x (with_rows rs rows) (less_apart r.path x.path (rise.0 x later)) (with_rows_new rs rows x rise.1 later)
]

pub with_rows_old : (rs rows : List Row) (x : Row) → ((r : Row) → Member r rs → r.path ≡ x.path → ⊥) → Member x rows → Member x (with_rows rs rows)
unfolding with_rows
with_rows_old [] rows x apart m = m
with_rows_old (r ∷ rs) rows x apart m = with_row_old r x (with_rows rs rows) (apart r (inl refl)) (with_rows_old rs rows x (λ s n. apart s (inr n)) m)
