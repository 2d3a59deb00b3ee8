-- The rows beneath a path: each path at or beneath it that has a value, with it, in path order.
use Rattle.std.proofs.Common.{◌≡◌, ℕ, Bool, true, false, List, [], ◌∷◌, ◌++◌, Option, Some, None, flat_map, refl, sym, ◌∙◌, ap, subst, inl, inr, ◌⊎◌, if◌then◌else◌}
use Rattle.std.specs.declared.cmp.Ordering.{Ordering}
use Rattle.std.specs.declared.cmp.Ordering.TheVariants.{Less, Equal, Greater}
use Rattle.doc_path.specs.Path.{Parts, is_prefix, path_order}
use Rattle.txn_data.specs.declared.row.Row.{Row}
use Rattle.txn_data.specs.declared.written.Written.{Written}
use Rattle.txn_types.specs.Lists.{Member, or_else}
use Rattle.txn_types.specs.Writes.{last_word, value_set, set_at, value, with_path, paths_beneath, row_with, beneath}
use Rattle.law_machines.proofs.Basics.{member_flat, flat_member}
use Rattle.law_values.proofs.Paths.{order_equal, order_back, order_less, prefix_both}
use Rattle.law_values.proofs.Rows.{IsBelow, Rise, rows_same}

-- ## the paths written

abbrev PathsRise : List Parts → Type 0
PathsRise [] = Unit {0}
PathsRise (p ∷ ps) = ((q : Parts) → Member q ps → path_order p q ≡ Less) × PathsRise ps

from_choice : (o : Ordering) (p q x : Parts) (qs : List Parts) → Member x (elim o [ Less ↦ p ∷ q ∷ qs | Equal ↦ q ∷ qs | Greater ↦ q ∷ with_path p qs ]) → (Member x (with_path p qs) → (x ≡ p) ⊎ Member x qs) → (x ≡ p) ⊎ Member x (q ∷ qs)
from_choice Less p q x qs m more = m
from_choice Equal p q x qs m more = inr m
from_choice Greater p q x qs m more = elim m [
  | inl here ↦ inr (inl here)
  | inr later ↦ elim (more later) [ inl new ↦ inl new | inr old ↦ inr (inr old) ]
]

path_from : (p x : Parts) (qs : List Parts) → Member x (with_path p qs) → (x ≡ p) ⊎ Member x qs
unfolding with_path
path_from p x [] m = m
path_from p x (q ∷ qs) m = from_choice (path_order p q) p q x qs m (path_from p x qs)

into_choice : (o : Ordering) (p q x : Parts) (qs : List Parts) → path_order p q ≡ o → (x ≡ p) ⊎ Member x (q ∷ qs) → ((x ≡ p) ⊎ Member x qs → Member x (with_path p qs)) → Member x (elim o [ Less ↦ p ∷ q ∷ qs | Equal ↦ q ∷ qs | Greater ↦ q ∷ with_path p qs ])
into_choice Less p q x qs is m more = m
into_choice Equal p q x qs is m more = elim m [ inl new ↦ inl (new ∙ order_equal p q is) | inr old ↦ old ]
into_choice Greater p q x qs is m more = elim m [
  | inl new ↦ inr (more (inl new))
  | inr old ↦ elim old [ inl here ↦ inl here | inr later ↦ inr (more (inr later)) ]
]

path_into : (p x : Parts) (qs : List Parts) → (x ≡ p) ⊎ Member x qs → Member x (with_path p qs)
unfolding with_path
path_into p x [] m = m
path_into p x (q ∷ qs) m = into_choice (path_order p q) p q x qs refl m (path_into p x qs)

rise_choice : (o : Ordering) (p q : Parts) (qs : List Parts) → path_order p q ≡ o → ((x : Parts) → Member x qs → path_order q x ≡ Less) → PathsRise qs → PathsRise (with_path p qs) → PathsRise (elim o [ Less ↦ p ∷ q ∷ qs | Equal ↦ q ∷ qs | Greater ↦ q ∷ with_path p qs ])
rise_choice Less p q qs is below rise more = (
  λ x m. elim m [
    | inl here ↦ subst (λ (t : Parts). path_order p t ≡ Less) (sym here) is
    | inr later ↦ order_less p q x is (below x later)
  ],
  (below, rise),
)
rise_choice Equal p q qs is below rise more = (below, rise)
rise_choice Greater p q qs is below rise more = (
  λ x m. elim (path_from p x qs m) [
    | inl new ↦ subst (λ (t : Parts). path_order q t ≡ Less) (sym new) (order_back p q is)
    | inr old ↦ below x old
  ],
  more,
)

path_rise : (p : Parts) (qs : List Parts) → PathsRise qs → PathsRise (with_path p qs)
unfolding with_path
path_rise p [] rise = (λ x m. absurd m, tt)
path_rise p (q ∷ qs) rise = rise_choice (path_order p q) p q qs refl rise.0 rise.1 (path_rise p qs rise.1)

paths_choice : (b : Bool) (w : Parts) (ps : List Parts) → PathsRise ps → PathsRise (if b then with_path w ps else ps)
paths_choice true w ps rise = path_rise w ps rise
paths_choice false w ps rise = rise

paths_rise : (p : Parts) (ws : List Written) → PathsRise (paths_beneath p ws)
unfolding paths_beneath
paths_rise p [] = tt
paths_rise p (w ∷ ws) = paths_choice (is_prefix p w.path) w.path (paths_beneath p ws) (paths_rise p ws)

under_choice : (b : Bool) (p w x : Parts) (ps : List Parts) → is_prefix p w ≡ b → Member x (if b then with_path w ps else ps) → (Member x ps → is_prefix p x ≡ true) → is_prefix p x ≡ true
under_choice true p w x ps is m more = elim (path_from w x ps m) [
  | inl new ↦ subst (λ (q : Parts). is_prefix p q ≡ true) (sym new) is
  | inr old ↦ more old
]
under_choice false p w x ps is m more = more m

paths_under : (p x : Parts) (ws : List Written) → Member x (paths_beneath p ws) → is_prefix p x ≡ true
unfolding paths_beneath
paths_under p x [] m = absurd m
paths_under p x (w ∷ ws) m = under_choice (is_prefix p w.path) p w.path x (paths_beneath p ws) refl m (paths_under p x ws)

all_choice : (b : Bool) (p w x : Parts) (ps : List Parts) → is_prefix p w ≡ b → is_prefix p x ≡ true → (x ≡ w) ⊎ Member x ps → Member x (if b then with_path w ps else ps)
all_choice true p w x ps is under m = path_into w x ps m
all_choice false p w x ps is under m = elim m [
  | inl here ↦ let other : is_prefix p x ≡ false = subst (λ (q : Parts). is_prefix p q ≡ false) (sym here) is in cc
  | inr later ↦ later
]

paths_all : (p : Parts) (w : Written) (ws : List Written) → Member w ws → is_prefix p w.path ≡ true → Member w.path (paths_beneath p ws)
unfolding paths_beneath
paths_all p w [] m under = absurd m
paths_all p w (v ∷ ws) m under = all_choice (is_prefix p v.path) p v.path w.path (paths_beneath p ws) refl under (elim m [
  | inl here ↦ inl (ap (λ (u : Written). u.path) here)
  | inr later ↦ inr (paths_all p w ws later under)
])

-- ## values are of paths written

here_choice : (b : Bool) (w v : Written) → (if b then Some w else None) ≡ Some v → (w ≡ v) × (b ≡ true)
here_choice true w v is = (cc, refl)
here_choice false w v is = cc

last_choice : (o : Option Written) (w v : Written) (ws : List Written) (p : Parts) → or_else o (if is_prefix w.path p then Some w else None) ≡ Some v → (o ≡ Some v → Member v ws × (is_prefix v.path p ≡ true)) → Member v (w ∷ ws) × (is_prefix v.path p ≡ true)
last_choice (Some u) w v ws p is more = let r = more is in (inr r.0, r.1)
last_choice None w v ws p is more =
    let r = here_choice (is_prefix w.path p) w v is in
    (inl (sym r.0), subst (λ (u : Written). is_prefix u.path p ≡ true) r.0 r.1)

pub last_member : (ws : List Written) (p : Parts) (v : Written) → last_word ws p ≡ Some v → Member v ws × (is_prefix v.path p ≡ true)
unfolding last_word
last_member [] p v is = cc
last_member (w ∷ ws) p v is = last_choice (last_word ws p) w v ws p is (last_member ws p v)

set_choice : (b : Bool) (w : Written) (v : List ℕ) → (if b then value_set w.op else None) ≡ Some v → b ≡ true
set_choice true w v is = refl
set_choice false w v is = cc

set_written : (ws : List Written) (p : Parts) (o : Option Written) (v : List ℕ) → last_word ws p ≡ o → set_at p o ≡ Some v → (w : Written) × Member w ws × (w.path ≡ p)
set_written ws p None v last is = cc
set_written ws p (Some w) v last is =
    let m = last_member ws p w last in
    (w, m.0, prefix_both w.path p m.1 (set_choice (is_prefix p w.path) w v is))

value_written : (ws : List Written) (p : Parts) (v : List ℕ) → value ws p ≡ Some v → (w : Written) × Member w ws × (w.path ≡ p)
value_written ws p v is = set_written ws p (last_word ws p) v refl is

-- ## the rows

-- the row of a path and a value
abbrev pub row_at : Parts → List ℕ → Row
row_at p v = record { path = p; value = Some v }

row_from : (p : Parts) (o : Option (List ℕ)) (r : Row) → Member r (row_with p o) → (v : List ℕ) × (o ≡ Some v) × (r ≡ row_at p v)
row_from p None r m = absurd m
row_from p (Some v) r m = elim m [ inl is ↦ (v, refl, is) | inr none ↦ absurd none ]

row_of_value : (p : Parts) (o : Option (List ℕ)) (v : List ℕ) → o ≡ Some v → Member (row_at p v) (row_with p o)
row_of_value p o v is = subst (λ (u : Option (List ℕ)). Member (row_at p v) (row_with p u)) (sym is) (inl refl)

-- a row beneath a path has a path beneath it, and the value there
pub record IsRow (ws : List Written) (p : Parts) (r : Row) : Type 0 where
  pub set : List ℕ
  pub has : value ws r.path ≡ Some set
  pub is : r ≡ row_at r.path set
  pub under : is_prefix p r.path ≡ true

pub beneath_from : (ws : List Written) (p : Parts) (r : Row) → Member r (beneath ws p) → IsRow ws p r
unfolding beneath
beneath_from ws p r m =
    let q = flat_member (λ x. row_with x (value ws x)) r (paths_beneath p ws) m in
    let v = row_from q.0 (value ws q.0) r q.2 in
    let path : r.path ≡ q.0 = ap (λ (s : Row). s.path) v.2 in
    record {
      set = v.0;
      has = ap (λ (x : Parts). value ws x) path ∙ v.1;
      is = v.2 ∙ ap (λ (x : Parts). row_at x v.0) (sym path);
      under = subst (λ (x : Parts). is_prefix p x ≡ true) (sym path) (paths_under p q.0 ws q.1);
    }

pub beneath_all : (ws : List Written) (p q : Parts) (v : List ℕ) → is_prefix p q ≡ true → value ws q ≡ Some v → Member (row_at q v) (beneath ws p)
unfolding beneath
beneath_all ws p q v under is =
    let w = value_written ws q v is in
    let m : Member q (paths_beneath p ws) = subst (λ (x : Parts). Member x (paths_beneath p ws)) w.2 (paths_all p w.0 ws w.1 (subst (λ (x : Parts). is_prefix p x ≡ true) (sym w.2) under)) in
    member_flat (λ x. row_with x (value ws x)) q (row_at q v) (paths_beneath p ws) m (row_of_value q (value ws q) v is)

flat_path : (ws : List Written) (ps : List Parts) (s : Row) → Member s (flat_map (λ x. row_with x (value ws x)) ps) → Member s.path ps
flat_path ws ps s m =
    let q = flat_member (λ x. row_with x (value ws x)) s ps m in
    let v = row_from q.0 (value ws q.0) s q.2 in
    subst (λ (x : Parts). Member x ps) (sym (ap (λ (r : Row). r.path) v.2)) q.1

join_rise : (p : Parts) (o : Option (List ℕ)) (rows : List Row) → IsBelow p rows → Rise rows → Rise (row_with p o ++ rows)
join_rise p None rows below rise = rise
join_rise p (Some v) rows below rise = (below, rise)

flat_rise : (ws : List Written) (ps : List Parts) → PathsRise ps → Rise (flat_map (λ x. row_with x (value ws x)) ps)
flat_rise ws [] rise = tt
flat_rise ws (p ∷ ps) rise = join_rise p (value ws p) (flat_map (λ x. row_with x (value ws x)) ps) (λ s m. rise.0 s.path (flat_path ws ps s m)) (flat_rise ws ps rise.1)

pub beneath_rise : (ws : List Written) (p : Parts) → Rise (beneath ws p)
unfolding beneath
beneath_rise ws p = flat_rise ws (paths_beneath p ws) (paths_rise p ws)

-- the same values leave the same rows
rows_in : (ws us : List Written) (p : Parts) (r : Row) → ((q : Parts) → is_prefix p q ≡ true → value ws q ≡ value us q) → Member r (beneath ws p) → Member r (beneath us p)
rows_in ws us p r same m =
    let row = beneath_from ws p r m in
    subst (λ (s : Row). Member s (beneath us p)) (sym row.is) (beneath_all us p r.path row.set row.under (sym (same r.path row.under) ∙ row.has))

pub beneath_same : (ws us : List Written) (p : Parts) → ((q : Parts) → is_prefix p q ≡ true → value ws q ≡ value us q) → beneath ws p ≡ beneath us p
beneath_same ws us p same = rows_same (beneath ws p) (beneath us p) (beneath_rise ws p) (beneath_rise us p) (λ r m. rows_in ws us p r same m) (λ r m. rows_in us ws p r (λ q under. sym (same q under)) m)
