-- The rows beneath a path are in path order.
use Rattle.std.proofs.Common.{◌≡◌, ℕ, Bool, true, false, List, [], ◌∷◌, ◌++◌, Option, Some, None, if◌then◌else◌, refl, sym, ap, ◌∙◌, arith}
use Rattle.std.specs.Prelude.{flat_map}
use Rattle.std.proofs.lemmas.Bool.Decides.{nat_tests}
use Rattle.std.proofs.lemmas.Cmp.{nat_list_cmp_total, lists_total}
use Rattle.std.proofs.lemmas.Map.Lookups.{exact_bytes}
use Rattle.std.specs.Cmp.{IsTotalOrder}
use Rattle.std.specs.Cmp.Lexicographic.{slice_cmp}
use Rattle.std.specs.FinMap.{slice_cmp-IsAntisymmetric}
use Rattle.std.specs.Ordering.{nat_cmp, ordering_reverse}
use Rattle.std.specs.declared.cmp.Ordering.{Ordering}
use Rattle.std.specs.declared.cmp.Ordering.TheVariants.{Less, Equal, Greater}
use Rattle.doc_path.specs.Path.{Parts, is_prefix, byte_order, path_order}
use Rattle.txn_data.specs.declared.row.Row.{Row}
use Rattle.txn_data.specs.declared.written.Written.{Written}
use Rattle.txn_types.specs.Writes.{with_path, paths_beneath, row_with, value, beneath}
use Rattle.own_writes.specs.Merging.{IsBefore, Rise}

-- ## the order of paths

bytes_are : (xs ys : List ℕ) → byte_order xs ys ≡ slice_cmp nat_cmp xs ys
bytes_are [] [] = refl
bytes_are [] (y ∷ ys) = refl
bytes_are (x ∷ xs) [] = refl
bytes_are (x ∷ xs) (y ∷ ys) = grind (arith, nat_tests, bytes_are xs ys)

paths_are : (p q : Parts) → path_order p q ≡ slice_cmp (slice_cmp nat_cmp) p q
paths_are [] [] = refl
paths_are [] (b ∷ q) = refl
paths_are (a ∷ p) [] = refl
paths_are (a ∷ p) (b ∷ q) = grind (arith, bytes_are a b, paths_are p q)

total : IsTotalOrder (slice_cmp (slice_cmp nat_cmp))
total = lists_total nat_list_cmp_total

pub order_equal : (p q : Parts) → path_order p q ≡ Equal → p ≡ q
order_equal p q equal = slice_cmp-IsAntisymmetric exact_bytes p q (sym (paths_are p q) ∙ equal)

pub order_turned : (p q : Parts) → path_order q p ≡ ordering_reverse (path_order p q)
order_turned p q = rw (paths_are q p, paths_are p q) (total.antisymm q p)

pub order_less : (p q r : Parts) → path_order p q ≡ Less → path_order q r ≡ Less → path_order p r ≡ Less
order_less p q r before after = paths_are p r ∙ total.trans p q r (sym (paths_are p q) ∙ before) (sym (paths_are q r) ∙ after)

-- ## paths in order

abbrev PathsAfter : Parts → List Parts → Type 0
PathsAfter p [] = Unit {0}
PathsAfter p (q ∷ qs) = (path_order p q ≡ Less) × PathsAfter p qs

abbrev PathsRise : List Parts → Type 0
PathsRise [] = Unit {0}
PathsRise (p ∷ ps) = PathsAfter p ps × PathsRise ps

after_all : (p q : Parts) (qs : List Parts) → path_order p q ≡ Less → PathsAfter q qs → PathsAfter p qs
after_all p q [] h a = tt
after_all p q (r ∷ qs) h a = (order_less p q r h a.0, after_all p q qs h a.1)

after_choice : (o : Ordering) (r p q : Parts) (qs : List Parts) → path_order r p ≡ Less → PathsAfter r (q ∷ qs) → PathsAfter r (with_path p qs)
    → PathsAfter r (elim o [ Less ↦ p ∷ q ∷ qs | Equal ↦ q ∷ qs | Greater ↦ q ∷ with_path p qs ])
after_choice Less r p q qs h a more = (h, a)
after_choice Equal r p q qs h a more = a
after_choice Greater r p q qs h a more = (a.0, more)

after_with : (r p : Parts) (qs : List Parts) → path_order r p ≡ Less → PathsAfter r qs → PathsAfter r (with_path p qs)
unfolding with_path
after_with r p [] h a = (h, tt)
after_with r p (q ∷ qs) h a = after_choice (path_order p q) r p q qs h a (after_with r p qs h a.1)

rise_choice : (o : Ordering) (p q : Parts) (qs : List Parts) → path_order p q ≡ o → PathsRise (q ∷ qs) → PathsRise (with_path p qs)
    → PathsRise (elim o [ Less ↦ p ∷ q ∷ qs | Equal ↦ q ∷ qs | Greater ↦ q ∷ with_path p qs ])
rise_choice Less p q qs is rise more = ((is, after_all p q qs is rise.0), rise)
rise_choice Equal p q qs is rise more = rise
rise_choice Greater p q qs is rise more = (after_with q p qs (order_turned p q ∙ ap ordering_reverse is) rise.0, more)

path_rise : (p : Parts) (qs : List Parts) → PathsRise qs → PathsRise (with_path p qs)
unfolding with_path
path_rise p [] rise = (tt, tt)
path_rise p (q ∷ qs) rise = rise_choice (path_order p q) p q qs refl rise (path_rise p qs rise.1)

paths_choice : (b : Bool) (w : Parts) (ps : List Parts) → PathsRise ps → PathsRise (if b then with_path w ps else ps)
paths_choice true w ps rise = path_rise w ps rise
paths_choice false w ps rise = rise

paths_rise : (p : Parts) (ws : List Written) → PathsRise (paths_beneath p ws)
unfolding paths_beneath
paths_rise p [] = tt
paths_rise p (w ∷ ws) = paths_choice (is_prefix p w.path) w.path (paths_beneath p ws) (paths_rise p ws)

-- ## rows in order

before_join : (p q : Parts) (v : Option (List ℕ)) (rows : List Row) → path_order p q ≡ Less → IsBefore p rows → IsBefore p (row_with q v ++ rows)
before_join p q None rows h b = b
before_join p q (Some v) rows h b = (h, b)

before_flat : (ws : List Written) (p : Parts) (qs : List Parts) → PathsAfter p qs → IsBefore p (flat_map (λ q. row_with q (value ws q)) qs)
before_flat ws p [] a = tt
before_flat ws p (q ∷ qs) a = before_join p q (value ws q) (flat_map (λ q. row_with q (value ws q)) qs) a.0 (before_flat ws p qs a.1)

rise_join : (p : Parts) (v : Option (List ℕ)) (rows : List Row) → IsBefore p rows → Rise rows → Rise (row_with p v ++ rows)
rise_join p None rows b rise = rise
rise_join p (Some v) rows b rise = (b, rise)

flat_rise : (ws : List Written) (ps : List Parts) → PathsRise ps → Rise (flat_map (λ q. row_with q (value ws q)) ps)
flat_rise ws [] rise = tt
flat_rise ws (p ∷ ps) rise = rise_join p (value ws p) (flat_map (λ q. row_with q (value ws q)) ps) (before_flat ws p ps rise.0) (flat_rise ws ps rise.1)

pub beneath_rise : (ws : List Written) (p : Parts) → Rise (beneath ws p)
unfolding beneath
beneath_rise ws p = flat_rise ws (paths_beneath p ws) (paths_rise p ws)
