-- The order of the keys of primary records is total, and tells all keys apart.
use Rattle.std.proofs.Common.{◌≡◌, ℕ, List, [], ◌∷◌, refl, sym, ◌∙◌, ap, arith}
use Rattle.std.proofs.lemmas.Bool.Decides.{nat_tests}
use Rattle.std.proofs.lemmas.Cmp.{on_total, then_total, nat_cmp_total, nat_list_cmp_total, lists_total, eq_by_cmp_equiv}
use Rattle.std.proofs.lemmas.Map.Lookups.{exact_bytes, exact_unsigned}
use Rattle.std.specs.Cmp.{IsTotalOrder, IsEquivalence}
use Rattle.std.specs.Cmp.Lexicographic.{slice_cmp}
use Rattle.std.specs.FinMap.{slice_cmp-IsAntisymmetric}
use Rattle.std.specs.Ordering.{nat_cmp, ordering_reverse, eq_by_cmp, ordering_then}
use Rattle.std.specs.declared.cmp.Ordering.{Ordering}
use Rattle.std.specs.declared.cmp.Ordering.TheVariants.{Less, Equal, Greater}
use Rattle.doc_path.specs.Path.{Parts, byte_order, path_order}
use Rattle.intent_records.specs.declared.record_key.RecordKey.{RecordKey}
use Rattle.intent_records.specs.Keys.{key_order}

pub byte_order-slice_cmp : (xs ys : List ℕ) → byte_order xs ys ≡ slice_cmp nat_cmp xs ys
byte_order-slice_cmp [] [] = refl
byte_order-slice_cmp [] (y ∷ ys) = refl
byte_order-slice_cmp (x ∷ xs) [] = refl
byte_order-slice_cmp (x ∷ xs) (y ∷ ys) = grind (arith, nat_tests, byte_order-slice_cmp xs ys)

path_order-slice_cmp : (p q : Parts) → path_order p q ≡ slice_cmp (slice_cmp nat_cmp) p q
path_order-slice_cmp [] [] = refl
path_order-slice_cmp [] (b ∷ q) = refl
path_order-slice_cmp (a ∷ p) [] = refl
path_order-slice_cmp (a ∷ p) (b ∷ q) = grind (arith, byte_order-slice_cmp a b, path_order-slice_cmp p q)

lists_order : IsTotalOrder (slice_cmp (slice_cmp nat_cmp))
lists_order = lists_total nat_list_cmp_total

pub path_order_total : IsTotalOrder path_order
path_order_total = record {
  antisymm = λ p q. path_order-slice_cmp p q ∙ lists_order.antisymm p q ∙ ap ordering_reverse (sym (path_order-slice_cmp q p));
  trans = λ p q r h g. path_order-slice_cmp p r ∙ lists_order.trans p q r (sym (path_order-slice_cmp p q) ∙ h) (sym (path_order-slice_cmp q r) ∙ g);
  congr = λ p q r h. path_order-slice_cmp p r ∙ lists_order.congr p q r (sym (path_order-slice_cmp p q) ∙ h) ∙ sym (path_order-slice_cmp q r);
}

pub path_order_exact : (p q : Parts) → path_order p q ≡ Equal → p ≡ q
path_order_exact p q h = slice_cmp-IsAntisymmetric exact_bytes p q (sym (path_order-slice_cmp p q) ∙ h)

pub key_order_total : IsTotalOrder key_order
key_order_total =
    then_total (on_total (λ (k : RecordKey). k.path) path_order_total)
    (then_total (on_total (λ (k : RecordKey). k.txn) nat_cmp_total) (on_total (λ (k : RecordKey). k.position) nat_cmp_total))

pub key_order_equiv : IsEquivalence (eq_by_cmp key_order)
key_order_equiv = eq_by_cmp_equiv key_order_total

then_equal : (o r : Ordering) → ordering_then o r ≡ Equal → (o ≡ Equal) × (r ≡ Equal)
then_equal Less r h = cc
then_equal Equal r h = (refl, h)
then_equal Greater r h = cc

pub key_order_exact : (a b : RecordKey) → key_order a b ≡ Equal → a ≡ b
key_order_exact a b h =
    let first = then_equal (path_order a.path b.path) (ordering_then (nat_cmp a.txn b.txn) (nat_cmp a.position b.position)) h in
    let second = then_equal (nat_cmp a.txn b.txn) (nat_cmp a.position b.position) first.1 in
    let path = path_order_exact a.path b.path first.0 in
    let txn = exact_unsigned a.txn b.txn second.0 in
    let position = exact_unsigned a.position b.position second.1 in
    λ i. record { path = path i; txn = txn i; position = position i }
