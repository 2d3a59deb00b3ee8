-- The order of spellings is the order of the store.
use Rattle.std.proofs.Common.{◌≡◌, ℕ, ◌^◌, ◌<◌, ◌⊎◌, ◌↔◌, List, [], ◌∷◌, ◌++◌, refl, sym, ap, ◌∙◌, append_assoc, arith, inl, inr}
use Rattle.std.specs.List.{concat, AllByRecursion}
use Rattle.std.specs.Int.{w32, w64, bit_not}
use Rattle.std.specs.Cmp.{nat_cmp_is}
use Rattle.std.specs.Ordering.{nat_cmp, ordering_then}
use Rattle.std.specs.declared.cmp.Ordering.{Ordering}
use Rattle.std.specs.declared.cmp.Ordering.TheVariants.{Less, Equal, Greater}
use Rattle.std.proofs.lemmas.Cmp.{ranked}
use Rattle.doc_path.specs.Path.{Parts, byte_order, path_order, order_then}
use Rattle.doc_path.proofs.Order.{byte_order-slice_cmp, order_exact}
use Rattle.doc_value.proofs.Order.{bytes_cmp, cmp_less, cmp_greater, cmp_equal, then_assoc, alone, IsApart, order_behind, order_of_64, order_of_32}
use Rattle.doc_value.specs.Spelling.{spelling as value_spelling}
use Rattle.doc_value.proofs.Values as of_value
use Rattle.doc_key.specs.Spelling.{spelling as key_spelling}
use Rattle.doc_key.proofs.Keys as of_key
use Rattle.sub_doc_key.specs.declared.sub_doc_key.SubDocKey.{SubDocKey}
use Rattle.sub_doc_key.specs.Order.{store_order, IsNewer}
use Rattle.sub_doc_key.specs.Spelling.{downward, suffix, spelling, IsSpelledKey, IsSpelledValue, IsSpelledPath, HasSpelling}
use Rattle.sub_doc_key.proofs.Paths.{BeginsSubkey, subkey_begins}
use Rattle.sub_doc_key.proofs.Versions.{below64, below32}

then_is : (a b : Ordering) → order_then a b ≡ ordering_then a b
then_is Less b = refl
then_is Equal b = refl
then_is Greater b = refl

-- ---- numbers whose bits are turned round

turned64 : (o : Ordering) (m n : ℕ) → m < 2 ^ 64 → n < 2 ^ 64 → o ≡ nat_cmp n m → o ≡ nat_cmp (bit_not w64 m) (bit_not w64 n)
turned64 Less m n m_lt n_lt is = let lt : n < m = ranked n m Less is in nat_cmp_is (bit_not w64 m) (bit_not w64 n) Less (omega arith)
turned64 Equal m n m_lt n_lt is = let same : n ≡ m = ranked n m Equal is in nat_cmp_is (bit_not w64 m) (bit_not w64 n) Equal (omega arith)
turned64 Greater m n m_lt n_lt is = let gt : m < n = ranked n m Greater is in nat_cmp_is (bit_not w64 m) (bit_not w64 n) Greater (omega arith)

turned32 : (o : Ordering) (m n : ℕ) → m < 2 ^ 32 → n < 2 ^ 32 → o ≡ nat_cmp n m → o ≡ nat_cmp (bit_not w32 m) (bit_not w32 n)
turned32 Less m n m_lt n_lt is = let lt : n < m = ranked n m Less is in nat_cmp_is (bit_not w32 m) (bit_not w32 n) Less (omega arith)
turned32 Equal m n m_lt n_lt is = let same : n ≡ m = ranked n m Equal is in nat_cmp_is (bit_not w32 m) (bit_not w32 n) Equal (omega arith)
turned32 Greater m n m_lt n_lt is = let gt : m < n = ranked n m Greater is in nat_cmp_is (bit_not w32 m) (bit_not w32 n) Greater (omega arith)

downward64 : (m n : ℕ) (x y : List ℕ) → m < 2 ^ 64 → n < 2 ^ 64 → bytes_cmp (downward w64 m ++ x) (downward w64 n ++ y) ≡ ordering_then (nat_cmp n m) (bytes_cmp x y)
downward64 m n x y m_lt n_lt =
    order_of_64 (bit_not w64 m) (bit_not w64 n) x y (below64 m) (below64 n)
    ∙ ap (λ (o : Ordering). ordering_then o (bytes_cmp x y)) (sym (turned64 (nat_cmp n m) m n m_lt n_lt refl))

downward32 : (m n : ℕ) → m < 2 ^ 32 → n < 2 ^ 32 → bytes_cmp (downward w32 m) (downward w32 n) ≡ nat_cmp n m
downward32 m n m_lt n_lt =
    order_of_32 (bit_not w32 m) (bit_not w32 n) [] [] (below32 m) (below32 n)
    ∙ alone (nat_cmp (bit_not w32 m) (bit_not w32 n))
    ∙ sym (turned32 (nat_cmp n m) m n m_lt n_lt refl)

version_order : (at-p number-p at-q number-q : ℕ) → at-p < 2 ^ 64 → number-p < 2 ^ 32 → at-q < 2 ^ 64 → number-q < 2 ^ 32
    → bytes_cmp (suffix at-p number-p) (suffix at-q number-q) ≡ ordering_then (nat_cmp at-q at-p) (nat_cmp number-q number-p)
version_order at-p number-p at-q number-q ap_lt np_lt aq_lt nq_lt =
    downward64 at-p at-q (downward w32 number-p) (downward w32 number-q) ap_lt aq_lt
    ∙ ap (ordering_then (nat_cmp at-q at-p)) (downward32 number-p number-q np_lt nq_lt)

-- ---- paths

keys_apart : (a b : List ℕ) → IsSpelledKey a → IsSpelledKey b → IsApart a b
keys_apart a b a_is b_is x y e =
    let spelled = ap (λ (t : List ℕ). t ++ x) (sym a_is.is) ∙ e ∙ ap (λ (t : List ℕ). t ++ y) b_is.is in
    let same = of_key.no_spelling_begins a_is.key b_is.key x y a_is.in_range b_is.in_range a_is.has b_is.has spelled in
    a_is.is ∙ ap key_spelling same.0 ∙ sym b_is.is

values_apart : (a b : List ℕ) → IsSpelledValue a → IsSpelledValue b → IsApart a b
values_apart a b a_is b_is x y e =
    let spelled = ap (λ (t : List ℕ). t ++ x) (sym a_is.is) ∙ e ∙ ap (λ (t : List ℕ). t ++ y) b_is.is in
    let same = of_value.no_spelling_begins a_is.value b_is.value x y a_is.in_range b_is.in_range a_is.has b_is.has spelled in
    a_is.is ∙ ap value_spelling same.0 ∙ sym b_is.is

-- the tag of the suffix comes before that of each subkey
end_first : (part rest x : List ℕ) → BeginsSubkey part → bytes_cmp (0x23 ∷ x) (part ++ rest) ≡ Less
end_first part rest x begins =
    ap (λ (t : List ℕ). bytes_cmp (0x23 ∷ x) (t ++ rest)) begins.is
    ∙ ap (λ (o : Ordering). ordering_then o (bytes_cmp x (begins.others ++ rest))) (cmp_less 0x23 begins.tag begins.above)

end_last : (part rest x : List ℕ) → BeginsSubkey part → bytes_cmp (part ++ rest) (0x23 ∷ x) ≡ Greater
end_last part rest x begins =
    ap (λ (t : List ℕ). bytes_cmp (t ++ rest) (0x23 ∷ x)) begins.is
    ∙ ap (λ (o : Ordering). ordering_then o (bytes_cmp (begins.others ++ rest) x)) (cmp_greater begins.tag 0x23 begins.above)

-- a first part, and what stands behind it
part_then : (a b x y : List ℕ) (later : Ordering) (p q : Parts) → IsApart a b → bytes_cmp x y ≡ ordering_then (path_order p q) later
    → bytes_cmp (a ++ x) (b ++ y) ≡ ordering_then (path_order (a ∷ p) (b ∷ q)) later
part_then a b x y later p q apart behind =
    order_behind a b x y apart
    ∙ ap (ordering_then (bytes_cmp a b)) behind
    ∙ sym (then_assoc (bytes_cmp a b) (path_order p q) later)
    ∙ ap (λ (o : Ordering). ordering_then (ordering_then o (path_order p q)) later) (sym (byte_order-slice_cmp a b))
    ∙ ap (λ (o : Ordering). ordering_then o later) (sym (then_is (byte_order a b) (path_order p q)))

subkeys_order : (p q : Parts) (x y : List ℕ) → AllByRecursion IsSpelledValue p → AllByRecursion IsSpelledValue q
    → bytes_cmp (concat p ++ 0x23 ∷ x) (concat q ++ 0x23 ∷ y) ≡ ordering_then (path_order p q) (bytes_cmp x y)
subkeys_order [] [] x y p_is q_is = refl
subkeys_order [] (b ∷ q) x y p_is q_is =
    ap (bytes_cmp (0x23 ∷ x)) (append_assoc b (concat q) (0x23 ∷ y)) ∙ end_first b (concat q ++ 0x23 ∷ y) x (subkey_begins b q_is.0)
subkeys_order (a ∷ p) [] x y p_is q_is =
    ap (λ (t : List ℕ). bytes_cmp t (0x23 ∷ y)) (append_assoc a (concat p) (0x23 ∷ x)) ∙ end_last a (concat p ++ 0x23 ∷ x) y (subkey_begins a p_is.0)
subkeys_order (a ∷ p) (b ∷ q) x y p_is q_is =
    ap (bytes_cmp (concat (a ∷ p) ++ 0x23 ∷ x)) (append_assoc b (concat q) (0x23 ∷ y))
    ∙ ap (λ (t : List ℕ). bytes_cmp t (b ++ (concat q ++ 0x23 ∷ y))) (append_assoc a (concat p) (0x23 ∷ x))
    ∙ part_then a b (concat p ++ 0x23 ∷ x) (concat q ++ 0x23 ∷ y) (bytes_cmp x y) p q (values_apart a b p_is.0 q_is.0) (subkeys_order p q x y p_is.1 q_is.1)

paths_order : (p q : Parts) (x y : List ℕ) → IsSpelledPath p → IsSpelledPath q
    → bytes_cmp (concat p ++ 0x23 ∷ x) (concat q ++ 0x23 ∷ y) ≡ ordering_then (path_order p q) (bytes_cmp x y)
paths_order [] q x y p_is q_is = absurd p_is
paths_order (a ∷ p) [] x y p_is q_is = absurd q_is
paths_order (a ∷ p) (b ∷ q) x y p_is q_is =
    ap (bytes_cmp (concat (a ∷ p) ++ 0x23 ∷ x)) (append_assoc b (concat q) (0x23 ∷ y))
    ∙ ap (λ (t : List ℕ). bytes_cmp t (b ++ (concat q ++ 0x23 ∷ y))) (append_assoc a (concat p) (0x23 ∷ x))
    ∙ part_then a b (concat p ++ 0x23 ∷ x) (concat q ++ 0x23 ∷ y) (bytes_cmp x y) p q (keys_apart a b p_is.0 q_is.0) (subkeys_order p q x y p_is.1 q_is.1)

-- ---- versioned keys

pub keys_in_order : (p q : SubDocKey) → HasSpelling p → HasSpelling q → byte_order (spelling p) (spelling q) ≡ store_order p q
keys_in_order p q p_has q_has =
    let versions : Ordering = ordering_then (nat_cmp q.at p.at) (nat_cmp q.number p.number) in
    byte_order-slice_cmp (spelling p) (spelling q)
    ∙ paths_order p.path q.path (downward w64 p.at ++ downward w32 p.number) (downward w64 q.at ++ downward w32 q.number) p_has.path q_has.path
    ∙ ap (ordering_then (path_order p.path q.path)) (version_order p.at p.number q.at q.number p_has.at p_has.number q_has.at q_has.number)
    ∙ sym (then_is (path_order p.path q.path) versions)
    ∙ ap (order_then (path_order p.path q.path)) (sym (then_is (nat_cmp q.at p.at) (nat_cmp q.number p.number)))

-- ---- in words

then_less : (a b : Ordering) → order_then a b ≡ Less → (a ≡ Less) ⊎ ((a ≡ Equal) × (b ≡ Less))
then_less Less b e = inl refl
then_less Equal b e = inr (refl, e)
then_less Greater b e = absurd cc

is_newer : (p q : SubDocKey) → order_then (nat_cmp q.at p.at) (nat_cmp q.number p.number) ≡ Less → IsNewer p q
is_newer p q e =
    elim (then_less (nat_cmp q.at p.at) (nat_cmp q.number p.number) e) [
      | inl a ↦ inl (ranked q.at p.at Less (sym a))
      | inr a ↦ inr (sym (ranked q.at p.at Equal (sym a.0)), ranked q.number p.number Less (sym a.1))
    ]

newer_first : (p q : SubDocKey) → IsNewer p q → order_then (nat_cmp q.at p.at) (nat_cmp q.number p.number) ≡ Less
newer_first p q (inl later) = ap (λ (o : Ordering). order_then o (nat_cmp q.number p.number)) (cmp_less q.at p.at later)
newer_first p q (inr same) =
    ap (λ (o : Ordering). order_then o (nat_cmp q.number p.number)) (cmp_equal q.at p.at (sym same.0)) ∙ cmp_less q.number p.number same.1

abbrev ComesFirst : SubDocKey → SubDocKey → Type 0
ComesFirst p q = (path_order p.path q.path ≡ Less) ⊎ ((p.path ≡ q.path) × IsNewer p q)

comes_first : (p q : SubDocKey) → store_order p q ≡ Less → ComesFirst p q
comes_first p q e =
    elim (then_less (path_order p.path q.path) (order_then (nat_cmp q.at p.at) (nat_cmp q.number p.number)) e) [
      | inl a ↦ inl a
      | inr a ↦ inr ((order_exact p.path q.path).0 a.0, is_newer p q a.1)
    ]

first_is_less : (p q : SubDocKey) → ComesFirst p q → store_order p q ≡ Less
first_is_less p q (inl path) = ap (λ (o : Ordering). order_then o (order_then (nat_cmp q.at p.at) (nat_cmp q.number p.number))) path
first_is_less p q (inr same) =
    ap (λ (o : Ordering). order_then o (order_then (nat_cmp q.at p.at) (nat_cmp q.number p.number))) ((order_exact p.path q.path).1 same.0) ∙ newer_first p q same.1

pub lesser_comes_first : (p q : SubDocKey) → HasSpelling p → HasSpelling q → (byte_order (spelling p) (spelling q) ≡ Less) ↔ ComesFirst p q
lesser_comes_first p q p_has q_has = (
  λ e. comes_first p q (sym (keys_in_order p q p_has q_has) ∙ e),
  λ first. keys_in_order p q p_has q_has ∙ first_is_less p q first,
)
