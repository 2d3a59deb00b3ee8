-- Prefixes of paths.
use Rattle.std.proofs.Common.{◌≡◌, ℕ, min, true, leb, List, [], ◌∷◌, ◌++◌, length, drop, refl, sym, ◌∙◌, arith}
use Rattle.std.proofs.lemmas.Bool.Decides.{nat_tests, Decides-and}
use Rattle.std.proofs.lemmas.List.{drop_all, drop_more}
use Rattle.std.proofs.lemmas.Slice.Eq.{bytes_eq-Decides}
use Rattle.std.proofs.Math.Bool.{or_comm}
use Rattle.std.specs.Bool.{Decides}
use Rattle.std.specs.Str.{bytes_eq}
use Rattle.doc_path.specs.Path.{Parts, is_prefix}
use Rattle.doc_path.specs.Laws.{PrefixBegins, IsPrefixReflexive, IsPrefixTransitive, IsRelatedSymmetric, ArePrefixesRelated}

-- where the shorter path has ended
pub is_prefix-drop_end : (p q : Parts) (n : ℕ) → n ≡ min (length p) (length q)
    → is_prefix (drop n p) (drop n q) ≡ leb (length p) (length q)
is_prefix-drop_end p q n e =
    grind (arith, nat_tests, drop_all n p, drop_more q n [], drop_all n q, drop_more p n [])

-- the first parts are the same, and the others of the one are a prefix of the others of the other
pub is_prefix-cons : (a b : List ℕ) (p q : Parts) → Decides (is_prefix (a ∷ p) (b ∷ q)) ((a ≡ b) × (is_prefix p q ≡ true))
is_prefix-cons a b p q = Decides-and (bytes_eq a b) (is_prefix p q) (bytes_eq-Decides a b) (λ h. h, λ h. h)

begins : (p q : Parts) → is_prefix p q ≡ true → (rest : Parts) × (q ≡ p ++ rest)
begins [] q h = (q, refl)
begins (a ∷ p) [] h = cc
begins (a ∷ p) (b ∷ q) h =
    let both = (is_prefix-cons a b p q).0 h in
    let more = begins p q both.1 in
    (more.0, cc (both.0, more.1))

is_prefix-append : (p rest : Parts) → is_prefix p (p ++ rest) ≡ true
is_prefix-append [] rest = refl
is_prefix-append (a ∷ p) rest = (is_prefix-cons a a p (p ++ rest)).1 (refl, is_prefix-append p rest)

pub prefix_begins : PrefixBegins
prefix_begins p q = (begins p q, λ (rest, is). rw is (is_prefix-append p rest))

pub prefix_reflexive : IsPrefixReflexive
prefix_reflexive [] = refl
prefix_reflexive (a ∷ p) = (is_prefix-cons a a p p).1 (refl, prefix_reflexive p)

pub prefix_transitive : IsPrefixTransitive
prefix_transitive [] q r h g = refl
prefix_transitive (a ∷ p) [] r h g = cc
prefix_transitive (a ∷ p) (b ∷ q) [] h g = g
prefix_transitive (a ∷ p) (b ∷ q) (c ∷ r) h g =
    let first = (is_prefix-cons a b p q).0 h in
    let second = (is_prefix-cons b c q r).0 g in
    (is_prefix-cons a c p r).1 (first.0 ∙ second.0, prefix_transitive p q r first.1 second.1)

pub related_symmetric : IsRelatedSymmetric
related_symmetric p q = or_comm (is_prefix p q) (is_prefix q p)

pub prefixes_related : ArePrefixesRelated
prefixes_related [] q r h g = refl
prefixes_related (a ∷ p) [] r h g = refl
prefixes_related (a ∷ p) (b ∷ q) [] h g = cc
prefixes_related (a ∷ p) (b ∷ q) (c ∷ r) h g =
    let first = (is_prefix-cons a c p r).0 h in
    let second = (is_prefix-cons b c q r).0 g in
    let same : a ≡ b = first.0 ∙ sym second.0 in
    rw ((bytes_eq-Decides a b).1 same, (bytes_eq-Decides b a).1 (sym same)) (prefixes_related p q r first.1 second.1)
