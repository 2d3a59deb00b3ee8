-- What holds of prefixes, of relation and of the order of paths.
use Rattle.std.specs.Prelude.{◌≡◌, ◌≢◌, ◌↔◌, ◌++◌, IsTrue}
use Rattle.std.specs.Ordering.{ordering_reverse}
use Rattle.std.specs.declared.cmp.Ordering.TheVariants.{Less, Equal}
use Rattle.doc_path.specs.Path.{Parts, is_prefix, related, path_order}

-- a path begins with its prefixes, and with no other path
abbrev pub PrefixBegins : Type 0
PrefixBegins = (p q : Parts) → IsTrue (is_prefix p q) ↔ ((rest : Parts) × (q ≡ p ++ rest))

abbrev pub IsPrefixReflexive : Type 0
IsPrefixReflexive = (p : Parts) → IsTrue (is_prefix p p)

abbrev pub IsPrefixTransitive : Type 0
IsPrefixTransitive = (p q r : Parts) → IsTrue (is_prefix p q) → IsTrue (is_prefix q r) → IsTrue (is_prefix p r)

abbrev pub IsRelatedSymmetric : Type 0
IsRelatedSymmetric = (p q : Parts) → related p q ≡ related q p

-- two prefixes of one path are related
abbrev pub ArePrefixesRelated : Type 0
ArePrefixesRelated = (p q r : Parts) → IsTrue (is_prefix p r) → IsTrue (is_prefix q r) → IsTrue (related p q)

-- only a path itself is equal to it in the order
abbrev pub IsOrderExact : Type 0
IsOrderExact = (p q : Parts) → (path_order p q ≡ Equal) ↔ (p ≡ q)

abbrev pub IsOrderAntisymmetric : Type 0
IsOrderAntisymmetric = (p q : Parts) → path_order q p ≡ ordering_reverse (path_order p q)

abbrev pub IsOrderTransitive : Type 0
IsOrderTransitive = (p q r : Parts) → path_order p q ≡ Less → path_order q r ≡ Less → path_order p r ≡ Less

-- a prefix comes before the longer paths that begin with it
abbrev pub IsProperPrefixLess : Type 0
IsProperPrefixLess = (p q : Parts) → IsTrue (is_prefix p q) → p ≢ q → path_order p q ≡ Less
