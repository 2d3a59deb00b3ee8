-- The order of document keys.
use Rattle.std.specs.Prelude.{List, [], ◌∷◌}
use Rattle.std.specs.Cmp.Lexicographic.{slice_cmp}
use Rattle.std.specs.Ordering.{nat_cmp, ordering_then, ordering_reverse}
use Rattle.std.specs.declared.cmp.Ordering.{Ordering}
use Rattle.std.specs.declared.cmp.Ordering.TheVariants.{Less, Greater}
use Rattle.doc_value.specs.declared.primitive.Primitive.{Primitive}
use Rattle.doc_value.specs.declared.primitive.Primitive.TheVariants.{False}
use Rattle.doc_value.specs.Order.{value_order}
use Rattle.doc_key.specs.declared.doc_key.DocKey.{DocKey}
use Rattle.doc_key.specs.Hash.{hash_of}
use Rattle.doc_key.specs.Spelling.{columns}

-- columns one by one, where fewer columns come before more that begin with them
abbrev pub columns_order : List Primitive → List Primitive → Ordering
columns_order p q = slice_cmp value_order p q

-- hashed columns by their hash, and then one by one
abbrev pub hashed_order : List Primitive → List Primitive → Ordering
hashed_order p q = ordering_then (nat_cmp (hash_of (columns p)) (hash_of (columns q))) (columns_order p q)

-- A key of these range columns alone, against a key with hashed columns: it comes first where it begins with a false.
-- It has a column at least, as each key that has a spelling.
abbrev pub plain_order : List Primitive → Ordering
plain_order (False ∷ others) = Less
plain_order range = Greater

-- the hashed and the range columns of one key, against those of another
abbrev pub groups_order : List Primitive → List Primitive → List Primitive → List Primitive → Ordering
groups_order [] p-range [] q-range = columns_order p-range q-range
groups_order [] p-range (d ∷ ds) q-range = plain_order p-range
groups_order (c ∷ cs) p-range [] q-range = ordering_reverse (plain_order q-range)
groups_order (c ∷ cs) p-range (d ∷ ds) q-range = ordering_then (hashed_order (c ∷ cs) (d ∷ ds)) (columns_order p-range q-range)

abbrev pub key_order : DocKey → DocKey → Ordering
key_order p q = groups_order p.hashed p.range q.hashed q.range
