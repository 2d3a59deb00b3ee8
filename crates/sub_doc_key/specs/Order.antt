-- The order of the store.
use Rattle.std.specs.Prelude.{◌≡◌, ◌<◌, ◌⊎◌}
use Rattle.std.specs.Ordering.{nat_cmp}
use Rattle.std.specs.declared.cmp.Ordering.{Ordering}
use Rattle.doc_path.specs.Path.{order_then, path_order}
use Rattle.sub_doc_key.specs.declared.sub_doc_key.SubDocKey.{SubDocKey}

-- by path; of one path the greater time first; of one time the greater write number first
abbrev pub store_order : SubDocKey → SubDocKey → Ordering
store_order p q = order_then (path_order p.path q.path) (order_then (nat_cmp q.at p.at) (nat_cmp q.number p.number))

-- the first has the greater time, or the same time and the greater write number
abbrev pub IsNewer : SubDocKey → SubDocKey → Type 0
IsNewer p q = (q.at < p.at) ⊎ ((p.at ≡ q.at) × (q.number < p.number))
