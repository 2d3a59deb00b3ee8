-- The order of the keys of primary records.
use Rattle.std.specs.Ordering.{ordering_then, nat_cmp}
use Rattle.std.specs.declared.cmp.Ordering.{Ordering}
use Rattle.doc_path.specs.Path.{path_order}
use Rattle.intent_records.specs.declared.record_key.RecordKey.{RecordKey}

-- by path, then by transaction, and then in the order of adding
abbrev pub key_order : RecordKey → RecordKey → Ordering
key_order a b =
    ordering_then (path_order a.path b.path) (ordering_then (nat_cmp a.txn b.txn) (nat_cmp a.position b.position))
