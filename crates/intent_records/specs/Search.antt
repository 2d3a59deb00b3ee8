-- What a search for records on related paths finds.
use Rattle.std.specs.Prelude.{ℕ, Bool, true, false, ◌&&◌, ◌||◌, not, List, [], ◌∷◌, ◌++◌, Option, Some, None, nat_eq, nat_lt, nat_le, length, filter}
use Rattle.std.specs.List.{list_any}
use Rattle.std.specs.Ordering.{is_le, is_gt}
use Rattle.doc_path.specs.Path.{Parts, is_prefix, related, path_order}
use Rattle.txn_types.specs.Tablet.{Intent, is_of, is_own, txn_of}
use Rattle.conflict_matrix.specs.Conflict.{intents_of, any_meet}
use Rattle.intent_records.specs.declared.path_range.PathRange.{PathRange}
use Rattle.intent_records.specs.declared.primary_record.PrimaryRecord.{PrimaryRecord}
use Rattle.intent_records.specs.declared.record_key.RecordKey.{RecordKey}

-- the provisional writes of other transactions on a path related to one of these, up to a time
abbrev pub others_until : Option ℕ → List Parts → ℕ → List Intent → List Intent
others_until own_txn paths until ps =
    filter (λ (p : Intent). not (is_own own_txn (txn_of p)) && nat_le p.wrote until && list_any (related p.path) paths) ps

-- the provisional writes of other transactions whose intents conflict with those of a write at this path
abbrev pub others_meeting : ℕ → Parts → List Intent → List Intent
others_meeting x path ps =
    filter (λ (p : Intent). not (is_of x p) && any_meet (intents_of p.path) (intents_of path)) ps

abbrev pub in_time : Option ℕ → ℕ → Bool
in_time None wrote = true
in_time (Some until) wrote = nat_le wrote until

-- a record of another transaction, up to a time if there is one
abbrev pub asks : Option ℕ → Option ℕ → ℕ → ℕ → Bool
asks own_txn until x wrote = not (is_own own_txn x) && in_time until wrote

-- a record tells all that the records of its transaction at its path can tell: it is left aside with them, or told of
abbrev pub settles : Option ℕ → Option ℕ → ℕ → ℕ → Bool
settles own_txn until x wrote = is_own own_txn x || in_time until wrote

-- the transaction has a record on such a path, of those that are asked for
abbrev pub hit : (Parts → Bool) → Option ℕ → Option ℕ → ℕ → List (RecordKey × PrimaryRecord) → Bool
hit on own_txn until x es =
    list_any (λ (e : RecordKey × PrimaryRecord). (on e.0.path && asks own_txn until e.0.txn e.1.wrote) && nat_eq e.0.txn x) es

-- from the first path on, and before the end
abbrev pub between : Parts → Parts → Parts → Bool
between first end path = is_le (path_order first path) && is_gt (path_order end path)

abbrev pub some_parts : Parts → Bool
some_parts [] = false
some_parts (a ∷ p) = true

-- a path with parts that is related to the first one
abbrev pub near : Parts → Parts → Bool
near path q = some_parts q && related q path

abbrev pub near_any : List Parts → Parts → Bool
near_any paths q = list_any (λ path. near path q) paths

-- a path with parts that the first one lies beneath, with fewer parts than i
abbrev pub above_to : ℕ → Parts → Parts → Bool
above_to i path q = some_parts q && is_prefix q path && nat_lt (length q) i

-- a path in one of these ranges
abbrev pub in_any : List PathRange → Parts → Bool
in_any ranges q = list_any (λ (r : PathRange). between r.first r.end q) ranges

-- the first path after all that begin with this one
abbrev pub next_after : Parts → Parts
next_after [] = []
next_after (a ∷ []) = (a ++ 0 ∷ []) ∷ []
next_after (a ∷ b ∷ p) = a ∷ next_after (b ∷ p)
