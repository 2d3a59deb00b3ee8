-- A table's members after a write, and what its text reads as.
use Rattle.std.proofs.Common.{◌≡◌, ◌∙◌, ◌≤◌, ◌∷◌, ◌++◌, refl, ℕ, List, [], String, Global, string_bytes, Ordering, Less, Equal, Greater, pos, arith, length, Some, lit≤}
use Rattle.std.proofs.lemmas.Bool.{le-leb, eq-eqb}
use Rattle.std.specs.List.{All}
use Rattle.std.specs.Prelude.{Ok}
use Rattle.std.specs.BTreeMap.{insert_entry}
use Rattle.std.specs.Ordering.{match_ordering}
use Rattle.std.specs.String.{string_cmp}
use Rattle.std.proofs.lemmas.List.Elements.{All-drop, All-get_or}
use Rattle.toml.specs.Data.{integer, push_item, items_depth, members_depth}
use Rattle.toml.proofs.Views.{items_view-push, view-Array}
use Rattle.toml.specs.View.{members_view, view}
use Rattle.toml.specs.declared.value.Value.{Value}
use Rattle.cluster_config.specs.Head.{IsSpelled, head_of_table, largest, schedule_named, whole_numbers}
use Rattle.txn_data.specs.declared.config.Config.{Config}
use Rattle.txn_data.specs.declared.schedule.Schedule.{Schedule}
use Rattle.txn_data.specs.declared.schedule.Schedule.TheVariants.{Serial, Go, Drawn}
use Rattle.cluster_config.specs.Table.{integers, put, schedule_text, table_of}

abbrev pub Entry : Type 0
Entry = String Global × Value

matched : (o : Ordering) (a b c : List Entry) → members_view (match_ordering o a b c) ≡ match_ordering o (members_view a) (members_view b) (members_view c)
matched Less a b c = refl
matched Equal a b c = refl
matched Greater a b c = refl

pub put_entry : (es : List Entry) (k : String Global) (v : Value) → members_view (insert_entry string_cmp es k v) ≡ put (string_bytes k) (view v) (members_view es)
put_entry [] k v = refl
put_entry (e ∷ es) k v = matched (string_cmp k e.0) _ _ _ ∙ rw (put_entry es k v)

pub integers-push : (ns : List ℕ) (n : ℕ) → integers (ns ++ n ∷ []) ≡ push_item (integers ns) (integer (pos n))
integers-push [] n = refl
integers-push (m ∷ ns) n = rw (integers-push ns n)

pub whole_numbers-integers : (ns : List ℕ) → All (λ n. n ≤ largest) ns → whole_numbers (integers ns) ≡ Some ns
whole_numbers-integers [] h = refl
whole_numbers-integers (n ∷ ns) h =
    let first : n ≤ largest = All-get_or (λ (n : ℕ). n ≤ largest) (n ∷ ns) 0 n (omega arith) h in
    rw (le-leb 0 n (omega arith), le-leb n largest first, whole_numbers-integers ns (All-drop (λ (n : ℕ). n ≤ largest) 1 (n ∷ ns) h)) refl

schedule_back : (s : Schedule) → schedule_named (schedule_text s) ≡ Some s
schedule_back Serial = refl
schedule_back Go = refl
schedule_back Drawn = refl

-- the table of a configuration says this configuration
pub head_back : (c : Config) → IsSpelled c → head_of_table (table_of c) ≡ Ok c
head_back c h = rw (
  le-leb 1 c.nodes h.cluster.nodes.0,
  le-leb c.nodes 16 h.cluster.nodes.1,
  whole_numbers-integers c.start_us h.readings,
  eq-eqb (length c.start_us) c.nodes h.as_many,
  le-leb 1 c.tablets h.cluster.tablets.0,
  le-leb c.tablets 64 h.cluster.tablets.1,
  le-leb 1 c.status h.cluster.status.0,
  le-leb c.status 16 h.cluster.status.1,
  le-leb 0 c.passes (omega arith),
  le-leb c.passes 1000 h.cluster.passes,
  le-leb 0 c.skew_us (omega arith),
  le-leb c.skew_us 10000000 h.cluster.skew,
  le-leb 1 c.lease_us h.cluster.lease.0,
  le-leb c.lease_us 60000000 h.cluster.lease.1,
  le-leb 0 c.number (omega arith),
  le-leb c.number largest h.number,
  schedule_back c.schedule,
) refl

items_depth-integers : (ns : List ℕ) → items_depth (integers ns) ≡ 0
items_depth-integers [] = refl
items_depth-integers (n ∷ ns) = rw (items_depth-integers ns) refl

pub depth_fits : (c : Config) → members_depth (table_of c) ≤ 80
depth_fits c = rw (items_depth-integers c.start_us) (lit≤ tt)

pub ruleset readings = (integers-push, items_view-push, view-Array)
