-- The table of a configuration.
use Rattle.std.specs.Prelude.{◌∷◌, ℕ, pos, List, [], codes}
use Rattle.std.specs.Ordering.{nat_cmp, match_ordering}
use Rattle.std.specs.Cmp.Lexicographic.{slice_cmp}
use Rattle.toml.specs.Data.{Data, string, integer, array, Items, no_items, item, Members, no_members, member}
use Rattle.txn_data.specs.declared.config.Config.{Config}
use Rattle.txn_data.specs.declared.schedule.Schedule.{Schedule}
use Rattle.txn_data.specs.declared.schedule.Schedule.TheVariants.{Serial, Go, Drawn}

-- the members in the order of their keys, with the value at the key
abbrev pub put : List ℕ → Data → Members → Members
put k d no_members = member k d no_members
put k d (member l e ms) =
    match_ordering (slice_cmp nat_cmp k l) (member k d (member l e ms)) (member l d ms) (member l e (put k d ms))

-- the numbers as integers
abbrev pub integers : List ℕ → Items
integers [] = no_items
integers (n ∷ ns) = item (integer (pos n)) (integers ns)

abbrev pub schedule_text : Schedule → List ℕ
schedule_text Serial = codes "serial"
schedule_text Go = codes "go"
schedule_text Drawn = codes "drawn"

abbrev pub number : ℕ → Data
number n = integer (pos n)

-- the table of a configuration
abbrev pub table_of : Config → Members
table_of c =
    put (codes "schedule") (string (schedule_text c.schedule))
    (put (codes "start_us") (array (integers c.start_us))
    (put (codes "number") (number c.number)
    (put (codes "lease_us") (number c.lease_us)
    (put (codes "skew_us") (number c.skew_us)
    (put (codes "passes") (number c.passes)
    (put (codes "status") (number c.status)
    (put (codes "tablets") (number c.tablets)
    (put (codes "nodes") (number c.nodes) no_members))))))))
