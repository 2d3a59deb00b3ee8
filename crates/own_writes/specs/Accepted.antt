-- Accepted writes, as the tables have them.
use Rattle.std.specs.Prelude.{List, map}
use Rattle.txn_types.specs.Session.{Accepted}
use Rattle.own_writes.specs.declared.accepted.Accepted.{Accepted as Kept}

abbrev pub accepted : Kept → Accepted
accepted a = record { tablet = a.tablet; write = a.write }

abbrev pub all_accepted : List Kept → List Accepted
all_accepted writes = map accepted writes
