-- The open transaction, as the tables have it.
use Rattle.std.specs.Prelude.{◌≡◌, ℕ, List, Option, Some, None, option_map, length, Vec}
use Rattle.std.specs.declared.alloc.Global.{Global}
use Rattle.txn_data.specs.declared.tablet_limit.TabletLimit.{TabletLimit}
use Rattle.txn_types.specs.Session.{Opened}
use Rattle.own_writes.specs.OwnWrites.{writes, HasRoom}
use Rattle.session_core.specs.declared.open_txn.OpenTxn.{OpenTxn}

abbrev pub opened : OpenTxn → Opened
opened x = record {
  meta = x.meta;
  r = x.r;
  g = x.g;
  writes = writes x.own_writes;
  limits = x.limits.items;
  has_read = x.has_read;
  in_doubt = x.in_doubt;
}

abbrev pub opened_if : Option OpenTxn → Option Opened
opened_if x = option_map opened x

-- how many writes were accepted
abbrev pub count : Option Opened → ℕ
count None = 0
count (Some x) = length x.writes

abbrev pub written : Option OpenTxn → ℕ
written x = count (opened_if x)

-- one more write fits without memory
abbrev pub HaveRoom : Option OpenTxn → Type 0
HaveRoom x = (y : OpenTxn) → x ≡ Some y → HasRoom y.own_writes

-- the limits of a read as they stand now, or where none is in flight those of the transaction
abbrev pub limits_held : Option (Vec TabletLimit Global) → List TabletLimit → List TabletLimit
limits_held None limits = limits
limits_held (Some held) limits = held.items
