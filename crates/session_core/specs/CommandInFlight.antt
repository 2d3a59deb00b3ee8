-- What holds of the command that is in flight.
use Rattle.std.specs.Prelude.{◌≡◌, ℕ, ◌≤◌, true, false, List, Option, Some, None, is_none}
use Rattle.txn_data.specs.declared.tablet_limit.TabletLimit.{TabletLimit}
use Rattle.txn_types.specs.Run.{limits_of}
use Rattle.txn_types.specs.Session.{Keeps}
use Rattle.session_core.specs.Lines.{clocked, has_few_places, writes_line}
use Rattle.session_core.specs.OpenTxn.{HaveRoom}
use Rattle.session_core.specs.Work.{takes_room, is_reading, limits_now, HasLimitRoom}
use Rattle.session_core.specs.declared.open_txn.OpenTxn.{OpenTxn}
use Rattle.session_core.specs.declared.command_in_flight.CommandInFlight.{CommandInFlight}

-- it wants a reading only where the command takes one; where it may no longer want memory it needs none; a read has few
-- places; and its reading is in range
pub record IsSound (u : CommandInFlight) : Type 0 where
  pub wanting : is_reading u.work ≡ true → clocked u.line ≡ true
  pub settled : u.may_lose ≡ false → takes_room u.work ≡ false
  pub few : has_few_places u.line ≡ true
  pub in_range : (micros : ℕ) → u.reading ≡ Some micros → micros ≤ 4000000000000000

-- there is room for what its next reply may add to this transaction, and no transaction is open where it wants a reading
pub record FitsIn (transaction : Option OpenTxn) (u : CommandInFlight) : Type 0 where
  pub write : writes_line u.line ≡ true → HaveRoom transaction
  pub limit : HasLimitRoom u.work
  pub closed : is_reading u.work ≡ true → is_none transaction ≡ true

-- the limits as they stand now
abbrev pub limits_under : Keeps → CommandInFlight → List TabletLimit
limits_under s u = limits_now (limits_of s.opened) u.work

-- one command may be in flight
abbrev pub busy : Option CommandInFlight → ℕ
busy None = 0
busy (Some u) = 1
