-- What a status tablet keeps of a transaction, and how it changes.
use Rattle.std.specs.Prelude.{ℕ, Bool, true, false, not, ◌&&◌, List, [], ◌∷◌, Option, Some, None, option_map, filter, nat_eq, nat_lt, if◌then◌else◌}
use Rattle.std.specs.List.{list_all}
use Rattle.std.specs.Map.{lookup}
use Rattle.std.specs.BTreeMap.{is_at}
use Rattle.std.specs.Ordering.{nat_cmp}
use Rattle.txn_data.specs.declared.fate.Fate.{Fate}
use Rattle.txn_data.specs.declared.fate.Fate.TheVariants as fate
use Rattle.txn_types.specs.Lists.{has_number}
use Rattle.txn_types.specs.Status.{Record, NoRecord, Pending, Committed, AbortedBy}
use Rattle.log_record.specs.declared.log_record.LogRecord.{LogRecord}
use Rattle.log_record.specs.declared.log_record.LogRecord.TheVariants as log_record
use Rattle.status_tablet.specs.declared.txn_record.TxnRecord.{TxnRecord}
use Rattle.status_tablet.specs.declared.txn_record.TxnRecord.TheVariants as kept
use Rattle.status_tablet.specs.declared.mark.Mark.{Mark}
use Rattle.status_tablet.specs.declared.mark.Mark.TheVariants as mark

-- what is kept of x among the entries of the map
abbrev pub kept_at : List (ℕ × TxnRecord) → ℕ → Option TxnRecord
kept_at entries x = lookup (is_at (nat_cmp x)) entries

-- the tablets of a commit that are not noted
abbrev pub waiting : List ℕ → List ℕ → List ℕ
waiting tablets noted = filter (λ k. not (has_number k noted)) tablets

abbrev pub names_none : List ℕ → Bool
names_none [] = true
names_none (k ∷ ks) = false

-- what is kept of a transaction, by its record, the tablets that are noted, and whether its owner was told of the commit
abbrev pub kept_of : Record → List ℕ → Bool → Option TxnRecord
kept_of NoRecord noted sure = None
kept_of (Pending priority) noted sure = Some (kept.Pending priority)
kept_of (Committed c tablets) noted sure =
    Some (kept.Committed (record { at = c; waits = waiting tablets noted; stays = names_none tablets; sure = sure }))
kept_of (AbortedBy by) noted sure = Some (kept.Aborted by)

-- what is kept of x after one more record of the log
abbrev pub kept_after : LogRecord → ℕ → Option TxnRecord → Option TxnRecord
kept_after (log_record.Begin y isolation priority) x old = if nat_eq y x then Some (kept.Pending priority) else old
kept_after (log_record.Commit y at tablets) x old =
    if nat_eq y x then Some (kept.Committed (record { at = at; waits = tablets; stays = names_none tablets; sure = false })) else old
kept_after (log_record.Abort y (Some by)) x old = if nat_eq y x then Some (kept.Aborted by) else old
kept_after (log_record.Abort y None) x old = if nat_eq y x then None else old
kept_after (log_record.Forget y) x old = if nat_eq y x then None else old
kept_after r x old = old

-- after the record of an action's own, where there is one
abbrev pub kept_with : Option LogRecord → ℕ → Option TxnRecord → Option TxnRecord
kept_with None x old = old
kept_with (Some r) x old = kept_after r x old

-- the owner was told of the commit
abbrev pub told : TxnRecord → TxnRecord
told (kept.Committed c) = kept.Committed (record { at = c.at; waits = c.waits; stays = c.stays; sure = true })
told r = r

-- the tablet has applied the transaction
abbrev pub without : ℕ → TxnRecord → TxnRecord
without tablet (kept.Committed c) =
    kept.Committed (record { at = c.at; waits = filter (λ k. not (nat_eq k tablet)) c.waits; stays = c.stays; sure = c.sure })
without tablet r = r

-- after what is kept in no log
abbrev pub marked : Mark → ℕ → Option TxnRecord → Option TxnRecord
marked mark.Nothing x old = old
marked (mark.Told y) x old = if nat_eq y x then option_map told old else old
marked (mark.Applied y tablet) x old = if nat_eq y x then option_map (without tablet) old else old

-- ---- what is read off what is kept

abbrev pub fate_kept : Option TxnRecord → Fate
fate_kept None = fate.Absent
fate_kept (Some (kept.Pending priority)) = fate.Pending
fate_kept (Some (kept.Committed c)) = fate.Committed c.at
fate_kept (Some (kept.Aborted by)) = fate.Aborted

-- a transaction of this priority may abort it
abbrev pub yields : Option TxnRecord → ℕ → Bool
yields (Some (kept.Pending own)) priority = nat_lt own priority
yields old priority = false

-- a commit may go once the tablet has applied it: it names tablets, its owner was told, and no other tablet is waited for
abbrev pub forgets : Option TxnRecord → ℕ → Bool
forgets (Some (kept.Committed c)) tablet = not c.stays && c.sure && list_all (λ k. nat_eq k tablet) c.waits
forgets old tablet = false
