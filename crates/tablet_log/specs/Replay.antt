-- What the records of a log stand for, by going through them in their order.
use Rattle.std.specs.Prelude.{ℕ, List, [], ◌∷◌, ◌++◌, Option, Some, None, not, nat_eq, map, filter, if◌then◌else◌}
use Rattle.std.specs.List.{fold}
use Rattle.txn_data.specs.declared.version.Version.{Version}
use Rattle.txn_types.specs.Tablet.{Intent, is_of, version_at, with_version, with_versions}
use Rattle.txn_types.specs.Status.{Record, NoRecord, Pending, Committed, AbortedBy}
use Rattle.log_record.specs.declared.log_record.LogRecord.{LogRecord}
use Rattle.log_record.specs.declared.log_record.LogRecord.TheVariants.{Lease, Write, Apply, Clean, Single, Begin, Commit, Abort, Forget}

-- the end of the last lease, in microseconds
abbrev pub lease_after : Option ℕ → LogRecord → Option ℕ
lease_after end (Lease until) = Some until
lease_after end r = end

-- ---- a tablet: its provisional writes in the order in which they came, and its versions

pub record TabletState : Type 0 where
  pub lease : Option ℕ
  pub intents : List Intent
  pub versions : List Version

abbrev pub intents_after : List Intent → LogRecord → List Intent
intents_after ps (Write meta number at path op) = ps ++ (record { meta = meta; number = number; path = path; op = op; wrote = at }) ∷ []
intents_after ps (Apply x at) = filter (λ (p : Intent). not (is_of x p)) ps
intents_after ps (Clean x) = filter (λ (p : Intent). not (is_of x p)) ps
intents_after ps r = ps

abbrev pub versions_after : List Version → List Intent → LogRecord → List Version
versions_after vs ps (Apply x at) = with_versions vs (map (version_at at) (filter (is_of x) ps))
versions_after vs ps (Single x at path op) = with_version vs (record { path = path; at = at; wrote = at; number = 0; op = op })
versions_after vs ps r = vs

abbrev pub tablet_after : TabletState → LogRecord → TabletState
tablet_after s r = record { lease = lease_after s.lease r; intents = intents_after s.intents r; versions = versions_after s.versions s.intents r }

abbrev pub tablet_at_first : TabletState
tablet_at_first = record { lease = None; intents = []; versions = [] }

abbrev pub tablet_of : List LogRecord → TabletState
tablet_of rs = fold tablet_after tablet_at_first rs

-- ---- a status tablet: what it keeps of a transaction. Noted tablets and sureness are in no record

abbrev pub record_after : ℕ → Record → LogRecord → Record
record_after x kept (Begin y isolation priority) = if nat_eq y x then Pending priority else kept
record_after x kept (Commit y at tablets) = if nat_eq y x then Committed at tablets else kept
record_after x kept (Abort y (Some by)) = if nat_eq y x then AbortedBy by else kept
record_after x kept (Abort y None) = if nat_eq y x then NoRecord else kept
record_after x kept (Forget y) = if nat_eq y x then NoRecord else kept
record_after x kept r = kept

abbrev pub record_in : ℕ → List LogRecord → Record
record_in x rs = fold (record_after x) NoRecord rs

abbrev pub lease_in : List LogRecord → Option ℕ
lease_in rs = fold lease_after None rs
