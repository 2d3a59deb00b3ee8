-- For which lists the contents of a tablet stand.
use Rattle.std.specs.Prelude.{ℕ, List, Option, Some, None}
use Rattle.doc_path.specs.Path.{Parts}
use Rattle.txn_data.specs.declared.version.Version.{Version}
use Rattle.txn_data.specs.declared.provisional.Provisional.{Provisional}
use Rattle.txn_data.specs.declared.reply.Reply.{Reply}
use Rattle.txn_data.specs.declared.reply.Reply.TheVariants as reply
use Rattle.txn_types.specs.Tablet.{Intent}
use Rattle.log_record.specs.declared.log_record.LogRecord.{LogRecord}
use Rattle.log_record.specs.declared.log_record.LogRecord.TheVariants.{Write, Single}
use Rattle.conflict_matrix.specs.declared.write_decision.WriteDecision.{WriteDecision}
use Rattle.conflict_matrix.specs.declared.write_decision.WriteDecision.TheVariants.{Conflict}
use Rattle.intent_records.specs.Holds as intents
use Rattle.tablet_records.specs.declared.tablet_records.TabletRecords.{TabletRecords}

-- These are its provisional writes, in the order in which they came, and its versions. What keeps the versions tells the
-- versions that it holds.
pub record Keeps {V : Type 0} (holds : V → List Version → Type 0) (s : TabletRecords V) (ps : List Intent) (vs : List Version) : Type 0 where
  pub intents : intents.Holds s.intents ps
  pub versions : holds s.versions vs

-- the path of a record, where it has one, fits
abbrev pub PathFits : (Parts → Type 0) → LogRecord → Type 0
PathFits fits (Write meta number at path op) = fits path
PathFits fits (Single x at path op) = fits path
PathFits fits r = Unit {0}

-- a provisional write as a version, once its transaction is committed
abbrev pub version_of : ℕ → Provisional → Version
version_of at p = record { path = p.path; at = at; wrote = p.wrote; number = p.number; op = p.op }

-- a reply to a read: what it met, or its rows
abbrev pub IsRead : Reply → Type 0
IsRead (reply.Met at path) = Unit {0}
IsRead (reply.Collected rows) = Unit {0}
IsRead r = ⊥

-- the transaction with which a write conflicts
abbrev pub other_in : WriteDecision → Option ℕ
other_in (Conflict other) = Some other
other_in d = None
