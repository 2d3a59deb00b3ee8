-- A log of records whose paths fit.
use Rattle.std.specs.Prelude.{ℕ, List}
use Rattle.std.specs.List.{AllByRecursion}
use Rattle.doc_path.specs.Path.{Parts}
use Rattle.log_record.specs.declared.log_record.LogRecord.{LogRecord}
use Rattle.tablet_log.specs.Frames.{Holds}
use Rattle.tablet_records.specs.Keeps.{PathFits}

-- the bytes are the frames of records, and the path of each fits
pub record HoldsFitting (fits : Parts → Type 0) (bytes : List ℕ) : Type 0 where
  pub records : List LogRecord
  pub holds : Holds bytes records
  pub fit : AllByRecursion (PathFits fits) records
