-- The bytes of a log: the frames of its records, one after another.
use Rattle.std.specs.Prelude.{◌≡◌, ℕ, IsTrue, List, [], ◌++◌, length}
use Rattle.std.specs.List.{flat_map, AllByRecursion}
use Rattle.log_record.specs.declared.log_record.LogRecord.{LogRecord}
use Rattle.tablet_log.specs.declared.replay_refusal.ReplayRefusal.{ReplayRefusal}
use Rattle.tablet_log.specs.declared.replay_refusal.ReplayRefusal.TheVariants.{LogFault, LogBad, Memory}
use Rattle.log_record.specs.Spelling.{u32_spelling, spelling, has_spelling, IsInRange}

-- a record behind the number of its bytes, which is four bytes and does not count itself
abbrev pub frame : LogRecord → List ℕ
frame r = u32_spelling (length (spelling r)) ++ spelling r

abbrev pub frames : List LogRecord → List ℕ
frames rs = flat_map frame rs

-- the record is one that a program can hold, and has a spelling
abbrev pub IsRecord : LogRecord → Type 0
IsRecord r = IsInRange r × IsTrue (has_spelling r)

-- the bytes are a whole list of frames, those of these records
pub record Holds (bytes : List ℕ) (rs : List LogRecord) : Type 0 where
  pub records : AllByRecursion IsRecord rs
  pub is : bytes ≡ frames rs

-- no frame of a record begins these bytes
abbrev pub NoFrame : List ℕ → Type 0
NoFrame bytes = (r : LogRecord) (more : List ℕ) → IsRecord r → bytes ≡ frame r ++ more → ⊥

-- the bytes are no whole list of frames: some are, and what follows them at this offset begins with no frame of a record
pub record IsBroken (bytes : List ℕ) (offset : ℕ) : Type 0 where
  pub before : List LogRecord
  pub rest : List ℕ
  pub records : AllByRecursion IsRecord before
  pub is : bytes ≡ frames before ++ rest
  pub at : offset ≡ length (frames before)
  pub some : rest ≡ [] → ⊥
  pub none : NoFrame rest

-- bytes that are not read: the first frame that is none stands at this offset, or memory ran out
abbrev pub IsUnread : Type 0 → ℕ → ReplayRefusal → Type 0
IsUnread broken offset LogFault = ⊥
IsUnread broken offset (LogBad at) = (at ≡ offset) × broken
IsUnread broken offset Memory = Unit {0}
