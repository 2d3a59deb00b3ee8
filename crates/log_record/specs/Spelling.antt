-- The spelling of the records of a log as bytes. Each begins with the byte of its kind. Numbers stand high byte first.
use Rattle.std.specs.Prelude.{◌≡◌, ℕ, IsTrue, ◌/◌, ◌%◌, ◌^◌, ◌<◌, Bool, true, ◌&&◌, List, [], ◌∷◌, ◌++◌, length, Option, Some, None, nat_le}
use Rattle.std.specs.List.{flat_map, list_all, AllByRecursion}
use Rattle.std.specs.Int.{w32, w64, to_be_bytes}
use Rattle.doc_path.specs.Path.{Parts}
use Rattle.txn_data.specs.declared.isolation.Isolation.{Isolation}
use Rattle.txn_data.specs.declared.isolation.Isolation.TheVariants.{Snapshot}
use Rattle.txn_data.specs.declared.meta.Meta.{Meta}
use Rattle.txn_data.specs.declared.op.Op.{Op}
use Rattle.txn_data.specs.declared.op.Op.TheVariants.{Put, Delete}
use Rattle.log_record.specs.declared.log_record.LogRecord.{LogRecord}
use Rattle.log_record.specs.declared.log_record.LogRecord.TheVariants.{Lease, Write, Apply, Clean, Single, Begin, Commit, Abort, Forget}

-- ---- the fields

-- four bytes, and eight
unfoldable pub u32_spelling : ℕ → List ℕ
u32_spelling n = to_be_bytes w32 n

unfoldable pub u64_spelling : ℕ → List ℕ
u64_spelling n = to_be_bytes w64 n

-- the id of a transaction in sixteen bytes: the number of its session, and its serial number
abbrev pub id_spelling : ℕ → List ℕ
id_spelling x = u64_spelling (x / 2 ^ 64) ++ u64_spelling (x % 2 ^ 64)

abbrev pub isolation_spelling : Isolation → List ℕ
isolation_spelling Snapshot = 0x00 ∷ []

-- bytes behind their length
abbrev pub bytes_spelling : List ℕ → List ℕ
bytes_spelling bytes = u32_spelling (length bytes) ++ bytes

-- the parts of a path behind their count, which is one byte
abbrev pub path_spelling : Parts → List ℕ
path_spelling path = length path ∷ flat_map bytes_spelling path

abbrev pub op_spelling : Op → List ℕ
op_spelling Delete = 0x00 ∷ []
op_spelling (Put value) = 0x01 ∷ bytes_spelling value

-- tablets behind their count
abbrev pub tablets_spelling : List ℕ → List ℕ
tablets_spelling tablets = u32_spelling (length tablets) ++ flat_map u32_spelling tablets

-- who aborted a transaction: its owner, or another transaction
abbrev pub by_spelling : Option ℕ → List ℕ
by_spelling None = 0x00 ∷ []
by_spelling (Some by) = 0x01 ∷ id_spelling by

abbrev pub meta_spelling : Meta → List ℕ
meta_spelling meta = id_spelling meta.txn ++ (u32_spelling meta.status ++ (isolation_spelling meta.isolation ++ u32_spelling meta.priority))

-- ---- the records

abbrev pub spelling : LogRecord → List ℕ
spelling (Lease until) = 0x01 ∷ u64_spelling until
spelling (Write meta number at path op) = 0x02 ∷ (meta_spelling meta ++ (u32_spelling number ++ (u64_spelling at ++ (path_spelling path ++ op_spelling op))))
spelling (Apply x at) = 0x03 ∷ (id_spelling x ++ u64_spelling at)
spelling (Clean x) = 0x04 ∷ id_spelling x
spelling (Single x at path op) = 0x05 ∷ (id_spelling x ++ (u64_spelling at ++ (path_spelling path ++ op_spelling op)))
spelling (Begin x isolation priority) = 0x06 ∷ (id_spelling x ++ (isolation_spelling isolation ++ u32_spelling priority))
spelling (Commit x at tablets) = 0x07 ∷ (id_spelling x ++ (u64_spelling at ++ tablets_spelling tablets))
spelling (Abort x by) = 0x08 ∷ (id_spelling x ++ by_spelling by)
spelling (Forget x) = 0x09 ∷ id_spelling x

-- ---- which records have a spelling

-- from the least to the most
abbrev pub is_within : ℕ → ℕ → ℕ → Bool
is_within least most n = nat_le least n && nat_le n most

-- a part of a path and a value have 1 to 65,536 bytes
abbrev pub longest_bytes : ℕ
longest_bytes = 65536

abbrev pub are_bytes : List ℕ → Bool
are_bytes bytes = is_within 1 longest_bytes (length bytes)

-- a path has one to five parts
abbrev pub is_path : Parts → Bool
is_path path = is_within 1 5 (length path) && list_all are_bytes path

abbrev pub is_op : Op → Bool
is_op Delete = true
is_op (Put value) = are_bytes value

-- a Commit names at most 64 tablets
abbrev pub most_tablets : ℕ
most_tablets = 64

abbrev pub has_spelling : LogRecord → Bool
has_spelling (Write meta number at path op) = is_path path && is_op op
has_spelling (Single x at path op) = is_path path && is_op op
has_spelling (Commit x at tablets) = nat_le (length tablets) most_tablets
has_spelling r = true

-- ---- the numbers in it are those of their types, as in each record that a program holds

abbrev pub IsU32 : ℕ → Type 0
IsU32 n = n < 2 ^ 32

abbrev pub IsU64 : ℕ → Type 0
IsU64 n = n < 2 ^ 64

abbrev pub IsId : ℕ → Type 0
IsId x = x < 2 ^ 128

abbrev pub IsBy : Option ℕ → Type 0
IsBy None = Unit {0}
IsBy (Some by) = IsId by

abbrev pub IsMeta : Meta → Type 0
IsMeta meta = IsId meta.txn × IsU32 meta.status × IsU32 meta.priority

abbrev pub IsInRange : LogRecord → Type 0
IsInRange (Lease until) = IsU64 until
IsInRange (Write meta number at path op) = IsMeta meta × IsU32 number × IsU64 at
IsInRange (Apply x at) = IsId x × IsU64 at
IsInRange (Clean x) = IsId x
IsInRange (Single x at path op) = IsId x × IsU64 at
IsInRange (Begin x isolation priority) = IsId x × IsU32 priority
IsInRange (Commit x at tablets) = IsId x × IsU64 at × AllByRecursion IsU32 tablets
IsInRange (Abort x by) = IsId x × IsBy by
IsInRange (Forget x) = IsId x

-- ---- it is spelled so

-- the bytes are the spelling of this record, which is one that a program can hold
pub record Spells (bytes : List ℕ) (r : LogRecord) : Type 0 where
  pub in_range : IsInRange r
  pub has : IsTrue (has_spelling r)
  pub is : bytes ≡ spelling r
