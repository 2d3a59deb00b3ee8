-- Reading a record off the front of bytes, from left to right: the record and the bytes after it, or the first fault.
--
-- Each reader takes `whole`, the number of all bytes that were given, and `bytes`, those that are not read yet. So the
-- first byte of `bytes` stands at `whole - length bytes`. The faults, and where each stands:
--   BadKind    a first byte that is no kind of record: at that byte
--   BadFlag    the byte of an isolation, an operation or a flag that is not listed: at that byte
--   BadLength  a count or a length that is out of its range, met once all its bytes are there: at its first byte
--   Truncated  the bytes end inside a spelling: at `whole`, where the missing byte would stand
--   Spare      a byte after a whole spelling: at that byte
use Rattle.std.specs.Prelude.{◌≡◌, ℕ, zero, suc, ◌+◌, ◌-◌, ◌*◌, ◌^◌, ◌<◌, List, [], ◌∷◌, ◌++◌, length, take, drop, Option, Some, None, Result, Ok, Err, slice_index, nat_lt, nat_eq, if◌then◌else◌}
use Rattle.std.specs.Int.{Width, w32, w64, byte_len, from_be_bytes}
use Rattle.doc_path.specs.Path.{Parts}
use Rattle.txn_data.specs.declared.isolation.Isolation.{Isolation}
use Rattle.txn_data.specs.declared.isolation.Isolation.TheVariants.{Snapshot}
use Rattle.txn_data.specs.declared.meta.Meta.{Meta}
use Rattle.txn_data.specs.declared.op.Op.{Op}
use Rattle.txn_data.specs.declared.op.Op.TheVariants.{Put, Delete}
use Rattle.log_record.specs.declared.log_record.LogRecord.{LogRecord}
use Rattle.log_record.specs.declared.log_record.LogRecord.TheVariants.{Lease, Write, Apply, Clean, Single, Begin, Commit, Abort, Forget}
use Rattle.log_record.specs.declared.record_refusal.RecordRefusal.{RecordRefusal}
use Rattle.log_record.specs.declared.record_refusal.RecordRefusal.TheVariants.{BadKind, BadFlag, BadLength, Truncated, Spare, Memory}
use Rattle.log_record.specs.Spelling.{is_within, longest_bytes, most_tablets}

-- what is read, and the bytes after it; or the first fault
abbrev pub Read : Type 0 → Type 0
Read A = Result (A × List ℕ) RecordRefusal

abbrev pub Reader : Type 0 → Type 0
Reader A = ℕ → List ℕ → Read A

infixl 10 ◌>>=◌
abbrev pub ◌>>=◌ : {A B : Type 0} → Result A RecordRefusal → (A → Result B RecordRefusal) → Result B RecordRefusal
(Ok x) >>= f = f x
(Err e) >>= f = Err e

-- What a function returned, seen by `view`, is what was read, unless memory ran out.
abbrev pub Fails : {B : Type 0} → RecordRefusal → Result B RecordRefusal → Type 0
Fails Memory read = Unit {0}
Fails fault read = read ≡ Err fault

abbrev pub Gives : {A B : Type 0} → (A → B) → Result A RecordRefusal → Result B RecordRefusal → Type 0
Gives view (Ok x) read = read ≡ Ok (view x)
Gives view (Err e) read = Fails e read

-- where the first byte of `bytes` stands
abbrev pub offset : ℕ → List ℕ → ℕ
offset whole bytes = whole - length bytes

-- ---- readers made of readers

-- nothing is read
abbrev pub nothing : {A : Type 0} → A → Reader A
nothing x whole bytes = Ok (x, bytes)

-- one field, and another one behind it
infixr 20 ◌>>◌
abbrev pub ◌>>◌ : {A B : Type 0} → Reader A → Reader B → Reader (A × B)
(first >> second) whole bytes = do
  x ← first whole bytes
  y ← second whole x.1
  Ok ((x.0, y.0), y.1)

-- the value that is made of what is read
abbrev pub made : {A B : Type 0} → (A → B) → Reader A → Reader B
made make fields whole bytes = do
  x ← fields whole bytes
  Ok (make x.0, x.1)

-- the same list behind items that were read before it: what a loop has read so far, and what is left
abbrev pub onto : {A : Type 0} → List A → Read (List A) → Read (List A)
onto front read = read >>= λ x. Ok (front ++ x.0, x.1)

-- so many, one after another
unfoldable pub each : {A : Type 0} → Reader A → ℕ → Reader (List A)
each item zero whole bytes = Ok ([], bytes)
each item (suc n) whole bytes = do
  x ← item whole bytes
  xs ← each item n whole x.1
  Ok (x.0 ∷ xs.0, xs.1)

-- a number from `least` to `most`, and what has this size
abbrev pub sized : {A : Type 0} → Reader ℕ → ℕ → ℕ → (ℕ → Reader A) → Reader A
sized number least most items whole bytes = do
  n ← number whole bytes
  if is_within least most n.0 then items n.0 whole n.1 else Err (BadLength (offset whole bytes))

-- a byte that is 00 or 01, and what stands behind it
unfoldable pub flagged : {A : Type 0} → Reader A → Reader A → Reader A
flagged off on whole [] = Err (Truncated whole)
flagged off on whole (flag ∷ rest) =
    if nat_eq flag 0x00 then off whole rest
    else (if nat_eq flag 0x01 then on whole rest else Err (BadFlag (offset whole (flag ∷ rest))))

-- ---- the fields

unfoldable pub byte_at : Reader ℕ
byte_at whole [] = Err (Truncated whole)
byte_at whole (b ∷ rest) = Ok (b, rest)

-- so many bytes
abbrev pub bytes_of : ℕ → Reader (List ℕ)
bytes_of n whole bytes = if nat_lt (length bytes) n then Err (Truncated whole) else Ok (take n bytes, drop n bytes)

-- a number of four bytes, and of eight, high byte first
abbrev pub number_at : Width → Reader ℕ
number_at w = made (from_be_bytes w) (bytes_of (byte_len w))

abbrev pub u32_at : Reader ℕ
u32_at = number_at w32

abbrev pub u64_at : Reader ℕ
u64_at = number_at w64

-- an id: the number of a session, and a serial number
abbrev pub id_of : ℕ × ℕ → ℕ
id_of (session, serial) = session * 2 ^ 64 + serial

abbrev pub id_at : Reader ℕ
id_at = made id_of (u64_at >> u64_at)

unfoldable pub isolation_at : Reader Isolation
isolation_at whole [] = Err (Truncated whole)
isolation_at whole (flag ∷ rest) = if nat_eq flag 0x00 then Ok (Snapshot, rest) else Err (BadFlag (offset whole (flag ∷ rest)))

-- bytes behind their length
abbrev pub bytes_at : Reader (List ℕ)
bytes_at = sized u32_at 1 longest_bytes bytes_of

-- the parts of a path behind their count
abbrev pub path_at : Reader Parts
path_at = sized byte_at 1 5 (each bytes_at)

abbrev pub op_at : Reader Op
op_at = flagged (nothing Delete) (made Put bytes_at)

-- tablets behind their count
abbrev pub tablets_at : Reader (List ℕ)
tablets_at = sized u32_at 0 most_tablets (each u32_at)

abbrev pub by_at : Reader (Option ℕ)
by_at = flagged (nothing None) (made Some id_at)

abbrev pub meta_of : ℕ × (ℕ × (Isolation × ℕ)) → Meta
meta_of (x, (status, (isolation, priority))) = record { txn = x; status = status; isolation = isolation; priority = priority }

abbrev pub meta_at : Reader Meta
meta_at = made meta_of (id_at >> u32_at >> isolation_at >> u32_at)

-- ---- the records, each behind the byte of its kind

abbrev pub lease_at : Reader LogRecord
lease_at = made Lease u64_at

abbrev pub write_of : Meta × (ℕ × (ℕ × (Parts × Op))) → LogRecord
write_of (meta, (number, (at, (path, op)))) = Write meta number at path op

abbrev pub write_at : Reader LogRecord
write_at = made write_of (meta_at >> u32_at >> u64_at >> path_at >> op_at)

abbrev pub apply_of : ℕ × ℕ → LogRecord
apply_of (x, at) = Apply x at

abbrev pub apply_at : Reader LogRecord
apply_at = made apply_of (id_at >> u64_at)

abbrev pub clean_at : Reader LogRecord
clean_at = made Clean id_at

abbrev pub single_of : ℕ × (ℕ × (Parts × Op)) → LogRecord
single_of (x, (at, (path, op))) = Single x at path op

abbrev pub single_at : Reader LogRecord
single_at = made single_of (id_at >> u64_at >> path_at >> op_at)

abbrev pub begin_of : ℕ × (Isolation × ℕ) → LogRecord
begin_of (x, (isolation, priority)) = Begin x isolation priority

abbrev pub begin_at : Reader LogRecord
begin_at = made begin_of (id_at >> isolation_at >> u32_at)

abbrev pub commit_of : ℕ × (ℕ × List ℕ) → LogRecord
commit_of (x, (at, tablets)) = Commit x at tablets

abbrev pub commit_at : Reader LogRecord
commit_at = made commit_of (id_at >> u64_at >> tablets_at)

abbrev pub abort_of : ℕ × Option ℕ → LogRecord
abort_of (x, by) = Abort x by

abbrev pub abort_at : Reader LogRecord
abort_at = made abort_of (id_at >> by_at)

abbrev pub forget_at : Reader LogRecord
forget_at = made Forget id_at

-- ---- all of the bytes

unfoldable pub record_at : Reader LogRecord
record_at whole [] = Err (Truncated whole)
record_at whole (kind ∷ rest) =
    if nat_eq kind 0x01 then lease_at whole rest
    else (if nat_eq kind 0x02 then write_at whole rest
    else (if nat_eq kind 0x03 then apply_at whole rest
    else (if nat_eq kind 0x04 then clean_at whole rest
    else (if nat_eq kind 0x05 then single_at whole rest
    else (if nat_eq kind 0x06 then begin_at whole rest
    else (if nat_eq kind 0x07 then commit_at whole rest
    else (if nat_eq kind 0x08 then abort_at whole rest
    else (if nat_eq kind 0x09 then forget_at whole rest
    else Err (BadKind (offset whole (kind ∷ rest)))))))))))

-- what was read is all that was given
unfoldable pub ended : {A : Type 0} → ℕ → A × List ℕ → Result A RecordRefusal
ended whole (x, []) = Ok x
ended whole (x, b ∷ rest) = Err (Spare (offset whole (b ∷ rest)))

unfoldable pub record_of : List ℕ → Result LogRecord RecordRefusal
record_of bytes = record_at (length bytes) bytes >>= ended (length bytes)

-- What the answer to a front of bytes, of this length, tells of the answer to all of them, where a byte at least
-- follows. A whole spelling is followed by a Spare byte. A Truncated names the length, and what follows decides. Any
-- other refusal is that of all bytes, whatever follows: it is the first.
abbrev pub Foretells : {A : Type 0} → ℕ → Result A RecordRefusal → Result A RecordRefusal → Type 0
Foretells len (Ok x) all = all ≡ Err (Spare len)
Foretells len (Err (Truncated at)) all = at ≡ len
Foretells len (Err fault) all = all ≡ Err fault

-- each is a byte
abbrev pub IsBytes : List ℕ → Type 0
IsBytes bytes = (i : ℕ) → slice_index bytes i < 256
