-- How many bytes a spelling has, and at most.
use Rattle.std.proofs.Common.{◌≡◌, ℕ, ◌+◌, ◌*◌, ◌/◌, ◌%◌, ◌^◌, ◌≤◌, true, ◌&&◌, leb, IsTrue, List, [], ◌∷◌, ◌++◌, length, Some, None, refl, arith}
use Rattle.std.specs.List.{flat_map, list_all}
use Rattle.std.proofs.lemmas.Bool.{and_parts, leb-true}
use Rattle.std.proofs.lemmas.List.{length-append}
use Rattle.doc_path.specs.Path.{Parts}
use Rattle.txn_data.specs.declared.isolation.Isolation.{Isolation}
use Rattle.txn_data.specs.declared.isolation.Isolation.TheVariants.{Snapshot}
use Rattle.txn_data.specs.declared.meta.Meta.{Meta}
use Rattle.txn_data.specs.declared.op.Op.{Op}
use Rattle.txn_data.specs.declared.op.Op.TheVariants.{Put, Delete}
use Rattle.log_record.specs.declared.log_record.LogRecord.{LogRecord}
use Rattle.log_record.specs.declared.log_record.LogRecord.TheVariants.{Lease, Write, Apply, Clean, Single, Begin, Commit, Abort, Forget}
use Rattle.log_record.specs.Spelling.{u32_spelling, u64_spelling, id_spelling, isolation_spelling, bytes_spelling, path_spelling, op_spelling, tablets_spelling, by_spelling, meta_spelling, spelling, has_spelling, is_within, are_bytes, is_path, is_op}

len_u32 : (n : ℕ) → length (u32_spelling n) ≡ 4
unfolding u32_spelling
len_u32 n = refl

len_u64 : (n : ℕ) → length (u64_spelling n) ≡ 8
unfolding u64_spelling
len_u64 n = refl

len_id : (x : ℕ) → length (id_spelling x) ≡ 16
len_id x = omega (arith, length-append (u64_spelling (x / 2 ^ 64)) (u64_spelling (x % 2 ^ 64)), len_u64 (x / 2 ^ 64), len_u64 (x % 2 ^ 64))

len_isolation : (i : Isolation) → length (isolation_spelling i) ≡ 1
len_isolation Snapshot = refl

pub bytes_len : (bytes : List ℕ) → 4 + length bytes ≡ length (bytes_spelling bytes)
bytes_len bytes = omega (arith, length-append (u32_spelling (length bytes)) bytes, len_u32 (length bytes))

len_bytes : (bytes : List ℕ) → are_bytes bytes ≡ true → length (bytes_spelling bytes) ≤ 65540
len_bytes bytes good =
    let both = and_parts (leb 1 (length bytes)) (leb (length bytes) 65536) good in
    let few : length bytes ≤ 65536 = leb-true _ _ both.1 in
    omega (arith, few, length-append (u32_spelling (length bytes)) bytes, len_u32 (length bytes))

len_parts : (path : Parts) → list_all are_bytes path ≡ true → length (flat_map bytes_spelling path) ≤ 65540 * length path
len_parts [] good = omega arith
len_parts (p ∷ path) good =
    let both = and_parts (are_bytes p) (list_all are_bytes path) good in
    omega (arith, len_bytes p both.0, len_parts path both.1, length-append (bytes_spelling p) (flat_map bytes_spelling path))

len_path : (path : Parts) → is_path path ≡ true → length (path_spelling path) ≤ 327701
len_path path good =
    let both = and_parts (is_within 1 5 (length path)) (list_all are_bytes path) good in
    let within = and_parts (leb 1 (length path)) (leb (length path) 5) both.0 in
    let few : length path ≤ 5 = leb-true _ _ within.1 in
    omega (arith, few, len_parts path both.1)

len_op : (op : Op) → is_op op ≡ true → length (op_spelling op) ≤ 65541
len_op Delete good = omega arith
len_op (Put value) good = omega (arith, len_bytes value good)

len_numbers : (ns : List ℕ) → length (flat_map u32_spelling ns) ≡ 4 * length ns
len_numbers [] = refl
len_numbers (n ∷ ns) = omega (arith, len_u32 n, len_numbers ns, length-append (u32_spelling n) (flat_map u32_spelling ns))

len_meta : (meta : Meta) → length (meta_spelling meta) ≡ 25
len_meta meta =
    omega (
      arith,
      len_id meta.txn,
      len_u32 meta.status,
      len_isolation meta.isolation,
      len_u32 meta.priority,
      length-append (id_spelling meta.txn) (u32_spelling meta.status ++ (isolation_spelling meta.isolation ++ u32_spelling meta.priority)),
      length-append (u32_spelling meta.status) (isolation_spelling meta.isolation ++ u32_spelling meta.priority),
      length-append (isolation_spelling meta.isolation) (u32_spelling meta.priority),
    )

len_placed : (at : ℕ) (path : Parts) (op : Op) → length (u64_spelling at ++ (path_spelling path ++ op_spelling op)) ≡ 8 + length (path_spelling path) + length (op_spelling op)
len_placed at path op = omega (arith, len_u64 at, length-append (u64_spelling at) (path_spelling path ++ op_spelling op), length-append (path_spelling path) (op_spelling op))

-- how many bytes each has
abbrev pub len_of : LogRecord → ℕ
len_of (Lease until) = 9
len_of (Write meta number at path op) = 38 + length (path_spelling path) + length (op_spelling op)
len_of (Apply x at) = 25
len_of (Clean x) = 17
len_of (Single x at path op) = 25 + length (path_spelling path) + length (op_spelling op)
len_of (Begin x isolation priority) = 22
len_of (Commit x at tablets) = 29 + 4 * length tablets
len_of (Abort x None) = 18
len_of (Abort x (Some by)) = 34
len_of (Forget x) = 17

pub spelling_len : (r : LogRecord) → length (spelling r) ≡ len_of r
spelling_len (Lease until) = omega (arith, len_u64 until)
spelling_len (Write meta number at path op) =
    omega (
      arith,
      len_meta meta,
      len_u32 number,
      len_placed at path op,
      length-append (meta_spelling meta) (u32_spelling number ++ (u64_spelling at ++ (path_spelling path ++ op_spelling op))),
      length-append (u32_spelling number) (u64_spelling at ++ (path_spelling path ++ op_spelling op)),
    )
spelling_len (Apply x at) = omega (arith, len_id x, len_u64 at, length-append (id_spelling x) (u64_spelling at))
spelling_len (Clean x) = omega (arith, len_id x)
spelling_len (Single x at path op) = omega (arith, len_id x, len_placed at path op, length-append (id_spelling x) (u64_spelling at ++ (path_spelling path ++ op_spelling op)))
spelling_len (Begin x isolation priority) =
    omega (arith, len_id x, len_isolation isolation, len_u32 priority, length-append (id_spelling x) (isolation_spelling isolation ++ u32_spelling priority), length-append (isolation_spelling isolation) (u32_spelling priority))
spelling_len (Commit x at tablets) =
    omega (
      arith,
      len_id x,
      len_u64 at,
      len_u32 (length tablets),
      len_numbers tablets,
      length-append (id_spelling x) (u64_spelling at ++ tablets_spelling tablets),
      length-append (u64_spelling at) (tablets_spelling tablets),
      length-append (u32_spelling (length tablets)) (flat_map u32_spelling tablets),
    )
spelling_len (Abort x None) = omega (arith, len_id x, length-append (id_spelling x) (by_spelling None))
spelling_len (Abort x (Some by)) = omega (arith, len_id x, len_id by, length-append (id_spelling x) (by_spelling (Some by)))
spelling_len (Forget x) = omega (arith, len_id x)

-- ---- at most

placed_short : (path : Parts) (op : Op) → (is_path path && is_op op) ≡ true → length (path_spelling path) + length (op_spelling op) ≤ 393242
placed_short path op good =
    let both = and_parts (is_path path) (is_op op) good in
    omega (arith, len_path path both.0, len_op op both.1)

len_short : (r : LogRecord) → IsTrue (has_spelling r) → len_of r ≤ 393280
len_short (Lease until) has = omega arith
len_short (Write meta number at path op) has = omega (arith, placed_short path op has)
len_short (Apply x at) has = omega arith
len_short (Clean x) has = omega arith
len_short (Single x at path op) has = omega (arith, placed_short path op has)
len_short (Begin x isolation priority) has = omega arith
len_short (Commit x at tablets) has =
    let few : length tablets ≤ 64 = leb-true _ _ has in
    omega (arith, few)
len_short (Abort x None) has = omega arith
len_short (Abort x (Some by)) has = omega arith
len_short (Forget x) has = omega arith

pub spelling_short : (r : LogRecord) → IsTrue (has_spelling r) → length (spelling r) ≤ 393280
spelling_short r has = omega (arith, spelling_len r, len_short r has)
