-- The hash of bytes: FNV-1a of 64 bits, folded to 16.
use Rattle.std.specs.Prelude.{ℕ, ◌*◌, ◌/◌, ◌%◌, ◌^◌, List, bit_xor}
use Rattle.std.specs.List.{fold}

-- the number that FNV-1a starts with
abbrev pub fnv_start : ℕ
fnv_start = 0xCBF2_9CE4_8422_2325

-- one byte of FNV-1a: the exclusive or with it, times the prime, modulo 2 ^ 64
abbrev pub fnv_step : ℕ → ℕ → ℕ
fnv_step hash b = bit_xor hash b * 0x100_0000_01B3 % 2 ^ 64

abbrev pub fnv : List ℕ → ℕ
fnv bytes = fold fnv_step fnv_start bytes

-- the 16 bits of a number from this place upward
abbrev pub word : ℕ → ℕ → ℕ
word place n = n / 2 ^ place % 2 ^ 16

-- the four words of a number of 64 bits, joined by exclusive or
abbrev pub folded : ℕ → ℕ
folded n = bit_xor (bit_xor (bit_xor (word 48 n) (word 32 n)) (word 16 n)) (word 0 n)

abbrev pub hash_of : List ℕ → ℕ
hash_of bytes = folded (fnv bytes)
