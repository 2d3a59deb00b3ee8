-- A hash lies in the range of the tablet that owns it, and in no other.
use Rattle.std.proofs.Common.{◌≡◌, ℕ, ◌+◌, ◌*◌, ◌<◌, ◌≤◌, inl, inr, arith}
use Rattle.std.specs.Int.{div_ceil}
use Rattle.std.proofs.Math.Nat.{mul-le-mul_right}
use Rattle.std.proofs.lemmas.Bool.{cases_lt}
use Rattle.std.proofs.lemmas.Grind.{div_ceil_times}
use Rattle.partition_map.specs.Partition.{owner, first_hash, IsInRange}

times_from_ceil : (a n h : ℕ) → 0 < n → div_ceil a n ≤ h → a ≤ h * n
times_from_ceil a n h some le =
    let times = div_ceil_times a n some in
    omega (arith, times.0, mul-le-mul_right n le)

ceil_from_times : (a n h : ℕ) → 0 < n → a ≤ h * n → div_ceil a n ≤ h
ceil_from_times a n h some le =
    let times = div_ceil_times a n some in
    elim (cases_lt h (div_ceil a n)) [
      | inl lt ↦
          let more : h + 1 ≤ div_ceil a n = omega (arith, lt) in
          let product : (h + 1) * n ≤ div_ceil a n * n = mul-le-mul_right n more in
          absurd (omega (arith, product, times.1, le))
      | inr done ↦ done
    ]

pub owner_in_range : (hash i n : ℕ) → 1 ≤ n → IsInRange hash i n → owner hash n ≡ i
owner_in_range hash i n some within =
    let low = times_from_ceil (i * 65536) n hash some within.from_first in
    elim (cases_lt (hash * n) ((i + 1) * 65536)) [
      | inl high ↦ omega (arith, low, high)
      | inr over ↦ absurd (omega (arith, within.below_next, ceil_from_times ((i + 1) * 65536) n hash some over))
    ]

pub range_of_owner : (hash i n : ℕ) → 1 ≤ n → owner hash n ≡ i → IsInRange hash i n
range_of_owner hash i n some owned =
    record {
      from_first = ceil_from_times (i * 65536) n hash some (omega arith);
      below_next =
          elim (cases_lt hash (first_hash (i + 1) n)) [
            | inl lt ↦ lt
            | inr le ↦ absurd (omega (arith, owned, times_from_ceil ((i + 1) * 65536) n hash some le))
          ];
    }

pub owner_below : (hash n : ℕ) → hash < 65536 → 1 ≤ n → owner hash n < n
owner_below hash n small some =
    let product : (hash + 1) * n ≤ 65536 * n = mul-le-mul_right n (omega arith) in
    omega (arith, product)
