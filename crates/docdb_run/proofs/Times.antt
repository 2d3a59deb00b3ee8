-- What a time that a clock gives is above.
use Rattle.std.proofs.Common.{◌≡◌, ℕ, ◌<◌, ◌+◌, max, Bool, true, false, Ok, Err, refl, arith, nat_lt, nat_eq, if◌then◌else◌}
use Rattle.std.proofs.lemmas.Bool.{ltb-true}
use Rattle.hybrid_time.specs.Time.{next_time, time_after, time_at, micros_of, logical_of, greatest_reading}
use Rattle.hybrid_time.specs.declared.time_refusal.TimeRefusal.TheVariants.{ClockFull, ClockRange}

chosen_after : (t u : Bool) (b r c : ℕ) → nat_lt (micros_of b) r ≡ t →
    (if t then Ok (time_at r 0) else (if u then Err (ClockFull b) else Ok (b + 1))) ≡ Ok c → b < c
chosen_after true u b r c lt is =
    let e : time_at r 0 ≡ c = cc in let l : micros_of b < r = ltb-true (micros_of b) r lt in omega arith
chosen_after false true b r c lt is = cc
chosen_after false false b r c lt is = let e : b + 1 ≡ c = cc in omega arith

chosen_next : (t : Bool) (b r c : ℕ) → (if t then Err (ClockRange r) else time_after b r) ≡ Ok c → b < c
chosen_next true b r c is = cc
chosen_next false b r c is = chosen_after (nat_lt (micros_of b) r) (nat_eq (logical_of b) 4095) b r c refl is

pub next_above : (last floor reading c : ℕ) → next_time last floor reading ≡ Ok c → (last < c) × (floor < c)
next_above last floor reading c is =
    let l : max last floor < c = chosen_next (nat_lt greatest_reading reading) (max last floor) reading c is in
    (omega arith, omega arith)
