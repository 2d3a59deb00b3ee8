-- Hybrid times, as the numbers that they are seen as: microseconds times 4096, and a logical counter below 4096.
use Rattle.std.specs.Prelude.{ℕ, ◌+◌, ◌*◌, ◌/◌, ◌%◌, max, nat_eq, nat_lt, if◌then◌else◌, Result, Ok, Err}
use Rattle.hybrid_time.specs.declared.time_refusal.TimeRefusal.{TimeRefusal}
use Rattle.hybrid_time.specs.declared.time_refusal.TimeRefusal.TheVariants.{ClockFull, ClockRange}

abbrev pub time_at : ℕ → ℕ → ℕ
time_at micros logical = micros * 4096 + logical

abbrev pub micros_of : ℕ → ℕ
micros_of time = time / 4096

abbrev pub logical_of : ℕ → ℕ
logical_of time = time % 4096

-- the greatest reading that a clock takes, in microseconds
abbrev pub greatest_reading : ℕ
greatest_reading = 4000000000000000

-- the time after b: the reading where that is later, else one step of the logical counter, which ends at 4095
abbrev pub time_after : ℕ → ℕ → Result ℕ TimeRefusal
time_after b reading =
    if nat_lt (micros_of b) reading then Ok (time_at reading 0)
    else (if nat_eq (logical_of b) 4095 then Err (ClockFull b) else Ok (b + 1))

-- a time of its own: above the last one, above the floor, and not below the reading
abbrev pub next_time : ℕ → ℕ → ℕ → Result ℕ TimeRefusal
next_time last floor reading =
    if nat_lt greatest_reading reading then Err (ClockRange reading) else time_after (max last floor) reading

-- a time that is not below any of the three
abbrev pub least_time : ℕ → ℕ → ℕ → Result ℕ TimeRefusal
least_time last floor reading =
    if nat_lt greatest_reading reading then Err (ClockRange reading) else Ok (max (max last floor) (time_at reading 0))

-- the end of the window of a read that took this reading
abbrev pub limit_time : ℕ → ℕ → ℕ
limit_time reading skew = time_at (reading + skew) 4095
