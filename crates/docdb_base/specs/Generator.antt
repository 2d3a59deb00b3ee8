-- The generator of numbers: each draw is the upper half of the next state.
use Rattle.std.specs.Prelude.{ℕ, ◌+◌, ◌*◌, ◌/◌, ◌%◌, ◌^◌}

abbrev pub next_state : ℕ → ℕ
next_state x = (x * 6364136223846793005 + 1442695040888963407) % 2 ^ 64

abbrev pub draw_of : ℕ → ℕ
draw_of x = x / 2 ^ 32
