-- The words that are left of a line.
use Rattle.std.specs.Prelude.{ℕ, ◌+◌, length, if◌then◌else◌}
use Rattle.actor_words.specs.declared.words.Words.{Words}

-- how many bytes and ends of the line are left
abbrev pub size : Words → ℕ
size w = length w.left.now + (if w.is_over then 0 else 1)
