-- Which calls of a form in memory do what its script says.
use Rattle.std.specs.Prelude.{ℕ, Bool, ◌==◌, List}
use Rattle.std.specs.List.{list_any}

-- the call with this number is in the list; the first call is number 1
abbrev pub is_listed : List ℕ → ℕ → Bool
is_listed calls number = list_any (λ call. call == number) calls
