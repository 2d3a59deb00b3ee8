-- The text of a head that is written: a line for each key, by the order of the keys.
use Rattle.std.specs.Prelude.{ℕ, List, [], ◌∷◌, ◌++◌, codes, decimal}
use Rattle.std.specs.List.{flat_map}
use Rattle.txn_data.specs.declared.config.Config.{Config}
use Rattle.cluster_config.specs.Table.{schedule_text}

-- a key and the number that stands at it
abbrev pub number_line : List ℕ → ℕ → List ℕ
number_line key n = key ++ (codes " = " ++ decimal n)

-- the numbers, parted by a comma and a space
abbrev pub listed : List ℕ → List ℕ
listed [] = []
listed (n ∷ ns) = decimal n ++ flat_map (λ m. codes ", " ++ decimal m) ns

abbrev pub head_lines : Config → List (List ℕ)
head_lines c =
    number_line (codes "lease_us") c.lease_us
    ∷ number_line (codes "nodes") c.nodes
    ∷ number_line (codes "number") c.number
    ∷ number_line (codes "passes") c.passes
    ∷ (codes "schedule = \"" ++ (schedule_text c.schedule ++ codes "\""))
    ∷ number_line (codes "skew_us") c.skew_us
    ∷ (codes "start_us = [" ++ (listed c.start_us ++ codes "]"))
    ∷ number_line (codes "status") c.status
    ∷ number_line (codes "tablets") c.tablets ∷ []

-- a line and its end
abbrev pub ended : List ℕ → List ℕ
ended line = line ++ 10 ∷ []

abbrev pub head_text : Config → List ℕ
head_text c = flat_map ended (head_lines c)
