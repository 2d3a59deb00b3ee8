-- What a head says: the configuration of its table, or why it is refused.
use Rattle.std.specs.Prelude.{◌≡◌, ◌≤◌, ◌∷◌, ◌&&◌, ◌||◌, ◌==◌, ℕ, ℤ, pos, negsuc, Bool, true, List, [], length, replicate}
use Rattle.std.specs.Prelude.{Option, Some, None, Result, Ok, Err, codes, if◌then◌else◌, option_and_then, option_map, nat_le}
use Rattle.std.specs.List.{All}
use Rattle.std.specs.Str.{bytes_eq}
use Rattle.toml.specs.Data.{Data, Items, no_items, item, Members, no_members, member, as_array, as_integer, as_str, get_member}
use Rattle.toml.specs.Parse.{parse_document}
use Rattle.txn_data.specs.declared.config.Config.{Config}
use Rattle.txn_data.specs.declared.schedule.Schedule.{Schedule}
use Rattle.txn_data.specs.declared.schedule.Schedule.TheVariants.{Serial, Go, Drawn}
use Rattle.txn_types.specs.Plan.{IsCluster}
use Rattle.cluster_config.specs.declared.head_refusal.HeadRefusal.{HeadRefusal}
use Rattle.cluster_config.specs.declared.head_refusal.HeadRefusal.TheVariants.{HeadText, HeadKey, HeadValue}

-- ---- keys

-- the keys of a head
abbrev pub is_listed : List ℕ → Bool
is_listed key = bytes_eq key (codes "nodes") || bytes_eq key (codes "tablets") || bytes_eq key (codes "status")
    || bytes_eq key (codes "skew_us") || bytes_eq key (codes "lease_us") || bytes_eq key (codes "start_us")
    || bytes_eq key (codes "schedule") || bytes_eq key (codes "number") || bytes_eq key (codes "passes")

-- a head has each key of the table; what stands in tables below it does not matter here
abbrev pub has_listed_keys : Members → Bool
has_listed_keys no_members = true
has_listed_keys (member key value rest) = is_listed key && has_listed_keys rest

-- ---- values

-- the largest whole number of a head, which is the largest of TOML
abbrev pub largest : ℕ
largest = 9223372036854775807

-- the integer, where it lies from low to high
abbrev pub whole_in : ℕ → ℕ → ℤ → Option ℕ
whole_in low high (pos n) = if nat_le low n && nat_le n high then Some n else None
whole_in low high (negsuc n) = None

-- the whole number of a key, where what stands there is one from low to high
abbrev pub number_or : ℕ → ℕ → ℕ → Option Data → Option ℕ
number_or low high default None = Some default
number_or low high default (Some value) = option_and_then (whole_in low high) (as_integer value)

abbrev pub schedule_named : List ℕ → Option Schedule
schedule_named name =
    if bytes_eq name (codes "serial") then Some Serial
    else if bytes_eq name (codes "go") then Some Go
    else if bytes_eq name (codes "drawn") then Some Drawn
    else None

abbrev pub schedule_or : Option Data → Option Schedule
schedule_or None = Some Serial
schedule_or (Some value) = option_and_then schedule_named (as_str value)

-- the items, where each is a whole number
abbrev pub whole_numbers : Items → Option (List ℕ)
whole_numbers no_items = Some []
whole_numbers (item value rest) = option_and_then (λ n. option_map (λ ns. n ∷ ns) (whole_numbers rest))
    (option_and_then (whole_in 0 largest) (as_integer value))

abbrev pub if_as_many : ℕ → List ℕ → Option (List ℕ)
if_as_many nodes ns = if length ns == nodes then Some ns else None

-- one first reading for each node
abbrev pub readings_or : ℕ → Option Data → Option (List ℕ)
readings_or nodes None = Some (replicate nodes 1000000)
readings_or nodes (Some value) = option_and_then (λ ds. option_and_then (if_as_many nodes) (whole_numbers ds)) (as_array value)

-- ---- the head

-- the configuration with these nodes and first readings
abbrev pub config_with : Members → ℕ → List ℕ → Option Config
config_with t nodes start_us =
    option_and_then (λ tablets.
    option_and_then (λ status.
    option_and_then (λ passes.
    option_and_then (λ skew_us.
    option_and_then (λ lease_us.
    option_and_then (λ number.
    option_map (λ schedule. record {
      nodes = nodes;
      tablets = tablets;
      status = status;
      passes = passes;
      skew_us = skew_us;
      lease_us = lease_us;
      number = number;
      start_us = start_us;
      schedule = schedule;
    })
    (schedule_or (get_member (codes "schedule") t)))
    (number_or 0 largest 0 (get_member (codes "number") t)))
    (number_or 1 60000000 2000000 (get_member (codes "lease_us") t)))
    (number_or 0 10000000 500000 (get_member (codes "skew_us") t)))
    (number_or 0 1000 0 (get_member (codes "passes") t)))
    (number_or 1 16 1 (get_member (codes "status") t)))
    (number_or 1 64 1 (get_member (codes "tablets") t))

-- the configuration of a table, where each of its values is as its key wants
abbrev pub config_in : Members → Option Config
config_in t =
    option_and_then (λ nodes. option_and_then (config_with t nodes) (readings_or nodes (get_member (codes "start_us") t)))
    (number_or 1 16 1 (get_member (codes "nodes") t))

abbrev pub or_refused : Option Config → Result Config HeadRefusal
or_refused None = Err HeadValue
or_refused (Some config) = Ok config

abbrev pub head_of_table : Members → Result Config HeadRefusal
head_of_table t = if has_listed_keys t then or_refused (config_in t) else Err HeadKey

abbrev pub head_of_document : Option Members → Result Config HeadRefusal
head_of_document None = Err HeadText
head_of_document (Some t) = head_of_table t

-- what a text says as a head
abbrev pub head_of : List ℕ → Result Config HeadRefusal
head_of text = head_of_document (parse_document text)

-- the configuration is one that a head can spell
pub record IsSpelled (c : Config) : Type 0 where
  pub cluster : IsCluster c
  pub number : c.number ≤ largest
  pub readings : All (λ n. n ≤ largest) c.start_us
  pub as_many : length c.start_us ≡ c.nodes
