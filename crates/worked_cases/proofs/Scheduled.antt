-- Whether readings are as they were told, by a test that computes, and moves those of a schedule, by what each part comes to.
use Rattle.std.proofs.Common.{◌≡◌, ℕ, Bool, true, ◌&&◌, [], ◌∷◌, Option, Some, None, nat_eq, List, ◌++◌}
use Rattle.std.proofs.lemmas.Bool.{eqb-true, and_parts}
use Rattle.txn_data.specs.declared.actor.Actor.{Actor}
use Rattle.txn_data.specs.declared.config.Config.{Config}
use Rattle.txn_types.specs.History.{History}
use Rattle.txn_types.specs.Script.{ReadsRight, ReadingsAsTold, reading_of, node_of}

abbrev is_right : ℕ → Option ℕ → Bool
is_right reading None = true
is_right reading (Some recorded) = nat_eq recorded reading

abbrev pub readings_fit : Config → History → Bool
readings_fit config [] = true
readings_fit config (e ∷ h) = readings_fit config h && is_right (reading_of config (node_of config e.actor) h) e.reading

right : (reading : ℕ) (recorded : Option ℕ) → is_right reading recorded ≡ true → ReadsRight reading recorded
right reading None is = tt
right reading (Some recorded) is = eqb-true recorded reading is

pub as_told : (config : Config) (h : History) → readings_fit config h ≡ true → ReadingsAsTold config h
unfolding ReadingsAsTold
as_told config [] is = tt
as_told config (e ∷ h) is =
    let now = reading_of config (node_of config e.actor) h in
    let parts = and_parts (readings_fit config h) (is_right now e.reading) is in
    (as_told config h parts.0, right now e.reading parts.1)

-- the moves of the schedule, and then those of the last passes
pub by_schedule : {all first last due due_last : List Actor} → all ≡ first ++ last → due ≡ first → due_last ≡ last → all ≡ due ++ due_last
by_schedule are by ends = rw by (rw ends are)
