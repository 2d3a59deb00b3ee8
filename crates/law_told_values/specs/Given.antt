-- What lines give to a history: the paths of their places, and the values that they put.
use Rattle.std.specs.Prelude.{◌≡◌, ℕ, List, [], ◌∷◌, Option, Some, None, flat_map}
use Rattle.doc_path.specs.Path.{Parts}
use Rattle.txn_data.specs.declared.place.Place.{Place}
use Rattle.txn_data.specs.declared.row.Row.{Row}
use Rattle.txn_data.specs.declared.command.Command.{Command}
use Rattle.txn_data.specs.declared.command.Command.TheVariants as command
use Rattle.txn_data.specs.declared.config.Config.{Config}
use Rattle.txn_data.specs.declared.told.Told.{Told}
use Rattle.txn_data.specs.declared.told.Told.TheVariants as told
use Rattle.txn_data.specs.declared.told_refusal.ToldRefusal.TheVariants as told_refusal
use Rattle.txn_data.specs.declared.event.Event.{Event}
use Rattle.txn_data.specs.declared.event.Event.TheVariants.{Start, Tell}
use Rattle.txn_data.specs.declared.entry.Entry.{Entry}
use Rattle.txn_types.specs.Lists.{Member}
use Rattle.txn_types.specs.History.{History}
use Rattle.txn_types.specs.Plan.{started_places}
use Rattle.txn_types.specs.Run.{Run}
use Rattle.law_machines.specs.Own.{StandsOver}

-- the value that a line puts
abbrev pub values_of : Command → List (List ℕ)
values_of (command.Put place v) = v ∷ []
values_of (command.SinglePut place v priority) = v ∷ []
values_of line = []

abbrev pub started_values : Event → List (List ℕ)
started_values (Start number line) = values_of line
started_values event = []

-- it is the path of a place of a line that was started
abbrev pub PathIsGiven : History → Parts → Type 0
PathIsGiven h path = (place : Place) × Member place (flat_map (λ (e : Entry). started_places e.event) h) × (place.path ≡ path)

-- a line that was started puts it
abbrev pub ValueIsGiven : History → List ℕ → Type 0
ValueIsGiven h v = Member v (flat_map (λ (e : Entry). started_values e.event) h)

abbrev pub FoundIsGiven : History → Option (List ℕ) → Type 0
FoundIsGiven h None = Unit {0}
FoundIsGiven h (Some v) = ValueIsGiven h v

abbrev pub RowIsGiven : History → Row → Type 0
RowIsGiven h row = PathIsGiven h row.path × FoundIsGiven h row.value

abbrev pub RowsAreGiven : History → List Row → Type 0
RowsAreGiven h rows = (row : Row) → Member row rows → RowIsGiven h row

-- the paths and values that are told
abbrev pub ToldIsGiven : History → Told → Type 0
ToldIsGiven h (told.Values at restarts rows) = RowsAreGiven h rows
ToldIsGiven h (told.Refused (told_refusal.Restart at path)) = PathIsGiven h path
ToldIsGiven h t = Unit {0}

abbrev pub EventIsGiven : History → Event → Type 0
EventIsGiven h (Tell number t) = ToldIsGiven h t
EventIsGiven h event = Unit {0}

-- what is told was given by lines that were started before
abbrev pub WhatIsToldWasGiven : Type 0
WhatIsToldWasGiven = (config : Config) (h before : History) (e : Entry) → Run config h → StandsOver e before h → EventIsGiven before e.event
