-- Where the lines of a plan send what they write, in every run.
use Rattle.std.specs.Prelude.{◌≡◌, List, flat_map}
use Rattle.doc_path.specs.Path.{Parts}
use Rattle.txn_data.specs.declared.actor.Actor.{Actor}
use Rattle.txn_data.specs.declared.actor.Actor.TheVariants.{Tablet}
use Rattle.txn_data.specs.declared.config.Config.{Config}
use Rattle.txn_data.specs.declared.place.Place.{Place}
use Rattle.txn_data.specs.declared.request.Request.TheVariants as request
use Rattle.txn_data.specs.declared.event.Event.{Event}
use Rattle.txn_data.specs.declared.event.Event.TheVariants.{Serve}
use Rattle.txn_data.specs.declared.entry.Entry.{Entry}
use Rattle.txn_types.specs.Lists.{Member}
use Rattle.txn_types.specs.History.{History}
use Rattle.txn_types.specs.Plan.{IsPath, started_places}
use Rattle.txn_types.specs.Run.{Run}
use Rattle.law_machines.specs.Own.{StandsOver}

-- the places of all lines that were started
abbrev pub started : History → List Place
started h = flat_map (λ (e : Entry). started_places e.event) h

-- the tablet and the path are those of a place that a started line names
abbrev pub IsPlace : History → Actor → Parts → Type 0
IsPlace h a path = (place : Place) × Member place (started h) × (a ≡ Tablet place.tablet) × (place.path ≡ path) × IsPath path

abbrev pub IsPlaced : History → Actor → Event → Type 0
IsPlaced h a (Serve from (request.Write meta number path op read seen fates) r time append) = IsPlace h a path
IsPlaced h a (Serve from (request.Single x path op seen fates) r time append) = IsPlace h a path
IsPlaced h a event = Unit {0}

-- a write goes to the tablet of a place that a line named before, with its path
abbrev pub WritesArePlaced : Type 0
WritesArePlaced = (config : Config) (h before : History) (e : Entry) → Run config h → StandsOver e before h → IsPlaced before e.actor e.event
