-- What a cluster and the lines of a plan have to be.
use Rattle.std.specs.Prelude.{◌≡◌, ℕ, ◌<◌, ◌≤◌, List, [], ◌∷◌, All, Option, Some, None, flat_map, length}
use Rattle.doc_path.specs.Path.{Parts}
use Rattle.txn_data.specs.declared.actor.Actor.{Actor}
use Rattle.txn_data.specs.declared.actor.Actor.TheVariants.{Tablet, Status}
use Rattle.txn_data.specs.declared.place.Place.{Place}
use Rattle.txn_data.specs.declared.command.Command.{Command}
use Rattle.txn_data.specs.declared.command.Command.TheVariants as command
use Rattle.txn_data.specs.declared.session_plan.SessionPlan.{SessionPlan}
use Rattle.txn_data.specs.declared.commands.Commands.{Commands}
use Rattle.txn_data.specs.declared.config.Config.{Config}
use Rattle.txn_data.specs.declared.event.Event.{Event}
use Rattle.txn_data.specs.declared.event.Event.TheVariants.{Start}
use Rattle.txn_data.specs.declared.entry.Entry.{Entry}
use Rattle.txn_types.specs.Lists.{Member}
use Rattle.txn_types.specs.History.{History}

-- the limits of a cluster
pub record IsCluster (config : Config) : Type 0 where
  pub nodes : (1 ≤ config.nodes) × (config.nodes ≤ 16)
  pub tablets : (1 ≤ config.tablets) × (config.tablets ≤ 64)
  pub status : (1 ≤ config.status) × (config.status ≤ 16)
  pub passes : config.passes ≤ 1000
  pub skew : config.skew_us ≤ 10000000
  pub lease : (1 ≤ config.lease_us) × (config.lease_us ≤ 60000000)

-- a part of a path, or a value: 1 to 65,536 bytes
abbrev pub IsShort : List ℕ → Type 0
IsShort bytes = (1 ≤ length bytes) × (length bytes ≤ 65536)

-- one to five such parts
abbrev pub IsPath : Parts → Type 0
IsPath p = (1 ≤ length p) × (length p ≤ 5) × All IsShort p

-- a place of a tablet that is there
abbrev pub IsPlace : Config → Place → Type 0
IsPlace config p = (p.tablet < config.tablets) × IsPath p.path

-- an actor that can restart
abbrev pub CanRestart : Config → Actor → Type 0
CanRestart config (Tablet k) = k < config.tablets
CanRestart config (Status j) = j < config.status
CanRestart config a = ⊥

-- a line that a plan may have
abbrev pub IsLine : Config → Command → Type 0
IsLine config (command.Begin priority) = Unit {0}
IsLine config (command.Put place v) = IsPlace config place × IsShort v
IsLine config (command.Del place) = IsPlace config place
IsLine config command.Commit = Unit {0}
IsLine config command.Abort = Unit {0}
IsLine config (command.Read strict places) = (1 ≤ length places) × (length places ≤ 16) × All (IsPlace config) places
IsLine config (command.Scan strict place) = IsPlace config place
IsLine config (command.SinglePut place v priority) = IsPlace config place × IsShort v
IsLine config (command.SingleDel place priority) = IsPlace config place
IsLine config (command.Restart actor) = CanRestart config actor
IsLine config (command.Apply tablet) = tablet < config.tablets
IsLine config (command.Clock node micros) = node < config.nodes
IsLine config command.End = ⊥

-- a session: its number is 1 to 1,000
abbrev pub IsSession : ℕ → Type 0
IsSession i = (1 ≤ i) × (i ≤ 1000)

-- the places that a line names
abbrev pub places_of : Command → List Place
places_of (command.Put place v) = place ∷ []
places_of (command.Del place) = place ∷ []
places_of (command.Read strict places) = places
places_of (command.Scan strict place) = place ∷ []
places_of (command.SinglePut place v priority) = place ∷ []
places_of (command.SingleDel place priority) = place ∷ []
places_of line = []

-- places with equal first parts of their paths name one tablet: a document belongs to one
abbrev pub first_part : Parts → Option (List ℕ)
first_part [] = None
first_part (part ∷ more) = Some part

abbrev pub OneTablet : List Place → Type 0
OneTablet places = (p q : Place) → Member p places → Member q places → first_part p.path ≡ first_part q.path → p.tablet ≡ q.tablet

-- the places of all lines that were started
abbrev pub started_places : Event → List Place
started_places (Start number line) = places_of line
started_places event = []

abbrev pub PlacesAgree : History → Type 0
PlacesAgree h = OneTablet (flat_map (λ (e : Entry). started_places e.event) h)

-- what a plan has to be: sessions by rising number, each with lines of the cluster, and each document on one tablet
abbrev pub plan_places : SessionPlan → List Place
plan_places p = flat_map places_of p.commands

unfoldable pub AreRising : List SessionPlan → Type 0
AreRising [] = Unit {0}
AreRising (p ∷ []) = Unit {0}
AreRising (p ∷ q ∷ more) = (p.session < q.session) × AreRising (q ∷ more)

abbrev pub IsSessionPlan : Config → SessionPlan → Type 0
IsSessionPlan config p = IsSession p.session × (length p.commands ≤ 4000000000) × All (IsLine config) p.commands

pub record IsPlan (config : Config) (plan : Commands) : Type 0 where
  pub rising : AreRising plan.sessions
  pub sessions : All (IsSessionPlan config) plan.sessions
  pub one_tablet : OneTablet (flat_map plan_places plan.sessions)
