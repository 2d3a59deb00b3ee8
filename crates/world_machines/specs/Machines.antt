-- What the machines of a cluster stand for.
use Rattle.std.specs.Prelude.{◌≡◌, ℕ, ◌^◌, Bool, false, List, Option, Some, None, length, nat_lt}
use Rattle.std.specs.List.{slice_get}
use Rattle.txn_data.specs.declared.actor.Actor.{Actor}
use Rattle.txn_data.specs.declared.actor.Actor.TheVariants.{Tablet, Status}
use Rattle.txn_data.specs.declared.config.Config.{Config}
use Rattle.txn_data.specs.declared.request.Request.{Request}
use Rattle.txn_data.specs.declared.version.Version.{Version}
use Rattle.txn_types.specs.History.{History, own}
use Rattle.law_requests.specs.Requests.{IsServable}
use Rattle.tablet_log.specs.Logged.{Store}
use Rattle.tablet_core.specs.Stands as tablet
use Rattle.tablet_core.specs.Stands.{CoreState}
use Rattle.status_tablet.specs.Stands as status
use Rattle.status_tablet.specs.Stands.{StatusState}
use Rattle.regular_records.specs.Holding.{Holds}

-- the machines, as contracts see them: the tablets and the status tablets by number, and the stores that no actor uses
pub record MachinesState (L : Type 0) : Type 0 where
  pub tablets : List (CoreState (List Version))
  pub statuses : List StatusState
  pub spare : List L

-- tablet `k` of a cluster, after its own entries of a history, over what its store began with
pub record TabletStands (config : Config) (start : Store) (h : History) (k : ℕ) (t : CoreState (List Version)) : Type 0 where
  pub number : t.tablet ≡ k
  pub lease : t.log.clock.lease ≡ config.lease_us
  pub stands : tablet.Stands Holds t start.held start.faults (own (Tablet k) h)

-- status tablet `j`, the same
pub record StatusStands (config : Config) (start : Store) (h : History) (j : ℕ) (t : StatusState) : Type 0 where
  pub number : t.status ≡ j
  pub lease : t.log.clock.lease ≡ config.lease_us
  pub stands : status.Stands t start.held start.faults (own (Status j) h)

-- the elements of a list, as many as there are places, and each right for its place
pub record EachAt {X : Type 0} (right : ℕ → X → Type 0) (n : ℕ) (xs : List X) : Type 0 where
  pub as_many : length xs ≡ n
  pub each : (k : ℕ) (x : X) → slice_get xs k ≡ Some x → right k x

-- The machines of this cluster, each after its own entries of this history, over what its store held and had counted at the
-- beginning. The spare stores are these.
pub record StandsFor {L : Type 0} (config : Config) (start : Actor → Store) (spare : List L) (h : History) (m : MachinesState L) : Type 0 where
  pub tablets : EachAt (λ k t. TabletStands config (start (Tablet k)) h k t) config.tablets m.tablets
  pub statuses : EachAt (λ j t. StatusStands config (start (Status j)) h j t) config.status m.statuses
  pub rest : m.spare ≡ spare

-- how many actions the machine of an actor has made, if there is one
abbrev pub tablet_actions : Option (CoreState (List Version)) → Option ℕ
tablet_actions None = None
tablet_actions (Some t) = Some t.log.actions

abbrev pub status_actions : Option StatusState → Option ℕ
status_actions None = None
status_actions (Some t) = Some t.log.actions

abbrev pub actions_of : {L : Type 0} → MachinesState L → Actor → Option ℕ
actions_of m (Tablet k) = tablet_actions (slice_get m.tablets k)
actions_of m (Status j) = status_actions (slice_get m.statuses j)
actions_of m a = None

-- a machine makes fewer than 2^62 actions
abbrev pub are_few : Option ℕ → Bool
are_few None = false
are_few (Some n) = nat_lt n (2 ^ 62)

-- there is such a machine, and it may make one action more
abbrev pub has_room : {L : Type 0} → MachinesState L → Actor → Bool
has_room m a = are_few (actions_of m a)

-- a request may be served by the machine of this actor: it may in a cluster with as many machines
pub record MayServe {L : Type 0} (m : MachinesState L) (by : Actor) (asked : Request) : Type 0 where
  pub config : Config
  pub tablets : length m.tablets ≡ config.tablets
  pub statuses : length m.statuses ≡ config.status
  pub servable : IsServable config by asked
