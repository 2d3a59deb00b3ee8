-- What is asked at a place of a trace, and that it may be served.
use Rattle.std.proofs.Common.{◌≡◌, ℕ, ◌≤◌, ◌<◌, true, false, List, Some, option_and_then, length, is_some, reverse, refl, sym, ◌∙◌, ap, subst}
use Rattle.std.specs.List.{slice_get}
use Rattle.std.proofs.Math.Bool.{Bool-set}
use Rattle.std.proofs.Math.Bridge.{le_prop}
use Rattle.std.proofs.Math.Logic.{∥∥₁_elim}
use Rattle.std.proofs.Math.Nat.{ℕ_set}
use Rattle.txn_data.specs.declared.actor.Actor.{Actor}
use Rattle.txn_data.specs.declared.config.Config.{Config}
use Rattle.txn_data.specs.declared.entry.Entry.{Entry}
use Rattle.txn_data.specs.declared.found.Found.{Found}
use Rattle.txn_data.specs.declared.mover.Mover.{Mover}
use Rattle.txn_data.specs.declared.reply.Reply.{Reply}
use Rattle.txn_data.specs.declared.reply.Reply.TheVariants as reply
use Rattle.txn_data.specs.declared.request.Request.{Request}
use Rattle.txn_types.specs.History.{History}
use Rattle.txn_types.specs.Run.{Asked, flight}
use Rattle.txn_types.specs.Script.{actor_of, node_of}
use Rattle.law_requests.specs.Requests.{IsServable}
use Rattle.session_core.specs.Lines.{is_listed}
use Rattle.tablet_log.specs.Logged.{Store}
use Rattle.world_machines.specs.Machines as machines
use Rattle.world_machines.specs.Machines.{MachinesState, MayServe}
use Rattle.world_machines.specs.Served.{IsServed}
use Rattle.world_movers.specs.Asked.{IsAsking}
use Rattle.world_movers.specs.Movers.{takes_lists}
use Rattle.world_movers.specs.declared.asking.Asking.{Asking}
use Rattle.world_actors.specs.State.{ActorsState}
use Rattle.world_actors.specs.Standing.{Awaits, StandForSome, asked_at, asked_in}
use Rattle.world_actors.proofs.Beside.{listed_lists, servable_of}
use Rattle.world_actors.proofs.Props.{machine_prop, small_prop, table_prop}
use Rattle.world_actors.proofs.Recorded.{at_place}
use Rattle.world_actors.proofs.Running.{served_runs}
use Rattle.world_actors.proofs.Stepping.{node_within}

-- ## what is asked at a place

pub asked_there : (entries : List Entry) (a : Actor) (asking : Asking) (is : IsAsking (reverse entries) a asking) → asked_at entries asking.at ≡ Some is.request
asked_there entries a asking is =
    ap (option_and_then (λ (e : Entry). asked_in e.event))
    (subst (λ n. slice_get entries n ≡ Some is.entry) is.at.before (at_place entries is.at.later is.at.earlier is.entry is.at.parts))
    ∙ ap asked_in is.asks

same_some : (x y : Request) → Some x ≡ Some y → x ≡ y
same_some x y is = cc

-- what stands there is on its way
pub flies : (entries : List Entry) (a : Actor) (asking : Asking) (request : Request) → IsAsking (reverse entries) a asking → asked_at entries asking.at ≡ Some request → flight a (reverse entries) ≡ Asked asking.to request
flies entries a asking request is there =
    is.flight ∙ ap (λ (r : Request). Asked asking.to r) (same_some is.request request (sym (asked_there entries a asking is) ∙ there))

-- ## for whoever stands for some lines and stores

pub some_nodes : {L : Type 0} (h : History) (a : ActorsState L) → ∥ StandForSome h a ∥₁ → 1 ≤ a.config.nodes
some_nodes h a stand = ∥∥₁_elim stand le_prop (λ s. subst (λ (c : Config). 1 ≤ c.nodes) (sym s.standing.cluster) s.standing.run.0.nodes.0)

pub reads_within : {L : Type 0} (h : History) (a : ActorsState L) (of : Actor) (readings : List ℕ) → ∥ StandForSome h a ∥₁ → length readings ≡ a.config.nodes → node_of a.config of < length readings
reads_within h a of readings stand as_many =
    subst (λ n. node_of a.config of < n) (sym as_many)
    (∥∥₁_elim stand le_prop (λ s. subst (λ (c : Config). node_of c of < c.nodes) (sym s.standing.cluster) (node_within s.config of s.standing.run.0)))

pub is_asked : {L : Type 0} (entries : List Entry) (who : Mover) (asking : Asking) (a : ActorsState L) → ∥ StandForSome (reverse entries) a ∥₁ → Awaits (reverse entries) a.movers who asking → is_some (asked_at entries asking.at) ≡ true
is_asked entries who asking a stand awaits =
    ∥∥₁_elim stand (Bool-set (is_some (asked_at entries asking.at)) true)
    (λ s. ap is_some (asked_there entries (actor_of who) asking (awaits.asks s.config s.given s.standing.movers)))

servable_in : {L : Type 0} (entries : List Entry) (who : Mover) (asking : Asking) (request : Request) (a : ActorsState L) → Awaits (reverse entries) a.movers who asking → asked_at entries asking.at ≡ Some request → StandForSome (reverse entries) a → IsServable a.config asking.to request
servable_in entries who asking request a awaits there s =
    subst (λ (c : Config). IsServable c asking.to request) (sym s.standing.cluster)
    (servable_of s.config (reverse entries) (actor_of who) asking.to request s.standing.run (flies entries (actor_of who) asking request (awaits.asks s.config s.given s.standing.movers) there))

-- the machine that was asked may serve the request
pub may : {L : Type 0} (entries : List Entry) (who : Mover) (asking : Asking) (request : Request) (a : ActorsState L) → ∥ StandForSome (reverse entries) a ∥₁ → Awaits (reverse entries) a.movers who asking → asked_at entries asking.at ≡ Some request → MayServe a.machines asking.to request
may entries who asking request a stand awaits there = record {
  config = a.config;
  tablets = ∥∥₁_elim stand (ℕ_set (length a.machines.tablets) a.config.tablets) (λ s. s.standing.machines.tablets.as_many ∙ ap (λ (c : Config). c.tablets) (sym s.standing.cluster));
  statuses = ∥∥₁_elim stand (ℕ_set (length a.machines.statuses) a.config.status) (λ s. s.standing.machines.statuses.as_many ∙ ap (λ (c : Config). c.status) (sym s.standing.cluster));
  servable = record {
    machine = ∥∥₁_elim stand (machine_prop a.config asking.to) (λ s. (servable_in entries who asking request a awaits there s).machine);
    table = ∥∥₁_elim stand (table_prop asking.to request) (λ s. (servable_in entries who asking request a awaits there s).table);
    small = ∥∥₁_elim stand (small_prop request) (λ s. (servable_in entries who asking request a awaits there s).small);
  };
}

-- ## a list that is answered

unlisted : false ≡ true → ⊥
unlisted is = cc

listed_is : (r : Reply) → is_listed r ≡ true → (limit : ℕ) × (others : List Found) × (r ≡ reply.Listed limit others)
listed_is (reply.Listed limit others) is = (limit, others, refl)
listed_is (reply.Others fs) is = absurd (unlisted is)
listed_is (reply.Written t) is = absurd (unlisted is)
listed_is (reply.SingleDone t) is = absurd (unlisted is)
listed_is (reply.Collected rows) is = absurd (unlisted is)
listed_is (reply.Met t path) is = absurd (unlisted is)
listed_is (reply.Intents fs) is = absurd (unlisted is)
listed_is reply.AppliedHere is = absurd (unlisted is)
listed_is reply.Cleaned is = absurd (unlisted is)
listed_is reply.Begun is = absurd (unlisted is)
listed_is (reply.FateIs f) is = absurd (unlisted is)
listed_is (reply.Committed t) is = absurd (unlisted is)
listed_is (reply.AbortedBy x) is = absurd (unlisted is)
listed_is reply.Gone is = absurd (unlisted is)
listed_is reply.Ended is = absurd (unlisted is)
listed_is reply.Noted is = absurd (unlisted is)
listed_is (reply.Restarted kept) is = absurd (unlisted is)
listed_is (reply.Refused why) is = absurd (unlisted is)

-- the mover takes it
pub takes : {L : Type 0} (entries : List Entry) (who : Mover) (asking : Asking) (request : Request) (reading : ℕ) (r : Reply) (e : Entry) (a : ActorsState L) → ∥ StandForSome (reverse entries) a ∥₁ → Awaits (reverse entries) a.movers who asking → asked_at entries asking.at ≡ Some request →
    ((config : Config) (start : Actor → Store) (spare : List L) → machines.StandsFor config start spare (reverse entries) a.machines → IsServed config asking.to (actor_of who) request reading (reverse entries) r e) →
    is_listed r ≡ true → takes_lists a.movers who ≡ true
takes entries who asking request reading r e a stand awaits there served listed =
    ∥∥₁_elim stand (Bool-set (takes_lists a.movers who) true) (λ s.
    let h = reverse entries in
    let on_its_way = flies entries (actor_of who) asking request (awaits.asks s.config s.given s.standing.movers) there in
    let is = served s.config s.start s.spare s.standing.machines in
    let list = listed_is r listed in
    let as_listed = subst (λ (x : Reply). IsServed s.config asking.to (actor_of who) request reading h x e) list.2 is in
    let run = served_runs s.config h e asking.to s.standing.run is.actor is.allowed (is.matches on_its_way) in
    awaits.listing s.config s.given asking.to request s.standing.movers on_its_way
    (listed_lists s.config h (actor_of who) asking.to request reading list.0 list.1 e run on_its_way as_listed))
