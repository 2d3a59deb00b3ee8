-- What one step leaves, in the caller's trace.
use Rattle.std.proofs.Common.{◌≡◌, ℕ, ◌^◌, true, List, [], ◌∷◌, ◌++◌, Some, Ok, length, nat_lt, reverse, sym, ◌∙◌, ap, subst}
use Rattle.txn_data.specs.declared.actor.Actor.{Actor}
use Rattle.txn_data.specs.declared.config.Config.{Config}
use Rattle.txn_data.specs.declared.entry.Entry.{Entry}
use Rattle.txn_data.specs.declared.mover.Mover.{Mover}
use Rattle.txn_data.specs.declared.reply.Reply.{Reply}
use Rattle.txn_data.specs.declared.request.Request.{Request}
use Rattle.txn_types.specs.History.{History, own}
use Rattle.txn_types.specs.Run.{IsMachine, flight}
use Rattle.txn_types.specs.Script.{actor_of, node_of, number_at}
use Rattle.tablet_log.specs.Logged.{Store}
use Rattle.mover_chain.specs.NextEvent.{Given, next_event}
use Rattle.mover_seat.specs.Stage.{awaited}
use Rattle.mover_seat.specs.Step.{HearsMemory, IsStep}
use Rattle.mover_seat.specs.declared.moved.Moved.TheVariants as moved
use Rattle.mover_seat.specs.declared.step.Step.{Step}
use Rattle.world_machines.specs.Machines as machines
use Rattle.world_machines.specs.Served.{IsServed}
use Rattle.world_movers.specs.Asked.{IsAnswer}
use Rattle.world_movers.specs.Movers as movers
use Rattle.world_movers.specs.declared.asking.Asking.{Asking}
use Rattle.world_actors.specs.State.{ActorsState}
use Rattle.world_actors.specs.Standing.{AreStanding, Awaits, AwaitsNone, HasEvent, StepsOn, asked_at}
use Rattle.world_actors.proofs.Asking.{flies}
use Rattle.world_actors.proofs.Beside.{is_answer, recorded_more, servable_of}
use Rattle.world_actors.proofs.Stepping.{hears_memory, next_made, serves}

-- one entry more in the trace
made_more : (entries kept made : List Entry) (e : Entry) → kept ≡ entries → made ≡ kept ++ e ∷ [] → e ∷ reverse entries ≡ reverse made
made_more entries kept made e same is = sym (ap reverse (is ∙ ap (λ (l : List Entry). l ++ e ∷ []) same) ∙ recorded_more entries e)

pub next_recorded : {L : Type 0} {before after : ActorsState L} (config : Config) (given : Given) (start : Actor → Store) (spare : List L) (readings : List ℕ) (who : Mover) (entries kept made : List Entry) (reading : ℕ) (step : Step) →
    kept ≡ entries → made ≡ kept ++ step.entry ∷ [] → AreStanding config given start spare (reverse entries) before → AwaitsNone (reverse entries) before.movers who → reading ≡ number_at (node_of config (actor_of who)) readings →
    after.config ≡ before.config → after.machines ≡ before.machines →
    (IsStep config (actor_of who) (next_event given config (actor_of who) (reverse entries)) reading (own (actor_of who) (reverse entries)) (flight (actor_of who) (reverse entries)) step × movers.StandsFor config given (step.entry ∷ reverse entries) after.movers) →
    StepsOn config given start spare readings (actor_of who) (reverse entries) (reverse made) (Ok step.moved) after
next_recorded {L} {before} {after} config given start spare readings who entries kept made reading step same is stands awaits right cluster beside next =
    subst (λ (g : History). StepsOn config given start spare readings (actor_of who) (reverse entries) g (Ok step.moved) after) (made_more entries kept made step.entry same is)
    (next_made config given start spare readings who (reverse entries) reading step before after stands awaits right cluster beside next.1 next.0)

pub lost_recorded : {L : Type 0} {before after : ActorsState L} (config : Config) (given : Given) (start : Actor → Store) (spare : List L) (readings : List ℕ) (who : Mover) (asking : Asking) (request : Request) (entries kept made : List Entry) (step : Step) →
    kept ≡ entries → made ≡ kept ++ step.entry ∷ [] → AreStanding config given start spare (reverse entries) before → Awaits (reverse entries) before.movers who asking → asked_at entries asking.at ≡ Some request →
    (IsMachine config asking.to → nat_lt (length (own asking.to (reverse entries))) (2 ^ 62) ≡ true) →
    after.config ≡ before.config → machines.StandsFor config start spare (reverse entries) after.machines →
    (awaited (flight (actor_of who) (reverse entries)) ≡ Some asking.to →
    HearsMemory config (actor_of who) (next_event given config (actor_of who) (reverse entries)) (own (actor_of who) (reverse entries)) asking.to step × movers.StandsFor config given (step.entry ∷ reverse entries) after.movers) →
    StepsOn config given start spare readings (actor_of who) (reverse entries) (reverse made) (Ok step.moved) after
lost_recorded {L} {before} {after} config given start spare readings who asking request entries kept made step same is stands awaits there room cluster machines_kept lost =
    let h = reverse entries in
    let way = flies entries (actor_of who) asking request (awaits.asks config given stands.movers) there in
    let machine = (servable_of config h (actor_of who) asking.to request stands.run way).machine in
    let hears = lost (ap awaited way) in
    subst (λ (g : History). StepsOn config given start spare readings (actor_of who) h g (Ok step.moved) after) (made_more entries kept made step.entry same is)
    (hears_memory config given start spare readings who h asking.to request step before after stands way (room machine) cluster machines_kept hears.1 hears.0)

pub serve_recorded : {L : Type 0} {before after : ActorsState L} (config : Config) (given : Given) (start : Actor → Store) (spare : List L) (readings : List ℕ) (who : Mover) (asking : Asking) (request : Request) (entries kept made : List Entry) (reading : ℕ) (r : Reply) (e : Entry) →
    kept ≡ entries → made ≡ kept ++ e ∷ [] → AreStanding config given start spare (reverse entries) before → HasEvent (reverse entries) before.movers who → Awaits (reverse entries) before.movers who asking → asked_at entries asking.at ≡ Some request →
    (IsMachine config asking.to → nat_lt (length (own asking.to (reverse entries))) (2 ^ 62) ≡ true) →
    reading ≡ number_at (node_of config asking.to) readings →
    after.config ≡ before.config → (IsServed config asking.to (actor_of who) request reading (reverse entries) r e × machines.StandsFor config start spare (e ∷ reverse entries) after.machines) →
    (IsAnswer config (reverse entries) (actor_of who) r e → movers.StandsFor config given (e ∷ reverse entries) after.movers) →
    StepsOn config given start spare readings (actor_of who) (reverse entries) (reverse made) (Ok moved.Event) after
serve_recorded {L} {before} {after} config given start spare readings who asking request entries kept made reading r e same is stands left awaits there room right cluster served answered =
    let h = reverse entries in
    let way = flies entries (actor_of who) asking request (awaits.asks config given stands.movers) there in
    let machine = (servable_of config h (actor_of who) asking.to request stands.run way).machine in
    subst (λ (g : History). StepsOn config given start spare readings (actor_of who) h g (Ok moved.Event) after) (made_more entries kept made e same is)
    (serves config given start spare readings who h asking.to request reading r e before after stands left way (room machine) machine right cluster served.1
    (answered (is_answer config h (actor_of who) asking.to request reading r e machine way served.0)) served.0)
