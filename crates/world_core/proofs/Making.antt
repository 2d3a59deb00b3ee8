-- Moves of a list, one after another.
use Rattle.std.proofs.Common.{◌≡◌, List, [], ◌∷◌, ◌++◌, Err, refl, sym, subst}
use Rattle.txn_data.specs.declared.config.Config.{Config}
use Rattle.txn_data.specs.declared.move_at.MoveAt.{MoveAt}
use Rattle.txn_types.specs.History.{History}
use Rattle.txn_types.specs.Script.{actor_of}
use Rattle.mover_chain.specs.NextEvent.{Given}
use Rattle.mover_seat.specs.declared.moved.Moved.{Moved}
use Rattle.world_actors.specs.Steps.{MovesOn, Steps}
use Rattle.world_actors.specs.declared.step_refusal.StepRefusal.{StepRefusal}
use Rattle.world_actors.specs.declared.step_refusal.StepRefusal.TheVariants as refusal
use Rattle.world_core.specs.Runs.{Leads, StopsAt}

pub leads_none : (given : Given) (config : Config) (h : History) → Leads given config [] h h
unfolding Leads
leads_none given config h = refl

-- one move more at the end
pub leads_more : (given : Given) (config : Config) (ms : List MoveAt) (m : MoveAt) (h g k : History) (moved : Moved) → Leads given config ms h g → MovesOn given config m.readings (actor_of m.who) g k moved → Leads given config (ms ++ m ∷ []) h k
unfolding Leads
leads_more given config [] m h g k moved made is = (k, (moved, subst (λ (f : History). MovesOn given config m.readings (actor_of m.who) f k moved) made is), refl)
leads_more given config (x ∷ xs) m h g k moved made is = (made.0, made.1, leads_more given config xs m made.0 g k moved made.2 is)

-- a refused move changed nothing, and is refused there
refused_there : (given : Given) (config : Config) (m : MoveAt) (g k : History) (why : StepRefusal) → Steps given config m.readings (actor_of m.who) g k (Err why) → (k ≡ g) × Steps given config m.readings (actor_of m.who) g g (Err why)
refused_there given config m g k refusal.NotEnabled is = (is.0, (refl, is.1))
refused_there given config m g k refusal.Memory is = (is.0, (refl, is.1))

pub stops_at : (given : Given) (config : Config) (list before after : List MoveAt) (m : MoveAt) (h g k : History) (why : StepRefusal) → list ≡ before ++ m ∷ after → Leads given config before h g → Steps given config m.readings (actor_of m.who) g k (Err why) → StopsAt given config list h k why
stops_at given config list before after m h g k why parts made is =
    let there = refused_there given config m g k why is in
    subst (λ (f : History). StopsAt given config list h f why) (sym there.0)
    (record { before = before; refused = m; after = after; parts = parts; made = made; stopped = there.1 })
