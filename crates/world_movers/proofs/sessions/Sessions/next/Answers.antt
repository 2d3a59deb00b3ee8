use Rattle.std.proofs.Common.{◌≡◌, ◌∷◌, ap, refl, sym, ◌∙◌}
use Rattle.std.proofs.Math.ListN.{set}
use Rattle.std.specs.Prelude.{is_some}
use Rattle.txn_data.specs.declared.actor.Actor.TheVariants.{Session}
use Rattle.txn_types.specs.History.{own}
use Rattle.txn_types.specs.Script.{commands_of}
use Rattle.world_movers.specs.Sessions.{SessionsStand}
use Rattle.world_movers.specs.declared.asking.Asking.{Asking}
use Rattle.world_movers.specs.declared.sessions.Sessions.{Sessions}
use Rattle.world_movers.proofs.Entries.{move_by}
use Rattle.world_movers.proofs.Placed.{get_read}
use Rattle.world_movers.proofs.Seats.{asking_at, none_next, sessions_more, sessions_same, slot_stands}
use Rattle.world_movers.proofs.sessions.Sessions.next.Goals as goal
use Rattle.world_movers.proofs.sessions.Sessions.next.Goals.{then-not-index, else-not-index}

pub returns-in_err-index-clause-none : goal.returns-in_err-index-clause-none
returns-in_err-index-clause-none c = λ config given h stand none. (none_next config given h c.args.self.now c.args.number stand (sym c.in_err-index.ensures.value), stand)

pub next-requires : goal.next-requires
next-requires c =
    let s = c.args.self.now in
    let n = c.in_ok-index.index in
    let slot = c.index_mut.result.now in
    let asking = asking_at s c.args.number n slot (sym c.in_ok-index.ensures.value) (get_read s.slots.items n slot c.in_ok-index.ensures.within c.index_mut.ensures.value) in
    ap is_some (sym asking) ∙ c.requires

pub returns-in_err-step-clause-none : goal.returns-in_err-step-clause-none
returns-in_err-step-clause-none c = λ config given h stand none.
    let s = c.args.self.now in
    let i = c.args.number in
    let n = c.in_ok-index.index in
    let slot = c.index_mut.result.now in
    let index = sym c.in_ok-index.ensures.value in
    let old = slot_stands config given h s i n slot stand index (get_read s.slots.items n slot c.in_ok-index.ensures.within c.index_mut.ensures.value) in
    let over = c.in_err-step.ensures.none config i (commands_of i given.sessions) given.all h old refl in
    (over.0, sessions_same config given h i n s _ c.next.new.self stand index refl refl refl over.1)

pub returns-clause-some : goal.returns-clause-some
returns-clause-some c = λ config given h stand here.
    let s = c.args.self.now in
    let i = c.args.number in
    let a = Session i in
    let n = c.in_ok-index.index in
    let slot = c.index_mut.result.now in
    let e = c.in_ok-step.step.entry in
    let index = sym c.in_ok-index.ensures.value in
    let old = slot_stands config given h s i n slot stand index (get_read s.slots.items n slot c.in_ok-index.ensures.within c.index_mut.ensures.value) in
    let step = c.in_ok-step.ensures.some config i (commands_of i given.sessions) given.all h old here in
    let t = c.if-not-index.self in
    let moves = move_by config a (own a h) e (λ never. never) step.0.actor step.0.allowed in
    let after : SessionsStand config given (e ∷ h) t = elim c.if-not-index.branch [
      | then-not-index w ↦ sessions_more config given h i n e s t c.next.new.self stand index moves (ap (λ (x : Sessions). x.slots.items) w.self-is) (ap (λ (x : Sessions). x.places.items) w.self-is) (ap (λ (x : Sessions). x.finished) w.self-is) step.1
      | else-not-index w ↦ sessions_more config given h i n e s t c.next.new.self stand index moves (ap (λ (x : Sessions). x.slots.items) w.self-is) (ap (λ (x : Sessions). x.places.items) w.self-is) (ap (λ (x : Sessions). x.finished) w.self-is) step.1
    ] in
    (step.0, after)
