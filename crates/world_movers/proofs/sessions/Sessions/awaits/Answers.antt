use Rattle.std.proofs.Common.{◌≡◌, ap, sym, ◌∙◌}
use Rattle.std.specs.Prelude.{is_some}
use Rattle.txn_data.specs.declared.actor.Actor.TheVariants.{Session}
use Rattle.txn_types.specs.Run.{Flight, Quiet, Asked, flight}
use Rattle.txn_types.specs.Script.{commands_of}
use Rattle.mover_seat.specs.Stage.{awaited}
use Rattle.world_movers.specs.Sessions.{reads_in}
use Rattle.world_movers.proofs.Placed.{get_read}
use Rattle.world_movers.proofs.Seats.{asking_at, silent_of, slot_at, slot_stands}
use Rattle.world_movers.proofs.sessions.Sessions.awaits.Goals as goal

pub returns-in_err-index-clause-none : goal.returns-in_err-index-clause-none
returns-in_err-index-clause-none c = λ config given h stand none.
    let silent = silent_of config given h c.args.self.now c.args.number stand (sym c.in_err-index.ensures.value) in
    ap (λ (f : Flight). is_some (awaited f)) silent.flight

pub returns-in_err-index-clause-listing : goal.returns-in_err-index-clause-listing
returns-in_err-index-clause-listing c = λ config given h to asked stand asks lists.
    let silent = silent_of config given h c.args.self.now c.args.number stand (sym c.in_err-index.ensures.value) in
    let never : Quiet ≡ Asked to asked = sym silent.flight ∙ asks in
    cc

pub returns-clause-value : goal.returns-clause-value
returns-clause-value c =
    let s = c.args.self.now in
    let n = c.in_ok-index.index in
    c.awaits.ensures.value ∙ sym (asking_at s c.args.number n c.index.result.now (sym c.in_ok-index.ensures.value) (get_read s.slots.items n c.index.result.now c.in_ok-index.ensures.within c.index.ensures))

pub returns-clause-some : goal.returns-clause-some
returns-clause-some c = λ config given h stand.
    let s = c.args.self.now in
    let i = c.args.number in
    let n = c.in_ok-index.index in
    let old = slot_stands config given h s i n c.index.result.now stand (sym c.in_ok-index.ensures.value) (get_read s.slots.items n c.index.result.now c.in_ok-index.ensures.within c.index.ensures) in
    c.awaits.ensures.some config i (commands_of i given.sessions) given.all h old

pub returns-clause-none : goal.returns-clause-none
returns-clause-none c = λ config given h stand none.
    let s = c.args.self.now in
    let i = c.args.number in
    let n = c.in_ok-index.index in
    let old = slot_stands config given h s i n c.index.result.now stand (sym c.in_ok-index.ensures.value) (get_read s.slots.items n c.index.result.now c.in_ok-index.ensures.within c.index.ensures) in
    c.awaits.ensures.none config i (commands_of i given.sessions) given.all h old none

pub returns-clause-listing : goal.returns-clause-listing
returns-clause-listing c = λ config given h to asked stand asks lists.
    let s = c.args.self.now in
    let i = c.args.number in
    let n = c.in_ok-index.index in
    let index = sym c.in_ok-index.ensures.value in
    let at = get_read s.slots.items n c.index.result.now c.in_ok-index.ensures.within c.index.ensures in
    let old = slot_stands config given h s i n c.index.result.now stand index at in
    ap reads_in (slot_at s i n c.index.result.now index at) ∙ c.awaits.ensures.listing config i (commands_of i given.sessions) given.all h to asked old asks lists
