-- Whether each session was told its last command.
use Rattle.std.proofs.Common.{◌≡◌, ℕ, zero, suc, Bool, true, false, ◌&&◌, not, cond, Some, List, [], ◌∷◌, length, nat_eq, refl, sym, ap, ◌∙◌}
use Rattle.std.proofs.lemmas.List.Folds.{sum_by-zero}
use Rattle.std.specs.List.{list_all, slice_get}
use Rattle.txn_data.specs.declared.actor.Actor.TheVariants.{Session}
use Rattle.txn_data.specs.declared.command.Command.{Command}
use Rattle.txn_data.specs.declared.config.Config.{Config}
use Rattle.txn_data.specs.declared.session_plan.SessionPlan.{SessionPlan}
use Rattle.txn_types.specs.History.{History, own}
use Rattle.txn_types.specs.Run.{flight}
use Rattle.mover_chain.specs.NextEvent.{Given, NextEvent, all_done, is_done, is_left}
use Rattle.mover_seat.specs.Laws.{EventsAreOwn}
use Rattle.mover_seat.specs.NextEvent.{session_event}
use Rattle.world_movers.specs.Sessions.{SessionsStand, are_done}
use Rattle.world_movers.specs.declared.session_slot.SessionSlot.{SessionSlot}
use Rattle.world_movers.specs.declared.sessions.Sessions.{Sessions}
use Rattle.world_movers.proofs.Seats.{planned}

all_alike : {X Y : Type 0} (f : X → Bool) (g : Y → Bool) (xs : List X) (ys : List Y) → length xs ≡ length ys → ((n : ℕ) (x : X) (y : Y) → slice_get xs n ≡ Some x → slice_get ys n ≡ Some y → f x ≡ g y) → list_all f xs ≡ list_all g ys
all_alike f g [] [] many alike = refl
all_alike f g [] (y ∷ ys) many alike = cc
all_alike f g (x ∷ xs) [] many alike = cc
all_alike f g (x ∷ xs) (y ∷ ys) many alike =
    ap (λ (b : Bool). b && list_all f xs) (alike zero x y refl refl) ∙ ap (λ (b : Bool). g y && b) (all_alike f g xs ys (cc) (λ n v w at there. alike (suc n) v w at there))

none_counted : (b : Bool) → nat_eq (cond b 1 0) 0 ≡ not b
none_counted true = refl
none_counted false = refl

-- no more lines come and no session has an event left exactly where each was told its last command
pub all_told : (config : Config) (given : Given) (h : History) (s : Sessions) → EventsAreOwn → SessionsStand config given h s → are_done s ≡ all_done given config h
all_told config given h s own_events stand =
    let at_slot : (n : ℕ) (slot : SessionSlot) (p : SessionPlan) → slice_get s.slots.items n ≡ Some slot → slice_get given.sessions n ≡ Some p → nat_eq (cond slot.left 1 0) 0 ≡ is_done given config h p = λ n slot p at there.
    let a = Session p.session in
    let lines = planned config given h s n p stand there in
    let next = own_events given config a h ∙ ap (λ (cs : List Command). session_event cs given.all config p.session (own a h) (flight a h)) lines in
    let stands = stand.slots.each n slot at p there in
    none_counted slot.left ∙ ap not stands.left ∙ ap (λ (e : NextEvent). not (is_left e)) (sym next) in
    let none : nat_eq s.unfinished 0 ≡ list_all (is_done given config h) given.sessions =
    ap (λ (n : ℕ). nat_eq n 0) s.counted ∙ sum_by-zero (λ (x : SessionSlot). cond x.left 1 0) s.slots.items
    ∙ all_alike (λ (x : SessionSlot). nat_eq (cond x.left 1 0) 0) (is_done given config h) s.slots.items given.sessions stand.slots.as_many at_slot in
    ap (λ (b : Bool). b && nat_eq s.unfinished 0) stand.finished ∙ ap (λ (b : Bool). given.all && b) none
