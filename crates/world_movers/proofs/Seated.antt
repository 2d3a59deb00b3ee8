-- What a slot stands for after one more entry.
use Rattle.std.proofs.Common.{◌≡◌, ℕ, Bool, true, false, List, [], ◌∷◌, Some, refl, sym, ap, subst, ◌∙◌}
use Rattle.txn_data.specs.declared.actor.Actor.TheVariants.{Session, Applier}
use Rattle.txn_data.specs.declared.actor.Actor.{Actor}
use Rattle.txn_data.specs.declared.command.Command.{Command}
use Rattle.txn_data.specs.declared.config.Config.{Config}
use Rattle.txn_data.specs.declared.entry.Entry.{Entry}
use Rattle.txn_data.specs.declared.reply.Reply.{Reply}
use Rattle.txn_types.specs.History.{History, same_actor, own}
use Rattle.txn_types.specs.Run.{Flight, Quiet, Answered, flight, flight_after}
use Rattle.mover_chain.specs.NextEvent.{is_left}
use Rattle.mover_seat.specs.Applier as applier
use Rattle.mover_seat.specs.NextEvent.{session_event}
use Rattle.mover_seat.specs.Session as session
use Rattle.mover_seat.specs.declared.applier_seat.ApplierSeat.{ApplierSeat}
use Rattle.mover_seat.specs.declared.session_seat.SessionSeat.{SessionSeat}
use Rattle.world_movers.specs.Asked.{IsAnswer}
use Rattle.world_movers.specs.Slots.{SessionStands, ApplierStands}
use Rattle.world_movers.specs.declared.applier_slot.ApplierSlot.{ApplierSlot}
use Rattle.world_movers.specs.declared.session_slot.SessionSlot.{SessionSlot}
use Rattle.world_movers.proofs.Entries.{IsMoveOf, asked_same, own_beside, flight_beside, session_moves, applier_moves}

-- ## over equal entries and an equal flight

pub session_at : (config : Config) (i : ℕ) (given : List Command) (all : Bool) (g k : History) (f d : Flight) (s : SessionSeat) → k ≡ g → d ≡ f → session.StandsFor config i given all g f s → session.StandsFor config i given all k d s
session_at config i given all g k f d s own flight stands =
    subst (λ (x : History). session.StandsFor config i given all x d s) (sym own) (subst (λ (x : Flight). session.StandsFor config i given all g x s) (sym flight) stands)

pub left_at : (config : Config) (i : ℕ) (given : List Command) (all : Bool) (g k : History) (f d : Flight) → k ≡ g → d ≡ f → is_left (session_event given all config i g f) ≡ is_left (session_event given all config i k d)
left_at config i given all g k f d own flight =
    ap (λ (x : History). is_left (session_event given all config i x f)) (sym own) ∙ ap (λ (x : Flight). is_left (session_event given all config i k x)) (sym flight)

pub applier_at : (config : Config) (k : ℕ) (g l : History) (f d : Flight) (s : ApplierSeat) → l ≡ g → d ≡ f → applier.StandsFor config k g f s → applier.StandsFor config k l d s
applier_at config k g l f d s own flight stands =
    subst (λ (x : History). applier.StandsFor config k x d s) (sym own) (subst (λ (x : Flight). applier.StandsFor config k g x s) (sym flight) stands)

-- ## beside the entry

pub session_beside : (config : Config) (i : ℕ) (given : List Command) (all : Bool) (h : History) (a : Actor) (e : Entry) (s : SessionSlot) → IsMoveOf e a → same_actor a (Session i) ≡ false → SessionStands config i given all h s → SessionStands config i given all (e ∷ h) s
session_beside config i given all h a e s moves apart stands =
    let b = Session i in
    let own_is = own_beside a b e h moves (session_moves i) apart in
    let flight_is = flight_beside a b e h moves apart in
    record {
      seat = session_at config i given all (own b h) (own b (e ∷ h)) (flight b h) (flight b (e ∷ h)) s.seat own_is flight_is stands.seat;
      asked = asked_same h s.asked e (flight b h) (flight b (e ∷ h)) flight_is stands.asked;
      left = stands.left ∙ left_at config i given all (own b h) (own b (e ∷ h)) (flight b h) (flight b (e ∷ h)) own_is flight_is;
    }

pub applier_beside : (config : Config) (k : ℕ) (h : History) (a : Actor) (e : Entry) (s : ApplierSlot) → IsMoveOf e a → same_actor a (Applier k) ≡ false → ApplierStands config k h s → ApplierStands config k (e ∷ h) s
applier_beside config k h a e s moves apart stands =
    let b = Applier k in
    let own_is = own_beside a b e h moves (applier_moves k) apart in
    let flight_is = flight_beside a b e h moves apart in
    record {
      seat = applier_at config k (own b h) (own b (e ∷ h)) (flight b h) (flight b (e ∷ h)) s.seat own_is flight_is stands.seat;
      asked = asked_same h s.asked e (flight b h) (flight b (e ∷ h)) flight_is stands.asked;
    }
