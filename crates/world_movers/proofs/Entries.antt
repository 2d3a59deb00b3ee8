-- One more entry of a history: what it changes of its mover, and that it changes nothing of the others.
use Rattle.std.proofs.Common.{◌≡◌, ℕ, Bool, Option, true, false, [], ◌∷◌, ◌++◌, Some, length, refl, sym, ap, subst, ◌∙◌, inl, inr, ◌⊎◌, if◌then◌else◌}
use Rattle.txn_data.specs.declared.actor.Actor.{Actor}
use Rattle.txn_data.specs.declared.actor.Actor.TheVariants.{Tablet, Status, Session, Applier}
use Rattle.txn_data.specs.declared.config.Config.{Config}
use Rattle.txn_data.specs.declared.entry.Entry.{Entry}
use Rattle.txn_data.specs.declared.event.Event.{Event}
use Rattle.txn_data.specs.declared.event.Event.TheVariants.{Start, Ask, Serve, Hear, Tell, Restarted}
use Rattle.txn_data.specs.declared.reply.Reply.{Reply}
use Rattle.txn_data.specs.declared.reply.Reply.TheVariants as reply
use Rattle.txn_data.specs.declared.refusal.Refusal.TheVariants as refusal
use Rattle.txn_data.specs.declared.request.Request.{Request}
use Rattle.txn_types.specs.History.{History, same_actor, own}
use Rattle.txn_types.specs.Run.{Flight, Quiet, Asked, Answered, IsMachine, flight, flight_after}
use Rattle.txn_types.specs.Script.{asker}
use Rattle.law_machines.proofs.Basics.{same_of, same_refl}
use Rattle.law_parts.proofs.Own.{own_same, own_other}
use Rattle.law_parts.specs.Parts.{OwnAllowed}
use Rattle.world_movers.specs.Asked.{IsAt, AskedAt, IsAnswer, IsSilent, place_after}

-- ## of its mover

pub own_more : (a : Actor) (e : Entry) (h : History) → e.actor ≡ a → own a (e ∷ h) ≡ e ∷ own a h
own_more a e h is = own_same a e h (same_of e.actor a is)

flight_step : (a : Actor) (e : Entry) (h : History) → flight a (e ∷ h) ≡ flight_after a (flight a h) e.actor e.event
unfolding flight
flight_step a e h = refl

pub flight_more : (a : Actor) (e : Entry) (h : History) → e.actor ≡ a → flight a (e ∷ h) ≡ flight_after a (flight a h) a e.event
flight_more a e h is = flight_step a e h ∙ ap (λ (x : Actor). flight_after a (flight a h) x e.event) is

-- where out of memory is heard, the request is no longer on its way
pub flight_lost : (a : Actor) (e : Entry) (h : History) (from : Actor) → e.actor ≡ a → e.event ≡ Hear from (reply.Refused refusal.Memory) → flight a (e ∷ h) ≡ Quiet
flight_lost a e h from is hears = flight_more a e h is ∙ ap (flight_after a (flight a h) a) hears ∙ rw (same_refl a) refl

pub at_more : (h : History) (place : ℕ) (x e : Entry) → IsAt h place e → IsAt (x ∷ h) place e
at_more h place x e is = record {
  later = x ∷ is.later;
  earlier = is.earlier;
  parts = ap (λ (more : History). x ∷ more) is.parts;
  before = is.before;
}

pub asked_same : (h : History) (place : ℕ) (e : Entry) (f g : Flight) → g ≡ f → AskedAt h place f → AskedAt (e ∷ h) place g
asked_same h place e f g same at = λ to asked is.
    let old = at to asked (sym same ∙ is) in
    (old.0, at_more h place e old.0 old.1, old.2)

-- nothing is on its way to a machine
pub none_asked : (h : History) (place : ℕ) (f : Flight) (from : Actor) (r : Reply) → f ≡ Answered from r → AskedAt h place f
none_asked h place f from r is = λ to asked asks. cc

pub none_quiet : (h : History) (place : ℕ) (f : Flight) → f ≡ Quiet → AskedAt h place f
none_quiet h place f is = λ to asked asks. cc

answer_asked : (b : Bool) (h : History) (place : ℕ) (e : Entry) (f : Flight) (from : Actor) (r : Reply) → AskedAt h place f → AskedAt (e ∷ h) place (if b then Answered from r else f)
answer_asked true h place e f from r at = none_asked (e ∷ h) place (Answered from r) from r refl
answer_asked false h place e f from r at = asked_same h place e f f refl at

asked_after : (a : Actor) (e : Entry) (h : History) (place before : ℕ) (f : Flight) (event : Event) → e.event ≡ event → place ≡ length h → AskedAt h before f → AskedAt (e ∷ h) (place_after event place before) (flight_after a f a event)
asked_after a e h place before f (Start number line) is here at = asked_same h before e f f refl at
asked_after a e h place before f (Ask by which) is here at = rw (same_refl a) (λ to asked asks. (e, record { later = []; earlier = h; parts = refl; before = sym here }, let same : Asked by which ≡ Asked to asked = asks in cc))
asked_after a e h place before f (Serve from asked r time append) is here at = answer_asked (same_actor from a) h before e f a r at
asked_after a e h place before f (Hear from r) is here at = rw (same_refl a) (λ to asked asks. cc)
asked_after a e h place before f (Tell number t) is here at = asked_same h before e f f refl at
asked_after a e h place before f (Restarted from kept) is here at = answer_asked (same_actor from a) h before e f a (reply.Restarted kept) at

-- an entry of the mover that comes to stand at this place
pub asked_more : (a : Actor) (e : Entry) (h : History) (place before : ℕ) → e.actor ≡ a → place ≡ length h → AskedAt h before (flight a h) → AskedAt (e ∷ h) (place_after e.event place before) (flight a (e ∷ h))
asked_more a e h place before is here at =
    subst (AskedAt (e ∷ h) (place_after e.event place before)) (sym (flight_more a e h is)) (asked_after a e h place before (flight a h) e.event refl here at)

-- ## of the others

pub is_mover : Actor → Bool
is_mover (Session i) = true
is_mover (Applier k) = true
is_mover a = false

-- the entry is the move of mover `a`: the mover made it, or asked the machine that did
pub record IsMoveOf (e : Entry) (a : Actor) : Type 0 where
  pub asker : asker e ≡ a
  pub by : (e.actor ≡ a) ⊎ (is_mover e.actor ≡ false)

kinds_apart : (x b : Actor) → is_mover x ≡ false → is_mover b ≡ true → same_actor x b ≡ false
unfolding is_mover
kinds_apart (Tablet k) (Session i) not is = refl
kinds_apart (Tablet k) (Applier j) not is = refl
kinds_apart (Status k) (Session i) not is = refl
kinds_apart (Status k) (Applier j) not is = refl
kinds_apart x b not is = cc

machine_apart : (config : Config) (x : Actor) → IsMachine config x → is_mover x ≡ false
unfolding is_mover
machine_apart config (Tablet k) is = refl
machine_apart config (Status j) is = refl
machine_apart config (Session i) is = absurd is
machine_apart config (Applier k) is = absurd is

pub session_moves : (i : ℕ) → is_mover (Session i) ≡ true
unfolding is_mover
session_moves i = refl

pub applier_moves : (k : ℕ) → is_mover (Applier k) ≡ true
unfolding is_mover
applier_moves k = refl

-- what a mover's table allows is its own move
asked_itself : (config : Config) (a by : Actor) (g : History) (reading : Option ℕ) (event : Event) → (IsMachine config a → ⊥) → OwnAllowed config a g reading event → asker (record { actor = by; reading = reading; event = event }) ≡ by
asked_itself config a by g reading (Serve from asked r time append) not may = absurd (not may.0)
asked_itself config a by g reading (Restarted from kept) not may = absurd (not may.0)
asked_itself config a by g reading (Start number line) not may = refl
asked_itself config a by g reading (Ask to asked) not may = refl
asked_itself config a by g reading (Hear from r) not may = refl
asked_itself config a by g reading (Tell number t) not may = refl

pub move_by : (config : Config) (a : Actor) (g : History) (e : Entry) → (IsMachine config a → ⊥) → e.actor ≡ a → OwnAllowed config a g e.reading e.event → IsMoveOf e a
move_by config a g e not is may = record {
  asker = asked_itself config a e.actor g e.reading e.event not may ∙ is;
  by = inl is;
}

-- and what answers it is
pub move_served : (config : Config) (h : History) (a : Actor) (r : Reply) (e : Entry) → IsAnswer config h a r e → IsMoveOf e a
move_served config h a r e is = record {
  asker = is.asker;
  by = inr (machine_apart config e.actor is.machine);
}

pub own_served : (config : Config) (h : History) (a : Actor) (r : Reply) (e : Entry) → is_mover a ≡ true → IsAnswer config h a r e → own a (e ∷ h) ≡ own a h
own_served config h a r e mover is = own_other a e h (kinds_apart e.actor a (machine_apart config e.actor is.machine) mover)

pub own_beside : (a b : Actor) (e : Entry) (h : History) → IsMoveOf e a → is_mover b ≡ true → same_actor a b ≡ false → own b (e ∷ h) ≡ own b h
own_beside a b e h moves mover apart = own_other b e h (elim moves.by [
  | inl is ↦ subst (λ (x : Actor). same_actor x b ≡ false) (sym is) apart
  | inr not ↦ kinds_apart e.actor b not mover
])

flight_apart : (a b by : Actor) (f : Flight) (reading : Option ℕ) (event : Event) → asker (record { actor = by; reading = reading; event = event }) ≡ a → same_actor a b ≡ false → flight_after b f by event ≡ f
flight_apart a b by f reading (Start number line) is apart = refl
flight_apart a b by f reading (Ask to asked) is apart = let other = subst (λ (x : Actor). same_actor x b ≡ false) (sym is) apart in rw other refl
flight_apart a b by f reading (Serve from asked r time append) is apart = let other = subst (λ (x : Actor). same_actor x b ≡ false) (sym is) apart in rw other refl
flight_apart a b by f reading (Hear from r) is apart = let other = subst (λ (x : Actor). same_actor x b ≡ false) (sym is) apart in rw other refl
flight_apart a b by f reading (Tell number t) is apart = refl
flight_apart a b by f reading (Restarted from kept) is apart = let other = subst (λ (x : Actor). same_actor x b ≡ false) (sym is) apart in rw other refl

pub flight_beside : (a b : Actor) (e : Entry) (h : History) → IsMoveOf e a → same_actor a b ≡ false → flight b (e ∷ h) ≡ flight b h
flight_beside a b e h moves apart = flight_step b e h ∙ flight_apart a b e.actor (flight b h) e.reading e.event moves.asker apart

pub silent_beside : (a b : Actor) (e : Entry) (h : History) → IsMoveOf e a → is_mover b ≡ true → same_actor a b ≡ false → IsSilent h b → IsSilent (e ∷ h) b
silent_beside a b e h moves mover apart silent = record {
  own = own_beside a b e h moves mover apart ∙ silent.own;
  flight = flight_beside a b e h moves apart ∙ silent.flight;
}

-- ## before the first entry

pub flight_first : (a : Actor) → flight a [] ≡ Quiet
unfolding flight
flight_first a = refl

pub silent_first : (a : Actor) → IsSilent [] a
silent_first a = record { own = refl; flight = flight_first a }
