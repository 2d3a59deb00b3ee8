-- What the appliers of all tablets stand for after one more entry.
use Rattle.std.proofs.Common.{◌≡◌, ◌≢◌, ℕ, ◌<◌, Bool, true, false, [], ◌∷◌, length, nat_eq, nat_lt, refl, sym, subst, inl, inr, arith, if◌then◌else◌}
use Rattle.std.proofs.Math.ListN.{set}
use Rattle.std.proofs.lemmas.Bool.{lt-ltb, ltb-false}
use Rattle.txn_data.specs.declared.actor.Actor.TheVariants.{Session, Applier}
use Rattle.txn_data.specs.declared.config.Config.{Config}
use Rattle.txn_data.specs.declared.entry.Entry.{Entry}
use Rattle.txn_types.specs.History.{History, own}
use Rattle.txn_types.specs.Run.{flight}
use Rattle.law_machines.proofs.Basics.{eq_cases}
use Rattle.mover_seat.specs.NextEvent.{applier_event}
use Rattle.world_movers.specs.Appliers.{AppliersStand, next_of}
use Rattle.world_movers.specs.Slots.{ApplierStands, EachAt}
use Rattle.world_movers.specs.declared.applier_slot.ApplierSlot.{ApplierSlot}
use Rattle.world_movers.specs.declared.appliers.Appliers.{Appliers}
use Rattle.world_movers.proofs.Entries.{IsMoveOf, applier_moves, session_moves, silent_beside}
use Rattle.world_movers.proofs.Placed.{each_set, each_more}
use Rattle.world_movers.proofs.Seated.{applier_beside}

-- what is next of an applier whose tablet is there
pub next_there : (done : Bool) (config : Config) (k : ℕ) (h : History) → k < config.tablets → next_of done config k h ≡ applier_event done config k (own (Applier k) h) (flight (Applier k) h)
next_there done config k h there = let is = lt-ltb k config.tablets there in rw is refl

number_apart : (k j : ℕ) → k ≢ j → nat_eq k j ≡ false
number_apart k j apart = elim (eq_cases k j) [ inl same ↦ absurd (apart same.1) | inr is ↦ is.0 ]

past_apart : (config : Config) (k j : ℕ) → k < config.tablets → nat_lt j config.tablets ≡ false → nat_eq k j ≡ false
past_apart config k j there past = number_apart k j (λ same. let bound = ltb-false j config.tablets past in absurd (omega arith))

-- an entry of an applier
pub appliers_more : (config : Config) (h : History) (k : ℕ) (e : Entry) (s t : Appliers) (slot : ApplierSlot) → AppliersStand config h s → k < config.tablets → IsMoveOf e (Applier k) → t.slots.items ≡ set s.slots.items k slot → ApplierStands config k (e ∷ h) slot →
    AppliersStand config (e ∷ h) t
appliers_more config h k e s t slot stand there moves is stands = record {
  slots = subst (λ xs. EachAt xs config.tablets (λ (j : ℕ) (x : ApplierSlot). ApplierStands config j (e ∷ h) x)) (sym is)
      (each_set s.slots.items config.tablets (λ j x. ApplierStands config j h x) (λ j x. ApplierStands config j (e ∷ h) x) k slot stand.slots stands
      (λ j x apart old. applier_beside config j h (Applier k) e x moves (number_apart k j (λ same. apart (sym same))) old));
  others = λ j past. silent_beside (Applier k) (Applier j) e h moves (applier_moves j) (past_apart config k j there past) (stand.others j past);
}

-- an entry of a session
pub appliers_beside : (config : Config) (h : History) (i : ℕ) (e : Entry) (s : Appliers) → AppliersStand config h s → IsMoveOf e (Session i) → AppliersStand config (e ∷ h) s
appliers_beside config h i e s stand moves = record {
  slots = each_more s.slots.items config.tablets (λ j x. ApplierStands config j h x) (λ j x. ApplierStands config j (e ∷ h) x) stand.slots (λ j x old. applier_beside config j h (Session i) e x moves refl old);
  others = λ j past. silent_beside (Session i) (Applier j) e h moves (applier_moves j) refl (stand.others j past);
}

-- nothing was made, and a slot stands for its applier again
pub appliers_same : (config : Config) (h : History) (k : ℕ) (s t : Appliers) (slot : ApplierSlot) → AppliersStand config h s → t.slots.items ≡ set s.slots.items k slot → ApplierStands config k h slot → AppliersStand config h t
appliers_same config h k s t slot stand is stands = record {
  slots = subst (λ xs. EachAt xs config.tablets (λ (j : ℕ) (x : ApplierSlot). ApplierStands config j h x)) (sym is)
      (each_set s.slots.items config.tablets (λ j x. ApplierStands config j h x) (λ j x. ApplierStands config j h x) k slot stand.slots stands (λ j x apart old. old));
  others = stand.others;
}
