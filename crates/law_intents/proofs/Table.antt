-- What a tablet answers to an Apply.
use Rattle.std.proofs.Common.{◌≡◌, ℕ, Bool, true, false, Option, Some, None, Result, Ok, Err, refl, sym, subst, inl, inr, ◌⊎◌, if◌then◌else◌}
use Rattle.hybrid_time.specs.declared.time_refusal.TimeRefusal.{TimeRefusal}
use Rattle.txn_data.specs.declared.append.Append.{Append}
use Rattle.txn_data.specs.declared.append.Append.TheVariants.{Nothing, Took}
use Rattle.txn_data.specs.declared.actor.Actor.TheVariants.{Tablet}
use Rattle.txn_data.specs.declared.request.Request.TheVariants as request
use Rattle.txn_data.specs.declared.reply.Reply.{Reply}
use Rattle.txn_data.specs.declared.reply.Reply.TheVariants as reply
use Rattle.txn_data.specs.declared.refusal.Refusal.TheVariants as refusal
use Rattle.txn_types.specs.Lists.{or_zero}
use Rattle.txn_types.specs.History.{History}
use Rattle.txn_types.specs.Clock.{Answer, told_only, refusal_answer, logged, timed, timed_answer, holds, clock_time, Floor, lease_end, last_time, has_given, down_since}
use Rattle.txn_types.specs.Tablet.{tablet_up, tablet_standing, has_any, provisional}
use Rattle.txn_types.specs.Run.{Serves}

abbrev pub IsApplied : Reply → Type 0
IsApplied reply.AppliedHere = Unit {0}
IsApplied r = ⊥

-- it took the record of it, or there was nothing of the transaction
abbrev pub TookOrNone : Bool → Append → Type 0
TookOrNone any append = (append ≡ Took) ⊎ ((append ≡ Nothing) × (any ≡ false))

took_logged : (fails : Bool) (time : Option ℕ) → IsApplied (logged fails true time reply.AppliedHere).reply → (logged fails true time reply.AppliedHere).append ≡ Took
took_logged false time is = refl
took_logged true time is = absurd is

took_given : (lease : ℕ) (end : Option ℕ) (fails : Bool) (time : Result ℕ TimeRefusal) → IsApplied (timed_answer lease end fails true time (λ now. reply.AppliedHere)).reply →
    (timed_answer lease end fails true time (λ now. reply.AppliedHere)).append ≡ Took
took_given lease end fails (Err e) is = absurd is
took_given lease end fails (Ok now) is = took_logged fails (Some now) is

took_chosen : (b : Bool) (at lease : ℕ) (end : Option ℕ) (fails : Bool) (time : Result ℕ TimeRefusal) →
    IsApplied (if b then refusal_answer (refusal.LeaseHeld at) else timed_answer lease end fails true time (λ now. reply.AppliedHere)).reply →
    (if b then refusal_answer (refusal.LeaseHeld at) else timed_answer lease end fails true time (λ now. reply.AppliedHere)).append ≡ Took
took_chosen true at lease end fails time is = absurd is
took_chosen false at lease end fails time is = took_given lease end fails time is

apply_chosen : (any : Bool) (done : Answer) → (IsApplied done.reply → done.append ≡ Took) → IsApplied (if any then done else told_only reply.AppliedHere).reply →
    TookOrNone any (if any then done else told_only reply.AppliedHere).append
apply_chosen true done took is = inl (took is)
apply_chosen false done took is = inr (refl, refl)

apply_standing : (d : Option ℕ) (up : Answer) (any : Bool) → (IsApplied up.reply → TookOrNone any up.append) → IsApplied (tablet_standing d up).reply → (d ≡ None) × TookOrNone any (tablet_standing d up).append
apply_standing (Some n) up any ok is = absurd is
apply_standing None up any ok is = (refl, ok is)

pub record AppliedBy (o : History) (x : ℕ) (logs : Append) : Type 0 where
  pub up : down_since o ≡ None
  pub took : TookOrNone (has_any x (provisional o)) logs

pub applied_by : (lease k : ℕ) (o : History) (reading : Option ℕ) (x at : ℕ) (time : Option ℕ) (append : Append) → Serves lease (Tablet k) o reading (request.Apply x at) reply.AppliedHere time append → AppliedBy o x append
applied_by lease k o reading x at time append served =
    let t = apply_standing (down_since o) (tablet_up lease o served.fails (or_zero reading) (request.Apply x at)) (has_any x (provisional o))
    (λ is. apply_chosen (has_any x (provisional o)) (timed lease o served.fails Floor at (or_zero reading) true (λ now. reply.AppliedHere))
    (λ done. took_chosen (holds (lease_end lease o) (has_given o) (or_zero reading)) (or_zero (lease_end lease o)) lease (lease_end lease o) served.fails (clock_time Floor (last_time o) at (or_zero reading)) done) is)
    (subst (λ (r : Reply). IsApplied r) served.replied tt) in
    record { up = t.0; took = subst (λ (a : Append). TookOrNone (has_any x (provisional o)) a) (sym served.logged) t.1 }
