-- A write that took a time, and whose append did not fail, was answered Written at this time.
use Rattle.std.proofs.Common.{◌≡◌, ℕ, Bool, true, false, List, Option, Some, None, Result, Ok, Err, refl, sym, ◌∙◌, ap, if◌then◌else◌}
use Rattle.hybrid_time.specs.declared.time_refusal.TimeRefusal.{TimeRefusal}
use Rattle.doc_path.specs.Path.{Parts}
use Rattle.txn_data.specs.declared.actor.Actor.TheVariants.{Tablet}
use Rattle.txn_data.specs.declared.append.Append.{Append}
use Rattle.txn_data.specs.declared.append.Append.TheVariants.{Failed}
use Rattle.txn_data.specs.declared.fate_of.FateOf.{FateOf}
use Rattle.txn_data.specs.declared.meta.Meta.{Meta}
use Rattle.txn_data.specs.declared.op.Op.{Op}
use Rattle.txn_data.specs.declared.refusal.Refusal.{Refusal}
use Rattle.txn_data.specs.declared.refusal.Refusal.TheVariants as refusal
use Rattle.txn_data.specs.declared.request.Request.TheVariants as request
use Rattle.txn_data.specs.declared.reply.Reply.{Reply}
use Rattle.txn_data.specs.declared.reply.Reply.TheVariants as reply
use Rattle.txn_types.specs.Lists.{or_zero}
use Rattle.txn_types.specs.History.{History}
use Rattle.txn_types.specs.Clock.{Answer, Own, refusal_answer, logged, timed, timed_answer, holds, clock_time, lease_end, last_time, has_given, down_since}
use Rattle.txn_types.specs.Tablet.{tablet_standing, write_answer, provisional, versions, conflict, greatest_above, related_commits}
use Rattle.txn_types.specs.Run.{Serves}

abbrev IsTold : Answer → Type 0
IsTold answer = (w : ℕ) → answer.time ≡ Some w → (answer.append ≡ Failed → ⊥) → answer.reply ≡ reply.Written w

logs_told : (fails : Bool) (t : ℕ) → IsTold (logged fails true (Some t) (reply.Written t))
logs_told true t w is never = absurd (never refl)
logs_told false t w is never = let same : t ≡ w = cc in ap reply.Written same

given_told : (lease : ℕ) (end : Option ℕ) (fails : Bool) (time : Result ℕ TimeRefusal) → IsTold (timed_answer lease end fails true time (λ w. reply.Written w))
given_told lease end fails (Err e) w is never = cc
given_told lease end fails (Ok t) w is never = logs_told fails t w is never

chosen_told : (b : Bool) (why : Refusal) (lease : ℕ) (end : Option ℕ) (fails : Bool) (time : Result ℕ TimeRefusal) → IsTold (if b then refusal_answer why else timed_answer lease end fails true time (λ w. reply.Written w))
chosen_told true why lease end fails time w is never = cc
chosen_told false why lease end fails time w is never = given_told lease end fails time w is never

up_told : (d c v : Option ℕ) (done : Answer) → IsTold done → IsTold (tablet_standing d (write_answer c v done))
up_told (Some n) c v done told w is never = cc
up_told None (Some other) v done told w is never = cc
up_told None None (Some at) done told w is never = cc
up_told None None None done told w is never = told w is never

pub write_told : (lease k : ℕ) (o : History) (reading : Option ℕ) (meta : Meta) (number : ℕ) (path : Parts) (op : Op) (read seen : ℕ) (fates : List FateOf) (r : Reply) (w : ℕ) (append : Append) →
    Serves lease (Tablet k) o reading (request.Write meta number path op read seen fates) r (Some w) append → (append ≡ Failed → ⊥) → r ≡ reply.Written w
write_told lease k o reading meta number path op read seen fates r w append served never =
    let done = timed lease o served.fails Own seen (or_zero reading) true (λ t. reply.Written t) in
    served.replied ∙ up_told (down_since o) (conflict meta.txn path fates (provisional o)) (greatest_above read (related_commits meta.txn path fates (provisional o) (versions o))) done
    (chosen_told (holds (lease_end lease o) (has_given o) (or_zero reading)) (refusal.LeaseHeld (or_zero (lease_end lease o))) lease (lease_end lease o) served.fails (clock_time Own (last_time o) seen (or_zero reading)))
    w (sym served.took) (λ failed. never (served.logged ∙ failed))
