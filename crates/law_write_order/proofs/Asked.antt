-- What a tablet asked where it accepted a write or a single write.
use Rattle.std.proofs.Common.{◌≡◌, ℕ, Bool, true, false, List, Option, Some, None, Result, Ok, Err, max, refl, sym, subst, if◌then◌else◌}
use Rattle.hybrid_time.specs.declared.time_refusal.TimeRefusal.{TimeRefusal}
use Rattle.doc_path.specs.Path.{Parts}
use Rattle.txn_data.specs.declared.actor.Actor.TheVariants.{Tablet}
use Rattle.txn_data.specs.declared.append.Append.{Append}
use Rattle.txn_data.specs.declared.fate_of.FateOf.{FateOf}
use Rattle.txn_data.specs.declared.meta.Meta.{Meta}
use Rattle.txn_data.specs.declared.op.Op.{Op}
use Rattle.txn_data.specs.declared.request.Request.TheVariants as request
use Rattle.txn_data.specs.declared.reply.Reply.{Reply}
use Rattle.txn_data.specs.declared.reply.Reply.TheVariants as reply
use Rattle.txn_data.specs.declared.refusal.Refusal.{Refusal}
use Rattle.txn_data.specs.declared.refusal.Refusal.TheVariants as refusal
use Rattle.txn_types.specs.Lists.{or_zero}
use Rattle.txn_types.specs.History.{History}
use Rattle.txn_types.specs.Clock.{Answer, Kind, Own, Floor, refusal_answer, told_only, logged, timed, timed_answer, holds, clock_time, lease_end, last_time, has_given, down_since}
use Rattle.txn_types.specs.Tablet.{tablet_standing, write_answer, provisional, versions, conflict, greatest_above, related_commits, has_any, greatest_fate}
use Rattle.txn_types.specs.Run.{Serves}
use Rattle.law_open_txns.specs.Transaction.{IsLogged}

-- ## a write that is accepted

accepted_pass : (d c v : Option ℕ) (done : Answer) (w : ℕ) → reply.Written w ≡ (tablet_standing d (write_answer c v done)).reply → (c ≡ None) × (v ≡ None)
accepted_pass (Some n) c v done w is = cc
accepted_pass None (Some other) v done w is = cc
accepted_pass None None (Some at) done w is = cc
accepted_pass None None None done w is = (refl, refl)

pub write_asked : (lease k : ℕ) (o : History) (reading : Option ℕ) (meta : Meta) (number : ℕ) (path : Parts) (op : Op) (read seen : ℕ) (fates : List FateOf) (w : ℕ) (time : Option ℕ) (append : Append) →
    Serves lease (Tablet k) o reading (request.Write meta number path op read seen fates) (reply.Written w) time append →
    (conflict meta.txn path fates (provisional o) ≡ None) × (greatest_above read (related_commits meta.txn path fates (provisional o) (versions o)) ≡ None)
write_asked lease k o reading meta number path op read seen fates w time append served =
    accepted_pass (down_since o) (conflict meta.txn path fates (provisional o)) (greatest_above read (related_commits meta.txn path fates (provisional o) (versions o)))
    (timed lease o served.fails Own seen (or_zero reading) true (λ t. reply.Written t)) w served.replied

-- ## a single write that took a time

single_pass : (d c : Option ℕ) (done : Answer) (t : ℕ) → Some t ≡ (tablet_standing d (write_answer c None done)).time → c ≡ None
single_pass (Some n) c done t is = cc
single_pass None (Some other) done t is = cc
single_pass None None done t is = refl

pub single_asked : (lease k : ℕ) (o : History) (reading : Option ℕ) (x : ℕ) (path : Parts) (op : Op) (seen : ℕ) (fates : List FateOf) (r : Reply) (t : ℕ) (append : Append) →
    Serves lease (Tablet k) o reading (request.Single x path op seen fates) r (Some t) append → conflict x path fates (provisional o) ≡ None
single_asked lease k o reading x path op seen fates r t append served =
    single_pass (down_since o) (conflict x path fates (provisional o)) _ t served.took

-- ## what is logged of a single write and of an Apply has a time

abbrev pub IsSome : Option ℕ → Type 0
IsSome None = ⊥
IsSome (Some t) = Unit {0}

-- what is logged has a time, and what has a time is logged
abbrev HasTime : Answer → Type 0
HasTime answer = IsLogged answer.append → IsSome answer.time

abbrev HasAppend : Answer → Type 0
HasAppend answer = IsSome answer.time → IsLogged answer.append

logs_both : (fails : Bool) (t : ℕ) (r : Reply) → HasTime (logged fails true (Some t) r) × HasAppend (logged fails true (Some t) r)
logs_both true t r = (λ logs. tt, λ some. tt)
logs_both false t r = (λ logs. tt, λ some. tt)

given_both : (lease : ℕ) (end : Option ℕ) (fails : Bool) (time : Result ℕ TimeRefusal) (r : ℕ → Reply) →
    HasTime (timed_answer lease end fails true time r) × HasAppend (timed_answer lease end fails true time r)
given_both lease end fails (Err e) r = (λ logs. absurd logs, λ some. absurd some)
given_both lease end fails (Ok t) r = logs_both fails t (r t)

chosen_both : (b : Bool) (why : Refusal) (lease : ℕ) (end : Option ℕ) (fails : Bool) (time : Result ℕ TimeRefusal) (r : ℕ → Reply) →
    HasTime (if b then refusal_answer why else timed_answer lease end fails true time r) × HasAppend (if b then refusal_answer why else timed_answer lease end fails true time r)
chosen_both true why lease end fails time r = (λ logs. absurd logs, λ some. absurd some)
chosen_both false why lease end fails time r = given_both lease end fails time r

timed_both : (lease : ℕ) (o : History) (fails : Bool) (kind : Kind) (floor reading : ℕ) (r : ℕ → Reply) →
    HasTime (timed lease o fails kind floor reading true r) × HasAppend (timed lease o fails kind floor reading true r)
timed_both lease o fails kind floor reading r =
    chosen_both (holds (lease_end lease o) (has_given o) reading) (refusal.LeaseHeld (or_zero (lease_end lease o))) lease (lease_end lease o) fails (clock_time kind (last_time o) floor reading) r

apply_up : (d : Option ℕ) (b : Bool) (done : Answer) → HasTime done → HasTime (tablet_standing d (if b then done else told_only reply.AppliedHere))
apply_up (Some n) b done has logs = absurd logs
apply_up None true done has logs = has logs
apply_up None false done has logs = absurd logs

pub apply_timed : (lease k : ℕ) (o : History) (reading : Option ℕ) (x at : ℕ) (r : Reply) (time : Option ℕ) (append : Append) →
    Serves lease (Tablet k) o reading (request.Apply x at) r time append → IsLogged append → IsSome time
apply_timed lease k o reading x at r time append served logs =
    let done = timed lease o served.fails Floor at (or_zero reading) true (λ now. reply.AppliedHere) in
    subst (λ (t : Option ℕ). IsSome t) (sym served.took)
    (apply_up (down_since o) (has_any x (provisional o)) done (timed_both lease o served.fails Floor at (or_zero reading) (λ now. reply.AppliedHere)).0
    (subst (λ (a : Append). IsLogged a) served.logged logs))

single_up : (d c : Option ℕ) (done : Answer) → HasAppend done → HasAppend (tablet_standing d (write_answer c None done))
single_up (Some n) c done has some = absurd some
single_up None (Some other) done has some = absurd some
single_up None None done has some = has some

pub single_logged : (lease k : ℕ) (o : History) (reading : Option ℕ) (x : ℕ) (path : Parts) (op : Op) (seen : ℕ) (fates : List FateOf) (r : Reply) (t : ℕ) (append : Append) →
    Serves lease (Tablet k) o reading (request.Single x path op seen fates) r (Some t) append → IsLogged append
single_logged lease k o reading x path op seen fates r t append served =
    let floor = max seen (greatest_fate fates fates) in
    let done = timed lease o served.fails Own floor (or_zero reading) true (λ c. reply.SingleDone c) in
    subst (λ (a : Append). IsLogged a) (sym served.logged)
    (single_up (down_since o) (conflict x path fates (provisional o)) done (timed_both lease o served.fails Own floor (or_zero reading) (λ c. reply.SingleDone c)).1
    (subst (λ (s : Option ℕ). IsSome s) served.took tt))
