-- What the table of a status tablet asks where something is logged, and what it tells.
use Rattle.std.proofs.Common.{◌≡◌, ℕ, Bool, true, false, List, ◌∷◌, Option, Some, None, Result, Ok, Err, refl, sym, subst, if◌then◌else◌}
use Rattle.hybrid_time.specs.declared.time_refusal.TimeRefusal.{TimeRefusal}
use Rattle.txn_data.specs.declared.actor.Actor.{Actor}
use Rattle.txn_data.specs.declared.actor.Actor.TheVariants.{Status}
use Rattle.txn_data.specs.declared.append.Append.{Append}
use Rattle.txn_data.specs.declared.append.Append.TheVariants.{Nothing, Took, Failed}
use Rattle.txn_data.specs.declared.request.Request.{Request}
use Rattle.txn_data.specs.declared.request.Request.TheVariants as request
use Rattle.txn_data.specs.declared.reply.Reply.{Reply}
use Rattle.txn_data.specs.declared.reply.Reply.TheVariants as reply
use Rattle.txn_data.specs.declared.refusal.Refusal.TheVariants as refusal
use Rattle.txn_data.specs.declared.event.Event.{Event}
use Rattle.txn_data.specs.declared.event.Event.TheVariants.{Serve}
use Rattle.txn_types.specs.Lists.{or_zero}
use Rattle.txn_types.specs.History.{History, was_logged, standing}
use Rattle.txn_types.specs.Clock.{Answer, refusal_answer, logged, timed, timed_answer, holds, clock_time, Kind, Own, lease_end, last_time, has_given, down_since}
use Rattle.txn_types.specs.Status.{Record, NoRecord, Pending, Committed, AbortedBy, record_over, record_of, status_answer, status_up, status_standing, resolved, commit_answer, abort_answer, may_forget, is_sure, noted}
use Rattle.txn_types.specs.Run.{Serves}
use Rattle.law_clocks.proofs.Took.{logged_time}
use Rattle.law_owners.specs.Owner.{IsUnused}

abbrev pub IsPending : Record → Type 0
IsPending (Pending own) = Unit {0}
IsPending r = ⊥

abbrev pub IsCommitted : Record → Type 0
IsCommitted (Committed c tablets) = Unit {0}
IsCommitted r = ⊥

-- an Abort of its own may end it
abbrev pub MayEnd : Record → Type 0
MayEnd (Pending own) = Unit {0}
MayEnd (AbortedBy by) = Unit {0}
MayEnd r = ⊥

-- what the table asks of what stands in the log before
abbrev pub TableOk : History → Event → Type 0
TableOk l (Serve from (request.Resolve y by priority) r time append) = IsPending (record_over y l)
TableOk l (Serve from (request.Commit y floor tablets) r time append) = IsPending (record_over y l) × ((c : ℕ) × (time ≡ Some c))
TableOk l (Serve from (request.Abort y) r time append) = MayEnd (record_over y l)
TableOk l (Serve from (request.Applied y tablet) r time append) = IsCommitted (record_over y l)
TableOk l event = Unit {0}

-- an id is begun once
abbrev pub NewOk : History → Event → Type 0
NewOk l (Serve from (request.Begin y isolation priority) r time append) = IsUnused y l
NewOk l event = Unit {0}

abbrev pub LandOk : History → Event → Type 0
LandOk l event = TableOk l event × NewOk l event

-- ## something is logged

abbrev pub IsLogged : Append → Type 0
IsLogged Nothing = ⊥
IsLogged append = Unit {0}

pub logged_is : (from : Actor) (asked : Request) (r : Reply) (time : Option ℕ) (append : Append) → was_logged (Serve from asked r time append) ≡ true → IsLogged append
logged_is from asked r time Nothing is = cc
logged_is from asked r time Took is = tt
logged_is from asked r time Failed is = tt

pub logged_due : (fails due : Bool) (time : Option ℕ) (r : Reply) → IsLogged (logged fails due time r).append → due ≡ true
logged_due fails false time r is = absurd is
logged_due fails true time r is = refl

given_time : (lease : ℕ) (end : Option ℕ) (fails : Bool) (time : Result ℕ TimeRefusal) (r : ℕ → Reply) → IsLogged (timed_answer lease end fails true time r).append →
    (c : ℕ) × ((timed_answer lease end fails true time r).time ≡ Some c)
given_time lease end fails (Err e) r is = absurd is
given_time lease end fails (Ok c) r is = (c, logged_time fails true (Some c) (r c))

chosen_time : (b : Bool) (at lease : ℕ) (end : Option ℕ) (fails : Bool) (time : Result ℕ TimeRefusal) (r : ℕ → Reply) →
    IsLogged (if b then refusal_answer (refusal.LeaseHeld at) else timed_answer lease end fails true time r).append →
    (c : ℕ) × ((if b then refusal_answer (refusal.LeaseHeld at) else timed_answer lease end fails true time r).time ≡ Some c)
chosen_time true at lease end fails time r is = absurd is
chosen_time false at lease end fails time r is = given_time lease end fails time r is

timed_logged : (lease : ℕ) (o : History) (fails : Bool) (kind : Kind) (floor reading : ℕ) (r : ℕ → Reply) → IsLogged (timed lease o fails kind floor reading true r).append →
    (c : ℕ) × ((timed lease o fails kind floor reading true r).time ≡ Some c)
timed_logged lease o fails kind floor reading r is =
    chosen_time (holds (lease_end lease o) (has_given o) reading) (or_zero (lease_end lease o)) lease (lease_end lease o) fails (clock_time kind (last_time o) floor reading) r is

resolve_pending : (fails : Bool) (priority : ℕ) (r : Record) → IsLogged (resolved fails priority r).append → IsPending r
resolve_pending fails priority (Pending own) is = tt
resolve_pending fails priority (Committed c tablets) is = absurd is
resolve_pending fails priority (AbortedBy by) is = absurd is
resolve_pending fails priority NoRecord is = absurd is

commit_pending : (r : Record) (done : Answer) → IsLogged (commit_answer r done).append → IsPending r × (commit_answer r done ≡ done)
commit_pending (Pending own) done is = (tt, refl)
commit_pending (Committed c tablets) done is = absurd is
commit_pending (AbortedBy by) done is = absurd is
commit_pending NoRecord done is = absurd is

abort_may : (fails : Bool) (r : Record) → IsLogged (abort_answer fails r).append → MayEnd r
abort_may fails (Committed c tablets) is = absurd is
abort_may fails (Pending own) is = tt
abort_may fails (AbortedBy by) is = tt
abort_may fails NoRecord is = absurd is

forget_committed : (sure : Bool) (ks : List ℕ) (r : Record) → may_forget sure ks r ≡ true → IsCommitted r
forget_committed sure ks (Committed c tablets) is = tt
forget_committed sure ks (Pending own) is = cc
forget_committed sure ks (AbortedBy by) is = cc
forget_committed sure ks NoRecord is = cc

abbrev pub UpLogs : History → Request → Answer → Type 0
UpLogs o asked answer = (from : Actor) (r : Reply) → TableOk (standing o) (Serve from asked r answer.time answer.append)

commit_ok : (o : History) (x floor : ℕ) (tablets : List ℕ) (r : Record) (done : Answer) → record_of x o ≡ r → (IsLogged done.append → (c : ℕ) × (done.time ≡ Some c)) → IsLogged (commit_answer r done).append →
    UpLogs o (request.Commit x floor tablets) (commit_answer r done)
commit_ok o x floor tablets (Pending own) done is timed_done ok = λ from r. (subst (λ (q : Record). IsPending q) (sym is) tt, timed_done ok)
commit_ok o x floor tablets (Committed c ts) done is timed_done ok = absurd ok
commit_ok o x floor tablets (AbortedBy by) done is timed_done ok = absurd ok
commit_ok o x floor tablets NoRecord done is timed_done ok = absurd ok

up_logs : (lease : ℕ) (o : History) (fails : Bool) (reading : ℕ) (asked : Request) → IsLogged (status_up lease o fails reading asked).append → UpLogs o asked (status_up lease o fails reading asked)
up_logs lease o fails reading (request.Resolve x by priority) is = λ from r. resolve_pending fails priority (record_of x o) is
up_logs lease o fails reading (request.Commit x floor tablets) is =
    commit_ok o x floor tablets (record_of x o) (timed lease o fails Own floor reading true (λ c. reply.Committed c)) refl
    (timed_logged lease o fails Own floor reading (λ c. reply.Committed c)) is
up_logs lease o fails reading (request.Abort x) is = λ from r. abort_may fails (record_of x o) is
up_logs lease o fails reading (request.Applied x tablet) is = λ from r.
    forget_committed (is_sure x o) (tablet ∷ noted x o) (record_of x o) (logged_due fails (may_forget (is_sure x o) (tablet ∷ noted x o) (record_of x o)) None reply.Noted is)
up_logs lease o fails reading asked is = λ from r. tt

standing_logs : (o : History) (asked : Request) (d : Option ℕ) (up : Answer) → (IsLogged up.append → UpLogs o asked up) → IsLogged (status_standing d up).append → UpLogs o asked (status_standing d up)
standing_logs o asked (Some n) up next_is is = absurd is
standing_logs o asked None up next_is is = next_is is

answer_logs : (lease : ℕ) (o : History) (fails : Bool) (reading : ℕ) (asked : Request) → IsLogged (status_answer lease o fails reading asked).append → UpLogs o asked (status_answer lease o fails reading asked)
answer_logs lease o fails reading request.Restart is = absurd is
answer_logs lease o fails reading asked is =
    standing_logs o asked (down_since o) (status_up lease o fails reading asked) (up_logs lease o fails reading asked) is

-- what a status tablet logs, the table allows over what stands in its log
pub table_logs : (lease j : ℕ) (o : History) (reading : Option ℕ) (from : Actor) (asked : Request) (r : Reply) (time : Option ℕ) (append : Append) →
    Serves lease (Status j) o reading asked r time append → IsLogged append → TableOk (standing o) (Serve from asked r time append)
table_logs lease j o reading from asked r time append served is =
    subst (λ (t : Option ℕ). TableOk (standing o) (Serve from asked r t append)) (sym served.took)
    (subst (λ (a : Append). TableOk (standing o) (Serve from asked r (status_answer lease o served.fails (or_zero reading) asked).time a)) (sym served.logged)
    (answer_logs lease o served.fails (or_zero reading) asked (subst (λ (a : Append). IsLogged a) served.logged is) from r))

-- ## a commit that takes a time is logged

logged_given : (fails : Bool) (time : Option ℕ) (r : Reply) → IsLogged (logged fails true time r).append
logged_given false time r = tt
logged_given true time r = tt

given_logs : (lease : ℕ) (end : Option ℕ) (fails : Bool) (time : Result ℕ TimeRefusal) (r : ℕ → Reply) (c : ℕ) → (timed_answer lease end fails true time r).time ≡ Some c → IsLogged (timed_answer lease end fails true time r).append
given_logs lease end fails (Err e) r c is = cc
given_logs lease end fails (Ok t) r c is = logged_given fails (Some t) (r t)

chosen_logs : (b : Bool) (at lease : ℕ) (end : Option ℕ) (fails : Bool) (time : Result ℕ TimeRefusal) (r : ℕ → Reply) (c : ℕ) →
    (if b then refusal_answer (refusal.LeaseHeld at) else timed_answer lease end fails true time r).time ≡ Some c →
    IsLogged (if b then refusal_answer (refusal.LeaseHeld at) else timed_answer lease end fails true time r).append
chosen_logs true at lease end fails time r c is = cc
chosen_logs false at lease end fails time r c is = given_logs lease end fails time r c is

commit_logs : (lease : ℕ) (o : History) (fails : Bool) (floor reading : ℕ) (r : Record) (c : ℕ) → (commit_answer r (timed lease o fails Own floor reading true (λ d. reply.Committed d))).time ≡ Some c →
    IsLogged (commit_answer r (timed lease o fails Own floor reading true (λ d. reply.Committed d))).append
commit_logs lease o fails floor reading (Pending own) c is =
    chosen_logs (holds (lease_end lease o) (has_given o) reading) (or_zero (lease_end lease o)) lease (lease_end lease o) fails (clock_time Own (last_time o) floor reading) (λ d. reply.Committed d) c is
commit_logs lease o fails floor reading (Committed d tablets) c is = cc
commit_logs lease o fails floor reading (AbortedBy by) c is = cc
commit_logs lease o fails floor reading NoRecord c is = cc

standing_time : (d : Option ℕ) (up : Answer) (c : ℕ) → ((up.time ≡ Some c) → IsLogged up.append) → (status_standing d up).time ≡ Some c → IsLogged (status_standing d up).append
standing_time (Some n) up c next_is is = cc
standing_time None up c next_is is = next_is is

pub commit_is_logged : (lease j : ℕ) (o : History) (reading : Option ℕ) (x floor : ℕ) (tablets : List ℕ) (r : Reply) (c : ℕ) (append : Append) →
    Serves lease (Status j) o reading (request.Commit x floor tablets) r (Some c) append → IsLogged append
commit_is_logged lease j o reading x floor tablets r c append served =
    subst (λ (a : Append). IsLogged a) (sym served.logged)
    (standing_time (down_since o) (status_up lease o served.fails (or_zero reading) (request.Commit x floor tablets)) c
    (commit_logs lease o served.fails floor (or_zero reading) (record_of x o) c) (sym served.took))

pub is_logged : (from : Actor) (asked : Request) (r : Reply) (time : Option ℕ) (append : Append) → IsLogged append → was_logged (Serve from asked r time append) ≡ true
is_logged from asked r time Nothing ok = absurd ok
is_logged from asked r time Took ok = refl
is_logged from asked r time Failed ok = refl
