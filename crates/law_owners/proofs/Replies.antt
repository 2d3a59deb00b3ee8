-- What is told of transactions in a reply is told with their own status tablets.
use Rattle.std.proofs.Common.{ℕ, max, Bool, true, false, List, ◌∷◌, Option, Some, None, Result, Ok, Err, nat_lt, sym, subst, if◌then◌else◌}
use Rattle.hybrid_time.specs.declared.time_refusal.TimeRefusal.{TimeRefusal}
use Rattle.txn_data.specs.declared.actor.Actor.{Actor}
use Rattle.txn_data.specs.declared.actor.Actor.TheVariants.{Tablet, Status, Session, Applier}
use Rattle.txn_data.specs.declared.append.Append.{Append}
use Rattle.txn_data.specs.declared.config.Config.{Config}
use Rattle.txn_data.specs.declared.request.Request.{Request}
use Rattle.txn_data.specs.declared.request.Request.TheVariants as request
use Rattle.txn_data.specs.declared.reply.Reply.{Reply}
use Rattle.txn_data.specs.declared.reply.Reply.TheVariants as reply
use Rattle.txn_data.specs.declared.refusal.Refusal.{Refusal}
use Rattle.txn_data.specs.declared.refusal.Refusal.TheVariants as refusal
use Rattle.txn_data.specs.declared.met_at.MetAt.{MetAt}
use Rattle.txn_data.specs.declared.read_kind.ReadKind.{ReadKind}
use Rattle.txn_data.specs.declared.version.Version.{Version}
use Rattle.doc_path.specs.Path.{Parts}
use Rattle.txn_types.specs.Lists.{or_zero}
use Rattle.txn_types.specs.History.{History}
use Rattle.txn_types.specs.Clock.{Answer, told_only, refusal_answer, logged, timed, timed_answer, time_refused, holds, clock_time, Kind, Own, Floor, lease_due, lease_end, last_time, has_given, down_since}
use Rattle.txn_types.specs.Tablet.{tablet_answer, tablet_up, tablet_standing, write_answer, has_any, provisional, versions, conflict, greatest_above, related_commits, greatest_fate, others_on, listed, local_limit, collected, considered, met_under}
use Rattle.txn_types.specs.Status.{Record, NoRecord, Pending, Committed, AbortedBy, status_answer, status_up, status_standing, record_of, resolved, commit_answer, abort_answer, may_forget, is_sure, noted, fate_told}
use Rattle.txn_types.specs.Run.{Serves, machine_answer}
use Rattle.law_machines.proofs.Basics.{filter_member}
use Rattle.law_owners.proofs.Founds.{IntentsHomed, FoundsHomed, founds_homed, AllHomed, tablet_homed}

-- what holds of a refusal and of the reply where one is given holds of what is answered
pub by_logged : (P : Reply → Type 0) → ((why : Refusal) → P (reply.Refused why)) → (fails due : Bool) (time : Option ℕ) (r : Reply) → P r → P (logged fails due time r).reply
by_logged P never fails false time r giving = giving
by_logged P never false true time r giving = giving
by_logged P never true true time r giving = never refusal.LogFault

by_given : (P : Reply → Type 0) → ((why : Refusal) → P (reply.Refused why)) → (lease : ℕ) (end : Option ℕ) (fails records : Bool) (time : Result ℕ TimeRefusal) (r : ℕ → Reply) →
    ((n : ℕ) → P (r n)) → P (timed_answer lease end fails records time r).reply
by_given P never lease end fails records (Err e) r giving = never (time_refused e)
by_given P never lease end fails true (Ok time) r giving = by_logged P never fails true (Some time) (r time) (giving time)
by_given P never lease end fails false (Ok time) r giving = by_logged P never fails (lease_due end time) (Some time) (r time) (giving time)

by_choice : (P : Reply → Type 0) → ((why : Refusal) → P (reply.Refused why)) → (b : Bool) (why : Refusal) (answer : Answer) → P answer.reply → P (if b then refusal_answer why else answer).reply
by_choice P never true why answer giving = never why
by_choice P never false why answer giving = giving

pub by_timed : (P : Reply → Type 0) → ((why : Refusal) → P (reply.Refused why)) → (lease : ℕ) (o : History) (fails : Bool) (kind : Kind) (floor reading : ℕ) (records : Bool) (r : ℕ → Reply) →
    ((n : ℕ) → P (r n)) → P (timed lease o fails kind floor reading records r).reply
by_timed P never lease o fails kind floor reading records r giving =
    by_choice P never (holds (lease_end lease o) (has_given o) reading) (refusal.LeaseHeld (or_zero (lease_end lease o)))
    (timed_answer lease (lease_end lease o) fails records (clock_time kind (last_time o) floor reading) r)
    (by_given P never lease (lease_end lease o) fails records (clock_time kind (last_time o) floor reading) r giving)

by_write : (P : Reply → Type 0) → ((why : Refusal) → P (reply.Refused why)) → (c v : Option ℕ) (done : Answer) → P done.reply → P (write_answer c v done).reply
by_write P never (Some other) v done giving = never (refusal.Conflict other)
by_write P never None (Some at) done giving = never (refusal.Overlap at)
by_write P never None None done giving = giving

by_apply : (P : Reply → Type 0) (b : Bool) (done other : Answer) → P done.reply → P other.reply → P (if b then done else other).reply
by_apply P true done other giving never = giving
by_apply P false done other giving never = never

-- the transactions that a reply tells of
abbrev pub ReplyHomed : Config → Reply → Type 0
ReplyHomed config (reply.Others fs) = FoundsHomed config fs
ReplyHomed config (reply.Listed limit fs) = FoundsHomed config fs
ReplyHomed config (reply.Intents fs) = FoundsHomed config fs
ReplyHomed config r = Unit {0}

no_founds : (config : Config) (why : Refusal) → ReplyHomed config (reply.Refused why)
no_founds config why = tt

collected_homed : (config : Config) (kind : ReadKind) (paths : List Parts) (t : ℕ) (vs : List Version) (met : Option MetAt) → ReplyHomed config (collected kind paths t vs met)
collected_homed config kind paths t vs (Some m) = tt
collected_homed config kind paths t vs None = tt

up_homed : (config : Config) (lease : ℕ) (o : History) (fails : Bool) (reading : ℕ) (asked : Request) → IntentsHomed config (provisional o) → ReplyHomed config (tablet_up lease o fails reading asked).reply
up_homed config lease o fails reading (request.ListWrite x path) homed = founds_homed config (provisional o) (others_on x path (provisional o)) homed (λ p m. (filter_member _ p (provisional o) m).0)
up_homed config lease o fails reading (request.Write meta number path op read seen fates) homed =
    by_write (ReplyHomed config) (no_founds config) (conflict meta.txn path fates (provisional o)) (greatest_above read (related_commits meta.txn path fates (provisional o) (versions o)))
    (timed lease o fails Own seen reading true (λ w. reply.Written w))
    (by_timed (ReplyHomed config) (no_founds config) lease o fails Own seen reading true (λ w. reply.Written w) (λ n. tt))
up_homed config lease o fails reading (request.Single x path op seen fates) homed =
    by_write (ReplyHomed config) (no_founds config) (conflict x path fates (provisional o)) None
    (timed lease o fails Own (max seen (greatest_fate fates fates)) reading true (λ c. reply.SingleDone c))
    (by_timed (ReplyHomed config) (no_founds config) lease o fails Own (max seen (greatest_fate fates fates)) reading true (λ c. reply.SingleDone c) (λ n. tt))
up_homed config lease o fails reading (request.ListRead own_txn paths t g limit) homed =
    by_timed (ReplyHomed config) (no_founds config) lease o fails Floor t reading false (λ now. listed own_txn paths t (local_limit limit now g) (provisional o))
    (λ n. founds_homed config (provisional o) _ homed (λ p m. (filter_member _ p (provisional o) m).0))
up_homed config lease o fails reading (request.Collect own_txn kind paths t window fates) homed =
    collected_homed config kind paths t (considered own_txn fates (provisional o) (versions o)) (met_under window t paths (considered own_txn fates (provisional o) (versions o)))
up_homed config lease o fails reading request.ListIntents homed = founds_homed config (provisional o) (provisional o) homed (λ p m. m)
up_homed config lease o fails reading (request.Apply x at) homed =
    by_apply (ReplyHomed config) (has_any x (provisional o)) (timed lease o fails Floor at reading true (λ now. reply.AppliedHere)) (told_only reply.AppliedHere)
    (by_timed (ReplyHomed config) (no_founds config) lease o fails Floor at reading true (λ now. reply.AppliedHere) (λ n. tt)) tt
up_homed config lease o fails reading (request.Clean x) homed = by_logged (ReplyHomed config) (no_founds config) fails (has_any x (provisional o)) None reply.Cleaned tt
up_homed config lease o fails reading asked homed = tt

by_standing : (P : Reply → Type 0) → ((why : Refusal) → P (reply.Refused why)) → (d : Option ℕ) (up : Answer) → P up.reply → P (tablet_standing d up).reply
by_standing P never (Some n) up giving = never (refusal.Down n)
by_standing P never None up giving = giving

by_status_standing : (P : Reply → Type 0) → ((why : Refusal) → P (reply.Refused why)) → (d : Option ℕ) (up : Answer) → P up.reply → P (status_standing d up).reply
by_status_standing P never (Some n) up giving = never (refusal.Down n)
by_status_standing P never None up giving = giving

answer_homed : (config : Config) (lease : ℕ) (o : History) (fails : Bool) (reading : ℕ) (asked : Request) → IntentsHomed config (provisional o) → ReplyHomed config (tablet_answer lease o fails reading asked).reply
answer_homed config lease o fails reading request.Restart homed = tt
answer_homed config lease o fails reading asked homed =
    by_standing (ReplyHomed config) (no_founds config) (down_since o) (tablet_up lease o fails reading asked) (up_homed config lease o fails reading asked homed)

resolved_homed : (config : Config) (fails : Bool) (priority : ℕ) (r : Record) → ReplyHomed config (resolved fails priority r).reply
resolved_homed config fails priority (Pending own) =
    by_apply (ReplyHomed config) (nat_lt own priority) (logged fails true None _) (told_only _) (by_logged (ReplyHomed config) (no_founds config) fails true None _ tt) tt
resolved_homed config fails priority (Committed c tablets) = tt
resolved_homed config fails priority (AbortedBy by) = tt
resolved_homed config fails priority NoRecord = tt

commit_homed : (config : Config) (r : Record) (done : Answer) → ReplyHomed config done.reply → ReplyHomed config (commit_answer r done).reply
commit_homed config (Pending priority) done giving = giving
commit_homed config (Committed c tablets) done giving = tt
commit_homed config (AbortedBy by) done giving = tt
commit_homed config NoRecord done giving = tt

abort_homed : (config : Config) (fails : Bool) (r : Record) → ReplyHomed config (abort_answer fails r).reply
abort_homed config fails (Committed c tablets) = tt
abort_homed config fails (Pending priority) = by_logged (ReplyHomed config) (no_founds config) fails true None reply.Ended tt
abort_homed config fails (AbortedBy by) = by_logged (ReplyHomed config) (no_founds config) fails true None reply.Ended tt
abort_homed config fails NoRecord = tt

status_up_homed : (config : Config) (lease : ℕ) (o : History) (fails : Bool) (reading : ℕ) (asked : Request) → ReplyHomed config (status_up lease o fails reading asked).reply
status_up_homed config lease o fails reading (request.Begin x isolation priority) = by_logged (ReplyHomed config) (no_founds config) fails true None reply.Begun tt
status_up_homed config lease o fails reading (request.AskFate x t) =
    by_timed (ReplyHomed config) (no_founds config) lease o fails Floor t reading false (λ now. reply.FateIs (fate_told (record_of x o))) (λ n. tt)
status_up_homed config lease o fails reading (request.Resolve x by priority) = resolved_homed config fails priority (record_of x o)
status_up_homed config lease o fails reading (request.Commit x floor tablets) =
    commit_homed config (record_of x o) (timed lease o fails Own floor reading true (λ c. reply.Committed c))
    (by_timed (ReplyHomed config) (no_founds config) lease o fails Own floor reading true (λ c. reply.Committed c) (λ n. tt))
status_up_homed config lease o fails reading (request.Abort x) = abort_homed config fails (record_of x o)
status_up_homed config lease o fails reading (request.Applied x tablet) =
    by_logged (ReplyHomed config) (no_founds config) fails (may_forget (is_sure x o) (tablet ∷ noted x o) (record_of x o)) None reply.Noted tt
status_up_homed config lease o fails reading asked = tt

status_homed : (config : Config) (lease : ℕ) (o : History) (fails : Bool) (reading : ℕ) (asked : Request) → ReplyHomed config (status_answer lease o fails reading asked).reply
status_homed config lease o fails reading request.Restart = tt
status_homed config lease o fails reading asked =
    by_status_standing (ReplyHomed config) (no_founds config) (down_since o) (status_up lease o fails reading asked) (status_up_homed config lease o fails reading asked)

machine_homed : (config : Config) (lease : ℕ) (a : Actor) (o : History) (fails : Bool) (reading : ℕ) (asked : Request) → IntentsHomed config (provisional o) → ReplyHomed config (machine_answer lease a o fails reading asked).reply
machine_homed config lease (Tablet k) o fails reading asked homed = answer_homed config lease o fails reading asked homed
machine_homed config lease (Status j) o fails reading asked homed = status_homed config lease o fails reading asked
machine_homed config lease (Session i) o fails reading asked homed = status_homed config lease o fails reading asked
machine_homed config lease (Applier k) o fails reading asked homed = status_homed config lease o fails reading asked

pub reply_homed : (config : Config) (lease : ℕ) (a : Actor) (o : History) (reading : Option ℕ) (asked : Request) (r : Reply) (time : Option ℕ) (append : Append) →
    Serves lease a o reading asked r time append → AllHomed config o → ReplyHomed config r
reply_homed config lease a o reading asked r time append served all =
    subst (λ (q : Reply). ReplyHomed config q) (sym served.replied) (machine_homed config lease a o served.fails (or_zero reading) asked (tablet_homed config o all))
