-- What the tables never reply: out of memory, and a list for a read to any other request.
use Rattle.std.proofs.Common.{◌≡◌, ℕ, ◌∷◌, max, Bool, true, false, List, [], Option, Some, None, Result, Ok, Err, nat_lt, sym, subst, inl, inr, if◌then◌else◌}
use Rattle.hybrid_time.specs.declared.time_refusal.TimeRefusal.{TimeRefusal}
use Rattle.hybrid_time.specs.declared.time_refusal.TimeRefusal.TheVariants.{ClockFull, ClockRange}
use Rattle.doc_path.specs.Path.{Parts}
use Rattle.txn_data.specs.declared.actor.Actor.{Actor}
use Rattle.txn_data.specs.declared.actor.Actor.TheVariants.{Tablet, Status, Session, Applier}
use Rattle.txn_data.specs.declared.append.Append.{Append}
use Rattle.txn_data.specs.declared.fate.Fate.TheVariants as fate
use Rattle.txn_data.specs.declared.met_at.MetAt.{MetAt}
use Rattle.txn_data.specs.declared.read_kind.ReadKind.{ReadKind}
use Rattle.txn_data.specs.declared.refusal.Refusal.TheVariants as refusal
use Rattle.txn_data.specs.declared.reply.Reply.{Reply}
use Rattle.txn_data.specs.declared.reply.Reply.TheVariants as reply
use Rattle.txn_data.specs.declared.request.Request.{Request}
use Rattle.txn_data.specs.declared.request.Request.TheVariants as request
use Rattle.txn_data.specs.declared.version.Version.{Version}
use Rattle.txn_data.specs.declared.config.Config.{Config}
use Rattle.txn_data.specs.declared.event.Event.{Event}
use Rattle.txn_data.specs.declared.event.Event.TheVariants.{Serve}
use Rattle.txn_data.specs.declared.entry.Entry.{Entry}
use Rattle.txn_types.specs.Lists.{Member, or_zero}
use Rattle.txn_types.specs.History.{History, own}
use Rattle.txn_types.specs.Clock.{Answer, refusal_answer, logged, timed, timed_answer, holds, clock_time, Kind, Own, Floor, lease_due, lease_end, last_time, has_given, down_since}
use Rattle.txn_types.specs.Status.{Record, NoRecord, Pending, Committed, AbortedBy, record_of, fate_told, resolved, commit_answer, abort_answer, may_forget, is_sure, noted, status_up, status_standing, status_answer}
use Rattle.txn_types.specs.Tablet.{conflict, provisional, versions, greatest_above, related_commits, greatest_fate, considered, met_under, collected, listed, local_limit, has_any, write_answer, tablet_up, tablet_standing, tablet_answer}
use Rattle.txn_types.specs.Run.{Serves, IsMachine, Allowed, Steps, Run, machine_answer}
use Rattle.law_owners.specs.Owner.{IsOfTable, IsHomedAt}
use Rattle.law_owners.proofs.Runs.{requests_homed}
use Rattle.law_requests.specs.Laws.{IsListing, NoEntryIsOutOfMemory, ListsAnswerListings}

-- the reply may be one to this request
abbrev Fits : Request → Reply → Type 0
Fits asked (reply.Refused refusal.Memory) = ⊥
Fits asked (reply.Listed limit others) = IsListing asked
Fits asked r = Unit {0}

logged_fits : (asked : Request) (fails due : Bool) (time : Option ℕ) (r : Reply) → Fits asked r → Fits asked (logged fails due time r).reply
logged_fits asked fails false time r fits = fits
logged_fits asked false true time r fits = fits
logged_fits asked true true time r fits = tt

given_fits : (asked : Request) (lease : ℕ) (end : Option ℕ) (fails records : Bool) (time : Result ℕ TimeRefusal) (r : ℕ → Reply) → ((now : ℕ) → Fits asked (r now)) → Fits asked (timed_answer lease end fails records time r).reply
given_fits asked lease end fails records (Err (ClockFull at)) r fits = tt
given_fits asked lease end fails records (Err (ClockRange reading)) r fits = tt
given_fits asked lease end fails true (Ok now) r fits = logged_fits asked fails true (Some now) (r now) (fits now)
given_fits asked lease end fails false (Ok now) r fits = logged_fits asked fails (lease_due end now) (Some now) (r now) (fits now)

held_fits : (b : Bool) (asked : Request) (until : ℕ) (answer : Answer) → Fits asked answer.reply → Fits asked (if b then refusal_answer (refusal.LeaseHeld until) else answer).reply
held_fits true asked until answer fits = tt
held_fits false asked until answer fits = fits

timed_fits : (asked : Request) (lease : ℕ) (o : History) (fails : Bool) (kind : Kind) (floor reading : ℕ) (records : Bool) (r : ℕ → Reply) → ((now : ℕ) → Fits asked (r now)) → Fits asked (timed lease o fails kind floor reading records r).reply
timed_fits asked lease o fails kind floor reading records r fits =
    held_fits (holds (lease_end lease o) (has_given o) reading) asked (or_zero (lease_end lease o)) (timed_answer lease (lease_end lease o) fails records (clock_time kind (last_time o) floor reading) r)
    (given_fits asked lease (lease_end lease o) fails records (clock_time kind (last_time o) floor reading) r fits)

write_fits : (asked : Request) (c v : Option ℕ) (done : Answer) → Fits asked done.reply → Fits asked (write_answer c v done).reply
write_fits asked (Some other) v done fits = tt
write_fits asked None (Some at) done fits = tt
write_fits asked None None done fits = fits

choice_fits : (b : Bool) (asked : Request) (one two : Answer) → Fits asked one.reply → Fits asked two.reply → Fits asked (if b then one else two).reply
choice_fits true asked one two fits more = fits
choice_fits false asked one two fits more = more

collected_fits : (asked : Request) (kind : ReadKind) (paths : List Parts) (t : ℕ) (vs : List Version) (met : Option MetAt) → Fits asked (collected kind paths t vs met)
collected_fits asked kind paths t vs None = tt
collected_fits asked kind paths t vs (Some m) = tt

abbrev IsUp : Request → Type 0
IsUp request.Restart = ⊥
IsUp asked = Unit {0}

up_fits : (lease k : ℕ) (o : History) (fails : Bool) (reading : ℕ) (asked : Request) → IsOfTable (Tablet k) asked → IsUp asked → Fits asked (tablet_up lease o fails reading asked).reply
up_fits lease k o fails reading (request.ListWrite x path) table up = tt
up_fits lease k o fails reading (request.Write meta number path op read seen fates) table up =
    write_fits (request.Write meta number path op read seen fates) (conflict meta.txn path fates (provisional o)) (greatest_above read (related_commits meta.txn path fates (provisional o) (versions o))) _
    (timed_fits (request.Write meta number path op read seen fates) lease o fails Own seen reading true (λ w. reply.Written w) (λ now. tt))
up_fits lease k o fails reading (request.Single x path op seen fates) table up =
    write_fits (request.Single x path op seen fates) (conflict x path fates (provisional o)) None _
    (timed_fits (request.Single x path op seen fates) lease o fails Own (max seen (greatest_fate fates fates)) reading true (λ c. reply.SingleDone c) (λ now. tt))
up_fits lease k o fails reading (request.ListRead own_txn paths t g limit) table up =
    timed_fits (request.ListRead own_txn paths t g limit) lease o fails Floor t reading false (λ now. listed own_txn paths t (local_limit limit now g) (provisional o)) (λ now. tt)
up_fits lease k o fails reading (request.Collect own_txn kind paths t window fates) table up =
    let vs = considered own_txn fates (provisional o) (versions o) in collected_fits (request.Collect own_txn kind paths t window fates) kind paths t vs (met_under window t paths vs)
up_fits lease k o fails reading request.ListIntents table up = tt
up_fits lease k o fails reading (request.Apply x at) table up =
    choice_fits (has_any x (provisional o)) (request.Apply x at) (timed lease o fails Floor at reading true (λ now. reply.AppliedHere)) _ (timed_fits (request.Apply x at) lease o fails Floor at reading true (λ now. reply.AppliedHere) (λ now. tt)) tt
up_fits lease k o fails reading (request.Clean x) table up = logged_fits (request.Clean x) fails (has_any x (provisional o)) None reply.Cleaned tt
up_fits lease k o fails reading (request.Begin x isolation priority) table up = absurd table
up_fits lease k o fails reading (request.AskFate x t) table up = absurd table
up_fits lease k o fails reading (request.Resolve x by priority) table up = absurd table
up_fits lease k o fails reading (request.Commit x floor tablets) table up = absurd table
up_fits lease k o fails reading (request.Abort x) table up = absurd table
up_fits lease k o fails reading (request.Applied x tablet) table up = absurd table
up_fits lease k o fails reading request.Restart table up = absurd up

standing_fits : (asked : Request) (d : Option ℕ) (up : Answer) → Fits asked up.reply → Fits asked (tablet_standing d up).reply
standing_fits asked (Some since) up fits = tt
standing_fits asked None up fits = fits

tablet_fits : (lease k : ℕ) (o : History) (fails : Bool) (reading : ℕ) (asked : Request) → IsOfTable (Tablet k) asked → Fits asked (tablet_answer lease o fails reading asked).reply
tablet_fits lease k o fails reading request.Restart table = tt
tablet_fits lease k o fails reading asked table = standing_fits asked (down_since o) (tablet_up lease o fails reading asked) (up_fits lease k o fails reading asked table tt)

resolved_fits : (asked : Request) (fails : Bool) (priority : ℕ) (r : Record) → Fits asked (resolved fails priority r).reply
resolved_fits asked fails priority (Pending lower) =
    choice_fits (nat_lt lower priority) asked (logged fails true None (reply.FateIs fate.Aborted)) _ (logged_fits asked fails true None (reply.FateIs fate.Aborted) tt) tt
resolved_fits asked fails priority (Committed c tablets) = tt
resolved_fits asked fails priority (AbortedBy by) = tt
resolved_fits asked fails priority NoRecord = tt

commit_fits : (asked : Request) (r : Record) (done : Answer) → Fits asked done.reply → Fits asked (commit_answer r done).reply
commit_fits asked (Pending priority) done fits = fits
commit_fits asked (Committed c tablets) done fits = tt
commit_fits asked (AbortedBy by) done fits = tt
commit_fits asked NoRecord done fits = tt

abort_fits : (asked : Request) (fails : Bool) (r : Record) → Fits asked (abort_answer fails r).reply
abort_fits asked fails (Committed c tablets) = tt
abort_fits asked fails (Pending priority) = logged_fits asked fails true None reply.Ended tt
abort_fits asked fails (AbortedBy by) = logged_fits asked fails true None reply.Ended tt
abort_fits asked fails NoRecord = tt

status_up_fits : (lease j : ℕ) (o : History) (fails : Bool) (reading : ℕ) (asked : Request) → IsOfTable (Status j) asked → IsUp asked → Fits asked (status_up lease o fails reading asked).reply
status_up_fits lease j o fails reading (request.Begin x isolation priority) table up = logged_fits (request.Begin x isolation priority) fails true None reply.Begun tt
status_up_fits lease j o fails reading (request.AskFate x t) table up = timed_fits (request.AskFate x t) lease o fails Floor t reading false (λ now. reply.FateIs (fate_told (record_of x o))) (λ now. tt)
status_up_fits lease j o fails reading (request.Resolve x by priority) table up = resolved_fits (request.Resolve x by priority) fails priority (record_of x o)
status_up_fits lease j o fails reading (request.Commit x floor tablets) table up =
    commit_fits (request.Commit x floor tablets) (record_of x o) (timed lease o fails Own floor reading true (λ c. reply.Committed c))
    (timed_fits (request.Commit x floor tablets) lease o fails Own floor reading true (λ c. reply.Committed c) (λ now. tt))
status_up_fits lease j o fails reading (request.Abort x) table up = abort_fits (request.Abort x) fails (record_of x o)
status_up_fits lease j o fails reading (request.Applied x tablet) table up = logged_fits (request.Applied x tablet) fails (may_forget (is_sure x o) (tablet ∷ noted x o) (record_of x o)) None reply.Noted tt
status_up_fits lease j o fails reading (request.ListWrite x path) table up = absurd table
status_up_fits lease j o fails reading (request.Write meta number path op read seen fates) table up = absurd table
status_up_fits lease j o fails reading (request.Single x path op seen fates) table up = absurd table
status_up_fits lease j o fails reading (request.ListRead own_txn paths t g limit) table up = absurd table
status_up_fits lease j o fails reading (request.Collect own_txn kind paths t window fates) table up = absurd table
status_up_fits lease j o fails reading request.ListIntents table up = absurd table
status_up_fits lease j o fails reading (request.Apply x at) table up = absurd table
status_up_fits lease j o fails reading (request.Clean x) table up = absurd table
status_up_fits lease j o fails reading request.Restart table up = absurd up

status_standing_fits : (asked : Request) (d : Option ℕ) (up : Answer) → Fits asked up.reply → Fits asked (status_standing d up).reply
status_standing_fits asked (Some since) up fits = tt
status_standing_fits asked None up fits = fits

status_fits : (lease j : ℕ) (o : History) (fails : Bool) (reading : ℕ) (asked : Request) → IsOfTable (Status j) asked → Fits asked (status_answer lease o fails reading asked).reply
status_fits lease j o fails reading request.Restart table = tt
status_fits lease j o fails reading asked table = status_standing_fits asked (down_since o) (status_up lease o fails reading asked) (status_up_fits lease j o fails reading asked table tt)

machine_fits : (config : Config) (lease : ℕ) (a : Actor) (o : History) (fails : Bool) (reading : ℕ) (asked : Request) → IsMachine config a → IsOfTable a asked → Fits asked (machine_answer lease a o fails reading asked).reply
machine_fits config lease (Tablet k) o fails reading asked there table = tablet_fits lease k o fails reading asked table
machine_fits config lease (Status j) o fails reading asked there table = status_fits lease j o fails reading asked table
machine_fits config lease (Session i) o fails reading asked there table = absurd there
machine_fits config lease (Applier k) o fails reading asked there table = absurd there

-- ## each entry of a run

allowed_at : (config : Config) (h : History) (e : Entry) (from : Actor) (asked : Request) (r : Reply) (time : Option ℕ) (append : Append) → Steps config h → Member e h → e.event ≡ Serve from asked r time append →
    (before : History) × IsMachine config e.actor × Serves config.lease_us e.actor (own e.actor before) e.reading asked r time append
unfolding Steps
allowed_at config [] e from asked r time append steps at is = absurd at
allowed_at config (f ∷ h) e from asked r time append steps at is = elim at [
  | inl here ↦
      let allowed : Allowed config h e.actor e.reading e.event = subst (λ (g : Entry). Allowed config h g.actor g.reading g.event) (sym here) steps.1 in
      let serves : Allowed config h e.actor e.reading (Serve from asked r time append) = subst (λ (v : Event). Allowed config h e.actor e.reading v) is allowed in
      (h, serves.0, serves.2)
  | inr before ↦ allowed_at config h e from asked r time append steps.0 before is
]

entry_fits : (config : Config) (h : History) (e : Entry) (from : Actor) (asked : Request) (r : Reply) (time : Option ℕ) (append : Append) → Run config h → Member e h → e.event ≡ Serve from asked r time append → Fits asked r
entry_fits config h e from asked r time append run at is =
    let found = allowed_at config h e from asked r time append run.1 at is in
    let homed : IsHomedAt config e.actor (Serve from asked r time append) = subst (λ (v : Event). IsHomedAt config e.actor v) is (requests_homed config h e run at) in
    subst (Fits asked) (sym found.2.replied) (machine_fits config config.lease_us e.actor (own e.actor found.0) found.2.fails (or_zero e.reading) asked found.1 homed.1)

pub no_memory : NoEntryIsOutOfMemory
no_memory config h e from asked time append run at is = entry_fits config h e from asked (reply.Refused refusal.Memory) time append run at is

pub lists_fit : ListsAnswerListings
lists_fit config h e from asked limit others time append run at is = entry_fits config h e from asked (reply.Listed limit others) time append run at is
