-- What a machine may answer a request, and what becomes of its append.
use Rattle.std.proofs.Common.{◌≡◌, ℕ, Bool, true, false, List, ◌∷◌, Option, Some, None, max, Result, Ok, Err, nat_lt, refl, sym, ◌∙◌, ap, subst, inl, inr, ◌⊎◌, if◌then◌else◌}
use Rattle.hybrid_time.specs.declared.time_refusal.TimeRefusal.{TimeRefusal}
use Rattle.hybrid_time.specs.declared.time_refusal.TimeRefusal.TheVariants as time_refusal
use Rattle.doc_path.specs.Path.{Parts}
use Rattle.txn_data.specs.declared.actor.Actor.{Actor}
use Rattle.txn_data.specs.declared.actor.Actor.TheVariants.{Tablet, Status, Session, Applier}
use Rattle.txn_data.specs.declared.append.Append.{Append}
use Rattle.txn_data.specs.declared.append.Append.TheVariants.{Nothing, Took, Failed}
use Rattle.txn_data.specs.declared.fate.Fate.TheVariants as fate
use Rattle.txn_data.specs.declared.fate_of.FateOf.{FateOf}
use Rattle.txn_data.specs.declared.met_at.MetAt.{MetAt}
use Rattle.txn_data.specs.declared.read_kind.ReadKind.{ReadKind}
use Rattle.txn_data.specs.declared.version.Version.{Version}
use Rattle.txn_data.specs.declared.window.Window.{Window}
use Rattle.txn_data.specs.declared.request.Request.{Request}
use Rattle.txn_data.specs.declared.request.Request.TheVariants as request
use Rattle.txn_data.specs.declared.reply.Reply.{Reply}
use Rattle.txn_data.specs.declared.reply.Reply.TheVariants as reply
use Rattle.txn_data.specs.declared.refusal.Refusal.TheVariants as refusal
use Rattle.txn_types.specs.Lists.{or_zero}
use Rattle.txn_types.specs.History.{History}
use Rattle.txn_types.specs.Clock.{Answer, told_only, refusal_answer, logged, lease_due, timed, timed_answer, holds, clock_time, Kind, Own, Floor, lease_end, last_time, has_given, down_since}
use Rattle.txn_types.specs.Tablet.{tablet_up, write_answer, has_any, provisional, conflict, greatest_above, related_commits, versions, greatest_fate, listed, local_limit, considered, collected, met_under, met_in}
use Rattle.txn_types.specs.Status.{status_up, record_of, commit_answer, fate_told, Record, NoRecord, Pending, Committed, AbortedBy, resolved, abort_answer, may_forget, is_sure, noted}
use Rattle.txn_types.specs.Run.{Serves, machine_answer, is_settling}
use Rattle.txn_types.specs.Cause.{IsRestart}
use Rattle.law_refusal_rows.proofs.Tables.{Up, Standing, live}

-- only a Collect with a window is answered so
abbrev pub HasWindow : Request → Type 0
HasWindow (request.Collect own_txn kind paths t (Some window) fates) = Unit {0}
HasWindow asked = ⊥

abbrev pub IsMet : Request → Reply → Type 0
IsMet asked (reply.Met at path) = HasWindow asked
IsMet asked r = Unit {0}

-- these never have anything to log
abbrev pub logs : Request → Bool
logs (request.ListWrite x path) = false
logs (request.Collect own_txn kind paths t window fates) = false
logs request.ListIntents = false
logs request.Restart = false
logs asked = true

-- what is answered once the log took what a write, a single write, a begin, a commit or an abort had to log
abbrev pub IsDone : Request → Reply → Type 0
IsDone (request.Write meta number path op read seen fates) r = (at : ℕ) × (r ≡ reply.Written at)
IsDone (request.Single x path op seen fates) r = (at : ℕ) × (r ≡ reply.SingleDone at)
IsDone (request.Begin x isolation priority) r = r ≡ reply.Begun
IsDone (request.Commit x floor tablets) r = (at : ℕ) × (r ≡ reply.Committed at)
IsDone (request.Abort x) r = r ≡ reply.Ended
IsDone asked r = Unit {0}

abbrev pub Shape : Request → Reply → Append → Type 0
Shape asked r Nothing = IsMet asked r
Shape asked r Failed = (r ≡ reply.Refused refusal.LogFault) × (logs asked ≡ true)
Shape asked r Took = IsMet asked r × IsDone asked r × (logs asked ≡ true)

abbrev ShapeOf : Request → Answer → Type 0
ShapeOf asked a = Shape asked a.reply a.append

shape_logged : (asked : Request) (fails due : Bool) (time : Option ℕ) (r : Reply) → IsMet asked r → IsDone asked r → logs asked ≡ true → ShapeOf asked (logged fails due time r)
shape_logged asked fails false time r is done log = is
shape_logged asked false true time r is done log = (is, done, log)
shape_logged asked true true time r is done log = (refl, log)

shape_given : (asked : Request) (lease : ℕ) (end : Option ℕ) (fails records : Bool) (t : Result ℕ TimeRefusal) (r : ℕ → Reply) → ((n : ℕ) → IsMet asked (r n) × IsDone asked (r n)) → logs asked ≡ true → ShapeOf asked (timed_answer lease end fails records t r)
shape_given asked lease end fails records (Err (time_refusal.ClockRange n)) r is log = tt
shape_given asked lease end fails records (Err (time_refusal.ClockFull at)) r is log = tt
shape_given asked lease end fails true (Ok time) r is log = shape_logged asked fails true (Some time) (r time) (is time).0 (is time).1 log
shape_given asked lease end fails false (Ok time) r is log = shape_logged asked fails (lease_due end time) (Some time) (r time) (is time).0 (is time).1 log

shape_choice : (asked : Request) (b : Bool) (one two : Answer) → ShapeOf asked one → ShapeOf asked two → ShapeOf asked (if b then one else two)
shape_choice asked true one two first second = first
shape_choice asked false one two first second = second

shape_timed : (asked : Request) (lease : ℕ) (o : History) (fails : Bool) (kind : Kind) (floor reading : ℕ) (records : Bool) (r : ℕ → Reply) → ((n : ℕ) → IsMet asked (r n) × IsDone asked (r n)) → logs asked ≡ true → ShapeOf asked (timed lease o fails kind floor reading records r)
shape_timed asked lease o fails kind floor reading records r is log =
    shape_choice asked (holds (lease_end lease o) (has_given o) reading) (refusal_answer (refusal.LeaseHeld (or_zero (lease_end lease o)))) (timed_answer lease (lease_end lease o) fails records (clock_time kind (last_time o) floor reading) r)
    tt (shape_given asked lease (lease_end lease o) fails records (clock_time kind (last_time o) floor reading) r is log)

shape_write : (asked : Request) (c v : Option ℕ) (done : Answer) → ShapeOf asked done → ShapeOf asked (write_answer c v done)
shape_write asked (Some other) v done is = tt
shape_write asked None (Some at) done is = tt
shape_write asked None None done is = is

shape_collected : (own_txn : Option ℕ) (kind : ReadKind) (paths : List Parts) (t : ℕ) (window : Option Window) (fates : List FateOf) (vs : List Version) → IsMet (request.Collect own_txn kind paths t window fates) (collected kind paths t vs (met_under window t paths vs))
shape_collected own_txn kind paths t None fates vs = tt
shape_collected own_txn kind paths t (Some window) fates vs = choice (met_in window t paths vs)
  where
    choice : (m : Option MetAt) → IsMet (request.Collect own_txn kind paths t (Some window) fates) (collected kind paths t vs m)
    choice (Some m) = tt
    choice None = tt

shape_tablet : (lease : ℕ) (o : History) (fails : Bool) (reading : ℕ) (asked : Request) → ShapeOf asked (tablet_up lease o fails reading asked)
shape_tablet lease o fails reading (request.ListWrite x path) = tt
shape_tablet lease o fails reading (request.Write meta number path op read seen fates) =
    shape_write (request.Write meta number path op read seen fates) (conflict meta.txn path fates (provisional o)) (greatest_above read (related_commits meta.txn path fates (provisional o) (versions o))) _
    (shape_timed (request.Write meta number path op read seen fates) lease o fails Own seen reading true (λ w. reply.Written w) (λ n. (tt, (n, refl))) refl)
shape_tablet lease o fails reading (request.Single x path op seen fates) =
    shape_write (request.Single x path op seen fates) (conflict x path fates (provisional o)) None _
    (shape_timed (request.Single x path op seen fates) lease o fails Own (max seen (greatest_fate fates fates)) reading true (λ c. reply.SingleDone c) (λ n. (tt, (n, refl))) refl)
shape_tablet lease o fails reading (request.ListRead own_txn paths t g limit) =
    shape_timed (request.ListRead own_txn paths t g limit) lease o fails Floor t reading false (λ now. listed own_txn paths t (local_limit limit now g) (provisional o)) (λ n. (tt, tt)) refl
shape_tablet lease o fails reading (request.Collect own_txn kind paths t window fates) = shape_collected own_txn kind paths t window fates (considered own_txn fates (provisional o) (versions o))
shape_tablet lease o fails reading (request.Apply x at) =
    shape_choice (request.Apply x at) (has_any x (provisional o)) _ (told_only reply.AppliedHere) (shape_timed (request.Apply x at) lease o fails Floor at reading true (λ now. reply.AppliedHere) (λ n. (tt, tt)) refl) tt
shape_tablet lease o fails reading (request.Clean x) = shape_logged (request.Clean x) fails (has_any x (provisional o)) None reply.Cleaned tt tt refl
shape_tablet lease o fails reading asked = tt

shape_resolved : (x by priority : ℕ) (fails : Bool) (r : Record) → ShapeOf (request.Resolve x by priority) (resolved fails priority r)
shape_resolved x by priority fails (Pending own) = shape_choice (request.Resolve x by priority) (nat_lt own priority) (logged fails true None (reply.FateIs fate.Aborted)) (told_only (reply.FateIs fate.Pending)) (shape_logged (request.Resolve x by priority) fails true None (reply.FateIs fate.Aborted) tt tt refl) tt
shape_resolved x by priority fails NoRecord = tt
shape_resolved x by priority fails (Committed c tablets) = tt
shape_resolved x by priority fails (AbortedBy who) = tt

shape_commit : (asked : Request) (r : Record) (done : Answer) → ShapeOf asked done → ShapeOf asked (commit_answer r done)
shape_commit asked (Pending priority) done is = is
shape_commit asked (Committed c tablets) done is = tt
shape_commit asked (AbortedBy by) done is = tt
shape_commit asked NoRecord done is = tt

shape_abort : (x : ℕ) (fails : Bool) (r : Record) → ShapeOf (request.Abort x) (abort_answer fails r)
shape_abort x fails (Pending priority) = shape_logged (request.Abort x) fails true None reply.Ended tt refl refl
shape_abort x fails (Committed c tablets) = tt
shape_abort x fails (AbortedBy by) = shape_logged (request.Abort x) fails true None reply.Ended tt refl refl
shape_abort x fails NoRecord = tt

shape_status : (lease : ℕ) (o : History) (fails : Bool) (reading : ℕ) (asked : Request) → ShapeOf asked (status_up lease o fails reading asked)
shape_status lease o fails reading (request.Begin x isolation priority) = shape_logged (request.Begin x isolation priority) fails true None reply.Begun tt refl refl
shape_status lease o fails reading (request.AskFate x t) = shape_timed (request.AskFate x t) lease o fails Floor t reading false (λ now. reply.FateIs (fate_told (record_of x o))) (λ n. (tt, tt)) refl
shape_status lease o fails reading (request.Resolve x by priority) = shape_resolved x by priority fails (record_of x o)
shape_status lease o fails reading (request.Commit x floor tablets) =
    shape_commit (request.Commit x floor tablets) (record_of x o) _ (shape_timed (request.Commit x floor tablets) lease o fails Own floor reading true (λ c. reply.Committed c) (λ n. (tt, (n, refl))) refl)
shape_status lease o fails reading (request.Abort x) = shape_abort x fails (record_of x o)
shape_status lease o fails reading (request.Applied x tablet) =
    shape_logged (request.Applied x tablet) fails (may_forget (is_sure x o) (tablet ∷ noted x o) (record_of x o)) None reply.Noted tt tt refl
shape_status lease o fails reading asked = tt

shape_up : (lease : ℕ) (a : Actor) (o : History) (fails : Bool) (reading : ℕ) (asked : Request) (down : Option ℕ) → ShapeOf asked (Standing a down (Up a lease o fails reading asked))
shape_up lease (Tablet k) o fails reading asked (Some since) = tt
shape_up lease (Tablet k) o fails reading asked None = shape_tablet lease o fails reading asked
shape_up lease (Status j) o fails reading asked (Some since) = tt
shape_up lease (Status j) o fails reading asked None = shape_status lease o fails reading asked
shape_up lease (Session i) o fails reading asked (Some since) = tt
shape_up lease (Session i) o fails reading asked None = shape_status lease o fails reading asked
shape_up lease (Applier k) o fails reading asked (Some since) = tt
shape_up lease (Applier k) o fails reading asked None = shape_status lease o fails reading asked

restart_cases : (q : Request) → (q ≡ request.Restart) ⊎ (IsRestart q → ⊥)
restart_cases request.Restart = inl refl
restart_cases q = inr (λ is. is)

shape_restart : (lease : ℕ) (a : Actor) (o : History) (fails : Bool) (reading : ℕ) → ShapeOf request.Restart (machine_answer lease a o fails reading request.Restart)
shape_restart lease (Tablet k) o fails reading = tt
shape_restart lease (Status j) o fails reading = tt
shape_restart lease (Session i) o fails reading = tt
shape_restart lease (Applier k) o fails reading = tt

shape_machine : (lease : ℕ) (a : Actor) (o : History) (fails : Bool) (reading : ℕ) (asked : Request) → ShapeOf asked (machine_answer lease a o fails reading asked)
shape_machine lease a o fails reading asked = elim (restart_cases asked) [
  | inl is ↦ subst (λ (q : Request). ShapeOf q (machine_answer lease a o fails reading q)) (sym is) (shape_restart lease a o fails reading)
  | inr other ↦ subst (λ (x : Answer). ShapeOf asked x) (sym (live lease a o fails reading asked other)) (shape_up lease a o fails reading asked (down_since o))
]

-- of what a machine served
pub shape_served : (lease : ℕ) (a : Actor) (o : History) (reading : Option ℕ) (asked : Request) (r : Reply) (time : Option ℕ) (append : Append) → Serves lease a o reading asked r time append → Shape asked r append
shape_served lease a o reading asked r time append serves =
    subst (λ (p : Append). Shape asked r p) (sym serves.logged)
    (subst (λ (x : Reply). Shape asked x (machine_answer lease a o serves.fails (or_zero reading) asked).append) (sym serves.replied) (shape_machine lease a o serves.fails (or_zero reading) asked))

met_shape : (asked : Request) (r : Reply) (append : Append) (at : ℕ) (path : Parts) → Shape asked r append → r ≡ reply.Met at path → HasWindow asked
met_shape asked r Nothing at path shape is = subst (λ (x : Reply). IsMet asked x) is shape
met_shape asked r Took at path shape is = subst (λ (x : Reply). IsMet asked x) is shape.0
met_shape asked r Failed at path shape is = let wrong : reply.Refused refusal.LogFault ≡ reply.Met at path = sym shape.0 ∙ is in cc

pub met_served : (lease : ℕ) (a : Actor) (o : History) (reading : Option ℕ) (asked : Request) (r : Reply) (time : Option ℕ) (append : Append) (at : ℕ) (path : Parts) → Serves lease a o reading asked r time append → r ≡ reply.Met at path → HasWindow asked
met_served lease a o reading asked r time append at path serves is = met_shape asked r append at path (shape_served lease a o reading asked r time append serves) is

-- ## an abort

settles_logged : (fails : Bool) → is_settling (logged fails true None reply.Ended).reply ≡ true
settles_logged true = refl
settles_logged false = refl

settles_abort : (fails : Bool) (r : Record) → is_settling (abort_answer fails r).reply ≡ true
settles_abort fails (Committed c tablets) = refl
settles_abort fails (Pending priority) = settles_logged fails
settles_abort fails (AbortedBy by) = settles_logged fails
settles_abort fails NoRecord = refl

settles_machine : (lease : ℕ) (a : Actor) (o : History) (fails : Bool) (reading x : ℕ) (down : Option ℕ) → is_settling (Standing a down (Up a lease o fails reading (request.Abort x))).reply ≡ true
settles_machine lease (Tablet k) o fails reading x (Some since) = refl
settles_machine lease (Tablet k) o fails reading x None = refl
settles_machine lease (Status j) o fails reading x (Some since) = refl
settles_machine lease (Status j) o fails reading x None = settles_abort fails (record_of x o)
settles_machine lease (Session i) o fails reading x (Some since) = refl
settles_machine lease (Session i) o fails reading x None = settles_abort fails (record_of x o)
settles_machine lease (Applier k) o fails reading x (Some since) = refl
settles_machine lease (Applier k) o fails reading x None = settles_abort fails (record_of x o)

-- whatever an Abort is answered settles its command
pub abort_settles : (lease : ℕ) (a : Actor) (o : History) (reading : Option ℕ) (x : ℕ) (r : Reply) (time : Option ℕ) (append : Append) → Serves lease a o reading (request.Abort x) r time append → is_settling r ≡ true
abort_settles lease a o reading x r time append serves =
    ap is_settling serves.replied
    ∙ (ap (λ (b : Answer). is_settling b.reply) (live lease a o serves.fails (or_zero reading) (request.Abort x) (λ is. is))
    ∙ settles_machine lease a o serves.fails (or_zero reading) x (down_since o))
