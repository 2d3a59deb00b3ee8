-- What a status tablet told of a transaction is what has become of it.
use Rattle.std.proofs.Common.{◌≡◌, ℕ, Bool, true, false, List, Option, Some, None, Result, Ok, Err, nat_lt, refl, sym, ◌∙◌, ap, subst, inl, inr, ◌⊎◌, if◌then◌else◌}
use Rattle.hybrid_time.specs.declared.time_refusal.TimeRefusal.{TimeRefusal}
use Rattle.txn_data.specs.declared.actor.Actor.{Actor}
use Rattle.txn_data.specs.declared.actor.Actor.TheVariants.{Status}
use Rattle.txn_data.specs.declared.append.Append.{Append}
use Rattle.txn_data.specs.declared.append.Append.TheVariants.{Took}
use Rattle.txn_data.specs.declared.fate.Fate.{Fate}
use Rattle.txn_data.specs.declared.fate.Fate.TheVariants as fate
use Rattle.txn_data.specs.declared.request.Request.{Request}
use Rattle.txn_data.specs.declared.request.Request.TheVariants as request
use Rattle.txn_data.specs.declared.reply.Reply.{Reply}
use Rattle.txn_data.specs.declared.reply.Reply.TheVariants as reply
use Rattle.txn_data.specs.declared.refusal.Refusal.TheVariants as refusal
use Rattle.txn_data.specs.declared.event.Event.{Event}
use Rattle.txn_data.specs.declared.event.Event.TheVariants.{Serve}
use Rattle.txn_types.specs.Lists.{or_zero}
use Rattle.txn_types.specs.History.{History}
use Rattle.txn_types.specs.Clock.{Answer, told_only, refusal_answer, logged, timed, timed_answer, holds, clock_time, Own, Floor, lease_due, lease_end, last_time, has_given, down_since}
use Rattle.txn_types.specs.Status.{Record, NoRecord, Pending, Committed, AbortedBy, record_of, fate_told, status_answer, status_up, status_standing, resolved, commit_answer, abort_answer}
use Rattle.txn_types.specs.Run.{Serves}
use Rattle.law_machines.specs.Own.{ServesNext}
use Rattle.law_fates.specs.Laws.{Tells}
use Rattle.law_fates.proofs.Life.{Life, Open, Finished, Dead, RecordIs, Commits, IsResolve}

-- what is told of a record
abbrev pub Becomes : Fate → Life → Type 0
Becomes fate.Pending v = v ≡ Open
Becomes (fate.Committed c) v = v ≡ Finished c
Becomes fate.Aborted v = v ≡ Dead
Becomes fate.Absent v = Unit {0}

told_record : (r : Record) (v : Life) → RecordIs r v → Becomes (fate_told r) v
told_record NoRecord v is = tt
told_record (Pending own) v is = is
told_record (Committed c tablets) v is = is
told_record (AbortedBy by) v is = is

-- ## what the table tells

abbrev pub FateOfReply : Reply → Fate → Type 0
FateOfReply (reply.FateIs f) g = f ≡ g
FateOfReply (reply.Committed c) g = fate.Committed c ≡ g
FateOfReply (reply.AbortedBy by) g = fate.Aborted ≡ g
FateOfReply r g = ⊥

-- of a Resolve
abbrev pub Resolves : Record → Fate → Append → Type 0
Resolves r f append = (f ≡ fate_told r) ⊎ ((f ≡ fate.Aborted) × (append ≡ Took))

resolve_lower : (b fails : Bool) (r : Record) (f : Fate) → fate_told r ≡ fate.Pending →
    FateOfReply (if b then logged fails true None (reply.FateIs fate.Aborted) else told_only (reply.FateIs fate.Pending)).reply f →
    Resolves r f (if b then logged fails true None (reply.FateIs fate.Aborted) else told_only (reply.FateIs fate.Pending)).append
resolve_lower true false r f told is = inr (sym is, refl)
resolve_lower true true r f told is = absurd is
resolve_lower false fails r f told is = inl (sym is ∙ sym told)

resolve_told : (fails : Bool) (priority : ℕ) (r : Record) (f : Fate) → FateOfReply (resolved fails priority r).reply f → Resolves r f (resolved fails priority r).append
resolve_told fails priority (Pending own) f is = resolve_lower (nat_lt own priority) fails (Pending own) f refl is
resolve_told fails priority (Committed c tablets) f is = inl (sym is)
resolve_told fails priority (AbortedBy by) f is = inl (sym is)
resolve_told fails priority NoRecord f is = inl (sym is)

-- of a Commit
abbrev pub CommitTells : Record → Fate → Option ℕ → Append → Type 0
CommitTells r f time append = (f ≡ fate_told r) ⊎ ((c : ℕ) × (f ≡ fate.Committed c) × (time ≡ Some c) × (append ≡ Took))

abbrev pub CommitBy : Record → Fate → Answer → Type 0
CommitBy r f answer = CommitTells r f answer.time answer.append

commit_logged : (fails : Bool) (c : ℕ) (r : Record) (f : Fate) → FateOfReply (logged fails true (Some c) (reply.Committed c)).reply f → CommitBy r f (logged fails true (Some c) (reply.Committed c))
commit_logged false c r f is = inr (c, sym is, refl, refl)
commit_logged true c r f is = absurd is

commit_given : (lease : ℕ) (end : Option ℕ) (fails : Bool) (time : Result ℕ TimeRefusal) (r : Record) (f : Fate) → FateOfReply (timed_answer lease end fails true time (λ c. reply.Committed c)).reply f →
    CommitBy r f (timed_answer lease end fails true time (λ c. reply.Committed c))
commit_given lease end fails (Err e) r f is = absurd is
commit_given lease end fails (Ok c) r f is = commit_logged fails c r f is

commit_chosen : (b : Bool) (at lease : ℕ) (end : Option ℕ) (fails : Bool) (time : Result ℕ TimeRefusal) (r : Record) (f : Fate) →
    FateOfReply (if b then refusal_answer (refusal.LeaseHeld at) else timed_answer lease end fails true time (λ c. reply.Committed c)).reply f →
    CommitBy r f (if b then refusal_answer (refusal.LeaseHeld at) else timed_answer lease end fails true time (λ c. reply.Committed c))
commit_chosen true at lease end fails time r f is = absurd is
commit_chosen false at lease end fails time r f is = commit_given lease end fails time r f is

commit_told : (lease : ℕ) (o : History) (fails : Bool) (floor reading : ℕ) (r : Record) (f : Fate) → FateOfReply (commit_answer r (timed lease o fails Own floor reading true (λ c. reply.Committed c))).reply f →
    CommitBy r f (commit_answer r (timed lease o fails Own floor reading true (λ c. reply.Committed c)))
commit_told lease o fails floor reading (Pending own) f is =
    commit_chosen (holds (lease_end lease o) (has_given o) reading) (or_zero (lease_end lease o)) lease (lease_end lease o) fails (clock_time Own (last_time o) floor reading) (Pending own) f is
commit_told lease o fails floor reading (Committed c tablets) f is = inl (sym is)
commit_told lease o fails floor reading (AbortedBy by) f is = inl (sym is)
commit_told lease o fails floor reading NoRecord f is = absurd is

-- of an Abort
never_ended : {P : Type 0} (fails : Bool) (f : Fate) → FateOfReply (logged fails true None reply.Ended).reply f → P
never_ended false f is = absurd is
never_ended true f is = absurd is

abort_told : (fails : Bool) (r : Record) (f : Fate) → FateOfReply (abort_answer fails r).reply f → f ≡ fate_told r
abort_told fails (Committed c tablets) f is = sym is
abort_told fails (Pending own) f is = never_ended fails f is
abort_told fails (AbortedBy by) f is = never_ended fails f is
abort_told fails NoRecord f is = absurd is

-- of an AskFate
ask_logged : (fails due : Bool) (now : ℕ) (told f : Fate) → FateOfReply (logged fails due (Some now) (reply.FateIs told)).reply f → f ≡ told
ask_logged fails false now told f is = sym is
ask_logged false true now told f is = sym is
ask_logged true true now told f is = absurd is

ask_given : (lease : ℕ) (end : Option ℕ) (fails : Bool) (time : Result ℕ TimeRefusal) (told f : Fate) → FateOfReply (timed_answer lease end fails false time (λ now. reply.FateIs told)).reply f → f ≡ told
ask_given lease end fails (Err e) told f is = absurd is
ask_given lease end fails (Ok now) told f is = ask_logged fails (lease_due end now) now told f is

ask_chosen : (b : Bool) (at lease : ℕ) (end : Option ℕ) (fails : Bool) (time : Result ℕ TimeRefusal) (told f : Fate) →
    FateOfReply (if b then refusal_answer (refusal.LeaseHeld at) else timed_answer lease end fails false time (λ now. reply.FateIs told)).reply f → f ≡ told
ask_chosen true at lease end fails time told f is = absurd is
ask_chosen false at lease end fails time told f is = ask_given lease end fails time told f is

ask_told : (lease : ℕ) (o : History) (fails : Bool) (t reading : ℕ) (told f : Fate) → FateOfReply (timed lease o fails Floor t reading false (λ now. reply.FateIs told)).reply f → f ≡ told
ask_told lease o fails t reading told f is =
    ask_chosen (holds (lease_end lease o) (has_given o) reading) (or_zero (lease_end lease o)) lease (lease_end lease o) fails (clock_time Floor (last_time o) t reading) told f is

-- ## at an entry

up_of : (d : Option ℕ) (up : Answer) (f : Fate) → FateOfReply (status_standing d up).reply f → d ≡ None
up_of (Some n) up f is = absurd is
up_of None up f is = refl

up_answer : (lease : ℕ) (o : History) (fails : Bool) (reading : ℕ) (asked : Request) (f : Fate) → (asked ≡ request.Restart → ⊥) → FateOfReply (status_answer lease o fails reading asked).reply f →
    status_answer lease o fails reading asked ≡ status_up lease o fails reading asked
up_answer lease o fails reading request.Restart f never is = absurd (never refl)
up_answer lease o fails reading asked f never is = rw (up_of (down_since o) (status_up lease o fails reading asked) f is) refl

pub record Seen (lease : ℕ) (o : History) (asked : Request) (r : Reply) (at : Option ℕ) (logs : Append) (f : Fate) : Type 0 where
  pub fails : Bool
  pub reading : ℕ
  pub told : FateOfReply (status_up lease o fails reading asked).reply f
  pub time : at ≡ (status_up lease o fails reading asked).time
  pub append : logs ≡ (status_up lease o fails reading asked).append

seen : (lease j : ℕ) (o : History) (reading : Option ℕ) (asked : Request) (r : Reply) (time : Option ℕ) (append : Append) (f : Fate) → (asked ≡ request.Restart → ⊥) →
    Serves lease (Status j) o reading asked r time append → FateOfReply r f → Seen lease o asked r time append f
seen lease j o reading asked r time append f never served is =
    let there : FateOfReply (status_answer lease o served.fails (or_zero reading) asked).reply f = subst (λ (q : Reply). FateOfReply q f) served.replied is in
    let up = up_answer lease o served.fails (or_zero reading) asked f never there in
    record {
      fails = served.fails;
      reading = or_zero reading;
      told = subst (λ (a : Answer). FateOfReply a.reply f) up there;
      time = served.took ∙ ap (λ (a : Answer). a.time) up;
      append = served.logged ∙ ap (λ (a : Answer). a.append) up;
    }

at_txn : (o : History) (x y : ℕ) (f : Fate) → y ≡ x → f ≡ fate_told (record_of y o) → f ≡ fate_told (record_of x o)
at_txn o x y f same is = is ∙ ap (λ (z : ℕ). fate_told (record_of z o)) same

-- the log took it
abbrev pub WasTaken : Event → Type 0
WasTaken (Serve from asked r time Took) = Unit {0}
WasTaken event = ⊥

took_logs : (from : Actor) (asked : Request) (r : Reply) (time : Option ℕ) (append : Append) → append ≡ Took → WasTaken (Serve from asked r time append)
took_logs from asked r time append is = subst (λ (a : Append). WasTaken (Serve from asked r time a)) (sym is) tt

pub data Told (o : History) (x : ℕ) (event : Event) (f : Fate) : Type 0 where
  Before : f ≡ fate_told (record_of x o) → Told o x event f
  ByCommit : (c : ℕ) → f ≡ fate.Committed c → Commits x c event → WasTaken event → Told o x event f
  ByResolve : f ≡ fate.Aborted → IsResolve x event → WasTaken event → Told o x event f

commits_at : (x y c : ℕ) (from : Actor) (floor : ℕ) (tablets : List ℕ) (r : Reply) (time : Option ℕ) (append : Append) → y ≡ x → time ≡ Some c →
    Commits x c (Serve from (request.Commit y floor tablets) r time append)
commits_at x y c from floor tablets r time append same is = subst (λ (u : Option ℕ). Commits x c (Serve from (request.Commit y floor tablets) r u append)) (sym is) (same, refl)

commit_at : (lease j : ℕ) (o : History) (reading : Option ℕ) (x y floor : ℕ) (from : Actor) (tablets : List ℕ) (r : Reply) (time : Option ℕ) (append : Append) (f : Fate) →
    ServesNext lease (Status j) o reading (Serve from (request.Commit y floor tablets) r time append) → y ≡ x → FateOfReply r f → Told o x (Serve from (request.Commit y floor tablets) r time append) f
commit_at lease j o reading x y floor from tablets r time append f served same is =
    let s = seen lease j o reading (request.Commit y floor tablets) r time append f (λ never. cc) served is in
    elim (commit_told lease o s.fails floor s.reading (record_of y o) f s.told) [
      | inl stood ↦ Before (at_txn o x y f same stood)
      | inr made ↦ ByCommit made.0 made.1 (commits_at x y made.0 from floor tablets r time append same (s.time ∙ made.2))
          (took_logs from (request.Commit y floor tablets) r time append (s.append ∙ made.3))
    ]

pub told_at : (lease j : ℕ) (o : History) (reading : Option ℕ) (x : ℕ) (event : Event) (f : Fate) → ServesNext lease (Status j) o reading event → Tells x event f → Told o x event f
told_at lease j o reading x (Serve from (request.AskFate y t) (reply.FateIs told) time append) f served is =
    let s = seen lease j o reading (request.AskFate y t) (reply.FateIs told) time append f (λ never. cc) served is.1 in
    Before (at_txn o x y f is.0 (ask_told lease o s.fails t s.reading (fate_told (record_of y o)) f s.told))
told_at lease j o reading x (Serve from (request.Resolve y by priority) (reply.FateIs told) time append) f served is =
    let s = seen lease j o reading (request.Resolve y by priority) (reply.FateIs told) time append f (λ never. cc) served is.1 in
    elim (resolve_told s.fails priority (record_of y o) f s.told) [
      | inl stood ↦ Before (at_txn o x y f is.0 stood)
      | inr made ↦ ByResolve made.0 is.0 (took_logs from (request.Resolve y by priority) (reply.FateIs told) time append (s.append ∙ made.1))
    ]
told_at lease j o reading x (Serve from (request.Commit y floor tablets) (reply.Committed d) time append) f served is =
    commit_at lease j o reading x y floor from tablets (reply.Committed d) time append f served is.0 is.1
told_at lease j o reading x (Serve from (request.Commit y floor tablets) (reply.AbortedBy by) time append) f served is =
    commit_at lease j o reading x y floor from tablets (reply.AbortedBy by) time append f served is.0 is.1
told_at lease j o reading x (Serve from (request.Abort y) (reply.Committed d) time append) f served is =
    let s = seen lease j o reading (request.Abort y) (reply.Committed d) time append f (λ never. cc) served is.1 in
    Before (at_txn o x y f is.0 (abort_told s.fails (record_of y o) f s.told))
told_at lease j o reading x event f served is = absurd is

pub told_before : (o : History) (x : ℕ) (f : Fate) (v : Life) → RecordIs (record_of x o) v → f ≡ fate_told (record_of x o) → Becomes f v
told_before o x f v is told = subst (λ (g : Fate). Becomes g v) (sym told) (told_record (record_of x o) v is)
