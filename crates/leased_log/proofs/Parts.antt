-- What one more entry does to each part of what an actor's log stands for.
use Rattle.std.proofs.Common.{◌≡◌, ℕ, ◌+◌, ◌*◌, ◌≤◌, suc, Bool, true, false, cond, ◌||◌, List, [], ◌∷◌, ◌++◌, length, lit≤, Option, Some, None, Ok, Err, Result, refl, sym, ap, subst, ◌∙◌}
use Rattle.std.specs.Prelude.{is_some, option_to_list}
use Rattle.std.specs.List.{AllByRecursion}
use Rattle.hybrid_time.specs.Time.{micros_of}
use Rattle.hybrid_time.specs.declared.time_refusal.TimeRefusal.{TimeRefusal}
use Rattle.txn_data.specs.declared.actor.Actor.{Actor}
use Rattle.txn_data.specs.declared.actor.Actor.TheVariants.{Tablet, Status, Session, Applier}
use Rattle.txn_data.specs.declared.append.Append.{Append}
use Rattle.txn_data.specs.declared.append.Append.TheVariants.{Nothing, Took, Failed}
use Rattle.txn_data.specs.declared.request.Request.{Request}
use Rattle.txn_data.specs.declared.request.Request.TheVariants as request
use Rattle.txn_data.specs.declared.reply.Reply.{Reply}
use Rattle.txn_data.specs.declared.reply.Reply.TheVariants as reply
use Rattle.txn_data.specs.declared.refusal.Refusal.{Refusal}
use Rattle.txn_data.specs.declared.refusal.Refusal.TheVariants as refusal
use Rattle.txn_types.specs.Run.{machine_answer}
use Rattle.txn_types.specs.Tablet.{tablet_standing, tablet_up}
use Rattle.txn_types.specs.Status.{status_standing, status_up}
use Rattle.txn_data.specs.declared.event.Event.{Event}
use Rattle.txn_data.specs.declared.event.Event.TheVariants.{Start, Ask, Serve, Hear, Tell, Restarted}
use Rattle.txn_data.specs.declared.entry.Entry.{Entry}
use Rattle.txn_types.specs.History.{History}
use Rattle.txn_types.specs.Lists.{or_else, or_zero}
use Rattle.txn_types.specs.Clock.{Answer, refusal_answer, logged, clock_time, holds, lease_due, lease_end, down_after, down_since, has_failed}
use Rattle.safe_time.specs.declared.step.Step.{Step}
use Rattle.safe_time.specs.declared.clock_refusal.ClockRefusal.TheVariants.{LeaseHeld}
use Rattle.safe_time.specs.ActorClock.{ClockState, kind_of, lease_for, step_of, clock_of}
use Rattle.log_record.specs.declared.log_record.LogRecord.{LogRecord}
use Rattle.log_record.specs.declared.log_record.LogRecord.TheVariants.{Lease}
use Rattle.tablet_log.specs.Entries.{own_record, lease_record, records_of, logged_records, failed_records}
use Rattle.tablet_log.specs.Logged.{Logged, faults_after}
use Rattle.tablet_log.specs.Frames.{IsRecord}
use Rattle.tablet_log.specs.Rests.{RestsDown}
use Rattle.leased_log.specs.Allows.{AllowsAll}
use Rattle.leased_log.specs.Stands.{LogState, Stands, all_records}
use Rattle.leased_log.specs.Decides.{time_of, lease_of, lease_records, records_for, logs, answer_of, IsStep, IsPlain, IsTold, Decides}
use Rattle.leased_log.specs.declared.decision.Decision.{Decision}

abbrev pub entry_with : Actor → Option ℕ → Event → Entry
entry_with a reading ev = record { actor = a; reading = reading; event = ev }

pub all_joined : {A : Type 0} (P : A → Type 0) (xs ys : List A) → AllByRecursion P xs → AllByRecursion P ys → AllByRecursion P (xs ++ ys)
all_joined P [] ys p q = q
all_joined P (x ∷ xs) ys p q = (p.0, all_joined P xs ys p.1 q)

-- ---- the lease that a step needs

lease_of_ok : (c : ClockState) (r : Result ℕ TimeRefusal) (step : Step) → step_of c r ≡ Ok step → step.lease ≡ lease_for c step.time
lease_of_ok c (Ok time) step e =
    let is : record { time = time; lease = lease_for c time } ≡ step = cc in
    ap (λ (s : Step). s.lease) (sym is) ∙ ap (λ (s : Step). lease_for c s.time) is
lease_of_ok c (Err why) step e = cc

lease_of_step : (c : ClockState) (reading floor : ℕ) (tick held : Bool) (step : Step)
    → cond held (Err (LeaseHeld (or_zero c.until))) (step_of c (clock_time (kind_of tick) c.last floor reading)) ≡ Ok step → step.lease ≡ lease_for c step.time
lease_of_step c reading floor tick true step e = cc
lease_of_step c reading floor tick false step e = lease_of_ok c (clock_time (kind_of tick) c.last floor reading) step e

lease_is : (lease time : ℕ) (end : Option ℕ) → lease_record lease end (Some time) ≡ lease_records (cond (lease_due end time) (Some (micros_of time + lease)) None)
lease_is lease time end =
    elim (lease_due end time) as (λ (b : Bool). cond b (Lease (micros_of time + lease) ∷ []) [] ≡ lease_records (cond b (Some (micros_of time + lease)) None)) [
      | true ↦ refl
      | false ↦ refl
    ]

lease_for_step : (lease : ℕ) (h : History) (step : Option Step) → IsStep (clock_of lease h) step → lease_record lease (lease_end lease h) (time_of step) ≡ lease_records (lease_of step)
lease_for_step lease h None is = refl
lease_for_step lease h (Some step) (reading, floor, tick, is) =
    let c : ClockState = clock_of lease h in
    lease_is lease step.time (lease_end lease h)
    ∙ ap lease_records (sym (lease_of_step c reading floor tick (holds c.until c.given reading) step is))

-- ---- the records of an entry

no_lease_in : (own : Option LogRecord) (lease : Option ℕ) → (is_some own || is_some lease) ≡ false → lease_records lease ≡ []
no_lease_in own None e = refl
no_lease_in None (Some until) e = cc
no_lease_in (Some r) (Some until) e = cc

quiet_none_in : (own : Option LogRecord) (lease : Option ℕ) → (is_some own || is_some lease) ≡ false → lease_records lease ++ option_to_list own ≡ []
quiet_none_in None None e = refl
quiet_none_in None (Some until) e = cc
quiet_none_in (Some r) lease e = cc

no_lease : (d : Decision) → logs d ≡ false → lease_records (lease_of d.step) ≡ []
no_lease d quiet = no_lease_in d.own (lease_of d.step) quiet

pub quiet_records : (lease : ℕ) (h : History) (from : Actor) (asked : Request) (r : Reply) (d : Decision) → IsStep (clock_of lease h) d.step → logs d ≡ false
    → records_of lease (lease_end lease h) (Serve from asked r (time_of d.step) Nothing) ≡ []
quiet_records lease h from asked r d step quiet =
    ap (λ (rs : List LogRecord). rs ++ []) (lease_for_step lease h d.step step ∙ no_lease d quiet)

pub own_records : (lease : ℕ) (h : History) (from : Actor) (asked : Request) (r : Reply) (d : Decision) (append : Append) → (append ≡ Nothing → ⊥)
    → IsStep (clock_of lease h) d.step → own_record asked (time_of d.step) ≡ option_to_list d.own
    → records_of lease (lease_end lease h) (Serve from asked r (time_of d.step) append) ≡ records_for d
own_records lease h from asked r d Nothing some step own = absurd (some refl)
own_records lease h from asked r d Took some step own =
    ap (λ (rs : List LogRecord). rs ++ own_record asked (time_of d.step)) (lease_for_step lease h d.step step)
    ∙ ap (λ (rs : List LogRecord). lease_records (lease_of d.step) ++ rs) own
own_records lease h from asked r d Failed some step own =
    ap (λ (rs : List LogRecord). rs ++ own_record asked (time_of d.step)) (lease_for_step lease h d.step step)
    ∙ ap (λ (rs : List LogRecord). lease_records (lease_of d.step) ++ rs) own

some_in : (own : Option LogRecord) (lease : Option ℕ) → (is_some own || is_some lease) ≡ true → lease_records lease ++ option_to_list own ≡ [] → ⊥
some_in own (Some until) e none = cc
some_in None None e none = cc
some_in (Some r) None e none = cc

pub quiet_none : (d : Decision) → logs d ≡ false → records_for d ≡ []
quiet_none d quiet = quiet_none_in d.own (lease_of d.step) quiet

pub some_records : (d : Decision) → logs d ≡ true → records_for d ≡ [] → ⊥
some_records d some none = some_in d.own (lease_of d.step) some none

few_in : (own : Option LogRecord) (lease : Option ℕ) → length (lease_records lease ++ option_to_list own) ≤ 2
few_in None None = lit≤ tt
few_in None (Some until) = lit≤ tt
few_in (Some r) None = lit≤ tt
few_in (Some r) (Some until) = lit≤ tt

pub few_records : (d : Decision) → length (records_for d) ≤ 2
few_records d = few_in d.own (lease_of d.step)

-- ---- being down

pub down_same : (down : Option ℕ) (n : ℕ) (from : Actor) (asked : Request) (r : Reply) (time : Option ℕ) (append : Append) → IsPlain asked → (append ≡ Failed → ⊥)
    → down_after down n (Serve from asked r time append) ≡ down
down_same down n from request.Restart r time append plain went = absurd plain
down_same down n from asked r time Failed plain went = absurd (went refl)
down_same down n from _ r time Nothing plain went = refl
down_same down n from _ r time Took plain went = refl

pub none_of_or : (down : Option ℕ) (n : ℕ) → or_else down (Some n) ≡ None → ⊥
none_of_or None n e = cc
none_of_or (Some m) n e = cc

-- an append that failed leaves the actor down
abbrev Ups : History → Type 0
Ups h = down_since h ≡ None → has_failed h ≡ false

up_served : (a : Actor) (reading : Option ℕ) (from : Actor) (asked : Request) (r : Reply) (time : Option ℕ) (append : Append) (h : History) → Ups h
    → Ups (entry_with a reading (Serve from asked r time append) ∷ h)
unfolding down_since has_failed
up_served a reading from asked r time Failed h ih e = absurd (none_of_or (down_since h) (suc (length h)) e)
up_served a reading from request.Restart r time Nothing h ih e = absurd (none_of_or (down_since h) (suc (length h)) e)
up_served a reading from request.Restart r time Took h ih e = absurd (none_of_or (down_since h) (suc (length h)) e)
up_served a reading from _ r time Nothing h ih e = ih e
up_served a reading from _ r time Took h ih e = ih e

up_after : (a : Actor) (reading : Option ℕ) (ev : Event) (h : History) → Ups h → Ups (entry_with a reading ev ∷ h)
unfolding down_since has_failed
up_after a reading (Start command line) h ih e = ih e
up_after a reading (Ask to asked) h ih e = ih e
up_after a reading (Serve from asked r time append) h ih e = up_served a reading from asked r time append h ih e
up_after a reading (Hear from r) h ih e = ih e
up_after a reading (Tell command told) h ih e = ih e
up_after a reading (Restarted from kept) h ih e = refl

pub up_is_whole : (h : History) → down_since h ≡ None → has_failed h ≡ false
unfolding has_failed
up_is_whole [] e = refl
up_is_whole (x ∷ h) e = up_after x.actor x.reading x.event h (up_is_whole h) e

-- an actor that is down takes no time and logs nothing

answers_down : (lease : ℕ) (a : Actor) (h : History) (fails : Bool) (reading : ℕ) (asked : Request) (n : ℕ) → IsPlain asked → down_since h ≡ Some n
    → machine_answer lease a h fails reading asked ≡ refusal_answer (refusal.Down n)
answers_down lease (Tablet k) h fails reading request.Restart n plain e = absurd plain
answers_down lease (Tablet k) h fails reading asked n plain e = ap (λ (down : Option ℕ). tablet_standing down (tablet_up lease h fails reading asked)) e
answers_down lease (Status k) h fails reading request.Restart n plain e = absurd plain
answers_down lease (Status k) h fails reading asked n plain e = ap (λ (down : Option ℕ). status_standing down (status_up lease h fails reading asked)) e
answers_down lease (Session k) h fails reading request.Restart n plain e = absurd plain
answers_down lease (Session k) h fails reading asked n plain e = ap (λ (down : Option ℕ). status_standing down (status_up lease h fails reading asked)) e
answers_down lease (Applier k) h fails reading request.Restart n plain e = absurd plain
answers_down lease (Applier k) h fails reading asked n plain e = ap (λ (down : Option ℕ). status_standing down (status_up lease h fails reading asked)) e

not_refused : (own : Option LogRecord) (until : Option ℕ) (step : Option Step) (r : Reply) (why : Refusal)
    → refusal_answer why ≡ logged true (is_some own || is_some until) (time_of step) r → ((is_some own || is_some until) || is_some step) ≡ true → ⊥
not_refused (Some own) until step r why e some = let appends : Nothing ≡ Failed = ap (λ (x : Answer). x.append) e in cc
not_refused None (Some until) step r why e some = let appends : Nothing ≡ Failed = ap (λ (x : Answer). x.append) e in cc
not_refused None None (Some step) r why e some = let times : None ≡ Some step.time = ap (λ (x : Answer). x.time) e in cc
not_refused None None None r why e some = cc

up_by : (lease : ℕ) (a : Actor) (h : History) (reading : ℕ) (asked : Request) (d : Decision) → IsPlain asked → machine_answer lease a h true reading asked ≡ answer_of true d
    → (logs d || is_some d.step) ≡ true → (down : Option ℕ) → down_since h ≡ down → down_since h ≡ None
up_by lease a h reading asked d plain says some None e = e
up_by lease a h reading asked d plain says some (Some n) e =
    absurd (not_refused d.own (lease_of d.step) d.step d.reply (refusal.Down n) (sym (answers_down lease a h true reading asked n plain e) ∙ says) some)

pub is_up : (lease : ℕ) (a : Actor) (h : History) (reading : Option ℕ) (asked : Request) (d : Decision) → Decides lease a h reading asked d
    → (logs d || is_some d.step) ≡ true → down_since h ≡ None
is_up lease a h reading asked d dec some = up_by lease a h (or_zero reading) asked d dec.plain (dec.says true) some (down_since h) refl

-- ---- faults

pub faults_same : (n : ℕ) (from : Actor) (asked : Request) (r : Reply) (time : Option ℕ) (append : Append) → IsTold r → faults_after n (Serve from asked r time append) ≡ n
faults_same n from asked (reply.Refused refusal.LogFault) time append told = absurd told
faults_same n from asked (reply.Refused _) time append told = refl
faults_same n from asked _ time append told = refl

-- ---- the whole

-- what an actor's log stands for, with the length of its leases named
pub record StandsAt (lease : ℕ) (a : Actor) (s : LogState) (bytes : List ℕ) (faults : ℕ) (h : History) : Type 0 where
  pub opened : bytes ≡ []
  pub own : RestsDown a h
  pub allowed : AllowsAll lease a h
  pub actions : s.actions ≡ length h
  pub down : s.down ≡ down_since h
  pub clock : down_since h ≡ None → s.clock ≡ clock_of lease h
  pub logged : Logged lease h (record { held = bytes; faults = faults }) (record { held = s.held; faults = s.faults })
  pub records : s.records ≡ length (logged_records lease h)
  pub few : length (all_records lease h) ≤ 2 * length h
  pub spelled : AllByRecursion IsRecord (all_records lease h)
  pub some : has_failed h ≡ true → failed_records lease h ≡ [] → ⊥

pub stood : (lease : ℕ) (a : Actor) (s : LogState) (bytes : List ℕ) (faults : ℕ) (h : History) → s.clock.lease ≡ lease → StandsAt lease a s bytes faults h → Stands a s bytes faults h
stood lease a s bytes faults h is at =
    let now : StandsAt s.clock.lease a s bytes faults h = subst (λ (l : ℕ). StandsAt l a s bytes faults h) (sym is) at in
    record {
      opened = now.opened;
      own = now.own;
      allowed = now.allowed;
      actions = now.actions;
      down = now.down;
      clock = now.clock;
      logged = now.logged;
      records = now.records;
      few = now.few;
      spelled = now.spelled;
      some = now.some;
    }
