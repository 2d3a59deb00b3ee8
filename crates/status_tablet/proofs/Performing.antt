-- What is done leaves the status tablet standing for its entries with one more.
use Rattle.std.proofs.Common.{◌≡◌, ℕ, ◌≤◌, suc, Bool, cond, List, [], ◌∷◌, ◌++◌, length, Option, Some, None, refl, sym, ap, subst, ◌∙◌, arith}
use Rattle.std.specs.Prelude.{option_to_list}
use Rattle.std.specs.List.{fold}
use Rattle.docdb_outside.specs.Count.{Rose}
use Rattle.txn_data.specs.Time.{takes_time}
use Rattle.txn_data.specs.declared.actor.Actor.{Actor}
use Rattle.txn_data.specs.declared.actor.Actor.TheVariants.{Status}
use Rattle.txn_data.specs.declared.append.Append.{Append}
use Rattle.txn_data.specs.declared.append.Append.TheVariants.{Nothing, Took, Failed}
use Rattle.txn_data.specs.declared.request.Request.{Request}
use Rattle.txn_data.specs.declared.request.Request.TheVariants as request
use Rattle.txn_data.specs.declared.reply.Reply.{Reply}
use Rattle.txn_data.specs.declared.reply.Reply.TheVariants as reply
use Rattle.txn_data.specs.declared.refusal.Refusal.TheVariants as refusal
use Rattle.txn_data.specs.declared.served.Served.{Served}
use Rattle.txn_data.specs.declared.event.Event.{Event}
use Rattle.txn_data.specs.declared.event.Event.TheVariants.{Serve}
use Rattle.txn_types.specs.History.{History}
use Rattle.txn_types.specs.Clock.{down_after, down_since}
use Rattle.txn_types.specs.Status.{Record, NoRecord, record_of, noted_after, noted, sure_after, is_sure}
use Rattle.txn_types.specs.Run.{Serves}
use Rattle.txn_types.specs.Machine.{reading_used, Advances}
use Rattle.safe_time.specs.declared.step.Step.{Step}
use Rattle.safe_time.specs.ActorClock.{ClockState}
use Rattle.log_record.specs.declared.log_record.LogRecord.{LogRecord}
use Rattle.tablet_log.specs.Entries.{logged_records}
use Rattle.tablet_log.specs.Replay.{record_after, record_in}
use Rattle.leased_log.specs.Replies.{out_of_memory}
use Rattle.leased_log.specs.Stands as log
use Rattle.leased_log.specs.Stands.{LogState, IsSame, StandsStill}
use Rattle.leased_log.specs.Decides.{time_of, lease_of, lease_records, records_for, IsTold, Decides, Done, entry}
use Rattle.leased_log.specs.Acts.{SameCounts, Acts, ActsBy, reply_by, clock_after}
use Rattle.leased_log.specs.declared.decision.Decision.{Decision}
use Rattle.leased_log.proofs.Parts.{down_same, none_of_or}
use Rattle.leased_log.proofs.Advancing.{IsServed, served_by, advances_by}
use Rattle.leased_log.proofs.Holding.{holds_after, acts_loads, acts_faults}
use Rattle.status_tablet.specs.declared.txn_record.TxnRecord.{TxnRecord}
use Rattle.status_tablet.specs.declared.status_decision.StatusDecision.{StatusDecision}
use Rattle.status_tablet.specs.Keeps.{kept_at, kept_of, kept_with, marked}
use Rattle.status_tablet.specs.Stands.{StatusState, Stands}
use Rattle.status_tablet.specs.Decisions.{event_of, record_with, StaysItself, ServesBy, Says, IsDone, IsUndone}
use Rattle.status_tablet.specs.Restarts.{IfRestarted}

-- what the laws of the crates below say
abbrev pub Replayed : Type 0
Replayed = (lease : ℕ) (h : History) (x : ℕ) → record_in x (logged_records lease h) ≡ record_of x h

abbrev pub Still : Type 0
Still = (old new : LogState) → IsSame old new → StandsStill old new

-- ---- the record of a transaction

fold_joined : {A B : Type 0} (f : A → B → A) (a : A) (xs ys : List B) → fold f a (xs ++ ys) ≡ fold f (fold f a xs) ys
fold_joined f a [] ys = refl
fold_joined f a (x ∷ xs) ys = fold_joined f (f a x) xs ys

own_only : (x : ℕ) (r : Record) (lease : Option ℕ) (own : Option LogRecord) → fold (record_after x) r (lease_records lease ++ option_to_list own) ≡ record_with own x r
own_only x r None None = refl
own_only x r None (Some own) = refl
own_only x r (Some until) None = refl
own_only x r (Some until) (Some own) = refl

record_next : Replayed → (lease : ℕ) (x : ℕ) (before after : History) (d : Decision) → logged_records lease after ≡ logged_records lease before ++ records_for d
    → record_of x after ≡ record_with d.own x (record_of x before)
record_next law lease x before after d is =
    sym (law lease after x) ∙ ap (record_in x) is
    ∙ fold_joined (record_after x) NoRecord (logged_records lease before) (records_for d)
    ∙ ap (λ (r : Record). fold (record_after x) r (records_for d)) (law lease before x)
    ∙ own_only x (record_of x before) (lease_of d.step) d.own

-- ---- the entry

event_by : (old new : LogState) (d : Decision) (from : Actor) (asked : Request) (append : Append) → ActsBy append old new d → (append ≡ Failed → ⊥)
    → Serve from asked (reply_by append d.reply) (time_of d.step) append ≡ event_of from asked d
event_by old new d from asked Nothing t went = ap (λ (b : Bool). Serve from asked d.reply (time_of d.step) (cond b Took Nothing)) (sym t.quiet)
event_by old new d from asked Took t went = ap (λ (b : Bool). Serve from asked d.reply (time_of d.step) (cond b Took Nothing)) (sym t.logs)
event_by old new d from asked Failed t went = absurd (went refl)

event_is : (old new : LogState) (d : Decision) (s : Served) (from : Actor) (asked : Request) → Acts old new d s → (s.append ≡ Failed → ⊥)
    → Serve from asked s.reply s.time s.append ≡ event_of from asked d
event_is old new d s from asked acts went =
    ap (λ (r : Reply). Serve from asked r s.time s.append) acts.reply
    ∙ ap (λ (time : Option ℕ). Serve from asked (reply_by s.append d.reply) time s.append) acts.time
    ∙ event_by old new d from asked s.append acts.by went

not_failed : (down : Option ℕ) (n : ℕ) (from : Actor) (asked : Request) (r : Reply) (time : Option ℕ) (append : Append) → down_after down n (Serve from asked r time append) ≡ None
    → append ≡ Failed → ⊥
not_failed down n from asked r time append up failed =
    none_of_or down n (subst (λ (x : Append). down_after down n (Serve from asked r time x) ≡ None) failed up)

-- a fault of the log is told only where it failed
fault_by : (old new : LogState) (d : Decision) (append : Append) → ActsBy append old new d → IsTold d.reply → reply_by append d.reply ≡ reply.Refused refusal.LogFault → Rose old.faults new.faults
fault_by old new d Nothing t told is = absurd (subst IsTold is told)
fault_by old new d Took t told is = absurd (subst IsTold is told)
fault_by old new d Failed t told is = t.faults

not_restarted : (r : Reply) (asked : Request) → IsServed r → IfRestarted r (λ kept. asked ≡ request.Restart)
not_restarted (reply.Restarted kept) asked served = absurd served
not_restarted r asked served = tt

module _ (law : Replayed) (still : Still) (old new : StatusState) (decided : StatusDecision) (s : Served) (done : IsDone old new decided s) where
  fault_rose : IsTold decided.decision.reply → s.reply ≡ reply.Refused refusal.LogFault → Rose old.log.faults new.log.faults
  fault_rose told is =
      let rose : Rose done.middle.faults new.log.faults = fault_by done.middle new.log decided.decision s.append done.acts.by told (sym done.acts.reply ∙ is) in
      let more : old.log.faults ≤ done.middle.faults = done.same.faults in
      omega arith

  is_served : IsTold decided.decision.reply → IsServed s.reply
  is_served told = subst IsServed (sym done.acts.reply) (served_by s.append decided.decision.reply told)

  not_memory : IsTold decided.decision.reply → s.reply ≡ reply.Refused refusal.Memory → ⊥
  not_memory told is = subst IsServed is (is_served told)

  module _ (from : Actor) (reading : Option ℕ) (asked : Request) (says : Says old (reading_used (takes_time asked) reading) asked decided)
      (bytes : List ℕ) (faults : ℕ) (h : History) (st : Stands old bytes faults h) where
    abbrev used : Option ℕ
    used = reading_used (takes_time asked) reading

    same_lease : done.middle.clock.lease ≡ old.log.clock.lease
    same_lease = ap (λ (c : ClockState). c.lease) done.same.clock

    middle_stands : log.Stands (Status old.status) done.middle bytes faults h
    middle_stands = still old.log done.middle done.same (Status old.status) bytes faults h st.log

    decides : Decides old.log.clock.lease (Status old.status) h used asked decided.decision
    decides = says.decides bytes faults h st

    made : Done (Status old.status) done.middle new.log bytes faults h used from asked decided.decision s
    made = done.does (Status old.status) bytes faults h used from asked middle_stands
        (subst (λ (l : ℕ). Decides l (Status old.status) h used asked decided.decision) (sym same_lease) decides)

    abbrev after : History
    after = entry (Status old.status) used from asked s ∷ h

    went_if : down_since after ≡ None → s.append ≡ Failed → ⊥
    unfolding down_since
    went_if up = not_failed (down_since h) (suc (length h)) from asked s.reply s.time s.append up

    up_before : down_since after ≡ None → down_since h ≡ None
    unfolding down_since
    up_before up = sym (down_same (down_since h) (suc (length h)) from asked s.reply s.time s.append decides.plain (went_if up)) ∙ up

    noted_next : (x : ℕ) → noted x after ≡ noted_after x (noted x h) (Serve from asked s.reply s.time s.append)
    unfolding noted
    noted_next x = refl

    sure_next : (x : ℕ) → is_sure x after ≡ sure_after x (is_sure x h) (Serve from asked s.reply s.time s.append)
    unfolding is_sure
    sure_next x = refl

    records_next : down_since after ≡ None → (x : ℕ) → kept_at new.records x ≡ kept_of (record_of x after) (noted x after) (is_sure x after)
    records_next up x =
        let went = went_if up in
        let ev = event_is done.middle new.log decided.decision s from asked done.acts went in
        done.records x
        ∙ ap (λ (k : Option TxnRecord). marked decided.mark x (kept_with decided.decision.own x k)) (st.records (up_before up) x)
        ∙ says.changes from x (record_of x h) (noted x h) (is_sure x h)
        ∙ ap (λ (r : Record). kept_of r (noted_after x (noted x h) (event_of from asked decided.decision)) (sure_after x (is_sure x h) (event_of from asked decided.decision)))
        (sym (record_next law done.middle.clock.lease x h after decided.decision (made.records went)))
        ∙ ap (λ (e : Event). kept_of (record_of x after) (noted_after x (noted x h) e) (sure_after x (is_sure x h) e)) (sym ev)
        ∙ ap (λ (ns : List ℕ). kept_of (record_of x after) ns (sure_after x (is_sure x h) (Serve from asked s.reply s.time s.append))) (sym (noted_next x))
        ∙ ap (λ (b : Bool). kept_of (record_of x after) (noted x after) b) (sym (sure_next x))

    pub serves_now : Serves old.log.clock.lease (Status old.status) h used asked s.reply s.time s.append
    serves_now = subst (λ (l : ℕ). Serves l (Status old.status) h used asked s.reply s.time s.append) same_lease made.serves

    pub stands_now : Stands new bytes faults after
    stands_now = record {
      log = subst (λ (k : ℕ). log.Stands (Status k) new.log bytes faults after) (sym done.status) made.stands;
      records = records_next;
    }

  advances : (from : Actor) (reading : Option ℕ) (asked : Request) → Says old (reading_used (takes_time asked) reading) asked decided
      → Advances (Stands old) (Stands new) old.log.clock.lease (Status old.status) from reading asked s.reply s
  advances from reading asked says =
      advances_by (Stands old) (Stands new) old.log.clock.lease (Status old.status) from reading asked s.reply s.time s.append s.copy
      (is_served says.told)
      (λ bytes faults h st. (serves_now from reading asked says bytes faults h st, stands_now from reading asked says bytes faults h st))

  pub performs : (from : Actor) (reading : Option ℕ) (asked : Request) → Says old (reading_used (takes_time asked) reading) asked decided → ServesBy old new from reading asked s
  performs from reading asked says = record {
    advances = advances from reading asked says;
    fault = fault_rose says.told;
    memory = λ is. absurd (not_memory says.told is);
    restart = not_restarted s.reply asked (is_served says.told);
    loads = λ plain. acts_loads done.middle new.log decided.decision s done.acts ∙ done.counts.loads;
    faults = λ plain none. acts_faults done.middle new.log decided.decision s done.acts none ∙ done.counts.faults;
  }

pub undone : Still → (old new : StatusState) → IsUndone old new → (bytes : List ℕ) (faults : ℕ) (h : History) → Stands old bytes faults h → Stands new bytes faults h
undone still old new un bytes faults h st = record {
  log = subst (λ (k : ℕ). log.Stands (Status k) new.log bytes faults h) (sym un.status) (still old.log new.log un.same (Status old.status) bytes faults h st.log);
  records = λ up x. un.records x ∙ st.records up x;
}

lease_after : (c : ClockState) (step : Option Step) → (clock_after c step).lease ≡ c.lease
lease_after c None = refl
lease_after c (Some step) = refl

acts_lease : (append : Append) (old new : LogState) (d : Decision) → ActsBy append old new d → new.clock.lease ≡ old.clock.lease
acts_lease Nothing old new d t = ap (λ (c : ClockState). c.lease) t.clock ∙ lease_after old.clock d.step
acts_lease Took old new d t = ap (λ (c : ClockState). c.lease) t.clock ∙ lease_after old.clock d.step
acts_lease Failed old new d t = ap (λ (c : ClockState). c.lease) t.clock

pub stays_done : (old new : StatusState) (decided : StatusDecision) (s : Served) → IsDone old new decided s → StaysItself old new s
stays_done old new decided s done = record {
  status = done.status;
  lease = acts_lease s.append done.middle new.log decided.decision done.acts.by ∙ ap (λ (c : ClockState). c.lease) done.same.clock;
  held = holds_after old.log done.middle new.log decided.decision s done.same done.acts done.spelled;
  copy = done.acts.copy;
}

-- ---- out of memory

pub serves_undone : Still → (old new : StatusState) → IsUndone old new → SameCounts old.log new.log → (from : Actor) (reading : Option ℕ) (asked : Request)
    → ServesBy old new from reading asked out_of_memory
serves_undone still old new un same from reading asked = record {
  advances = undone still old new un;
  fault = λ is. cc;
  memory = λ is. (refl, un);
  restart = tt;
  loads = λ plain. same.loads;
  faults = λ plain none. same.faults;
}

pub stays_undone : (old new : StatusState) → IsUndone old new → StaysItself old new out_of_memory
stays_undone old new un = record { status = un.status; lease = ap (λ (c : ClockState). c.lease) un.same.clock; held = un.same.held; copy = refl }

-- nothing was done
pub nothing_done : (s : StatusState) → IsUndone s s
nothing_done s = record {
  same = record { held = refl; faults = omega arith; loads = omega arith; clock = refl; actions = refl; down = refl; records = refl };
  status = refl;
  records = λ x. refl;
}
