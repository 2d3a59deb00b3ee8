-- What is done leaves the tablet standing for its entries with one more.
use Rattle.std.proofs.Common.{◌≡◌, ℕ, ◌≤◌, suc, List, [], ◌∷◌, ◌++◌, length, Option, Some, None, refl, sym, ap, subst, ◌∙◌, arith}
use Rattle.std.specs.Prelude.{option_to_list, Result, Ok, Err, OnErr}
use Rattle.std.specs.List.{fold}
use Rattle.docdb_outside.specs.Count.{Rose}
use Rattle.txn_data.specs.Time.{takes_time}
use Rattle.txn_data.specs.declared.actor.Actor.{Actor}
use Rattle.txn_data.specs.declared.actor.Actor.TheVariants.{Tablet}
use Rattle.txn_data.specs.declared.append.Append.{Append}
use Rattle.txn_data.specs.declared.append.Append.TheVariants.{Nothing, Took, Failed}
use Rattle.txn_data.specs.declared.request.Request.{Request}
use Rattle.txn_data.specs.declared.request.Request.TheVariants as request
use Rattle.txn_data.specs.declared.reply.Reply.{Reply}
use Rattle.txn_data.specs.declared.reply.Reply.TheVariants as reply
use Rattle.txn_data.specs.declared.refusal.Refusal.TheVariants as refusal
use Rattle.txn_data.specs.declared.served.Served.{Served}
use Rattle.txn_data.specs.declared.event.Event.TheVariants.{Serve}
use Rattle.txn_data.specs.declared.version.Version.{Version}
use Rattle.txn_types.specs.History.{History, counting_before}
use Rattle.txn_types.specs.Clock.{down_after, down_since, lease_end}
use Rattle.txn_types.specs.Tablet.{Intent, provisional, versions, provisional_over, versions_over}
use Rattle.txn_types.specs.Run.{Serves}
use Rattle.txn_types.specs.Machine.{reading_used, Advances}
use Rattle.safe_time.specs.declared.step.Step.{Step}
use Rattle.safe_time.specs.ActorClock.{ClockState}
use Rattle.log_record.specs.declared.log_record.LogRecord.{LogRecord}
use Rattle.tablet_log.specs.Entries.{logged_records}
use Rattle.tablet_log.specs.Replay.{TabletState, tablet_after, tablet_at_first, tablet_of}
use Rattle.leased_log.specs.Replies.{out_of_memory}
use Rattle.leased_log.specs.Stands as log
use Rattle.leased_log.specs.Stands.{LogState, IsSame, StandsStill}
use Rattle.leased_log.specs.Decides.{lease_of, lease_records, records_for, IsTold, Decides, Done, entry}
use Rattle.leased_log.specs.Acts.{SameCounts, ActsBy, reply_by, clock_after}
use Rattle.leased_log.specs.declared.decision.Decision.{Decision}
use Rattle.leased_log.proofs.Parts.{down_same, none_of_or}
use Rattle.leased_log.proofs.Holding.{holds_after, acts_loads, acts_faults}
use Rattle.leased_log.proofs.Advancing.{IsServed, served_by, advances_by}
use Rattle.tablet_records.specs.declared.tablet_records.TabletRecords.{TabletRecords}
use Rattle.tablet_records.specs.Keeps.{Keeps}
use Rattle.tablet_core.specs.Stands.{CoreState, Stands}
use Rattle.tablet_core.specs.Decisions.{Says, StaysItself, IsUndone, IfRestarted, ServesBy, intents_with, versions_with, IsDone}

-- what the laws of the crates below say
abbrev pub Replayed : Type 0
Replayed = (lease : ℕ) (h : History) → tablet_of (logged_records lease h) ≡ record { lease = lease_end lease h; intents = provisional h; versions = versions h }

abbrev pub Still : Type 0
Still = (old new : LogState) → IsSame old new → StandsStill old new

pub on_err : {A E : Type 0} (P : Type 0) (r : Result A E) → P → OnErr r P
on_err P (Ok a) p = tt
on_err P (Err e) p = p

-- ---- the contents

fold_joined : {A B : Type 0} (f : A → B → A) (a : A) (xs ys : List B) → fold f a (xs ++ ys) ≡ fold f (fold f a xs) ys
fold_joined f a [] ys = refl
fold_joined f a (x ∷ xs) ys = fold_joined f (f a x) xs ys

intents_only : (s : TabletState) (lease : Option ℕ) (own : Option LogRecord) → (fold tablet_after s (lease_records lease ++ option_to_list own)).intents ≡ intents_with own s.intents
intents_only s None None = refl
intents_only s None (Some own) = refl
intents_only s (Some until) None = refl
intents_only s (Some until) (Some own) = refl

versions_only : (s : TabletState) (lease : Option ℕ) (own : Option LogRecord) → (fold tablet_after s (lease_records lease ++ option_to_list own)).versions ≡ versions_with own s.versions s.intents
versions_only s None None = refl
versions_only s None (Some own) = refl
versions_only s (Some until) None = refl
versions_only s (Some until) (Some own) = refl

tablet_next : Replayed → (lease : ℕ) (before after : History) (d : Decision) → logged_records lease after ≡ logged_records lease before ++ records_for d
    → tablet_of (logged_records lease after) ≡ fold tablet_after (record { lease = lease_end lease before; intents = provisional before; versions = versions before }) (records_for d)
tablet_next law lease before after d is =
    ap tablet_of is ∙ fold_joined tablet_after tablet_at_first (logged_records lease before) (records_for d)
    ∙ ap (λ (s : TabletState). fold tablet_after s (records_for d)) (law lease before)

provisional_next : Replayed → (lease : ℕ) (before after : History) (d : Decision) → logged_records lease after ≡ logged_records lease before ++ records_for d
    → provisional after ≡ intents_with d.own (provisional before)
provisional_next law lease before after d is =
    ap (λ (s : TabletState). s.intents) (sym (law lease after) ∙ tablet_next law lease before after d is)
    ∙ intents_only (record { lease = lease_end lease before; intents = provisional before; versions = versions before }) (lease_of d.step) d.own

versions_next : Replayed → (lease : ℕ) (before after : History) (d : Decision) → logged_records lease after ≡ logged_records lease before ++ records_for d
    → versions after ≡ versions_with d.own (versions before) (provisional before)
versions_next law lease before after d is =
    ap (λ (s : TabletState). s.versions) (sym (law lease after) ∙ tablet_next law lease before after d is)
    ∙ versions_only (record { lease = lease_end lease before; intents = provisional before; versions = versions before }) (lease_of d.step) d.own

-- no entries
pub none_kept : {V : Type 0} (holds : V → List Version → Type 0) (s : TabletRecords V) → Keeps holds s [] [] → Keeps holds s (provisional []) (versions [])
unfolding counting_before provisional_over versions_over
none_kept holds s kept = kept

-- ---- the entry

not_failed : (down : Option ℕ) (n : ℕ) (from : Actor) (asked : Request) (r : Reply) (time : Option ℕ) (append : Append) → down_after down n (Serve from asked r time append) ≡ None
    → append ≡ Failed → ⊥
not_failed down n from asked r time append up failed =
    none_of_or down n (subst (λ (x : Append). down_after down n (Serve from asked r time x) ≡ None) failed up)

-- a fault of the log is told only where it failed
fault_by : (old new : LogState) (d : Decision) (append : Append) → ActsBy append old new d → IsTold d.reply → reply_by append d.reply ≡ reply.Refused refusal.LogFault → Rose old.faults new.faults
fault_by old new d Nothing t told is = absurd (subst IsTold is told)
fault_by old new d Took t told is = absurd (subst IsTold is told)
fault_by old new d Failed t told is = t.faults

no_memory : (r : Reply) → IsServed r → r ≡ reply.Refused refusal.Memory → ⊥
no_memory r ok is = subst IsServed is ok

lease_after : (c : ClockState) (step : Option Step) → (clock_after c step).lease ≡ c.lease
lease_after c None = refl
lease_after c (Some step) = refl

acts_lease : (append : Append) (old new : LogState) (d : Decision) → ActsBy append old new d → new.clock.lease ≡ old.clock.lease
acts_lease Nothing old new d t = ap (λ (c : ClockState). c.lease) t.clock ∙ lease_after old.clock d.step
acts_lease Took old new d t = ap (λ (c : ClockState). c.lease) t.clock ∙ lease_after old.clock d.step
acts_lease Failed old new d t = ap (λ (c : ClockState). c.lease) t.clock

not_restarted : (r : Reply) (asked : Request) → IsServed r → IfRestarted r (λ kept. asked ≡ request.Restart)
not_restarted (reply.Restarted kept) asked served = absurd served
not_restarted r asked served = tt

module _ {V : Type 0} (holds : V → List Version → Type 0) where
  module _ (law : Replayed) (still : Still) (old new : CoreState V) (d : Decision) (s : Served) (done : IsDone holds old new d s) where
    module _ (from : Actor) (reading : Option ℕ) (asked : Request) (says : Says holds old (reading_used (takes_time asked) reading) asked d)
        (bytes : List ℕ) (faults : ℕ) (h : History) (st : Stands holds old bytes faults h) where
      abbrev used : Option ℕ
      used = reading_used (takes_time asked) reading

      same_lease : done.middle.clock.lease ≡ old.log.clock.lease
      same_lease = ap (λ (c : ClockState). c.lease) done.same.clock

      middle_stands : log.Stands (Tablet old.tablet) done.middle bytes faults h
      middle_stands = still old.log done.middle done.same (Tablet old.tablet) bytes faults h st.log

      decides : Decides old.log.clock.lease (Tablet old.tablet) h used asked d
      decides = says.decides bytes faults h st

      made : Done (Tablet old.tablet) done.middle new.log bytes faults h used from asked d s
      made = done.does (Tablet old.tablet) bytes faults h used from asked middle_stands
          (subst (λ (l : ℕ). Decides l (Tablet old.tablet) h used asked d) (sym same_lease) decides)

      abbrev after : History
      after = entry (Tablet old.tablet) used from asked s ∷ h

      went_if : down_since after ≡ None → s.append ≡ Failed → ⊥
      unfolding down_since
      went_if up = not_failed (down_since h) (suc (length h)) from asked s.reply s.time s.append up

      up_before : down_since after ≡ None → down_since h ≡ None
      unfolding down_since
      up_before up = sym (down_same (down_since h) (suc (length h)) from asked s.reply s.time s.append decides.plain (went_if up)) ∙ up

      records_next : down_since after ≡ None → Keeps holds new.records (provisional after) (versions after)
      records_next up =
          let more : logged_records done.middle.clock.lease after ≡ logged_records done.middle.clock.lease h ++ records_for d = made.records (went_if up) in
          let kept : Keeps holds new.records (intents_with d.own (provisional h)) (versions_with d.own (versions h) (provisional h)) =
          done.records (provisional h) (versions h) (st.records (up_before up)) in
          subst (λ (vs : List Version). Keeps holds new.records (provisional after) vs) (sym (versions_next law done.middle.clock.lease h after d more))
          (subst (λ (ps : List Intent). Keeps holds new.records ps (versions_with d.own (versions h) (provisional h))) (sym (provisional_next law done.middle.clock.lease h after d more)) kept)

      pub serves_now : Serves old.log.clock.lease (Tablet old.tablet) h used asked s.reply s.time s.append
      serves_now = subst (λ (l : ℕ). Serves l (Tablet old.tablet) h used asked s.reply s.time s.append) same_lease made.serves

      pub stands_now : Stands holds new bytes faults after
      stands_now = record {
        log = subst (λ (k : ℕ). log.Stands (Tablet k) new.log bytes faults after) (sym done.tablet) made.stands;
        records = records_next;
      }

    told_so : IsTold d.reply → IsServed s.reply
    told_so told = subst IsServed (sym done.acts.reply) (served_by s.append d.reply told)

    fault_rose : IsTold d.reply → s.reply ≡ reply.Refused refusal.LogFault → Rose old.log.faults new.log.faults
    fault_rose told is =
        let rose : Rose done.middle.faults new.log.faults = fault_by done.middle new.log d s.append done.acts.by told (sym done.acts.reply ∙ is) in
        let more : old.log.faults ≤ done.middle.faults = done.same.faults in
        omega arith

    pub performs : (from : Actor) (reading : Option ℕ) (asked : Request) → Says holds old (reading_used (takes_time asked) reading) asked d → ServesBy holds old new from reading asked s
    performs from reading asked says = record {
      advances = advances_by (Stands holds old) (Stands holds new) old.log.clock.lease (Tablet old.tablet) from reading asked s.reply s.time s.append s.copy
          (told_so says.told)
          (λ bytes faults h st. (serves_now from reading asked says bytes faults h st, stands_now from reading asked says bytes faults h st));
      fault = fault_rose says.told;
      memory = λ is. absurd (no_memory s.reply (told_so says.told) is);
      restart = not_restarted s.reply asked (told_so says.told);
      loads = λ plain. acts_loads done.middle new.log d s done.acts ∙ done.counts.loads;
      faults = λ plain none. acts_faults done.middle new.log d s done.acts none ∙ done.counts.faults;
    }

    pub done_itself : StaysItself old new s
    done_itself = record {
      tablet = done.tablet;
      lease = acts_lease s.append done.middle new.log d done.acts.by ∙ ap (λ (c : ClockState). c.lease) done.same.clock;
      held = holds_after old.log done.middle new.log d s done.same done.acts done.spelled;
      copy = done.acts.copy;
    }

  pub undone_stands : Still → (old new : CoreState V) → IsUndone holds old new → (bytes : List ℕ) (faults : ℕ) (h : History) → Stands holds old bytes faults h → Stands holds new bytes faults h
  undone_stands still old new un bytes faults h st = record {
    log = subst (λ (k : ℕ). log.Stands (Tablet k) new.log bytes faults h) (sym un.tablet) (still old.log new.log un.same (Tablet old.tablet) bytes faults h st.log);
    records = λ up. un.records (provisional h) (versions h) (st.records up);
  }

  -- if memory runs out
  pub undone_serves : Still → (old new : CoreState V) → IsUndone holds old new → SameCounts old.log new.log → (from : Actor) (reading : Option ℕ) (asked : Request) → ServesBy holds old new from reading asked out_of_memory
  undone_serves still old new un same from reading asked = record {
    advances = undone_stands still old new un;
    fault = λ is. cc;
    memory = λ is. (refl, un);
    restart = tt;
    loads = λ plain. same.loads;
    faults = λ plain none. same.faults;
  }

  pub undone_itself : (old new : CoreState V) → IsUndone holds old new → StaysItself old new out_of_memory
  undone_itself old new un = record { tablet = un.tablet; lease = ap (λ (c : ClockState). c.lease) un.same.clock; held = un.same.held; copy = refl }

  -- nothing was done
  pub still_undone : (s : CoreState V) → IsUndone holds s s
  still_undone s = record {
    same = record { held = refl; faults = omega arith; loads = omega arith; clock = refl; actions = refl; down = refl; records = refl };
    tablet = refl;
    records = λ ps vs kept. kept;
  }

  pub nothing_serves : (s : CoreState V) (from : Actor) (reading : Option ℕ) (asked : Request) → ServesBy holds s s from reading asked out_of_memory
  nothing_serves s from reading asked = record {
    advances = λ bytes faults h st. st;
    fault = λ is. cc;
    memory = λ is. (refl, still_undone s);
    restart = tt;
    loads = λ plain. refl;
    faults = λ plain none. refl;
  }

  -- a request that takes no reading is served alike whether one is given or not
  pub with_reading : (old new : CoreState V) (from : Actor) (reading : Option ℕ) (asked : Request) (s : Served) → ServesBy holds old new from None asked s
      → Advances (Stands holds old) (Stands holds new) old.log.clock.lease (Tablet old.tablet) from reading asked s.reply s → ServesBy holds old new from reading asked s
  with_reading old new from reading asked s by advances =
      record { advances = advances; fault = by.fault; memory = by.memory; restart = by.restart; loads = by.loads; faults = by.faults }

  pub nothing_itself : (s : CoreState V) → StaysItself s s out_of_memory
  nothing_itself s = record { tablet = refl; lease = refl; held = refl; copy = refl }
