-- What an action does leaves the log standing for the actor's entries with one more.
use Rattle.std.proofs.Common.{◌≡◌, ℕ, ◌+◌, ◌*◌, ◌^◌, ◌<◌, ◌≤◌, ◌⊎◌, suc, Bool, true, false, ◌||◌, List, [], ◌∷◌, ◌++◌, length, Option, Some, None, Ok, refl, sym, ap, subst, ◌∙◌, inl, inr, arith, append_assoc, add-one}
use Rattle.std.specs.Prelude.{is_some, option_to_list}
use Rattle.std.specs.List.{AllByRecursion}
use Rattle.std.proofs.lemmas.Grind.{flat_map-append}
use Rattle.std.proofs.lemmas.List.{append-nil, length-append}
use Rattle.txn_data.specs.declared.actor.Actor.{Actor}
use Rattle.txn_data.specs.declared.append.Append.{Append}
use Rattle.txn_data.specs.declared.append.Append.TheVariants.{Nothing, Took, Failed}
use Rattle.txn_data.specs.declared.request.Request.{Request}
use Rattle.txn_data.specs.declared.reply.Reply.{Reply}
use Rattle.txn_data.specs.declared.reply.Reply.TheVariants as reply
use Rattle.txn_data.specs.declared.refusal.Refusal.TheVariants as refusal
use Rattle.txn_data.specs.declared.event.Event.TheVariants.{Serve}
use Rattle.txn_data.specs.declared.served.Served.{Served}
use Rattle.txn_types.specs.History.{History}
use Rattle.txn_types.specs.Lists.{or_else}
use Rattle.txn_types.specs.Clock.{Answer, logged, down_since, has_failed, lease_end}
use Rattle.txn_types.specs.Run.{Serves}
use Rattle.safe_time.specs.declared.step.Step.{Step}
use Rattle.safe_time.specs.ActorClock.{ClockState, served, taken, clock_of}
use Rattle.log_record.specs.declared.log_record.LogRecord.{LogRecord}
use Rattle.tablet_log.specs.Frames.{IsRecord, frame, frames}
use Rattle.tablet_log.specs.Entries.{own_record, records_of, logged_records, failed_records}
use Rattle.tablet_log.specs.Logged.{Store, log_faults}
use Rattle.tablet_log.specs.Rests.{IsStillWhere, RestsDown}
use Rattle.leased_log.specs.Allows.{AllowsAll}
use Rattle.leased_log.specs.Stands.{LogState, Stands, all_records}
use Rattle.leased_log.specs.Decides.{time_of, records_for, logs, IsStep, Decides, Done, Does}
use Rattle.leased_log.specs.Acts.{clock_after, Tells, Logs, Faults, ActsBy, reply_by, Acts}
use Rattle.leased_log.specs.declared.decision.Decision.{Decision}
use Rattle.leased_log.proofs.Parts.{entry_with, all_joined, quiet_records, own_records, some_records, few_records, quiet_none, stood, down_same, up_is_whole, is_up, faults_same}

-- what the laws of the crates below say
pub record Laws : Type 0 where
  pub log_taken : (lease : ℕ) (a : Actor) (reading : Option ℕ) (from : Actor) (asked : Request) (r : Reply) (time : Option ℕ) (append : Append) (h : History)
      → (append ≡ Failed → ⊥)
      → logged_records lease (entry_with a reading (Serve from asked r time append) ∷ h)
      ≡ logged_records lease h ++ records_of lease (lease_end lease h) (Serve from asked r time append)
  pub log_failed : (lease : ℕ) (a : Actor) (reading : Option ℕ) (from : Actor) (asked : Request) (r : Reply) (time : Option ℕ) (h : History)
      → logged_records lease (entry_with a reading (Serve from asked r time Failed) ∷ h) ≡ logged_records lease h
  pub piece : (lease : ℕ) (a : Actor) (reading : Option ℕ) (from : Actor) (asked : Request) (r : Reply) (time : Option ℕ) (h : History)
      → failed_records lease (entry_with a reading (Serve from asked r time Failed) ∷ h)
      ≡ records_of lease (lease_end lease h) (Serve from asked r time Failed)
  pub none : (lease : ℕ) (h : History) → has_failed h ≡ false → failed_records lease h ≡ []
  pub clock_taken : (lease : ℕ) (h : History) (reading floor : ℕ) (tick : Bool) (step : Step) → served (clock_of lease h) reading floor tick ≡ Ok step
      → (a : Actor) (read : Option ℕ) (from : Actor) (asked : Request) (r : Reply) (append : Append) → (append ≡ Failed → ⊥)
      → clock_of lease (entry_with a read (Serve from asked r (Some step.time) append) ∷ h) ≡ taken (clock_of lease h) step
  pub clock_same : (lease : ℕ) (h : History) (a : Actor) (read : Option ℕ) (from : Actor) (asked : Request) (r : Reply) (append : Append) → (append ≡ Failed → ⊥)
      → clock_of lease (entry_with a read (Serve from asked r None append) ∷ h) ≡ clock_of lease h

pub not_nothing : Nothing ≡ Failed → ⊥
not_nothing e = cc

not_took : Took ≡ Failed → ⊥
not_took e = cc

same_lease : (c : ClockState) (step : Option Step) → (clock_after c step).lease ≡ c.lease
same_lease c None = refl
same_lease c (Some step) = refl

-- the clock after an entry whose append did not fail
clock_steps : Laws → (lease : ℕ) (h : History) (step : Option Step) → IsStep (clock_of lease h) step → (a : Actor) (reading : Option ℕ) (from : Actor) (asked : Request) (r : Reply) (append : Append)
    → (append ≡ Failed → ⊥) → clock_after (clock_of lease h) step ≡ clock_of lease (entry_with a reading (Serve from asked r (time_of step) append) ∷ h)
clock_steps laws lease h None is a reading from asked r append went = sym (laws.clock_same lease h a reading from asked r append went)
clock_steps laws lease h (Some step) (at, floor, tick, is) a reading from asked r append went =
    sym (laws.clock_taken lease h at floor tick step is a reading from asked r append went)

-- an entry that takes no time and appends nothing may follow a failed append
pub still_without : (failed : Bool) (from : Actor) (asked : Request) (r : Reply) → IsStillWhere failed (Serve from asked r None Nothing)
still_without true from asked r = tt
still_without false from asked r = tt

still_up : (failed : Bool) (from : Actor) (asked : Request) (r : Reply) (time : Option ℕ) (append : Append) → failed ≡ false → IsStillWhere failed (Serve from asked r time append)
still_up true from asked r time append e = cc
still_up false from asked r time append e = tt

or_true : (b : Bool) → (b || true) ≡ true
or_true true = refl
or_true false = refl

-- frames of more records
framed_more : (start held : List ℕ) (rs more : List LogRecord) → held ≡ start ++ frames rs → held ++ frames more ≡ start ++ frames (rs ++ more)
framed_more start held rs more is =
    ap (λ (bytes : List ℕ). bytes ++ frames more) is ∙ append_assoc start (frames rs) (frames more)
    ∙ ap (λ (bytes : List ℕ). start ++ bytes) (sym (flat_map-append frame rs more))

module _ (laws : Laws) (a : Actor) (old new : LogState) (bytes : List ℕ) (faults : ℕ) (h : History) (reading : Option ℕ) (from : Actor) (asked : Request) (d : Decision)
    (st : Stands a old bytes faults h) (dec : Decides old.clock.lease a h reading asked d) where
  abbrev start : Store
  start = record { held = bytes; faults = faults }

  abbrev store_of : LogState → Store
  store_of s = record { held = s.held; faults = s.faults }

  -- the entry, by its reply and its append
  abbrev next : Reply → Append → History
  next r append = entry_with a reading (Serve from asked r (time_of d.step) append) ∷ h

  serves : (fails : Bool) (r : Reply) (append : Append) → logged fails (logs d) (time_of d.step) d.reply ≡ record { reply = r; time = time_of d.step; append = append }
      → Serves old.clock.lease a h reading asked r (time_of d.step) append
  serves fails r append is =
      let all = dec.says fails ∙ is in
      record { fails = fails; fits = dec.fits; replied = sym (ap (λ (x : Answer). x.reply) all); took = sym (ap (λ (x : Answer). x.time) all); logged = sym (ap (λ (x : Answer). x.append) all) }

  -- what is served is allowed after the entries so far
  allows : (r : Reply) (append : Append) → Serves old.clock.lease a h reading asked r (time_of d.step) append → AllowsAll old.clock.lease a (next r append)
  unfolding AllowsAll
  allows r append served = (st.allowed, served)

  is_up_for : (logs d || is_some d.step) ≡ true → down_since h ≡ None
  is_up_for some = is_up old.clock.lease a h reading asked d dec some

  -- an action that does something finds the actor up, with no piece behind its log
  whole : (logs d || is_some d.step) ≡ true → has_failed h ≡ false
  whole some = up_is_whole h (is_up_for some)

  held_whole : has_failed h ≡ false → old.held ≡ bytes ++ frames (logged_records old.clock.lease h)
  held_whole none = elim st.logged.held [
    | inl is ↦ is
    | inr is ↦ is ∙ ap (λ (rs : List LogRecord). bytes ++ frames rs)
        (ap (λ (rs : List LogRecord). logged_records old.clock.lease h ++ rs) (laws.none old.clock.lease h none) ∙ append-nil (logged_records old.clock.lease h))
  ]

  all_whole : has_failed h ≡ false → all_records old.clock.lease h ≡ logged_records old.clock.lease h
  all_whole none = ap (λ (rs : List LogRecord). logged_records old.clock.lease h ++ rs) (laws.none old.clock.lease h none) ∙ append-nil (logged_records old.clock.lease h)

  -- ---- nothing to log

  module _ (t : Tells old new d) (copy : Reply) where
    told_log : logged_records old.clock.lease (next d.reply Nothing) ≡ logged_records old.clock.lease h
    told_log =
        laws.log_taken old.clock.lease a reading from asked d.reply (time_of d.step) Nothing h not_nothing
        ∙ ap (λ (rs : List LogRecord). logged_records old.clock.lease h ++ rs) (quiet_records old.clock.lease h from asked d.reply d dec.step t.quiet)
        ∙ append-nil (logged_records old.clock.lease h)

    told_piece : failed_records old.clock.lease (next d.reply Nothing) ≡ failed_records old.clock.lease h
    unfolding failed_records
    told_piece = refl

    told_all : all_records old.clock.lease (next d.reply Nothing) ≡ all_records old.clock.lease h
    told_all = ap (λ (rs : List LogRecord). rs ++ failed_records old.clock.lease (next d.reply Nothing)) told_log
        ∙ ap (λ (rs : List LogRecord). logged_records old.clock.lease h ++ rs) told_piece

    told_still : (step : Option Step) → d.step ≡ step → IsStillWhere (has_failed h) (Serve from asked d.reply (time_of d.step) Nothing)
    told_still None e = subst (λ (x : Option Step). IsStillWhere (has_failed h) (Serve from asked d.reply (time_of x) Nothing)) (sym e) (still_without (has_failed h) from asked d.reply)
    told_still (Some step) e = still_up (has_failed h) from asked d.reply (time_of d.step) Nothing (whole (ap (λ (x : Option Step). logs d || is_some x) e ∙ or_true (logs d)))

    told_rests : RestsDown a (next d.reply Nothing)
    unfolding RestsDown
    told_rests = (st.own, refl, told_still d.step refl)

    told_down : down_since (next d.reply Nothing) ≡ down_since h
    unfolding down_since
    told_down = down_same (down_since h) (suc (length h)) from asked d.reply (time_of d.step) Nothing dec.plain not_nothing

    told_lease : new.clock.lease ≡ old.clock.lease
    told_lease = ap (λ (c : ClockState). c.lease) t.clock ∙ same_lease old.clock d.step

    told_clock : down_since (next d.reply Nothing) ≡ None → new.clock ≡ clock_of old.clock.lease (next d.reply Nothing)
    told_clock up =
        t.clock ∙ ap (λ (c : ClockState). clock_after c d.step) (st.clock (sym told_down ∙ up))
        ∙ clock_steps laws old.clock.lease h d.step dec.step a reading from asked d.reply Nothing not_nothing

    told_faults : log_faults (next d.reply Nothing) ≡ log_faults h
    unfolding log_faults
    told_faults = faults_same (log_faults h) from asked d.reply (time_of d.step) Nothing dec.told

    told_held : (new.held ≡ bytes ++ frames (logged_records old.clock.lease (next d.reply Nothing))) ⊎ (new.held ≡ bytes ++ frames (all_records old.clock.lease (next d.reply Nothing)))
    told_held = elim st.logged.held [
      | inl is ↦ inl (t.held ∙ is ∙ ap (λ (rs : List LogRecord). bytes ++ frames rs) (sym told_log))
      | inr is ↦ inr (t.held ∙ is ∙ ap (λ (rs : List LogRecord). bytes ++ frames rs) (sym told_all))
    ]

    told_some : has_failed (next d.reply Nothing) ≡ true → failed_records old.clock.lease (next d.reply Nothing) ≡ [] → ⊥
    unfolding has_failed failed_records
    told_some failed none = st.some failed none

    told_serves : Serves old.clock.lease a h reading asked d.reply (time_of d.step) Nothing
    told_serves = serves true d.reply Nothing (ap (λ (b : Bool). logged true b (time_of d.step) d.reply) t.quiet)

    told_stands : Stands a new bytes faults (next d.reply Nothing)
    told_stands = stood old.clock.lease a new bytes faults (next d.reply Nothing) told_lease (record {
      opened = st.opened;
      own = told_rests;
      allowed = allows d.reply Nothing told_serves;
      actions = t.actions ∙ ap (λ (n : ℕ). n + 1) st.actions ∙ add-one (length h);
      down = t.down ∙ st.down ∙ sym told_down;
      clock = told_clock;
      logged = record { faults = rw (told_faults, t.faults) st.logged.faults; held = told_held };
      records = t.records ∙ st.records ∙ ap length (sym told_log);
      few = rw told_all (omega (arith, st.few));
      spelled = rw told_all st.spelled;
      some = told_some;
    })

    pub told_done : Done a old new bytes faults h reading from asked d (record { reply = d.reply; copy = copy; time = time_of d.step; append = Nothing })
    told_done = record {
      serves = told_serves;
      stands = told_stands;
      records = λ went. told_log ∙ sym (append-nil (logged_records old.clock.lease h))
          ∙ ap (λ (rs : List LogRecord). logged_records old.clock.lease h ++ rs) (sym (quiet_none d t.quiet));
    }

  -- ---- the store took the frames

  module _ (t : Logs old new d) (copy : Reply) (spelled : AllByRecursion IsRecord (records_for d)) where
    up : down_since h ≡ None
    up = is_up_for (ap (λ (b : Bool). b || is_some d.step) t.logs)

    none : has_failed h ≡ false
    none = up_is_whole h up

    own : own_record asked (time_of d.step) ≡ option_to_list d.own
    own = dec.own t.logs

    took_log : logged_records old.clock.lease (next d.reply Took) ≡ logged_records old.clock.lease h ++ records_for d
    took_log =
        laws.log_taken old.clock.lease a reading from asked d.reply (time_of d.step) Took h not_took
        ∙ ap (λ (rs : List LogRecord). logged_records old.clock.lease h ++ rs) (own_records old.clock.lease h from asked d.reply d Took (λ e. cc) dec.step own)

    took_piece : failed_records old.clock.lease (next d.reply Took) ≡ []
    unfolding failed_records
    took_piece = laws.none old.clock.lease h none

    took_all : all_records old.clock.lease (next d.reply Took) ≡ logged_records old.clock.lease h ++ records_for d
    took_all = ap (λ (rs : List LogRecord). logged_records old.clock.lease (next d.reply Took) ++ rs) took_piece
        ∙ append-nil (logged_records old.clock.lease (next d.reply Took)) ∙ took_log

    took_rests : RestsDown a (next d.reply Took)
    unfolding RestsDown
    took_rests = (st.own, refl, still_up (has_failed h) from asked d.reply (time_of d.step) Took none)

    took_down : down_since (next d.reply Took) ≡ down_since h
    unfolding down_since
    took_down = down_same (down_since h) (suc (length h)) from asked d.reply (time_of d.step) Took dec.plain not_took

    took_lease : new.clock.lease ≡ old.clock.lease
    took_lease = ap (λ (c : ClockState). c.lease) t.clock ∙ same_lease old.clock d.step

    took_clock : new.clock ≡ clock_of old.clock.lease (next d.reply Took)
    took_clock =
        t.clock ∙ ap (λ (c : ClockState). clock_after c d.step) (st.clock up)
        ∙ clock_steps laws old.clock.lease h d.step dec.step a reading from asked d.reply Took not_took

    took_faults : log_faults (next d.reply Took) ≡ log_faults h
    unfolding log_faults
    took_faults = faults_same (log_faults h) from asked d.reply (time_of d.step) Took dec.told

    took_held : new.held ≡ bytes ++ frames (logged_records old.clock.lease (next d.reply Took))
    took_held = t.held ∙ framed_more bytes old.held (logged_records old.clock.lease h) (records_for d) (held_whole none)
        ∙ ap (λ (rs : List LogRecord). bytes ++ frames rs) (sym took_log)

    took_some : has_failed (next d.reply Took) ≡ true → failed_records old.clock.lease (next d.reply Took) ≡ [] → ⊥
    unfolding has_failed
    took_some failed piece = let not_failed = none in cc

    took_count : length (logged_records old.clock.lease (next d.reply Took)) ≡ length (logged_records old.clock.lease h) + length (records_for d)
    took_count = ap length took_log ∙ length-append (logged_records old.clock.lease h) (records_for d)

    few_before : length (logged_records old.clock.lease h) ≤ 2 * length h
    few_before = rw (sym (all_whole none)) st.few

    took_serves : Serves old.clock.lease a h reading asked d.reply (time_of d.step) Took
    took_serves = serves false d.reply Took (ap (λ (b : Bool). logged false b (time_of d.step) d.reply) t.logs)

    took_stands : length h < 2 ^ 62 → Stands a new bytes faults (next d.reply Took)
    took_stands bound = stood old.clock.lease a new bytes faults (next d.reply Took) took_lease (record {
      opened = st.opened;
      own = took_rests;
      allowed = allows d.reply Took took_serves;
      actions = t.actions ∙ ap (λ (n : ℕ). n + 1) st.actions ∙ add-one (length h);
      down = t.down ∙ st.down ∙ sym took_down;
      clock = λ up_now. took_clock;
      logged = record { faults = rw took_faults (let before = st.logged.faults in let rose = t.faults in omega arith); held = inl took_held };
      records = let r = t.records in let s = st.records in let n = took_count in let b = few_before in let f = few_records d in omega (arith, bound);
      few = rw took_all (let b = few_before in let f = few_records d in omega (arith, length-append (logged_records old.clock.lease h) (records_for d)));
      spelled = rw took_all (all_joined IsRecord (logged_records old.clock.lease h) (records_for d) (rw (sym (all_whole none)) st.spelled) spelled);
      some = took_some;
    })

    pub took_done : length h < 2 ^ 62 → Done a old new bytes faults h reading from asked d (record { reply = d.reply; copy = copy; time = time_of d.step; append = Took })
    took_done bound = record {
      serves = took_serves;
      stands = took_stands bound;
      records = λ went. took_log;
    }

  -- ---- the store failed

  module _ (t : Faults old new d) (copy : Reply) (spelled : AllByRecursion IsRecord (records_for d)) where
    abbrev fault : Reply
    fault = reply.Refused refusal.LogFault

    up_then : down_since h ≡ None
    up_then = is_up_for (ap (λ (b : Bool). b || is_some d.step) t.logs)

    none_then : has_failed h ≡ false
    none_then = up_is_whole h up_then

    failed_log : logged_records old.clock.lease (next fault Failed) ≡ logged_records old.clock.lease h
    failed_log = laws.log_failed old.clock.lease a reading from asked fault (time_of d.step) h

    failed_piece : failed_records old.clock.lease (next fault Failed) ≡ records_for d
    failed_piece =
        laws.piece old.clock.lease a reading from asked fault (time_of d.step) h
        ∙ own_records old.clock.lease h from asked fault d Failed (λ e. cc) dec.step (dec.own t.logs)

    failed_all : all_records old.clock.lease (next fault Failed) ≡ logged_records old.clock.lease h ++ records_for d
    failed_all = ap (λ (rs : List LogRecord). rs ++ failed_records old.clock.lease (next fault Failed)) failed_log
        ∙ ap (λ (rs : List LogRecord). logged_records old.clock.lease h ++ rs) failed_piece

    failed_rests : RestsDown a (next fault Failed)
    unfolding RestsDown
    failed_rests = (st.own, refl, still_up (has_failed h) from asked fault (time_of d.step) Failed none_then)

    failed_down : down_since (next fault Failed) ≡ Some (suc (length h))
    unfolding down_since
    failed_down = ap (λ (x : Option ℕ). or_else x (Some (suc (length h)))) up_then

    failed_lease : new.clock.lease ≡ old.clock.lease
    failed_lease = ap (λ (c : ClockState). c.lease) t.clock

    failed_faults : log_faults (next fault Failed) ≡ log_faults h + 1
    unfolding log_faults
    failed_faults = refl

    failed_held : (new.held ≡ bytes ++ frames (logged_records old.clock.lease (next fault Failed))) ⊎ (new.held ≡ bytes ++ frames (all_records old.clock.lease (next fault Failed)))
    failed_held = elim t.held [
      | inl is ↦ inl (is ∙ held_whole none_then ∙ ap (λ (rs : List LogRecord). bytes ++ frames rs) (sym failed_log))
      | inr is ↦ inr (is ∙ framed_more bytes old.held (logged_records old.clock.lease h) (records_for d) (held_whole none_then)
          ∙ ap (λ (rs : List LogRecord). bytes ++ frames rs) (sym failed_all))
    ]

    failed_few : length (logged_records old.clock.lease h) ≤ 2 * length h
    failed_few = rw (sym (all_whole none_then)) st.few

    failed_serves : Serves old.clock.lease a h reading asked fault (time_of d.step) Failed
    failed_serves = serves true fault Failed (ap (λ (b : Bool). logged true b (time_of d.step) d.reply) t.logs)

    failed_stands : Stands a new bytes faults (next fault Failed)
    failed_stands = stood old.clock.lease a new bytes faults (next fault Failed) failed_lease (record {
      opened = st.opened;
      own = failed_rests;
      allowed = allows fault Failed failed_serves;
      actions = t.actions ∙ ap (λ (n : ℕ). n + 1) st.actions ∙ add-one (length h);
      down = t.down ∙ ap (λ (n : ℕ). Some (n + 1)) st.actions ∙ ap Some (add-one (length h)) ∙ sym failed_down;
      clock = λ up_now. let is_down = failed_down in cc;
      logged = record { faults = rw failed_faults (let before = st.logged.faults in let rose = t.faults in omega arith); held = failed_held };
      records = t.records ∙ st.records ∙ ap length (sym failed_log);
      few = rw failed_all (let b = failed_few in let f = few_records d in omega (arith, length-append (logged_records old.clock.lease h) (records_for d)));
      spelled = rw failed_all (all_joined IsRecord (logged_records old.clock.lease h) (records_for d) (rw (sym (all_whole none_then)) st.spelled) spelled);
      some = λ failed no_records. some_records d t.logs (sym failed_piece ∙ no_records);
    })

    pub failed_done : Done a old new bytes faults h reading from asked d (record { reply = fault; copy = copy; time = time_of d.step; append = Failed })
    failed_done = record {
      serves = failed_serves;
      stands = failed_stands;
      records = λ went. absurd (went refl);
    }

-- whatever became of the append
does_by : Laws → (old new : LogState) (d : Decision) (append : Append) (copy : Reply) → ActsBy append old new d → AllByRecursion IsRecord (records_for d) → old.actions < 2 ^ 62
    → Does old new d (record { reply = reply_by append d.reply; copy = copy; time = time_of d.step; append = append })
does_by laws old new d Nothing copy t spelled bound a bytes faults h reading from asked st dec = told_done laws a old new bytes faults h reading from asked d st dec t copy
does_by laws old new d Took copy t spelled bound a bytes faults h reading from asked st dec =
    took_done laws a old new bytes faults h reading from asked d st dec t copy spelled (let n = st.actions in omega (arith, bound))
does_by laws old new d Failed copy t spelled bound a bytes faults h reading from asked st dec = failed_done laws a old new bytes faults h reading from asked d st dec t copy spelled

pub does : Laws → (old new : LogState) (d : Decision) (s : Served) → Acts old new d s → AllByRecursion IsRecord (records_for d) → old.actions < 2 ^ 62 → Does old new d s
does laws old new d s acts spelled bound =
    let made : Reply → Option ℕ → Served = λ r time. record { reply = r; copy = s.copy; time = time; append = s.append } in
    let is : made (reply_by s.append d.reply) (time_of d.step) ≡ s =
    ap (λ (r : Reply). made r (time_of d.step)) (sym acts.reply) ∙ ap (λ (time : Option ℕ). made s.reply time) (sym acts.time) in
    subst (λ (x : Served). Does old new d x) is (does_by laws old new d s.append s.copy acts.by spelled bound)
