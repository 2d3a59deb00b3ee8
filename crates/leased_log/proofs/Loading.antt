-- What a restart leaves the log standing for, whether its load fails or not.
use Rattle.std.proofs.Common.{◌≡◌, ℕ, ◌+◌, ◌*◌, ◌<◌, ◌≤◌, ◌⊎◌, ◌↔◌, suc, Bool, true, false, List, [], ◌∷◌, ◌++◌, length, nat_lt, Option, Some, None, refl, sym, ap, subst, ◌∙◌, inl, inr, arith, add-one}
use Rattle.std.specs.List.{AllByRecursion}
use Rattle.std.proofs.lemmas.Bool.{ltb-true, ltb-false}
use Rattle.std.proofs.lemmas.List.{append-nil, length-append}
use Rattle.txn_data.specs.declared.actor.Actor.{Actor}
use Rattle.txn_data.specs.declared.actor.Actor.TheVariants.{Tablet, Status, Session, Applier}
use Rattle.txn_data.specs.declared.append.Append.TheVariants.{Nothing}
use Rattle.txn_data.specs.declared.request.Request.TheVariants.{Restart}
use Rattle.txn_data.specs.declared.reply.Reply.TheVariants.{Refused}
use Rattle.txn_data.specs.declared.refusal.Refusal.TheVariants.{LogFault}
use Rattle.txn_data.specs.declared.event.Event.TheVariants.{Restarted}
use Rattle.txn_types.specs.History.{History}
use Rattle.txn_types.specs.Lists.{or_else}
use Rattle.txn_types.specs.Clock.{down_since, has_failed, lease_end}
use Rattle.txn_types.specs.Run.{Serves, CanKeep}
use Rattle.safe_time.specs.ActorClock.{ClockState, restarted, clock_of}
use Rattle.log_record.specs.declared.log_record.LogRecord.{LogRecord}
use Rattle.tablet_log.specs.Frames.{IsRecord, Holds, frames}
use Rattle.tablet_log.specs.Entries.{logged_records, failed_records}
use Rattle.tablet_log.specs.Replay.{lease_in}
use Rattle.tablet_log.specs.Logged.{log_faults}
use Rattle.tablet_log.specs.Rests.{IsStillWhere, RestsDown, if_kept}
use Rattle.leased_log.specs.Allows.{AllowsAll}
use Rattle.leased_log.specs.Stands.{LogState, Stands, all_records}
use Rattle.leased_log.specs.Loads.{FailsToLoad, failed_load, NotLoaded, StartsFrom, restart, HoldsPiece, IsRestarted}
use Rattle.leased_log.proofs.Parts.{entry_with, stood, none_of_or}
use Rattle.leased_log.proofs.Acting.{Laws, not_nothing, still_without}

-- ---- a load that fails

no_answer : (lease : ℕ) (a : Actor) (h : History) → Serves lease a h None Restart (Refused LogFault) None Nothing
no_answer lease (Tablet k) h = record { fails = true; fits = refl; replied = refl; took = refl; logged = refl }
no_answer lease (Status k) h = record { fails = true; fits = refl; replied = refl; took = refl; logged = refl }
no_answer lease (Session k) h = record { fails = true; fits = refl; replied = refl; took = refl; logged = refl }
no_answer lease (Applier k) h = record { fails = true; fits = refl; replied = refl; took = refl; logged = refl }

module _ (laws : Laws) (a : Actor) (old new : LogState) (bytes : List ℕ) (faults : ℕ) (h : History) (from : Actor)
    (t : FailsToLoad old new) (st : Stands a old bytes faults h) where
  abbrev after : History
  after = failed_load a from ∷ h

  log_after : logged_records old.clock.lease after ≡ logged_records old.clock.lease h
  log_after = laws.log_taken old.clock.lease a None from Restart (Refused LogFault) None Nothing h not_nothing ∙ append-nil (logged_records old.clock.lease h)

  all_after : all_records old.clock.lease after ≡ all_records old.clock.lease h
  unfolding failed_records
  all_after = ap (λ (rs : List LogRecord). rs ++ failed_records old.clock.lease h) log_after

  rests_after : RestsDown a after
  unfolding RestsDown
  rests_after = (st.own, refl, still_without (has_failed h) from Restart (Refused LogFault))

  allowed_after : AllowsAll old.clock.lease a after
  unfolding AllowsAll
  allowed_after = (st.allowed, no_answer old.clock.lease a h)

  down_after_load : down_since after ≡ or_else (down_since h) (Some (suc (length h)))
  unfolding down_since
  down_after_load = refl

  faults_after_load : log_faults after ≡ log_faults h + 1
  unfolding log_faults
  faults_after_load = refl

  held_after : (new.held ≡ bytes ++ frames (logged_records old.clock.lease after)) ⊎ (new.held ≡ bytes ++ frames (all_records old.clock.lease after))
  held_after = elim st.logged.held [
    | inl is ↦ inl (t.held ∙ is ∙ ap (λ (rs : List LogRecord). bytes ++ frames rs) (sym log_after))
    | inr is ↦ inr (t.held ∙ is ∙ ap (λ (rs : List LogRecord). bytes ++ frames rs) (sym all_after))
  ]

  some_after : has_failed after ≡ true → failed_records old.clock.lease after ≡ [] → ⊥
  unfolding has_failed failed_records
  some_after failed none = st.some failed none

  pub not_loaded : NotLoaded a old new bytes faults h from
  not_loaded = record {
    serves = no_answer old.clock.lease a h;
    stands = stood old.clock.lease a new bytes faults after (ap (λ (c : ClockState). c.lease) t.clock) (record {
      opened = st.opened;
      own = rests_after;
      allowed = allowed_after;
      actions = t.actions ∙ ap (λ (n : ℕ). n + 1) st.actions ∙ add-one (length h);
      down = t.down ∙ ap (λ (n : ℕ). or_else old.down (Some (n + 1))) st.actions ∙ ap (λ (n : ℕ). or_else old.down (Some n)) (add-one (length h))
          ∙ ap (λ (d : Option ℕ). or_else d (Some (suc (length h)))) st.down ∙ sym down_after_load;
      clock = λ up. absurd (none_of_or (down_since h) (suc (length h)) (sym down_after_load ∙ up));
      logged = record { faults = rw faults_after_load (let before = st.logged.faults in let rose = t.faults in omega arith); held = held_after };
      records = t.records ∙ st.records ∙ ap length (sym log_after);
      few = rw all_after (omega (arith, st.few));
      spelled = rw all_after st.spelled;
      some = some_after;
    });
  }

-- ---- a restart

front_of : (P : LogRecord → Type 0) (xs ys : List LogRecord) → AllByRecursion P (xs ++ ys) → AllByRecursion P xs
front_of P [] ys all = tt
front_of P (x ∷ xs) ys all = (all.0, front_of P xs ys all.1)

none_added : (xs ys : List LogRecord) → length (xs ++ ys) ≤ length xs → ys ≡ []
none_added xs [] le = refl
none_added xs (y ∷ ys) le = absurd (omega (arith, length-append xs (y ∷ ys)))

-- what the laws of the crates below say of a restart
pub record RestartLaws : Type 0 where
  pub one_list : (bytes : List ℕ) (p q : List LogRecord) → Holds bytes p → Holds bytes q → p ≡ q
  pub records : (lease : ℕ) (a : Actor) (h : History) (reading : Option ℕ) (from : Actor) (kept : Bool) → RestsDown a h
      → logged_records lease (entry_with a reading (Restarted from kept) ∷ h) ≡ logged_records lease h ++ if_kept kept (failed_records lease h)
  pub none : (lease : ℕ) (h : History) → has_failed h ≡ false → failed_records lease h ≡ []
  pub lease : (lease : ℕ) (h : History) → lease_in (logged_records lease h) ≡ lease_end lease h
  pub clock : (lease : ℕ) (h : History) (a : Actor) (read : Option ℕ) (from : Actor) (kept : Bool)
      → clock_of lease (entry_with a read (Restarted from kept) ∷ h) ≡ restarted (clock_of lease h) (lease_end lease (entry_with a read (Restarted from kept) ∷ h))

-- which records the log holds, and whether the failed piece is among them
pub record Found (lease : ℕ) (h : History) (kept : Bool) (rs : List LogRecord) : Type 0 where
  pub records : rs ≡ logged_records lease h ++ if_kept kept (failed_records lease h)
  pub can_keep : CanKeep kept h

failed_then : RestartLaws → (lease : ℕ) (h : History) (rs : List LogRecord) → rs ≡ all_records lease h → length (logged_records lease h) < length rs
    → (failed : Bool) → has_failed h ≡ failed → has_failed h ≡ true
failed_then laws lease h rs is more true e = e
failed_then laws lease h rs is more false e =
    let same : rs ≡ logged_records lease h = is ∙ ap (λ (ps : List LogRecord). logged_records lease h ++ ps) (laws.none lease h e) ∙ append-nil (logged_records lease h) in
    absurd (omega (arith, more, ap length same))

found_kept : RestartLaws → (lease : ℕ) (h : History) (rs : List LogRecord) (kept : Bool) → rs ≡ all_records lease h → nat_lt (length (logged_records lease h)) (length rs) ≡ kept → Found lease h kept rs
found_kept laws lease h rs true is more =
    record { records = is; can_keep = failed_then laws lease h rs is (ltb-true (length (logged_records lease h)) (length rs) more) (has_failed h) refl }
found_kept laws lease h rs false is more =
    let none : failed_records lease h ≡ [] =
    none_added (logged_records lease h) (failed_records lease h) (subst (λ (ps : List LogRecord). length ps ≤ length (logged_records lease h)) is (ltb-false (length (logged_records lease h)) (length rs) more)) in
    record { records = is ∙ ap (λ (ps : List LogRecord). logged_records lease h ++ ps) none; can_keep = tt }

found_lost : (lease : ℕ) (h : History) (rs : List LogRecord) (kept : Bool) → rs ≡ logged_records lease h → nat_lt (length (logged_records lease h)) (length rs) ≡ kept → Found lease h kept rs
found_lost lease h rs true is more = absurd (omega (arith, ltb-true (length (logged_records lease h)) (length rs) more, ap length is))
found_lost lease h rs false is more = record { records = is ∙ sym (append-nil (logged_records lease h)); can_keep = tt }

-- where a failed piece is kept the store holds it, and where the store holds one it is kept
holds_piece : (lease : ℕ) (h : History) (held bytes : List ℕ) (rs : List LogRecord) (kept : Bool) → Found lease h kept rs → held ≡ frames rs → bytes ≡ [] → kept ≡ true
    → (has_failed h ≡ true) × (held ≡ bytes ++ frames (all_records lease h))
holds_piece lease h held bytes rs true found is opened e =
    (found.can_keep, is ∙ ap frames found.records ∙ ap (λ (b : List ℕ). b ++ frames (all_records lease h)) (sym opened))
holds_piece lease h held bytes rs false found is opened e = cc

keeps_piece : (lease : ℕ) (h : History) (rs : List LogRecord) (kept : Bool) → Found lease h kept rs → rs ≡ all_records lease h → (failed_records lease h ≡ [] → ⊥) → kept ≡ true
keeps_piece lease h rs true found is some = refl
keeps_piece lease h rs false found is some =
    let same : all_records lease h ≡ logged_records lease h = sym is ∙ found.records ∙ append-nil (logged_records lease h) in
    absurd (some (none_added (logged_records lease h) (failed_records lease h) (omega (arith, ap length same))))

still_restart : (failed : Bool) (from : Actor) (kept : Bool) → IsStillWhere failed (Restarted from kept)
still_restart true from kept = tt
still_restart false from kept = tt

kept_length : (kept : Bool) (rs : List LogRecord) → length (if_kept kept rs) ≤ length rs
kept_length true rs = omega arith
kept_length false rs = omega arith

module _ (laws : RestartLaws) (a : Actor) (old new : LogState) (bytes : List ℕ) (faults : ℕ) (h : History) (from : Actor) (kept : Bool) (rs : List LogRecord)
    (t : StartsFrom old new kept rs) (st : Stands a old bytes faults h) (holds : Holds old.held rs) where
  abbrev again : History
  again = restart a from kept ∷ h

  more_is : nat_lt (length (logged_records old.clock.lease h)) (length rs) ≡ kept
  more_is = ap (λ (n : ℕ). nat_lt n (length rs)) (sym st.records) ∙ t.kept

  found : Found old.clock.lease h kept rs
  found = elim st.logged.held [
    | inl at ↦
        let lost : Holds old.held (logged_records old.clock.lease h) = record {
          records = front_of IsRecord (logged_records old.clock.lease h) (failed_records old.clock.lease h) st.spelled;
          is = at ∙ ap (λ (b : List ℕ). b ++ frames (logged_records old.clock.lease h)) st.opened;
        } in
        found_lost old.clock.lease h rs kept (laws.one_list old.held rs (logged_records old.clock.lease h) holds lost) more_is
    | inr at ↦
        let all : Holds old.held (all_records old.clock.lease h) = record {
          records = st.spelled;
          is = at ∙ ap (λ (b : List ℕ). b ++ frames (all_records old.clock.lease h)) st.opened;
        } in
        found_kept laws old.clock.lease h rs kept (laws.one_list old.held rs (all_records old.clock.lease h) holds all) more_is
  ]

  all_held : old.held ≡ bytes ++ frames (all_records old.clock.lease h) → rs ≡ all_records old.clock.lease h
  all_held at = laws.one_list old.held rs (all_records old.clock.lease h) holds (record {
    records = st.spelled;
    is = at ∙ ap (λ (b : List ℕ). b ++ frames (all_records old.clock.lease h)) st.opened;
  })

  keeps : (kept ≡ true) ↔ HoldsPiece old bytes h
  keeps = (
    holds_piece old.clock.lease h old.held bytes rs kept found holds.is st.opened,
    λ (failed, at). keeps_piece old.clock.lease h rs kept found (all_held at) (st.some failed),
  )

  log_again : logged_records old.clock.lease again ≡ rs
  log_again = laws.records old.clock.lease a h None from kept st.own ∙ sym found.records

  piece_again : failed_records old.clock.lease again ≡ []
  unfolding failed_records
  piece_again = refl

  all_again : all_records old.clock.lease again ≡ rs
  all_again = ap (λ (ps : List LogRecord). logged_records old.clock.lease again ++ ps) piece_again
      ∙ append-nil (logged_records old.clock.lease again) ∙ log_again

  rests_again : RestsDown a again
  unfolding RestsDown
  rests_again = (st.own, refl, still_restart (has_failed h) from kept)

  allowed_again : AllowsAll old.clock.lease a again
  unfolding AllowsAll
  allowed_again = (st.allowed, (refl, found.can_keep))

  down_again : down_since again ≡ None
  unfolding down_since
  down_again = refl

  faults_again : log_faults again ≡ log_faults h
  unfolding log_faults
  faults_again = refl

  clock_again : new.clock ≡ clock_of old.clock.lease again
  clock_again = t.clock ∙ ap (λ (until : Option ℕ). restarted old.clock until) (sym (ap lease_in log_again) ∙ laws.lease old.clock.lease again)
      ∙ sym (laws.clock old.clock.lease h a None from kept)

  held_again : new.held ≡ bytes ++ frames (logged_records old.clock.lease again)
  held_again = t.held ∙ holds.is ∙ ap frames (sym log_again) ∙ ap (λ (b : List ℕ). b ++ frames (logged_records old.clock.lease again)) (sym st.opened)

  few_again : length rs ≤ 2 * length h
  few_again =
      let same : length rs ≡ length (logged_records old.clock.lease h ++ if_kept kept (failed_records old.clock.lease h)) = ap length found.records in
      let short : length (if_kept kept (failed_records old.clock.lease h)) ≤ length (failed_records old.clock.lease h) = kept_length kept (failed_records old.clock.lease h) in
      let all : length (all_records old.clock.lease h) ≤ 2 * length h = st.few in
      omega (arith, length-append (logged_records old.clock.lease h) (if_kept kept (failed_records old.clock.lease h)), length-append (logged_records old.clock.lease h) (failed_records old.clock.lease h))

  some_again : has_failed again ≡ true → failed_records old.clock.lease again ≡ [] → ⊥
  unfolding has_failed
  some_again failed none = cc

  pub is_restarted : IsRestarted a old new bytes faults h from kept rs
  is_restarted = record {
    can_keep = found.can_keep;
    keeps = keeps;
    stands = stood old.clock.lease a new bytes faults again (ap (λ (c : ClockState). c.lease) t.clock) (record {
      opened = st.opened;
      own = rests_again;
      allowed = allowed_again;
      actions = t.actions ∙ ap (λ (n : ℕ). n + 1) st.actions ∙ add-one (length h);
      down = t.down ∙ sym down_again;
      clock = λ up. clock_again;
      logged = record { faults = rw (faults_again, t.faults) st.logged.faults; held = inl held_again };
      records = t.records ∙ ap length (sym log_again);
      few = rw all_again (omega (arith, few_again));
      spelled = rw all_again holds.records;
      some = some_again;
    });
    logged = log_again;
  }
