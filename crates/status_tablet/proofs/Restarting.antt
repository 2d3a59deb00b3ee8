-- A restart gives what the records stand for.
use Rattle.std.proofs.Common.{◌≡◌, ℕ, Bool, true, false, cond, nat_eq, ◌↔◌, List, [], ◌∷◌, ◌++◌, Option, Some, None, refl, sym, ap, subst, ◌∙◌}
use Rattle.std.specs.List.{fold}
use Rattle.txn_data.specs.declared.actor.Actor.{Actor}
use Rattle.txn_data.specs.declared.actor.Actor.TheVariants.{Status}
use Rattle.txn_data.specs.declared.request.Request.TheVariants.{Restart}
use Rattle.txn_types.specs.History.{History}
use Rattle.txn_types.specs.Clock.{down_since}
use Rattle.txn_types.specs.Status.{Record, NoRecord, Pending, Committed, AbortedBy, record_of, noted, is_sure}
use Rattle.txn_types.specs.Machine.{Advances}
use Rattle.safe_time.specs.ActorClock.{ClockState, restarted}
use Rattle.log_record.specs.declared.log_record.LogRecord.{LogRecord}
use Rattle.log_record.specs.declared.log_record.LogRecord.TheVariants as log_record
use Rattle.tablet_log.specs.Frames.{Holds, frames}
use Rattle.tablet_log.specs.Replay.{record_after, record_in, lease_in}
use Rattle.leased_log.specs.Replies.{restarted_with, not_loaded}
use Rattle.leased_log.specs.Stands as log
use Rattle.leased_log.specs.Stands.{LogState, IsSame, all_records}
use Rattle.leased_log.specs.Loads.{failed_load, NotLoaded, restart, HoldsPiece, IsRestarted}
use Rattle.leased_log.proofs.Parts.{none_of_or}
use Rattle.status_tablet.specs.declared.txn_record.TxnRecord.{TxnRecord}
use Rattle.status_tablet.specs.declared.txn_record.TxnRecord.TheVariants as kept
use Rattle.status_tablet.specs.Keeps.{kept_of, kept_after, names_none}
use Rattle.status_tablet.specs.Stands.{StatusState, Stands}
use Rattle.status_tablet.specs.Decisions.{StaysItself}
use Rattle.status_tablet.specs.Restarts.{IsRebuilt, StartsAgain, StaysUnloaded}
use Rattle.status_tablet.proofs.Table.{waiting_all}
use Rattle.status_tablet.proofs.Performing.{Replayed, Still}

-- one more record
kept_if : (b : Bool) (q r : Record) → kept_of (cond b q r) [] false ≡ cond b (kept_of q [] false) (kept_of r [] false)
kept_if true q r = refl
kept_if false q r = refl

commit_if : (b : Bool) (r : Record) (at : ℕ) (tablets : List ℕ)
    → cond b (Some (kept.Committed (record { at = at; waits = tablets; stays = names_none tablets; sure = false }))) (kept_of r [] false) ≡ kept_of (cond b (Committed at tablets) r) [] false
commit_if true r at tablets = ap (λ (ks : List ℕ). Some (kept.Committed (record { at = at; waits = ks; stays = names_none tablets; sure = false }))) (sym (waiting_all tablets))
commit_if false r at tablets = refl

kept_step : (x : ℕ) (r : Record) (more : LogRecord) → kept_after more x (kept_of r [] false) ≡ kept_of (record_after x r more) [] false
kept_step x r (log_record.Lease until) = refl
kept_step x r (log_record.Write meta number at path op) = refl
kept_step x r (log_record.Apply y at) = refl
kept_step x r (log_record.Clean y) = refl
kept_step x r (log_record.Single y at path op) = refl
kept_step x r (log_record.Begin y isolation priority) = sym (kept_if (nat_eq y x) (Pending priority) r)
kept_step x r (log_record.Commit y at tablets) = commit_if (nat_eq y x) r at tablets
kept_step x r (log_record.Abort y None) = sym (kept_if (nat_eq y x) NoRecord r)
kept_step x r (log_record.Abort y (Some by)) = sym (kept_if (nat_eq y x) (AbortedBy by) r)
kept_step x r (log_record.Forget y) = sym (kept_if (nat_eq y x) NoRecord r)

kept_from : (x : ℕ) (r : Record) (rs : List LogRecord) → fold (λ (old : Option TxnRecord) (more : LogRecord). kept_after more x old) (kept_of r [] false) rs ≡ kept_of (fold (record_after x) r rs) [] false
kept_from x r [] = refl
kept_from x r (more ∷ rs) =
    ap (λ (k : Option TxnRecord). fold (λ (old : Option TxnRecord) (m : LogRecord). kept_after m x old) k rs) (kept_step x r more) ∙ kept_from x (record_after x r more) rs

module _ (law : Replayed) (still : Still) (old new : StatusState) (kept_piece : Bool) (again : StartsAgain old new kept_piece) (from : Actor)
    (bytes : List ℕ) (faults : ℕ) (h : History) (st : Stands old bytes faults h) where
  made : IsRestarted (Status old.status) again.middle new.log bytes faults h from kept_piece again.found
  made = again.restarts (Status old.status) bytes faults h from (still old.log again.middle again.same (Status old.status) bytes faults h st.log)
      (subst (λ (b : List ℕ). Holds b again.found) (sym again.same.held) again.held)

  abbrev after : History
  after = restart (Status old.status) from kept_piece ∷ h

  none_noted : (x : ℕ) → noted x after ≡ []
  unfolding noted
  none_noted x = refl

  none_sure : (x : ℕ) → is_sure x after ≡ false
  unfolding is_sure
  none_sure x = refl

  pub stands_again : Stands new bytes faults after
  stands_again = record {
    log = subst (λ (k : ℕ). log.Stands (Status k) new.log bytes faults after) (sym again.status) made.stands;
    records = λ up x.
        again.records x ∙ kept_from x NoRecord again.found
        ∙ ap (λ (r : Record). kept_of r [] false) (ap (record_in x) (sym made.logged) ∙ law again.middle.clock.lease after x)
        ∙ ap (λ (ns : List ℕ). kept_of (record_of x after) ns false) (sym (none_noted x))
        ∙ ap (λ (b : Bool). kept_of (record_of x after) (noted x after) b) (sym (none_sure x));
  }

-- the log that was loaded holds a piece exactly where it held one before
piece_of : (old middle : LogState) → IsSame old middle → (bytes : List ℕ) (h : History) (kept_piece : Bool) → (kept_piece ≡ true) ↔ HoldsPiece middle bytes h → (kept_piece ≡ true) ↔ HoldsPiece old bytes h
piece_of old middle same bytes h kept_piece keeps =
    let lease : middle.clock.lease ≡ old.clock.lease = ap (λ (c : ClockState). c.lease) same.clock in
    let there : (at : ℕ) → List ℕ = λ at. bytes ++ frames (all_records at h) in (
      λ is. let piece : HoldsPiece middle bytes h = keeps.0 is in (piece.0, sym same.held ∙ piece.1 ∙ ap there lease),
      λ piece. keeps.1 (piece.0, same.held ∙ piece.1 ∙ ap there (sym lease)),
    )

pub restart_serves : Replayed → Still → (old new : StatusState) (kept_piece : Bool) → StartsAgain old new kept_piece → (from : Actor)
    → Advances (Stands old) (Stands new) old.log.clock.lease (Status old.status) from None Restart (restarted_with kept_piece).reply (restarted_with kept_piece)
restart_serves law still old new kept_piece again from bytes faults h st =
    ((refl, (made law still old new kept_piece again from bytes faults h st).can_keep, refl, refl), stands_again law still old new kept_piece again from bytes faults h st)

pub rebuilt : Replayed → Still → (old new : StatusState) (kept_piece : Bool) → StartsAgain old new kept_piece → IsRebuilt old new kept_piece
rebuilt law still old new kept_piece again = record {
  found = again.found;
  held = again.held;
  same = again.starts.held ∙ again.same.held;
  loads = again.loads;
  up = again.starts.down;
  clock = again.starts.clock ∙ ap (λ (c : ClockState). restarted c (lease_in again.found)) again.same.clock;
  records = λ x. again.records x ∙ kept_from x NoRecord again.found;
  keeps = λ bytes faults h st.
      let made_so : IsRestarted (Status old.status) again.middle new.log bytes faults h (Status old.status) kept_piece again.found = made law still old new kept_piece again (Status old.status) bytes faults h st in
      piece_of old.log again.middle again.same bytes h kept_piece made_so.keeps;
}

pub restart_stays : (old new : StatusState) (kept_piece : Bool) → StartsAgain old new kept_piece → StaysItself old new (restarted_with kept_piece)
restart_stays old new kept_piece again = record {
  status = again.status;
  lease = ap (λ (c : ClockState). c.lease) again.starts.clock ∙ ap (λ (c : ClockState). c.lease) again.same.clock;
  held = again.starts.held ∙ again.same.held;
  copy = refl;
}

-- ---- a load that failed

down_after_fault : (a from : Actor) (h : History) → down_since (failed_load a from ∷ h) ≡ None → ⊥
unfolding down_since
down_after_fault a from h up = none_of_or (down_since h) _ up

pub fault_serves : (old new : StatusState) → StaysUnloaded old new → (from : Actor)
    → Advances (Stands old) (Stands new) old.log.clock.lease (Status old.status) from None Restart not_loaded.reply not_loaded
fault_serves old new un from bytes faults h st =
    let not : NotLoaded (Status old.status) old.log new.log bytes faults h from = un.stays (Status old.status) bytes faults h from st.log in (
      not.serves,
      record {
        log = subst (λ (k : ℕ). log.Stands (Status k) new.log bytes faults (failed_load (Status old.status) from ∷ h)) (sym un.status) not.stands;
        records = λ up x. absurd (down_after_fault (Status old.status) from h up);
      },
    )

pub fault_stays : (old new : StatusState) → StaysUnloaded old new → StaysItself old new not_loaded
fault_stays old new un = record { status = un.status; lease = ap (λ (c : ClockState). c.lease) un.fails.clock; held = un.fails.held; copy = refl }
