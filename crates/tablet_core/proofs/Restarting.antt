-- A restart gives what the records stand for.
use Rattle.std.proofs.Common.{◌≡◌, ℕ, ◌↔◌, Bool, true, List, ◌∷◌, ◌++◌, None, refl, sym, ap, subst, ◌∙◌}
use Rattle.txn_data.specs.declared.actor.Actor.{Actor}
use Rattle.txn_data.specs.declared.actor.Actor.TheVariants.{Tablet}
use Rattle.txn_data.specs.declared.request.Request.TheVariants.{Restart}
use Rattle.txn_data.specs.declared.version.Version.{Version}
use Rattle.txn_types.specs.History.{History}
use Rattle.txn_types.specs.Clock.{down_since}
use Rattle.safe_time.specs.ActorClock.{ClockState, restarted}
use Rattle.tablet_log.specs.Frames.{Holds, frames}
use Rattle.tablet_log.specs.Replay.{TabletState, tablet_of, lease_in}
use Rattle.leased_log.specs.Replies.{out_of_memory, restarted_with, not_loaded}
use Rattle.leased_log.specs.Stands as log
use Rattle.leased_log.specs.Stands.{LogState, IsSame, all_records}
use Rattle.leased_log.specs.Loads.{failed_load, NotLoaded, restart, HoldsPiece, IsRestarted}
use Rattle.leased_log.proofs.Parts.{none_of_or}
use Rattle.tablet_records.specs.Keeps.{Keeps}
use Rattle.tablet_core.specs.Stands.{CoreState, Stands}
use Rattle.tablet_core.specs.Decisions.{StaysItself, IsUndone, ServesBy}
use Rattle.tablet_core.specs.Restarts.{IsRebuilt, StartsAgain, StaysUnloaded}
use Rattle.tablet_core.proofs.Performing.{Replayed, Still, undone_stands}

-- the log that was loaded holds a piece exactly where it held one before
piece_of : (old middle : LogState) → IsSame old middle → (bytes : List ℕ) (h : History) (kept_piece : Bool) → (kept_piece ≡ true) ↔ HoldsPiece middle bytes h → (kept_piece ≡ true) ↔ HoldsPiece old bytes h
piece_of old middle same bytes h kept_piece keeps =
    let lease : middle.clock.lease ≡ old.clock.lease = ap (λ (c : ClockState). c.lease) same.clock in
    let there : (at : ℕ) → List ℕ = λ at. bytes ++ frames (all_records at h) in (
      λ is. let piece : HoldsPiece middle bytes h = keeps.0 is in (piece.0, sym same.held ∙ piece.1 ∙ ap there lease),
      λ piece. keeps.1 (piece.0, same.held ∙ piece.1 ∙ ap there (sym lease)),
    )

down_after_fault : (a from : Actor) (h : History) → down_since (failed_load a from ∷ h) ≡ None → ⊥
unfolding down_since
down_after_fault a from h up = none_of_or (down_since h) _ up

module _ {V : Type 0} (holds : V → List Version → Type 0) where
  module _ (law : Replayed) (still : Still) (old new : CoreState V) (kept_piece : Bool) (again : StartsAgain holds old new kept_piece) (from : Actor)
      (bytes : List ℕ) (faults : ℕ) (h : History) (st : Stands holds old bytes faults h) where
    made : IsRestarted (Tablet old.tablet) again.middle new.log bytes faults h from kept_piece again.found
    made = again.restarts (Tablet old.tablet) bytes faults h from (still old.log again.middle again.same (Tablet old.tablet) bytes faults h st.log)
        (subst (λ (b : List ℕ). Holds b again.found) (sym again.same.held) again.held)

    abbrev after : History
    after = restart (Tablet old.tablet) from kept_piece ∷ h

    pub stands_again : Stands holds new bytes faults after
    stands_again = record {
      log = subst (λ (k : ℕ). log.Stands (Tablet k) new.log bytes faults after) (sym again.tablet) made.stands;
      records = λ up. subst (λ (s : TabletState). Keeps holds new.records s.intents s.versions)
          (ap tablet_of (sym made.logged) ∙ law again.middle.clock.lease after) again.records;
    }

  pub restart_serves : Replayed → Still → (old new : CoreState V) (kept_piece : Bool) → StartsAgain holds old new kept_piece → (from : Actor)
      → ServesBy holds old new from None Restart (restarted_with kept_piece)
  restart_serves law still old new kept_piece again from = record {
    advances = λ bytes faults h st.
        ((refl, (made law still old new kept_piece again from bytes faults h st).can_keep, refl, refl), stands_again law still old new kept_piece again from bytes faults h st);
    fault = λ is. cc;
    memory = λ is. cc;
    restart = refl;
    loads = λ plain. absurd plain;
    faults = λ plain none. absurd plain;
  }

  pub rebuilt : Replayed → Still → (old new : CoreState V) (kept_piece : Bool) → StartsAgain holds old new kept_piece → IsRebuilt holds old new kept_piece
  rebuilt law still old new kept_piece again = record {
    found = again.found;
    held = again.held;
    same = again.starts.held ∙ again.same.held;
    loads = again.loads;
    up = again.starts.down;
    clock = again.starts.clock ∙ ap (λ (c : ClockState). restarted c (lease_in again.found)) again.same.clock;
    records = again.records;
    keeps = λ bytes faults h st.
        let made_so : IsRestarted (Tablet old.tablet) again.middle new.log bytes faults h (Tablet old.tablet) kept_piece again.found = made law still old new kept_piece again (Tablet old.tablet) bytes faults h st in
        piece_of old.log again.middle again.same bytes h kept_piece made_so.keeps;
  }

  pub restart_itself : (old new : CoreState V) (kept_piece : Bool) → StartsAgain holds old new kept_piece → StaysItself old new (restarted_with kept_piece)
  restart_itself old new kept_piece again = record {
    tablet = again.tablet;
    lease = ap (λ (c : ClockState). c.lease) again.starts.clock ∙ ap (λ (c : ClockState). c.lease) again.same.clock;
    held = again.starts.held ∙ again.same.held;
    copy = refl;
  }

  -- ---- a load that failed

  pub fault_serves : (old new : CoreState V) → StaysUnloaded old new → (from : Actor) → ServesBy holds old new from None Restart not_loaded
  fault_serves old new un from = record {
    advances = λ bytes faults h st.
        let not : NotLoaded (Tablet old.tablet) old.log new.log bytes faults h from = un.stays (Tablet old.tablet) bytes faults h from st.log in (
          not.serves,
          record {
            log = subst (λ (k : ℕ). log.Stands (Tablet k) new.log bytes faults (failed_load (Tablet old.tablet) from ∷ h)) (sym un.tablet) not.stands;
            records = λ up. absurd (down_after_fault (Tablet old.tablet) from h up);
          },
        );
    fault = λ is. un.fails.faults;
    memory = λ is. cc;
    restart = tt;
    loads = λ plain. absurd plain;
    faults = λ plain none. absurd plain;
  }

  -- if memory runs out before the restart
  pub restart_undone : Still → (old new : CoreState V) → IsUndone holds old new → (from : Actor) → ServesBy holds old new from None Restart out_of_memory
  restart_undone still old new un from = record {
    advances = undone_stands holds still old new un;
    fault = λ is. cc;
    memory = λ is. (refl, un);
    restart = tt;
    loads = λ plain. absurd plain;
    faults = λ plain none. absurd plain;
  }

  pub fault_itself : (old new : CoreState V) → StaysUnloaded old new → StaysItself old new not_loaded
  fault_itself old new un = record { tablet = un.tablet; lease = ap (λ (c : ClockState). c.lease) un.fails.clock; held = un.fails.held; copy = refl }
