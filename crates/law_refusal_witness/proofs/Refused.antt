-- Commands that are refused, by computation.
use Rattle.std.proofs.Common.{◌≡◌, ℕ, true, false, [], Some, None, refl, inl, arith}
use Rattle.txn_data.specs.declared.actor.Actor.{Actor}
use Rattle.txn_data.specs.declared.append.Append.TheVariants.{Nothing}
use Rattle.txn_data.specs.declared.command.Command.{Command}
use Rattle.txn_data.specs.declared.config.Config.{Config}
use Rattle.txn_data.specs.declared.reply.Reply.TheVariants as reply
use Rattle.txn_data.specs.declared.request.Request.TheVariants as request
use Rattle.txn_data.specs.declared.told.Told.TheVariants as told
use Rattle.txn_data.specs.declared.told_refusal.ToldRefusal.{ToldRefusal}
use Rattle.txn_types.specs.Lists.{Member}
use Rattle.txn_types.specs.History.{History}
use Rattle.txn_types.specs.Run.{mover_at}
use Rattle.txn_types.specs.Cause.{ToldAt, ServedAt, tells, served_since}
use Rattle.worked_cases.specs.Simulated.{no_fault, all_done, by_turns}
use Rattle.worked_cases.proofs.Tables.{tables}
use Rattle.law_witness.specs.Endings.{earlier}
use Rattle.law_witness.specs.Scripts.{run_of, lost}
use Rattle.law_witness.specs.Witness.{small, doc, writer, reader}
use Rattle.law_refusal_witness.specs.Refused.{WasRefused, of_reader, misused, meeting, stopped, by_clocks, by_logs, between, listing_first, load_fails, ShowsOwnRefusals, ShowsMeetings, ShowsStoppedReads, ShowsClocks, ShowsFaults, ShowsComingBetween, ShowsFailedLoad}
use Rattle.law_witness.proofs.Allowed as allowed
use Rattle.law_witness.proofs.Allowed.{AreAllowed, none, ◌and_then◌, on_tablet}
use Rattle.law_witness.proofs.Simulated.{done_is_run, turns_are_run}
use Rattle.law_witness.proofs.Tests.{is_at, nth, nth_member, one_home}

-- what was told before so many later tells
abbrev pub told_at : ℕ → History → ToldAt
told_at n h = nth (record { who = writer; reading = None; told = told.Set; before = [] }) n (tells h)

pub refused_at : (n : ℕ) (config : Config) (h : History) (who : Actor) (line : Command) (cause : ToldRefusal) →
    is_at n (tells h) ≡ true → (told_at n h).who ≡ who → (mover_at config who (told_at n h).before).line ≡ Some line →
    (told_at n h).told ≡ told.Refused cause → WasRefused config h who line cause
refused_at n config h who line cause is by under_way heard =
    record { at = told_at n h; here = nth_member _ n (tells h) is; by = by; under_way = under_way; told = heard }

pub shows_own_refusals : ShowsOwnRefusals (run_of small misused)
unfolding tables
shows_own_refusals =
    let h = run_of small misused in
    record {
      is_run = record { run = done_is_run small no_fault misused refl refl; places = one_home (λ part. 0) h refl };
      put_without = refused_at 4 small h _ _ _ refl refl refl refl;
      begin_inside = refused_at 2 small h _ _ _ refl refl refl refl;
      single_inside = refused_at 1 small h _ _ _ refl refl refl refl;
    }

pub shows_meetings : ShowsMeetings (run_of small meeting)
unfolding tables
shows_meetings =
    let h = run_of small meeting in
    record {
      is_run = record { run = done_is_run small no_fault meeting refl refl; places = one_home (λ part. 0) h refl };
      equal_priority = refused_at 9 small h _ _ _ refl refl refl refl;
      higher_priority = refused_at 6 small h _ _ _ refl refl refl refl;
      over_fate = refused_at 3 small h _ _ _ refl refl refl refl;
      over_version = refused_at 0 small h _ _ _ refl refl refl refl;
    }

pub shows_stopped_reads : ShowsStoppedReads (run_of small stopped)
unfolding tables
shows_stopped_reads =
    let h = run_of small stopped in
    record {
      is_run = record { run = done_is_run small no_fault stopped refl refl; places = one_home (λ part. 0) h refl };
      strict = refused_at 6 small h _ _ _ refl refl refl refl;
      after_write = refused_at 0 small h _ _ _ refl refl refl refl;
      after_read = refused_at 3 small h _ _ _ refl refl refl refl;
    }

pub shows_clocks : ShowsClocks (run_of small by_clocks)
unfolding tables
shows_clocks =
    let h = run_of small by_clocks in
    record {
      is_run = record { run = done_is_run small no_fault by_clocks refl refl; places = one_home (λ part. 0) h refl };
      in_lease = refused_at 3 small h _ _ _ refl refl refl refl;
      own_reading = refused_at 1 small h _ _ _ refl refl refl refl;
      reading_of_tablet = refused_at 0 small h _ _ _ refl refl refl refl;
    }

pub shows_faults : ShowsFaults (all_done small lost by_logs [])
unfolding tables
shows_faults =
    let h = all_done small lost by_logs [] in
    record {
      is_run = record { run = done_is_run small lost by_logs refl refl; places = one_home (λ part. 0) h refl };
      append_failed = refused_at 2 small h _ _ _ refl refl refl refl;
      in_doubt = refused_at 1 small h _ _ _ refl refl refl refl;
      is_down = refused_at 0 small h _ _ _ refl refl refl refl;
    }

-- what was served for a mover's last command, before so many later ones
abbrev pub served_at : ℕ → Actor → History → ServedAt
served_at n m h = nth (record { by = m; reading = None; asked = request.Restart; reply = reply.Begun; append = Nothing; before = [] }) n (served_since m h)

pub was_served : (n : ℕ) (m : Actor) (h : History) → is_at n (served_since m h) ≡ true → Member (served_at n m h) (served_since m h)
was_served n m h is = nth_member _ n (served_since m h) is

pub shows_coming_between : ShowsComingBetween (by_turns small between listing_first [])
unfolding tables served_since
shows_coming_between =
    let h = by_turns small between listing_first [] in
    record {
      is_run = record { run = turns_are_run small between listing_first refl refl; places = one_home (λ part. 0) h refl };
      conflicts = refused_at 0 small h _ _ _ refl refl refl refl;
      came_between = record {
        served = served_at 0 reader (earlier h);
        here = was_served 0 reader (earlier h) refl;
        answered = refl;
        listing = served_at 1 reader (earlier h);
        listed_here = was_served 1 reader (earlier h) refl;
        txn = of_reader 1;
        path = doc;
        found = [];
        writes = (refl, refl);
        same_tablet = refl;
        listed = refl;
        told = refl;
        least = refl;
      };
    }

load_fails_allowed : AreAllowed load_fails
unfolding tables
load_fails_allowed =
    none
    and_then (refl, refl, refl, ((omega arith, omega arith), omega arith, omega arith))
    and_then (tt, refl, refl)
    and_then (omega arith, refl, record { fails = false; fits = refl; replied = refl; took = refl; logged = refl })
    and_then (refl, (refl, refl))
    and_then (tt, refl, refl, inl refl)
    and_then (refl, refl, refl, ((omega arith, omega arith), omega arith, (on_tablet, (omega arith, omega arith))))
    and_then (tt, refl, refl)
    and_then (omega arith, refl, record { fails = false; fits = refl; replied = refl; took = refl; logged = refl })
    and_then (refl, (refl, refl))
    and_then (tt, refl, refl, inl refl)

pub shows_failed_load : ShowsFailedLoad load_fails
unfolding tables
shows_failed_load = record {
  is_run = record { run = allowed.run_of load_fails load_fails_allowed; places = one_home (λ part. 0) load_fails refl };
  load_failed = refused_at 1 small load_fails _ _ _ refl refl refl refl;
  is_down = refused_at 0 small load_fails _ _ _ refl refl refl refl;
}
