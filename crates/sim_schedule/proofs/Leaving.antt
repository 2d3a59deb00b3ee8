-- What a simulation leaves.
use Rattle.std.proofs.Common.{◌≡◌, ℕ, ◌+◌, ◌-◌, ◌^◌, ◌≤◌, List, [], ◌∷◌, length-drop, min, take, refl, sym, subst, inl, arith}
use Rattle.std.proofs.lemmas.List.{append-nil}
use Rattle.txn_data.specs.declared.actor.Actor.TheVariants.{Session}
use Rattle.txn_data.specs.declared.command.Command.{Command}
use Rattle.txn_data.specs.declared.commands.Commands.{Commands}
use Rattle.txn_data.specs.declared.config.Config.{Config}
use Rattle.txn_types.specs.History.{History, counting_before}
use Rattle.txn_types.specs.Cause.{tells}
use Rattle.txn_types.specs.Committed.{committed, committed_snapshots}
use Rattle.txn_types.specs.Reads.{reads}
use Rattle.txn_types.specs.Settled.{last_told}
use Rattle.txn_promises.specs.Promises.{Promises}
use Rattle.tablet_log.specs.Entries.{logged_over}
use Rattle.txn_types.specs.Run.{Steps}
use Rattle.txn_types.specs.Script.{IsRunnable, FollowsLines, commands_of}
use Rattle.tablet_log.specs.Logged.{Logged, Store, log_faults}
use Rattle.mover_chain.specs.NextEvent.{given_by}
use Rattle.mover_chain.proofs.Lines.{no_lines}
use Rattle.law_schedules.specs.Courses.{Course}
use Rattle.law_schedules.proofs.Doing.{courses_do_all}
use Rattle.law_schedules.proofs.Scheduling.{courses_are_scheduled}
use Rattle.law_moves.proofs.Clocks.{none_read}
use Rattle.world_machines.specs.Stores.{AreStores, spare_of, stores_of}
use Rattle.world_core.specs.State.{WorldState}
use Rattle.world_core.specs.World.{IsClosed, recorded}
use Rattle.sim_schedule.specs.Left.{AreBack, DidAll, RanOut}
use Rattle.sim_schedule.specs.Stands.{Stands}

-- ## nothing was opened

no_steps : (config : Config) → Steps config []
unfolding Steps
no_steps config = tt

none_follow : (planned : List Command) → FollowsLines [] planned
none_follow planned = inl (sym (take_none planned))
  where
    take_none : (l : List Command) → take 0 l ≡ []
    take_none [] = refl
    take_none (x ∷ xs) = refl

-- an empty history has no read, no commit and nothing told
nothing_promised : (config : Config) → Promises config []
unfolding reads committed committed_snapshots counting_before tells last_told
nothing_promised config = record {
  reads_keep = λ read there. absurd there;
  commits_keep = λ x there. absurd there;
  commits_differ = λ x y there. absurd there;
  writers_apart = λ x y there. absurd there;
  tells_keep = λ t there. absurd there;
  left = λ k idle rest. tt;
}

never_failed : log_faults [] ≡ 0
unfolding log_faults
never_failed = refl

nothing_logged : (lease : ℕ) (s : Store) → Logged lease [] s s
unfolding counting_before logged_over
nothing_logged lease s = record {
  faults = rw never_failed (few s.faults);
  held = inl (sym (append-nil s.held));
}
  where
    few : (n : ℕ) → min (n + 0) (2 ^ 64 - 1) ≤ n
    few n = omega arith

pub first_out : {L : Type 0} (config : Config) (plan : Commands) (held : L → List ℕ) (faults : L → ℕ) (xs ys : List L) (h : History) → IsRunnable config plan → ys ≡ xs → h ≡ [] → RanOut config plan held faults xs ys h
first_out {L} config plan held faults xs ys h runnable same none =
    subst (λ (g : History). RanOut config plan held faults xs ys g) (sym none) (subst (λ (zs : List L). RanOut config plan held faults xs zs []) (sym same) (record {
      keeps = record {
        run = (runnable.cluster, no_steps config);
        follows = λ i. subst (λ (l : List Command). FollowsLines l (commands_of i plan.sessions)) (sym (no_lines (Session i))) (none_follow (commands_of i plan.sessions));
        places = λ p q first second. absurd first;
        promises = nothing_promised config;
      };
      readings = none_read config;
      stores = record { many = refl; logged = λ a there. nothing_logged config.lease_us (stores_of config held faults xs a); spare = refl };
    }))

-- ## the world was closed

stores_back : {L : Type 0} (config : Config) (plan : Commands) (held : L → List ℕ) (faults : L → ℕ) (xs ys : List L) (h g : History) → AreStores config held xs →
    IsClosed config held faults (given_by plan) (stores_of config held faults xs) (spare_of config xs) h g ys → AreBack config held faults xs ys h
stores_back config plan held faults xs ys h g stores closed = record {
  many = let all = closed.many in let enough = stores.enough in let spare = length-drop (config.tablets + config.status) xs in omega (arith, all, enough, spare);
  logged = closed.logged;
  spare = closed.rest;
}

pub done : {L : Type 0} (config : Config) (plan : Commands) (held : L → List ℕ) (faults : L → ℕ) (xs ys : List L) (w : WorldState L) (clocks : List ℕ) (g : History) → AreStores config held xs →
    Stands config plan (stores_of config held faults xs) (spare_of config xs) w clocks → IsClosed config held faults (given_by plan) (stores_of config held faults xs) (spare_of config xs) (recorded w) g ys →
    Course config plan (recorded w) → DidAll config plan held faults xs ys g
done config plan held faults xs ys w clocks g stores stands closed course =
    subst (DidAll config plan held faults xs ys) (sym closed.history) (record {
      keeps = closed.keeps;
      whole = courses_do_all config plan (recorded w) stands.runnable closed.keeps.run closed.keeps.follows course;
      scheduled = record {
        order = courses_are_scheduled config plan (recorded w) stands.runnable closed.keeps.run closed.keeps.follows course;
        readings = stands.readings;
      };
      stores = stores_back config plan held faults xs ys (recorded w) g stores closed;
    })

pub ran_out : {L : Type 0} (config : Config) (plan : Commands) (held : L → List ℕ) (faults : L → ℕ) (xs ys : List L) (w : WorldState L) (clocks : List ℕ) (g : History) → AreStores config held xs →
    Stands config plan (stores_of config held faults xs) (spare_of config xs) w clocks → IsClosed config held faults (given_by plan) (stores_of config held faults xs) (spare_of config xs) (recorded w) g ys →
    RanOut config plan held faults xs ys g
ran_out config plan held faults xs ys w clocks g stores stands closed =
    subst (RanOut config plan held faults xs ys) (sym closed.history) (record {
      keeps = closed.keeps;
      readings = stands.readings;
      stores = stores_back config plan held faults xs ys (recorded w) g stores closed;
    })
