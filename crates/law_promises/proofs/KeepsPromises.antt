-- Every run in which places agree keeps its promises.
use Rattle.std.proofs.Common.{◌≡◌, ℕ, ◌<◌, refl, sym, subst}
use Rattle.txn_data.specs.declared.committed_txn.CommittedTxn.{CommittedTxn}
use Rattle.txn_data.specs.declared.config.Config.{Config}
use Rattle.txn_data.specs.declared.request.Request.TheVariants as request
use Rattle.txn_data.specs.declared.told.Told.{Told}
use Rattle.txn_data.specs.declared.told.Told.TheVariants as told
use Rattle.txn_data.specs.declared.event.Event.{Event}
use Rattle.txn_data.specs.declared.event.Event.TheVariants.{Serve, Tell}
use Rattle.txn_data.specs.declared.entry.Entry.{Entry}
use Rattle.txn_types.specs.Lists.{Member}
use Rattle.txn_types.specs.History.{History}
use Rattle.txn_types.specs.Committed.{committed_snapshots}
use Rattle.txn_types.specs.Run.{Run}
use Rattle.txn_types.specs.Cause.{ToldAt, tells}
use Rattle.txn_promises.specs.Ends.{CommittedAsTold}
use Rattle.txn_promises.specs.Promises.{TookTime, ToldKeeps}
use Rattle.law_machines.proofs.Owns.{stands_member}
use Rattle.law_messages.proofs.Rules.{entry}
use Rattle.law_served.proofs.Tellings.{telling}
use Rattle.law_told_commits.specs.Laws.{TellsCommit, TellsOfCommit}
use Rattle.law_told_commits.proofs.Commits.{told_there, commit_times}
use Rattle.law_session_order.proofs.Runs.{commits_above}
use Rattle.law_commit_times.proofs.Commits.{commits_above_times}
use Rattle.law_related_writes.proofs.Related.{commits_differ}
use Rattle.law_apart.proofs.Rising.{related_apart}
use Rattle.law_steady_reads.proofs.FinalTimes.{reads_final}
use Rattle.law_steady_reads.proofs.Steady.{reads_steady}
use Rattle.law_right_reads.proofs.Right.{reads_right}
use Rattle.law_fresh_reads.proofs.Fresh.{reads_fresh}
use Rattle.law_causes.proofs.Runs.{causes as all_caused}
use Rattle.law_answers.proofs.Runs.{each_answered}
use Rattle.law_endings.proofs.Runs.{ended_never_commits}
use Rattle.law_endings.proofs.Told.{commits_told_ended, aborts_told_committed}
use Rattle.law_left.proofs.Plans.{last_settle}
use Rattle.law_leaves.proofs.Runs.{leaves as all_left, decide}
use Rattle.law_promises.specs.Laws.{RunsKeepPromises}

-- a write of a committed transaction took its time below the commit
above_write : (config : Config) (h : History) (x : CommittedTxn) (e : Entry) (w : ℕ) (event : Event) → Run config h → Member x (committed_snapshots h) → Member e h → e.event ≡ event → TookTime x.txn w event → w < x.at
above_write config h x e w (Serve from (request.Write meta number path op read seen fates) r time append) run member at is took =
    (commits_above config h e x.at number read seen from meta path op fates r time append run at is (x, member, sym took.0, refl)).2 w took.1
above_write config h x e w event run member at is took = absurd took

-- what was told Committed is committed so
committed_told : (config : Config) (h : History) (t : ToldAt) (x at : ℕ) → Run config h → Member t (tells h) → t.told ≡ told.Committed x at → CommittedAsTold h x at
committed_told config h t x at run here is =
    let place = telling h t here in
    let e = entry t.who t.reading (Tell place.number t.told) in
    let member = stands_member e t.before h place.stands in
    let there = subst (λ (u : Told). TellsOfCommit h (Tell place.number u)) is (told_there config h e run member) in
    record { commit = there.0; there = there.1; txn = there.2; time = there.3; only = subst (λ (u : Told). TellsCommit h (Tell place.number u)) is (commit_times config h e run member) }

tells_kept : (config : Config) (h : History) (t : ToldAt) → Run config h → Member t (tells h) → ToldKeeps config h t
tells_kept config h t run here =
    let ended = ended_never_commits config h t run here in
    record {
      cause = all_caused config h t run here;
      answer = each_answered config h t run here;
      leaves = all_left config h t run here;
      decides = decide config h t run here;
      ends = record {
        commits = λ x end. commits_told_ended config h t x run here end;
        aborts = λ line x c end is. aborts_told_committed config h t line x c run here end is;
        is_open = ended.0;
        for_good = ended.1;
      };
      commits = λ x at is. committed_told config h t x at run here is;
    }

pub promises_kept : RunsKeepPromises
promises_kept config h run agree = record {
  reads_keep = λ read member. record {
    final = reads_final config h read run member;
    right = reads_right config h read run agree member;
    steady = reads_steady config h read run member;
    fresh = λ skew. reads_fresh config h read run agree member skew;
  };
  commits_keep = λ x member. record {
    above_writes = λ e w at took. above_write config h x e w e.event run member at refl took;
    above_reads = commits_above_times config h x.txn x.at run (x, member, refl, refl);
  };
  commits_differ = λ x y x_in y_in other related same. commits_differ config h x y run agree x_in y_in other related same;
  writers_apart = λ x y x_in y_in other related. related_apart config h x y run agree x_in y_in other related;
  tells_keep = λ t here. tells_kept config h t run here;
  left = λ k. last_settle config h k run;
}
