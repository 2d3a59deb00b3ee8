-- While something of a committed transaction is provisional, its record is there.
use Rattle.std.proofs.Common.{◌≡◌, ℕ, List, refl, ap, subst, inl, inr, ◌⊎◌}
use Rattle.txn_data.specs.declared.actor.Actor.TheVariants.{Status}
use Rattle.txn_data.specs.declared.entry.Entry.{Entry}
use Rattle.txn_types.specs.History.{History, own, was_logged}
use Rattle.txn_types.specs.Status.{Record, NoRecord, Pending, Committed, AbortedBy, record_of, record_over}
use Rattle.law_machines.specs.Own.{landed}
use Rattle.law_machines.proofs.Basics.{filter_member}
use Rattle.law_machines.proofs.Counted.{own_all}
use Rattle.law_machines.proofs.Owns.{serves_own, member_stands, own_member}
use Rattle.law_machines.proofs.Landed.{standing_landed}
use Rattle.law_machines.proofs.Lands.{logged_member}
use Rattle.law_owners.specs.Owner.{home_of}
use Rattle.law_fates.proofs.Life.{Life, Open, Finished, Dead, life, RecordIs}
use Rattle.law_fates.proofs.Runs.{home_log, home_lands, record_before, committed_finished}
use Rattle.law_forgetting.proofs.Records.{forgot_entry}
use Rattle.law_forgetting.proofs.Forgotten.{from_forget}
use Rattle.law_committed_writes.specs.Laws.{CommittedIsRecorded}
use Rattle.law_committed_writes.proofs.Kept.{forgotten_none}

record_cases : (r : Record) (v : Life) (c : ℕ) → RecordIs r v → v ≡ Finished c → (r ≡ NoRecord) ⊎ ((tablets : List ℕ) × (r ≡ Committed c tablets))
record_cases NoRecord v c is end = inl refl
record_cases (Pending own) v c is end = let was : v ≡ Open = is in cc
record_cases (Committed d tablets) v c is end =
    let was : v ≡ Finished d = is in
    let same : d ≡ c = cc in
    inr (tablets, ap (λ (z : ℕ). Committed z tablets) same)
record_cases (AbortedBy by) v c is end = let was : v ≡ Dead = is in cc

pub committed_recorded : CommittedIsRecorded
committed_recorded config h p k x c run m own_txn committed =
    let a = Status (home_of config x) in
    let end = committed_finished config h x c run committed in
    elim (record_cases (record_of x (own a h)) (life x (home_log config x h)) c (record_before config x h run) end) [
      | inr there ↦ there
      | inl gone ↦
          let over : record_over x (home_log config x h) ≡ NoRecord =
          subst (λ (l : History). record_over x l ≡ NoRecord) (standing_landed config.lease_us a (own a h) (serves_own config a h run.1) (own_all a h)) gone in
          let f = forgot_entry x c (home_log config x h) (home_lands config x h run) over end in
          let logs = (filter_member (λ (e : Entry). was_logged e.event) f.0 (landed (own a h)) f.1).1 in
          let place = member_stands f.0 h (own_member f.0 a h (logged_member (own a h) f.0 f.1)) in
          absurd (forgotten_none config h x c k p run (from_forget config h place.0 f.0 x f.2.0 c run place.1 logs f.2.1 end) m own_txn)
    ]
