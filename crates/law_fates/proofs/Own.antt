-- What a status tablet told, over its own entries.
use Rattle.std.proofs.Common.{◌≡◌, ℕ, true, [], ◌∷◌, Option, refl, sym, subst, inl, inr}
use Rattle.txn_data.specs.declared.actor.Actor.{Actor}
use Rattle.txn_data.specs.declared.actor.Actor.TheVariants.{Status}
use Rattle.txn_data.specs.declared.config.Config.{Config}
use Rattle.txn_data.specs.declared.request.Request.TheVariants as request
use Rattle.txn_data.specs.declared.event.Event.{Event}
use Rattle.txn_data.specs.declared.event.Event.TheVariants.{Start, Ask, Serve, Hear, Tell, Restarted}
use Rattle.txn_types.specs.History.{History, own, was_logged, standing}
use Rattle.txn_types.specs.Status.{record_over, record_of}
use Rattle.txn_types.specs.Run.{Run, Steps}
use Rattle.txn_types.specs.Plan.{IsCluster}
use Rattle.law_machines.specs.Own.{landed, ServesNext, ServesAll}
use Rattle.law_machines.proofs.Basics.{same_cases}
use Rattle.law_machines.proofs.Counted.{own_all}
use Rattle.law_machines.proofs.Owns.{serves_own, allowed_serves, own_member}
use Rattle.law_machines.proofs.Pieces.{orderly}
use Rattle.law_machines.proofs.Landed.{logged, standing_landed}
use Rattle.law_machines.proofs.Lands.{Lands, NextAll, lands, logged_member}
use Rattle.law_owners.specs.Owner.{Uses, IsUnused}
use Rattle.law_owners.proofs.Runs.{ids_once}
use Rattle.law_fates.proofs.Table.{TableOk, NewOk, LandOk, logged_is, table_logs}
use Rattle.law_fates.proofs.Life.{life, RecordIs, record_is}

-- ## what is logged is allowed over what stands in the log

table_next : (lease j : ℕ) (o : History) (reading : Option ℕ) (event : Event) → ServesNext lease (Status j) o reading event → was_logged event ≡ true → TableOk (standing o) event
table_next lease j o reading (Serve from asked r time append) served is = table_logs lease j o reading from asked r time append served (logged_is from asked r time append is)
table_next lease j o reading (Restarted from k) served is = cc
table_next lease j o reading (Start number line) served is = cc
table_next lease j o reading (Ask to asked) served is = cc
table_next lease j o reading (Hear from r) served is = cc
table_next lease j o reading (Tell number t) served is = cc

new_event : (l : History) (event : Event) → ((x : ℕ) → Uses x event → IsUnused x l) → NewOk l event
new_event l (Serve from (request.Begin y isolation priority) r time append) new = new y refl
new_event l event new = tt

next_all : (config : Config) (j : ℕ) (h : History) → IsCluster config → Steps config h → NextAll LandOk (own (Status j) h)
unfolding Steps NextAll
next_all config j [] cluster steps = tt
next_all config j (e ∷ h) cluster steps = elim (same_cases e.actor (Status j)) [
  | inl s ↦ rw s.0 (
    next_all config j h cluster steps.0,
    λ is.
        let all : ServesAll config.lease_us (Status j) (own (Status j) h) = serves_own config (Status j) h steps.0 in
        let served : ServesNext config.lease_us (Status j) (own (Status j) h) e.reading e.event =
        subst (λ (b : Actor). ServesNext config.lease_us b (own b h) e.reading e.event) s.1 (allowed_serves config h e.actor e.reading e.event steps.1) in (
          subst (λ (l : History). TableOk l e.event) (standing_landed config.lease_us (Status j) (own (Status j) h) all (own_all (Status j) h))
              (table_next config.lease_us j (own (Status j) h) e.reading e.event served is),
          new_event (logged (landed (own (Status j) h))) e.event (λ x uses f m other.
              ids_once config (e ∷ h) h e x (cluster, steps) (inl (refl, refl)) uses f (own_member f (Status j) h (logged_member (own (Status j) h) f m)) other),
        ),
  )
  | inr s ↦ rw s.0 (next_all config j h cluster steps.0)
]

pub lands_own : (config : Config) (j : ℕ) (h : History) → Run config h → Lands LandOk (logged (landed (own (Status j) h)))
lands_own config j h run =
    lands LandOk (own (Status j) h) (orderly config.lease_us (Status j) (own (Status j) h) (serves_own config (Status j) h run.1)) (next_all config j h run.0 run.1)

-- the record over what stands in the log goes with the life over it
pub own_record : (config : Config) (j x : ℕ) (h : History) → Run config h → RecordIs (record_of x (own (Status j) h)) (life x (standing (own (Status j) h)))
own_record config j x h run =
    subst (λ (l : History). RecordIs (record_over x l) (life x l))
    (sym (standing_landed config.lease_us (Status j) (own (Status j) h) (serves_own config (Status j) h run.1) (own_all (Status j) h)))
    (record_is x (logged (landed (own (Status j) h))) (lands_own config j h run))
