-- A log of which nothing changed but the store's room and counts.
use Rattle.std.proofs.Common.{ℕ, List, ap, ◌∙◌, inl, inr, arith}
use Rattle.txn_data.specs.declared.actor.Actor.{Actor}
use Rattle.txn_types.specs.History.{History}
use Rattle.safe_time.specs.ActorClock.{ClockState}
use Rattle.leased_log.specs.Stands.{LogState, Stands, IsSame}
use Rattle.leased_log.proofs.Parts.{stood}

pub same_stands : (old new : LogState) → IsSame old new → (a : Actor) (bytes : List ℕ) (faults : ℕ) (h : History) → Stands a old bytes faults h → Stands a new bytes faults h
same_stands old new same a bytes faults h st = stood old.clock.lease a new bytes faults h (ap (λ (c : ClockState). c.lease) same.clock) (record {
  opened = st.opened;
  own = st.own;
  allowed = st.allowed;
  actions = same.actions ∙ st.actions;
  down = same.down ∙ st.down;
  clock = λ up. same.clock ∙ st.clock up;
  logged = record {
    faults = let before = st.logged.faults in let more = same.faults in omega arith;
    held = elim st.logged.held [ inl is ↦ inl (same.held ∙ is) | inr is ↦ inr (same.held ∙ is) ];
  };
  records = same.records ∙ st.records;
  few = st.few;
  spelled = st.spelled;
  some = st.some;
})
