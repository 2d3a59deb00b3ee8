-- What the table says where the table decides.
use Rattle.std.proofs.Common.{◌≡◌, ℕ, Bool, true, false, cond, ◌||◌, nat_eq, List, [], ◌∷◌, Option, Some, None, Ok, refl, sym, ap, ◌∙◌}
use Rattle.std.specs.Prelude.{is_some, option_map}
use Rattle.txn_data.specs.declared.fate.Fate.{Fate}
use Rattle.txn_data.specs.declared.request.Request.TheVariants as request
use Rattle.txn_data.specs.declared.reply.Reply.{Reply}
use Rattle.txn_data.specs.declared.reply.Reply.TheVariants as reply
use Rattle.txn_types.specs.History.{History}
use Rattle.txn_types.specs.Clock.{logged, timed, Own, Floor, down_since}
use Rattle.txn_types.specs.Status.{Record, NoRecord, Pending, Committed, AbortedBy, record_of, noted, is_sure, fate_told, may_forget, commit_answer, status_standing}
use Rattle.safe_time.specs.declared.step.Step.{Step}
use Rattle.safe_time.specs.ActorClock.{ClockState, kind_of, served, clock_of, answer_over}
use Rattle.log_record.specs.declared.log_record.LogRecord.TheVariants as log_record
use Rattle.status_tablet.specs.declared.txn_record.TxnRecord.{TxnRecord}
use Rattle.status_tablet.specs.declared.txn_record.TxnRecord.TheVariants as kept
use Rattle.status_tablet.specs.declared.mark.Mark.TheVariants as mark
use Rattle.status_tablet.specs.Keeps.{kept_at, names_none, kept_of, fate_kept, forgets, told, without}
use Rattle.status_tablet.specs.Stands.{StatusState, Stands}
use Rattle.status_tablet.specs.Decisions.{Says, IsPending}
use Rattle.status_tablet.proofs.Table.{fate_same, waiting_all, waiting_more, forgets_same}

up_of : (s : StatusState) (bytes : List ℕ) (faults : ℕ) (h : History) → Stands s bytes faults h → s.log.down ≡ None → down_since h ≡ None
up_of s bytes faults h st down = sym st.log.down ∙ down

kept_is : (s : StatusState) (bytes : List ℕ) (faults : ℕ) (h : History) → Stands s bytes faults h → s.log.down ≡ None → (x : ℕ)
    → kept_at s.records x ≡ kept_of (record_of x h) (noted x h) (is_sure x h)
kept_is s bytes faults h st down x = st.records (up_of s bytes faults h st down) x

-- ---- Applied

forgotten_at : (b : Bool) (r : Record) (ns : List ℕ) (sure : Bool) (tablet : ℕ)
    → cond b (option_map (without tablet) (cond b None (kept_of r ns sure))) (cond b None (kept_of r ns sure)) ≡ kept_of (cond b NoRecord r) (cond b (tablet ∷ ns) ns) sure
forgotten_at true r ns sure tablet = refl
forgotten_at false r ns sure tablet = refl

noted_in : (r : Record) (ns : List ℕ) (sure : Bool) (tablet : ℕ) → option_map (without tablet) (kept_of r ns sure) ≡ kept_of r (tablet ∷ ns) sure
noted_in NoRecord ns sure tablet = refl
noted_in (Pending priority) ns sure tablet = refl
noted_in (Committed c tablets) ns sure tablet =
    ap (λ (ks : List ℕ). Some (kept.Committed (record { at = c; waits = ks; stays = names_none tablets; sure = sure }))) (waiting_more tablets ns tablet)
noted_in (AbortedBy by) ns sure tablet = refl

noted_at : (b : Bool) (r : Record) (ns : List ℕ) (sure : Bool) (tablet : ℕ)
    → cond b (option_map (without tablet) (kept_of r ns sure)) (kept_of r ns sure) ≡ kept_of r (cond b (tablet ∷ ns) ns) sure
noted_at true r ns sure tablet = noted_in r ns sure tablet
noted_at false r ns sure tablet = refl

may_is : (s : StatusState) (bytes : List ℕ) (faults : ℕ) (h : History) → Stands s bytes faults h → s.log.down ≡ None → (x tablet : ℕ)
    → may_forget (is_sure x h) (tablet ∷ noted x h) (record_of x h) ≡ forgets (kept_at s.records x) tablet
may_is s bytes faults h st down x tablet =
    sym (forgets_same (record_of x h) (noted x h) (is_sure x h) tablet) ∙ ap (λ (k : Option TxnRecord). forgets k tablet) (sym (kept_is s bytes faults h st down x))

applied_answer : (s : StatusState) (bytes : List ℕ) (faults : ℕ) (h : History) → Stands s bytes faults h → s.log.down ≡ None → (x tablet : ℕ) (fails b : Bool) → forgets (kept_at s.records x) tablet ≡ b
    → status_standing (down_since h) (logged fails (may_forget (is_sure x h) (tablet ∷ noted x h) (record_of x h)) None reply.Noted) ≡ logged fails b None reply.Noted
applied_answer s bytes faults h st down x tablet fails b is =
    ap (λ (d : Option ℕ). status_standing d (logged fails (may_forget (is_sure x h) (tablet ∷ noted x h) (record_of x h)) None reply.Noted)) (up_of s bytes faults h st down)
    ∙ ap (λ (q : Bool). logged fails q None reply.Noted) (may_is s bytes faults h st down x tablet ∙ is)

pub forgets_says : (s : StatusState) (x tablet : ℕ) → forgets (kept_at s.records x) tablet ≡ true → s.log.down ≡ None
    → Says s None (request.Applied x tablet) (record { decision = record { reply = reply.Noted; step = None; own = Some (log_record.Forget x) }; mark = mark.Applied x tablet })
forgets_says s x tablet is down = record {
  told = tt;
  decides = λ bytes faults h st. record {
    plain = tt;
    told = tt;
    fits = refl;
    says = λ fails. applied_answer s bytes faults h st down x tablet fails true is;
    step = tt;
    own = λ e. refl;
  };
  changes = λ from z r ns sure. forgotten_at (nat_eq x z) r ns sure tablet;
}

pub notes_says : (s : StatusState) (x tablet : ℕ) → forgets (kept_at s.records x) tablet ≡ false → s.log.down ≡ None
    → Says s None (request.Applied x tablet) (record { decision = record { reply = reply.Noted; step = None; own = None }; mark = mark.Applied x tablet })
notes_says s x tablet is down = record {
  told = tt;
  decides = λ bytes faults h st. record {
    plain = tt;
    told = tt;
    fits = refl;
    says = λ fails. applied_answer s bytes faults h st down x tablet fails false is;
    step = tt;
    own = λ e. cc;
  };
  changes = λ from z r ns sure. noted_at (nat_eq x z) r ns sure tablet;
}

-- ---- times

-- what the law on the clock of the tables says
abbrev pub Timed : Type 0
Timed = (lease : ℕ) (h : History) (fails : Bool) (tick : Bool) (floor reading : ℕ) (records : Bool) (r : ℕ → Reply)
    → timed lease h fails (kind_of tick) floor reading records r ≡ answer_over fails records r (served (clock_of lease h) reading floor tick)

served_is : (s : StatusState) (bytes : List ℕ) (faults : ℕ) (h : History) → Stands s bytes faults h → s.log.down ≡ None → (reading floor : ℕ) (tick : Bool) (step : Step)
    → served s.log.clock reading floor tick ≡ Ok step → served (clock_of s.log.clock.lease h) reading floor tick ≡ Ok step
served_is s bytes faults h st down reading floor tick step is =
    ap (λ (c : ClockState). served c reading floor tick) (sym (st.log.clock (up_of s bytes faults h st down))) ∙ is

timed_is : Timed → (s : StatusState) (bytes : List ℕ) (faults : ℕ) (h : History) → Stands s bytes faults h → s.log.down ≡ None → (fails tick : Bool) (floor reading : ℕ) (records : Bool) (r : ℕ → Reply) (step : Step)
    → served s.log.clock reading floor tick ≡ Ok step
    → timed s.log.clock.lease h fails (kind_of tick) floor reading records r ≡ logged fails (records || is_some step.lease) (Some step.time) (r step.time)
timed_is law s bytes faults h st down fails tick floor reading records r step is =
    law s.log.clock.lease h fails tick floor reading records r
    ∙ ap (answer_over fails records r) (served_is s bytes faults h st down reading floor tick step is)

pub ask_says : Timed → (s : StatusState) (x t reading : ℕ) (step : Step) (fate : Fate) → served s.log.clock reading t false ≡ Ok step → fate ≡ fate_kept (kept_at s.records x) → s.log.down ≡ None
    → Says s (Some reading) (request.AskFate x t) (record { decision = record { reply = reply.FateIs fate; step = Some step; own = None }; mark = mark.Nothing })
ask_says law s x t reading step fate is fate_is down = record {
  told = tt;
  decides = λ bytes faults h st.
      let same : fate_told (record_of x h) ≡ fate =
      sym (fate_same (record_of x h) (noted x h) (is_sure x h)) ∙ ap fate_kept (sym (kept_is s bytes faults h st down x)) ∙ sym fate_is in
      record {
        plain = tt;
        told = tt;
        fits = tt;
        says = λ fails.
            ap (λ (d : Option ℕ). status_standing d (timed s.log.clock.lease h fails Floor t reading false (λ now. reply.FateIs (fate_told (record_of x h))))) (up_of s bytes faults h st down)
            ∙ timed_is law s bytes faults h st down fails false t reading false (λ now. reply.FateIs (fate_told (record_of x h))) step is
            ∙ ap (λ (f : Fate). logged fails (is_some step.lease) (Some step.time) (reply.FateIs f)) same;
        step = (reading, t, false, served_is s bytes faults h st down reading t false step is);
        own = λ e. refl;
      };
  changes = λ from z r ns sure. refl;
}

pending_in : (r : Record) (ns : List ℕ) (sure : Bool) (p : ℕ) → kept_of r ns sure ≡ Some (kept.Pending p) → r ≡ Pending p
pending_in NoRecord ns sure p e = cc
pending_in (Pending q) ns sure p e = cc
pending_in (Committed c tablets) ns sure p e = cc
pending_in (AbortedBy by) ns sure p e = cc

committed_at : (b : Bool) (r : Record) (ns : List ℕ) (sure : Bool) (c : ℕ) (tablets : List ℕ)
    → cond b (option_map told (cond b (Some (kept.Committed (record { at = c; waits = tablets; stays = names_none tablets; sure = false }))) (kept_of r ns sure)))
    (cond b (Some (kept.Committed (record { at = c; waits = tablets; stays = names_none tablets; sure = false }))) (kept_of r ns sure))
    ≡ kept_of (cond b (Committed c tablets) r) (cond b [] ns) (b || sure)
committed_at true r ns sure c tablets =
    ap (λ (ks : List ℕ). Some (kept.Committed (record { at = c; waits = ks; stays = names_none tablets; sure = true }))) (sym (waiting_all tablets))
committed_at false r ns sure c tablets = refl

pub commit_says : Timed → (s : StatusState) (x floor reading : ℕ) (tablets : List ℕ) (step : Step) → served s.log.clock reading floor true ≡ Ok step → IsPending s x → s.log.down ≡ None
    → Says s (Some reading) (request.Commit x floor tablets)
    (record { decision = record { reply = reply.Committed step.time; step = Some step; own = Some (log_record.Commit x step.time tablets) }; mark = mark.Told x })
commit_says law s x floor reading tablets step is (p, pending) down = record {
  told = tt;
  decides = λ bytes faults h st.
      let was : record_of x h ≡ Pending p = pending_in (record_of x h) (noted x h) (is_sure x h) p (sym (kept_is s bytes faults h st down x) ∙ pending) in
      record {
        plain = tt;
        told = tt;
        fits = tt;
        says = λ fails.
            ap (λ (d : Option ℕ). status_standing d (commit_answer (record_of x h) (timed s.log.clock.lease h fails Own floor reading true (λ c. reply.Committed c)))) (up_of s bytes faults h st down)
            ∙ ap (λ (r : Record). commit_answer r (timed s.log.clock.lease h fails Own floor reading true (λ c. reply.Committed c))) was
            ∙ timed_is law s bytes faults h st down fails true floor reading true (λ c. reply.Committed c) step is;
        step = (reading, floor, true, served_is s bytes faults h st down reading floor true step is);
        own = λ e. refl;
      };
  changes = λ from z r ns sure. committed_at (nat_eq x z) r ns sure step.time tablets;
}
