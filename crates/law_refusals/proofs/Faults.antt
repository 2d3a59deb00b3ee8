-- Which entries answer a fault of the log, and after which a machine is down.
use Rattle.std.proofs.Common.{◌≡◌, ℕ, Bool, true, false, [], ◌∷◌, Option, Some, None, length, refl, sym, ◌∙◌, ap, subst, inl, inr, ◌⊎◌}
use Rattle.txn_data.specs.declared.actor.Actor.{Actor}
use Rattle.txn_data.specs.declared.actor.Actor.TheVariants.{Tablet, Status, Session, Applier}
use Rattle.txn_data.specs.declared.append.Append.{Append}
use Rattle.txn_data.specs.declared.append.Append.TheVariants.{Nothing, Took, Failed}
use Rattle.txn_data.specs.declared.config.Config.{Config}
use Rattle.txn_data.specs.declared.refusal.Refusal.TheVariants as refusal
use Rattle.txn_data.specs.declared.reply.Reply.{Reply}
use Rattle.txn_data.specs.declared.reply.Reply.TheVariants as reply
use Rattle.txn_data.specs.declared.request.Request.{Request}
use Rattle.txn_data.specs.declared.request.Request.TheVariants as request
use Rattle.txn_data.specs.declared.event.Event.{Event}
use Rattle.txn_data.specs.declared.event.Event.TheVariants.{Start, Ask, Serve, Hear, Tell, Restarted}
use Rattle.txn_data.specs.declared.entry.Entry.{Entry}
use Rattle.txn_types.specs.Lists.{or_else, or_zero}
use Rattle.txn_types.specs.History.{History, own, same_actor}
use Rattle.txn_types.specs.Clock.{down_after, down_since}
use Rattle.txn_types.specs.Run.{Allowed, Steps, Serves, machine_answer}
use Rattle.txn_types.specs.Cause.{Fails}
use Rattle.law_machines.proofs.Basics.{same_cases}
use Rattle.law_machines.proofs.Owns.{steps_at, run_until}
use Rattle.law_refusal_rows.proofs.Runs.{are_refused}
use Rattle.law_refusal_rows.proofs.Shapes.{Shape, shape_served}
use Rattle.law_refusals.specs.Faults.{AnswersFault, IsRestarted, FirstFault}
use Rattle.law_refusals.specs.Laws.{FaultsAreTold, DownAfterFault}
use Rattle.law_refusals.proofs.Tables.{served_says}
use Rattle.law_refusals.proofs.Runs.{allowed_last, are_explained}

-- ## what is answered where an append or a load failed

load_fails : (lease : ℕ) (a : Actor) (o : History) (fails : Bool) (reading : ℕ) → (machine_answer lease a o fails reading request.Restart).reply ≡ reply.Refused refusal.LogFault
load_fails lease (Tablet k) o fails reading = refl
load_fails lease (Status j) o fails reading = refl
load_fails lease (Session i) o fails reading = refl
load_fails lease (Applier k) o fails reading = refl

append_fails : (asked : Request) (r : Reply) (append : Append) → Shape asked r append → append ≡ Failed → r ≡ reply.Refused refusal.LogFault
append_fails asked r Failed shape is = shape.0
append_fails asked r Nothing shape is = cc
append_fails asked r Took shape is = cc

failed_or_load : (asked : Request) (append : Append) → Fails asked append → (append ≡ Failed) ⊎ (asked ≡ request.Restart)
failed_or_load request.Restart append fails = inr refl
failed_or_load asked append fails = inl fails

fault_told : (lease : ℕ) (a : Actor) (o : History) (reading : Option ℕ) (asked : Request) (r : Reply) (time : Option ℕ) (append : Append) → Serves lease a o reading asked r time append → Fails asked append → r ≡ reply.Refused refusal.LogFault
fault_told lease a o reading asked r time append serves fails = elim (failed_or_load asked append fails) [
  | inl failed ↦ append_fails asked r append (shape_served lease a o reading asked r time append serves) failed
  | inr load ↦ serves.replied ∙ (ap (λ (q : Request). (machine_answer lease a o serves.fails (or_zero reading) q).reply) load ∙ load_fails lease a o serves.fails (or_zero reading))
]

none_since : (d : Option ℕ) → ((since : ℕ) → d ≡ Some since → ⊥) → d ≡ None
none_since None not = refl
none_since (Some since) not = absurd (not since refl)

pub are_told : FaultsAreTold
are_told config h before a from reading time asked r append run stands =
    let e : Entry = record { actor = a; reading = reading; event = Serve from asked r time append } in
    let ok : Allowed config before a reading (Serve from asked r time append) = allowed_last config e before (steps_at config e before h run.1 stands) in
    record {
      told = fault_told config.lease_us a (own a before) reading asked r time append ok.2;
      failed = λ is. served_says config.lease_us a (own a before) reading asked r time append refusal.LogFault ok.2 is (λ wrong. cc);
      was_up = λ is live. none_since (down_since (own a before)) (λ since down.
          let answer = are_refused config h before a from reading time asked r append (refusal.Down since) run stands (live, down) in
          let wrong = sym is ∙ answer in cc);
    }

-- ## since when a machine is down

-- it is down from this entry on, or as before
down_now : (asked : Request) (append : Append) → Fails asked append ⊎ ((d : Option ℕ) (n : ℕ) (from : Actor) (r : Reply) (time : Option ℕ) → down_after d n (Serve from asked r time append) ≡ d)
down_now asked Failed = inl (fails_all asked)
  where
    fails_all : (q : Request) → Fails q Failed
    fails_all request.Restart = tt
    fails_all q = refl
down_now request.Restart append = inl tt
down_now asked append = inr (λ d n from r time. refl)

down_first : (d : Option ℕ) (n : ℕ) (from : Actor) (asked : Request) (r : Reply) (time : Option ℕ) (append : Append) → Fails asked append → down_after d n (Serve from asked r time append) ≡ or_else d (Some n)
down_first d n from asked r time Failed fails = refl
down_first d n from request.Restart r time append fails = refl
down_first d n from asked r time append fails = cc

abbrev entry_of : Actor → Option ℕ → Event → Entry
entry_of a reading event = record { actor = a; reading = reading; event = event }

own_same : (a : Actor) (e : Entry) (h : History) → same_actor e.actor a ≡ true → own a (e ∷ h) ≡ e ∷ own a h
own_same a e h same = rw same refl

own_other : (a : Actor) (e : Entry) (h : History) → same_actor e.actor a ≡ false → own a (e ∷ h) ≡ own a h
own_other a e h other = rw other refl

down_step : (e : Entry) (o : History) → down_since (e ∷ o) ≡ down_after (down_since o) (length (e ∷ o)) e.event
unfolding down_since
down_step e o = refl

none_down : (since : ℕ) → down_since [] ≡ Some since → ⊥
unfolding down_since
none_down since is = cc

-- one more entry that leaves it as it was
more : (a : Actor) (since : ℕ) (e : Entry) (h : History) → (e.actor ≡ a → IsRestarted e.event → ⊥) → FirstFault a since h → FirstFault a since (e ∷ h)
more a since e h not first = record {
  newer = e ∷ first.newer;
  fault = first.fault;
  older = first.older;
  parts = ap (λ (l : History). e ∷ l) first.parts;
  by = first.by;
  answers = first.answers;
  number = first.number;
  first = first.first;
  no_restart = λ f here by restarted. elim here [
    | inl is ↦ not (subst (λ (g : Entry). g.actor ≡ a) is by) (subst (λ (g : Entry). IsRestarted g.event) is restarted)
    | inr later ↦ first.no_restart f later by restarted
  ];
}

answers_fault : (from : Actor) (asked : Request) (r : Reply) (time : Option ℕ) (append : Append) → r ≡ reply.Refused refusal.LogFault → AnswersFault (Serve from asked r time append)
answers_fault from asked r time append is = rw is tt

-- an entry of its own: it is the first fault, or the first fault is before it
served_fault : (config : Config) (b a from : Actor) (reading : Option ℕ) (asked : Request) (r : Reply) (time : Option ℕ) (append : Append) (h : History) (since : ℕ) (d : Option ℕ) → Allowed config h b reading (Serve from asked r time append) → Fails asked append →
    b ≡ a → same_actor b a ≡ true → down_since (own a h) ≡ d → or_else d (Some (length (entry_of b reading (Serve from asked r time append) ∷ own a h))) ≡ Some since → (down_since (own a h) ≡ Some since → FirstFault a since h) → FirstFault a since (entry_of b reading (Serve from asked r time append) ∷ h)
served_fault config b a from reading asked r time append h since (Some n) ok fails who same was is before = more a since (entry_of b reading (Serve from asked r time append)) h (λ by restarted. restarted) (before (was ∙ is))
served_fault config b a from reading asked r time append h since None ok fails who same was is before = record {
  newer = [];
  fault = entry_of b reading (Serve from asked r time append);
  older = h;
  parts = refl;
  by = who;
  answers = answers_fault from asked r time append (fault_told config.lease_us b (own b h) reading asked r time append ok.2 fails);
  number = ap length (own_same a (entry_of b reading (Serve from asked r time append)) h same) ∙ some_is (length (entry_of b reading (Serve from asked r time append) ∷ own a h)) since is;
  first = was;
  no_restart = λ f here by restarted. here;
}
  where
    some_is : (m n : ℕ) → Some m ≡ Some n → m ≡ n
    some_is m n same_one = cc

own_fault : (config : Config) (b a : Actor) (reading : Option ℕ) (event : Event) (h : History) (since : ℕ) → Allowed config h b reading event → b ≡ a → same_actor b a ≡ true →
    down_after (down_since (own a h)) (length (entry_of b reading event ∷ own a h)) event ≡ Some since → (down_since (own a h) ≡ Some since → FirstFault a since h) → FirstFault a since (entry_of b reading event ∷ h)
own_fault config b a reading (Serve from asked r time append) h since ok who same is before = elim (down_now asked append) [
  | inl fails ↦
      let e = entry_of b reading (Serve from asked r time append) in
      served_fault config b a from reading asked r time append h since (down_since (own a h)) ok fails who same refl
      (sym (down_first (down_since (own a h)) (length (e ∷ own a h)) from asked r time append fails) ∙ is) before
  | inr stays ↦
      let e = entry_of b reading (Serve from asked r time append) in
      more a since e h (λ by restarted. restarted) (before (sym (stays (down_since (own a h)) (length (e ∷ own a h)) from r time) ∙ is))
]
own_fault config b a reading (Restarted from kept) h since ok who same is before = cc
own_fault config b a reading (Start number line) h since ok who same is before = more a since (entry_of b reading (Start number line)) h (λ by restarted. restarted) (before is)
own_fault config b a reading (Ask to asked) h since ok who same is before = more a since (entry_of b reading (Ask to asked)) h (λ by restarted. restarted) (before is)
own_fault config b a reading (Hear from r) h since ok who same is before = more a since (entry_of b reading (Hear from r)) h (λ by restarted. restarted) (before is)
own_fault config b a reading (Tell number t) h since ok who same is before = more a since (entry_of b reading (Tell number t)) h (λ by restarted. restarted) (before is)

first_fault : (config : Config) (a : Actor) (h : History) (since : ℕ) → Steps config h → down_since (own a h) ≡ Some since → FirstFault a since h
unfolding Steps
first_fault config a [] since steps is = absurd (none_down since is)
first_fault config a (e ∷ h) since steps is = elim (same_cases e.actor a) [
  | inl same ↦
      let down : down_after (down_since (own a h)) (length (e ∷ own a h)) e.event ≡ Some since = sym (down_step e (own a h)) ∙ (ap down_since (sym (own_same a e h same.0)) ∙ is) in
      own_fault config e.actor a e.reading e.event h since steps.1 same.1 same.0 down (first_fault config a h since steps.0)
  | inr other ↦ more a since e h (λ by restarted. other.1 by) (first_fault config a h since steps.0 (ap down_since (sym (own_other a e h other.0)) ∙ is))
]

pub down_after_fault : DownAfterFault
down_after_fault config h before a from reading time asked since append run stands =
    let e : Entry = record { actor = a; reading = reading; event = Serve from asked (reply.Refused (refusal.Down since)) time append } in
    let says = are_explained config h before a from reading time asked (refusal.Down since) append run stands in
    first_fault config a before since (run_until config h before e run stands).1 says.1
