-- Where a question at a time is answered and not refused, it took a time, and its append did not fail.
use Rattle.std.proofs.Common.{◌≡◌, ℕ, Bool, true, false, List, Option, Some, None, Result, Ok, Err, refl, ◌∙◌, subst, inl, inr, ◌⊎◌, if◌then◌else◌}
use Rattle.hybrid_time.specs.declared.time_refusal.TimeRefusal.{TimeRefusal}
use Rattle.doc_path.specs.Path.{Parts}
use Rattle.txn_data.specs.declared.actor.Actor.{Actor}
use Rattle.txn_data.specs.declared.actor.Actor.TheVariants.{Tablet, Status, Session, Applier}
use Rattle.txn_data.specs.declared.append.Append.{Append}
use Rattle.txn_data.specs.declared.append.Append.TheVariants.{Nothing, Took}
use Rattle.txn_data.specs.declared.request.Request.TheVariants as request
use Rattle.txn_data.specs.declared.reply.Reply.{Reply}
use Rattle.txn_data.specs.declared.reply.Reply.TheVariants as reply
use Rattle.txn_data.specs.declared.refusal.Refusal.TheVariants as refusal
use Rattle.txn_types.specs.Lists.{or_zero}
use Rattle.txn_types.specs.History.{History}
use Rattle.txn_types.specs.Clock.{Answer, refusal_answer, logged, timed, timed_answer, holds, clock_time, Kind, Floor, lease_due, lease_end, last_time, has_given, down_since}
use Rattle.txn_types.specs.Tablet.{tablet_standing, provisional, listed, local_limit}
use Rattle.txn_types.specs.Status.{status_standing, record_of, fate_told}
use Rattle.txn_types.specs.Run.{Serves, machine_answer}

abbrev pub NotRefused : Reply → Type 0
NotRefused (reply.Refused why) = ⊥
NotRefused r = Unit {0}

-- it took a time, answers by it, and its append did not fail
pub record IsAnswered (answer : Answer) (r : ℕ → Reply) : Type 0 where
  pub now : ℕ
  pub time : answer.time ≡ Some now
  pub reply : answer.reply ≡ r now
  pub append : (answer.append ≡ Nothing) ⊎ (answer.append ≡ Took)

answered_logged : (fails due : Bool) (now : ℕ) (r : ℕ → Reply) → NotRefused (logged fails due (Some now) (r now)).reply → IsAnswered (logged fails due (Some now) (r now)) r
answered_logged fails false now r ok = record { now = now; time = refl; reply = refl; append = inl refl }
answered_logged false true now r ok = record { now = now; time = refl; reply = refl; append = inr refl }
answered_logged true true now r ok = absurd ok

answered_given : (lease : ℕ) (end : Option ℕ) (fails : Bool) (time : Result ℕ TimeRefusal) (r : ℕ → Reply) → NotRefused (timed_answer lease end fails false time r).reply →
    IsAnswered (timed_answer lease end fails false time r) r
answered_given lease end fails (Err e) r ok = absurd ok
answered_given lease end fails (Ok now) r ok = answered_logged fails (lease_due end now) now r ok

answered_chosen : (b : Bool) (at lease : ℕ) (end : Option ℕ) (fails : Bool) (time : Result ℕ TimeRefusal) (r : ℕ → Reply) →
    NotRefused (if b then refusal_answer (refusal.LeaseHeld at) else timed_answer lease end fails false time r).reply →
    IsAnswered (if b then refusal_answer (refusal.LeaseHeld at) else timed_answer lease end fails false time r) r
answered_chosen true at lease end fails time r ok = absurd ok
answered_chosen false at lease end fails time r ok = answered_given lease end fails time r ok

pub answered_timed : (lease : ℕ) (o : History) (fails : Bool) (kind : Kind) (floor reading : ℕ) (r : ℕ → Reply) →
    NotRefused (timed lease o fails kind floor reading false r).reply → IsAnswered (timed lease o fails kind floor reading false r) r
answered_timed lease o fails kind floor reading r ok =
    answered_chosen (holds (lease_end lease o) (has_given o) reading) (or_zero (lease_end lease o)) lease (lease_end lease o) fails
    (clock_time kind (last_time o) floor reading) r ok

-- what an entry of such a question says
pub record WasAnswered (r : Reply) (at : Option ℕ) (logs : Append) (answers : ℕ → Reply) : Type 0 where
  pub now : ℕ
  pub time : at ≡ Some now
  pub reply : r ≡ answers now
  pub append : (logs ≡ Nothing) ⊎ (logs ≡ Took)

answered_standing : (d : Option ℕ) (up : Answer) (answers : ℕ → Reply) → (NotRefused up.reply → IsAnswered up answers) → NotRefused (status_standing d up).reply → IsAnswered (status_standing d up) answers
answered_standing (Some n) up answers next_is ok = absurd ok
answered_standing None up answers next_is ok = next_is ok

answered_tablet_standing : (d : Option ℕ) (up : Answer) (answers : ℕ → Reply) → (NotRefused up.reply → IsAnswered up answers) → NotRefused (tablet_standing d up).reply → IsAnswered (tablet_standing d up) answers
answered_tablet_standing (Some n) up answers next_is ok = absurd ok
answered_tablet_standing None up answers next_is ok = next_is ok

never_standing : {P : Type 0} (d : Option ℕ) (up : Answer) → (NotRefused up.reply → P) → NotRefused (tablet_standing d up).reply → P
never_standing (Some n) up next_is ok = absurd ok
never_standing None up next_is ok = next_is ok

never_status_standing : {P : Type 0} (d : Option ℕ) (up : Answer) → (NotRefused up.reply → P) → NotRefused (status_standing d up).reply → P
never_status_standing (Some n) up next_is ok = absurd ok
never_status_standing None up next_is ok = next_is ok

abbrev pub told_fate : ℕ → History → ℕ → Reply
told_fate x o now = reply.FateIs (fate_told (record_of x o))

ask_answer : (lease : ℕ) (a : Actor) (o : History) (fails : Bool) (reading x t : ℕ) → NotRefused (machine_answer lease a o fails reading (request.AskFate x t)).reply →
    IsAnswered (machine_answer lease a o fails reading (request.AskFate x t)) (told_fate x o)
ask_answer lease (Tablet k) o fails reading x t ok = never_standing (down_since o) (refusal_answer refusal.Memory) (λ never. absurd never) ok
ask_answer lease (Status j) o fails reading x t ok = answered_standing (down_since o) _ (told_fate x o) (answered_timed lease o fails Floor t reading (told_fate x o)) ok
ask_answer lease (Session i) o fails reading x t ok = answered_standing (down_since o) _ (told_fate x o) (answered_timed lease o fails Floor t reading (told_fate x o)) ok
ask_answer lease (Applier k) o fails reading x t ok = answered_standing (down_since o) _ (told_fate x o) (answered_timed lease o fails Floor t reading (told_fate x o)) ok

append_is : (b c : Append) → b ≡ c → (c ≡ Nothing) ⊎ (c ≡ Took) → (b ≡ Nothing) ⊎ (b ≡ Took)
append_is b c same is = elim is [ inl n ↦ inl (same ∙ n) | inr t ↦ inr (same ∙ t) ]

-- a question for a fate
pub ask_answered : (lease : ℕ) (a : Actor) (o : History) (reading : Option ℕ) (x t : ℕ) (r : Reply) (time : Option ℕ) (append : Append) →
    Serves lease a o reading (request.AskFate x t) r time append → NotRefused r → WasAnswered r time append (told_fate x o)
ask_answered lease a o reading x t r time append served ok =
    let answer : Answer = machine_answer lease a o served.fails (or_zero reading) (request.AskFate x t) in
    let is = ask_answer lease a o served.fails (or_zero reading) x t (subst (λ (q : Reply). NotRefused q) served.replied ok) in
    record {
      now = is.now;
      time = served.took ∙ is.time;
      reply = served.replied ∙ is.reply;
      append = append_is append answer.append served.logged is.append;
    }

abbrev pub told_list : Option ℕ → List Parts → ℕ → ℕ → Option ℕ → History → ℕ → Reply
told_list own_txn paths t g limit o now = listed own_txn paths t (local_limit limit now g) (provisional o)

list_answer : (lease : ℕ) (a : Actor) (o : History) (fails : Bool) (reading : ℕ) (own_txn : Option ℕ) (paths : List Parts) (t g : ℕ) (limit : Option ℕ) →
    NotRefused (machine_answer lease a o fails reading (request.ListRead own_txn paths t g limit)).reply →
    IsAnswered (machine_answer lease a o fails reading (request.ListRead own_txn paths t g limit)) (told_list own_txn paths t g limit o)
list_answer lease (Tablet k) o fails reading own_txn paths t g limit ok =
    answered_tablet_standing (down_since o) _ (told_list own_txn paths t g limit o) (answered_timed lease o fails Floor t reading (told_list own_txn paths t g limit o)) ok
list_answer lease (Status j) o fails reading own_txn paths t g limit ok = never_status_standing (down_since o) (refusal_answer refusal.Memory) (λ never. absurd never) ok
list_answer lease (Session i) o fails reading own_txn paths t g limit ok = never_status_standing (down_since o) (refusal_answer refusal.Memory) (λ never. absurd never) ok
list_answer lease (Applier k) o fails reading own_txn paths t g limit ok = never_status_standing (down_since o) (refusal_answer refusal.Memory) (λ never. absurd never) ok

-- a listing read
pub list_answered : (lease : ℕ) (a : Actor) (o : History) (reading : Option ℕ) (own_txn : Option ℕ) (paths : List Parts) (t g : ℕ) (limit : Option ℕ) (r : Reply) (time : Option ℕ) (append : Append) →
    Serves lease a o reading (request.ListRead own_txn paths t g limit) r time append → NotRefused r → WasAnswered r time append (told_list own_txn paths t g limit o)
list_answered lease a o reading own_txn paths t g limit r time append served ok =
    let answer : Answer = machine_answer lease a o served.fails (or_zero reading) (request.ListRead own_txn paths t g limit) in
    let is = list_answer lease a o served.fails (or_zero reading) own_txn paths t g limit (subst (λ (q : Reply). NotRefused q) served.replied ok) in
    record {
      now = is.now;
      time = served.took ∙ is.time;
      reply = served.replied ∙ is.reply;
      append = append_is append answer.append served.logged is.append;
    }
