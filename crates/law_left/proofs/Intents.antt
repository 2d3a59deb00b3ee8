-- The provisional writes at a tablet since a front part of the history: those that passes left of them.
use Rattle.std.proofs.Common.{◌≡◌, ℕ, Bool, false, not, List, [], ◌∷◌, Option, filter, refl, sym, ◌∙◌, ap, subst, inl, inr}
use Rattle.txn_data.specs.declared.actor.Actor.{Actor}
use Rattle.txn_data.specs.declared.actor.Actor.TheVariants.{Tablet}
use Rattle.txn_data.specs.declared.config.Config.{Config}
use Rattle.txn_data.specs.declared.request.Request.TheVariants as request
use Rattle.txn_data.specs.declared.event.Event.{Event}
use Rattle.txn_data.specs.declared.event.Event.TheVariants.{Serve}
use Rattle.txn_types.specs.Lists.{Member}
use Rattle.txn_types.specs.History.{History, own}
use Rattle.txn_types.specs.Tablet.{Intent, is_of, txn_of, provisional, provisional_over, provisional_after}
use Rattle.txn_types.specs.Run.{Run}
use Rattle.law_machines.specs.Own.{landed, StandsOver}
use Rattle.law_machines.proofs.Basics.{test_cases, eq_cases, filter_member}
use Rattle.law_machines.proofs.Counted.{own_all}
use Rattle.law_machines.proofs.Owns.{serves_own}
use Rattle.law_machines.proofs.Landed.{logged, standing_landed}
use Rattle.law_machines.proofs.Since.{IsLanding}
use Rattle.law_courses.specs.Course.{IsPart}
use Rattle.law_courses.proofs.Parts.{part_trans}
use Rattle.txn_promises.specs.Left.{RestSince}
use Rattle.law_left.proofs.Rests.{PassEvent, pass_only}
use Rattle.law_left.proofs.Since.{since_front}
use Rattle.law_left.proofs.Fates.{is_open_at, applied_shut, cleaned_shut}

abbrev pub left_over : ℕ → History → List Intent
left_over k b = provisional (own (Tablet k) b)

over_log : (config : Config) (k : ℕ) (b : History) → Run config b → left_over k b ≡ provisional_over (logged (landed (own (Tablet k) b)))
over_log config k b run = ap (λ (l : History). provisional_over l) (standing_landed config.lease_us (Tablet k) (own (Tablet k) b) (serves_own config (Tablet k) b run.1) (own_all (Tablet k) b))

-- ## nothing is added

abbrev PartOf : List Intent → List Intent → Type 0
PartOf all ps = (p : Intent) → Member p ps → Member p all

part_event : (all ps : List Intent) (event : Event) → PassEvent event → PartOf all ps → PartOf all (provisional_after ps event)
part_event all ps (Serve from (request.Write meta number path op read seen fates) r time append) pass part = absurd pass
part_event all ps (Serve from (request.Apply y at) r time append) pass part = λ p m. part p (filter_member _ p ps m).0
part_event all ps (Serve from (request.Clean y) r time append) pass part = λ p m. part p (filter_member _ p ps m).0
part_event all ps event pass part = part

part_lands : (all : List Intent) → IsLanding (λ (l : History). PartOf all (provisional_over l)) PassEvent
unfolding provisional_over
part_lands all l e pass part = part_event all (provisional_over l) e.event pass part

pub nothing_added : (config : Config) (h low b : History) (k : ℕ) → Run config h → Run config b → RestSince config low h → IsPart low b → IsPart b h → (p : Intent) → Member p (left_over k h) → Member p (left_over k b)
nothing_added config h low b k run until rest one two =
    subst (λ (ps : List Intent). PartOf (left_over k b) ps) (sym (over_log config k h run))
    (since_front (λ (l : History). PartOf (left_over k b) (provisional_over l)) PassEvent (part_lands (left_over k b)) (λ from kept never. never) (Tablet k) b h two
    (λ e c stands at. pass_only config h low e c run rest stands (part_trans low b c one at))
    (subst (λ (ps : List Intent). PartOf (left_over k b) ps) (over_log config k b until) (λ p m. m)))

-- ## nothing is taken from what is open in the end

-- the entry applies or cleans nothing that passes the test
abbrev ShutBy : (ℕ → Bool) → Event → Type 0
ShutBy test (Serve from (request.Apply x at) r time append) = test x ≡ false
ShutBy test (Serve from (request.Clean x) r time append) = test x ≡ false
ShutBy test event = Unit {0}

abbrev IsNext : (ℕ → Bool) → Event → Type 0
IsNext test event = PassEvent event × ShutBy test event

abbrev pub passing : (ℕ → Bool) → List Intent → List Intent
passing test ps = filter (λ (p : Intent). test (txn_of p)) ps

-- what does not pass may be left out first
leave_out : (test : ℕ → Bool) (x : ℕ) (ps : List Intent) → test x ≡ false → passing test (filter (λ (p : Intent). not (is_of x p)) ps) ≡ passing test ps
leave_out test x [] shut = refl
leave_out test x (p ∷ ps) shut = elim (eq_cases p.meta.txn x) [
  | inl same ↦
      let fails : test p.meta.txn ≡ false = subst (λ (y : ℕ). test y ≡ false) (sym same.1) shut in
      rw same.0 (rw fails (leave_out test x ps shut))
  | inr other ↦ rw other.0 (elim (test_cases (test p.meta.txn)) [
    | inl holds ↦ rw holds (ap (λ (l : List Intent). p ∷ l) (leave_out test x ps shut))
    | inr fails ↦ rw fails (leave_out test x ps shut)
  ])
]

kept_event : (test : ℕ → Bool) (all ps : List Intent) (event : Event) → IsNext test event → passing test ps ≡ all → passing test (provisional_after ps event) ≡ all
kept_event test all ps (Serve from (request.Write meta number path op read seen fates) r time append) next is = absurd next.0
kept_event test all ps (Serve from (request.Apply y at) r time append) next is = leave_out test y ps next.1 ∙ is
kept_event test all ps (Serve from (request.Clean y) r time append) next is = leave_out test y ps next.1 ∙ is
kept_event test all ps event next is = is

kept_lands : (test : ℕ → Bool) (all : List Intent) → IsLanding (λ (l : History). passing test (provisional_over l) ≡ all) (IsNext test)
unfolding provisional_over
kept_lands test all l e next is = kept_event test all (provisional_over l) e.event next is

shut_event : (config : Config) (h b : History) (a : Actor) (reading : Option ℕ) (event : Event) → Run config h → StandsOver (record { actor = a; reading = reading; event = event }) b h → ShutBy (is_open_at config h) event
shut_event config h b a reading (Serve from (request.Apply x at) r time append) run stands = applied_shut config h b _ x at run stands (refl, refl)
shut_event config h b a reading (Serve from (request.Clean x) r time append) run stands = cleaned_shut config h b _ x run stands refl
shut_event config h b a reading event run stands = tt

pub open_stays : (config : Config) (h low b : History) (k : ℕ) → Run config h → Run config b → RestSince config low h → IsPart low b → IsPart b h →
    passing (is_open_at config h) (left_over k h) ≡ passing (is_open_at config h) (left_over k b)
open_stays config h low b k run until rest one two =
    let test = is_open_at config h in
    let all = passing test (left_over k b) in
    subst (λ (ps : List Intent). passing test ps ≡ all) (sym (over_log config k h run))
    (since_front (λ (l : History). passing test (provisional_over l) ≡ all) (IsNext test) (kept_lands test all) (λ from kept never. never.0) (Tablet k) b h two
    (λ e c stands at. (pass_only config h low e c run rest stands (part_trans low b c one at), shut_event config h c e.actor e.reading e.event run stands))
    (ap (λ (ps : List Intent). passing test ps) (sym (over_log config k b until))))
