-- The commands of the sessions, taken in line order, are put together to the same sessions.
use Rattle.std.proofs.Common.{◌≡◌, ℕ, zero, suc, ◌+◌, ◌<◌, ◌≤◌, ◌⊎◌, true, false, List, [], ◌∷◌, ◌++◌, length, take, drop, All, nat_eq, inl, inr, refl, sym, ap, subst, ◌∙◌, arith}
use Rattle.std.proofs.lemmas.Bool.{cases_eq, cases_lt, eq-eqb, le-ltb, lt-ltb, ne_eqb}
use Rattle.std.proofs.lemmas.List.{take_all}
use Rattle.std.proofs.lemmas.List.Elements.{All-head, All-tail}
use Rattle.txn_data.specs.declared.command.Command.{Command}
use Rattle.txn_data.specs.declared.config.Config.{Config}
use Rattle.txn_data.specs.declared.session_plan.SessionPlan.{SessionPlan}
use Rattle.txn_types.specs.Plan.{AreRising}
use Rattle.txn_types.specs.Script.{commands_of, count}
use Rattle.script_text.specs.Saying.{IsSpeaker}
use Rattle.script_text.specs.Script.{with_told}
use Rattle.script_text.specs.Written.{left}
use Rattle.script_text.proofs.Heard.{RiseAbove, count_push, none_above}

-- the sessions rise from one on
rise_above : (config : Config) (n : ℕ) (plans : List SessionPlan) → AreRising plans → ((p : SessionPlan) (ps : List SessionPlan) → plans ≡ p ∷ ps → n < p.session) → RiseAbove n plans
unfolding AreRising
rise_above config n [] rising first = tt
rise_above config n (p ∷ []) rising first = (first p [] refl, tt)
rise_above config n (p ∷ q ∷ plans) rising first =
    (first p (q ∷ plans) refl, rise_above config p.session (q ∷ plans) rising.1 (λ r rs e. rw (sym (head_is q r plans rs e)) rising.0))
  where
    head_is : (a b : SessionPlan) (xs ys : List SessionPlan) → a ∷ xs ≡ b ∷ ys → a ≡ b
    head_is a b xs ys e = cc

pub rise : (config : Config) (plans : List SessionPlan) → AreRising plans → All (IsSpeaker config) plans → RiseAbove 0 plans
rise config plans rising all = rise_above config 0 plans rising (λ p ps e. (All-head (IsSpeaker config) p ps (subst (λ (qs : List SessionPlan). All (IsSpeaker config) qs) e all)).0.0)

-- ---- the sessions so far

abbrev some_of : ℕ → List Command → List SessionPlan
some_of session [] = []
some_of session (told ∷ more) = record { session = session; commands = told ∷ more } ∷ []

-- the commands of the lines so far, by session
abbrev pub so_far : List ℕ → List SessionPlan → List SessionPlan
so_far done [] = []
so_far done (p ∷ plans) = some_of p.session (take (count p.session done) p.commands) ++ so_far done plans

pub none_so_far : (plans : List SessionPlan) → so_far [] plans ≡ []
unfolding count
none_so_far [] = refl
none_so_far (p ∷ plans) = none_so_far plans

pub count_other : (i s : ℕ) (done : List ℕ) → (i ≡ s → ⊥) → count i (done ++ s ∷ []) ≡ count i done
count_other i s done other = count_push i done s ∙ (let apart : nat_eq i s ≡ false = ne_eqb i s other in rw apart (omega arith))

pub count_own : (s : ℕ) (done : List ℕ) → count s (done ++ s ∷ []) ≡ count s done + 1
count_own s done = count_push s done s ∙ (let same : nat_eq s s ≡ true = eq-eqb s s refl in rw same refl)

rise_more : (m n : ℕ) (plans : List SessionPlan) → m < n → RiseAbove n plans → RiseAbove m plans
rise_more m n [] lt r = tt
rise_more m n (p ∷ plans) lt r = (omega (arith, r.0), r.1)

-- greater sessions have no more than before
so_far_above : (s : ℕ) (done : List ℕ) (plans : List SessionPlan) → RiseAbove s plans → so_far (done ++ s ∷ []) plans ≡ so_far done plans
so_far_above s done [] r = refl
so_far_above s done (p ∷ plans) r = go p.session r.0 r.1 (so_far_above s done plans (rise_more s p.session plans r.0 r.1))
  where
    go : (i : ℕ) → s < i → RiseAbove i plans → so_far (done ++ s ∷ []) plans ≡ so_far done plans
        → some_of p.session (take (count i (done ++ s ∷ [])) p.commands) ++ so_far (done ++ s ∷ []) plans ≡ some_of p.session (take (count i done) p.commands) ++ so_far done plans
    go i lt above same = rw (count_other i s done (omega arith), same) refl

told_first : (s : ℕ) (told : Command) (plans : List SessionPlan) → RiseAbove s plans → with_told s told plans ≡ record { session = s; commands = told ∷ [] } ∷ plans
unfolding with_told
told_first s told [] r = refl
told_first s told (p ∷ plans) r = let below = lt-ltb s p.session r.0 in rw below refl

so_far_rise : (s : ℕ) (done : List ℕ) (plans : List SessionPlan) → RiseAbove s plans → RiseAbove s (so_far done plans)
so_far_rise s done [] r = tt
so_far_rise s done (p ∷ plans) r =
    go (so_far_rise s done plans (rise_more s p.session plans r.0 r.1)) (so_far_rise p.session done plans r.1) (take (count p.session done) p.commands)
  where
    go : RiseAbove s (so_far done plans) → RiseAbove p.session (so_far done plans) → (cs : List Command) → RiseAbove s (some_of p.session cs ++ so_far done plans)
    go lesser own [] = lesser
    go lesser own (c ∷ cs) = (r.0, own)

-- the session's own plan
told_own : (s : ℕ) (told : Command) (cs : List Command) (others : List SessionPlan) → RiseAbove s others
    → with_told s told (some_of s cs ++ others) ≡ some_of s (cs ++ told ∷ []) ++ others
unfolding with_told
told_own s told [] others r = told_first s told others r
told_own s told (c ∷ cs) others r =
    let not_below = le-ltb s s (omega arith) in
    let same = eq-eqb s s refl in
    rw (not_below, same) refl

-- a lesser session's plan
told_past : (s i : ℕ) (told : Command) (cs : List Command) (others : List SessionPlan) → i < s
    → with_told s told (some_of i cs ++ others) ≡ some_of i cs ++ with_told s told others
unfolding with_told
told_past s i told [] others lt = refl
told_past s i told (c ∷ cs) others lt =
    let not_below = le-ltb s i (omega arith) in
    let other = ne_eqb s i (omega arith) in
    rw (not_below, other) refl

take_next : (k : ℕ) (cs : List Command) (told : Command) (later : List Command) → drop k cs ≡ told ∷ later → take (k + 1) cs ≡ take k cs ++ told ∷ []
take_next k cs told later e = let next : k + 1 ≡ suc k = omega arith in ap (λ (n : ℕ). take n cs) next ∙ go k cs e
  where
    go : (k : ℕ) (cs : List Command) → drop k cs ≡ told ∷ later → take (suc k) cs ≡ take k cs ++ told ∷ []
    go zero [] e = absurd cc
    go zero (c ∷ cs) e = ap (λ (x : Command). x ∷ []) (head_is c told cs later e)
      where
        head_is : (a b : Command) (xs ys : List Command) → a ∷ xs ≡ b ∷ ys → a ≡ b
        head_is a b xs ys e = cc
    go (suc k) [] e = absurd cc
    go (suc k) (c ∷ cs) e = ap (λ (xs : List Command). c ∷ xs) (go k cs e)

drop_none : (k : ℕ) (told : Command) (later : List Command) → drop k [] ≡ told ∷ later → ⊥
drop_none zero told later e = cc
drop_none (suc k) told later e = cc

-- one more line
pub one_more : (n : ℕ) (plans : List SessionPlan) (done : List ℕ) (s : ℕ) (told : Command) (later : List Command) → RiseAbove n plans
    → left plans done s ≡ told ∷ later → with_told s told (so_far done plans) ≡ so_far (done ++ s ∷ []) plans
unfolding commands_of
one_more n [] done s told later r e = absurd (drop_none (count s done) told later e)
one_more n (p ∷ plans) done s told later r e =
    go (λ there. one_more p.session plans done s told later r.1 there) (cases_eq p.session s)
  where
    own : p.session ≡ s → with_told s told (so_far done (p ∷ plans)) ≡ so_far (done ++ s ∷ []) (p ∷ plans)
    own same =
        let is = eq-eqb p.session s same in
        let here : drop (count s done) p.commands ≡ told ∷ later = rw is at e in
        let above : RiseAbove s plans = subst (λ (i : ℕ). RiseAbove i plans) same r.1 in
        rw (same, count_own s done, take_next (count s done) p.commands told later here, so_far_above s done plans above)
        (told_own s told (take (count s done) p.commands) (so_far done plans) (so_far_rise s done plans above))

    above : drop (count s done) (commands_of s plans) ≡ told ∷ later → p.session < s
    above there = elim (cases_lt p.session s) [
      | inl lt ↦ lt
      | inr le ↦ absurd (drop_none (count s done) told later (ap (drop (count s done)) (sym (none_above p.session s plans r.1 le)) ∙ there))
    ]

    past : (drop (count s done) (commands_of s plans) ≡ told ∷ later → with_told s told (so_far done plans) ≡ so_far (done ++ s ∷ []) plans)
        → (p.session ≡ s → ⊥) → with_told s told (so_far done (p ∷ plans)) ≡ so_far (done ++ s ∷ []) (p ∷ plans)
    past more other =
        let apart = ne_eqb p.session s other in
        let there : drop (count s done) (commands_of s plans) ≡ told ∷ later = rw apart at e in
        rw (count_other p.session s done other)
        (told_past s p.session told (take (count p.session done) p.commands) (so_far done plans) (above there)
        ∙ ap (λ (ps : List SessionPlan). some_of p.session (take (count p.session done) p.commands) ++ ps) (more there))

    go : (drop (count s done) (commands_of s plans) ≡ told ∷ later → with_told s told (so_far done plans) ≡ so_far (done ++ s ∷ []) plans)
        → (p.session ≡ s) ⊎ (p.session ≡ s → ⊥) → with_told s told (so_far done (p ∷ plans)) ≡ so_far (done ++ s ∷ []) (p ∷ plans)
    go more (inl same) = own same
    go more (inr other) = past more other

-- all lines
abbrev some_commands : SessionPlan → Type 0
some_commands p = 1 ≤ length p.commands

all_of : (p : SessionPlan) → 1 ≤ length p.commands → some_of p.session p.commands ≡ p ∷ []
all_of p some = go p.commands refl some
  where
    go : (cs : List Command) → p.commands ≡ cs → 1 ≤ length cs → some_of p.session cs ≡ p ∷ []
    go [] e some = absurd (omega arith)
    go (c ∷ cs) e some = ap (λ (xs : List Command). record { session = p.session; commands = xs } ∷ []) (sym e)

pub all_so_far : (n : ℕ) (plans : List SessionPlan) (done : List ℕ) → RiseAbove n plans → All some_commands plans
    → ((i : ℕ) → n < i → count i done ≡ length (commands_of i plans)) → so_far done plans ≡ plans
unfolding commands_of
all_so_far n [] done r some order = refl
all_so_far n (p ∷ plans) done r some order =
    let same = eq-eqb p.session p.session refl in
    let own : count p.session done ≡ length p.commands = rw same at (order p.session r.0) in
    let others = all_so_far p.session plans done r.1 (All-tail some_commands p plans some) (λ i lt. order_behind i lt) in
    rw (take_all (count p.session done) p.commands (omega (arith, own)), others, all_of p (All-head some_commands p plans some)) refl
  where
    order_behind : (i : ℕ) → p.session < i → count i done ≡ length (commands_of i plans)
    order_behind i lt = let apart = ne_eqb p.session i (omega arith) in rw apart at (order i (omega (arith, r.0)))
