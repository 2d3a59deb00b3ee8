-- How a command comes to its session's plan.
use Rattle.std.proofs.Common.{◌≡◌, ℕ, zero, suc, ◌+◌, ◌<◌, ◌≤◌, List, [], ◌∷◌, ◌++◌, length, get_or, set, take, drop, inl, inr, refl, sym, ap, subst, ◌∙◌, add-one, arith, eq-eqb}
use Rattle.std.specs.List.{AllWithin}
use Rattle.std.specs.List.Sorted.{IsNonDecreasingBy}
use Rattle.std.proofs.lemmas.Bool.{cases_eq, le-ltb, lt-ltb, ne_eqb}
use Rattle.std.proofs.lemmas.Grind.{get_or-set_at}
use Rattle.std.proofs.lemmas.List.{append_assoc, at_drop_more, drop_all, get_or_default, get_or-set_other, length-set, set_split, take_more}
use Rattle.txn_data.specs.declared.command.Command.{Command}
use Rattle.txn_data.specs.declared.session_plan.SessionPlan.{SessionPlan}
use Rattle.script_text.specs.Script.{with_told}

-- a plan of a lesser session is passed over
pub told_more : (session : ℕ) (told : Command) (plans : List SessionPlan) (i : ℕ) (p : SessionPlan) → i < length plans
    → p ≡ get_or plans i p → p.session < session
    → take (i + 1) plans ++ with_told session told (drop (i + 1) plans) ≡ take i plans ++ with_told session told (drop i plans)
unfolding with_told
told_more session told plans i p lt at above =
    let step = at_drop_more (with_told session told) plans i p lt in
    let not_below = le-ltb session p.session (omega arith) in
    let other = ne_eqb session p.session (omega arith) in
    rw (step, ← at, not_below, other, take_more plans i p lt, ← at)
    (append_assoc (take i plans) (p ∷ []) (with_told session told (drop (i + 1) plans)))

-- the plans of lesser sessions are passed over
pub told_past : (session : ℕ) (told : Command) (plans : List SessionPlan) (at : ℕ) → at ≤ length plans
    → AllWithin (λ (p : SessionPlan). p.session < session) plans 0 at
    → with_told session told plans ≡ take at plans ++ with_told session told (drop at plans)
told_past session told plans zero le below = refl
told_past session told plans (suc i) le below =
    let p = get_or plans i (record { session = session; commands = told ∷ [] }) in
    let lt : i < length plans = omega arith in
    let before = told_past session told plans i (omega arith) (λ k d low high. below k d low (omega arith)) in
    before ∙ sym (subst (λ (n : ℕ). take n plans ++ with_told session told (drop n plans) ≡ take i plans ++ with_told session told (drop i plans)) (add-one i)
    (told_more session told plans i p lt (get_or_default plans i _ p lt) (below i _ (omega arith) (omega arith))))

-- the session's own plan gets the command
told_here : (session : ℕ) (told : Command) (plans : List SessionPlan) (i : ℕ) (p : SessionPlan) → i < length plans
    → p ≡ get_or plans i p → p.session ≡ session
    → take i plans ++ with_told session told (drop i plans)
    ≡ set plans i (record { session = p.session; commands = p.commands ++ told ∷ [] })
unfolding with_told
told_here session told plans i p lt at is =
    let step = at_drop_more (with_told session told) plans i p lt in
    let not_below = le-ltb session p.session (omega arith) in
    let same = eq-eqb session p.session (sym is) in
    let split = set_split plans i (record { session = p.session; commands = p.commands ++ told ∷ [] }) lt in
    rw (step, ← at, not_below, same, split) (same_drop (add-one i))
  where
    same_drop : i + 1 ≡ suc i → take i plans ++ record { session = p.session; commands = p.commands ++ told ∷ [] } ∷ drop (i + 1) plans
        ≡ take i plans ++ record { session = p.session; commands = p.commands ++ told ∷ [] } ∷ drop (suc i) plans
    same_drop e = ap (λ (n : ℕ). take i plans ++ record { session = p.session; commands = p.commands ++ told ∷ [] } ∷ drop n plans) e

abbrev alone : ℕ → Command → SessionPlan
alone session told = record { session = session; commands = told ∷ [] }

-- a new plan stands before those of greater sessions
pub told_before : (session : ℕ) (told : Command) (plans : List SessionPlan) (i : ℕ) (d : SessionPlan) → i < length plans
    → session < (get_or plans i d).session
    → take i plans ++ with_told session told (drop i plans) ≡ take i plans ++ alone session told ∷ drop i plans
unfolding with_told
told_before session told plans i d lt below =
    let p = get_or plans i d in
    let step = at_drop_more (with_told session told) plans i d lt in
    let is_below = lt-ltb session p.session below in
    rw (step, is_below, at_drop_more (λ (ps : List SessionPlan). ps) plans i d lt) refl

pub told_last : (session : ℕ) (told : Command) (plans : List SessionPlan) (i : ℕ) → i ≡ length plans
    → take i plans ++ with_told session told (drop i plans) ≡ take i plans ++ alone session told ∷ drop i plans
unfolding with_told
told_last session told plans i is = rw (drop_all i plans (omega arith)) refl

-- ---- in the form of the calls

-- the slice that was looked through has the plans
pub record Found (session : ℕ) (told : Command) (plans slice : List SessionPlan) (at : ℕ) : Type 0 where
  pub same : slice ≡ plans
  pub before : with_told session told slice ≡ take at slice ++ with_told session told (drop at slice)

found : (session : ℕ) (told : Command) (plans slice : List SessionPlan) (at : ℕ) → Found session told plans slice at
    → with_told session told plans ≡ take at plans ++ with_told session told (drop at plans)
found session told plans slice at f = rw f.same at f.before

pub tell_here : (session : ℕ) (told : Command) (plans slice : List SessionPlan) (at : ℕ) (m p : SessionPlan) → Found session told plans slice at
    → at < length plans → m ≡ get_or plans at m → p ≡ get_or plans at p → p.session ≡ session
    → set plans at (record { session = m.session; commands = m.commands ++ told ∷ [] }) ≡ with_told session told plans
tell_here session told plans slice at m p f lt m_at p_at is =
    let same : m ≡ p = m_at ∙ (get_or_default plans at m p lt ∙ sym p_at) in
    sym (found session told plans slice at f ∙ told_here session told plans at m lt m_at (ap (λ (x : SessionPlan). x.session) same ∙ is))

-- the commands of a new plan
pub record IsNew (told : Command) (commands none : List Command) : Type 0 where
  pub none_is : none ≡ []
  pub is : commands ≡ none ++ told ∷ []

new_commands : (told : Command) (commands none : List Command) → IsNew told commands none → commands ≡ told ∷ []
new_commands told commands none n = n.is ∙ ap (λ (cs : List Command). cs ++ told ∷ []) n.none_is

abbrev plan : ℕ → List Command → SessionPlan
plan session commands = record { session = session; commands = commands }

pub tell_before : (session : ℕ) (told : Command) (plans slice : List SessionPlan) (at : ℕ) (p : SessionPlan) (commands none : List Command)
    → Found session told plans slice at → IsNew told commands none
    → at < length plans → p ≡ get_or plans at p → session ≤ (get_or slice at p).session → (p.session ≡ session → ⊥)
    → take at plans ++ plan session commands ∷ drop at plans ≡ with_told session told plans
tell_before session told plans slice at p commands none f n lt p_at le other =
    let is = new_commands told commands none n in
    let bound : session ≤ (get_or plans at p).session = rw f.same at le in
    let bound_p : session ≤ p.session = rw (← p_at) at bound in
    let below : session < (get_or plans at p).session = rw (← p_at) (omega (arith, bound_p, other)) in
    rw is (sym (found session told plans slice at f ∙ told_before session told plans at p lt below))

pub tell_last : (session : ℕ) (told : Command) (plans slice : List SessionPlan) (at : ℕ) (commands none : List Command)
    → Found session told plans slice at → IsNew told commands none → at ≡ length plans
    → take at plans ++ plan session commands ∷ drop at plans ≡ with_told session told plans
tell_last session told plans slice at commands none f n is_last =
    let is = new_commands told commands none n in
    rw is (sym (found session told plans slice at f ∙ told_last session told plans at is_last))

-- ---- the order of plans

abbrev pub Rising : List SessionPlan → Type 0
Rising plans = IsNonDecreasingBy (λ (p : SessionPlan). p.session) plans

-- a plan in the place of one of the same session
pub rising_set : (plans : List SessionPlan) (at : ℕ) (m : SessionPlan) (commands : List Command) → Rising plans → at < length plans → m ≡ get_or plans at m
    → Rising (set plans at (record { session = m.session; commands = commands }))
rising_set plans at m commands up lt is i j d le below =
    let high : j < length plans = omega (arith, length-set plans at y) in
    rw (same i, same j) (up i j d le high)
  where
    y : SessionPlan
    y = record { session = m.session; commands = commands }

    same : (k : ℕ) → (get_or (set plans at y) k d).session ≡ (get_or plans k d).session
    same k =
        elim (cases_eq k at) [
          | inl is_at ↦ ap (λ (p : SessionPlan). p.session) (get_or-set_at plans at k y d is_at lt)
              ∙ (ap (λ (p : SessionPlan). p.session) (is ∙ get_or_default plans at m d lt) ∙ ap (λ (n : ℕ). (get_or plans n d).session) (sym is_at))
          | inr other ↦ ap (λ (p : SessionPlan). p.session) (get_or-set_other plans at k y d other)
        ]
