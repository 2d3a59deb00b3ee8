-- How many entries the n-th command of a mover has.
use Rattle.std.proofs.Common.{◌≡◌, ℕ, ◌+◌, ◌<◌, ◌≤◌, Bool, true, false, ◌&&◌, List, [], ◌∷◌, ◌++◌, length, nat_eq, refl, ◌∙◌, ap, inl, inr, ◌⊎◌, if◌then◌else◌, arith}
use Rattle.txn_data.specs.declared.actor.Actor.{Actor}
use Rattle.txn_data.specs.declared.config.Config.{Config}
use Rattle.txn_data.specs.declared.command.Command.{Command}
use Rattle.txn_data.specs.declared.event.Event.TheVariants.{Start}
use Rattle.txn_data.specs.declared.entry.Entry.{Entry}
use Rattle.txn_types.specs.History.{History, same_actor}
use Rattle.txn_types.specs.Run.{Steps}
use Rattle.txn_types.specs.Script.{asker, entries_of, started, moves, named}
use Rattle.law_machines.proofs.Basics.{test_cases, eq_refl, eq_cases}
use Rattle.mover_chain.proofs.Counted.{IsIdle, idle_makes_none, begun_by, begun_grows}
use Rattle.mover_chain.proofs.Left.{moves_step}
use Rattle.mover_chain.proofs.States.{another_moves, steps_before}

entries_first : (a : Actor) (n : ℕ) → entries_of a n [] ≡ 0
unfolding entries_of
entries_first a n = refl

entries_step : (a : Actor) (n : ℕ) (e : Entry) (h : History) →
    entries_of a n (e ∷ h) ≡ entries_of a n h + (if same_actor (asker e) a && nat_eq (started a (e ∷ h)) n then 1 else 0)
unfolding entries_of
entries_step a n e h = refl

entries_other : (a : Actor) (n : ℕ) (e : Entry) (h : History) → same_actor (asker e) a ≡ false → entries_of a n (e ∷ h) ≡ entries_of a n h
entries_other a n e h other = entries_step a n e h ∙ rw other (omega arith)

entries_mine : (a : Actor) (n : ℕ) (e : Entry) (h : History) → same_actor (asker e) a ≡ true → started a (e ∷ h) ≡ n → entries_of a n (e ∷ h) ≡ entries_of a n h + 1
entries_mine a n e h mine is = entries_step a n e h ∙ rw mine (rw is (rw (eq_refl n) refl))

and_never : (b : Bool) → (b && false) ≡ false
and_never true = refl
and_never false = refl

entries_not : (a : Actor) (n : ℕ) (e : Entry) (h : History) → (started a (e ∷ h) ≡ n → ⊥) → entries_of a n (e ∷ h) ≡ entries_of a n h
entries_not a n e h not = elim (eq_cases (started a (e ∷ h)) n) [
  | inl same ↦ absurd (not same.1)
  | inr other ↦ entries_step a n e h ∙ rw other.0 (rw (and_never (same_actor (asker e) a)) (omega arith))
]

-- a command that was not started yet has none
pub none_yet : (a : Actor) (n : ℕ) (h : History) → started a h < n → entries_of a n h ≡ 0
none_yet a n [] early = entries_first a n
none_yet a n (e ∷ h) early =
    let grows = begun_grows a e h in
    entries_not a n e h (λ is. omega (arith, early, is)) ∙ none_yet a n h (omega (arith, early, grows))

-- an idle mover's move is a start
pub begins : (config : Config) (a : Actor) (e : Entry) (h : History) → Steps config (e ∷ h) → IsIdle config a h → same_actor (asker e) a ≡ true → started a (e ∷ h) ≡ started a h + 1
begins config a e h steps idle mine =
    let start = idle_makes_none config a e h steps idle mine in
    begun_by a e h (Start start.0 start.1) start.2 start.3

abbrev AtRest : Config → Actor → ℕ → History → Type 0
AtRest config a n h = (IsIdle config a h × (started a h ≡ n)) ⊎ (n < started a h)

-- once a mover is idle again, its last command has no more
no_more_step : (config : Config) (a : Actor) (n : ℕ) (later h : History) → Steps config (later ++ h) → IsIdle config a h → started a h ≡ n →
    (entries_of a n (later ++ h) ≡ entries_of a n h) × AtRest config a n (later ++ h)
no_more_step config a n [] h steps idle is = (refl, inl (idle, is))
no_more_step config a n (e ∷ later) h steps idle is =
    let before = no_more_step config a n later h (steps_before config e (later ++ h) steps).0 idle is in
    let goes = step (later ++ h) steps before.1 in
    (goes.0 ∙ before.0, goes.1)
  where
    step : (k : History) → Steps config (e ∷ k) → AtRest config a n k → (entries_of a n (e ∷ k) ≡ entries_of a n k) × AtRest config a n (e ∷ k)
    step k now (inr more) =
        let grows = begun_grows a e k in
        (entries_not a n e k (λ same. omega (arith, more, grows, same)), inr (omega (arith, more, grows)))
    step k now (inl rest) = elim (test_cases (same_actor (asker e) a)) [
      | inl mine ↦
          let one = begins config a e k now rest.0 mine in
          let count = rest.1 in
          (entries_not a n e k (λ same. omega (arith, one, count, same)), inr (omega (arith, one, count)))
      | inr other ↦
          let same = another_moves config a e k other in
          (entries_other a n e k other, inl (same.line ∙ rest.0, ap length same.begun ∙ rest.1))
    ]

pub no_more : (config : Config) (a : Actor) (n : ℕ) (later h : History) → Steps config (later ++ h) → IsIdle config a h → started a h ≡ n → entries_of a n (later ++ h) ≡ entries_of a n h
no_more config a n later h steps idle is = (no_more_step config a n later h steps idle is).0

abbrev Within : Config → Actor → ℕ → History → Type 0
Within config a n h = (IsIdle config a h × (started a h + 1 ≡ n)) ⊎ (started a h ≡ n)

-- where a mover starts one command more, all its later entries are of that
of_one : (config : Config) (a : Actor) (n : ℕ) (later g : History) → Steps config (later ++ g) → IsIdle config a g → started a g + 1 ≡ n → started a (later ++ g) ≤ n →
    (entries_of a n (later ++ g) + named a (moves g) ≡ named a (moves (later ++ g))) × Within config a n (later ++ g)
of_one config a n [] g steps idle is few = (rw (none_yet a n g (omega (arith, is))) (omega arith), inl (idle, is))
of_one config a n (e ∷ later) g steps idle is few =
    let grows = begun_grows a e (later ++ g) in
    let before = of_one config a n later g (steps_before config e (later ++ g) steps).0 idle is (omega (arith, grows, few)) in
    step (later ++ g) steps few before.0 before.1
  where
    counted : (k : History) → same_actor (asker e) a ≡ true → started a (e ∷ k) ≡ n → entries_of a n k + named a (moves g) ≡ named a (moves k) → entries_of a n (e ∷ k) + named a (moves g) ≡ named a (moves (e ∷ k))
    counted k mine now same = rw (entries_mine a n e k mine now) (rw (moves_step a e k) (rw mine (omega (arith, same))))

    step : (k : History) → Steps config (e ∷ k) → started a (e ∷ k) ≤ n → entries_of a n k + named a (moves g) ≡ named a (moves k) → Within config a n k →
        (entries_of a n (e ∷ k) + named a (moves g) ≡ named a (moves (e ∷ k))) × Within config a n (e ∷ k)
    step k now most same within = elim (test_cases (same_actor (asker e) a)) [
      | inr other ↦ (
        rw (entries_other a n e k other) (rw (moves_step a e k) (rw other (omega (arith, same)))),
        elim within [
          | inl rest ↦ inl ((another_moves config a e k other).line ∙ rest.0, ap (λ (l : List Command). length l + 1) (another_moves config a e k other).begun ∙ rest.1)
          | inr at ↦ inr (ap length (another_moves config a e k other).begun ∙ at)
        ],
      )
      | inl mine ↦ elim within [
        | inl rest ↦
            let at : started a (e ∷ k) ≡ n = begins config a e k now rest.0 mine ∙ rest.1 in
            (counted k mine at same, inr at)
        | inr is_at ↦
            let at : started a (e ∷ k) ≡ n = let grows_more = begun_grows a e k in omega (arith, grows_more, most, is_at) in
            (counted k mine at same, inr at)
      ]
    ]

pub all_of_one : (config : Config) (a : Actor) (n : ℕ) (later g : History) → Steps config (later ++ g) → IsIdle config a g → started a g + 1 ≡ n → started a (later ++ g) ≤ n →
    entries_of a n (later ++ g) + named a (moves g) ≡ named a (moves (later ++ g))
all_of_one config a n later g steps idle is few = (of_one config a n later g steps idle is few).0
