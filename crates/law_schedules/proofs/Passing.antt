-- Passes made by tablet, and rounds of them.
use Rattle.std.proofs.Common.{◌≡◌, ℕ, zero, suc, ◌+◌, ◌<◌, ◌≤◌, false, List, [], ◌∷◌, ◌++◌, flat_map, length, refl, sym, ◌∙◌, ap, subst, inl, inr, arith}
use Rattle.std.proofs.lemmas.List.{append-nil}
use Rattle.txn_data.specs.declared.actor.Actor.{Actor}
use Rattle.txn_data.specs.declared.actor.Actor.TheVariants.{Session, Applier}
use Rattle.txn_data.specs.declared.config.Config.{Config}
use Rattle.txn_data.specs.declared.command.Command.{Command}
use Rattle.txn_types.specs.History.{History, same_actor}
use Rattle.txn_types.specs.Run.{Steps}
use Rattle.txn_types.specs.Script.{from_up, moves, passes_at, started, told_since, turns}
use Rattle.law_machines.proofs.Basics.{eq_cases, same_cases}
use Rattle.mover_chain.specs.Laws.{StoodBefore}
use Rattle.mover_chain.proofs.Counted.{IsIdle}
use Rattle.mover_chain.proofs.States.{Same}
use Rattle.law_schedules.specs.Courses.{MovedUntilTold, OneByOne, PassesMade}
use Rattle.law_schedules.proofs.Moving.{append_more, same_none, same_over, steps_stood, stood_over, stood_self}
use Rattle.law_schedules.proofs.Telling.{command_turns, told_stood}
use Rattle.law_schedules.proofs.Silent.{applier_quiet, applier_silent}

-- ## one by one

pub one_none : {X : Type 0} (moved : X → History → History → Type 0) (g h : History) → OneByOne moved [] g h → h ≡ g
unfolding OneByOne
one_none moved g h none = none

pub one_first : {X : Type 0} (moved : X → History → History → Type 0) (x : X) (xs : List X) (g h : History) → OneByOne moved (x ∷ xs) g h → (k : History) × moved x g k × OneByOne moved xs k h
unfolding OneByOne
one_first moved x xs g h all = all

pub one_stood : {X : Type 0} (moved : X → History → History → Type 0) → ((x : X) (g h : History) → moved x g h → StoodBefore g h) → (xs : List X) (g h : History) → OneByOne moved xs g h → StoodBefore g h
one_stood moved each [] g h all = subst (StoodBefore g) (sym (one_none moved g h all)) (stood_self g)
one_stood moved each (x ∷ xs) g h all =
    let first = one_first moved x xs g h all in
    stood_over g first.0 h (each x g first.0 first.1) (one_stood moved each xs first.0 h first.2)

pub up_first : (n t : ℕ) → from_up n (suc t) ≡ n ∷ from_up (n + 1) t
unfolding from_up
up_first n t = refl

pub up_none : (n : ℕ) → from_up n zero ≡ []
unfolding from_up
up_none n = refl

-- ## passes by tablet

pass : ℕ → History → History → Type 0
pass k g h = MovedUntilTold (Applier k) g h

abbrev pub IsTablet : ℕ → ℕ → ℕ → Type 0
IsTablet m t k = (m ≤ k) × (k < m + t)

abbrev pub Stands : Config → ℕ → History → ℕ → Type 0
Stands config n h k = IsIdle config (Applier k) h × (started (Applier k) h ≡ n)

pub same_stands : (config : Config) (n k : ℕ) (g h : History) → Same config (Applier k) g h → Stands config n g k → Stands config n h k
same_stands config n k g h same stands = (same.line ∙ stands.0, ap length same.begun ∙ stands.1)

pub other_applier : (m k : ℕ) → (m ≡ k → ⊥) → same_actor (Applier m) (Applier k) ≡ false
other_applier m k not = elim (same_cases (Applier m) (Applier k)) [
  | inl same ↦ absurd (not (let is : Applier m ≡ Applier k = same.1 in cc))
  | inr other ↦ other.0
]

-- tablets from `m`, `t` of them: each made its n-th pass
pub record Passed (config : Config) (whole : History) (n m t : ℕ) (g h : History) : Type 0 where
  pub moves : moves h ≡ moves g ++ flat_map (λ k. turns whole (Applier k) n) (from_up m t)
  pub after : (k : ℕ) → IsTablet m t k → Stands config n h k
  pub others : (b : Actor) → ((k : ℕ) → IsTablet m t k → same_actor (Applier k) b ≡ false) → Same config b g h
  pub silent : (a : Actor) → told_since a g ≡ false → told_since a h ≡ false
  pub quiet : (k : ℕ) → IsTablet m t k → told_since (Applier k) h ≡ false

pub passed : (config : Config) (whole : History) (n m t : ℕ) (g h : History) → StoodBefore h whole → Steps config whole →
    ((k : ℕ) → IsTablet m t k → IsIdle config (Applier k) g × (started (Applier k) g + 1 ≡ n)) →
    OneByOne (λ (k : ℕ). MovedUntilTold (Applier k)) (from_up m t) g h → Passed config whole n m t g h
passed config whole n m zero g h stood steps at all =
    let none : h ≡ g = one_none (λ (k : ℕ). MovedUntilTold (Applier k)) g h (subst (λ (l : List ℕ). OneByOne (λ (k : ℕ). MovedUntilTold (Applier k)) l g h) (up_none m) all) in
    record {
      moves = rw none (rw (up_none m) (sym (append-nil (moves g))));
      after = λ k is. absurd (let low = is.0 in let high = is.1 in omega (arith, low, high));
      others = λ b not. subst (Same config b g) (sym none) (same_none config b g);
      silent = λ a still. subst (λ (f : History). told_since a f ≡ false) (sym none) still;
      quiet = λ k is. absurd (let low = is.0 in let high = is.1 in omega (arith, low, high));
    }
passed config whole n m (suc t) g h stood steps at all =
    let first = one_first (λ (k : ℕ). MovedUntilTold (Applier k)) m (from_up (m + 1) t) g h (subst (λ (l : List ℕ). OneByOne (λ (k : ℕ). MovedUntilTold (Applier k)) l g h) (up_first m t) all) in
    let next = first.0 in
    let late = one_stood (λ (k : ℕ). MovedUntilTold (Applier k)) (λ k. told_stood (Applier k)) (from_up (m + 1) t) next h first.2 in
    let now = at m (omega arith, omega arith) in
    let turned = command_turns config (Applier m) n g next whole (stood_over next h whole late stood) steps now.0 now.1 first.1 in
    let more = passed config whole n (m + 1) t next h stood steps
    (λ k is. let low = is.0 in let high = is.1 in
    let before = at k (omega (arith, low), omega (arith, high)) in
    let same = turned.others (Applier k) (other_applier m k (λ eq. omega (arith, eq, low))) in
    (same.line ∙ before.0, ap (λ (l : List Command). length l + 1) same.begun ∙ before.1))
    first.2 in
    record {
      moves = more.moves ∙ ap (λ (l : List Actor). l ++ flat_map (λ k. turns whole (Applier k) n) (from_up (m + 1) t)) turned.moves
          ∙ append_more (moves g) (turns whole (Applier m) n) (flat_map (λ k. turns whole (Applier k) n) (from_up (m + 1) t))
          ∙ rw (up_first m t) refl;
      after = λ k is. elim (eq_cases m k) [
        | inl same ↦ subst (Stands config n h) same.1 (same_stands config n m next h
            (more.others (Applier m) (λ j within. other_applier j m (λ eq. let low = within.0 in omega (arith, eq, low)))) (turned.idle, turned.begun))
        | inr other ↦ let low = is.0 in let high = is.1 in let not = other.1 in more.after k (above m k low not, omega (arith, high))
      ];
      others = λ b not. same_over config b g next h
          (turned.others b (not m (omega arith, omega arith)))
          (more.others b (λ k within. let low = within.0 in let high = within.1 in not k (omega (arith, low), omega (arith, high))));
      silent = λ a still. more.silent a (applier_silent a m g next first.1 still);
      quiet = λ k is. elim (eq_cases m k) [
        | inl same ↦ subst (λ j. told_since (Applier j) h ≡ false) same.1
            (more.silent (Applier m) (applier_quiet config m g next (steps_stood config next whole (stood_over next h whole late stood) steps) now.0 first.1))
        | inr other ↦ let low = is.0 in let high = is.1 in let not = other.1 in more.quiet k (above m k low not, omega (arith, high))
      ];
    }
  where
    above : (i k : ℕ) → i ≤ k → (i ≡ k → ⊥) → i + 1 ≤ k
    above i k low not = omega (arith, low, not)

-- ## rounds

pub all_passed : (config : Config) (whole : History) (n : ℕ) (g h : History) → StoodBefore h whole → Steps config whole →
    ((k : ℕ) → IsTablet 0 config.tablets k → IsIdle config (Applier k) g × (started (Applier k) g + 1 ≡ n)) →
    PassesMade config g h → Passed config whole n 0 config.tablets g h
all_passed config whole n g h stood steps at all = passed config whole n 0 config.tablets g h stood steps at all

pub passes_stood : (config : Config) (g h : History) → PassesMade config g h → StoodBefore g h
passes_stood config g h made = one_stood (λ (k : ℕ). MovedUntilTold (Applier k)) (λ k. told_stood (Applier k)) (from_up 0 config.tablets) g h made

-- `t` rounds from the m-th on
pub record RoundsMade (config : Config) (whole : History) (m t : ℕ) (g h : History) : Type 0 where
  pub moves : moves h ≡ moves g ++ flat_map (passes_at config whole) (from_up m t)
  pub after : (k : ℕ) → IsTablet 0 config.tablets k → IsIdle config (Applier k) h × (started (Applier k) h + 1 ≡ m + t)
  pub sessions : (i : ℕ) → Same config (Session i) g h

pub rounds : (config : Config) (whole : History) (m t : ℕ) (g h : History) → StoodBefore h whole → Steps config whole →
    ((k : ℕ) → IsTablet 0 config.tablets k → IsIdle config (Applier k) g × (started (Applier k) g + 1 ≡ m)) →
    OneByOne (λ (n : ℕ). PassesMade config) (from_up m t) g h → RoundsMade config whole m t g h
rounds config whole m zero g h stood steps at all =
    let none : h ≡ g = one_none (λ (n : ℕ). PassesMade config) g h (subst (λ (l : List ℕ). OneByOne (λ (n : ℕ). PassesMade config) l g h) (up_none m) all) in
    record {
      moves = rw none (rw (up_none m) (sym (append-nil (moves g))));
      after = λ k is. (subst (λ (f : History). IsIdle config (Applier k) f) (sym none) (at k is).0, subst (λ (f : History). started (Applier k) f + 1 ≡ m + zero) (sym none) (let count = (at k is).1 in omega (arith, count)));
      sessions = λ i. subst (Same config (Session i) g) (sym none) (same_none config (Session i) g);
    }
rounds config whole m (suc t) g h stood steps at all =
    let first = one_first (λ (n : ℕ). PassesMade config) m (from_up (m + 1) t) g h (subst (λ (l : List ℕ). OneByOne (λ (n : ℕ). PassesMade config) l g h) (up_first m t) all) in
    let next = first.0 in
    let late = one_stood (λ (n : ℕ). PassesMade config) (λ n. passes_stood config) (from_up (m + 1) t) next h first.2 in
    let round = all_passed config whole m g next (stood_over next h whole late stood) steps at first.1 in
    let more = rounds config whole (m + 1) t next h stood steps (λ k is. ((round.after k is).0, let count = (round.after k is).1 in omega (arith, count))) first.2 in
    record {
      moves = more.moves ∙ ap (λ (l : List Actor). l ++ flat_map (passes_at config whole) (from_up (m + 1) t)) round.moves
          ∙ append_more (moves g) (passes_at config whole m) (flat_map (passes_at config whole) (from_up (m + 1) t))
          ∙ rw (up_first m t) refl;
      after = λ k is. ((more.after k is).0, let count = (more.after k is).1 in omega (arith, count));
      sessions = λ i. same_over config (Session i) g next h (round.others (Session i) (λ k within. refl)) (more.sessions i);
    }
