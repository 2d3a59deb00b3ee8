-- Commands made whole in line order.
use Rattle.std.proofs.Common.{◌≡◌, ℕ, ◌+◌, true, false, nat_eq, if◌then◌else◌, List, [], ◌∷◌, ◌++◌, length, refl, sym, ◌∙◌, ap, subst, inl, inr, arith}
use Rattle.std.proofs.lemmas.List.{append-nil}
use Rattle.txn_data.specs.declared.actor.Actor.{Actor}
use Rattle.txn_data.specs.declared.actor.Actor.TheVariants.{Session, Applier}
use Rattle.txn_data.specs.declared.config.Config.{Config}
use Rattle.txn_types.specs.History.{History, same_actor}
use Rattle.txn_types.specs.Run.{Steps}
use Rattle.txn_types.specs.Script.{count, in_line_order, moves, started, turns}
use Rattle.law_machines.proofs.Basics.{eq_cases, eq_refl, same_cases}
use Rattle.mover_chain.specs.Laws.{StoodBefore}
use Rattle.mover_chain.proofs.Counted.{IsIdle}
use Rattle.mover_chain.proofs.States.{Same}
use Rattle.law_schedules.specs.Courses.{MovedUntilTold, OneByOne}
use Rattle.law_schedules.proofs.Moving.{append_more, same_none, same_over, stood_over}
use Rattle.law_schedules.proofs.Telling.{command_turns, told_stood}
use Rattle.law_schedules.proofs.Passing.{one_first, one_none, one_stood}

pub count_first : (i : ℕ) → count i [] ≡ 0
unfolding count
count_first i = refl

pub count_step : (i j : ℕ) (js : List ℕ) → count i (j ∷ js) ≡ count i js + (if nat_eq i j then 1 else 0)
unfolding count
count_step i j js = refl

pub count_same : (i : ℕ) (js : List ℕ) → count i (i ∷ js) ≡ count i js + 1
count_same i js = count_step i i js ∙ rw (eq_refl i) refl

count_other : (i j : ℕ) (js : List ℕ) → nat_eq i j ≡ false → count i (j ∷ js) ≡ count i js
count_other i j js other = count_step i j js ∙ rw other (omega arith)

order_none : (whole : History) (before : List ℕ) → in_line_order whole before [] ≡ []
unfolding in_line_order
order_none whole before = refl

order_first : (whole : History) (before : List ℕ) (i : ℕ) (more : List ℕ) → in_line_order whole before (i ∷ more) ≡ turns whole (Session i) (count i before + 1) ++ in_line_order whole (i ∷ before) more
unfolding in_line_order
order_first whole before i more = refl

pub other_session : (i j : ℕ) → nat_eq j i ≡ false → same_actor (Session i) (Session j) ≡ false
other_session i j other = elim (same_cases (Session i) (Session j)) [
  | inl same ↦ absurd (let is : Session i ≡ Session j = same.1 in let eq : i ≡ j = (cc) in let never : true ≡ false = sym (eq_refl j) ∙ subst (λ n. nat_eq j n ≡ false) eq other in cc)
  | inr not ↦ not.0
]

-- so many commands of a session were made, and none is under way
abbrev pub HasMade : Config → ℕ → History → ℕ → Type 0
HasMade config n h i = IsIdle config (Session i) h × (started (Session i) h ≡ n)

-- the lines from here on, where these were made before
pub record LinesMade (config : Config) (whole : History) (before order : List ℕ) (g h : History) : Type 0 where
  pub moves : moves h ≡ moves g ++ in_line_order whole before order
  pub after : (i : ℕ) → HasMade config (count i before + count i order) h i
  pub appliers : (k : ℕ) → Same config (Applier k) g h

pub lines_made : (config : Config) (whole : History) (before order : List ℕ) (g h : History) → StoodBefore h whole → Steps config whole →
    ((i : ℕ) → HasMade config (count i before) g i) → OneByOne (λ (i : ℕ). MovedUntilTold (Session i)) order g h → LinesMade config whole before order g h
lines_made config whole before [] g h stood steps at all =
    let none : h ≡ g = one_none (λ (i : ℕ). MovedUntilTold (Session i)) g h all in
    record {
      moves = rw none (rw (order_none whole before) (sym (append-nil (moves g))));
      after = λ i. subst (λ (f : History). HasMade config (count i before + count i []) f i) (sym none) ((at i).0, (at i).1 ∙ rw (count_first i) (omega arith));
      appliers = λ k. subst (Same config (Applier k) g) (sym none) (same_none config (Applier k) g);
    }
lines_made config whole before (i ∷ more) g h stood steps at all =
    let first = one_first (λ (i : ℕ). MovedUntilTold (Session i)) i more g h all in
    let next = first.0 in
    let late = one_stood (λ (i : ℕ). MovedUntilTold (Session i)) (λ j. told_stood (Session j)) more next h first.2 in
    let turned = command_turns config (Session i) (count i before + 1) g next whole (stood_over next h whole late stood) steps (at i).0 (let is = (at i).1 in omega (arith, is)) first.1 in
    let rest = lines_made config whole (i ∷ before) more next h stood steps (λ j. elim (eq_cases j i) [
      | inl same ↦ subst (λ n. HasMade config (count n (i ∷ before)) next n) (sym same.1) (turned.idle, turned.begun ∙ sym (count_same i before))
      | inr other ↦
          let kept = turned.others (Session j) (other_session i j other.0) in
          (kept.line ∙ (at j).0, ap length kept.begun ∙ (at j).1 ∙ sym (count_other j i before other.0))
    ]) first.2 in
    record {
      moves = rest.moves ∙ ap (λ (l : List Actor). l ++ in_line_order whole (i ∷ before) more) turned.moves
          ∙ append_more (moves g) (turns whole (Session i) (count i before + 1)) (in_line_order whole (i ∷ before) more)
          ∙ ap (λ (l : List Actor). moves g ++ l) (sym (order_first whole before i more));
      after = λ j. (
        (rest.after j).0,
        (rest.after j).1 ∙ elim (eq_cases j i) [
          | inl same ↦ subst (λ n. count n (i ∷ before) + count n more ≡ count n before + count n (i ∷ more)) (sym same.1) (rw (count_same i before) (rw (count_same i more) (omega arith)))
          | inr other ↦ rw (count_other j i before other.0) (rw (count_other j i more other.0) refl)
        ],
      );
      appliers = λ k. same_over config (Applier k) g next h (turned.others (Applier k) refl) (rest.appliers k);
    }
