-- What the clocks of nodes read, entry by entry.
use Rattle.std.proofs.Common.{◌≡◌, ◌≢◌, ℕ, zero, suc, ◌+◌, ◌%◌, ◌<◌, ◌≤◌, true, false, nat_eq, ◌⊎◌, if◌then◌else◌, List, [], ◌∷◌, Option, Some, None, get_or, length, set, refl, sym, ◌∙◌, ap, subst, inl, inr, arith}
use Rattle.std.proofs.lemmas.List.{get_or-set_other, get_or-set_same}
use Rattle.txn_data.specs.declared.actor.Actor.{Actor}
use Rattle.txn_data.specs.declared.actor.Actor.TheVariants.{Tablet, Status, Session, Applier}
use Rattle.txn_data.specs.declared.command.Command.{Command}
use Rattle.txn_data.specs.declared.command.Command.TheVariants as command
use Rattle.txn_data.specs.declared.config.Config.{Config}
use Rattle.txn_data.specs.declared.told.Told.TheVariants as told
use Rattle.txn_data.specs.declared.event.Event.{Event}
use Rattle.txn_data.specs.declared.event.Event.TheVariants.{Start, Ask, Serve, Hear, Tell, Restarted}
use Rattle.txn_data.specs.declared.entry.Entry.{Entry}
use Rattle.txn_types.specs.History.{History, same_actor}
use Rattle.txn_types.specs.Plan.{IsCluster}
use Rattle.txn_types.specs.Run.{Mover, MayStart, Steps, mover_after, mover_at}
use Rattle.txn_types.specs.Script.{clock_by, node_of, number_at, reading_of, ReadingsAsTold, ReadsRight, set_by}
use Rattle.law_machines.proofs.Basics.{eq_cases, test_cases}
use Rattle.mover_chain.proofs.States.{mover_other, mover_own, own_allowed, steps_before}

-- ## a line that sets a clock is of a node of the cluster

some_same : (x y : Command) → Some x ≡ Some y → x ≡ y
some_same x y is = cc

never_some : (x : Command) → None ≡ Some x → ⊥
never_some x is = cc

not_apply : (k node micros : ℕ) → command.Apply k ≡ command.Clock node micros → ⊥
not_apply k node micros is = cc

clock_line : (config : Config) (a : Actor) (m : Mover) (line : Command) (node micros : ℕ) → MayStart config a m line → line ≡ command.Clock node micros → node < config.nodes
clock_line config (Session i) m line node micros may is = let may_clock = subst (λ (l : Command). MayStart config (Session i) m l) is may in may_clock.2
clock_line config (Applier k) m line node micros may is = absurd (not_apply k node micros (sym may.1 ∙ is))
clock_line config (Tablet k) m line node micros may is = absurd may
clock_line config (Status j) m line node micros may is = absurd may

clock_step : (config : Config) (a : Actor) (node micros : ℕ) (e : Entry) (h : History) → Steps config (e ∷ h) → ((mover_at config a h).line ≡ Some (command.Clock node micros) → node < config.nodes) → same_actor e.actor a ≡ true →
    (mover_at config a (e ∷ h)).line ≡ Some (command.Clock node micros) → node < config.nodes
clock_step config a node micros e h steps before own is = by_event e.event refl
  where
    now : (event : Event) → e.event ≡ event → (mover_after config a (mover_at config a h) e.reading event).line ≡ Some (command.Clock node micros)
    now event same = subst (λ (v : Event). (mover_after config a (mover_at config a h) e.reading v).line ≡ Some (command.Clock node micros)) same (ap (λ (m : Mover). m.line) (sym (mover_own config a e h own)) ∙ is)

    by_event : (event : Event) → e.event ≡ event → node < config.nodes
    by_event (Start number line) same =
        clock_line config a (mover_at config a h) line node micros (own_allowed config a e h (Start number line) own same (steps_before config e h steps).1).3 (some_same line (command.Clock node micros) (now (Start number line) same))
    by_event (Ask to asked) same = before (now (Ask to asked) same)
    by_event (Hear from r) same = before (now (Hear from r) same)
    by_event (Tell number t) same = absurd (never_some (command.Clock node micros) (now (Tell number t) same))
    by_event (Serve from asked r time append) same = before (now (Serve from asked r time append) same)
    by_event (Restarted from kept) same = before (now (Restarted from kept) same)

idle_line : (config : Config) (a : Actor) → (mover_at config a []).line ≡ None
unfolding mover_at
idle_line config a = refl

pub clock_there : (config : Config) (a : Actor) (node micros : ℕ) (h : History) → Steps config h → (mover_at config a h).line ≡ Some (command.Clock node micros) → node < config.nodes
clock_there config a node micros [] steps is = absurd (never_some (command.Clock node micros) (sym (idle_line config a) ∙ is))
clock_there config a node micros (e ∷ h) steps is =
    let before = clock_there config a node micros h (steps_before config e h steps).0 in
    elim (test_cases (same_actor e.actor a)) [
      | inl own ↦ clock_step config a node micros e h steps before own is
      | inr other ↦ before (ap (λ (m : Mover). m.line) (sym (mover_other config a e h other)) ∙ is)
    ]

clock_same : (n m : ℕ) (x y : ℕ) → ◌≡◌ {A = Option (ℕ × ℕ)} (Some (n, m)) (Some (x, y)) → command.Clock n m ≡ command.Clock x y
clock_same n m x y is = ap (λ (o : Option (ℕ × ℕ)). elim o [ Some p ↦ command.Clock p.0 p.1 | None ↦ command.Commit ]) is

never_clock : (node micros : ℕ) → ◌≡◌ {A = Option (ℕ × ℕ)} None (Some (node, micros)) → ⊥
never_clock node micros is = cc

told_set : (n m : ℕ) (event : Event) (node micros : ℕ) → clock_by (Some (command.Clock n m)) event ≡ Some (node, micros) → Some (command.Clock n m) ≡ Some (command.Clock node micros)
told_set n m (Tell number told.Set) node micros is = ap Some (clock_same n m node micros is)
told_set n m event node micros is = absurd (never_clock node micros is)

clock_of_line : (line : Option Command) (event : Event) (node micros : ℕ) → clock_by line event ≡ Some (node, micros) → line ≡ Some (command.Clock node micros)
clock_of_line (Some (command.Clock n m)) event node micros is = told_set n m event node micros is
clock_of_line line event node micros is = absurd (never_clock node micros is)

-- a clock that was told is that of the line under way
pub clock_told : (config : Config) (a : Actor) (node micros : ℕ) (event : Event) (h : History) → Steps config h → clock_by (mover_at config a h).line event ≡ Some (node, micros) → node < config.nodes
clock_told config a node micros event h steps is = by_line (mover_at config a h).line refl
  where
    told_by : (line : Option Command) → clock_by line event ≡ Some (node, micros) → line ≡ Some (command.Clock node micros)
    told_by line at = clock_of_line line event node micros at

    by_line : (line : Option Command) → (mover_at config a h).line ≡ line → node < config.nodes
    by_line line same = clock_there config a node micros h steps (same ∙ told_by line (subst (λ (l : Option Command). clock_by l event ≡ Some (node, micros)) same is))

-- ## clocks

-- these clocks read what was told last of each node
abbrev pub AreTold : Config → List ℕ → History → Type 0
AreTold config clocks h = (node : ℕ) → node < config.nodes → number_at node clocks ≡ reading_of config node h

number_get : (n : ℕ) (xs : List ℕ) → number_at n xs ≡ get_or xs n 0
unfolding number_at
number_get n [] = refl
number_get zero (x ∷ xs) = refl
number_get (suc n) (x ∷ xs) = number_get n xs

reading_step : (config : Config) (node : ℕ) (e : Entry) (h : History) → reading_of config node (e ∷ h) ≡ set_by node (clock_by (mover_at config e.actor h).line e.event) (reading_of config node h)
unfolding reading_of
reading_step config node e h = refl

-- at first they are those of the cluster
pub first_told : (config : Config) → AreTold config config.start_us []
unfolding reading_of
first_told config node there = refl

pub clocks_stay : (config : Config) (clocks : List ℕ) (e : Entry) (h : History) → AreTold config clocks h → clock_by (mover_at config e.actor h).line e.event ≡ None → AreTold config clocks (e ∷ h)
clocks_stay config clocks e h told none node there = told node there ∙ sym (reading_step config node e h ∙ ap (λ (c : Option (ℕ × ℕ)). set_by node c (reading_of config node h)) none)

pub clocks_set : (config : Config) (clocks : List ℕ) (e : Entry) (h : History) (n micros : ℕ) → AreTold config clocks h → n < length clocks → clock_by (mover_at config e.actor h).line e.event ≡ Some (n, micros) → AreTold config (set clocks n micros) (e ∷ h)
clocks_set config clocks e h n micros told within is node there =
    number_get node (set clocks n micros) ∙ at (eq_cases n node) ∙ sym (reading_step config node e h ∙ ap (λ (c : Option (ℕ × ℕ)). set_by node c (reading_of config node h)) is)
  where
    at : (nat_eq n node ≡ true) × (n ≡ node) ⊎ (nat_eq n node ≡ false) × (n ≢ node) → get_or (set clocks n micros) node 0 ≡ (if nat_eq n node then micros else reading_of config node h)
    at (inl same) = rw same.0 (subst (λ m. get_or (set clocks n micros) m 0 ≡ micros) same.1 (get_or-set_same clocks n micros 0 within))
    at (inr other) = rw other.0 (get_or-set_other clocks n node micros 0 (λ back. other.1 (sym back)) ∙ sym (number_get node clocks) ∙ told node there)

-- ## readings

below : (n m : ℕ) → 1 ≤ m → n % m < m
below n m some = omega (arith, some)

node_there : (config : Config) (a : Actor) → IsCluster config → node_of config a < config.nodes
node_there config (Tablet k) cluster = let some = cluster.nodes.0 in below k config.nodes some
node_there config (Status j) cluster = let some = cluster.nodes.0 in below (j + 1) config.nodes some
node_there config (Session i) cluster = let some = cluster.nodes.0 in below i config.nodes some
node_there config (Applier k) cluster = let some = cluster.nodes.0 in below k config.nodes some

pub none_read : (config : Config) → ReadingsAsTold config []
unfolding ReadingsAsTold
none_read config = tt

pub reads_on : (config : Config) (clocks : List ℕ) (e : Entry) (h : History) → IsCluster config → AreTold config clocks h → ReadingsAsTold config h → ReadsRight (number_at (node_of config e.actor) clocks) e.reading → ReadingsAsTold config (e ∷ h)
unfolding ReadingsAsTold
reads_on config clocks e h cluster told before reads =
    (before, subst (λ m. ReadsRight m e.reading) (told (node_of config e.actor) (node_there config e.actor cluster)) reads)
