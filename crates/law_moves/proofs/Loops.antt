-- Moves in a loop: one more of each kind.
use Rattle.std.proofs.Common.{◌≡◌, ℕ, suc, ◌+◌, Bool, true, false, ◌&&◌, nat_lt, List, [], ◌∷◌, ◌++◌, Some, length, reverse, refl, sym, ◌∙◌, ap, subst, inl, inr, arith}
use Rattle.std.specs.List.{slice_get}
use Rattle.std.proofs.lemmas.Grind.{reverse_onto}
use Rattle.std.proofs.lemmas.List.{length-reverse, reverse-reverse}
use Rattle.txn_data.specs.declared.actor.Actor.{Actor}
use Rattle.txn_data.specs.declared.actor.Actor.TheVariants.{Tablet, Status, Session, Applier}
use Rattle.txn_data.specs.declared.config.Config.{Config}
use Rattle.txn_data.specs.declared.event.Event.{Event}
use Rattle.txn_data.specs.declared.event.Event.TheVariants.{Start, Ask, Serve, Hear, Tell, Restarted}
use Rattle.txn_data.specs.declared.entry.Entry.{Entry}
use Rattle.txn_types.specs.History.{History, same_actor}
use Rattle.txn_types.specs.Run.{Steps}
use Rattle.txn_types.specs.Script.{asker}
use Rattle.law_machines.proofs.Basics.{same_of, test_cases}
use Rattle.mover_chain.specs.NextEvent.{Given, has_event, is_left, next_event}
use Rattle.law_schedules.specs.Courses.{Moved, MovedUntilTold, MovedUntold, is_tell, tells}
use Rattle.law_moves.specs.Moving.{MovedOnce}
use Rattle.law_moves.proofs.Enabled.{IsThere, silent_left}

-- ## on and on

pub moved_first : (given : Given) (config : Config) (a : Actor) (g : History) → Moved given config a 0 g g
unfolding Moved
moved_first given config a g = refl

moved_cons : (given : Given) (config : Config) (a : Actor) (n : ℕ) (g : History) (e : Entry) (h : History) → Moved given config a n g h → asker e ≡ a → has_event given config a h ≡ true → Moved given config a (n + 1) g (e ∷ h)
unfolding Moved
moved_cons given config a n g e h moved by some = subst (λ m. Moved given config a m g (e ∷ h)) (next n) (moved, by, some)
  where
    next : (m : ℕ) → suc m ≡ m + 1
    next m = omega arith

pub moved_on : (given : Given) (config : Config) (a : Actor) (n : ℕ) (g h k : History) → Moved given config a n g h → has_event given config a h ≡ true → MovedOnce a h k → Moved given config a (n + 1) g k
moved_on given config a n g h k moved some once = subst (Moved given config a (n + 1) g) (sym once.adds) (moved_cons given config a n g once.entry h moved once.by some)

-- a move is of a mover that has an event left
pub has_next : (given : Given) (config : Config) (a : Actor) (h : History) → has_event given config a h ≡ true → is_left (next_event given config a h) ≡ true
has_next given config a h some = first (is_left (next_event given config a h)) _ some
  where
    first : (b c : Bool) → (b && c) ≡ true → b ≡ true
    first true c is = refl
    first false c is = is

-- ## until it is told

pub untold_first : (a : Actor) (g : History) → MovedUntold a 0 g g
unfolding MovedUntold
untold_first a g = refl

-- an entry that is the mover's move tells it, or nobody
tells_by : (a : Actor) (e : Entry) → asker e ≡ a → tells a e ≡ is_tell e.event
tells_by a e by = by_event e.event refl
  where
    never : (b : Bool) → (b && false) ≡ false
    never true = refl
    never false = refl

    by_event : (event : Event) → e.event ≡ event → (same_actor e.actor a && is_tell e.event) ≡ is_tell e.event
    by_event (Tell number t) is =
        let mine : e.actor ≡ a = subst (λ (v : Event). (elim v [ Serve from asked r time append ↦ from | Restarted from kept ↦ from | _ ↦ e.actor ]) ≡ a) is by in
        rw (same_of e.actor a mine) refl
    by_event (Start number line) is = rw is (never (same_actor e.actor a))
    by_event (Ask to asked) is = rw is (never (same_actor e.actor a))
    by_event (Serve from asked r time append) is = rw is (never (same_actor e.actor a))
    by_event (Hear from r) is = rw is (never (same_actor e.actor a))
    by_event (Restarted from kept) is = rw is (never (same_actor e.actor a))

untold_cons : (a : Actor) (n : ℕ) (g : History) (e : Entry) (h : History) → MovedUntold a n g h → asker e ≡ a → tells a e ≡ false → MovedUntold a (n + 1) g (e ∷ h)
unfolding MovedUntold
untold_cons a n g e h moved by silent = subst (λ m. MovedUntold a m g (e ∷ h)) (next n) (moved, by, silent)
  where
    next : (m : ℕ) → suc m ≡ m + 1
    next m = omega arith

pub untold_on : (a : Actor) (n : ℕ) (g h k : History) → MovedUntold a n g h → (once : MovedOnce a h k) → is_tell once.entry.event ≡ false → MovedUntold a (n + 1) g k
untold_on a n g h k moved once silent = subst (MovedUntold a (n + 1) g) (sym once.adds) (untold_cons a n g once.entry h moved once.by (tells_by a once.entry once.by ∙ silent))

pub told_on : (a : Actor) (n : ℕ) (g h k : History) → MovedUntold a n g h → (once : MovedOnce a h k) → is_tell once.entry.event ≡ true → MovedUntilTold a g k
told_on a n g h k moved once told = subst (MovedUntilTold a g) (sym once.adds) (n, moved, once.by, tells_by a once.entry once.by ∙ told)

-- a mover that has an event left is there
pub is_there : (given : Given) (config : Config) (a : Actor) (h : History) → is_left (next_event given config a h) ≡ true → IsThere config a
is_there given config (Session i) h some = tt
is_there given config (Applier k) h some = elim (test_cases (nat_lt k config.tablets)) [
  | inl there ↦ there
  | inr absent ↦ absurd (let none : is_left (next_event given config (Applier k) h) ≡ false = rw absent refl in let never : true ≡ false = sym some ∙ none in cc)
]
is_there given config (Tablet k) h some = absurd (let never : false ≡ true = some in cc)
is_there given config (Status j) h some = absurd (let never : false ≡ true = some in cc)

-- and where it was told nothing by its move, it still has one
pub still_has : (given : Given) (config : Config) (a : Actor) (h k : History) → is_left (next_event given config a h) ≡ true → Steps config k → (once : MovedOnce a h k) → is_tell once.entry.event ≡ false → is_left (next_event given config a k) ≡ true
still_has given config a h k some steps once silent =
    subst (λ (f : History). is_left (next_event given config a f) ≡ true) (sym once.adds)
    (silent_left given config a once.entry h (is_there given config a h some) (subst (Steps config) once.adds steps) once.by (tells_by a once.entry once.by ∙ silent))

-- ## the entry that was added

get_at : (xs ys : List Entry) (e : Entry) → slice_get (xs ++ e ∷ ys) (length xs) ≡ Some e
get_at [] ys e = refl
get_at (x ∷ xs) ys e = get_at xs ys e

-- it stands at the end of the trace
pub added_at : (entries : List Entry) (a : Actor) (h : History) → (once : MovedOnce a h (reverse entries)) → slice_get entries (length h) ≡ Some once.entry
added_at entries a h once =
    let turned : entries ≡ reverse h ++ once.entry ∷ [] = sym (reverse-reverse entries) ∙ ap reverse once.adds ∙ reverse_onto h once.entry [] in
    subst (λ (l : List Entry). slice_get l (length h) ≡ Some once.entry) (sym turned)
    (subst (λ n. slice_get (reverse h ++ once.entry ∷ []) n ≡ Some once.entry) (length-reverse h) (get_at (reverse h) [] once.entry))

pub longer : (a : Actor) (h k : History) → MovedOnce a h k → length k ≡ length h + 1
longer a h k once = ap length once.adds ∙ one (length h)
  where
    one : (n : ℕ) → suc n ≡ n + 1
    one n = omega arith
