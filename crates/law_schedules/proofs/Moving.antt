-- Movers that are moved one after another: what came later, and whose moves these are.
use Rattle.std.proofs.Common.{◌≡◌, ℕ, zero, suc, ◌+◌, false, List, [], ◌∷◌, ◌++◌, map, replicate, refl, sym, ◌∙◌, ap, subst, arith}
use Rattle.std.proofs.lemmas.Grind.{reverse_onto}
use Rattle.std.proofs.lemmas.List.{append-nil}
use Rattle.txn_data.specs.declared.actor.Actor.{Actor}
use Rattle.txn_data.specs.declared.config.Config.{Config}
use Rattle.txn_data.specs.declared.entry.Entry.{Entry}
use Rattle.txn_types.specs.History.{History, same_actor}
use Rattle.txn_types.specs.Run.{Steps}
use Rattle.txn_types.specs.Script.{asker, moves, named}
use Rattle.law_machines.proofs.Basics.{same_refl}
use Rattle.mover_chain.specs.Laws.{StoodBefore}
use Rattle.mover_chain.specs.NextEvent.{Given}
use Rattle.mover_chain.proofs.Left.{moves_step}
use Rattle.mover_chain.proofs.States.{Same, another_moves, steps_before}
use Rattle.law_schedules.specs.Courses.{Moved, MovedUntold}

-- ## lists of moves

pub moves_cons : (e : Entry) (h : History) → moves (e ∷ h) ≡ moves h ++ asker e ∷ []
moves_cons e h = reverse_onto (map asker h) (asker e) []

replicate_end : (n : ℕ) (a : Actor) → replicate n a ++ a ∷ [] ≡ replicate (suc n) a
replicate_end zero a = refl
replicate_end (suc n) a = ap (λ (l : List Actor). a ∷ l) (replicate_end n a)

pub append_more : (xs ys zs : List Actor) → (xs ++ ys) ++ zs ≡ xs ++ (ys ++ zs)
append_more [] ys zs = refl
append_more (x ∷ xs) ys zs = ap (λ (l : List Actor). x ∷ l) (append_more xs ys zs)

append_entries : (xs ys zs : List Entry) → (xs ++ ys) ++ zs ≡ xs ++ (ys ++ zs)
append_entries [] ys zs = refl
append_entries (x ∷ xs) ys zs = ap (λ (l : List Entry). x ∷ l) (append_entries xs ys zs)

-- ## what stood before

pub stood_self : (g : History) → StoodBefore g g
stood_self g = ([], refl)

pub stood_step : (e : Entry) (g h : History) → StoodBefore g h → StoodBefore g (e ∷ h)
stood_step e g h stood = (e ∷ stood.0, ap (λ (l : History). e ∷ l) stood.1)

pub stood_over : (f g h : History) → StoodBefore f g → StoodBefore g h → StoodBefore f h
stood_over f g h early late = (late.0 ++ early.0, late.1 ∙ ap (λ (l : History). late.0 ++ l) early.1 ∙ sym (append_entries late.0 early.0 f))

steps_later : (config : Config) (later g : History) → Steps config (later ++ g) → Steps config g
steps_later config [] g steps = steps
steps_later config (e ∷ later) g steps = steps_later config later g (steps_before config e (later ++ g) steps).0

pub steps_stood : (config : Config) (g h : History) → StoodBefore g h → Steps config h → Steps config g
steps_stood config g h stood steps = steps_later config stood.0 g (subst (Steps config) stood.1 steps)

-- ## moves of one mover

-- so many entries, each its move
unfoldable pub By : Actor → ℕ → History → History → Type 0
By a zero g h = h ≡ g
By a (suc n) g [] = ⊥
By a (suc n) g (e ∷ h) = By a n g h × (asker e ≡ a)

pub by_none : (a : Actor) (g : History) → By a 0 g g
unfolding By
by_none a g = refl

pub by_more : (a : Actor) (n : ℕ) (g : History) (e : Entry) (h : History) → By a n g h → asker e ≡ a → By a (suc n) g (e ∷ h)
unfolding By
by_more a n g e h by mine = (by, mine)

pub moved_by : (given : Given) (config : Config) (a : Actor) (n : ℕ) (g h : History) → Moved given config a n g h → By a n g h
unfolding Moved By
moved_by given config a zero g h moved = moved
moved_by given config a (suc n) g [] moved = moved
moved_by given config a (suc n) g (e ∷ h) moved = (moved_by given config a n g h moved.0, moved.1)

pub untold_by : (a : Actor) (n : ℕ) (g h : History) → MovedUntold a n g h → By a n g h
unfolding MovedUntold By
untold_by a zero g h moved = moved
untold_by a (suc n) g [] moved = moved
untold_by a (suc n) g (e ∷ h) moved = (untold_by a n g h moved.0, moved.1)

pub by_stood : (a : Actor) (n : ℕ) (g h : History) → By a n g h → StoodBefore g h
unfolding By
by_stood a zero g h by = ([], by)
by_stood a (suc n) g [] by = absurd by
by_stood a (suc n) g (e ∷ h) by = stood_step e g h (by_stood a n g h by.0)

pub by_moves : (a : Actor) (n : ℕ) (g h : History) → By a n g h → moves h ≡ moves g ++ replicate n a
unfolding By
by_moves a zero g h by = rw by (sym (append-nil (moves g)))
by_moves a (suc n) g [] by = absurd by
by_moves a (suc n) g (e ∷ h) by =
    moves_cons e h
    ∙ ap (λ (b : Actor). moves h ++ b ∷ []) by.1
    ∙ ap (λ (l : List Actor). l ++ a ∷ []) (by_moves a n g h by.0)
    ∙ append_more (moves g) (replicate n a) (a ∷ [])
    ∙ ap (λ (l : List Actor). moves g ++ l) (replicate_end n a)

pub by_named : (a : Actor) (n : ℕ) (g h : History) → By a n g h → named a (moves h) ≡ named a (moves g) + n
unfolding By
by_named a zero g h by = rw by (omega arith)
by_named a (suc n) g [] by = absurd by
by_named a (suc n) g (e ∷ h) by =
    let before = by_named a n g h by.0 in
    moves_step a e h ∙ rw by.1 (rw (same_refl a) (omega (arith, before)))

-- ## what others had stays

pub same_none : (config : Config) (b : Actor) (g : History) → Same config b g g
same_none config b g = record { line = refl; opened = refl; begun = refl }

pub same_over : (config : Config) (b : Actor) (f g h : History) → Same config b f g → Same config b g h → Same config b f h
same_over config b f g h early late = record { line = late.line ∙ early.line; opened = late.opened ∙ early.opened; begun = late.begun ∙ early.begun }

pub by_other : (config : Config) (a b : Actor) (n : ℕ) (g h : History) → same_actor a b ≡ false → By a n g h → Same config b g h
unfolding By
by_other config a b zero g h other by = subst (Same config b g) (sym by) (same_none config b g)
by_other config a b (suc n) g [] other by = absurd by
by_other config a b (suc n) g (e ∷ h) other by =
    same_over config b g h (e ∷ h) (by_other config a b n g h other by.0)
    (another_moves config b e h (subst (λ (c : Actor). same_actor c b ≡ false) (sym by.1) other))
