-- A mover at the start of the command that is under way.
use Rattle.std.proofs.Common.{◌≡◌, ℕ, ◌&&◌, [], ◌∷◌, Option, Some, None, refl, subst, inl, inr, if◌then◌else◌}
use Rattle.txn_data.specs.declared.actor.Actor.{Actor}
use Rattle.txn_data.specs.declared.command.Command.{Command}
use Rattle.txn_data.specs.declared.config.Config.{Config}
use Rattle.txn_data.specs.declared.event.Event.{Event}
use Rattle.txn_data.specs.declared.event.Event.TheVariants.{Start, Ask, Serve, Hear, Tell, Restarted}
use Rattle.txn_types.specs.History.{History, same_actor, is_start}
use Rattle.txn_types.specs.Reads.{before_start}
use Rattle.txn_types.specs.Run.{Steps, Allowed, mover_at, mover_after}
use Rattle.law_machines.proofs.Basics.{same_cases, test_cases}

-- it kept the same then
own_keeps : (config : Config) (m : Actor) (h : History) (reading : Option ℕ) (event : Event) (line : Command) → (mover_after config m (mover_at config m h) reading event).line ≡ Some line →
    ((l : Command) → (mover_at config m h).line ≡ Some l → (mover_at config m (before_start m h)).keeps ≡ (mover_at config m h).keeps) →
    (mover_at config m (if is_start event then h else before_start m h)).keeps ≡ (mover_after config m (mover_at config m h) reading event).keeps
own_keeps config m h reading (Start number line) l is more = refl
own_keeps config m h reading (Ask to asked) l is more = more l is
own_keeps config m h reading (Hear from r) l is more = more l is
own_keeps config m h reading (Tell number t) l is more = cc
own_keeps config m h reading (Serve from asked r time append) l is more = more l is
own_keeps config m h reading (Restarted from kept) l is more = more l is

pub start_keeps : (config : Config) (m : Actor) (h : History) (line : Command) → (mover_at config m h).line ≡ Some line → (mover_at config m (before_start m h)).keeps ≡ (mover_at config m h).keeps
unfolding mover_at before_start
start_keeps config m [] line is = cc
start_keeps config m (e ∷ h) line is = elim (same_cases e.actor m) [
  | inl s ↦ rw s.0 (own_keeps config m h e.reading e.event line (rw s.0 at is) (λ l. start_keeps config m h l))
  | inr s ↦ rw s.0 (start_keeps config m h line (rw s.0 at is))
]

-- and had no command under way
own_idle : (config : Config) (m : Actor) (h : History) (reading : Option ℕ) (event : Event) (line : Command) → Allowed config h m reading event → (mover_after config m (mover_at config m h) reading event).line ≡ Some line →
    ((l : Command) → (mover_at config m h).line ≡ Some l → (mover_at config m (before_start m h)).line ≡ None) →
    (mover_at config m (if is_start event then h else before_start m h)).line ≡ None
own_idle config m h reading (Start number line) l ok is more = ok.0
own_idle config m h reading (Ask to asked) l ok is more = more l is
own_idle config m h reading (Hear from r) l ok is more = more l is
own_idle config m h reading (Tell number t) l ok is more = cc
own_idle config m h reading (Serve from asked r time append) l ok is more = more l is
own_idle config m h reading (Restarted from kept) l ok is more = more l is

pub start_idle : (config : Config) (m : Actor) (h : History) (line : Command) → Steps config h → (mover_at config m h).line ≡ Some line → (mover_at config m (before_start m h)).line ≡ None
unfolding mover_at before_start Steps
start_idle config m [] line steps is = cc
start_idle config m (e ∷ h) line steps is = elim (same_cases e.actor m) [
  | inl s ↦ rw s.0 (own_idle config m h e.reading e.event line (subst (λ (a : Actor). Allowed config h a e.reading e.event) s.1 steps.1) (rw s.0 at is) (λ l. start_idle config m h l steps.0))
  | inr s ↦ rw s.0 (start_idle config m h line steps.0 (rw s.0 at is))
]

pub steps_start : (config : Config) (m : Actor) (h : History) → Steps config h → Steps config (before_start m h)
unfolding Steps before_start
steps_start config m [] steps = steps
steps_start config m (e ∷ h) steps = elim (test_cases (same_actor e.actor m && is_start e.event)) [
  | inl starts ↦ rw starts steps.0
  | inr other ↦ rw other (steps_start config m h steps.0)
]
