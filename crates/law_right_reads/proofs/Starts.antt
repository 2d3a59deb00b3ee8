-- Where a command under way began, and what lies between.
use Rattle.std.proofs.Common.{◌≡◌, ℕ, [], ◌∷◌, Option, Some, None, refl, sym, ap, subst, inl, inr, ◌⊎◌, if◌then◌else◌}
use Rattle.txn_data.specs.declared.actor.Actor.{Actor}
use Rattle.txn_data.specs.declared.command.Command.{Command}
use Rattle.txn_data.specs.declared.config.Config.{Config}
use Rattle.txn_data.specs.declared.event.Event.{Event}
use Rattle.txn_data.specs.declared.event.Event.TheVariants.{Start, Ask, Serve, Hear, Tell, Restarted}
use Rattle.txn_data.specs.declared.entry.Entry.{Entry}
use Rattle.txn_types.specs.History.{History, is_start}
use Rattle.txn_types.specs.Reads.{before_start}
use Rattle.txn_types.specs.Run.{Steps, Allowed, MayStart, mover_at, mover_after}
use Rattle.law_machines.specs.Own.{StandsOver}
use Rattle.law_machines.proofs.Basics.{same_cases}
use Rattle.law_messages.proofs.Rules.{entry}
use Rattle.law_courses.specs.Course.{IsPart}

-- the start of the command under way
pub record StartOf (config : Config) (m : Actor) (h low : History) (line : Command) : Type 0 where
  pub number : ℕ
  pub stands : StandsOver (entry m None (Start number line)) low h
  pub idle : (mover_at config m low).line ≡ None
  pub may : MayStart config m (mover_at config m low) line

start_more : (config : Config) (m : Actor) (e : Entry) (h low : History) (line : Command) → StartOf config m h low line → StartOf config m (e ∷ h) low line
start_more config m e h low line s = record { number = s.number; stands = inr s.stands; idle = s.idle; may = s.may }

start_event : (config : Config) (m : Actor) (h : History) (reading : Option ℕ) (event : Event) (line : Command) → Allowed config h m reading event → (mover_after config m (mover_at config m h) reading event).line ≡ Some line →
    ((l : Command) → (mover_at config m h).line ≡ Some l → StartOf config m h (before_start m h) l) →
    StartOf config m (entry m reading event ∷ h) (if is_start event then h else before_start m h) line
start_event config m h reading (Start number l) line allowed is old =
    let same : l ≡ line = cc in
    subst (λ (k : Command). StartOf config m (entry m reading (Start number l) ∷ h) h k) same (record {
      number = number;
      stands = inl (ap (λ (r : Option ℕ). entry m r (Start number l)) allowed.2, refl);
      idle = allowed.0;
      may = allowed.3;
    })
start_event config m h reading (Ask to asked) line allowed is old = start_more config m (entry m reading (Ask to asked)) h (before_start m h) line (old line is)
start_event config m h reading (Hear from r) line allowed is old = start_more config m (entry m reading (Hear from r)) h (before_start m h) line (old line is)
start_event config m h reading (Tell number t) line allowed is old = cc
start_event config m h reading (Serve from asked r time append) line allowed is old = start_more config m (entry m reading (Serve from asked r time append)) h (before_start m h) line (old line is)
start_event config m h reading (Restarted from kept) line allowed is old = start_more config m (entry m reading (Restarted from kept)) h (before_start m h) line (old line is)

pub start_of : (config : Config) (m : Actor) (h : History) (line : Command) → Steps config h → (mover_at config m h).line ≡ Some line → StartOf config m h (before_start m h) line
unfolding Steps mover_at before_start
start_of config m [] line steps is = cc
start_of config m (e ∷ h) line steps is = elim (same_cases e.actor m) [
  | inl s ↦ rw s.0 (
      let there : StartOf config m (entry m e.reading e.event ∷ h) (if is_start e.event then h else before_start m h) line = start_event config m h e.reading e.event line (subst (λ (a : Actor). Allowed config h a e.reading e.event) s.1 steps.1) (rw s.0 at is) (λ l of. start_of config m h l steps.0 of) in
      subst (λ (a : Actor). StartOf config m (entry a e.reading e.event ∷ h) (if is_start e.event then h else before_start m h) line) (sym s.1) there
      )
  | inr s ↦ rw s.0 (start_more config m e h (before_start m h) line (start_of config m h line steps.0 (rw s.0 at is)))
]

-- ## from its start on the line is the same

-- it is an older part of the history before the start, or the line is under way there
abbrev Under : Config → Actor → History → History → Command → Type 0
Under config m low z line = IsPart z low ⊎ ((mover_at config m z).line ≡ Some line)

under_event : (config : Config) (m : Actor) (h z : History) (reading : Option ℕ) (event : Event) (line : Command) → (mover_after config m (mover_at config m h) reading event).line ≡ Some line → IsPart z h →
    ((l : Command) → (mover_at config m h).line ≡ Some l → Under config m (before_start m h) z l) → Under config m (if is_start event then h else before_start m h) z line
under_event config m h z reading (Start number l) line is part old = inl part
under_event config m h z reading (Ask to asked) line is part old = old line is
under_event config m h z reading (Hear from r) line is part old = old line is
under_event config m h z reading (Tell number t) line is part old = cc
under_event config m h z reading (Serve from asked r time append) line is part old = old line is
under_event config m h z reading (Restarted from kept) line is part old = old line is

pub under_way : (config : Config) (m : Actor) (h z : History) (line : Command) → (mover_at config m h).line ≡ Some line → IsPart z h → Under config m (before_start m h) z line
unfolding IsPart mover_at before_start
under_way config m [] z line is part = cc
under_way config m (e ∷ h) z line is part = elim part [
  | inl same ↦ inr (subst (λ (g : History). (mover_at config m g).line ≡ Some line) (sym same) is)
  | inr below ↦ elim (same_cases e.actor m) [
    | inl s ↦ rw s.0 (under_event config m h z e.reading e.event line (rw s.0 at is) below (λ l of. under_way config m h z l of below))
    | inr s ↦ rw s.0 (under_way config m h z line (rw s.0 at is) below)
  ]
]
