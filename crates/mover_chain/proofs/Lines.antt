-- The lines that a mover started, entry by entry.
use Rattle.std.proofs.Common.{◌≡◌, ℕ, true, false, [], ◌∷◌, ◌++◌, refl, subst, ap, inl, inr}
use Rattle.txn_data.specs.declared.actor.Actor.{Actor}
use Rattle.txn_data.specs.declared.command.Command.{Command}
use Rattle.txn_data.specs.declared.event.Event.TheVariants.{Start}
use Rattle.txn_data.specs.declared.entry.Entry.{Entry}
use Rattle.txn_types.specs.Lists.{Member}
use Rattle.txn_types.specs.History.{History, same_actor}
use Rattle.txn_types.specs.Script.{line_by, lines}
use Rattle.law_machines.proofs.Basics.{test_cases, same_of, member_left, member_right}

pub lines_own : (a : Actor) (e : Entry) (h : History) → same_actor e.actor a ≡ true → lines a (e ∷ h) ≡ lines a h ++ line_by e.event
unfolding lines
lines_own a e h is = rw is refl

pub lines_other : (a : Actor) (e : Entry) (h : History) → same_actor e.actor a ≡ false → lines a (e ∷ h) ≡ lines a h
unfolding lines
lines_other a e h is = rw is refl

pub no_lines : (a : Actor) → lines a [] ≡ []
unfolding lines
no_lines a = refl

-- a line that was started is among them
pub line_started : (a : Actor) (h : History) (e : Entry) (number : ℕ) (line : Command) → Member e h → e.actor ≡ a → e.event ≡ Start number line → Member line (lines a h)
line_started a [] e number line at own is = absurd at
line_started a (f ∷ h) e number line at own is = elim at [
  | inl same ↦
      let mine : same_actor f.actor a ≡ true = same_of f.actor a (subst (λ (x : Entry). x.actor ≡ a) same own) in
      let starts : line_by f.event ≡ line ∷ [] = ap line_by (subst (λ (x : Entry). x.event ≡ Start number line) same is) in
      rw (lines_own a f h mine) (rw starts (member_right line (lines a h) (line ∷ []) (inl refl)))
  | inr before ↦ elim (test_cases (same_actor f.actor a)) [
    | inl mine ↦ rw (lines_own a f h mine) (member_left line (lines a h) (line_by f.event) (line_started a h e number line before own is))
    | inr not_mine ↦ rw (lines_other a f h not_mine) (line_started a h e number line before own is)
  ]
]
