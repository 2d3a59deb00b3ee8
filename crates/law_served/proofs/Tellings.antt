-- Where a mover was told something: the entry, and the run up to it.
use Rattle.std.proofs.Common.{ℕ, [], ◌∷◌, Option, refl, sym, subst, inl, inr}
use Rattle.txn_data.specs.declared.actor.Actor.{Actor}
use Rattle.txn_data.specs.declared.config.Config.{Config}
use Rattle.txn_data.specs.declared.event.Event.{Event}
use Rattle.txn_data.specs.declared.event.Event.TheVariants.{Start, Ask, Serve, Hear, Tell, Restarted}
use Rattle.txn_data.specs.declared.entry.Entry.{Entry}
use Rattle.txn_types.specs.Lists.{Member}
use Rattle.txn_types.specs.History.{History}
use Rattle.txn_types.specs.Run.{Run, Allowed, Steps}
use Rattle.txn_types.specs.Cause.{ToldAt, tells, tells_by}
use Rattle.law_machines.specs.Own.{StandsOver}
use Rattle.law_machines.proofs.Basics.{member_cases}
use Rattle.law_machines.proofs.Owns.{steps_at}
use Rattle.law_messages.proofs.Rules.{entry}

-- the entry that told it
pub record Telling (h : History) (t : ToldAt) : Type 0 where
  pub number : ℕ
  pub stands : StandsOver (entry t.who t.reading (Tell number t.told)) t.before h

telling_now : (h : History) (a : Actor) (reading : Option ℕ) (event : Event) (t : ToldAt) → Member t (tells_by h (entry a reading event)) → Telling (entry a reading event ∷ h) t
telling_now h a reading (Tell number told_now) t here = elim here [
  | inl is ↦ subst (λ (u : ToldAt). Telling (entry a reading (Tell number told_now) ∷ h) u) (sym is) (record { number = number; stands = inl (refl, refl) })
  | inr nothing ↦ absurd nothing
]
telling_now h a reading (Start number line) t here = absurd here
telling_now h a reading (Ask to asked) t here = absurd here
telling_now h a reading (Serve from asked r time append) t here = absurd here
telling_now h a reading (Hear from r) t here = absurd here
telling_now h a reading (Restarted from kept) t here = absurd here

pub telling : (h : History) (t : ToldAt) → Member t (tells h) → Telling h t
unfolding tells
telling [] t here = absurd here
telling (e ∷ h) t here = elim (member_cases t (tells_by h e) (tells h) here) [
  | inl now ↦ telling_now h e.actor e.reading e.event t now
  | inr deeper ↦ let more = telling h t deeper in record { number = more.number; stands = inr more.stands }
]

steps_parts : (config : Config) (e : Entry) (h : History) → Steps config (e ∷ h) → Steps config h × Allowed config h e.actor e.reading e.event
unfolding Steps
steps_parts config e h steps = steps

-- the run up to it, and what allowed it
pub told_at : (config : Config) (h : History) (t : ToldAt) → Run config h → (telling : Telling h t) → Run config t.before × Allowed config t.before t.who t.reading (Tell telling.number t.told)
told_at config h t run at =
    let parts = steps_parts config (entry t.who t.reading (Tell at.number t.told)) t.before (steps_at config (entry t.who t.reading (Tell at.number t.told)) t.before h run.1 at.stands) in
    ((run.0, parts.0), parts.1)
