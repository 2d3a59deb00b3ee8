-- Programs that come to an end of some kind, whatever they hear of this, and out of memory in the place of it.
use Rattle.std.proofs.Common.{◌≡◌, ℕ, Option, subst, inl, inr}
use Rattle.txn_data.specs.declared.actor.Actor.{Actor}
use Rattle.txn_data.specs.declared.request.Request.{Request}
use Rattle.txn_data.specs.declared.request.Request.TheVariants as request
use Rattle.txn_data.specs.declared.reply.Reply.{Reply}
use Rattle.txn_data.specs.declared.reply.Reply.TheVariants as reply
use Rattle.txn_data.specs.declared.refusal.Refusal.TheVariants as refusal
use Rattle.txn_data.specs.declared.told.Told.{Told}
use Rattle.txn_data.specs.declared.event.Event.TheVariants.{Serve}
use Rattle.txn_types.specs.History.{History}
use Rattle.txn_types.specs.Program.{Program, Done, Asks, Reads}
use Rattle.law_courses.specs.Course.{IsPart, Answer, entry_of, answered, Came}
use Rattle.law_courses.proofs.Parts.{part_more, part_trans, answer_lower}

abbrev pub Goes : (Actor → Request → Reply → Type 0) → (Told → Type 0) → Program Told → Type 0
Goes H T (Done t) = T t
Goes H T (Asks to asked next) = ((r : Reply) → H to asked r → Goes H T (next r)) × (asked ≡ request.Restart → ⊥) × Goes H T (next (reply.Refused refusal.Memory))
Goes H T (Reads given) = ⊥

pub goes_on : (H : Actor → Request → Reply → Type 0) (T U : Told → Type 0) → ((t : Told) → T t → U t) → (p : Program Told) → Goes H T p → Goes H U p
goes_on H T U more (Done t) goes = more t goes
goes_on H T U more (Asks to asked next) goes = (λ r h. goes_on H T U more (next r) (goes.0 r h), goes.1, goes_on H T U more (next (reply.Refused refusal.Memory)) goes.2)
goes_on H T U more (Reads given) goes = goes

-- all answers of a mover since this part of the history were heard so
abbrev pub AllHeard : (Actor → Request → Reply → Type 0) → Actor → History → History → Type 0
AllHeard H m h low = (to : Actor) (asked : Request) (a : Answer m to asked h low) → H to asked a.reply

-- what such a program came to
pub goes_came : (H : Actor → Request → Reply → Type 0) (T : Told → Type 0) (m : Actor) (h z : History) (own : Option ℕ) (low : History) (had : Option ℕ) (p : Program Told) (end : Told) →
    AllHeard H m h z → IsPart z low → Goes H T p → Came m h own low had p end → T end
unfolding Came
goes_came H T m h z own low had (Done t) end all part goes came = subst T came.0 goes
goes_came H T m h z own low had (Asks to asked next) end all part goes came = elim came [
  | inl heard ↦
      let a = heard.0 in
      goes_came H T m h z own (answered m to asked h low a) had (next a.reply) end all
      (part_more z (entry_of to a.reading (Serve m asked a.reply a.time a.append)) a.before (part_trans z low a.before part a.later))
      (goes.0 a.reply (all to asked (answer_lower m to asked h z low part a))) heard.1
  | inr other ↦ elim other [
    | inl restart ↦ absurd (goes.1 restart.0)
    | inr none ↦ goes_came H T m h z own low had (next (reply.Refused refusal.Memory)) end all part goes.2 none
  ]
]
goes_came H T m h z own low had (Reads given) end all part goes came = absurd goes
