-- Older parts of a history.
use Rattle.std.proofs.Common.{◌≡◌, ℕ, [], ◌∷◌, Option, Some, refl, subst, inl, inr}
use Rattle.txn_data.specs.declared.actor.Actor.{Actor}
use Rattle.txn_data.specs.declared.entry.Entry.{Entry}
use Rattle.txn_data.specs.declared.refusal.Refusal.TheVariants as refusal
use Rattle.txn_data.specs.declared.reply.Reply.TheVariants as reply
use Rattle.txn_data.specs.declared.request.Request.{Request}
use Rattle.txn_types.specs.Lists.{Member, or_else}
use Rattle.txn_types.specs.History.{History}
use Rattle.txn_types.specs.Program.{Program, Done, Asks, Reads}
use Rattle.law_machines.specs.Own.{StandsOver}
use Rattle.law_courses.specs.Course.{IsPart, Answer, Came}

pub part_refl : (h : History) → IsPart h h
unfolding IsPart
part_refl [] = refl
part_refl (e ∷ h) = inl refl

pub part_none : (h : History) → IsPart [] h
unfolding IsPart
part_none [] = refl
part_none (e ∷ h) = inr (part_none h)

pub part_more : (low : History) (e : Entry) (h : History) → IsPart low h → IsPart low (e ∷ h)
unfolding IsPart
part_more low e h part = inr part

pub part_trans : (low mid h : History) → IsPart low mid → IsPart mid h → IsPart low h
unfolding IsPart
part_trans low mid [] one two = subst (λ (l : History). IsPart low l) two one
part_trans low mid (e ∷ h) one two = elim two [
  | inl is ↦ subst (λ (l : History). IsPart low l) is one
  | inr more ↦ inr (part_trans low mid h one more)
]

pub part_tail : (e : Entry) (low h : History) → IsPart (e ∷ low) h → IsPart low h
unfolding IsPart
part_tail e low h part = part_trans low (e ∷ low) h (inr (part_refl low)) part

first_is : (e f : Entry) (low h : History) → (e ∷ low) ≡ (f ∷ h) → (f ≡ e) × (h ≡ low)
first_is e f low h is = (cc, cc)

pub part_stands : (e : Entry) (low h : History) → IsPart (e ∷ low) h → StandsOver e low h
unfolding IsPart
part_stands e low [] part = cc
part_stands e low (f ∷ h) part = elim part [
  | inl is ↦ inl (first_is e f low h is)
  | inr more ↦ inr (part_stands e low h more)
]

pub stands_part : (e : Entry) (low h : History) → StandsOver e low h → IsPart (e ∷ low) h
unfolding IsPart
stands_part e low [] stands = absurd stands
stands_part e low (f ∷ h) stands = elim stands [
  | inl here ↦ let one = here.0 in let two = here.1 in inl cc
  | inr deeper ↦ inr (stands_part e low h deeper)
]

pub part_member : (x : Entry) (low h : History) → IsPart low h → Member x low → Member x h
unfolding IsPart
part_member x low [] part m = subst (λ (l : History). Member x l) part m
part_member x low (e ∷ h) part m = elim part [
  | inl is ↦ subst (λ (l : History). Member x l) is m
  | inr more ↦ inr (part_member x low h more m)
]

-- ## courses

abbrev pub answer_lower : (m to : Actor) (asked : Request) (h low mid : History) → IsPart low mid → Answer m to asked h mid → Answer m to asked h low
answer_lower m to asked h low mid part a = record {
  reading = a.reading;
  reply = a.reply;
  time = a.time;
  append = a.append;
  before = a.before;
  stands = a.stands;
  later = part_trans low mid a.before part a.later;
}

-- a course from later on is one from earlier on
pub came_lower : {A : Type 0} (m : Actor) (h : History) (own : Option ℕ) (low mid : History) (had : Option ℕ) (p : Program A) (end : A) → IsPart low mid → Came m h own mid had p end → Came m h own low had p end
unfolding Came
came_lower m h own low mid had (Done a) end part came = came
came_lower m h own low mid had (Asks to asked next) end part came = elim came [
  | inl heard ↦ inl (answer_lower m to asked h low mid part heard.0, heard.1)
  | inr other ↦ elim other [
    | inl restart ↦ inr (inl (restart.0, (restart.1.0, came_lower m h own low mid had (next (reply.Restarted restart.1.0)) end part restart.1.1)))
    | inr none ↦ inr (inr (came_lower m h own low mid had (next (reply.Refused refusal.Memory)) end part none))
  ]
]
came_lower m h own low mid had (Reads given) end part came = (
  came.0,
  elim came.1 [
    | inl more ↦ inl (came_lower m h own low mid (or_else had (Some came.0)) (given came.0) end part more)
    | inr once ↦ inr once
  ],
)
