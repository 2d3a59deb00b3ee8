-- The last pass of an applier, and a plan that is done.
use Rattle.std.proofs.Common.{◌≡◌, ℕ, zero, suc, ◌≤◌, Bool, true, false, ◌&&◌, List, [], ◌∷◌, ◌++◌, Option, Some, None, length, take, refl, sym, ◌∙◌, ap, subst, inl, inr, ◌⊎◌, if◌then◌else◌, arith}
use Rattle.std.proofs.lemmas.Bool.{lt-ltb}
use Rattle.txn_data.specs.declared.actor.Actor.{Actor}
use Rattle.txn_data.specs.declared.actor.Actor.TheVariants.{Session, Applier}
use Rattle.txn_data.specs.declared.command.Command.{Command}
use Rattle.txn_data.specs.declared.command.Command.TheVariants as command
use Rattle.txn_data.specs.declared.commands.Commands.{Commands}
use Rattle.txn_data.specs.declared.config.Config.{Config}
use Rattle.txn_data.specs.declared.session_plan.SessionPlan.{SessionPlan}
use Rattle.txn_data.specs.declared.told.Told.{Told}
use Rattle.txn_data.specs.declared.told.Told.TheVariants as told
use Rattle.txn_data.specs.declared.event.Event.{Event}
use Rattle.txn_data.specs.declared.event.Event.TheVariants.{Start, Ask, Serve, Hear, Tell, Restarted}
use Rattle.txn_data.specs.declared.entry.Entry.{Entry}
use Rattle.txn_types.specs.Lists.{Member, or_else}
use Rattle.txn_types.specs.History.{History, same_actor, is_start}
use Rattle.txn_types.specs.Reads.{before_start}
use Rattle.txn_types.specs.Session.{Keeps, IsOpen, at_first}
use Rattle.txn_types.specs.Run.{Mover, MayStart, Allowed, Steps, Run, kept_after, mover_at, mover_after}
use Rattle.txn_types.specs.Script.{line_by, lines, commands_of, FollowsLines, is_told, told_since, Whole}
use Rattle.txn_types.specs.Settled.{Settled, SettledBy, last_told, told_by}
use Rattle.law_machines.specs.Own.{StandsOver}
use Rattle.law_machines.proofs.Basics.{same_cases, test_cases, eq_cases}
use Rattle.law_courses.specs.Course.{IsPart, entry_of}
use Rattle.law_courses.proofs.Parts.{part_refl, part_more}
use Rattle.txn_promises.specs.Left.{SessionsRest, RestSince}
use Rattle.law_left.specs.Laws.{LastPassesSettle, PlansSettle}
use Rattle.law_left.proofs.Settles.{passes_settle}

-- ## where it was told last

-- the entry that told it, and no Start since
pub record LastTell (a : Actor) (h : History) (t : Told) : Type 0 where
  pub reading : Option ℕ
  pub number : ℕ
  pub before : History
  pub stands : StandsOver (entry_of a reading (Tell number t)) before h
  pub start : before_start a before ≡ before_start a h

start_before : (a : Actor) (e : Entry) (h : History) → (same_actor e.actor a && is_start e.event) ≡ false → before_start a (e ∷ h) ≡ before_start a h
unfolding before_start
start_before a e h is = rw is refl

tell_more : (a : Actor) (e : Entry) (h : History) (t : Told) → (same_actor e.actor a && is_start e.event) ≡ false → LastTell a h t → LastTell a (e ∷ h) t
tell_more a e h t is last = record { reading = last.reading; number = last.number; before = last.before; stands = inr last.stands; start = last.start ∙ sym (start_before a e h is) }

and_false : (b : Bool) → (b && false) ≡ false
and_false true = refl
and_false false = refl

own_last : (config : Config) (a : Actor) (h : History) (reading : Option ℕ) (event : Event) (t : Told) → or_else (told_by event) (last_told a h) ≡ Some t → (mover_after config a (mover_at config a h) reading event).line ≡ None →
    (last_told a h ≡ Some t → (mover_at config a h).line ≡ None → LastTell a h t) → LastTell a (entry_of a reading event ∷ h) t
own_last config a h reading (Tell number now) t is none more =
    let same : now ≡ t = cc in
    record {
      reading = reading;
      number = number;
      before = h;
      stands = inl (ap (λ (u : Told). entry_of a reading (Tell number u)) same, refl);
      start = sym (start_before a (entry_of a reading (Tell number now)) h (and_false (same_actor a a)));
    }
own_last config a h reading (Start number line) t is none more = cc
own_last config a h reading (Ask to asked) t is none more = tell_more a (entry_of a reading (Ask to asked)) h t (and_false (same_actor a a)) (more is none)
own_last config a h reading (Hear from r) t is none more = tell_more a (entry_of a reading (Hear from r)) h t (and_false (same_actor a a)) (more is none)
own_last config a h reading (Serve from asked r time append) t is none more = tell_more a (entry_of a reading (Serve from asked r time append)) h t (and_false (same_actor a a)) (more is none)
own_last config a h reading (Restarted from kept) t is none more = tell_more a (entry_of a reading (Restarted from kept)) h t (and_false (same_actor a a)) (more is none)

other_false : (b c : Bool) → b ≡ false → (b && c) ≡ false
other_false b c is = rw is refl

last_tell : (config : Config) (a : Actor) (h : History) (t : Told) → last_told a h ≡ Some t → (mover_at config a h).line ≡ None → LastTell a h t
unfolding last_told mover_at
last_tell config a [] t is none = cc
last_tell config a (e ∷ h) t is none = elim (same_cases e.actor a) [
  | inl s ↦ subst (λ (b : Actor). LastTell a (entry_of b e.reading e.event ∷ h) t) (sym s.1)
      (own_last config a h e.reading e.event t (rw s.0 at is) (rw s.0 at none) (λ was rests. last_tell config a h t was rests))
  | inr s ↦ tell_more a e h t (other_false (same_actor e.actor a) (is_start e.event) s.0) (last_tell config a h t (rw s.0 at is) (rw s.0 at none))
]

settled_by : (h : History) (k : ℕ) (o : Option Told) → ((applied cleaned left : ℕ) → o ≡ Some (told.Passed applied cleaned left) → Settled h k left) → SettledBy h k o
settled_by h k (Some (told.Passed applied cleaned left)) is = is applied cleaned left refl
settled_by h k (Some t) is = tt
settled_by h k None is = tt

pub last_settle : LastPassesSettle
last_settle config h k run none rest = settled_by h k (last_told (Applier k) h) (λ applied cleaned left is.
    let last = last_tell config (Applier k) h (told.Passed applied cleaned left) is none in
    passes_settle config h last.before k last.reading last.number applied cleaned left run last.stands (subst (λ (low : History). RestSince config low h) (sym last.start) rest))

-- ## sessions that have nothing left to do

-- one step back, where nothing was told
own_back : (config : Config) (i : ℕ) (s : Mover) (reading : Option ℕ) (event : Event) → (mover_after config (Session i) s reading event).line ≡ None → is_told (Session i) event ≡ false → s.line ≡ None
own_back config i s reading (Start number line) none told = cc
own_back config i s reading (Tell number t) none told = cc
own_back config i s reading (Ask to asked) none told = none
own_back config i s reading (Hear from r) none told = none
own_back config i s reading (Serve from asked r time append) none told = none
own_back config i s reading (Restarted from kept) none told = none

step_back : (config : Config) (i : ℕ) (e : Entry) (h : History) → (mover_at config (Session i) (e ∷ h)).line ≡ None → is_told e.actor e.event ≡ false → (mover_at config (Session i) h).line ≡ None
unfolding mover_at
step_back config i e h none told = elim (same_cases e.actor (Session i)) [
  | inl s ↦ own_back config i (mover_at config (Session i) h) e.reading e.event (rw s.0 at none) (subst (λ (a : Actor). is_told a e.event ≡ false) s.1 told)
  | inr s ↦ rw s.0 at none
]

not_session : (k i : ℕ) (e : Entry) → (same_actor e.actor (Applier k) && is_start e.event) ≡ true → e.actor ≡ Session i → ⊥
not_session k i e starts is = never (same_actor e.actor (Applier k)) (is_start e.event) starts (ap (λ (a : Actor). same_actor a (Applier k)) is)
  where
    never : (b c : Bool) → (b && c) ≡ true → b ≡ false → ⊥
    never true c one two = cc
    never false c one two = cc

start_back : (config : Config) (k i : ℕ) (e : Entry) (h : History) → (same_actor e.actor (Applier k) && is_start e.event) ≡ true → (mover_at config (Session i) (e ∷ h)).line ≡ None → (mover_at config (Session i) h).line ≡ None
unfolding mover_at
start_back config k i e h starts none = elim (same_cases e.actor (Session i)) [
  | inl s ↦ absurd (not_session k i e starts s.1)
  | inr s ↦ rw s.0 at none
]

-- ## front parts of one length are one

part_length : (low h : History) → IsPart low h → length low ≤ length h
unfolding IsPart
part_length low [] part = subst (λ (l : History). length l ≤ 0) (sym part) (omega arith)
part_length low (e ∷ h) part = elim part [
  | inl is ↦ subst (λ (l : History). length l ≤ length (e ∷ h)) (sym is) (omega arith)
  | inr more ↦ let l : length low ≤ length h = part_length low h more in omega arith
]

part_whole : (low h : History) → IsPart low h → length h ≤ length low → low ≡ h
unfolding IsPart
part_whole low [] part long = part
part_whole low (e ∷ h) part long = elim part [
  | inl is ↦ is
  | inr more ↦ let l : length low ≤ length h = part_length low h more in let wrong : ⊥ = omega arith in absurd wrong
]

part_after : (later g : History) → IsPart g (later ++ g)
part_after [] g = part_refl g
part_after (e ∷ later) g = part_more g e (later ++ g) (part_after later g)

-- back to the last Start of an applier
not_told : (b c : Bool) → (if b then true else c) ≡ false → (b ≡ false) × (c ≡ false)
not_told true c is = cc
not_told false c is = (refl, is)

rests_back : (config : Config) (k i : ℕ) (h g : History) → told_since (Applier k) h ≡ false → (mover_at config (Session i) h).line ≡ None → IsPart g h → IsPart (before_start (Applier k) h) g → (mover_at config (Session i) g).line ≡ None
unfolding told_since before_start IsPart
rests_back config k i [] g told none part front = subst (λ (l : History). (mover_at config (Session i) l).line ≡ None) (sym part) none
rests_back config k i (e ∷ h) g told none part front = elim part [
  | inl is ↦ subst (λ (l : History). (mover_at config (Session i) l).line ≡ None) (sym is) none
  | inr more ↦ elim (test_cases (same_actor e.actor (Applier k) && is_start e.event)) [
    | inl starts ↦
        let all : g ≡ h = part_whole g h more (part_length h g (rw starts at front)) in
        subst (λ (l : History). (mover_at config (Session i) l).line ≡ None) (sym all) (start_back config k i e h starts none)
    | inr other ↦
        let silent = not_told (is_told e.actor e.event) (told_since (Applier k) h) (rw other at told) in
        rests_back config k i h g silent.1 (step_back config i e h none silent.0) more (rw other at front)
  ]
]

-- ## sessions that a plan does not name

two_empty : (xs ys : List Command) → xs ++ ys ≡ [] → (xs ≡ []) × (ys ≡ [])
two_empty [] ys is = (refl, is)
two_empty (x ∷ xs) ys is = cc

abbrev IsUnused_ : Mover → Type 0
IsUnused_ s = (s.line ≡ None) × (s.keeps ≡ at_first)

unused_event : (config : Config) (a : Actor) (s : Mover) (reading : Option ℕ) (event : Event) → line_by event ≡ [] → IsUnused_ s → IsUnused_ (mover_after config a s reading event)
unused_event config a s reading (Start number line) none is = cc
unused_event config a s reading (Ask to asked) none is = is
unused_event config a s reading (Hear from r) none is = is
unused_event config a s reading (Tell number t) none is = (refl, told_none s.line is.0)
  where
    told_none : (o : Option Command) → o ≡ None → kept_after config a s o t ≡ at_first
    told_none None at = is.1
    told_none (Some line) at = cc
unused_event config a s reading (Serve from asked r time append) none is = is
unused_event config a s reading (Restarted from kept) none is = is

unused : (config : Config) (a : Actor) (h : History) → lines a h ≡ [] → IsUnused_ (mover_at config a h)
unfolding lines mover_at
unused config a [] none = (refl, refl)
unused config a (e ∷ h) none = elim (same_cases e.actor a) [
  | inl s ↦ let both = two_empty (lines a h) (line_by e.event) (rw s.0 at none) in rw s.0 (unused_event config a (mover_at config a h) e.reading e.event both.1 (unused config a h both.0))
  | inr s ↦ rw s.0 (unused config a h (rw s.0 at none))
]

last_one : (xs : List Command) (x y : Command) → xs ++ x ∷ [] ≡ y ∷ [] → (xs ≡ []) × (x ≡ y)
last_one [] x y is = (refl, cc)
last_one (z ∷ []) x y is = cc
last_one (z ∷ w ∷ zs) x y is = cc

none_more : (xs : List Command) → xs ++ [] ≡ command.End ∷ [] → xs ≡ command.End ∷ []
none_more [] is = cc
none_more (x ∷ []) is = is
none_more (x ∷ y ∷ xs) is = cc

end_event : (config : Config) (i : ℕ) (h : History) (reading : Option ℕ) (event : Event) → Allowed config h (Session i) reading event → lines (Session i) h ++ line_by event ≡ command.End ∷ [] → (lines (Session i) h ≡ command.End ∷ [] → ⊥) → ⊥
end_event config i h reading (Start number line) ok is more =
    let one = last_one (lines (Session i) h) line command.End is in
    let first = unused config (Session i) h one.0 in
    let may : MayStart config (Session i) (mover_at config (Session i) h) command.End = subst (λ (l : Command). MayStart config (Session i) (mover_at config (Session i) h) l) one.1 ok.3 in
    subst (λ (keeps : Keeps). IsOpen keeps.opened) first.1 may.2
end_event config i h reading (Ask to asked) ok is more = more (none_more (lines (Session i) h) is)
end_event config i h reading (Hear from r) ok is more = more (none_more (lines (Session i) h) is)
end_event config i h reading (Tell number t) ok is more = more (none_more (lines (Session i) h) is)
end_event config i h reading (Serve from asked r time append) ok is more = more (none_more (lines (Session i) h) is)
end_event config i h reading (Restarted from kept) ok is more = more (none_more (lines (Session i) h) is)

-- a session does not begin with End
no_end : (config : Config) (i : ℕ) (h : History) → Steps config h → lines (Session i) h ≡ command.End ∷ [] → ⊥
unfolding lines Steps
no_end config i [] steps is = cc
no_end config i (e ∷ h) steps is = elim (same_cases e.actor (Session i)) [
  | inl s ↦ end_event config i h e.reading e.event (subst (λ (a : Actor). Allowed config h a e.reading e.event) s.1 steps.1) (rw s.0 at is) (λ before. no_end config i h steps.0 before)
  | inr s ↦ no_end config i h steps.0 (rw s.0 at is)
]

take_none : (n : ℕ) → take {A = Command} n [] ≡ []
take_none zero = refl
take_none (suc n) = refl

planned : (i : ℕ) (ps : List SessionPlan) → ((p : SessionPlan) × Member p ps × (p.session ≡ i)) ⊎ (commands_of i ps ≡ [])
unfolding commands_of
planned i [] = inr refl
planned i (p ∷ ps) = elim (eq_cases p.session i) [
  | inl same ↦ inl (p, inl refl, same.1)
  | inr other ↦ rw other.0 (elim (planned i ps) [
    | inl there ↦ inl (there.0, inr there.1, there.2)
    | inr none ↦ inr none
  ])
]

all_rest : (config : Config) (plan : Commands) (h : History) → Run config h → Whole config plan h → SessionsRest config h
all_rest config plan h run whole i = elim (planned i plan.sessions) [
  | inl there ↦ subst (λ (j : ℕ). (mover_at config (Session j) h).line ≡ None) there.2 (whole.sessions there.0 there.1).0
  | inr none ↦ elim (subst (λ (given : List Command). FollowsLines (lines (Session i) h) given) none (whole.follows i)) [
    | inl front ↦ (unused config (Session i) h (front ∙ take_none (length (lines (Session i) h)))).0
    | inr end ↦ absurd (no_end config i h run.1 end)
  ]
]

-- ## a plan that is done

pub plans_settle : PlansSettle
plans_settle config plan h run whole k low =
    let passed = whole.appliers k (lt-ltb k config.tablets low) in
    last_settle config h k run passed.told (λ later here is i.
    let g = here ++ before_start (Applier k) h in
    rests_back config k i h g passed.last (all_rest config plan h run whole i) (subst (λ (l : History). IsPart g l) (sym is) (part_after later g)) (part_after here (before_start (Applier k) h)))
