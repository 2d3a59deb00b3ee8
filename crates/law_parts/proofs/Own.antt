-- What an actor does depends on its own entries alone.
use Rattle.std.proofs.Common.{◌≡◌, Bool, true, false, [], ◌∷◌, refl, sym, ◌∙◌, ap, subst, inl, inr, if◌then◌else◌}
use Rattle.txn_data.specs.declared.actor.Actor.{Actor}
use Rattle.txn_data.specs.declared.request.Request.TheVariants as request
use Rattle.txn_data.specs.declared.reply.Reply.{Reply}
use Rattle.txn_data.specs.declared.reply.Reply.TheVariants as reply
use Rattle.txn_data.specs.declared.event.Event.{Event}
use Rattle.txn_data.specs.declared.event.Event.TheVariants.{Start, Ask, Serve, Hear, Tell, Restarted}
use Rattle.txn_data.specs.declared.entry.Entry.{Entry}
use Rattle.txn_data.specs.declared.config.Config.{Config}
use Rattle.txn_types.specs.History.{History, same_actor, own}
use Rattle.txn_types.specs.Script.{asker}
use Rattle.txn_types.specs.Run.{Mover, mover_at, mover_after, Flight, Quiet, Asked, Answered, flight, flight_after, CanHear}
use Rattle.law_machines.proofs.Basics.{test_cases, same_true}
use Rattle.law_parts.specs.Parts.{waits, waits_after, MessagesMatch, Matches}

pub own_same : (a : Actor) (e : Entry) (h : History) → same_actor e.actor a ≡ true → own a (e ∷ h) ≡ e ∷ own a h
own_same a e h is = rw is refl

pub own_other : (a : Actor) (e : Entry) (h : History) → same_actor e.actor a ≡ false → own a (e ∷ h) ≡ own a h
own_other a e h is = rw is refl

-- a mover is that of its own entries
mover_own : (config : Config) (a : Actor) (e : Entry) (h : History) → same_actor e.actor a ≡ true → mover_at config a (e ∷ h) ≡ mover_after config a (mover_at config a h) e.reading e.event
unfolding mover_at
mover_own config a e h is = rw is refl

mover_other : (config : Config) (a : Actor) (e : Entry) (h : History) → same_actor e.actor a ≡ false → mover_at config a (e ∷ h) ≡ mover_at config a h
unfolding mover_at
mover_other config a e h is = rw is refl

mover_first : (config : Config) (a : Actor) → mover_at config a (own a []) ≡ mover_at config a []
mover_first config a = refl

pub mover_of_own : (config : Config) (a : Actor) (h : History) → mover_at config a (own a h) ≡ mover_at config a h
mover_of_own config a [] = mover_first config a
mover_of_own config a (e ∷ h) = elim (test_cases (same_actor e.actor a)) [
  | inl is ↦
      ap (mover_at config a) (own_same a e h is) ∙ mover_own config a e (own a h) is
      ∙ ap (λ (m : Mover). mover_after config a m e.reading e.event) (mover_of_own config a h) ∙ sym (mover_own config a e h is)
  | inr not ↦ ap (mover_at config a) (own_other a e h not) ∙ mover_of_own config a h ∙ sym (mover_other config a e h not)
]

-- whether a message of the mover is on its way
abbrev pub is_moving : Flight → Bool
is_moving Quiet = false
is_moving f = true

pub quiet_of : (f : Flight) → is_moving f ≡ false → f ≡ Quiet
quiet_of Quiet is = refl
quiet_of (Asked to asked) is = absurd (let never : true ≡ false = is in cc)
quiet_of (Answered from r) is = absurd (let never : true ≡ false = is in cc)

pub heard_moving : (f : Flight) (from : Actor) (r : Reply) → CanHear f from r → is_moving f ≡ true
heard_moving Quiet from r can = absurd can
heard_moving (Asked to asked) from r can = refl
heard_moving (Answered by answer) from r can = refl

flight_step : (a : Actor) (e : Entry) (h : History) → flight a (e ∷ h) ≡ flight_after a (flight a h) e.actor e.event
unfolding flight
flight_step a e h = refl

-- an entry moves the message of the mover that it is of, and of no other
flight_still : (b : Actor) (f : Flight) (by : Actor) (event : Event) → same_actor (elim event [ Serve from asked r time append ↦ from | Restarted from kept ↦ from | _ ↦ by ]) b ≡ false → flight_after b f by event ≡ f
flight_still b f by (Start number line) other = refl
flight_still b f by (Ask to asked) other = rw other refl
flight_still b f by (Serve from asked r time append) other = rw other refl
flight_still b f by (Hear from r) other = rw other refl
flight_still b f by (Tell number t) other = refl
flight_still b f by (Restarted from kept) other = rw other refl

pub flight_other : (b : Actor) (e : Entry) (h : History) → same_actor (asker e) b ≡ false → flight b (e ∷ h) ≡ flight b h
flight_other b e h other = flight_step b e h ∙ flight_still b (flight b h) e.actor e.event other

waits_step : (e : Entry) (h : History) → waits (e ∷ h) ≡ waits_after (waits h) e.event
unfolding waits
waits_step e h = refl

waits_first : waits [] ≡ false
unfolding waits
waits_first = refl

flight_first : (a : Actor) → flight a [] ≡ Quiet
unfolding flight
flight_first a = refl

choice_moving : (b : Bool) (f g : Flight) → is_moving (if b then f else g) ≡ (if b then is_moving f else is_moving g)
choice_moving true f g = refl
choice_moving false f g = refl

-- the entry answers a request of this mover
abbrev IsAnswerTo : Actor → Event → Type 0
IsAnswerTo m (Serve from asked r time append) = from ≡ m
IsAnswerTo m (Restarted from kept) = from ≡ m
IsAnswerTo m event = ⊥

-- what the entry makes of the flight, as far as it moves: the entry is the mover's own or not
moving_after : (a : Actor) (f : Flight) (by : Actor) (event : Event) → same_actor by a ≡ true → ((from : Actor) → IsAnswerTo from event → same_actor from a ≡ true → is_moving f ≡ true) → is_moving (flight_after a f by event) ≡ waits_after (is_moving f) event
moving_after a f by (Start number line) own moves = refl
moving_after a f by (Ask to asked) own moves = rw own refl
moving_after a f by (Hear from r) own moves = rw own refl
moving_after a f by (Tell number t) own moves = refl
moving_after a f by (Serve from asked r time append) own moves = answered (same_actor from a) refl
  where
    answered : (b : Bool) → same_actor from a ≡ b → is_moving (if b then Answered by r else f) ≡ is_moving f
    answered true is = sym (moves from refl is)
    answered false is = refl
moving_after a f by (Restarted from kept) own moves = answered (same_actor from a) refl
  where
    answered : (b : Bool) → same_actor from a ≡ b → is_moving (if b then Answered by (reply.Restarted kept) else f) ≡ is_moving f
    answered true is = sym (moves from refl is)
    answered false is = refl

moving_other : (a : Actor) (f : Flight) (by : Actor) (event : Event) → same_actor by a ≡ false → ((from : Actor) → IsAnswerTo from event → same_actor from a ≡ true → is_moving f ≡ true) → is_moving (flight_after a f by event) ≡ is_moving f
moving_other a f by (Start number line) other moves = refl
moving_other a f by (Ask to asked) other moves = rw other refl
moving_other a f by (Hear from r) other moves = rw other refl
moving_other a f by (Tell number t) other moves = refl
moving_other a f by (Serve from asked r time append) other moves = answered (same_actor from a) refl
  where
    answered : (b : Bool) → same_actor from a ≡ b → is_moving (if b then Answered by r else f) ≡ is_moving f
    answered true is = sym (moves from refl is)
    answered false is = refl
moving_other a f by (Restarted from kept) other moves = answered (same_actor from a) refl
  where
    answered : (b : Bool) → same_actor from a ≡ b → is_moving (if b then Answered by (reply.Restarted kept) else f) ≡ is_moving f
    answered true is = sym (moves from refl is)
    answered false is = refl

-- what is answered was on its way
answers_moving : (a by : Actor) (event : Event) (h : History) → Matches by event h → (from : Actor) → IsAnswerTo from event → same_actor from a ≡ true → is_moving (flight a h) ≡ true
answers_moving a by (Serve asker asked r time append) h matches from is same =
    ap is_moving (subst (λ (b : Actor). flight b h ≡ Asked by asked) (is ∙ same_true from a same) matches)
answers_moving a by (Restarted asker kept) h matches from is same =
    ap is_moving (subst (λ (b : Actor). flight b h ≡ Asked by request.Restart) (is ∙ same_true from a same) matches)
answers_moving a by event h matches from is same = absurd is

pub matches_before : (e : Entry) (h : History) → MessagesMatch (e ∷ h) → MessagesMatch h × Matches e.actor e.event h
unfolding MessagesMatch
matches_before e h is = is

-- where messages match, a mover waits exactly where a message of it is on its way
pub moving_is : (a : Actor) (h : History) → MessagesMatch h → is_moving (flight a h) ≡ waits (own a h)
moving_is a [] is = ap is_moving (flight_first a) ∙ sym waits_first
moving_is a (e ∷ h) is =
    let before = matches_before e h is in
    let answers = answers_moving a e.actor e.event h before.1 in
    elim (test_cases (same_actor e.actor a)) [
      | inl mine ↦
          ap is_moving (flight_step a e h) ∙ moving_after a (flight a h) e.actor e.event mine answers
          ∙ ap (λ (b : Bool). waits_after b e.event) (moving_is a h before.0) ∙ sym (waits_step e (own a h)) ∙ ap waits (sym (own_same a e h mine))
      | inr not ↦
          ap is_moving (flight_step a e h) ∙ moving_other a (flight a h) e.actor e.event not answers
          ∙ moving_is a h before.0 ∙ ap waits (sym (own_other a e h not))
    ]
