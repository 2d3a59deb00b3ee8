-- The readings that an actor recorded from a place on, and the older parts of a history.
use Rattle.std.proofs.Common.{◌≡◌, ℕ, ◌≤◌, Bool, true, false, ◌&&◌, [], ◌∷◌, Option, Some, None, nat_lt, length, refl, if◌then◌else◌, arith}
use Rattle.std.proofs.lemmas.Bool.{lt-ltb, le-ltb}
use Rattle.txn_data.specs.declared.actor.Actor.{Actor}
use Rattle.txn_data.specs.declared.event.Event.{Event}
use Rattle.txn_data.specs.declared.event.Event.TheVariants.{Start}
use Rattle.txn_data.specs.declared.entry.Entry.{Entry}
use Rattle.txn_types.specs.Lists.{or_else}
use Rattle.txn_types.specs.History.{History, same_actor, is_start}
use Rattle.txn_types.specs.Reads.{before_start, reading_after}
use Rattle.law_own_readings.specs.Laws.{is_began, last_begin}

-- ## older parts are not longer

pub start_shorter : (a : Actor) (h : History) → length (before_start a h) ≤ length h
unfolding before_start
start_shorter a [] = omega arith
start_shorter a (e ∷ h) = choice (same_actor e.actor a && is_start e.event) (start_shorter a h)
  where
    choice : (b : Bool) → length (before_start a h) ≤ length h → length (if b then h else before_start a h) ≤ length (e ∷ h)
    choice true le = omega arith
    choice false le = omega (arith, le)

pub begin_shorter : (a : Actor) (h : History) → length (last_begin a h) ≤ length h
unfolding last_begin
begin_shorter a [] = omega arith
begin_shorter a (e ∷ h) = choice (same_actor e.actor a && is_began e.event) (begin_shorter a h) (start_shorter a h)
  where
    choice : (b : Bool) → length (last_begin a h) ≤ length h → length (before_start a h) ≤ length h → length (if b then before_start a h else last_begin a h) ≤ length (e ∷ h)
    choice true begin start = omega (arith, start)
    choice false begin start = omega (arith, begin)

-- ## the first reading from a place on

pub none_yet : (a : Actor) (n : ℕ) (h : History) → length h ≤ n → reading_after a n h ≡ None
unfolding reading_after
none_yet a n [] le = refl
none_yet a n (e ∷ h) le = let lt : nat_lt (length h) n ≡ true = lt-ltb (length h) n (omega (arith, le)) in rw lt refl

pub or_none : (o : Option ℕ) → or_else o None ≡ o
or_none (Some n) = refl
or_none None = refl

pub own_reading : (a : Actor) (n : ℕ) (e : Entry) (h : History) → same_actor e.actor a ≡ true → n ≤ length h → reading_after a n (e ∷ h) ≡ or_else (reading_after a n h) e.reading
unfolding reading_after
own_reading a n e h same le = let ge : nat_lt (length h) n ≡ false = le-ltb (length h) n (omega (arith, le)) in rw (ge, same) refl

pub other_reading : (a : Actor) (n : ℕ) (e : Entry) (h : History) → same_actor e.actor a ≡ false → n ≤ length h → reading_after a n (e ∷ h) ≡ reading_after a n h
unfolding reading_after
other_reading a n e h other le = let ge : nat_lt (length h) n ≡ false = le-ltb (length h) n (omega (arith, le)) in rw (ge, other) (or_none (reading_after a n h))

-- ## the last Start and the last begin, with one more entry

and_false : (b : Bool) → (b && false) ≡ false
and_false true = refl
and_false false = refl

pub start_here : (a : Actor) (e : Entry) (h : History) → same_actor e.actor a ≡ true → is_start e.event ≡ true → before_start a (e ∷ h) ≡ h
unfolding before_start
start_here a e h same is = rw (same, is) refl

pub start_not : (a : Actor) (e : Entry) (h : History) → is_start e.event ≡ false → before_start a (e ∷ h) ≡ before_start a h
unfolding before_start
start_not a e h not = rw (not, and_false (same_actor e.actor a)) refl

pub start_other : (a : Actor) (e : Entry) (h : History) → same_actor e.actor a ≡ false → before_start a (e ∷ h) ≡ before_start a h
unfolding before_start
start_other a e h other = rw other refl

pub begin_here : (a : Actor) (e : Entry) (h : History) → same_actor e.actor a ≡ true → is_began e.event ≡ true → last_begin a (e ∷ h) ≡ before_start a h
unfolding last_begin
begin_here a e h same is = rw (same, is) refl

pub begin_not : (a : Actor) (e : Entry) (h : History) → is_began e.event ≡ false → last_begin a (e ∷ h) ≡ last_begin a h
unfolding last_begin
begin_not a e h not = rw (not, and_false (same_actor e.actor a)) refl

pub begin_other : (a : Actor) (e : Entry) (h : History) → same_actor e.actor a ≡ false → last_begin a (e ∷ h) ≡ last_begin a h
unfolding last_begin
begin_other a e h other = rw other refl

-- a Start tells no begin
pub start_began : (event : Event) → is_start event ≡ true → is_began event ≡ false
start_began (Start number line) is = refl
start_began event is = cc
