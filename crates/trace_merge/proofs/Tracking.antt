-- What is known of a session, with one more entry.
use Rattle.std.proofs.Common.{◌≡◌, ℕ, ◌≤◌, Bool, true, false, [], ◌∷◌, Option, None, length, refl, sym, ◌∙◌, ap, subst, arith}
use Rattle.txn_data.specs.declared.actor.Actor.{Actor}
use Rattle.txn_data.specs.declared.actor.Actor.TheVariants.{Session}
use Rattle.txn_data.specs.declared.entry.Entry.{Entry}
use Rattle.txn_types.specs.Lists.{or_else}
use Rattle.txn_types.specs.History.{History, same_actor, is_start}
use Rattle.txn_types.specs.Reads.{before_start, reading_after}
use Rattle.law_machines.proofs.Basics.{same_of}
use Rattle.law_own_readings.specs.Laws.{is_began, last_begin}
use Rattle.trace_merge.specs.Seen.{greatest}
use Rattle.trace_merge.specs.Tracks.{TracksOrigin, Tracks}
use Rattle.trace_merge.specs.declared.origin.Origin.{Origin}
use Rattle.trace_merge.specs.declared.session_clocks.SessionClocks.{SessionClocks}
use Rattle.trace_merge.proofs.Readings.{start_shorter, begin_shorter, none_yet, own_reading, other_reading, start_here, start_not, start_other, begin_here, begin_not, begin_other}

-- an origin, with a reading of the session
own_more : (i : ℕ) (low : History) (e : Entry) (h : History) (o p : Origin) → e.actor ≡ Session i → length low ≤ length h → TracksOrigin i low h o → p.before ≡ o.before → p.own ≡ or_else o.own e.reading → TracksOrigin i low (e ∷ h) p
own_more i low e h o p mine le t before own = record {
  before = before ∙ t.before;
  own = own ∙ (ap (λ (r : Option ℕ). or_else r e.reading) t.own ∙ sym (own_reading (Session i) (length low) e h (same_of e.actor (Session i) mine) le));
}

other_more : (i : ℕ) (low : History) (e : Entry) (h : History) (o : Origin) → same_actor e.actor (Session i) ≡ false → length low ≤ length h → TracksOrigin i low h o → TracksOrigin i low (e ∷ h) o
other_more i low e h o other le t = record {
  before = t.before;
  own = t.own ∙ sym (other_reading (Session i) (length low) e h other le);
}

-- what was known, before the reading of the entry is taken in
pub record Turns (i : ℕ) (e : Entry) (h : History) (c : SessionClocks) : Type 0 where
  pub start : c.start ≡ length (before_start (Session i) (e ∷ h))
  pub last : TracksOrigin i (before_start (Session i) (e ∷ h)) h c.last
  pub begun : TracksOrigin i (last_begin (Session i) (e ∷ h)) h c.begun

pub turns_start : (i : ℕ) (e : Entry) (h : History) (c d : SessionClocks) → e.actor ≡ Session i → is_start e.event ≡ true → is_began e.event ≡ false → Tracks i h c →
    d.start ≡ length h → d.last.before ≡ greatest h → d.last.own ≡ None → d.begun ≡ c.begun → Turns i e h d
turns_start i e h c d mine is not t start before own begun =
    let here = start_here (Session i) e h (same_of e.actor (Session i) mine) is in
    let still = begin_not (Session i) e h not in
    record {
      start = start ∙ ap length (sym here);
      last = subst (λ (l : History). TracksOrigin i l h d.last) (sym here) (record { before = before; own = own ∙ sym (none_yet (Session i) (length h) h (omega arith)) });
      begun = subst (λ (l : History). TracksOrigin i l h d.begun) (sym still) (subst (λ (o : Origin). TracksOrigin i (last_begin (Session i) h) h o) (sym begun) t.begun);
    }

pub turns_began : (i : ℕ) (e : Entry) (h : History) (c d : SessionClocks) → e.actor ≡ Session i → is_start e.event ≡ false → is_began e.event ≡ true → Tracks i h c →
    d.start ≡ c.start → d.last ≡ c.last → d.begun ≡ c.last → Turns i e h d
turns_began i e h c d mine not is t start last begun =
    let here = begin_here (Session i) e h (same_of e.actor (Session i) mine) is in
    let still = start_not (Session i) e h not in
    record {
      start = start ∙ (t.start ∙ ap length (sym still));
      last = subst (λ (l : History). TracksOrigin i l h d.last) (sym still) (subst (λ (o : Origin). TracksOrigin i (before_start (Session i) h) h o) (sym last) t.last);
      begun = subst (λ (l : History). TracksOrigin i l h d.begun) (sym here) (subst (λ (o : Origin). TracksOrigin i (before_start (Session i) h) h o) (sym begun) t.last);
    }

pub turns_else : (i : ℕ) (e : Entry) (h : History) (c : SessionClocks) → is_start e.event ≡ false → is_began e.event ≡ false → Tracks i h c → Turns i e h c
turns_else i e h c not neither t =
    let still = start_not (Session i) e h not in
    let begin = begin_not (Session i) e h neither in
    record {
      start = t.start ∙ ap length (sym still);
      last = subst (λ (l : History). TracksOrigin i l h c.last) (sym still) t.last;
      begun = subst (λ (l : History). TracksOrigin i l h c.begun) (sym begin) t.begun;
    }

start_low : (a : Actor) (e : Entry) (h : History) → same_actor e.actor a ≡ true → length (before_start a (e ∷ h)) ≤ length h
start_low a e h same = choice (is_start e.event) refl
  where
    choice : (b : Bool) → is_start e.event ≡ b → length (before_start a (e ∷ h)) ≤ length h
    choice true is = let here = ap length (start_here a e h same is) in omega (arith, here)
    choice false is = let still = ap length (start_not a e h is) in let le = start_shorter a h in omega (arith, still, le)

begin_low : (a : Actor) (e : Entry) (h : History) → same_actor e.actor a ≡ true → length (last_begin a (e ∷ h)) ≤ length h
begin_low a e h same = choice (is_began e.event) refl
  where
    choice : (b : Bool) → is_began e.event ≡ b → length (last_begin a (e ∷ h)) ≤ length h
    choice true is = let here = ap length (begin_here a e h same is) in let le = start_shorter a h in omega (arith, here, le)
    choice false is = let still = ap length (begin_not a e h is) in let le = begin_shorter a h in omega (arith, still, le)

pub turns_tracks : (i : ℕ) (e : Entry) (h : History) (c d : SessionClocks) → e.actor ≡ Session i → Turns i e h c → d.start ≡ c.start →
    d.last.before ≡ c.last.before → d.last.own ≡ or_else c.last.own e.reading → d.begun.before ≡ c.begun.before → d.begun.own ≡ or_else c.begun.own e.reading → Tracks i (e ∷ h) d
turns_tracks i e h c d mine t start last_before last_own begun_before begun_own =
    let same = same_of e.actor (Session i) mine in
    record {
      start = start ∙ t.start;
      last = own_more i (before_start (Session i) (e ∷ h)) e h c.last d.last mine (start_low (Session i) e h same) t.last last_before last_own;
      begun = own_more i (last_begin (Session i) (e ∷ h)) e h c.begun d.begun mine (begin_low (Session i) e h same) t.begun begun_before begun_own;
    }

-- an entry of another actor changes nothing
pub tracks_other : (i : ℕ) (e : Entry) (h : History) (c : SessionClocks) → same_actor e.actor (Session i) ≡ false → Tracks i h c → Tracks i (e ∷ h) c
tracks_other i e h c other t =
    let start = start_other (Session i) e h other in
    let begin = begin_other (Session i) e h other in
    record {
      start = t.start ∙ ap length (sym start);
      last = subst (λ (l : History). TracksOrigin i l (e ∷ h) c.last) (sym start) (other_more i (before_start (Session i) h) e h c.last other (start_shorter (Session i) h) t.last);
      begun = subst (λ (l : History). TracksOrigin i l (e ∷ h) c.begun) (sym begin) (other_more i (last_begin (Session i) h) e h c.begun other (begin_shorter (Session i) h) t.begun);
    }

pub tracks_first : (i : ℕ) (c : SessionClocks) → c.start ≡ 0 → c.last.before ≡ 0 → c.last.own ≡ None → c.begun.before ≡ 0 → c.begun.own ≡ None → Tracks i [] c
unfolding before_start last_begin reading_after greatest
tracks_first i c start last own begun begun_own = record {
  start = start;
  last = record { before = last; own = own };
  begun = record { before = begun; own = begun_own };
}
