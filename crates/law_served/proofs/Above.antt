-- What was served for a mover since its last start, counted from the place of that start.
use Rattle.std.proofs.Common.{◌≡◌, ℕ, ◌≤◌, Bool, true, false, ◌&&◌, List, [], ◌∷◌, ◌++◌, Option, length, nat_lt, refl, sym, ◌∙◌, ap, subst, inl, inr, if◌then◌else◌, arith}
use Rattle.std.proofs.lemmas.Bool.{le-ltb, lt-ltb}
use Rattle.txn_data.specs.declared.actor.Actor.{Actor}
use Rattle.txn_data.specs.declared.append.Append.{Append}
use Rattle.txn_data.specs.declared.config.Config.{Config}
use Rattle.txn_data.specs.declared.request.Request.{Request}
use Rattle.txn_data.specs.declared.reply.Reply.{Reply}
use Rattle.txn_data.specs.declared.event.Event.{Event}
use Rattle.txn_data.specs.declared.event.Event.TheVariants.{Start, Ask, Serve, Hear, Tell, Restarted}
use Rattle.txn_data.specs.declared.entry.Entry.{Entry}
use Rattle.txn_types.specs.Lists.{Member}
use Rattle.txn_types.specs.History.{History, same_actor, is_start}
use Rattle.txn_types.specs.Reads.{before_start}
use Rattle.txn_types.specs.Run.{Allowed, Steps}
use Rattle.txn_types.specs.Cause.{ServedAt, served_by, served_since}
use Rattle.law_machines.specs.Own.{StandsOver}
use Rattle.law_machines.proofs.Basics.{test_cases, same_refl, same_cases, member_cases}
use Rattle.law_messages.proofs.Rules.{entry, IsFor}

-- what was served for a mover after the first n entries, the newest first
unfoldable pub served_above : ℕ → Actor → History → List ServedAt
served_above n m [] = []
served_above n m (e ∷ h) = if nat_lt (length h) n then [] else served_by m h e ++ served_above n m h

pub above_step : (n : ℕ) (m : Actor) (e : Entry) (h : History) → n ≤ length h → served_above n m (e ∷ h) ≡ served_by m h e ++ served_above n m h
unfolding served_above
above_step n m e h low = rw (le-ltb (length h) n low) refl

pub above_none : (m : Actor) (h : History) → served_above (length h) m h ≡ []
unfolding served_above
above_none m [] = refl
above_none m (e ∷ h) = rw (lt-ltb (length h) (length (e ∷ h)) (omega arith)) refl

-- an entry that answers no request of the mover
pub by_other : (m : Actor) (h : History) (e : Entry) → (IsFor m e.event → ⊥) → served_by m h e ≡ []
by_other m h e other = by_event m h e.actor e.reading e.event other
  where
    choice : (b : Bool) (s : ServedAt) → b ≡ false → (if b then s ∷ [] else []) ≡ []
    choice b s is = rw is refl

    by_event : (m : Actor) (h : History) (a : Actor) (reading : Option ℕ) (event : Event) → (IsFor m event → ⊥) → served_by m h (entry a reading event) ≡ []
    by_event m h a reading (Serve from asked r time append) other = elim (same_cases from m) [
      | inl same ↦ absurd (other same.1)
      | inr differ ↦ choice (same_actor from m) (record { by = a; reading = reading; asked = asked; reply = r; append = append; before = h }) differ.0
    ]
    by_event m h a reading (Start number line) other = refl
    by_event m h a reading (Ask to asked) other = refl
    by_event m h a reading (Hear from r) other = refl
    by_event m h a reading (Tell number t) other = refl
    by_event m h a reading (Restarted from kept) other = refl

pub by_serve : (m : Actor) (h : History) (a : Actor) (reading : Option ℕ) (asked : Request) (r : Reply) (time : Option ℕ) (append : Append) →
    served_by m h (entry a reading (Serve m asked r time append)) ≡ (record { by = a; reading = reading; asked = asked; reply = r; append = append; before = h }) ∷ []
by_serve m h a reading asked r time append = rw (same_refl m) refl

start_no_answer : (m : Actor) (event : Event) → is_start event ≡ true → IsFor m event → ⊥
start_no_answer m (Start number line) is answers = answers
start_no_answer m (Ask to asked) is answers = answers
start_no_answer m (Serve from asked r time append) is answers = cc
start_no_answer m (Hear from r) is answers = answers
start_no_answer m (Tell number t) is answers = answers
start_no_answer m (Restarted from kept) is answers = cc

and_second : (a b : Bool) → (a && b) ≡ true → b ≡ true
and_second true b is = is
and_second false b is = cc

pub start_low : (m : Actor) (h : History) → length (before_start m h) ≤ length h
unfolding before_start
start_low m [] = omega arith
start_low m (e ∷ h) = elim (test_cases (same_actor e.actor m && is_start e.event)) [
  | inl starts ↦ rw starts (omega arith)
  | inr other ↦ rw other (let low = start_low m h in omega (arith, low))
]

-- since the last start, and from its place on
pub since_above : (m : Actor) (h : History) → served_above (length (before_start m h)) m h ≡ served_since m h
unfolding before_start served_since
since_above m [] = above_none m []
since_above m (e ∷ h) = elim (test_cases (same_actor e.actor m && is_start e.event)) [
  | inl starts ↦ rw starts
      (above_step (length h) m e h (omega arith)
      ∙ (ap (λ (l : List ServedAt). l ++ served_above (length h) m h) (by_other m h e (start_no_answer m e.event (and_second (same_actor e.actor m) (is_start e.event) starts)))
      ∙ above_none m h))
  | inr other ↦ rw other
      (above_step (length (before_start m h)) m e h (start_low m h)
      ∙ ap (λ (l : List ServedAt). served_by m h e ++ l) (since_above m h))
]

-- what was served for a mover was served by an entry of the history, which its actor's table allows
pub record Entered (config : Config) (m : Actor) (h : History) (s : ServedAt) : Type 0 where
  pub time : Option ℕ
  pub stands : StandsOver (entry s.by s.reading (Serve m s.asked s.reply time s.append)) s.before h
  pub allowed : Allowed config s.before s.by s.reading (Serve m s.asked s.reply time s.append)

entered_now : (config : Config) (m : Actor) (h : History) (a : Actor) (reading : Option ℕ) (event : Event) (s : ServedAt) → Allowed config h a reading event → Member s (served_by m h (entry a reading event)) → Entered config m (entry a reading event ∷ h) s
entered_now config m h a reading (Serve from asked r time append) s ok here = elim (same_cases from m) [
  | inl same ↦
      let there : Member s ((record { by = a; reading = reading; asked = asked; reply = r; append = append; before = h }) ∷ []) = rw same.0 at here in
      subst (λ (u : ServedAt). Entered config m (entry a reading (Serve from asked r time append) ∷ h) u) (sym (one_of s _ there))
      (record { time = time; stands = inl (ap (λ (f : Actor). entry a reading (Serve f asked r time append)) same.1, refl); allowed = subst (λ (f : Actor). Allowed config h a reading (Serve f asked r time append)) same.1 ok })
  | inr differ ↦ let none : Member s [] = rw differ.0 at here in absurd none
]
  where
    one_of : (u v : ServedAt) → Member u (v ∷ []) → u ≡ v
    one_of u v m = elim m [ inl is ↦ is | inr more ↦ absurd more ]
entered_now config m h a reading (Start number line) s ok here = absurd here
entered_now config m h a reading (Ask to asked) s ok here = absurd here
entered_now config m h a reading (Hear from r) s ok here = absurd here
entered_now config m h a reading (Tell number t) s ok here = absurd here
entered_now config m h a reading (Restarted from kept) s ok here = absurd here

pub entered : (config : Config) (m : Actor) (h : History) (s : ServedAt) → Steps config h → Member s (served_since m h) → Entered config m h s
unfolding served_since Steps
entered config m [] s steps here = absurd here
entered config m (e ∷ h) s steps here = elim (test_cases (same_actor e.actor m && is_start e.event)) [
  | inl starts ↦ let none : Member s [] = rw starts at here in absurd none
  | inr other ↦
      let both : Member s (served_by m h e ++ served_since m h) = rw other at here in
      elim (member_cases s (served_by m h e) (served_since m h) both) [
        | inl now ↦ entered_now config m h e.actor e.reading e.event s steps.1 now
        | inr more ↦ let before = entered config m h s steps.0 more in record { time = before.time; stands = inr before.stands; allowed = before.allowed }
      ]
]
