-- What counts of a machine's own entries depends on what follows by one fact: whether its next restart kept what failed.
use Rattle.std.proofs.Common.{◌≡◌, Bool, true, false, cond, [], ◌∷◌, Option, None, refl, sym, ◌∙◌, ap, subst, inl, inr, ◌⊎◌, if◌then◌else◌}
use Rattle.txn_data.specs.declared.actor.Actor.{Actor}
use Rattle.txn_data.specs.declared.append.Append.TheVariants.{Nothing, Took, Failed}
use Rattle.txn_data.specs.declared.event.Event.{Event}
use Rattle.txn_data.specs.declared.event.Event.TheVariants.{Start, Ask, Serve, Hear, Tell, Restarted}
use Rattle.txn_data.specs.declared.entry.Entry.{Entry}
use Rattle.txn_types.specs.Lists.{Member}
use Rattle.txn_types.specs.History.{History, same_actor, own, kept_by, next_restart_kept, event_counts, counting_before, counting}
use Rattle.law_machines.specs.Own.{piece, piece_after, StandsOver}
use Rattle.law_machines.proofs.Basics.{same_cases, same_of}

-- what counts of one machine's entries, where this is whether the next restart kept what failed
unfoldable pub counted : Bool → History → History
counted kept [] = []
counted kept (e ∷ o) = if event_counts e.event kept then e ∷ counted (kept_by e.event kept) o else counted (kept_by e.event kept) o

unfoldable pub AllOf : Actor → History → Type 0
AllOf a [] = Unit {0}
AllOf a (e ∷ o) = AllOf a o × (e.actor ≡ a)

pub own_all : (a : Actor) (h : History) → AllOf a (own a h)
unfolding AllOf
own_all a [] = tt
own_all a (e ∷ h) = elim (same_cases e.actor a) [
  | inl s ↦ rw s.0 (own_all a h, s.1)
  | inr s ↦ rw s.0 (own_all a h)
]

-- a choice between a list and the list with one more
choice_same : (b c : Bool) (e : Entry) (xs ys : History) → b ≡ c → xs ≡ ys → cond b (e ∷ xs) xs ≡ cond c (e ∷ ys) ys
choice_same b c e xs ys same is = rw (same, is) refl

kept_now : (a : Actor) (e : Entry) (later : History) → e.actor ≡ a → next_restart_kept a (e ∷ later) ≡ kept_by e.event (next_restart_kept a later)
unfolding next_restart_kept
kept_now a e later is = rw (same_of e.actor a is) refl

kept_past : (a : Actor) (e : Entry) (later : History) → same_actor e.actor a ≡ false → next_restart_kept a (e ∷ later) ≡ next_restart_kept a later
unfolding next_restart_kept
kept_past a e later is = rw is refl

counts_by : (a b : Actor) (event : Event) (later : History) → a ≡ b → event_counts event (next_restart_kept a later) ≡ event_counts event (next_restart_kept b later)
counts_by a b event later is = ap (λ (z : Actor). event_counts event (next_restart_kept z later)) is

-- of one machine's entries that are all its own
pub counts_own : (a : Actor) (later o : History) → AllOf a o → counting_before later o ≡ counted (next_restart_kept a later) o
unfolding AllOf counting_before counted
counts_own a later [] all = refl
counts_own a later (e ∷ o) all =
    choice_same (event_counts e.event (next_restart_kept e.actor later)) (event_counts e.event (next_restart_kept a later)) e
    (counting_before (e ∷ later) o) (counted (kept_by e.event (next_restart_kept a later)) o)
    (counts_by e.actor a e.event later all.1)
    (counts_own a (e ∷ later) o all.0 ∙ ap (λ (k : Bool). counted k o) (kept_now a e later all.1))

none_kept : (a : Actor) → next_restart_kept a [] ≡ false
unfolding next_restart_kept
none_kept a = refl

pub counting_own : (a : Actor) (o : History) → AllOf a o → counting o ≡ counted false o
counting_own a o all = counts_own a [] o all ∙ ap (λ (k : Bool). counted k o) (none_kept a)

-- what counts of the machine's own entries are its own entries that count
kept_own : (a : Actor) (later : History) → next_restart_kept a (own a later) ≡ next_restart_kept a later
unfolding next_restart_kept
kept_own a [] = refl
kept_own a (e ∷ later) = elim (same_cases e.actor a) [
  | inl s ↦ rw (s.0, s.0) (ap (λ (k : Bool). kept_by e.event k) (kept_own a later))
  | inr s ↦ rw s.0 (kept_own a later)
]

own_choice : (a : Actor) (b c : Bool) (e : Entry) (xs ys : History) → same_actor e.actor a ≡ true → b ≡ c → own a xs ≡ ys → own a (cond b (e ∷ xs) xs) ≡ cond c (e ∷ ys) ys
own_choice a true c e xs ys s same is = subst (λ (d : Bool). own a (e ∷ xs) ≡ cond d (e ∷ ys) ys) same (rw s (ap (λ (l : History). e ∷ l) is))
own_choice a false c e xs ys s same is = subst (λ (d : Bool). own a xs ≡ cond d (e ∷ ys) ys) same is

other_choice : (a : Actor) (b : Bool) (e : Entry) (xs : History) → same_actor e.actor a ≡ false → own a (cond b (e ∷ xs) xs) ≡ own a xs
other_choice a true e xs s = rw s refl
other_choice a false e xs s = refl

own_more : (a : Actor) (e : Entry) (h : History) → same_actor e.actor a ≡ true → own a (e ∷ h) ≡ e ∷ own a h
own_more a e h s = rw s refl

own_past : (a : Actor) (e : Entry) (h : History) → same_actor e.actor a ≡ false → own a (e ∷ h) ≡ own a h
own_past a e h s = rw s refl

kept_same : (a b : Actor) (event : Event) (later : History) → b ≡ a → event_counts event (next_restart_kept b later) ≡ event_counts event (next_restart_kept b (own a later))
kept_same a b event later is =
    subst (λ (z : Actor). event_counts event (next_restart_kept z later) ≡ event_counts event (next_restart_kept z (own a later))) (sym is)
    (ap (λ (k : Bool). event_counts event k) (sym (kept_own a later)))

counting_apart : (a : Actor) (later h : History) → own a (counting_before later h) ≡ counting_before (own a later) (own a h)
unfolding counting_before
counting_apart a later [] = refl
counting_apart a later (e ∷ h) = elim (same_cases e.actor a) [
  | inl s ↦
      own_choice a (event_counts e.event (next_restart_kept e.actor later)) (event_counts e.event (next_restart_kept e.actor (own a later))) e
      (counting_before (e ∷ later) h) (counting_before (e ∷ own a later) (own a h)) s.0 (kept_same a e.actor e.event later s.1)
      (counting_apart a (e ∷ later) h ∙ ap (λ (l : History). counting_before l (own a h)) (own_more a e later s.0))
      ∙ ap (λ (l : History). counting_before (own a later) l) (sym (own_more a e h s.0))
  | inr s ↦
      other_choice a (event_counts e.event (next_restart_kept e.actor later)) e (counting_before (e ∷ later) h) s.0
      ∙ (counting_apart a (e ∷ later) h ∙ (ap (λ (l : History). counting_before l (own a h)) (own_past a e later s.0)
      ∙ ap (λ (l : History). counting_before (own a later) l) (sym (own_past a e h s.0))))
]

pub own_counting : (a : Actor) (h : History) → own a (counting h) ≡ counted false (own a h)
own_counting a h = counting_apart a [] h ∙ counting_own a (own a h) (own_all a h)

-- where no piece is left, all is decided
decided_event : (kept : Bool) (q : Option Entry) (e : Entry) (event : Event) (o : History) → (q ≡ None → (k l : Bool) → counted k o ≡ counted l o) → piece_after q e event ≡ None →
    cond (event_counts event kept) (e ∷ counted (kept_by event kept) o) (counted (kept_by event kept) o)
    ≡ cond (event_counts event false) (e ∷ counted (kept_by event false) o) (counted (kept_by event false) o)
decided_event kept q e (Serve from asked r time Nothing) o before none = ap (λ (l : History). e ∷ l) (before none kept false)
decided_event kept q e (Serve from asked r time Took) o before none = ap (λ (l : History). e ∷ l) (before none kept false)
decided_event kept q e (Serve from asked r time Failed) o before none = cc
decided_event kept q e (Restarted from k) o before none = refl
decided_event kept q e (Start number line) o before none = before none kept false
decided_event kept q e (Ask to asked) o before none = before none kept false
decided_event kept q e (Hear from r) o before none = before none kept false
decided_event kept q e (Tell number t) o before none = before none kept false

decided_false : (kept : Bool) (o : History) → piece o ≡ None → counted kept o ≡ counted false o
unfolding counted piece
decided_false kept [] none = refl
decided_false kept (e ∷ o) none =
    decided_event kept (piece o) e e.event o (λ before k l. decided_false k o before ∙ sym (decided_false l o before)) none

pub decided : (k l : Bool) (o : History) → piece o ≡ None → counted k o ≡ counted l o
decided k l o none = decided_false k o none ∙ sym (decided_false l o none)

-- what counted where no piece was left counts for good
pub member_choice : (b : Bool) (e f : Entry) (xs : History) → Member e xs → Member e (cond b (f ∷ xs) xs)
member_choice true e f xs m = inr m
member_choice false e f xs m = m

pub choice_member : (b : Bool) (e f : Entry) (xs : History) → Member e (cond b (f ∷ xs) xs) → ((b ≡ true) × (e ≡ f)) ⊎ Member e xs
choice_member true e f xs m = elim m [ inl is ↦ inl (refl, is) | inr n ↦ inr n ]
choice_member false e f xs m = inr m

pub counts_for_good : (e f : Entry) (before o : History) (kept : Bool) → piece before ≡ None → Member e (counted false before) → StandsOver f before o → Member e (counted kept o)
unfolding counted
counts_for_good e f before [] kept none m stands = absurd stands
counts_for_good e f before (g ∷ o) kept none m stands = member_choice (event_counts g.event kept) e g (counted (kept_by g.event kept) o) (elim stands [
  | inl here ↦ subst (λ (l : History). Member e (counted (kept_by g.event kept) l)) (sym here.1)
      (subst (λ (l : History). Member e l) (decided false (kept_by g.event kept) before none) m)
  | inr deeper ↦ counts_for_good e f before o (kept_by g.event kept) none m deeper
])

-- an entry that counts is one of them
pub counted_member : (e : Entry) (kept : Bool) (o : History) → Member e (counted kept o) → Member e o
unfolding counted
counted_member e kept [] m = absurd m
counted_member e kept (f ∷ o) m = elim (choice_member (event_counts f.event kept) e f (counted (kept_by f.event kept) o) m) [
  | inl here ↦ inl here.1
  | inr more ↦ inr (counted_member e (kept_by f.event kept) o more)
]

-- an entry whose append did not fail counts
abbrev pub WasServed : Event → Type 0
WasServed (Serve from asked r time Nothing) = Unit {0}
WasServed (Serve from asked r time Took) = Unit {0}
WasServed event = ⊥

served_counts : (event : Event) (kept : Bool) → WasServed event → event_counts event kept ≡ true
served_counts (Serve from asked r time Nothing) kept ok = refl
served_counts (Serve from asked r time Took) kept ok = refl
served_counts (Serve from asked r time Failed) kept ok = absurd ok
served_counts (Restarted from k) kept ok = absurd ok
served_counts (Start number line) kept ok = absurd ok
served_counts (Ask to asked) kept ok = absurd ok
served_counts (Hear from r) kept ok = absurd ok
served_counts (Tell number t) kept ok = absurd ok

pub counts_served : (e : Entry) (kept : Bool) (o : History) → Member e o → WasServed e.event → Member e (counted kept o)
unfolding counted
counts_served e kept [] m ok = absurd m
counts_served e kept (f ∷ o) m ok = elim m [
  | inl is ↦
      let c : event_counts f.event kept ≡ true = subst (λ (g : Entry). event_counts g.event kept ≡ true) is (served_counts e.event kept ok) in
      rw c (inl is)
  | inr more ↦ member_choice (event_counts f.event kept) e f (counted (kept_by f.event kept) o) (counts_served e (kept_by f.event kept) o more ok)
]
