-- The times of a machine that count: its lease covers them, its last time is the greatest, and the next one is past them.
use Rattle.std.proofs.Common.{◌≡◌, ℕ, ◌+◌, ◌<◌, ◌≤◌, Bool, true, false, cond, [], ◌∷◌, Option, Some, None, nat_lt, refl, sym, ◌∙◌, ap, subst, inl, inr, if◌then◌else◌, arith}
use Rattle.std.proofs.lemmas.Bool.{ltb-true, ltb-false, leb-false}
use Rattle.hybrid_time.specs.Time.{time_at, micros_of}
use Rattle.txn_data.specs.declared.actor.Actor.{Actor}
use Rattle.txn_data.specs.declared.event.Event.{Event}
use Rattle.txn_data.specs.declared.event.Event.TheVariants.{Start, Ask, Serve, Hear, Tell, Restarted}
use Rattle.txn_data.specs.declared.entry.Entry.{Entry}
use Rattle.txn_types.specs.Lists.{Member, or_zero}
use Rattle.txn_types.specs.History.{History, kept_by, event_counts, append_counts, counting}
use Rattle.txn_types.specs.Clock.{holds, Kind, Own, lease_with, lease_after, lease_over, lease_end, last_time, last_after, has_given, given_after}
use Rattle.law_machines.specs.Own.{piece, time_of, ServesNext, ServesAll}
use Rattle.law_machines.proofs.Basics.{test_cases}
use Rattle.law_machines.proofs.Pieces.{no_piece}
use Rattle.law_machines.proofs.Counted.{counted, counting_own, AllOf, decided, choice_member}
use Rattle.law_clocks.specs.Laws.{IsCovered, IsPast, kind_of, floor_of, floor_at}
use Rattle.law_clocks.proofs.Took.{given, TookTime, took}

-- ## the lease

covered_choice : (b : Bool) (end lease t : ℕ) → nat_lt end (micros_of t) ≡ b → IsCovered (if b then Some (micros_of t + lease) else Some end) t
covered_choice true end lease t is = omega arith
covered_choice false end lease t is = ltb-false end (micros_of t) is

covered_now : (lease : ℕ) (end : Option ℕ) (t : ℕ) → IsCovered (lease_with lease end t) t
covered_now lease None t = omega arith
covered_now lease (Some end) t = covered_choice (nat_lt end (micros_of t)) end lease t refl

still_choice : (b : Bool) (end lease t x : ℕ) → nat_lt end (micros_of t) ≡ b → micros_of x ≤ end → IsCovered (if b then Some (micros_of t + lease) else Some end) x
still_choice true end lease t x is below = let l : end < micros_of t = ltb-true end (micros_of t) is in omega (arith, below)
still_choice false end lease t x is below = below

covered_still : (lease : ℕ) (end : Option ℕ) (t x : ℕ) → IsCovered end x → IsCovered (lease_with lease end t) x
covered_still lease None t x covered = absurd covered
covered_still lease (Some end) t x covered = still_choice (nat_lt end (micros_of t)) end lease t x refl covered

new_lease : (lease : ℕ) (end : Option ℕ) (event : Event) (x : ℕ) → time_of event ≡ Some x → IsCovered (lease_after lease end event) x
new_lease lease end (Serve from asked r (Some t) append) x is = let e : t ≡ x = cc in subst (λ (y : ℕ). IsCovered (lease_with lease end t) y) e (covered_now lease end t)
new_lease lease end (Serve from asked r None append) x is = cc
new_lease lease end (Restarted from kept) x is = cc
new_lease lease end (Start number line) x is = cc
new_lease lease end (Ask to asked) x is = cc
new_lease lease end (Hear from r) x is = cc
new_lease lease end (Tell number t) x is = cc

old_lease : (lease : ℕ) (end : Option ℕ) (event : Event) (x : ℕ) → IsCovered end x → IsCovered (lease_after lease end event) x
old_lease lease end (Serve from asked r (Some t) append) x covered = covered_still lease end t x covered
old_lease lease end (Serve from asked r None append) x covered = covered
old_lease lease end (Restarted from kept) x covered = covered
old_lease lease end (Start number line) x covered = covered
old_lease lease end (Ask to asked) x covered = covered
old_lease lease end (Hear from r) x covered = covered
old_lease lease end (Tell number t) x covered = covered

-- the lease over some entries covers the time of each of them
pub covers : (lease : ℕ) (l : History) (e : Entry) (x : ℕ) → Member e l → time_of e.event ≡ Some x → IsCovered (lease_over lease l) x
unfolding lease_over
covers lease [] e x m is = absurd m
covers lease (f ∷ l) e x m is = elim m [
  | inl same ↦ new_lease lease (lease_over lease l) f.event x (sym (ap (λ (g : Entry). time_of g.event) same) ∙ is)
  | inr more ↦ old_lease lease (lease_over lease l) f.event x (covers lease l e x more is)
]

-- ## the greatest time

-- once a time was given since the last restart, the last time is not below any that counts or may yet count
abbrev pub IsTop : History → Type 0
IsTop o = has_given o ≡ true → (kept : Bool) (e : Entry) (x : ℕ) → Member e (counted kept o) → time_of e.event ≡ Some x → x ≤ last_time o

below_reading : (end : Option ℕ) (g : Bool) (r x : ℕ) → g ≡ false → holds end g r ≡ false → IsCovered end x → x < time_at r 0
below_reading None g r x never free covered = absurd covered
below_reading (Some end) true r x never free covered = cc
below_reading (Some end) false r x never free covered = let l : end < r = leb-false r end free in omega (arith, covered)

-- a time that is taken now is past all that count
pub above : (lease : ℕ) (a : Actor) (o : History) (kind : Kind) (floor r y : ℕ) → IsTop o → AllOf a o → TookTime lease o kind floor r y → piece o ≡ None →
    (kept : Bool) (e : Entry) (x : ℕ) → Member e (counted kept o) → time_of e.event ≡ Some x → (x ≤ y) × (kind ≡ Own → x < y)
above lease a o kind floor r y top mine t none kept e x m is =
    let g = given kind (last_time o) floor r y t.clock in
    elim (test_cases (has_given o)) [
      | inl giving ↦
          let le = top giving kept e x m is in
          (omega (arith, le, g.last_below), λ own. omega (arith, le, g.last_past own))
      | inr never ↦
          let here : Member e (counting o) = subst (λ (l : History). Member e l) (decided kept false o none ∙ sym (counting_own a o mine)) m in
          let lt = below_reading (lease_end lease o) (has_given o) r x never t.free (covers lease (counting o) e x here is) in
          (omega (arith, lt, g.read), λ own. omega (arith, lt, g.read))
    ]

abbrev own_counted : Bool → Entry → Event → History → History
own_counted kept e event o = cond (event_counts event kept) (e ∷ counted (kept_by event kept) o) (counted (kept_by event kept) o)

top_event : (lease : ℕ) (a : Actor) (o : History) (f : Entry) (event : Event) → f.event ≡ event → AllOf a o → IsTop o → ServesNext lease a o f.reading event →
    given_after (has_given o) event ≡ true → (kept : Bool) (e : Entry) (x : ℕ) → Member e (own_counted kept f event o) → time_of e.event ≡ Some x → x ≤ last_after (last_time o) event
top_event lease a o f (Serve from asked r (Some y) append) same mine top served gave kept e x m is =
    let t = took lease a o f.reading asked r y append served in
    elim (choice_member (append_counts append kept) e f (counted kept o) m) [
      | inl here ↦
          let time : time_of e.event ≡ Some y = ap (λ (g : Entry). time_of g.event) here.1 ∙ ap time_of same in
          let eq : x ≡ y = cc in omega arith
      | inr more ↦
          let p = above lease a o (kind_of asked) (floor_of asked) (or_zero f.reading) y top mine t.took (no_piece o t.up) kept e x more is in omega (arith, p.0)
    ]
top_event lease a o f (Serve from asked r None append) same mine top served gave kept e x m is =
    elim (choice_member (append_counts append kept) e f (counted kept o) m) [
      | inl here ↦ let time : time_of e.event ≡ None = ap (λ (g : Entry). time_of g.event) here.1 ∙ ap time_of same in cc
      | inr more ↦ top gave kept e x more is
    ]
top_event lease a o f (Restarted from k) same mine top served gave kept e x m is = cc
top_event lease a o f (Start number line) same mine top served gave kept e x m is = top gave kept e x m is
top_event lease a o f (Ask to asked) same mine top served gave kept e x m is = top gave kept e x m is
top_event lease a o f (Hear from r) same mine top served gave kept e x m is = top gave kept e x m is
top_event lease a o f (Tell number t) same mine top served gave kept e x m is = top gave kept e x m is

pub is_top : (lease : ℕ) (a : Actor) (o : History) → ServesAll lease a o → AllOf a o → IsTop o
unfolding counted has_given last_time ServesAll AllOf
is_top lease a [] all mine = λ gave. cc
is_top lease a (f ∷ o) all mine = λ gave kept e x m is.
    top_event lease a o f f.event refl mine.0 (is_top lease a o all.0 mine.0) all.2 gave kept e x m is

-- ## an entry over those before it

pub past_counted : (lease : ℕ) (a : Actor) (o : History) (reading : Option ℕ) (event : Event) (y : ℕ) → ServesAll lease a o → AllOf a o → ServesNext lease a o reading event → time_of event ≡ Some y →
    (e : Entry) (x : ℕ) → Member e (counted false o) → time_of e.event ≡ Some x → IsPast event x y
past_counted lease a o reading (Serve from asked r (Some z) append) y all mine served is e x m time =
    let eq : z ≡ y = cc in
    let t = took lease a o reading asked r z append served in
    subst (λ (w : ℕ). (x ≤ w) × (kind_of asked ≡ Own → x < w)) eq
    (above lease a o (kind_of asked) (floor_of asked) (or_zero reading) z (is_top lease a o all mine) mine t.took (no_piece o t.up) false e x m time)
past_counted lease a o reading (Serve from asked r None append) y all mine served is e x m time = cc
past_counted lease a o reading (Restarted from k) y all mine served is e x m time = cc
past_counted lease a o reading (Start number line) y all mine served is e x m time = cc
past_counted lease a o reading (Ask to asked) y all mine served is e x m time = cc
past_counted lease a o reading (Hear from r) y all mine served is e x m time = cc
past_counted lease a o reading (Tell number t) y all mine served is e x m time = cc

pub past_floor : (lease : ℕ) (a : Actor) (o : History) (reading : Option ℕ) (event : Event) (y : ℕ) → ServesNext lease a o reading event → time_of event ≡ Some y → IsPast event (floor_at event) y
past_floor lease a o reading (Serve from asked r (Some z) append) y served is =
    let eq : z ≡ y = cc in
    let t = took lease a o reading asked r z append served in
    let g = given (kind_of asked) (last_time o) (floor_of asked) (or_zero reading) z t.took.clock in
    subst (λ (w : ℕ). (floor_of asked ≤ w) × (kind_of asked ≡ Own → floor_of asked < w)) eq (g.floor_below, g.floor_past)
past_floor lease a o reading (Serve from asked r None append) y served is = cc
past_floor lease a o reading (Restarted from k) y served is = cc
past_floor lease a o reading (Start number line) y served is = cc
past_floor lease a o reading (Ask to asked) y served is = cc
past_floor lease a o reading (Hear from r) y served is = cc
past_floor lease a o reading (Tell number t) y served is = cc

-- a machine that takes a time has no piece
pub timed_whole : (lease : ℕ) (a : Actor) (o : History) (reading : Option ℕ) (event : Event) (y : ℕ) → ServesNext lease a o reading event → time_of event ≡ Some y → piece o ≡ None
timed_whole lease a o reading (Serve from asked r (Some z) append) y served is = no_piece o (took lease a o reading asked r z append served).up
timed_whole lease a o reading (Serve from asked r None append) y served is = cc
timed_whole lease a o reading (Restarted from k) y served is = cc
timed_whole lease a o reading (Start number line) y served is = cc
timed_whole lease a o reading (Ask to asked) y served is = cc
timed_whole lease a o reading (Hear from r) y served is = cc
timed_whole lease a o reading (Tell number t) y served is = cc
