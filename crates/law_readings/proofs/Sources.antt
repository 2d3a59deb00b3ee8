-- A machine's clock gives the microseconds of its last time, of a floor, or of a reading, and no others.
use Rattle.std.proofs.Common.{◌≡◌, ◌≢◌, ℕ, ◌+◌, ◌<◌, ◌≤◌, max, Bool, true, false, [], ◌∷◌, Option, Some, None, Ok, Err, nat_lt, nat_eq, refl, sym, ◌∙◌, ap, subst, inl, inr, ◌⊎◌, if◌then◌else◌, arith}
use Rattle.std.proofs.lemmas.Bool.{eqb-false, cases_lt}
use Rattle.hybrid_time.specs.Time.{time_after, time_at, micros_of, logical_of, greatest_reading}
use Rattle.hybrid_time.specs.declared.time_refusal.TimeRefusal.TheVariants.{ClockFull, ClockRange}
use Rattle.txn_data.specs.declared.actor.Actor.{Actor}
use Rattle.txn_data.specs.declared.event.Event.{Event}
use Rattle.txn_data.specs.declared.event.Event.TheVariants.{Start, Ask, Serve, Hear, Tell, Restarted}
use Rattle.txn_data.specs.declared.entry.Entry.{Entry}
use Rattle.txn_types.specs.Lists.{or_zero}
use Rattle.txn_types.specs.History.{History, own}
use Rattle.txn_types.specs.Clock.{clock_time, Kind, Own, Floor, last_time, last_after}
use Rattle.law_machines.specs.Own.{time_of, ServesNext, ServesAll}
use Rattle.law_machines.proofs.Basics.{same_refl}
use Rattle.law_machines.proofs.Owns.{serves_at, serves_before}
use Rattle.law_clocks.specs.Laws.{kind_of, floor_of, floor_at}
use Rattle.law_clocks.proofs.Took.{took, chosen_least}
use Rattle.law_readings.specs.Laws.{ComesFrom, TimesComeFrom}

-- ## the clock

abbrev Of : ℕ → ℕ → ℕ → ℕ → Type 0
Of last floor r m = (m ≡ micros_of last) ⊎ (m ≡ micros_of floor) ⊎ (m ≡ r)

read_micros : (r : ℕ) → micros_of (time_at r 0) ≡ r
read_micros r = omega arith

same_micros : (b : ℕ) → logical_of b ≢ 4095 → micros_of (b + 1) ≡ micros_of b
same_micros b below = omega (arith, below)

of_greater : (last floor r m : ℕ) → m ≡ micros_of (max last floor) → Of last floor r m
of_greater last floor r m is = elim (cases_lt last floor) [
  | inl lt ↦ inr (inl (is ∙ ap micros_of (max_right lt)))
  | inr ge ↦ inl (is ∙ ap micros_of (max_left ge))
]
  where
    max_right : last < floor → max last floor ≡ floor
    max_right lt = omega (arith, lt)

    max_left : floor ≤ last → max last floor ≡ last
    max_left ge = omega (arith, ge)

chosen_after : (t u : Bool) (last floor r c : ℕ) → nat_eq (logical_of (max last floor)) 4095 ≡ u →
    (if t then Ok (time_at r 0) else (if u then Err (ClockFull (max last floor)) else Ok (max last floor + 1))) ≡ Ok c → Of last floor r (micros_of c)
chosen_after true u last floor r c full is = let e : time_at r 0 ≡ c = cc in inr (inr (ap micros_of (sym e) ∙ read_micros r))
chosen_after false true last floor r c full is = cc
chosen_after false false last floor r c full is =
    let e : max last floor + 1 ≡ c = cc in
    of_greater last floor r (micros_of c) (ap micros_of (sym e) ∙ same_micros (max last floor) (eqb-false (logical_of (max last floor)) 4095 full))

chosen_next : (t : Bool) (last floor r c : ℕ) → (if t then Err (ClockRange r) else time_after (max last floor) r) ≡ Ok c → Of last floor r (micros_of c)
chosen_next true last floor r c is = cc
chosen_next false last floor r c is = chosen_after (nat_lt (micros_of (max last floor)) r) (nat_eq (logical_of (max last floor)) 4095) last floor r c refl is

greater_least : (last floor r : ℕ) → Of last floor r (micros_of (max (max last floor) (time_at r 0)))
greater_least last floor r = elim (cases_lt (max last floor) (time_at r 0)) [
  | inl lt ↦ inr (inr (ap micros_of (read_greater lt) ∙ read_micros r))
  | inr ge ↦ of_greater last floor r _ (ap micros_of (read_lesser ge))
]
  where
    read_greater : max last floor < time_at r 0 → max (max last floor) (time_at r 0) ≡ time_at r 0
    read_greater lt = omega (arith, lt)

    read_lesser : time_at r 0 ≤ max last floor → max (max last floor) (time_at r 0) ≡ max last floor
    read_lesser ge = omega (arith, ge)

clock_of : (kind : Kind) (last floor r c : ℕ) → clock_time kind last floor r ≡ Ok c → Of last floor r (micros_of c)
clock_of Own last floor r c is = chosen_next (nat_lt greatest_reading r) last floor r c is
clock_of Floor last floor r c is =
    let e : max (max last floor) (time_at r 0) ≡ c = chosen_least (nat_lt greatest_reading r) (max (max last floor) (time_at r 0)) r c is in
    subst (λ (d : ℕ). Of last floor r (micros_of d)) e (greater_least last floor r)

-- ## over its own entries

from_more : (e : Entry) (o : History) (m : ℕ) → ComesFrom o m → ComesFrom (e ∷ o) m
from_more e o m from = elim from [
  | inl zero_is ↦ inl zero_is
  | inr some ↦ elim some [
    | inl read ↦ inr (inl (read.0, inr read.1, read.2))
    | inr floor ↦ inr (inr (floor.0, inr floor.1, floor.2))
  ]
]

from_reading : (e : Entry) (o : History) (reading : Option ℕ) → e.reading ≡ reading → ComesFrom (e ∷ o) (or_zero reading)
from_reading e o None is = inl refl
from_reading e o (Some r) is = inr (inl (e, inl refl, is))

from_clock : (e : Entry) (o : History) (last floor m : ℕ) → ComesFrom o (micros_of last) → micros_of (floor_at e.event) ≡ micros_of floor → Of last floor (or_zero e.reading) m → ComesFrom (e ∷ o) m
from_clock e o last floor m before at of = elim of [
  | inl is ↦ subst (λ (n : ℕ). ComesFrom (e ∷ o) n) (sym is) (from_more e o (micros_of last) before)
  | inr rest ↦ elim rest [
    | inl is ↦ inr (inr (e, inl refl, at ∙ sym is))
    | inr is ↦ subst (λ (n : ℕ). ComesFrom (e ∷ o) n) (sym is) (from_reading e o e.reading refl)
  ]
]

time_event : (lease : ℕ) (a : Actor) (o : History) (e : Entry) (event : Event) (y : ℕ) → e.event ≡ event → ServesNext lease a o e.reading event → ComesFrom o (micros_of (last_time o)) → time_of event ≡ Some y →
    ComesFrom (e ∷ o) (micros_of y)
time_event lease a o e (Serve from asked r (Some z) append) y same served before is =
    let eq : z ≡ y = cc in
    let t = took lease a o e.reading asked r z append served in
    subst (λ (w : ℕ). ComesFrom (e ∷ o) (micros_of w)) eq
    (from_clock e o (last_time o) (floor_of asked) (micros_of z) before (ap (λ (ev : Event). micros_of (floor_at ev)) same)
    (clock_of (kind_of asked) (last_time o) (floor_of asked) (or_zero e.reading) z t.took.clock))
time_event lease a o e (Serve from asked r None append) y same served before is = cc
time_event lease a o e (Restarted from k) y same served before is = cc
time_event lease a o e (Start number line) y same served before is = cc
time_event lease a o e (Ask to asked) y same served before is = cc
time_event lease a o e (Hear from r) y same served before is = cc
time_event lease a o e (Tell number t) y same served before is = cc

greater_from : (o : History) (m n : ℕ) → ComesFrom o (micros_of m) → ComesFrom o (micros_of n) → ComesFrom o (micros_of (max m n))
greater_from o m n one two = elim (cases_lt m n) [
  | inl lt ↦ subst (λ (k : ℕ). ComesFrom o (micros_of k)) (sym (right_is lt)) two
  | inr ge ↦ subst (λ (k : ℕ). ComesFrom o (micros_of k)) (sym (left_is ge)) one
]
  where
    right_is : m < n → max m n ≡ n
    right_is lt = omega (arith, lt)

    left_is : n ≤ m → max m n ≡ m
    left_is ge = omega (arith, ge)

last_event : (lease : ℕ) (a : Actor) (o : History) (e : Entry) (event : Event) → e.event ≡ event → ServesNext lease a o e.reading event → ComesFrom o (micros_of (last_time o)) →
    ComesFrom (e ∷ o) (micros_of (last_after (last_time o) event))
last_event lease a o e (Serve from asked r (Some z) append) same served before =
    greater_from (e ∷ o) (last_time o) z (from_more e o (micros_of (last_time o)) before) (time_event lease a o e (Serve from asked r (Some z) append) z same served before refl)
last_event lease a o e (Serve from asked r None append) same served before = from_more e o (micros_of (last_time o)) before
last_event lease a o e (Restarted from k) same served before = inl refl
last_event lease a o e (Start number line) same served before = from_more e o (micros_of (last_time o)) before
last_event lease a o e (Ask to asked) same served before = from_more e o (micros_of (last_time o)) before
last_event lease a o e (Hear from r) same served before = from_more e o (micros_of (last_time o)) before
last_event lease a o e (Tell number t) same served before = from_more e o (micros_of (last_time o)) before

pub last_from : (lease : ℕ) (a : Actor) (o : History) → ServesAll lease a o → ComesFrom o (micros_of (last_time o))
unfolding ServesAll last_time
last_from lease a [] all = inl refl
last_from lease a (e ∷ o) all = last_event lease a o e e.event refl all.2 (last_from lease a o all.0)

pub times_from : TimesComeFrom
times_from config h before f y run stands is =
    let a = f.actor in
    subst (λ (l : History). ComesFrom l (micros_of y)) (sym (own_first f before))
    (time_event config.lease_us a (own a before) f f.event y refl (serves_at config f before h run.1 stands)
    (last_from config.lease_us a (own a before) (serves_before config a f before h run.1 stands)) is)
  where
    own_first : (f : Entry) (before : History) → own f.actor (f ∷ before) ≡ f ∷ own f.actor before
    own_first f before = rw (same_refl f.actor) refl
