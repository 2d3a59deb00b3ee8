-- Each course of a clock is sound: its times are leased, and none is above the last one.
use Rattle.std.proofs.Common.{◌≡◌, ℕ, ◌+◌, ◌*◌, ◌%◌, ◌<◌, ◌≤◌, max, Bool, true, false, cond, ltb, eqb, ◌⊎◌, List, [], ◌∷◌, Option, Some, None, Result, Ok, Err, refl, sym, ap, subst, ◌∙◌, arith, inl, inr}
use Rattle.std.proofs.lemmas.Bool.{ltb-true, ltb-false, leb-false}
use Rattle.hybrid_time.specs.Time.{micros_of, time_at, time_after}
use Rattle.hybrid_time.specs.declared.time_refusal.TimeRefusal.{TimeRefusal}
use Rattle.hybrid_time.specs.declared.time_refusal.TimeRefusal.TheVariants.{ClockFull, ClockRange}
use Rattle.txn_types.specs.Lists.{or_else, or_zero}
use Rattle.txn_types.specs.Clock.{holds, lease_due, clock_time}
use Rattle.safe_time.specs.declared.step.Step.{Step}
use Rattle.safe_time.specs.declared.clock_refusal.ClockRefusal.{ClockRefusal}
use Rattle.safe_time.specs.declared.clock_refusal.ClockRefusal.TheVariants.{LeaseHeld}
use Rattle.safe_time.specs.ActorClock.{ClockState, kind_of, lease_for, step_of, served, restarted}
use Rattle.safe_time.specs.Course.{Happening, Takes, Fails, Restarts, Course, takes, fails, decided, unless_down, after, course, IsLater, AllLater, IsLeased, AllLeased}

-- which way a test went
chosen : {A : Type 0} (b : Bool) (x y z : A) → cond b x y ≡ z → ((b ≡ true) × (x ≡ z)) ⊎ ((b ≡ false) × (y ≡ z))
chosen true x y z e = inl (refl, e)
chosen false x y z e = inr (refl, e)

abbrev done : {A E : Type 0} → A → Result A E
done x = Ok x

ok_is : {A E : Type 0} (x y : A) → ◌≡◌ {A = Result A E} (Ok x) (Ok y) → x ≡ y
ok_is x y e = cc

-- ---- what a step tells

-- what the rules of the clock give is later than the last time where it ticks, else not earlier, and not before the reading
abbrev IsTime : Bool → ℕ → ℕ → ℕ → Type 0
IsTime tick last reading time = IsLater tick time last × (reading * 4096 ≤ time)

after_is : (b reading time : ℕ) → time_after b reading ≡ Ok time → (b < time) × (reading * 4096 ≤ time)
after_is b reading time e =
    elim (chosen (ltb (micros_of b) reading) (Ok (time_at reading 0)) (cond (eqb (b % 4096) 4095) (Err (ClockFull b)) (Ok (b + 1))) (Ok time) e) [
      | inl a ↦
          let is = ok_is (time_at reading 0) time a.1 in
          let later : micros_of b < reading = ltb-true _ _ a.0 in
          (omega (arith, is, later), omega (arith, is))
      | inr a ↦ elim (chosen (eqb (b % 4096) 4095) (Err (ClockFull b)) (Ok (b + 1)) (Ok time) a.1) [
        | inl c ↦ absurd cc
        | inr c ↦
            let is = ok_is (b + 1) time c.1 in
            let early : reading ≤ micros_of b = ltb-false _ _ a.0 in
            (omega (arith, is), omega (arith, is, early))
      ]
    ]

time_is : (tick : Bool) (last floor reading time : ℕ) → clock_time (kind_of tick) last floor reading ≡ Ok time → IsTime tick last reading time
time_is true last floor reading time e =
    elim (chosen (ltb 4000000000000000 reading) (Err (ClockRange reading)) (time_after (max last floor) reading) (Ok time) e) [
      | inl a ↦ absurd cc
      | inr a ↦
          let t = after_is (max last floor) reading time a.1 in
          (omega (arith, t.0), t.1)
    ]
time_is false last floor reading time e =
    elim (chosen (ltb 4000000000000000 reading) (Err (ClockRange reading)) (Ok (max (max last floor) (time_at reading 0))) (Ok time) e) [
      | inl a ↦ absurd cc
      | inr a ↦
          let is = ok_is (max (max last floor) (time_at reading 0)) time a.1 in
          (omega (arith, is), omega (arith, is))
    ]

pub record IsServed (c : ClockState) (reading floor : ℕ) (tick : Bool) (step : Step) : Type 0 where
  pub free : holds c.until c.given reading ≡ false
  pub time : IsTime tick c.last reading step.time
  pub lease : step.lease ≡ lease_for c step.time

step_is : (c : ClockState) (r : Result ℕ TimeRefusal) (step : Step) → step_of c r ≡ Ok step → (r ≡ Ok step.time) × (step.lease ≡ lease_for c step.time)
step_is c (Ok time) step e =
    let is = ok_is (record { time = time; lease = lease_for c time }) step e in
    (ap (λ (s : Step). Ok s.time) is, sym (ap (λ (s : Step). s.lease) is) ∙ ap (λ (s : Step). lease_for c s.time) is)
step_is c (Err d) step e = absurd cc

pub served_is : (c : ClockState) (reading floor : ℕ) (tick : Bool) (step : Step) → served c reading floor tick ≡ Ok step → IsServed c reading floor tick step
served_is c reading floor tick step e =
    elim (chosen (holds c.until c.given reading) (Err (LeaseHeld (or_zero c.until))) (step_of c (clock_time (kind_of tick) c.last floor reading)) (Ok step) e) [
      | inl a ↦ absurd cc
      | inr a ↦
          let s = step_is c (clock_time (kind_of tick) c.last floor reading) step a.1 in
          record { free = a.0; time = time_is tick c.last floor reading step.time s.0; lease = s.1 }
    ]

-- ---- leases

all_leased_longer : (end longer : ℕ) (ts : List ℕ) → end ≤ longer → AllLeased (Some end) ts → AllLeased (Some longer) ts
all_leased_longer end longer [] le leased = tt
all_leased_longer end longer (t ∷ ts) le leased = (omega (arith, leased.0), all_leased_longer end longer ts le leased.1)

none_leased : (end : Option ℕ) (ts : List ℕ) → AllLeased None ts → AllLeased end ts
none_leased end [] leased = tt
none_leased end (t ∷ ts) leased = absurd leased.0

abbrev lease_with : ℕ → Option ℕ → ℕ → Option ℕ
lease_with lease until time = or_else (cond (lease_due until time) (Some (micros_of time + lease)) None) until

leased_with : (lease time : ℕ) (until : Option ℕ) (ts : List ℕ) → AllLeased until ts → IsLeased (lease_with lease until time) time × AllLeased (lease_with lease until time) ts
leased_with lease time None ts leased = (omega arith, none_leased (Some (micros_of time + lease)) ts leased)
leased_with lease time (Some end) ts leased =
    elim (ltb end (micros_of time)) as (λ (b : Bool). ltb end (micros_of time) ≡ b → IsLeased (or_else (cond b (Some (micros_of time + lease)) None) (Some end)) time × AllLeased (or_else (cond b (Some (micros_of time + lease)) None) (Some end)) ts) [
      | true ↦ λ due.
          let later : end < micros_of time = ltb-true _ _ due in
          (omega arith, all_leased_longer end (micros_of time + lease) ts (omega (arith, later)) leased)
      | false ↦ λ due.
          let early : micros_of time ≤ end = ltb-false _ _ due in
          (early, leased)
    ] refl

-- ---- times rise

all_later_given : (tick : Bool) (last time : ℕ) (ts : List ℕ) → IsLater tick time last → AllLater false last ts → AllLater tick time ts
all_later_given tick last time [] later below = tt
all_later_given true last time (t ∷ ts) later below = (omega (arith, below.0), all_later_given true last time ts later below.1)
all_later_given false last time (t ∷ ts) later below = (omega (arith, below.0), all_later_given false last time ts later below.1)

all_later_leased : (tick : Bool) (end reading time : ℕ) (ts : List ℕ) → end < reading → reading * 4096 ≤ time → AllLeased (Some end) ts → AllLater tick time ts
all_later_leased tick end reading time [] past at leased = tt
all_later_leased true end reading time (t ∷ ts) past at leased = (omega (arith, leased.0), all_later_leased true end reading time ts past at leased.1)
all_later_leased false end reading time (t ∷ ts) past at leased = (omega (arith, leased.0), all_later_leased false end reading time ts past at leased.1)

none_later : (tick : Bool) (time : ℕ) (ts : List ℕ) → AllLeased None ts → AllLater tick time ts
none_later tick time [] leased = tt
none_later tick time (t ∷ ts) leased = absurd leased.0

-- either a time was given since the restart, or the reading is above the end of the lease
all_later : (tick : Bool) (until : Option ℕ) (given : Bool) (last reading time : ℕ) (ts : List ℕ) → holds until given reading ≡ false → IsTime tick last reading time
    → AllLeased until ts → (given ≡ true → AllLater false last ts) → AllLater tick time ts
all_later tick until true last reading time ts free is leased below = all_later_given tick last time ts is.0 (below refl)
all_later tick None false last reading time ts free is leased below = none_later tick time ts leased
all_later tick (Some end) false last reading time ts free is leased below =
    let past : end < reading = leb-false _ _ free in
    all_later_leased tick end reading time ts past is.1 leased

-- ---- each course is sound

abbrev SoundPiece : Course → Option Step → Type 0
SoundPiece s None = Unit {0}
SoundPiece s (Some step) = IsLeased (or_else step.lease s.logged) step.time × AllLeased (or_else step.lease s.logged) s.counted

pub record Sound (s : Course) : Type 0 where
  pub same : s.clock.until ≡ s.logged
  pub leased : AllLeased s.logged s.counted
  pub below : s.clock.given ≡ true → AllLater false s.clock.last s.counted
  pub piece : SoundPiece s s.failed

-- what a step of a sound course tells
pub record GoodStep (s : Course) (tick : Bool) (step : Step) : Type 0 where
  pub leased : IsLeased (or_else step.lease s.logged) step.time
  pub others : AllLeased (or_else step.lease s.logged) s.counted
  pub later : AllLater tick step.time s.counted
  pub last : s.clock.last ≤ step.time

not_below : (tick : Bool) (last time : ℕ) → IsLater tick time last → last ≤ time
not_below true last time later = omega arith
not_below false last time later = later

pub good_step : (s : Course) (reading floor : ℕ) (tick : Bool) (step : Step) → Sound s → served s.clock reading floor tick ≡ Ok step → GoodStep s tick step
good_step s reading floor tick step sound e =
    let is = served_is s.clock reading floor tick step e in
    let lease : or_else step.lease s.logged ≡ lease_with s.clock.lease s.clock.until step.time = ap (λ (l : Option ℕ). or_else l s.logged) is.lease ∙ ap (λ (u : Option ℕ). or_else (lease_for s.clock step.time) u) (sym sound.same) in
    let leased : AllLeased s.clock.until s.counted = subst (λ (u : Option ℕ). AllLeased u s.counted) (sym sound.same) sound.leased in
    let both = leased_with s.clock.lease step.time s.clock.until s.counted leased in
    record {
      leased = subst (λ (u : Option ℕ). IsLeased u step.time) (sym lease) both.0;
      others = subst (λ (u : Option ℕ). AllLeased u s.counted) (sym lease) both.1;
      later = all_later tick s.clock.until s.clock.given s.clock.last reading step.time s.counted is.free is.time leased sound.below;
      last = not_below tick s.clock.last step.time is.time.0;
    }

all_not_above : (tick : Bool) (time : ℕ) (ts : List ℕ) → AllLater tick time ts → AllLater false time ts
all_not_above tick time [] later = tt
all_not_above true time (t ∷ ts) later = (omega (arith, later.0), all_not_above true time ts later.1)
all_not_above false time (t ∷ ts) later = later

sound_takes : (s : Course) (reading floor : ℕ) (tick : Bool) (r : Result Step ClockRefusal) → Sound s → s.failed ≡ None → served s.clock reading floor tick ≡ r → Sound (takes s r)
sound_takes s reading floor tick (Err d) sound up e = sound
sound_takes s reading floor tick (Ok step) sound up e =
    let g = good_step s reading floor tick step sound e in
    let last : max s.clock.last step.time ≡ step.time = omega (arith, g.last) in
    record {
      same = ap (or_else step.lease) sound.same;
      leased = (g.leased, g.others);
      below = λ given. subst (λ (n : ℕ). AllLater false n (step.time ∷ s.counted)) (sym last) (omega arith, all_not_above tick step.time s.counted g.later);
      piece = subst (SoundPiece (takes s (Ok step))) (sym up) tt;
    }

sound_fails : (s : Course) (reading floor : ℕ) (tick : Bool) (r : Result Step ClockRefusal) → Sound s → served s.clock reading floor tick ≡ r → Sound (fails s r)
sound_fails s reading floor tick (Err d) sound e = sound
sound_fails s reading floor tick (Ok step) sound e =
    let g = good_step s reading floor tick step sound e in
    record { same = sound.same; leased = sound.leased; below = sound.below; piece = (g.leased, g.others) }

sound_restarts : (s : Course) (kept : Bool) (failed : Option Step) → Sound s → SoundPiece s failed
    → Sound (let d = decided s kept failed in record d { clock = restarted s.clock d.logged; failed = None })
sound_restarts s true (Some step) sound piece = record { same = refl; leased = piece; below = λ given. absurd cc; piece = tt }
sound_restarts s true None sound piece = record { same = refl; leased = sound.leased; below = λ given. absurd cc; piece = tt }
sound_restarts s false (Some step) sound piece = record { same = refl; leased = sound.leased; below = λ given. absurd cc; piece = tt }
sound_restarts s false None sound piece = record { same = refl; leased = sound.leased; below = λ given. absurd cc; piece = tt }

sound_unless : (s : Course) (failed : Option Step) (next : Course) → Sound s → (failed ≡ None → Sound next) → Sound (unless_down s failed next)
sound_unless s (Some step) next sound then = sound
sound_unless s None next sound then = then refl

sound_after : (s : Course) (x : Happening) → Sound s → Sound (after s x)
sound_after s (Takes reading floor tick) sound =
    sound_unless s s.failed (takes s (served s.clock reading floor tick)) sound (λ up. sound_takes s reading floor tick (served s.clock reading floor tick) sound up refl)
sound_after s (Fails reading floor tick) sound =
    sound_unless s s.failed (fails s (served s.clock reading floor tick)) sound (λ up. sound_fails s reading floor tick (served s.clock reading floor tick) sound refl)
sound_after s (Restarts kept) sound = sound_restarts s kept s.failed sound sound.piece

pub sound : (lease : ℕ) (xs : List Happening) → Sound (course lease xs)
unfolding course
sound lease [] = record { same = refl; leased = tt; below = λ given. tt; piece = tt }
sound lease (x ∷ xs) = sound_after (course lease xs) x (sound lease xs)

pub rising : (lease : ℕ) (xs : List Happening) (reading floor : ℕ) (tick : Bool) (step : Step) → (course lease xs).failed ≡ None → served (course lease xs).clock reading floor tick ≡ Ok step
    → AllLater tick step.time (course lease xs).counted
rising lease xs reading floor tick step up e = (good_step (course lease xs) reading floor tick step (sound lease xs) e).later

pub leased : (lease : ℕ) (xs : List Happening) → AllLeased (course lease xs).logged (course lease xs).counted
leased lease xs = (sound lease xs).leased

pub leased_step : (lease : ℕ) (xs : List Happening) (reading floor : ℕ) (tick : Bool) (step : Step) → served (course lease xs).clock reading floor tick ≡ Ok step
    → IsLeased (or_else step.lease (course lease xs).logged) step.time
leased_step lease xs reading floor tick step e = (good_step (course lease xs) reading floor tick step (sound lease xs) e).leased
