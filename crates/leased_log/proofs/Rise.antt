-- Where a table allows all entries of an actor, the times of those that count rise, and its lease covers them.
use Rattle.std.proofs.Common.{◌≡◌, ℕ, ◌+◌, ◌*◌, ◌<◌, ◌≤◌, ◌⊎◌, Bool, true, false, cond, [], ◌∷◌, Option, Some, None, nat_lt, refl, sym, ap, subst, ◌∙◌, inl, inr, if◌then◌else◌, arith}
use Rattle.std.proofs.lemmas.Bool.{ltb-true, ltb-false, leb-false}
use Rattle.hybrid_time.specs.Time.{micros_of}
use Rattle.txn_data.specs.declared.actor.Actor.{Actor}
use Rattle.txn_data.specs.declared.event.Event.{Event}
use Rattle.txn_data.specs.declared.event.Event.TheVariants.{Serve, Restarted}
use Rattle.txn_data.specs.declared.entry.Entry.{Entry}
use Rattle.txn_types.specs.Lists.{Member, or_zero}
use Rattle.txn_types.specs.History.{History, kept_by, event_counts, append_counts, counting}
use Rattle.txn_types.specs.Clock.{holds, lease_with, lease_after, lease_over, lease_end, last_time, last_after, has_given, given_after, has_failed}
use Rattle.safe_time.specs.Course.{IsLater, IsLeased}
use Rattle.tablet_log.specs.Rests.{RestsDown}
use Rattle.tablet_log.proofs.Replayed.{lease_is}
use Rattle.tablet_log.proofs.Restarted.{counting_if, counting_all, counting_same}
use Rattle.leased_log.specs.Allows.{AllowsNext, AllowsAll}
use Rattle.leased_log.specs.Times.{takes_own, time_taken, StandsOver, IsPast, Rise, AreLeased}
use Rattle.leased_log.specs.Laws.{TimesRise, TimesAreLeased}
use Rattle.leased_log.proofs.Parts.{up_is_whole}
use Rattle.leased_log.proofs.Taken.{Taken, taken_served}

-- ---- the lease

now_due : (due : Bool) (end lease time : ℕ) → nat_lt end (micros_of time) ≡ due → IsLeased (if due then Some (micros_of time + lease) else Some end) time
now_due true end lease time is = omega arith
now_due false end lease time is = ltb-false end (micros_of time) is

leased_now : (lease : ℕ) (end : Option ℕ) (time : ℕ) → IsLeased (lease_with lease end time) time
leased_now lease None time = omega arith
leased_now lease (Some end) time = now_due (nat_lt end (micros_of time)) end lease time refl

still_due : (due : Bool) (end lease time x : ℕ) → nat_lt end (micros_of time) ≡ due → micros_of x ≤ end → IsLeased (if due then Some (micros_of time + lease) else Some end) x
still_due true end lease time x is below = let later : end < micros_of time = ltb-true end (micros_of time) is in omega (arith, below)
still_due false end lease time x is below = below

leased_still : (lease : ℕ) (end : Option ℕ) (time x : ℕ) → IsLeased end x → IsLeased (lease_with lease end time) x
leased_still lease None time x below = absurd below
leased_still lease (Some end) time x below = still_due (nat_lt end (micros_of time)) end lease time x refl below

new_lease : (lease : ℕ) (end : Option ℕ) (event : Event) (x : ℕ) → time_taken event ≡ Some x → IsLeased (lease_after lease end event) x
new_lease lease end (Serve from asked r (Some time) append) x is = let e : time ≡ x = cc in subst (λ (t : ℕ). IsLeased (lease_with lease end time) t) e (leased_now lease end time)
new_lease lease end (Serve from asked r None append) x is = cc
new_lease lease end event x is = cc

old_lease : (lease : ℕ) (end : Option ℕ) (event : Event) (x : ℕ) → IsLeased end x → IsLeased (lease_after lease end event) x
old_lease lease end (Serve from asked r (Some time) append) x below = leased_still lease end time x below
old_lease lease end (Serve from asked r None append) x below = below
old_lease lease end event x below = below

leased : (lease : ℕ) (h : History) → AreLeased (lease_over lease h) h
unfolding lease_over
leased lease [] e x there is = absurd there
leased lease (f ∷ h) e x there is = elim there [
  | inl same ↦ new_lease lease (lease_over lease h) f.event x (sym (ap (λ (g : Entry). time_taken g.event) same) ∙ is)
  | inr more ↦ old_lease lease (lease_over lease h) f.event x (leased lease h e x more is)
]

-- ---- the last time is the greatest, once one was given since the last restart

abbrev IsTop : History → Type 0
IsTop h = has_given h ≡ true → (kept : Bool) (e : Entry) (x : ℕ) → Member e (counting_if kept h) → time_taken e.event ≡ Some x → x ≤ last_time h

is_later : (own : Bool) (x time : ℕ) → x < time → IsLater own time x
is_later true x time past = past
is_later false x time past = omega (arith, past)

later_still : (own : Bool) (x last time : ℕ) → IsLater own time last → x ≤ last → IsLater own time x
later_still true x last time later below = omega (arith, later, below)
later_still false x last time later below = omega (arith, later, below)

not_below : (own : Bool) (x time : ℕ) → IsLater own time x → x ≤ time
not_below true x time later = omega (arith, later)
not_below false x time later = later

past_lease : (end : Option ℕ) (reading x time : ℕ) → holds end false reading ≡ false → IsLeased end x → reading * 4096 ≤ time → x < time
past_lease None reading x time free below read = absurd below
past_lease (Some end) reading x time free below read = let later : end < reading = leb-false reading end free in omega (arith, below, later, read)

-- a time that is taken now is past all that count
past_by : (lease : ℕ) (a : Actor) (h : History) (own : Bool) (reading time : ℕ) → IsTop h → RestsDown a h → has_failed h ≡ false → Taken lease h own reading time
    → (given : Bool) → has_given h ≡ given → (kept : Bool) (e : Entry) (x : ℕ) → Member e (counting_if kept h) → time_taken e.event ≡ Some x → IsLater own time x
past_by lease a h own reading time top rests whole t true gave kept e x there is = later_still own x (last_time h) time t.later (top gave kept e x there is)
past_by lease a h own reading time top rests whole t false gave kept e x there is =
    let counts : Member e (counting h) = subst (λ (l : History). Member e l) (counting_same h whole kept ∙ sym (counting_all a h rests)) there in
    let free : holds (lease_end lease h) false reading ≡ false = ap (λ (g : Bool). holds (lease_end lease h) g reading) (sym gave) ∙ t.free in
    is_later own x time (past_lease (lease_end lease h) reading x time free (leased lease (counting h) e x counts is) t.read)

-- an event over the entries before it, which its table allows
past : (lease : ℕ) (a : Actor) (h : History) (reading : Option ℕ) (event : Event) (time : ℕ) → IsTop h → RestsDown a h → AllowsNext lease a h reading event → time_taken event ≡ Some time
    → (kept : Bool) (e : Entry) (x : ℕ) → Member e (counting_if (kept_by event kept) h) → time_taken e.event ≡ Some x → IsPast event x time
past lease a h reading (Serve from asked r (Some t) append) time top rests served taken kept e x there is =
    let same : t ≡ time = cc in
    let up = taken_served lease a h reading asked r t append served in
    subst (λ (y : ℕ). IsLater (takes_own asked) y x) same
    (past_by lease a h (takes_own asked) (or_zero reading) t top rests (up_is_whole h up.up) up.taken (has_given h) refl kept e x there is)
past lease a h reading (Serve from asked r None append) time top rests served taken kept e x there is = cc
past lease a h reading event time top rests served taken kept e x there is = cc

member_if : (counts : Bool) (e f : Entry) (h : History) → Member e (cond counts (f ∷ h) h) → (e ≡ f) ⊎ Member e h
member_if true e f h there = there
member_if false e f h there = inr there

abbrev counting_with : Bool → Entry → Event → History → History
counting_with kept f event h = cond (event_counts event kept) (f ∷ counting_if (kept_by event kept) h) (counting_if (kept_by event kept) h)

top_after : (lease : ℕ) (a : Actor) (h : History) (f : Entry) (event : Event) → f.event ≡ event → IsTop h → RestsDown a h → AllowsNext lease a h f.reading event
    → given_after (has_given h) event ≡ true → (kept : Bool) (e : Entry) (x : ℕ) → Member e (counting_with kept f event h) → time_taken e.event ≡ Some x → x ≤ last_after (last_time h) event
top_after lease a h f (Serve from asked r (Some time) append) same top rests served gave kept e x there is =
    elim (member_if (append_counts append kept) e f (counting_if kept h) there) [
      | inl here ↦
          let taken : time_taken e.event ≡ Some time = ap (λ (g : Entry). time_taken g.event) here ∙ ap time_taken same in
          let eq : x ≡ time = cc in omega arith
      | inr more ↦
          let later = past lease a h f.reading (Serve from asked r (Some time) append) time top rests served refl kept e x more is in
          let below : x ≤ time = not_below (takes_own asked) x time later in omega (arith, below)
    ]
top_after lease a h f (Serve from asked r None append) same top rests served gave kept e x there is =
    elim (member_if (append_counts append kept) e f (counting_if kept h) there) [
      | inl here ↦ let taken : time_taken e.event ≡ None = ap (λ (g : Entry). time_taken g.event) here ∙ ap time_taken same in cc
      | inr more ↦ top gave kept e x more is
    ]
top_after lease a h f (Restarted from k) same top rests served gave kept e x there is = cc
top_after lease a h f event same top rests served gave kept e x there is = absurd served

is_top : (lease : ℕ) (a : Actor) (h : History) → AllowsAll lease a h → RestsDown a h → IsTop h
unfolding counting_if has_given last_time AllowsAll RestsDown
is_top lease a [] all rests = λ gave. cc
is_top lease a (f ∷ h) all rests = λ gave kept e x there is.
    top_after lease a h f f.event refl (is_top lease a h all.0 rests.0) rests.0 all.1 gave kept e x there is

-- ---- the times rise

over_if : (counts : Bool) (f g : Entry) (before h : History) → StandsOver f before (cond counts (g ∷ h) h) → ((g ≡ f) × (h ≡ before)) ⊎ StandsOver f before h
over_if true f g before h over = over
over_if false f g before h over = inr over

rise : (lease : ℕ) (a : Actor) (h : History) → AllowsAll lease a h → RestsDown a h → (kept : Bool) → Rise (counting_if kept h)
unfolding counting_if AllowsAll RestsDown
rise lease a [] all rests kept before e f earlier later over there is taken = absurd over
rise lease a (g ∷ h) all rests kept before e f earlier later over there is taken =
    elim (over_if (event_counts g.event kept) f g before (counting_if (kept_by g.event kept) h) over) [
      | inl here ↦
          let at : Member e (counting_if (kept_by g.event kept) h) = subst (λ (l : History). Member e l) (sym here.1) there in
          let took : time_taken g.event ≡ Some later = ap (λ (n : Entry). time_taken n.event) here.0 ∙ taken in
          subst (λ (n : Entry). IsPast n.event earlier later) here.0
          (past lease a h g.reading g.event later (is_top lease a h all.0 rests.0) rests.0 all.1 took kept e earlier at is)
      | inr more ↦ rise lease a h all.0 rests.0 (kept_by g.event kept) before e f earlier later more there is taken
    ]

pub times_rise : TimesRise
times_rise a s bytes faults h st = subst Rise (sym (counting_all a h st.own)) (rise s.clock.lease a h st.allowed st.own false)

pub times_are_leased : TimesAreLeased
times_are_leased a s bytes faults h st = subst (λ (end : Option ℕ). AreLeased end (counting h)) (sym (lease_is s.clock.lease h)) (leased s.clock.lease (counting h))
