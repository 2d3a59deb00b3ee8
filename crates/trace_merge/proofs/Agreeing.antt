-- In a run the first read that fails is the one that the walk found.
use Rattle.std.proofs.Common.{◌≡◌, ℕ, ◌+◌, ◌<◌, ◌≤◌, max, Bool, true, false, ◌&&◌, [], ◌∷◌, ◌++◌, Option, Some, None, nat_lt, length, refl, sym, ◌∙◌, ap, subst, inl, inr, ◌⊎◌, if◌then◌else◌, arith}
use Rattle.std.proofs.lemmas.Bool.{ltb-true, ltb-false}
use Rattle.txn_data.specs.declared.actor.Actor.{Actor}
use Rattle.txn_data.specs.declared.actor.Actor.TheVariants.{Session}
use Rattle.txn_data.specs.declared.told.Told.TheVariants as told
use Rattle.txn_data.specs.declared.event.Event.{Event}
use Rattle.txn_data.specs.declared.event.Event.TheVariants.{Tell}
use Rattle.txn_data.specs.declared.entry.Entry.{Entry}
use Rattle.txn_data.specs.declared.config.Config.{Config}
use Rattle.txn_types.specs.Lists.{Member, or_else, or_zero}
use Rattle.txn_types.specs.History.{History, same_actor, is_start}
use Rattle.txn_types.specs.Reads.{Read, reads_by, reads, before_start, reading_after, origin, own_reading, ReadsUpTo, SkewHeld}
use Rattle.txn_types.specs.Run.{Run}
use Rattle.law_machines.proofs.Basics.{member_cases}
use Rattle.law_own_readings.specs.Laws.{is_began, last_begin, origin_by, reading_since, ShowsOrigin, OriginsShow}
use Rattle.trace_merge.specs.Clocks.{is_above, place_if, first_above, shown_at, FailsFirst, ClocksAgree}
use Rattle.trace_merge.specs.Seen.{greatest, seen_origin, seen_own, Meets, FailedFirst, JudgedFirst}
use Rattle.trace_merge.specs.declared.failed_read.FailedRead.{FailedRead}

-- ## readings up to a bound, and the first above it

up_to_reading : (most k : ℕ) (reading : Option ℕ) → max k (or_zero reading) ≤ most → ReadsUpTo most reading
up_to_reading most k None le = tt
up_to_reading most k (Some r) le = omega (arith, le)

up_to : (most : ℕ) (h : History) (e : Entry) → greatest h ≤ most → Member e h → ReadsUpTo most e.reading
unfolding greatest
up_to most [] e le m = absurd m
up_to most (f ∷ h) e le m = elim m [
  | inl is ↦ subst (λ (g : Entry). ReadsUpTo most g.reading) (sym is) (up_to_reading most (greatest h) f.reading le)
  | inr more ↦ up_to most h e (omega (arith, le)) more
]

above_reading : (most k place : ℕ) (reading : Option ℕ) → most < max k (or_zero reading) → (most < k → ⊥) → is_above most reading ≡ true
above_reading most k place None lt low = absurd (low (omega (arith, lt)))
above_reading most k place (Some r) lt low = choice (nat_lt most r) refl
  where
    choice : (b : Bool) → nat_lt most r ≡ b → nat_lt most r ≡ true
    choice true is = is
    choice false is = let le = ltb-false most r is in absurd (low (omega (arith, lt, le)))

or_some : (o p : Option ℕ) (n : ℕ) → o ≡ Some n → or_else o p ≡ Some n
or_some (Some k) p n is = is
or_some None p n is = cc

-- a history with a reading above it has a first one
pub record Found (most : ℕ) (h : History) : Type 0 where
  pub place : ℕ
  pub is : first_above most h ≡ Some place

found_choice : (most : ℕ) (e : Entry) (h : History) (o : Option ℕ) → first_above most h ≡ o → (is_above most e.reading ≡ true) ⊎ Found most h → Found most (e ∷ h)
unfolding first_above
found_choice most e h (Some p) is either = record { place = p; is = or_some (first_above most h) (place_if (is_above most e.reading) (length h)) p is }
found_choice most e h None is (inl above) = record { place = length h; is = rw (is, above) refl }
found_choice most e h None is (inr found) = let there = found.is in cc

lt_cases : (a b : ℕ) → (a < b) ⊎ (a < b → ⊥)
lt_cases a b = choice (nat_lt a b) refl
  where
    choice : (c : Bool) → nat_lt a b ≡ c → (a < b) ⊎ (a < b → ⊥)
    choice true is = inl (ltb-true a b is)
    choice false is = inr (λ lt. let le = ltb-false a b is in omega (arith, lt, le))

found : (most : ℕ) (h : History) → most < greatest h → Found most h
unfolding greatest
found most [] lt = absurd (omega (arith, lt))
found most (e ∷ h) lt = elim (lt_cases most (greatest h)) [
  | inl deeper ↦ found_choice most e h (first_above most h) refl (inr (found most h deeper))
  | inr low ↦ found_choice most e h (first_above most h) refl (inl (above_reading most (greatest h) (length h) e.reading lt low))
]

-- and its readings are not all up to the bound
not_up_to : (most : ℕ) (h : History) → most < greatest h → ((e : Entry) → Member e h → ReadsUpTo most e.reading) → ⊥
unfolding greatest
not_up_to most [] lt all = omega (arith, lt)
not_up_to most (e ∷ h) lt all = elim (lt_cases most (greatest h)) [
  | inl deeper ↦ not_up_to most h deeper (λ f m. all f (inr m))
  | inr low ↦ reading_never e.reading (all e (inl refl)) lt low
]
  where
    reading_never : (reading : Option ℕ) → ReadsUpTo most reading → most < max (greatest h) (or_zero reading) → (most < greatest h → ⊥) → ⊥
    reading_never None up lt low = low (omega (arith, lt))
    reading_never (Some r) up lt low = low (omega (arith, lt, up))

-- ## the first of an older part is the first of all

above_more : (most : ℕ) (e : Entry) (h : History) (p : ℕ) → first_above most h ≡ Some p → first_above most (e ∷ h) ≡ Some p
unfolding first_above
above_more most e h p is = or_some (first_above most h) (place_if (is_above most e.reading) (length h)) p is

pub above_later : (most : ℕ) (later h : History) (p : ℕ) → first_above most h ≡ Some p → first_above most (later ++ h) ≡ Some p
above_later most [] h p is = is
above_later most (e ∷ later) h p is = above_more most e (later ++ h) p (above_later most later h p is)

above_start : (most : ℕ) (a : Actor) (h : History) (p : ℕ) → first_above most (before_start a h) ≡ Some p → first_above most h ≡ Some p
unfolding before_start
above_start most a [] p is = is
above_start most a (e ∷ h) p is = above_more most e h p (choice (same_actor e.actor a && is_start e.event) (above_start most a h p) is)
  where
    choice : (b : Bool) → (first_above most (before_start a h) ≡ Some p → first_above most h ≡ Some p) → first_above most (if b then h else before_start a h) ≡ Some p → first_above most h ≡ Some p
    choice true older there = there
    choice false older there = older there

above_begin : (most : ℕ) (a : Actor) (h : History) (p : ℕ) → first_above most (last_begin a h) ≡ Some p → first_above most h ≡ Some p
unfolding last_begin
above_begin most a [] p is = is
above_begin most a (e ∷ h) p is = above_more most e h p (choice (same_actor e.actor a && is_began e.event) (above_begin most a h p) is)
  where
    choice : (b : Bool) → (first_above most (last_begin a h) ≡ Some p → first_above most h ≡ Some p) → first_above most (if b then before_start a h else last_begin a h) ≡ Some p → first_above most h ≡ Some p
    choice true older there = above_start most a h p there
    choice false older there = older there

above_origin : (most : ℕ) (read : Read) (own : Option ℕ) (p : ℕ) → first_above most (origin_by read own) ≡ Some p → first_above most read.before ≡ Some p
above_origin most read (Some r) p is = above_start most (Session read.session) read.before p is
above_origin most read None p is = above_begin most (Session read.session) read.before p is

above_event : (most : ℕ) (h : History) (a : Actor) (event : Event) (read : Read) (p : ℕ) → Member read (reads_by h a event) → first_above most read.before ≡ Some p → first_above most h ≡ Some p
above_event most h (Session i) (Tell number (told.Values at restarts rows)) read p m is = elim m [
  | inl one ↦ subst (λ (r : Read). first_above most r.before ≡ Some p) one is
  | inr none ↦ absurd none
]
above_event most h a event read p m is = absurd m

above_read : (most : ℕ) (h : History) (read : Read) (p : ℕ) → Member read (reads h) → first_above most read.before ≡ Some p → first_above most h ≡ Some p
unfolding reads
above_read most [] read p m is = absurd m
above_read most (e ∷ h) read p m is = above_more most e h p (elim (member_cases read (reads_by h e.actor e.event) (reads h) m) [
  | inl new ↦ above_event most h e.actor e.event read p new is
  | inr old ↦ above_read most h read p old is
])

-- ## in a run

own_is : (config : Config) (read : Read) → ShowsOrigin config read → own_reading config read ≡ seen_own read
own_is config read shows = ap (λ (low : History). or_zero (reading_after (Session read.session) (length low) read.before)) shows.origin

meets_held : (config : Config) (skew : ℕ) (read : Read) → ShowsOrigin config read → Meets skew read → SkewHeld config skew read
meets_held config skew read shows meets = λ e m.
    let most : seen_own read + skew ≡ own_reading config read + skew = ap (λ (n : ℕ). n + skew) (sym (own_is config read shows)) in
    subst (λ (n : ℕ). ReadsUpTo n e.reading) most
    (up_to (seen_own read + skew) (seen_origin read) e meets (subst (λ (low : History). Member e low) shows.origin m))

fails_held : (config : Config) (skew : ℕ) (read : Read) → ShowsOrigin config read → seen_own read + skew < greatest (seen_origin read) → SkewHeld config skew read → ⊥
fails_held config skew read shows above held =
    not_up_to (seen_own read + skew) (seen_origin read) above
    (λ e m. subst (λ (n : ℕ). ReadsUpTo (n + skew) e.reading) (own_is config read shows) (held e (subst (λ (low : History). Member e low) (sym shows.origin) m)))

pub agree_none : OriginsShow → (config : Config) (skew : ℕ) (h : History) → Run config h → JudgedFirst skew h None → ClocksAgree config skew h None
agree_none law config skew h run judged read m = let shows = law config h read run m in meets_held config skew read shows (judged read m shows.session.1)

shown_is : (config : Config) (skew : ℕ) (h : History) (read : Read) (own : ℕ) → ShowsOrigin config read → Member read (reads h) → seen_own read ≡ own → seen_own read + skew < greatest (seen_origin read) → (p : Option ℕ) → first_above (own + skew) h ≡ p →
    shown_at config skew read ≡ p
shown_is config skew h read own shows m same above p is =
    let f = found (seen_own read + skew) (seen_origin read) above in
    let most : seen_own read + skew ≡ own + skew = ap (λ (n : ℕ). n + skew) same in
    let there : first_above (seen_own read + skew) h ≡ Some f.place = above_read (seen_own read + skew) h read f.place m (above_origin (seen_own read + skew) read (reading_since read) f.place f.is) in
    let place : Some f.place ≡ p = sym there ∙ (ap (λ (n : ℕ). first_above n h) most ∙ is) in
    ap (λ (n : ℕ). first_above (n + skew) (origin config read)) (own_is config read shows)
    ∙ (ap (λ (low : History). first_above (seen_own read + skew) low) shows.origin ∙ (f.is ∙ place))

found_read : (config : Config) (skew : ℕ) (h : History) (f : FailedRead) (j : FailedFirst skew h f) → ShowsOrigin config j.read → Found (f.own + skew) h
found_read config skew h f j shows =
    let fails = j.fails in
    let most : seen_own j.read + skew ≡ f.own + skew = ap (λ (n : ℕ). n + skew) fails.own in
    let g = found (seen_own j.read + skew) (seen_origin j.read) fails.above in
    record {
      place = g.place;
      is = ap (λ (n : ℕ). first_above n h) (sym most) ∙ above_read (seen_own j.read + skew) h j.read g.place j.finished (above_origin (seen_own j.read + skew) j.read (reading_since j.read) g.place g.is);
    }

pub agree_never : OriginsShow → (config : Config) (skew : ℕ) (h : History) (f : FailedRead) → Run config h → FailedFirst skew h f → first_above (f.own + skew) h ≡ None → ⊥
agree_never law config skew h f run judged none =
    let g = found_read config skew h f judged (law config h judged.read run judged.finished) in
    let there = g.is in cc

pub agree_some : OriginsShow → (config : Config) (skew : ℕ) (h : History) (f : FailedRead) (p : ℕ) → Run config h → FailedFirst skew h f → first_above (f.own + skew) h ≡ Some p → FailsFirst config skew h f.start p
agree_some law config skew h f p run judged is =
    let shows = law config h judged.read run judged.finished in
    let fails = judged.fails in
    record {
      read = judged.read;
      finished = judged.finished;
      start = fails.start;
      fails = fails_held config skew judged.read shows fails.above;
      shown = shown_is config skew h judged.read f.own shows judged.finished fails.own fails.above (Some p) is;
      first = λ other m before. let there = law config h other run m in meets_held config skew other there (judged.first other m there.session.1 before);
    }
