-- The first of the finished reads that fails, with one more entry.
use Rattle.std.proofs.Common.{◌≡◌, ℕ, ◌<◌, ◌≤◌, true, false, List, [], ◌∷◌, ◌++◌, Option, Some, None, refl, sym, ◌∙◌, ap, subst, inl, inr, ◌⊎◌, arith}
use Rattle.txn_data.specs.declared.actor.Actor.{Actor}
use Rattle.txn_data.specs.declared.actor.Actor.TheVariants.{Session}
use Rattle.txn_data.specs.declared.told.Told.TheVariants as told
use Rattle.txn_data.specs.declared.event.Event.{Event}
use Rattle.txn_data.specs.declared.event.Event.TheVariants.{Tell}
use Rattle.txn_data.specs.declared.entry.Entry.{Entry}
use Rattle.txn_types.specs.Lists.{Member}
use Rattle.txn_types.specs.History.{History}
use Rattle.txn_types.specs.Reads.{Read, reads_by, reads}
use Rattle.law_machines.proofs.Basics.{member_left, member_right, member_cases}
use Rattle.trace_merge.specs.Clocks.{start_place}
use Rattle.trace_merge.specs.Seen.{is_values, InTable, Meets, Fails, Judged, FailedFirst, JudgedFirst, IsEarlier}
use Rattle.trace_merge.specs.Tracks.{Tracks}
use Rattle.trace_merge.specs.declared.failed_read.FailedRead.{FailedRead}
use Rattle.trace_merge.specs.declared.session_clocks.SessionClocks.{SessionClocks}

reads_more : (e : Entry) (h : History) → reads (e ∷ h) ≡ reads_by h e.actor e.event ++ reads h
unfolding reads
reads_more e h = refl

old_read : (e : Entry) (h : History) (read : Read) → Member read (reads h) → Member read (reads (e ∷ h))
old_read e h read m = subst (λ (rs : List Read). Member read rs) (sym (reads_more e h)) (member_right read (reads_by h e.actor e.event) (reads h) m)

-- the reads that the entry finishes are none, or this one
abbrev pub Adds : Entry → History → List Read → Type 0
Adds e h new = reads_by h e.actor e.event ≡ new

read_cases : (e : Entry) (h : History) (new : List Read) (read : Read) → Adds e h new → Member read (reads (e ∷ h)) → Member read new ⊎ Member read (reads h)
read_cases e h new read adds m = member_cases read new (reads h) (subst (λ (rs : List Read). Member read (rs ++ reads h)) adds (subst (λ (rs : List Read). Member read rs) (reads_more e h) m))

-- a read of no session in the table counts for nothing
abbrev pub NoneInTable : List Read → Type 0
NoneInTable new = (read : Read) → Member read new → InTable read → ⊥

pub judged_old : (skew : ℕ) (e : Entry) (h : History) (new : List Read) (o : Option FailedRead) → Adds e h new → NoneInTable new → JudgedFirst skew h o → JudgedFirst skew (e ∷ h) o
judged_old skew e h new None adds none judged = λ read m numbered. elim (read_cases e h new read adds m) [
  | inl is ↦ absurd (none read is numbered)
  | inr old ↦ judged read old numbered
]
judged_old skew e h new (Some f) adds none judged = record {
  read = judged.read;
  finished = old_read e h judged.read judged.finished;
  numbered = judged.numbered;
  fails = judged.fails;
  first = λ other m numbered before. elim (read_cases e h new other adds m) [
    | inl is ↦ absurd (none other is numbered)
    | inr old ↦ judged.first other old numbered before
  ];
}

one_of : (read new : Read) → Member read (new ∷ []) → read ≡ new
one_of read new m = elim m [ inl is ↦ is | inr other ↦ absurd other ]

new_read : (e : Entry) (h : History) (new : Read) → Adds e h (new ∷ []) → Member new (reads (e ∷ h))
new_read e h new adds = subst (λ (rs : List Read). Member new rs) (sym (reads_more e h))
    (member_left new (reads_by h e.actor e.event) (reads h) (subst (λ (rs : List Read). Member new rs) (sym adds) (inl refl)))

keeps_old : (skew : ℕ) (e : Entry) (h : History) (new : Read) (f : FailedRead) → Adds e h (new ∷ []) → (start_place new < f.start → Meets skew new) → FailedFirst skew h f → FailedFirst skew (e ∷ h) f
keeps_old skew e h new f adds meets judged = record {
  read = judged.read;
  finished = old_read e h judged.read judged.finished;
  numbered = judged.numbered;
  fails = judged.fails;
  first = λ other m numbered before. elim (read_cases e h (new ∷ []) other adds m) [
    | inl is ↦ let same = one_of other new is in
        subst (λ (r : Read). Meets skew r) (sym same) (meets (subst (λ (r : Read). start_place r < f.start) same before))
    | inr old ↦ judged.first other old numbered before
  ];
}

takes_new : (skew : ℕ) (e : Entry) (h : History) (new : Read) (g : FailedRead) → Adds e h (new ∷ []) → InTable new → Fails skew new g → ((other : Read) → Member other (reads h) → InTable other → start_place other < g.start → Meets skew other) →
    FailedFirst skew (e ∷ h) g
takes_new skew e h new g adds numbered fails rest = record {
  read = new;
  finished = new_read e h new adds;
  numbered = numbered;
  fails = fails;
  first = λ other m in_table before. elim (read_cases e h (new ∷ []) other adds m) [
    | inl is ↦ let same = one_of other new is in
        let start = fails.start in
        let there : start_place new < g.start = subst (λ (r : Read). start_place r < g.start) same before in
        absurd (never (start_place new) g.start start there)
    | inr old ↦ rest other old in_table before
  ];
}
  where
    never : (a b : ℕ) → a ≡ b → a < b → ⊥
    never a b is lt = omega (arith, is, lt)

pub judged_new : (skew : ℕ) (e : Entry) (h : History) (new : Read) (old judged o : Option FailedRead) → Adds e h (new ∷ []) → InTable new → JudgedFirst skew h old → Judged skew new judged → IsEarlier old judged o → JudgedFirst skew (e ∷ h) o
judged_new skew e h new None None o adds numbered before now is = subst (λ (p : Option FailedRead). JudgedFirst skew (e ∷ h) p) (sym is)
    (λ read m in_table. elim (read_cases e h (new ∷ []) read adds m) [
      | inl one ↦ subst (λ (r : Read). Meets skew r) (sym (one_of read new one)) now
      | inr older ↦ before read older in_table
    ])
judged_new skew e h new None (Some g) o adds numbered before now is = subst (λ (p : Option FailedRead). JudgedFirst skew (e ∷ h) p) (sym is)
    (takes_new skew e h new g adds numbered now (λ other m in_table lt. before other m in_table))
judged_new skew e h new (Some f) None o adds numbered before now is = subst (λ (p : Option FailedRead). JudgedFirst skew (e ∷ h) p) (sym is)
    (keeps_old skew e h new f adds (λ lt. now) before)
judged_new skew e h new (Some f) (Some g) o adds numbered before now is = elim is [
  | inl taken ↦ subst (λ (p : Option FailedRead). JudgedFirst skew (e ∷ h) p) (sym taken.1)
      (takes_new skew e h new g adds numbered now (λ other m in_table lt. before.first other m in_table (less (start_place other) g.start f.start lt taken.0)))
  | inr kept ↦ subst (λ (p : Option FailedRead). JudgedFirst skew (e ∷ h) p) (sym kept.1)
      (keeps_old skew e h new f adds (λ lt. absurd (not_first (start_place new) g.start f.start now.start kept.0 lt)) before)
]
  where
    less : (a b c : ℕ) → a < b → b < c → a < c
    less a b c one two = omega (arith, one, two)

    not_first : (a b c : ℕ) → a ≡ b → c ≤ b → a < c → ⊥
    not_first a b c is le lt = omega (arith, is, le, lt)

-- ## one more entry

by_session : (h : History) (a : Actor) (event : Event) (read : Read) → Member read (reads_by h a event) → a ≡ Session read.session
by_session h (Session i) (Tell number (told.Values at restarts rows)) read m = elim m [
  | inl is ↦ ap (λ (r : Read). Session r.session) (sym is)
  | inr other ↦ absurd other
]
by_session h a event read m = absurd m

-- the entry is of no session in the table
pub judged_outside : (skew : ℕ) (e : Entry) (h : History) (o : Option FailedRead) → ((i : ℕ) → i ≤ 1000 → e.actor ≡ Session i → ⊥) → JudgedFirst skew h o → JudgedFirst skew (e ∷ h) o
judged_outside skew e h o outside judged = judged_old skew e h (reads_by h e.actor e.event) o refl (λ read m in_table. outside read.session in_table (by_session h e.actor e.event read m)) judged

none_by : (h : History) (a : Actor) (event : Event) → is_values event ≡ false → reads_by h a event ≡ []
none_by h (Session i) (Tell number (told.Values at restarts rows)) not = cc
none_by h a event not = refl

-- it finishes no read
pub judged_else : (skew : ℕ) (e : Entry) (h : History) (o : Option FailedRead) → is_values e.event ≡ false → JudgedFirst skew h o → JudgedFirst skew (e ∷ h) o
judged_else skew e h o not judged = judged_old skew e h [] o (none_by h e.actor e.event not) (λ read m in_table. m) judged

-- it finishes this one
record Finishes (i : ℕ) (h : History) (a : Actor) (event : Event) : Type 0 where
  pub read : Read
  pub session : read.session ≡ i
  pub before : read.before ≡ h
  pub adds : reads_by h a event ≡ read ∷ []

finished : (i : ℕ) (h : History) (event : Event) → is_values event ≡ true → Finishes i h (Session i) event
finished i h (Tell number (told.Values at restarts rows)) is = record {
  read = record { session = i; before = h; at = at; restarts = restarts; rows = rows };
  session = refl;
  before = refl;
  adds = refl;
}
finished i h event is = cc

pub judged_values : (skew i : ℕ) (e : Entry) (h : History) (c : SessionClocks) (old judged o : Option FailedRead) → e.actor ≡ Session i → i ≤ 1000 → is_values e.event ≡ true → JudgedFirst skew h old →
    ((read : Read) → Tracks read.session read.before c → Judged skew read judged) → Tracks i h c → IsEarlier old judged o → JudgedFirst skew (e ∷ h) o
judged_values skew i e h c old judged o mine numbered is before now tracks first =
    let f = finished i h e.event is in
    let adds : Adds e h (f.read ∷ []) = ap (λ (a : Actor). reads_by h a e.event) mine ∙ f.adds in
    let tracked : Tracks f.read.session f.read.before c = subst (λ (n : ℕ). Tracks n f.read.before c) (sym f.session) (subst (λ (g : History). Tracks i g c) (sym f.before) tracks) in
    judged_new skew e h f.read old judged o adds (subst (λ (n : ℕ). n ≤ 1000) (sym f.session) numbered) before (now f.read tracked) first
