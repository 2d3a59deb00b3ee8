-- One more entry of a walk.
use Rattle.std.proofs.Common.{◌≡◌, ℕ, ◌+◌, ◌<◌, Bool, true, false, not, List, [], ◌∷◌, ◌++◌, Option, None, length, get_or, set, if◌then◌else◌, filter, replicate, reverse, take, refl, sym, ap, subst, ◌∙◌, ◌⊎◌, inl, inr, arith, nat_eq, add_comm}
use Rattle.std.proofs.lemmas.List.{append-nil, get_or_default, get_or-set_same, get_or-set_other, length-set, get_or-replicate, length-replicate, take_more, reverse-append}
use Rattle.std.specs.List.{sum_by}
use Rattle.std.proofs.lemmas.List.Sums.{sum_by-cons}
use Rattle.std.proofs.lemmas.Bool.{eqb-true, eqb-false}
use Rattle.txn_data.specs.declared.actor.Actor.{Actor}
use Rattle.txn_data.specs.declared.actor.Actor.TheVariants.{Tablet, Status, Session, Applier}
use Rattle.txn_data.specs.declared.told.Told.{Told}
use Rattle.txn_data.specs.declared.event.Event.{Event}
use Rattle.txn_data.specs.declared.event.Event.TheVariants.{Start, Ask, Serve, Hear, Tell, Restarted}
use Rattle.txn_data.specs.declared.entry.Entry.{Entry}
use Rattle.txn_data.specs.declared.config.Config.{Config}
use Rattle.txn_types.specs.Lists.{or_else}
use Rattle.txn_types.specs.History.{History, same_actor}
use Rattle.txn_types.specs.Run.{Mover, mover_at, mover_after}
use Rattle.txn_types.specs.Settled.{last_told, told_by}
use Rattle.report_text.specs.declared.counts.Counts.{Counts}
use Rattle.report_text.specs.Shown.{Shown, SessionShown}
use Rattle.report_text.specs.Line.{word_of, word_under_way}
use Rattle.report_text.specs.Total.{is_refused, is_committed, is_values, restarts_of, count_told, counts_of}
use Rattle.report_text.specs.Text.{shown_by, shown_to, told_session, session_tells, last_session}
use Rattle.report_text.specs.Walk.{Changed, Saw, counts_on, counts_with, last_shown, nothing_shown, pass_on, session_after, session_with}

-- one of a list is set, where it was x
pub changed_set : {A : Type 0} (i : ℕ) (f : A → A) (old : List A) (x : A) → i < length old → x ≡ get_or old i x → Changed i f old (set old i (f x))
changed_set i f old x lt is = record {
  same_length = length-set old i (f x);
  here = λ d inside. get_or-set_same old i (f x) d lt ∙ ap f (is ∙ get_or_default old i x d lt);
  others = λ j d other. get_or-set_other old i j (f x) d other;
}

-- what an entry makes of a session, where b says that it is one of its own
session_cases : (config : Config) (j : ℕ) (m : Mover) (lines : List Shown) (reading : Option ℕ) (event : Event) (b : Bool) →
    let before : SessionShown = record { word = word_under_way m.line; lines = lines } in
    let after : SessionShown = record {
      word = word_under_way (if b then mover_after config (Session j) m reading event else m).line;
      lines = if b then lines ++ shown_by m.line event else lines;
    } in
    after ≡ (if b then session_with event before else before)
session_cases config j m lines reading event false = refl
session_cases config j m lines reading (Start number line) true =
    ap (λ (ls : List Shown). let s : SessionShown = record { word = word_of line; lines = ls } in s) (append-nil lines)
session_cases config j m lines reading (Tell number t) true = refl
session_cases config j m lines reading (Ask to asked) true =
    ap (λ (ls : List Shown). let s : SessionShown = record { word = word_under_way m.line; lines = ls } in s) (append-nil lines)
session_cases config j m lines reading (Serve from asked r time append) true =
    ap (λ (ls : List Shown). let s : SessionShown = record { word = word_under_way m.line; lines = ls } in s) (append-nil lines)
session_cases config j m lines reading (Hear from r) true =
    ap (λ (ls : List Shown). let s : SessionShown = record { word = word_under_way m.line; lines = ls } in s) (append-nil lines)
session_cases config j m lines reading (Restarted from kept) true =
    ap (λ (ls : List Shown). let s : SessionShown = record { word = word_under_way m.line; lines = ls } in s) (append-nil lines)

abbrev entry : Actor → Option ℕ → Event → Entry
entry a reading event = record { actor = a; reading = reading; event = event }

session_more : (config : Config) (h : History) (a : Actor) (reading : Option ℕ) (event : Event) (j : ℕ) →
    session_after config (entry a reading event ∷ h) j
    ≡ (if same_actor a (Session j) then session_with event (session_after config h j) else session_after config h j)
unfolding shown_to mover_at
session_more config h a reading event j =
    session_cases config j (mover_at config (Session j) h) (shown_to config (Session j) h) reading event (same_actor a (Session j))

-- one of a list is changed, and it is the one at i exactly where this test says so
changed_at : {A : Type 0} (i : ℕ) (f : A → A) (old new : List A) (of : ℕ → A) (most j : ℕ) (d : A) (b : Bool) →
    Changed i f old new → nat_eq i j ≡ b → length old ≡ most → j < most → get_or old j d ≡ of j →
    get_or new j d ≡ (if b then f (of j) else of j)
changed_at i f old new of most j d true c same len lt was =
    let is : i ≡ j = eqb-true i j same in
    subst (λ k. get_or new k d ≡ f (of j)) is
    (c.here d (omega arith) ∙ ap f (subst (λ k. get_or old k d ≡ of j) (sym is) was))
changed_at i f old new of most j d false c same len lt was =
    c.others j d (λ is. eqb-false i j same (sym is)) ∙ was

-- the counts of one more
count_if : (b : Bool) (t : Told) (ts : List Told) → length (if b then t ∷ ts else ts) ≡ length ts + (if b then 1 else 0)
count_if true t ts = omega arith
count_if false t ts = omega arith

count_more : (which : Told → Bool) (t : Told) (ts : List Told) → count_told which (t ∷ ts) ≡ count_told which ts + (if which t then 1 else 0)
count_more which t ts = count_if (which t) t (filter which ts)

pub same_counts : (n m : Counts) → n.commands ≡ m.commands → n.ok ≡ m.ok → n.refused ≡ m.refused → n.committed ≡ m.committed → n.reads ≡ m.reads → n.restarts ≡ m.restarts → n ≡ m
same_counts n m a b c d e f = rw (a, b, c, d, e, f) refl

pub counts_more : (t : Told) (ts : List Told) → counts_of (t ∷ ts) ≡ counts_with t (counts_of ts)
counts_more t ts =
    same_counts (counts_of (t ∷ ts)) (counts_with t (counts_of ts)) (omega arith) (count_more (λ x. not (is_refused x)) t ts)
    (count_more is_refused t ts) (count_more is_committed t ts) (count_more is_values t ts)
    (sum_by-cons restarts_of t ts ∙ add_comm (restarts_of t) (sum_by restarts_of ts))

counts_event : (i : ℕ) (event : Event) (ts : List Told) → counts_of (told_session (Session i) event ++ ts) ≡ counts_on event (counts_of ts)
counts_event i (Start number line) ts = refl
counts_event i (Ask to asked) ts = refl
counts_event i (Serve from asked r time append) ts = refl
counts_event i (Hear from r) ts = refl
counts_event i (Tell number t) ts = counts_more t ts
counts_event i (Restarted from kept) ts = refl

-- what an entry makes of a last pass, where b says that it is the applier's
pass_cases : (event : Event) (last : Option Told) (b : Bool) →
    last_shown (if b then or_else (told_by event) last else last) ≡ (if b then pass_on event (last_shown last) else last_shown last)
pass_cases event last false = refl
pass_cases (Start number line) last true = refl
pass_cases (Ask to asked) last true = refl
pass_cases (Serve from asked r time append) last true = refl
pass_cases (Hear from r) last true = refl
pass_cases (Tell number t) last true = refl
pass_cases (Restarted from kept) last true = refl

-- an entry of a session
of_session : (config : Config) (h : History) (i : ℕ) (reading : Option ℕ) (event : Event) (old new : List SessionShown)
    (passes : List (Option Shown)) (n m : Counts) → Saw config h old passes n → Changed i (session_with event) old new →
    m ≡ counts_on event n → Saw config (entry (Session i) reading event ∷ h) new passes m
unfolding last_told session_tells
of_session config h i reading event old new passes n m s c is = record {
  numbers = c.same_length ∙ s.numbers;
  sessions = λ j d lt. changed_at i (session_with event) old new (session_after config h) (last_session + 1) j d (nat_eq i j) c refl s.numbers lt (s.sessions j d lt)
      ∙ sym (session_more config h (Session i) reading event j);
  tablets = s.tablets;
  passes = s.passes;
  counts = is ∙ (ap (counts_on event) s.counts ∙ sym (counts_event i event (session_tells h)));
}

pub saw_session : (config : Config) (h : History) (e : Entry) (i : ℕ) (old new : List SessionShown)
    (passes : List (Option Shown)) (n m : Counts) → e.actor ≡ Session i → Saw config h old passes n → Changed i (session_with e.event) old new →
    m ≡ counts_on e.event n → Saw config (e ∷ h) new passes m
saw_session config h e i old new passes n m by s c is =
    subst (λ (a : Actor). Saw config (entry a e.reading e.event ∷ h) new passes m) (sym by)
    (of_session config h i e.reading e.event old new passes n m s c is)

-- an entry of an applier
of_applier : (config : Config) (h : History) (i : ℕ) (reading : Option ℕ) (event : Event) (sessions : List SessionShown)
    (old new : List (Option Shown)) (n : Counts) → Saw config h sessions old n → Changed i (pass_on event) old new →
    Saw config (entry (Applier i) reading event ∷ h) sessions new n
unfolding last_told session_tells
of_applier config h i reading event sessions old new n s c = record {
  numbers = s.numbers;
  sessions = λ j d lt. s.sessions j d lt ∙ sym (session_more config h (Applier i) reading event j);
  tablets = c.same_length ∙ s.tablets;
  passes = λ k d lt. changed_at i (pass_on event) old new (λ t. last_shown (last_told (Applier t) h)) config.tablets k d (nat_eq i k) c refl s.tablets lt (s.passes k d lt)
      ∙ sym (pass_cases event (last_told (Applier k) h) (nat_eq i k));
  counts = s.counts;
}

pub saw_applier : (config : Config) (h : History) (e : Entry) (i : ℕ) (sessions : List SessionShown)
    (old new : List (Option Shown)) (n : Counts) → e.actor ≡ Applier i → Saw config h sessions old n → Changed i (pass_on e.event) old new →
    Saw config (e ∷ h) sessions new n
saw_applier config h e i sessions old new n by s c =
    subst (λ (a : Actor). Saw config (entry a e.reading e.event ∷ h) sessions new n) (sym by)
    (of_applier config h i e.reading e.event sessions old new n s c)

-- an entry of a machine
of_tablet : (config : Config) (h : History) (i : ℕ) (reading : Option ℕ) (event : Event) (sessions : List SessionShown)
    (passes : List (Option Shown)) (n : Counts) → Saw config h sessions passes n → Saw config (entry (Tablet i) reading event ∷ h) sessions passes n
unfolding last_told session_tells
of_tablet config h i reading event sessions passes n s = record {
  numbers = s.numbers;
  sessions = λ j d lt. s.sessions j d lt ∙ sym (session_more config h (Tablet i) reading event j);
  tablets = s.tablets;
  passes = s.passes;
  counts = s.counts;
}

of_status : (config : Config) (h : History) (i : ℕ) (reading : Option ℕ) (event : Event) (sessions : List SessionShown)
    (passes : List (Option Shown)) (n : Counts) → Saw config h sessions passes n → Saw config (entry (Status i) reading event ∷ h) sessions passes n
unfolding last_told session_tells
of_status config h i reading event sessions passes n s = record {
  numbers = s.numbers;
  sessions = λ j d lt. s.sessions j d lt ∙ sym (session_more config h (Status i) reading event j);
  tablets = s.tablets;
  passes = s.passes;
  counts = s.counts;
}

pub saw_machine : (config : Config) (h : History) (e : Entry) (sessions : List SessionShown) (passes : List (Option Shown)) (n : Counts) →
    ((i : ℕ) × (e.actor ≡ Tablet i)) ⊎ ((i : ℕ) × (e.actor ≡ Status i)) → Saw config h sessions passes n → Saw config (e ∷ h) sessions passes n
saw_machine config h e sessions passes n (inl is) s =
    subst (λ (a : Actor). Saw config (entry a e.reading e.event ∷ h) sessions passes n) (sym is.1)
    (of_tablet config h is.0 e.reading e.event sessions passes n s)
saw_machine config h e sessions passes n (inr is) s =
    subst (λ (a : Actor). Saw config (entry a e.reading e.event ∷ h) sessions passes n) (sym is.1)
    (of_status config h is.0 e.reading e.event sessions passes n s)

-- no entry yet
pub saw_nothing : (config : Config) (sessions : List SessionShown) (passes : List (Option Shown)) (n : Counts) →
    sessions ≡ replicate (last_session + 1) nothing_shown → passes ≡ replicate config.tablets None → n ≡ counts_of [] → Saw config [] sessions passes n
unfolding shown_to mover_at last_told session_tells
saw_nothing config sessions passes n a b c = record {
  numbers = ap length a ∙ length-replicate (last_session + 1) nothing_shown;
  sessions = λ i d lt. ap (λ (xs : List SessionShown). get_or xs i d) a ∙ get_or-replicate (last_session + 1) i nothing_shown d lt;
  tablets = ap length b ∙ length-replicate config.tablets None;
  passes = λ k d lt. ap (λ (xs : List (Option Shown)). get_or xs k d) b ∙ get_or-replicate config.tablets k None d lt;
  counts = c;
}

-- one more of the entries, read backwards
pub reverse_take : {A : Type 0} (xs : List A) (i : ℕ) (x : A) → i < length xs → x ≡ get_or xs i x → reverse (take (i + 1) xs) ≡ x ∷ reverse (take i xs)
reverse_take xs i x lt is =
    ap reverse (take_more xs i x lt) ∙ (reverse-append (take i xs) (get_or xs i x ∷ []) ∙ ap (λ y. y ∷ reverse (take i xs)) (sym is))
