-- The limits of a finished read were fixed since its origin.
use Rattle.std.proofs.Common.{◌≡◌, ℕ, ◌<◌, ◌≤◌, suc, Bool, true, false, ◌&&◌, [], ◌∷◌, Option, Some, None, length, refl, sym, ◌∙◌, ap, subst, inl, inr, ◌⊎◌, arith}
use Rattle.txn_data.specs.declared.actor.Actor.{Actor}
use Rattle.txn_data.specs.declared.actor.Actor.TheVariants.{Tablet, Session}
use Rattle.txn_data.specs.declared.command.Command.{Command}
use Rattle.txn_data.specs.declared.config.Config.{Config}
use Rattle.txn_data.specs.declared.reply.Reply.TheVariants as reply
use Rattle.txn_data.specs.declared.request.Request.{Request}
use Rattle.txn_data.specs.declared.request.Request.TheVariants as request
use Rattle.txn_data.specs.declared.told.Told.TheVariants as told
use Rattle.txn_data.specs.declared.event.Event.{Event}
use Rattle.txn_data.specs.declared.event.Event.TheVariants.{Start, Ask, Serve, Hear, Tell, Restarted}
use Rattle.txn_data.specs.declared.entry.Entry.{Entry}
use Rattle.txn_types.specs.History.{History, same_actor, is_start}
use Rattle.txn_types.specs.Reads.{Read, open_txn, before_start, begin_of, began_time, start_of, opened_at, inside, origin, origin_under}
use Rattle.txn_types.specs.Session.{Opened}
use Rattle.txn_types.specs.Run.{Run, Steps, Allowed, Mover, mover_at, mover_after, Quiet, Asked, flight}
use Rattle.law_machines.specs.Own.{StandsOver}
use Rattle.law_machines.proofs.Basics.{same_cases, same_of, test_cases}
use Rattle.law_machines.proofs.Owns.{steps_at, stands_trans}
use Rattle.law_messages.proofs.Rules.{entry}
use Rattle.law_messages.proofs.Flights.{idle_quiet}
use Rattle.law_courses.specs.Course.{IsPart, entry_of}
use Rattle.law_courses.proofs.Parts.{part_refl, part_more, part_trans, part_tail, part_stands, stands_part}
use Rattle.law_steady_reads.proofs.FinalTimes.{ToldRead, read_told, read_facts, part_start, part_steps}
use Rattle.law_visits.specs.Visits.{Wanted, list_entry, collect_entry}
use Rattle.law_visits.specs.Laws.{wanted_at, window_end}
use Rattle.law_windows.proofs.Windows.{WindowOf, HasWindow, begin_still, not_again, windows_at}
use Rattle.law_local_limits.specs.Laws.{WasListed, low_of, IsFixed, LimitsOfReadsWereFixed}
use Rattle.law_local_limits.proofs.Runs.{limits_fixed, start_still}

-- ## the begin of a transaction that was told stays where it is

began_still : (x : ℕ) (e : Entry) (h : History) (at : ℕ) → began_time x h ≡ Some at → began_time x (e ∷ h) ≡ Some at
unfolding began_time
began_still x e h at is = rw is refl

record Began (x at : ℕ) (low h : History) : Type 0 where
  pub begin : begin_of x h ≡ begin_of x low
  pub time : began_time x h ≡ Some at

begin_part : (config : Config) (x at : ℕ) (low h : History) → Run config h → IsPart low h → began_time x low ≡ Some at → Began x at low h
unfolding IsPart Steps
begin_part config x at low [] run part was = record { begin = ap (λ (l : History). begin_of x l) (sym part); time = subst (λ (l : History). began_time x l ≡ Some at) part was }
begin_part config x at low (e ∷ h) run part was = elim part [
  | inl is ↦ record { begin = ap (λ (l : History). begin_of x l) (sym is); time = subst (λ (l : History). began_time x l ≡ Some at) is was }
  | inr more ↦
      let before : Run config h = (run.0, run.1.0) in
      let b = begin_part config x at low h before more was in
      record { begin = begin_still x e h (not_again config h e.actor e.reading e.event x at before run b.time) ∙ b.begin; time = began_still x e h at b.time }
]

-- ## the start of a command

-- a mover with a command under way started it over the history before its start
record Started (m : Actor) (h : History) : Type 0 where
  pub entry : Entry
  pub stands : StandsOver entry (before_start m h) h
  pub mine : entry.actor ≡ m
  pub start : is_start entry.event ≡ true

started_more : (m : Actor) (e : Entry) (h : History) → before_start m (e ∷ h) ≡ before_start m h → Started m h → Started m (e ∷ h)
started_more m e h same s = record { entry = s.entry; stands = inr (subst (λ (z : History). StandsOver s.entry z h) (sym same) s.stands); mine = s.mine; start = s.start }

here_start : (m : Actor) (e : Entry) (h : History) → same_actor e.actor m ≡ true → is_start e.event ≡ true → before_start m (e ∷ h) ≡ h
unfolding before_start
here_start m e h one two = rw (one, two) refl

and_false : (a b : Bool) → a ≡ true → b ≡ false → (a && b) ≡ false
and_false true false one two = refl
and_false false b one two = refl
and_false true true one two = cc

false_and : (a b : Bool) → a ≡ false → (a && b) ≡ false
false_and true b is = cc
false_and false b is = refl

line_event : (config : Config) (m : Actor) (s : Mover) (reading : Option ℕ) (event : Event) (line : Command) → (mover_after config m s reading event).line ≡ Some line → is_start event ≡ false → (l : Command) × (s.line ≡ Some l)
line_event config m s reading (Start number l) line is other = cc
line_event config m s reading (Ask to asked) line is other = (line, is)
line_event config m s reading (Hear from r) line is other = (line, is)
line_event config m s reading (Tell number t) line is other = cc
line_event config m s reading (Serve from asked r time append) line is other = (line, is)
line_event config m s reading (Restarted from kept) line is other = (line, is)

started : (config : Config) (m : Actor) (h : History) (line : Command) → (mover_at config m h).line ≡ Some line → Started m h
unfolding mover_at
started config m [] line is = cc
started config m (e ∷ h) line is = elim (same_cases e.actor m) [
  | inl own ↦ elim (test_cases (is_start e.event)) [
    | inl start ↦ record { entry = e; stands = inl (refl, sym (here_start m e h own.0 start)); mine = own.1; start = start }
    | inr not ↦
        let before = line_event config m (mover_at config m h) e.reading e.event line (rw own.0 at is) not in
        started_more m e h (start_still m e h (and_false (same_actor e.actor m) (is_start e.event) own.0 not)) (started config m h before.0 before.1)
  ]
  | inr other ↦ started_more m e h (start_still m e h (false_and (same_actor e.actor m) (is_start e.event) other.0)) (started config m h line (rw other.0 at is))
]

both_start : (m : Actor) (f : Entry) (g : History) → (same_actor f.actor m && is_start f.event) ≡ true → before_start m (f ∷ g) ≡ g
unfolding before_start
both_start m f g is = rw is refl

-- over that start the history before the last start has it
start_above : (m : Actor) (s : Entry) (z g : History) → s.actor ≡ m → is_start s.event ≡ true → IsPart (s ∷ z) g → IsPart z (before_start m g)
unfolding IsPart
start_above m s z [] mine start part = cc
start_above m s z (f ∷ g) mine start part = elim part [
  | inl is ↦ subst (λ (l : History). IsPart z (before_start m l)) is (subst (λ (l : History). IsPart z l) (sym (here_start m s z (same_of s.actor m mine) start)) (part_refl z))
  | inr more ↦ elim (test_cases (same_actor f.actor m && is_start f.event)) [
    | inl yes_it ↦ subst (λ (l : History). IsPart z l) (sym (both_start m f g yes_it)) (part_tail s z g more)
    | inr not ↦ subst (λ (l : History). IsPart z l) (sym (start_still m f g not)) (start_above m s z g mine start more)
  ]
]

-- ## what stands over one history

stands_longer : (e : Entry) (z h : History) → StandsOver e z h → length z < length h
stands_longer e z [] stands = absurd stands
stands_longer e z (f ∷ h) stands = elim stands [
  | inl here ↦ let same : length h ≡ length z = ap length here.1 in more (length z) (length h) (length (f ∷ h)) refl (omega (arith, same))
  | inr deeper ↦ let lt = stands_longer e z h deeper in more (length z) (length h) (length (f ∷ h)) refl (omega (arith, lt))
]
  where
    more : (a b c : ℕ) → c ≡ suc b → a ≤ b → a < c
    more a b c is le = omega (arith, is, le)

over_itself : (e : Entry) (z : History) → StandsOver e z z → ⊥
over_itself e z stands = let lt = stands_longer e z z stands in omega (arith, lt)

one_over : (e f : Entry) (z h : History) → StandsOver e z h → StandsOver f z h → e ≡ f
one_over e f z [] one two = absurd one
one_over e f z (g ∷ h) one two = elim one [
  | inl here ↦ elim two [
    | inl there ↦ sym here.0 ∙ there.0
    | inr deeper ↦ absurd (over_itself f z (subst (λ (l : History). StandsOver f z l) here.1 deeper))
  ]
  | inr deep ↦ elim two [
    | inl there ↦ absurd (over_itself e z (subst (λ (l : History). StandsOver e z l) there.1 deep))
    | inr deeper ↦ one_over e f z h deep deeper
  ]
]

-- a part of the history that has z is z, or has what stands over it
between : (s : Entry) (z g h : History) → StandsOver s z h → IsPart z g → IsPart g h → (g ≡ z) ⊎ IsPart (s ∷ z) g
unfolding IsPart
between s z [] h stands low high = inl (sym low)
between s z (f ∷ g) h stands low high = elim low [
  | inl is ↦ inl (sym is)
  | inr more ↦ elim (between s z g h stands more (part_tail f g h high)) [
    | inl same ↦
        let over : StandsOver f z h = subst (λ (l : History). StandsOver f l h) same (part_stands f g h high) in
        let one : s ≡ f = one_over s f z h stands over in
        inr (inl (ap (λ (e : Entry). e ∷ z) one ∙ ap (λ (l : History). f ∷ l) (sym same)))
    | inr above ↦ inr (part_more (s ∷ z) f g above)
  ]
]

-- ## a visit of a read outside a transaction

-- nothing of the mover is served where it starts a command
quiet_start : (config : Config) (m : Actor) (s : Entry) (z h : History) (to : Actor) (asked : Request) → Run config h → StandsOver s z h → s.actor ≡ m → is_start s.event ≡ true → flight m z ≡ Asked to asked → ⊥
unfolding Steps
quiet_start config m s z h to asked run stands mine start flies =
    let up_to : Steps config (s ∷ z) = steps_at config s z h run.1 stands in
    let quiet : flight m z ≡ Quiet = idle_quiet config z m (run.0, up_to.0) (no_line s.reading s.event start (subst (λ (a : Actor). Allowed config z a s.reading s.event) mine up_to.1)) in
    let no : Quiet ≡ Asked to asked = sym quiet ∙ flies in
    cc
  where
    no_line : (reading : Option ℕ) (event : Event) → is_start event ≡ true → Allowed config z m reading event → (mover_at config m z).line ≡ None
    no_line reading (Start number line) is allowed = allowed.0
    no_line reading (Ask to asked) is allowed = cc
    no_line reading (Serve from asked r time append) is allowed = cc
    no_line reading (Hear from r) is allowed = cc
    no_line reading (Tell number t) is allowed = cc
    no_line reading (Restarted from kept) is allowed = cc

-- a visit later than the read's start is of the read's command, or of a later one
outside_part : (config : Config) (m : Actor) (before g h : History) (line : Command) (to : Actor) (asked : Request) → Run config h → IsPart before h → (mover_at config m before).line ≡ Some line → IsPart (before_start m before) g → IsPart g h → flight m g ≡ Asked to asked →
    IsPart (before_start m before) (before_start m g)
outside_part config m before g h line to asked run in_h is low high flies =
    let s = started config m before line is in
    let z = before_start m before in
    let over : StandsOver s.entry z h = part_stands s.entry z h (part_trans (s.entry ∷ z) before h (stands_part s.entry z before s.stands) in_h) in
    elim (between s.entry z g h over low high) [
      | inl same ↦ absurd (quiet_start config m s.entry z h to asked run over s.mine s.start (subst (λ (l : History). flight m l ≡ Asked to asked) same flies))
      | inr above ↦ start_above m s.entry z g s.mine s.start above
    ]

-- ## the law

origin_low : (config : Config) (h : History) (read : Read) (g : History) (line : Command) (to : Actor) (asked : Request) (o : Option Opened) → Run config h → Run config g → Run config (start_of read) → Run config read.before → opened_at config read ≡ o → IsPart read.before h →
    (mover_at config (Session read.session) read.before).line ≡ Some line → IsPart (start_of read) g → IsPart g h → flight (Session read.session) g ≡ Asked to asked → IsPart (origin_under read (open_txn o)) (low_of (Session read.session) g (open_txn o))
origin_low config h read g line to asked None run run_g run_low run_before opened in_h is low high flies = outside_part config (Session read.session) read.before g h line to asked run in_h is low high flies
origin_low config h read g line to asked (Some x) run run_g run_low run_before opened in_h is low high flies =
    let start = start_of read in
    let i = read.session in
    let y = x.meta.txn in
    let has : HasWindow config start i x = subst (λ (p : Option Opened). WindowOf config start i p) opened (windows_at config start i run_low) in
    let one = begin_part config y has.at start g run_g low has.began in
    let two = begin_part config y has.at start read.before run_before (part_start (Session i) read.before) has.began in
    subst (λ (l : History). IsPart (begin_of y read.before) l) (two.begin ∙ sym one.begin) (part_refl (begin_of y read.before))

raised : (h g low high : History) (m a : Actor) (own_txn : Option ℕ) (end limit : ℕ) (e : Entry) → StandsOver e g h → IsPart low high → WasListed g high m a own_txn end limit → WasListed h low m a own_txn end limit
raised h g low high m a own_txn end limit e stands part was = record {
  paths = was.paths;
  t = was.t;
  others = was.others;
  reading = was.reading;
  now = was.now;
  append = was.append;
  before = was.before;
  stands = stands_trans (entry_of a was.reading (Serve m (request.ListRead own_txn was.paths was.t end None) (reply.Listed limit was.others) (Some was.now) was.append)) e was.before g h was.stands stands;
  later = part_trans low high was.before part was.later;
}

pub limits_of_reads : LimitsOfReadsWereFixed
unfolding Steps
limits_of_reads config h read kind k t window answer run m v limit is =
    let f = read_facts config h read run m in
    let told_read : ToldRead h read = read_told h read m in
    let i = read.session in
    let w : Wanted = wanted_at config read kind k in
    let tell = entry (Session i) told_read.reading (Tell told_read.number (told.Values read.at read.restarts read.rows)) in
    let in_h : IsPart read.before h = part_tail tell read.before h (stands_part tell read.before h told_read.stands) in
    let g = v.list_before in
    let e = list_entry (Session i) w k t v.known v.limit v.others v.list_reading v.list_time v.list_append in
    let c = collect_entry (Session i) w k t window v.fates answer v.reading v.time v.append in
    let stands : StandsOver e g h = stands_trans e c g v.before h v.listed v.collected in
    let up_to : Steps config (e ∷ g) = steps_at config e g h run.1 stands in
    let fixed : IsFixed g (Tablet k) (Serve (Session i) (request.ListRead w.own_txn w.paths t w.g (Some limit)) (reply.Listed v.limit v.others) v.list_time v.list_append) =
    subst (λ (o : Option ℕ). IsFixed g (Tablet k) (Serve (Session i) (request.ListRead w.own_txn w.paths t w.g o) (reply.Listed v.limit v.others) v.list_time v.list_append)) is (limits_fixed config h g e run stands) in
    let high : IsPart g h = part_tail e g h (stands_part e g h stands) in
    let start = start_of read in
    let run_low : Run config start = (run.0, part_steps config start read.before (part_start (Session i) read.before) f.run.1) in
    let part = origin_low config h read g f.line (Tablet k) (request.ListRead w.own_txn w.paths t w.g v.known) (opened_at config read) run (run.0, up_to.0) run_low f.run refl in_h f.line_is v.later high up_to.1.1 in
    raised h g (origin config read) (low_of (Session i) g (inside config read)) (Session i) (Tablet k) (inside config read) (window_end config read (opened_at config read)) limit e stands part fixed
