-- Each finished read visited its tablets.
use Rattle.std.proofs.Common.{◌≡◌, ℕ, max, Bool, true, false, ◌||◌, List, [], ◌∷◌, Option, Some, None, Result, Ok, Err, map, length, refl, sym, ◌∙◌, ap, subst, inl, inr, if◌then◌else◌}
use Rattle.hybrid_time.specs.Time.{time_at, limit_time, least_time}
use Rattle.hybrid_time.specs.declared.time_refusal.TimeRefusal.{TimeRefusal}
use Rattle.txn_data.specs.declared.actor.Actor.{Actor}
use Rattle.txn_data.specs.declared.actor.Actor.TheVariants.{Session}
use Rattle.txn_data.specs.declared.command.Command.{Command}
use Rattle.txn_data.specs.declared.command.Command.TheVariants as command
use Rattle.txn_data.specs.declared.config.Config.{Config}
use Rattle.txn_data.specs.declared.event.Event.TheVariants.{Tell}
use Rattle.txn_data.specs.declared.place.Place.{Place}
use Rattle.txn_data.specs.declared.read_end.ReadEnd.{ReadEnd}
use Rattle.txn_data.specs.declared.read_kind.ReadKind.{ReadKind}
use Rattle.txn_data.specs.declared.read_kind.ReadKind.TheVariants.{Get, Scan}
use Rattle.txn_data.specs.declared.read_what.ReadWhat.{ReadWhat}
use Rattle.txn_data.specs.declared.read_what.ReadWhat.TheVariants as what
use Rattle.txn_data.specs.declared.refusal.Refusal.TheVariants as refusal
use Rattle.txn_data.specs.declared.reply.Reply.{Reply}
use Rattle.txn_data.specs.declared.reply.Reply.TheVariants as reply
use Rattle.txn_data.specs.declared.row.Row.{Row}
use Rattle.txn_data.specs.declared.tablet_limit.TabletLimit.{TabletLimit}
use Rattle.txn_data.specs.declared.told.Told.{Told}
use Rattle.txn_data.specs.declared.told.Told.TheVariants as told
use Rattle.txn_data.specs.declared.told_refusal.ToldRefusal.TheVariants as told_refusal
use Rattle.txn_data.specs.declared.window.Window.{Window}
use Rattle.txn_data.specs.declared.written.Written.{Written}
use Rattle.txn_types.specs.Lists.{or_zero}
use Rattle.txn_types.specs.History.{History}
use Rattle.txn_types.specs.Program.{Program, Done, Asks, Reads, then_do}
use Rattle.txn_types.specs.ReadProgram.{TabletRows, tablets_of, all_rows, read_program}
use Rattle.txn_types.specs.ReadProgram.{Asked as Query}
use Rattle.txn_types.specs.Session.{Keeps, Opened, timed_then, read_at, read_told, read_inside, read_command, writes_of, has_writes, rows_under}
use Rattle.txn_types.specs.TxnProgram.{refused}
use Rattle.txn_types.specs.Reads.{Read, start_of, places_asked, line_of, open_txn, inside, origin_under, origin, reading_after}
use Rattle.txn_types.specs.Run.{Steps, StartsLine, mover_at}
use Rattle.law_machines.proofs.Owns.{steps_at}
use Rattle.law_messages.proofs.Rules.{entry}
use Rattle.law_read_times.specs.Laws.{IsReadLine}
use Rattle.law_courses.specs.Course.{IsPart, answered, Came}
use Rattle.law_courses.specs.Laws.{CameAbout}
use Rattle.law_courses.proofs.Parts.{part_refl, part_trans, part_stands, stands_part}
use Rattle.law_courses.proofs.Courses.{told_came_about}
use Rattle.law_steady_reads.proofs.Follows.{Inner, EndOf, read_goes, least_is, NotAtOnce, HasPlace, read_outer}
use Rattle.law_steady_reads.proofs.Finals.{places_some}
use Rattle.law_steady_reads.proofs.FinalTimes.{read_told as read_entry, Facts, read_facts, start_of_keeps}
use Rattle.law_visits.specs.Visits.{Wanted, collect_entry, Visit, WindowedVisit}
use Rattle.law_values.specs.Laws.{IsReadOf}
use Rattle.law_visits.specs.Laws.{laid_over, window_end, wanted_at, DidVisit, ReadsVisitTheirTablets}
use Rattle.law_visits.proofs.Asking.{HasValues}
use Rattle.law_visits.proofs.Rounds.{VisitsAt}
use Rattle.law_visits.proofs.First.{WindowedVisits, one_came}

-- ## programs that take no reading

then_came : {A B : Type 0} (Q : List ℕ → A → Type 0) (m : Actor) (h : History) (own : Option ℕ) (low : History) (had : Option ℕ) (mets : List ℕ) (p : Program A) (f : A → B) (end : B) → Inner Q mets p → Came m h own low had (then_do p (λ a. Done (f a))) end →
    (a : A) × Came m h own low had p a × (f a ≡ end) × (had ≡ own)
unfolding then_do Came
then_came Q m h own low had mets (Done a) f end inner came = (a, (refl, came.1), came.0, came.1)
then_came Q m h own low had mets (Asks to asked next) f end inner came = elim came [
  | inl heard ↦ let r = then_came Q m h own (answered m to asked h low heard.0) had _ (next heard.0.reply) f end (inner to heard.0.reply) heard.1 in (r.0, inl (heard.0, r.1), r.2, r.3)
  | inr other ↦ elim other [
    | inl restart ↦ let r = then_came Q m h own low had _ (next (reply.Restarted restart.1.0)) f end (inner to (reply.Restarted restart.1.0)) restart.1.1 in (r.0, inr (inl (restart.0, (restart.1.0, r.1))), r.2, r.3)
    | inr none ↦ let r = then_came Q m h own low had _ (next (reply.Refused refusal.Memory)) f end (inner to (reply.Refused refusal.Memory)) none in (r.0, inr (inr r.1), r.2, r.3)
  ]
]
then_came Q m h own low had mets (Reads given) f end inner came = absurd inner

-- ## what a read shows

-- a read of these places, which was told this
pub record Shown (h low : History) (m : Actor) (a : Query) (ws : List Written) (at restarts : ℕ) (rows : List Row) : Type 0 where
  pub found : List TabletRows
  pub tablets : map (λ (f : TabletRows). f.tablet) found ≡ tablets_of a.places
  pub shows : rows ≡ rows_under a.kind ws a.places (all_rows a.kind a.places found)
  pub visits : VisitsAt h low m a at found
  pub first : WindowedVisits h low m a at (tablets_of a.places)

values_only : (kind : ReadKind) (ws : List Written) (places : List Place) (end : ReadEnd) (w : ReadWhat) (at restarts : ℕ) (rows : List Row) → end.what ≡ w → read_told kind ws places end ≡ told.Values at restarts rows → HasValues w
values_only kind ws places end (what.Values found) at restarts rows is told_is = tt
values_only kind ws places end (what.Restart met path) at restarts rows is told_is =
    let now : read_told kind ws places end ≡ told.Refused (told_refusal.Restart met path) = rw is refl in cc
values_only kind ws places end (what.Refused why) at restarts rows is told_is =
    let now : read_told kind ws places end ≡ told.Refused why = rw is refl in cc

same_values : (t n at restarts : ℕ) (found rows : List Row) → told.Values t n found ≡ told.Values at restarts rows → (t ≡ at) × (found ≡ rows)
same_values t n at restarts found rows is = (cc, cc)

told_shows : (kind : ReadKind) (ws : List Written) (places : List Place) (end : ReadEnd) (found : List Row) (at restarts : ℕ) (rows : List Row) → end.what ≡ what.Values found → read_told kind ws places end ≡ told.Values at restarts rows → (end.t ≡ at) × (rows ≡ rows_under kind ws places found)
told_shows kind ws places end found at restarts rows is told_is =
    let now : read_told kind ws places end ≡ told.Values end.t end.restarts (rows_under kind ws places found) = rw is refl in
    let same = same_values end.t end.restarts at restarts (rows_under kind ws places found) rows (sym now ∙ told_is) in
    (same.0, sym same.1)

program_shown : (config : Config) (h low : History) (m : Actor) (own had : Option ℕ) (o : Option ℕ) (kind : ReadKind) (ws : List Written) (places : List Place) (t g : ℕ) (strict : Bool) (limits : List TabletLimit) (at restarts : ℕ) (rows : List Row) → Steps config h →
    Came m h own low had (then_do (read_program o kind places t g strict limits) (λ end. Done (read_told kind ws places end))) (told.Values at restarts rows) →
    Shown h low m (record { own_txn = o; kind = kind; places = places; g = g; strict = strict }) ws at restarts rows × (had ≡ own)
program_shown config h low m own had o kind ws places t g strict limits at restarts rows steps came =
    let a : Query = record { own_txn = o; kind = kind; places = places; g = g; strict = strict } in
    let r = then_came (EndOf t) m h own low had [] (read_program o kind places t g strict limits) (λ (end : ReadEnd). read_told kind ws places end) (told.Values at restarts rows) (read_goes o kind places t g strict limits) came in
    let end = r.0 in
    let values : HasValues end.what = values_only kind ws places end end.what at restarts rows refl r.2 in
    let so = one_came config h low m own had a end (tablets_of places) steps values (record { t = t; restarts = 0; limits = limits; found = [] }) low [] (part_refl low) refl (λ k none. absurd none) (λ zero. (refl, λ f none. absurd none)) r.1 in
    let told_so = told_shows kind ws places end (all_rows kind places so.0.found) at restarts rows so.0.shows r.2 in (
      record {
        found = so.0.found;
        tablets = so.0.tablets_are;
        shows = told_so.1;
        visits = subst (λ (n : ℕ). VisitsAt h low m a n so.0.found) told_so.0 so.0.visits;
        first = subst (λ (n : ℕ). WindowedVisits h low m a n (tablets_of places)) told_so.0 so.1;
      },
      r.3,
    )

-- ## of a session

-- the end of its window, by what it keeps and the reading that it took
abbrev window_by : Config → Keeps → Option ℕ → Option Opened → ℕ
window_by config s own None = max (max s.last (time_at (or_zero own) 0)) (limit_time (or_zero own) config.skew_us)
window_by config s own (Some x) = x.g

abbrev ShownBy : Config → History → History → ℕ → Keeps → Option ℕ → Option Opened → ReadKind → List Place → ℕ → ℕ → List Row → Type 0
ShownBy config h low i s own opened kind places at restarts rows = (strict : Bool)
    × Shown h low (Session i) (record { own_txn = open_txn opened; kind = kind; places = places; g = window_by config s own opened; strict = strict }) (laid_over opened) at restarts rows

timed_shown : (config : Config) (h low : History) (i : ℕ) (s : Keeps) (own : Option ℕ) (kind : ReadKind) (strict : Bool) (places : List Place) (n : ℕ) (time : Result ℕ TimeRefusal) (at restarts : ℕ) (rows : List Row) → Steps config h → least_time s.last 0 n ≡ time →
    Came (Session i) h own low (Some n) (timed_then i n (read_at config kind strict places n) time) (told.Values at restarts rows) → ShownBy config h low i s own None kind places at restarts rows
unfolding Came
timed_shown config h low i s own kind strict places n (Err why) at restarts rows steps is came = let no = came.0 in cc
timed_shown config h low i s own kind strict places n (Ok now) at restarts rows steps is came =
    let r = program_shown config h low (Session i) own (Some n) None kind [] places now (max now (limit_time n config.skew_us)) strict [] at restarts rows steps came in
    let time : now ≡ max s.last (time_at n 0) = least_is s.last n now is in
    let window : max now (limit_time n config.skew_us) ≡ window_by config s own None =
    ap (λ (t : ℕ). max t (limit_time n config.skew_us)) time ∙ ap (λ (o : Option ℕ). max (max s.last (time_at (or_zero o) 0)) (limit_time (or_zero o) config.skew_us)) r.1 in
    (strict, subst (λ (g : ℕ). Shown h low (Session i) (record { own_txn = None; kind = kind; places = places; g = g; strict = strict }) [] at restarts rows) window r.0)

at_once : (p : Program Told) (at restarts : ℕ) (rows : List Row) → p ≡ Done (told.Values at restarts rows) → NotAtOnce p → ⊥
at_once p at restarts rows is not = subst NotAtOnce is not

command_shown : (config : Config) (h low : History) (i : ℕ) (s : Keeps) (own : Option ℕ) (kind : ReadKind) (strict : Bool) (places : List Place) (opened : Option Opened) (at restarts : ℕ) (rows : List Row) → Steps config h → s.opened ≡ opened → HasPlace places →
    Came (Session i) h own low None (read_command config i s kind strict places opened) (told.Values at restarts rows) → ShownBy config h low i s own opened kind places at restarts rows
unfolding Came
command_shown config h low i s own kind strict places None at restarts rows steps is some came = elim came.1 [
  | inl more ↦ timed_shown config h low i s own kind strict places came.0 (least_time s.last 0 came.0) at restarts rows steps refl more
  | inr once ↦ absurd (at_once (timed_then i came.0 (read_at config kind strict places came.0) (least_time s.last 0 came.0)) at restarts rows once ((read_outer config i s kind strict places None is some).1 came.0).1)
]
command_shown config h low i s own kind strict places (Some x) at restarts rows steps is some came = doubt_shown x.in_doubt came
  where
    doubt_shown : (b : Bool) → Came (Session i) h own low None (if b then refused told_refusal.InDoubt else read_inside x kind strict places) (told.Values at restarts rows) → ShownBy config h low i s own (Some x) kind places at restarts rows
    doubt_shown true came = let no = came.0 in cc
    doubt_shown false came = (
      strict || has_writes x.writes || x.has_read,
      (program_shown config h low (Session i) own None (Some x.meta.txn) kind (writes_of x.writes) places x.r x.g (strict || has_writes x.writes || x.has_read) x.limits at restarts rows steps came).0,
    )

-- and a transaction in doubt is not read in
pub not_in_doubt : (config : Config) (h low : History) (i : ℕ) (s : Keeps) (own : Option ℕ) (kind : ReadKind) (strict : Bool) (places : List Place) (x : Opened) (b : Bool) (at restarts : ℕ) (rows : List Row) → x.in_doubt ≡ b →
    Came (Session i) h own low None (if b then refused told_refusal.InDoubt else read_inside x kind strict places) (told.Values at restarts rows) → x.in_doubt ≡ false
unfolding Came
not_in_doubt config h low i s own kind strict places x true at restarts rows is came = let no = came.0 in cc
not_in_doubt config h low i s own kind strict places x false at restarts rows is came = is

-- by its line
pub record LineShown (config : Config) (h low : History) (i : ℕ) (s : Keeps) (own : Option ℕ) (line : Option Command) (at restarts : ℕ) (rows : List Row) : Type 0 where
  pub kind : ReadKind
  pub of : IsReadOf kind line
  pub shown : ShownBy config h low i s own s.opened kind (places_asked line) at restarts rows

line_shown : (config : Config) (h low : History) (i : ℕ) (s : Keeps) (own : Option ℕ) (line : Option Command) (at restarts : ℕ) (rows : List Row) → Steps config h → IsReadLine line → CameAbout config (Session i) h low s own line (told.Values at restarts rows) →
    LineShown config h low i s own line at restarts rows
line_shown config h low i s own (Some (command.Read strict places)) at restarts rows steps of came = elim came.1 [
  | inl is ↦
      let starts : StartsLine config came.0.0.keeps.opened (command.Read strict places) = came.0.2.2 in
      record { kind = Get; of = tt; shown = command_shown config h low i s own Get strict places s.opened at restarts rows steps refl (places_some 0 places starts.0) is }
  | inr memory ↦ cc
]
line_shown config h low i s own (Some (command.Scan strict place)) at restarts rows steps of came = elim came.1 [
  | inl is ↦ record { kind = Scan; of = tt; shown = command_shown config h low i s own Scan strict (place ∷ []) s.opened at restarts rows steps refl tt is }
  | inr memory ↦ cc
]
line_shown config h low i s own line at restarts rows steps of came = absurd of

-- ## the law

-- over the whole history
abbrev visit_on : (g h low : History) (m : Actor) (w : Wanted) (k t : ℕ) (window : Option Window) (answer : Reply) → IsPart g h → Visit g low m w k t window answer → Visit h low m w k t window answer
visit_on g h low m w k t window answer part v =
    let c = collect_entry m w k t window v.fates answer v.reading v.time v.append in
    record {
      known = v.known;
      limit = v.limit;
      others = v.others;
      list_reading = v.list_reading;
      list_time = v.list_time;
      list_append = v.list_append;
      list_before = v.list_before;
      fates = v.fates;
      reading = v.reading;
      time = v.time;
      append = v.append;
      before = v.before;
      later = v.later;
      listed = v.listed;
      asked = v.asked;
      collected = part_stands c v.before h (part_trans (c ∷ v.before) g h (stands_part c v.before g v.collected) part);
    }

first_on : (g h low : History) (m : Actor) (w : Wanted) (k final : ℕ) → IsPart g h → WindowedVisit g low m w k final → WindowedVisit h low m w k final
first_on g h low m w k final part v = record {
  t = v.t;
  limit = v.limit;
  answer = v.answer;
  visit = visit_on g h low m w k v.t (Some (record { g = w.g; limit = v.limit })) v.answer part v.visit;
  limit_is = v.limit_is;
  not_after = v.not_after;
  meets = v.meets;
  answers = v.answers;
}

window_same : (config : Config) (read : Read) (s : Keeps) (opened : Option Opened) → Facts config read → (mover_at config (Session read.session) (start_of read)).keeps ≡ s → s.opened ≡ opened → window_by config s (mover_at config (Session read.session) read.before).reading opened ≡ window_end config read opened
window_same config read s (Some x) f keeps opened = refl
window_same config read s None f keeps opened =
    let none : inside config read ≡ None = ap (λ (k : Keeps). open_txn k.opened) keeps ∙ ap open_txn opened in
    let own_origin : origin config read ≡ start_of read = ap (λ (o : Option ℕ). origin_under read o) none in
    sym (
    ap (λ (g : History). window_of config (mover_at config (Session read.session) g).keeps.last (reading_after (Session read.session) (length g) read.before)) own_origin
    ∙ (ap (λ (k : Keeps). window_of config k.last (reading_after (Session read.session) (length (start_of read)) read.before)) keeps
    ∙ ap (λ (o : Option ℕ). window_of config s.last o) f.reading)
    )
  where
    window_of : Config → ℕ → Option ℕ → ℕ
    window_of config last own = max (max last (time_at (or_zero own) 0)) (limit_time (or_zero own) config.skew_us)

did_visit : (config : Config) (h g : History) (read : Read) (s : Keeps) (l : LineShown config g (start_of read) read.session s (mover_at config (Session read.session) read.before).reading (line_of config read) read.at read.restarts read.rows) →
    Facts config read → IsPart g h → s ≡ (mover_at config (Session read.session) (start_of read)).keeps → DidVisit config h read
did_visit config h g read s l f part keeps =
    let places = places_asked (line_of config read) in
    let i = read.session in
    let low = start_of read in
    let own = (mover_at config (Session i) read.before).reading in
    let o = (mover_at config (Session i) low).keeps.opened in
    let at_start : ShownBy config g low i s own s.opened l.kind places read.at read.restarts read.rows = l.shown in
    let window : window_by config s own s.opened ≡ window_end config read s.opened = window_same config read s s.opened f (sym keeps) refl in
    let strict = at_start.0 in
    let shown : Shown g low (Session i) (record { own_txn = open_txn s.opened; kind = l.kind; places = places; g = window_end config read s.opened; strict = strict }) (laid_over s.opened) read.at read.restarts read.rows =
    subst (λ (n : ℕ). Shown g low (Session i) (record { own_txn = open_txn s.opened; kind = l.kind; places = places; g = n; strict = strict }) (laid_over s.opened) read.at read.restarts read.rows) window at_start.1 in
    let same : Shown g low (Session i) (record { own_txn = open_txn o; kind = l.kind; places = places; g = window_end config read o; strict = strict }) (laid_over o) read.at read.restarts read.rows =
    subst (λ (k : Keeps). Shown g low (Session i) (record { own_txn = open_txn k.opened; kind = l.kind; places = places; g = window_end config read k.opened; strict = strict }) (laid_over k.opened) read.at read.restarts read.rows) keeps shown in
    record {
      kind = l.kind;
      of = l.of;
      found = same.found;
      tablets = same.tablets;
      rows = same.shows;
      finally = λ f of. let v = same.visits f of in (v.0, visit_on g h low (Session i) (wanted_at config read l.kind f.tablet) f.tablet read.at v.0 (reply.Collected f.rows) part v.1);
      windowed = λ k of. first_on g h low (Session i) (wanted_at config read l.kind k) k read.at part (same.first k of);
    }

pub reads_visit : ReadsVisitTheirTablets
reads_visit config h read run m =
    let f = read_facts config h read run m in
    let i = read.session in
    let t = read_entry h read m in
    let e = entry (Session i) t.reading (Tell t.number (told.Values read.at read.restarts read.rows)) in
    let up_to : Steps config (e ∷ read.before) = steps_at config e read.before h run.1 t.stands in
    let s = mover_at config (Session i) read.before in
    let came = told_came_about config h read.before e run t.stands in
    let l = line_shown config (e ∷ read.before) (start_of read) i s.keeps s.reading (line_of config read) read.at read.restarts read.rows up_to (subst IsReadLine (sym f.line_is) f.reads) came in
    did_visit config h (e ∷ read.before) read s.keeps l f (stands_part e read.before h t.stands) (sym (start_of_keeps config read f))
