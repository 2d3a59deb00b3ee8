-- Reads are fresh: what was known before a read, its first round met, or it is not later than the read.
use Rattle.std.proofs.Common.{◌≡◌, ℕ, ◌<◌, ◌≤◌, Bool, true, false, ◌&&◌, [], Option, Some, None, map, filter, nat_lt, nat_le, nat_eq, refl, sym, ◌∙◌, ap, subst, inl, inr, ◌⊎◌, arith}
use Rattle.std.proofs.lemmas.Bool.{lt-ltb, le-leb, leb-true, leb-false}
use Rattle.std.specs.List.{list_any}
use Rattle.doc_path.specs.Path.{Parts, related}
use Rattle.txn_data.specs.declared.actor.Actor.{Actor}
use Rattle.txn_data.specs.declared.actor.Actor.TheVariants.{Tablet, Session}
use Rattle.txn_data.specs.declared.reply.Reply.{Reply}
use Rattle.txn_data.specs.declared.committed_txn.CommittedTxn.{CommittedTxn}
use Rattle.txn_data.specs.declared.config.Config.{Config}
use Rattle.txn_data.specs.declared.place.Place.{Place}
use Rattle.txn_data.specs.declared.read_kind.ReadKind.{ReadKind}
use Rattle.txn_data.specs.declared.told.Told.TheVariants as told
use Rattle.txn_data.specs.declared.window.Window.{Window}
use Rattle.txn_data.specs.declared.written.Written.{Written}
use Rattle.txn_data.specs.declared.event.Event.TheVariants.{Tell}
use Rattle.txn_types.specs.Lists.{Member}
use Rattle.txn_types.specs.History.{History, own}
use Rattle.txn_types.specs.Plan.{PlacesAgree}
use Rattle.txn_types.specs.Session.{Opened}
use Rattle.txn_types.specs.ReadProgram.{tablets_of}
use Rattle.txn_types.specs.Tablet.{local_limit, is_met}
use Rattle.txn_types.specs.Reads.{Read, reads, start_of, places_asked, line_of, paths_asked, opened_at, inside, origin, own_window, known, SkewHeld}
use Rattle.txn_types.specs.Run.{Run}
use Rattle.law_machines.proofs.Basics.{eq_refl, map_member, member_map, member_filter, any_member, member_rising}
use Rattle.law_messages.proofs.Rules.{entry}
use Rattle.law_clocks.proofs.Runs.{listings_reach}
use Rattle.law_machines.proofs.Owns.{stands_member}
use Rattle.law_places.specs.Laws.{IsPlace}
use Rattle.law_courses.specs.Course.{IsPart}
use Rattle.law_courses.proofs.Parts.{part_trans, part_tail, part_member, stands_part}
use Rattle.law_steady_reads.proofs.FinalTimes.{read_facts, reads_final}
use Rattle.law_steady_reads.proofs.FinalTimes.{read_told as read_entry}
use Rattle.law_visits.specs.Visits.{Wanted, Visit, WindowedVisit}
use Rattle.law_visits.specs.Laws.{wanted_at, window_end}
use Rattle.law_visits.proofs.Visited.{reads_visit}
use Rattle.law_visit_rows.proofs.Items.{any_of}
use Rattle.law_visit_rows.proofs.Visits.{lists, list_stands, collect_serves, item_of_shown}
use Rattle.law_folds.proofs.Made.{made_at}
use Rattle.law_right_reads.proofs.Right.{started_all}
use Rattle.law_windows.proofs.Known.{origin_of, ToldBefore, known_told, known_commits}
use Rattle.law_windows.proofs.Windows.{windows_of_begins}
use Rattle.law_local_limits.proofs.Origins.{limits_of_reads}
use Rattle.law_fresh_reads.specs.Laws.{ReadsAreFresh}
use Rattle.law_fresh_reads.specs.Limits.{FixedLimit}
use Rattle.law_fresh_reads.proofs.Meeting.{met_up_to}
use Rattle.law_fresh_reads.proofs.Origins.{was_told_in, write_of, stands_there}
use Rattle.law_fresh_reads.proofs.Opened.{origin_part}
use Rattle.law_fresh_reads.proofs.Clear.{Its, clear}
use Rattle.law_fresh_reads.proofs.Limits.{in_limit, own_limit}

-- ## the path that it is related to

-- a write of it, and a place of the line with a related path
record Touched (config : Config) (read : Read) (x : CommittedTxn) : Type 0 where
  write : Written
  of : Member write x.writes
  place : Place
  named : Member place (places_asked (line_of config read))
  related_to : related write.path place.path ≡ true

touched : (config : Config) (h : History) (read : Read) (x : CommittedTxn) → ToldBefore config h read x → Touched config read x
touched config h read x t =
    let w = any_member (λ (v : Written). list_any (related v.path) (paths_asked config read)) x.writes t.touches_paths in
    let p = any_member (related w.0.path) (paths_asked config read) w.2 in
    let place = map_member (λ (q : Place). q.path) p.0 (places_asked (line_of config read)) p.1 in
    record { write = w.0; of = w.1; place = place.0; named = place.1; related_to = subst (λ (q : Parts). related w.0.path q ≡ true) place.2 p.2 }

-- ## its window

window_of : (config : Config) (h : History) (read : Read) (o : Option Opened) → Run config h → Member read (reads h) → opened_at config read ≡ o → window_end config read o ≡ own_window config read
window_of config h read None run m is = refl
window_of config h read (Some x) run m is = windows_of_begins config h read x run m is

-- ## the limit of a first visit

-- a limit that was given to a first visit was fixed by such a listing, later than the origin
abbrev pub GivenLimits : Config → History → Read → Type 0
GivenLimits config h read = (kind : ReadKind) (k l : ℕ) (f : WindowedVisit h (start_of read) (Session read.session) (wanted_at config read kind k) k read.at) → f.visit.known ≡ Some l →
    FixedLimit h (origin config read) k (window_end config read (opened_at config read)) l

limit_given : (config : Config) (h z : History) (m : Actor) (w : Wanted) (k t l : ℕ) (window : Option Window) (answer : Reply) (v : Visit h z m w k t window answer) → Run config h → v.known ≡ Some l → v.limit ≡ l
limit_given config h z m w k t l window answer v run is =
    let e = lists h z m w k t window answer v in
    let reach = listings_reach config h e t w.g v.known v.limit run (stands_member e v.list_before h (list_stands h z m w k t window answer v)) (refl, refl, refl, refl) in
    reach.2.fixed ∙ ap (λ (o : Option ℕ). local_limit o reach.0 w.g) is

first_limit : (config : Config) (h : History) (read : Read) (kind : ReadKind) (k : ℕ) (f : WindowedVisit h (start_of read) (Session read.session) (wanted_at config read kind k) k read.at) (o : Option ℕ) → Run config h → Member read (reads h) → GivenLimits config h read → f.visit.known ≡ o →
    FixedLimit h (origin config read) k (window_end config read (opened_at config read)) f.visit.limit
first_limit config h read kind k f None run m given is =
    own_limit config h (origin config read) (start_of read) (Session read.session) (wanted_at config read kind k) k f.t (Some (record { g = (wanted_at config read kind k).g; limit = f.limit })) f.answer f.visit run (origin_part config h read run m) is
first_limit config h read kind k f (Some l) run m given is =
    let same = limit_given config h (start_of read) (Session read.session) (wanted_at config read kind k) k f.t l (Some (record { g = (wanted_at config read kind k).g; limit = f.limit })) f.answer f.visit run is in
    subst (λ (n : ℕ). FixedLimit h (origin config read) k (window_end config read (opened_at config read)) n) (sym same) (given kind k l f is)

-- ## so the first round met it

all_four : (a b c d : Bool) → a ≡ true → b ≡ true → c ≡ true → d ≡ true → a && b && c && d ≡ true
all_four a b c d one two three four = rw (one, two, three, four) refl

met_late : (config : Config) (h : History) (read : Read) (x : CommittedTxn) → Run config h → PlacesAgree h → Member read (reads h) → SkewHeld config config.skew_us read → GivenLimits config h read → Member x (known config h read) → read.at < x.at → x.at ≤ read.at
met_late config h read x run agree m held given known_is late =
    let low = origin config read in
    let o = origin_of config h read run m in
    let t = known_told config h read x known_is in
    let was = was_told_in config low t.before t.entry x.txn o.run t.stands t.tells in
    let on = touched config h read x t in
    let places = places_asked (line_of config read) in
    let k = on.place.tablet in
    let d = reads_visit config h read run m in
    let w = wanted_at config read d.kind k in
    let named : Member k (tablets_of places) = member_rising k (map (λ (p : Place). p.tablet) places) (member_map (λ (p : Place). p.tablet) on.place places on.named) in
    let f = d.windowed k named in
    let v = f.visit in
    let window : Window = record { g = w.g; limit = f.limit } in
    let wr = write_of config h x on.write run t.of on.of in
    let u = wr.version in
    let e = wr.entry in
    let e_low : Member e low = stands_there config h low e x.txn was.0 wr.number run o.run o.part was.1 wr.member wr.kind in
    let facts = read_facts config h read run m in
    let told_at = read_entry h read m in
    let tell = entry (Session read.session) told_at.reading (Tell told_at.number (told.Values read.at read.restarts read.rows)) in
    let part : IsPart read.before h = part_tail tell read.before h (stands_part tell read.before h told_at.stands) in
    let started = started_all config h read facts part on.place on.named in
    let rel : related u.path on.place.path ≡ true = subst (λ (p : Parts). related p on.place.path ≡ true) (sym wr.path) on.related_to in
    let at : IsPlace h (Tablet k) on.place.path = (on.place, started.0, refl, refl, started.1) in
    let actor = made_at config h k u e on.place.path run agree wr.member wr.makes at rel in
    let of_path : Member on.place.path w.paths = member_map (λ (p : Place). p.path) on.place (filter (λ (p : Place). nat_eq p.tablet k) places) (member_filter (λ (p : Place). nat_eq p.tablet k) on.place places on.named (eq_refl k)) in
    let origin_low : IsPart low (start_of read) = origin_part config h read run m in
    let e_list : Member e v.list_before = part_member e low v.list_before (part_trans low (start_of read) v.list_before origin_low v.later) e_low in
    let high = known_commits config h read x run m held known_is in
    let g_is : w.g ≡ own_window config read = window_of config h read (opened_at config read) run m refl in
    let time = wr.at in
    let in_g : u.at ≤ w.g = omega (arith, high, g_is, time) in
    let fixed = first_limit config h read d.kind k f v.known run m given refl in
    let low_limit : u.wrote ≤ v.limit = in_limit config h low k w.g v.limit fixed e u run e_low actor wr.makes in_g in
    let not_after = f.not_after in
    let limit_is = f.limit_is in
    let is_clear = clear config h low read w k f.t x.txn was.0 wr.number (Some window) f.answer v u e wr.kind run o.run m origin_low o.part was.1 refl wr.member actor wr.makes in
    let seen = item_of_shown (Its x.txn wr.number e.event wr.kind) config h (start_of read) (Session read.session) w k f.t (Some window) f.answer v u on.place.path e run is_clear (omega (arith, low_limit)) of_path rel e_list actor wr.makes in
    let met : is_met window f.t w.paths u ≡ true = all_four (nat_lt f.t u.at) (nat_le u.at w.g) (nat_le u.wrote f.limit) (list_any (related u.path) w.paths)
    (lt-ltb f.t u.at (omega (arith, not_after, late, time))) (le-leb u.at w.g in_g) (le-leb u.wrote f.limit (omega (arith, low_limit, limit_is))) (any_of (related u.path) w.paths on.place.path of_path rel) in
    let up = met_up_to config.lease_us k (own (Tablet k) v.before) v.reading w.own_txn w.kind w.paths f.t window v.fates f.answer v.time v.append u read.at
    (collect_serves config h (start_of read) (Session read.session) w k f.t (Some window) f.answer v run) f.answers f.meets seen met in
    omega (arith, up, time)

-- ## the law

late_or_not : (a b : ℕ) → (a ≤ b) ⊎ (b < a)
late_or_not a b = elim (bool_cases (nat_le a b)) [ inl is ↦ inl (leb-true a b is) | inr not_so ↦ inr (leb-false a b not_so) ]
  where
    bool_cases : (b : Bool) → (b ≡ true) ⊎ (b ≡ false)
    bool_cases true = inl refl
    bool_cases false = inr refl

given_limits : (config : Config) (h : History) (read : Read) → Run config h → Member read (reads h) → GivenLimits config h read
given_limits config h read run m kind k l f is =
    let w = limits_of_reads config h read kind k f.t (Some (record { g = (wanted_at config read kind k).g; limit = f.limit })) f.answer run m f.visit l is in
    record {
      session = Session read.session;
      own_txn = inside config read;
      paths = w.paths;
      time_asked = w.t;
      others = w.others;
      reading = w.reading;
      now = w.now;
      append = w.append;
      before = w.before;
      stands = w.stands;
      later = w.later;
    }

pub reads_fresh : ReadsAreFresh
reads_fresh config h read run agree m held x known_is =
    let time = (reads_final config h read run m).time in
    let le : x.at ≤ read.at = elim (late_or_not x.at read.at) [
      | inl so ↦ so
      | inr late ↦ met_late config h read x run agree m held (given_limits config h read run m) known_is late
    ] in
    subst (λ (n : ℕ). x.at ≤ n) time le
