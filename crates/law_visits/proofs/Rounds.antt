-- The rounds of a read: where it ends with values, each of its tablets was visited at its final time.
use Rattle.std.proofs.Common.{◌≡◌, ℕ, Bool, false, List, [], ◌∷◌, ◌++◌, Option, None, map, refl, sym, ap, subst, inl, inr}
use Rattle.txn_data.specs.declared.actor.Actor.{Actor}
use Rattle.txn_data.specs.declared.actor.Actor.TheVariants.{Tablet}
use Rattle.txn_data.specs.declared.entry.Entry.{Entry}
use Rattle.txn_data.specs.declared.event.Event.TheVariants.{Serve}
use Rattle.txn_data.specs.declared.fate_of.FateOf.{FateOf}
use Rattle.txn_data.specs.declared.read_end.ReadEnd.{ReadEnd}
use Rattle.txn_data.specs.declared.read_what.ReadWhat.TheVariants as what
use Rattle.txn_data.specs.declared.refusal.Refusal.TheVariants as refusal
use Rattle.txn_data.specs.declared.reply.Reply.{Reply}
use Rattle.txn_data.specs.declared.reply.Reply.TheVariants as reply
use Rattle.txn_data.specs.declared.request.Request.{Request}
use Rattle.txn_data.specs.declared.request.Request.TheVariants as request
use Rattle.txn_data.specs.declared.row.Row.{Row}
use Rattle.txn_data.specs.declared.told_refusal.ToldRefusal.TheVariants as told_refusal
use Rattle.txn_data.specs.declared.window.Window.{Window}
use Rattle.txn_types.specs.Lists.{Member}
use Rattle.txn_types.specs.History.{History, own}
use Rattle.txn_types.specs.Program.{Program, Asks, refusal_told}
use Rattle.txn_types.specs.ReadProgram.{Progress, TabletRows, paths_on, limit_of, with_limit, read_refused, ask_fates, window_of, fixed, visit, with_tablet_rows, all_rows, round_two}
use Rattle.txn_types.specs.ReadProgram.{Asked as Query}
use Rattle.law_machines.proofs.Basics.{member_cases}
use Rattle.law_messages.proofs.Shapes.{two_next}
use Rattle.law_courses.specs.Course.{IsPart, entry_of, Answer, answered, Came}
use Rattle.law_courses.proofs.Parts.{part_refl, part_more, part_trans, part_stands}
use Rattle.law_visits.specs.Visits.{Wanted, list_entry, collect_entry, Visit}
use Rattle.law_visits.proofs.Asking.{HasValues, asks_came, came_done, refused_came, asked_on, fates_came}

abbrev pub wanted : Query → ℕ → Wanted
wanted a k = record { own_txn = a.own_txn; kind = a.kind; paths = paths_on k a.places; g = a.g }

abbrev pub visit_lower : (h low mid : History) (m : Actor) (w : Wanted) (k t : ℕ) (window : Option Window) (answer : Reply) → IsPart low mid → Visit h mid m w k t window answer → Visit h low m w k t window answer
visit_lower h low mid m w k t window answer part v = record {
  known = v.known;
  limit = v.limit;
  others = v.others;
  list_reading = v.list_reading;
  list_time = v.list_time;
  list_append = v.list_append;
  list_before = v.list_before;
  fates = v.fates;
  reading = v.reading;
  time = v.time;
  append = v.append;
  before = v.before;
  later = part_trans low mid v.list_before part v.later;
  listed = v.listed;
  asked = v.asked;
  collected = v.collected;
}

-- ## one visit

-- with the limit that it fixed
abbrev pub with_fixed : Progress → ℕ → ℕ → Progress
with_fixed s k limit = record s { limits = with_limit k limit s.limits }

-- what a visit came to
pub record AfterVisit (m : Actor) (h : History) (own : Option ℕ) (low : History) (had : Option ℕ) (a : Query) (s : Progress) (windowed : Bool) (k : ℕ) (next : Progress → Reply → Program ReadEnd) (end : ReadEnd) : Type 0 where
  pub limit : ℕ
  pub answer : Reply
  pub high : History
  pub part : IsPart low high
  pub visit : Visit h low m (wanted a k) k s.t (window_of windowed a.g (fixed k limit s.limits)) answer
  pub known : visit.known ≡ limit_of k s.limits
  pub limit_is : visit.limit ≡ limit
  pub came : Came m h own high had (next (with_fixed s k limit) answer) end

abbrev collect_of : Query → Progress → Bool → ℕ → ℕ → List FateOf → Request
collect_of a s windowed k limit fates = request.Collect a.own_txn a.kind (paths_on k a.places) s.t (window_of windowed a.g (fixed k limit s.limits)) fates

abbrev list_of : Query → Progress → ℕ → Request
list_of a s k = request.ListRead a.own_txn (paths_on k a.places) s.t a.g (limit_of k s.limits)

abbrev list_next : Query → Progress → Bool → ℕ → (Progress → Reply → Program ReadEnd) → Reply → Program ReadEnd
list_next a s windowed k next r = elim r [
  | reply.Listed limit others ↦
      let seen : Progress = record s { limits = with_limit k limit s.limits } in
      ask_fates seen others [] (λ fates. Asks (Tablet k) (request.Collect a.own_txn a.kind (paths_on k a.places) s.t (window_of windowed a.g (fixed k limit s.limits)) fates) (λ answer. next seen answer))
  | reply.Refused why ↦ read_refused (refusal_told (Tablet k) why) s
  | _ ↦ read_refused told_refusal.Memory s
]

-- a visit whose collect is lost comes to no values
abbrev Stops : Actor → History → Option ℕ → Option ℕ → (Progress → Reply → Program ReadEnd) → ReadEnd → Type 0
Stops m h own had next end = (seen : Progress) (low : History) → Came m h own low had (next seen (reply.Refused refusal.Memory)) end → ⊥

pub visit_came : (m : Actor) (h : History) (own : Option ℕ) (low : History) (had : Option ℕ) (a : Query) (s : Progress) (windowed : Bool) (k : ℕ) (next : Progress → Reply → Program ReadEnd) (end : ReadEnd) → HasValues end.what → Stops m h own had next end →
    Came m h own low had (visit a s windowed k next) end → AfterVisit m h own low had a s windowed k next end
visit_came m h own low had a s windowed k next end values stops came =
    asks_came m h own low had (Tablet k) (list_of a s k) (list_next a s windowed k next) end (AfterVisit m h own low had a s windowed k next end) (λ never. cc) came
    (λ one more. listed_came one one.reply refl more)
    (λ more. absurd (refused_came m h own low had (refusal_told (Tablet k) refusal.Memory) s end more values))
  where
    listed_came : (one : Answer m (Tablet k) (list_of a s k) h low) (r : Reply) → one.reply ≡ r → Came m h own (answered m (Tablet k) (list_of a s k) h low one) had (list_next a s windowed k next r) end → AfterVisit m h own low had a s windowed k next end
    listed_came one (reply.Listed limit others) is more =
        let e = entry_of (Tablet k) one.reading (Serve m (list_of a s k) one.reply one.time one.append) in
        let f = list_entry m (wanted a k) k s.t (limit_of k s.limits) limit others one.reading one.time one.append in
        let same : e ≡ f = ap (λ (r : Reply). entry_of (Tablet k) one.reading (Serve m (list_of a s k) r one.time one.append)) is in
        let seen = with_fixed s k limit in
        let mid = f ∷ one.before in
        let on : Came m h own mid had (list_next a s windowed k next (reply.Listed limit others)) end = subst (λ (g : Entry). Came m h own (g ∷ one.before) had (list_next a s windowed k next (reply.Listed limit others)) end) same more in
        let r = fates_came m h own mid mid had seen others [] (λ fates. Asks (Tablet k) (collect_of a s windowed k limit fates) (λ answer. next seen answer)) end (part_refl mid) (λ g none. absurd none) values on in
        asks_came m h own r.high had (Tablet k) (collect_of a s windowed k limit r.found) (λ answer. next seen answer) end (AfterVisit m h own low had a s windowed k next end) (λ never. cc) r.came
        (λ two last.
        let c = collect_entry m (wanted a k) k s.t (window_of windowed a.g (fixed k limit s.limits)) r.found two.reply two.reading two.time two.append in
        record {
          limit = limit;
          answer = two.reply;
          high = c ∷ two.before;
          part = part_more low c two.before (part_trans low mid two.before (part_more low f one.before one.later) (part_trans mid r.high two.before r.part two.later));
          visit = record {
            known = limit_of k s.limits;
            limit = limit;
            others = others;
            list_reading = one.reading;
            list_time = one.time;
            list_append = one.append;
            list_before = one.before;
            fates = r.found;
            reading = two.reading;
            time = two.time;
            append = two.append;
            before = two.before;
            later = one.later;
            listed = part_stands f one.before two.before (part_trans mid r.high two.before r.part two.later);
            asked = record { told = asked_on m s.t mid r.high two.before r.found two.later r.told; each = r.each };
            collected = two.stands;
          };
          known = refl;
          limit_is = refl;
          came = last;
        })
        (λ last. absurd (stops seen r.high last))
    listed_came one (reply.Refused why) is more = absurd (refused_came m h own (answered m (Tablet k) (list_of a s k) h low one) had (refusal_told (Tablet k) why) s end more values)
    listed_came one r is more = absurd (refused_came m h own (answered m (Tablet k) (list_of a s k) h low one) had told_refusal.Memory s end more values)

-- ## visits that show rows

abbrev pub VisitsAt : History → History → Actor → Query → ℕ → List TabletRows → Type 0
VisitsAt h low m a t found = (f : TabletRows) → Member f found → (window : Option Window) × Visit h low m (wanted a f.tablet) f.tablet t window (reply.Collected f.rows)

pub one_visit : (h low : History) (m : Actor) (a : Query) (t k : ℕ) (rows : List Row) (window : Option Window) (found : List TabletRows) → VisitsAt h low m a t found → Visit h low m (wanted a k) k t window (reply.Collected rows) →
    VisitsAt h low m a t (found ++ (record { tablet = k; rows = rows }) ∷ [])
one_visit h low m a t k rows window found all new f of = elim (member_cases f found ((record { tablet = k; rows = rows }) ∷ []) of) [
  | inl old ↦ all f old
  | inr here ↦ elim here [
    | inl is ↦ (window, subst (λ (g : TabletRows). Visit h low m (wanted a g.tablet) g.tablet t window (reply.Collected g.rows)) (sym is) new)
    | inr none ↦ absurd none
  ]
]

abbrev pub tablet_of : TabletRows → ℕ
tablet_of f = f.tablet

pub tablets_more : (found : List TabletRows) (k : ℕ) (rows : List Row) (ks : List ℕ) → map tablet_of (found ++ (record { tablet = k; rows = rows }) ∷ []) ++ ks ≡ map tablet_of found ++ (k ∷ ks)
tablets_more [] k rows ks = refl
tablets_more (f ∷ fs) k rows ks = ap (λ (l : List ℕ). f.tablet ∷ l) (tablets_more fs k rows ks)

-- a read that ended with the rows of such visits
pub record EndedSo (h low : History) (m : Actor) (a : Query) (end : ReadEnd) (tablets : List ℕ) : Type 0 where
  pub found : List TabletRows
  pub tablets_are : map tablet_of found ≡ tablets
  pub shows : end.what ≡ what.Values (all_rows a.kind a.places found)
  pub visits : VisitsAt h low m a end.t found

-- ## the second round

-- what the rest of the second round comes to
abbrev TwoComes : History → History → Actor → Option ℕ → Option ℕ → Query → ReadEnd → List ℕ → Type 0
TwoComes h low m own had a end ks = (s : Progress) (mid : History) → IsPart low mid → VisitsAt h low m a s.t s.found → Came m h own mid had (round_two a s ks) end → EndedSo h low m a end (map tablet_of s.found ++ ks) × (end.t ≡ s.t)

pub done_so : (h low : History) (m : Actor) (a : Query) (s : Progress) (end : ReadEnd) (tablets : List ℕ) → record { what = what.Values (all_rows a.kind a.places s.found); t = s.t; restarts = s.restarts; limits = s.limits } ≡ end → map tablet_of s.found ≡ tablets → VisitsAt h low m a s.t s.found →
    EndedSo h low m a end tablets × (end.t ≡ s.t)
done_so h low m a s end tablets is same visits =
    let t : s.t ≡ end.t = ap (λ (e : ReadEnd). e.t) is in
    (record { found = s.found; tablets_are = same; shows = sym (ap (λ (e : ReadEnd). e.what) is); visits = subst (λ (n : ℕ). VisitsAt h low m a n s.found) t visits }, sym t)

pub none_more : (ks : List ℕ) → ks ≡ ks ++ []
none_more [] = refl
none_more (k ∷ ks) = ap (λ (l : List ℕ). k ∷ l) (none_more ks)

pub two_came : (h low : History) (m : Actor) (own had : Option ℕ) (a : Query) (end : ReadEnd) (ks : List ℕ) → HasValues end.what → TwoComes h low m own had a end ks
unfolding round_two
two_came h low m own had a end [] values s mid part visits came = done_so h low m a s end (map tablet_of s.found ++ []) (came_done m h own mid had _ end came) (none_more (map tablet_of s.found)) visits
two_came h low m own had a end (k ∷ ks) values s mid part visits came =
    let v = visit_came m h own mid had a s false k (two_next a k ks) end values (λ seen lower last. refused_came m h own lower had (refusal_told (Tablet k) refusal.Memory) seen end last values) came in
    two_answer (λ s mid part visits came. two_came h low m own had a end ks values s mid part visits came) v v.answer refl
  where
    two_answer : TwoComes h low m own had a end ks → (v : AfterVisit m h own mid had a s false k (two_next a k ks) end) (r : Reply) → v.answer ≡ r → EndedSo h low m a end (map tablet_of s.found ++ (k ∷ ks)) × (end.t ≡ s.t)
    two_answer on v (reply.Collected rows) is =
        let seen = with_fixed s k v.limit in
        let new : Visit h low m (wanted a k) k s.t None (reply.Collected rows) = visit_lower h low mid m (wanted a k) k s.t None (reply.Collected rows) part (subst (λ (r : Reply). Visit h mid m (wanted a k) k s.t None r) is v.visit) in
        let more : Came m h own v.high had (two_next a k ks seen (reply.Collected rows)) end = subst (λ (r : Reply). Came m h own v.high had (two_next a k ks seen r) end) is v.came in
        let r = on (with_tablet_rows k rows seen) v.high (part_trans low mid v.high part v.part) (one_visit h low m a s.t k rows None s.found visits new) more in
        (subst (λ (l : List ℕ). EndedSo h low m a end l) (tablets_more s.found k rows ks) r.0, r.1)
    two_answer on v (reply.Refused why) is =
        absurd (refused_came m h own v.high had (refusal_told (Tablet k) why) (with_fixed s k v.limit) end (subst (λ (r : Reply). Came m h own v.high had (two_next a k ks (with_fixed s k v.limit) r) end) is v.came) values)
    two_answer on v r is =
        absurd (refused_came m h own v.high had told_refusal.Memory (with_fixed s k v.limit) end (subst (λ (r : Reply). Came m h own v.high had (two_next a k ks (with_fixed s k v.limit) r) end) is v.came) values)
