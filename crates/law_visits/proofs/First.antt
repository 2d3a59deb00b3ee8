-- The first round: each tablet is visited with a window, and the times never fall.
use Rattle.std.proofs.Common.{◌≡◌, ℕ, ◌+◌, ◌<◌, ◌≤◌, Bool, true, false, List, [], ◌∷◌, ◌++◌, Option, Some, None, nat_eq, map, refl, sym, ◌∙◌, ap, subst, inl, inr, if◌then◌else◌, arith}
use Rattle.doc_path.specs.Path.{Parts}
use Rattle.txn_data.specs.declared.actor.Actor.{Actor}
use Rattle.txn_data.specs.declared.actor.Actor.TheVariants.{Tablet}
use Rattle.txn_data.specs.declared.append.Append.{Append}
use Rattle.txn_data.specs.declared.config.Config.{Config}
use Rattle.txn_data.specs.declared.found.Found.{Found}
use Rattle.txn_data.specs.declared.read_end.ReadEnd.{ReadEnd}
use Rattle.txn_data.specs.declared.read_what.ReadWhat.TheVariants as what
use Rattle.txn_data.specs.declared.refusal.Refusal.TheVariants as refusal
use Rattle.txn_data.specs.declared.reply.Reply.{Reply}
use Rattle.txn_data.specs.declared.reply.Reply.TheVariants as reply
use Rattle.txn_data.specs.declared.request.Request.TheVariants as request
use Rattle.txn_data.specs.declared.told_refusal.ToldRefusal.TheVariants as told_refusal
use Rattle.txn_data.specs.declared.window.Window.{Window}
use Rattle.txn_types.specs.Lists.{Member}
use Rattle.txn_types.specs.History.{History, own}
use Rattle.txn_types.specs.Program.{Program, refusal_told}
use Rattle.txn_types.specs.ReadProgram.{Progress, tablets_of, limit_of, fixed, with_tablet_rows, read_done, round_two, restarted, met_then, round_one}
use Rattle.txn_types.specs.ReadProgram.{Asked as Query}
use Rattle.txn_types.specs.Run.{Steps, Serves}
use Rattle.law_machines.proofs.Basics.{member_cases, eq_true}
use Rattle.law_machines.proofs.Owns.{steps_at, stands_trans}
use Rattle.law_clocks.proofs.Answered.{list_answered}
use Rattle.law_messages.proofs.Shapes.{one_next}
use Rattle.law_read_times.proofs.Above.{fits_served}
use Rattle.law_courses.specs.Course.{IsPart, Came}
use Rattle.law_courses.proofs.Parts.{part_trans}
use Rattle.law_visits.specs.Visits.{Wanted, list_entry, collect_entry, Visit, MeetsUpTo, IsCollect, WindowedVisit}
use Rattle.law_visits.proofs.Asking.{HasValues, came_done, refused_came}
use Rattle.law_visits.proofs.Rounds.{wanted, visit_lower, with_fixed, AfterVisit, visit_came, VisitsAt, one_visit, tablet_of, tablets_more, none_more, EndedSo, done_so, two_came}

-- ## what the tablets of a run answered

-- a limit that was known is the one that is answered
known_limit : (lease : ℕ) (k : ℕ) (o : History) (reading : Option ℕ) (w : Wanted) (t l limit : ℕ) (others : List Found) (time : Option ℕ) (append : Append) →
    Serves lease (Tablet k) o reading (request.ListRead w.own_txn w.paths t w.g (Some l)) (reply.Listed limit others) time append → limit ≡ l
known_limit lease k o reading w t l limit others time append served =
    let a = list_answered lease (Tablet k) o reading w.own_txn w.paths t w.g (Some l) (reply.Listed limit others) time append served tt in
    let is = a.reply in cc

served_limit : (config : Config) (h low : History) (m : Actor) (w : Wanted) (k t : ℕ) (window : Option Window) (answer : Reply) (v : Visit h low m w k t window answer) (l : ℕ) → Steps config h → v.known ≡ Some l → v.limit ≡ l
unfolding Steps
served_limit config h low m w k t window answer v l steps is =
    let e = list_entry m w k t v.known v.limit v.others v.list_reading v.list_time v.list_append in
    let c = collect_entry m w k t window v.fates answer v.reading v.time v.append in
    let up_to : Steps config (e ∷ v.list_before) = steps_at config e v.list_before h steps (stands_trans e c v.list_before v.before h v.listed v.collected) in
    known_limit config.lease_us k (own (Tablet k) v.list_before) v.list_reading w t l v.limit v.others v.list_time v.list_append
    (subst (λ (o : Option ℕ). Serves config.lease_us (Tablet k) (own (Tablet k) v.list_before) v.list_reading (request.ListRead w.own_txn w.paths t w.g o) (reply.Listed v.limit v.others) v.list_time v.list_append) is up_to.1.2)

-- so the window ends at the limit that was answered
fixed_is : (config : Config) (h low : History) (m : Actor) (w : Wanted) (k t : ℕ) (window : Option Window) (answer : Reply) (v : Visit h low m w k t window answer) (known : Option ℕ) (limit : ℕ) → Steps config h → v.known ≡ known → v.limit ≡ limit →
    v.limit ≡ elim known [ Some l ↦ l | None ↦ limit ]
fixed_is config h low m w k t window answer v (Some l) limit steps is same = served_limit config h low m w k t window answer v l steps is
fixed_is config h low m w k t window answer v None limit steps is same = same

-- what a collect met is above its time
met_up : (config : Config) (h low : History) (m : Actor) (w : Wanted) (k t : ℕ) (window : Option Window) (at : ℕ) (path : Parts) (v : Visit h low m w k t window (reply.Met at path)) → Steps config h → t < at
unfolding Steps
met_up config h low m w k t window at path v steps =
    let c = collect_entry m w k t window v.fates (reply.Met at path) v.reading v.time v.append in
    let up_to : Steps config (c ∷ v.before) = steps_at config c v.before h steps v.collected in
    fits_served config.lease_us (Tablet k) (own (Tablet k) v.before) v.reading (request.Collect w.own_txn w.kind w.paths t window v.fates) (reply.Met at path) v.time v.append up_to.1.2

-- ## first visits

abbrev pub WindowedVisits : History → History → Actor → Query → ℕ → List ℕ → Type 0
WindowedVisits h low m a final ks = (k : ℕ) → Member k ks → WindowedVisit h low m (wanted a k) k final

meets_raised : (r : Reply) (t final : ℕ) → t ≤ final → MeetsUpTo t r → MeetsUpTo final r
meets_raised (reply.Met at path) t final le meets = omega (arith, le, meets)
meets_raised r t final le meets = tt

raised : (h low : History) (m : Actor) (w : Wanted) (k t final : ℕ) → t ≤ final → WindowedVisit h low m w k t → WindowedVisit h low m w k final
raised h low m w k t final le v = let up = v.not_after in record {
  t = v.t;
  limit = v.limit;
  answer = v.answer;
  visit = v.visit;
  limit_is = v.limit_is;
  not_after = omega (arith, le, up);
  meets = meets_raised v.answer t final le v.meets;
  answers = v.answers;
}

one_first : (h low : History) (m : Actor) (a : Query) (t final k : ℕ) (ks : List ℕ) → t ≤ final → WindowedVisits h low m a t ks → WindowedVisit h low m (wanted a k) k final → WindowedVisits h low m a final (ks ++ k ∷ [])
one_first h low m a t final k ks le all new j of = elim (member_cases j ks (k ∷ []) of) [
  | inl old ↦ raised h low m (wanted a j) j t final le (all j old)
  | inr here ↦ elim here [
    | inl is ↦ subst (λ (n : ℕ). WindowedVisit h low m (wanted a n) n final) (sym is) new
    | inr none ↦ absurd none
  ]
]

first_of : (config : Config) (h low mid : History) (m : Actor) (own had : Option ℕ) (a : Query) (s : Progress) (k final : ℕ) (next : Progress → Reply → Program ReadEnd) (end : ReadEnd) → Steps config h → IsPart low mid → (v : AfterVisit m h own mid had a s true k next end) → IsCollect v.answer →
    s.t ≤ final → MeetsUpTo final v.answer → WindowedVisit h low m (wanted a k) k final
first_of config h low mid m own had a s k final next end steps part v answers le meets =
    let lower = visit_lower h low mid m (wanted a k) k s.t (Some (record { g = a.g; limit = fixed k v.limit s.limits })) v.answer part v.visit in
    record {
      t = s.t;
      limit = fixed k v.limit s.limits;
      answer = v.answer;
      visit = lower;
      limit_is = fixed_is config h low m (wanted a k) k s.t (Some (record { g = a.g; limit = fixed k v.limit s.limits })) v.answer lower (limit_of k s.limits) v.limit steps v.known v.limit_is;
      not_after = le;
      meets = meets;
      answers = answers;
    }

-- ## the round

-- as long as it met nothing, its rows are of visits at its time
abbrev pub Unmet : History → History → Actor → Query → Progress → List ℕ → Type 0
Unmet h low m a s done = s.restarts ≡ 0 → (map tablet_of s.found ≡ done) × VisitsAt h low m a s.t s.found

-- what the rest of the first round comes to, after visits of these tablets
abbrev pub OneComes : History → History → Actor → Option ℕ → Option ℕ → Query → ReadEnd → List ℕ → Type 0
OneComes h low m own had a end ks = (s : Progress) (mid : History) (done : List ℕ) → IsPart low mid → tablets_of a.places ≡ done ++ ks → WindowedVisits h low m a s.t done → Unmet h low m a s done → Came m h own mid had (round_one a s ks) end →
    EndedSo h low m a end (tablets_of a.places) × WindowedVisits h low m a end.t (tablets_of a.places)

round_done : (h low : History) (m : Actor) (own had : Option ℕ) (a : Query) (end : ReadEnd) (s : Progress) (mid : History) (done : List ℕ) (b : Bool) → HasValues end.what → IsPart low mid → nat_eq s.restarts 0 ≡ b → tablets_of a.places ≡ done → WindowedVisits h low m a s.t done → Unmet h low m a s done →
    Came m h own mid had (if b then read_done a s else round_two a (record s { found = [] }) (tablets_of a.places)) end → EndedSo h low m a end (tablets_of a.places) × WindowedVisits h low m a end.t (tablets_of a.places)
round_done h low m own had a end s mid done true values part zero all first unmet came =
    let now = unmet (eq_true s.restarts 0 zero) in
    let r = done_so h low m a s end (tablets_of a.places) (came_done m h own mid had _ end came) (now.0 ∙ sym all) now.1 in
    (r.0, subst (λ (n : ℕ). WindowedVisits h low m a n (tablets_of a.places)) (sym r.1) (subst (λ (l : List ℕ). WindowedVisits h low m a s.t l) (sym all) first))
round_done h low m own had a end s mid done false values part zero all first unmet came =
    let r = two_came h low m own had a end (tablets_of a.places) values (record s { found = [] }) mid part (λ f none. absurd none) came in
    (r.0, subst (λ (n : ℕ). WindowedVisits h low m a n (tablets_of a.places)) (sym r.1) (subst (λ (l : List ℕ). WindowedVisits h low m a s.t l) (sym all) first))

met_on : (m : Actor) (h : History) (own : Option ℕ) (mid : History) (had : Option ℕ) (strict : Bool) (at : ℕ) (path : Parts) (seen : Progress) (next : Program ReadEnd) (end : ReadEnd) → HasValues end.what →
    Came m h own mid had (met_then strict (what.Restart at path) seen next) end → Came m h own mid had next end
met_on m h own mid had true at path seen next end values came =
    let is = came_done m h own mid had (record { what = what.Restart at path; t = seen.t; restarts = seen.restarts; limits = seen.limits }) end came in
    absurd (subst (λ (e : ReadEnd). HasValues e.what) (sym is) values)
met_on m h own mid had false at path seen next end values came = came

more_tablets : (done : List ℕ) (k : ℕ) (ks : List ℕ) → done ++ (k ∷ ks) ≡ (done ++ k ∷ []) ++ ks
more_tablets [] k ks = refl
more_tablets (d ∷ ds) k ks = ap (λ (l : List ℕ). d ∷ l) (more_tablets ds k ks)

plus_not : (n : ℕ) → n + 1 ≡ 0 → ⊥
plus_not n is = omega (arith, is)

pub one_came : (config : Config) (h low : History) (m : Actor) (own had : Option ℕ) (a : Query) (end : ReadEnd) (ks : List ℕ) → Steps config h → HasValues end.what → OneComes h low m own had a end ks
unfolding round_one
one_came config h low m own had a end [] steps values s mid done part all first unmet came =
    round_done h low m own had a end s mid done (nat_eq s.restarts 0) values part refl (all ∙ sym (none_more done)) first unmet came
one_came config h low m own had a end (k ∷ ks) steps values s mid done part all first unmet came =
    let v = visit_came m h own mid had a s true k (one_next a k ks) end values (λ seen lower last. refused_came m h own lower had (refusal_told (Tablet k) refusal.Memory) seen end last values) came in
    one_answer (λ s mid done part all first unmet came. one_came config h low m own had a end ks steps values s mid done part all first unmet came) v v.answer refl
  where
    one_answer : OneComes h low m own had a end ks → (v : AfterVisit m h own mid had a s true k (one_next a k ks) end) (r : Reply) → v.answer ≡ r → EndedSo h low m a end (tablets_of a.places) × WindowedVisits h low m a end.t (tablets_of a.places)
    one_answer on v (reply.Collected rows) is =
        let seen = with_fixed s k v.limit in
        let window : Option Window = Some (record { g = a.g; limit = fixed k v.limit s.limits }) in
        let new : Visit h low m (wanted a k) k s.t window (reply.Collected rows) = visit_lower h low mid m (wanted a k) k s.t window (reply.Collected rows) part (subst (λ (r : Reply). Visit h mid m (wanted a k) k s.t window r) is v.visit) in
        let more : Came m h own v.high had (one_next a k ks seen (reply.Collected rows)) end = subst (λ (r : Reply). Came m h own v.high had (one_next a k ks seen r) end) is v.came in
        let here : WindowedVisit h low m (wanted a k) k s.t = first_of config h low mid m own had a s k s.t (one_next a k ks) end steps part v (subst IsCollect (sym is) tt) (omega arith) (subst (MeetsUpTo s.t) (sym is) tt) in
        on (with_tablet_rows k rows seen) v.high (done ++ k ∷ []) (part_trans low mid v.high part v.part) (all ∙ more_tablets done k ks) (one_first h low m a s.t s.t k done (omega arith) first here)
        (λ zero. let now = unmet zero in (none_more (map tablet_of (s.found ++ (record { tablet = k; rows = rows }) ∷ [])) ∙ (tablets_more s.found k rows [] ∙ ap (λ (l : List ℕ). l ++ k ∷ []) now.0), one_visit h low m a s.t k rows window s.found now.1 new)) more
    one_answer on v (reply.Met at path) is =
        let seen = with_fixed s k v.limit in
        let window : Option Window = Some (record { g = a.g; limit = fixed k v.limit s.limits }) in
        let met : Visit h mid m (wanted a k) k s.t window (reply.Met at path) = subst (λ (r : Reply). Visit h mid m (wanted a k) k s.t window r) is v.visit in
        let up = met_up config h mid m (wanted a k) k s.t window at path met steps in
        let le : s.t ≤ at = omega (arith, up) in
        let more : Came m h own v.high had (one_next a k ks seen (reply.Met at path)) end = subst (λ (r : Reply). Came m h own v.high had (one_next a k ks seen r) end) is v.came in
        let here : WindowedVisit h low m (wanted a k) k at = first_of config h low mid m own had a s k at (one_next a k ks) end steps part v (subst IsCollect (sym is) tt) le (subst (MeetsUpTo at) (sym is) (omega arith)) in
        on (restarted at seen) v.high (done ++ k ∷ []) (part_trans low mid v.high part v.part) (all ∙ more_tablets done k ks) (one_first h low m a s.t at k done le first here)
        (λ zero. absurd (plus_not s.restarts zero)) (met_on m h own v.high had a.strict at path seen (round_one a (restarted at seen) ks) end values more)
    one_answer on v (reply.Refused why) is =
        absurd (refused_came m h own v.high had (refusal_told (Tablet k) why) (with_fixed s k v.limit) end (subst (λ (r : Reply). Came m h own v.high had (one_next a k ks (with_fixed s k v.limit) r) end) is v.came) values)
    one_answer on v r is =
        absurd (refused_came m h own v.high had told_refusal.Memory (with_fixed s k v.limit) end (subst (λ (r : Reply). Came m h own v.high had (one_next a k ks (with_fixed s k v.limit) r) end) is v.came) values)
