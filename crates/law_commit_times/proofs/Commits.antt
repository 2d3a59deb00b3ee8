-- Each transaction commits above its read time.
use Rattle.std.proofs.Common.{◌≡◌, ℕ, ◌+◌, ◌<◌, ◌≤◌, max, Bool, true, false, List, [], ◌∷◌, Option, Some, None, nat_eq, refl, sym, ◌∙◌, ap, subst, inl, inr, if◌then◌else◌, arith}
use Rattle.hybrid_time.specs.Time.{time_at}
use Rattle.txn_data.specs.declared.actor.Actor.{Actor}
use Rattle.txn_data.specs.declared.actor.Actor.TheVariants.{Session}
use Rattle.txn_data.specs.declared.append.Append.{Append}
use Rattle.txn_data.specs.declared.command.Command.{Command}
use Rattle.txn_data.specs.declared.command.Command.TheVariants as command
use Rattle.txn_data.specs.declared.config.Config.{Config}
use Rattle.txn_data.specs.declared.reply.Reply.{Reply}
use Rattle.txn_data.specs.declared.request.Request.TheVariants as request
use Rattle.txn_data.specs.declared.told.Told.TheVariants as told
use Rattle.txn_data.specs.declared.event.Event.{Event}
use Rattle.txn_data.specs.declared.event.Event.TheVariants.{Serve, Tell}
use Rattle.txn_data.specs.declared.entry.Entry.{Entry}
use Rattle.txn_types.specs.Lists.{Member, or_else, or_zero}
use Rattle.txn_types.specs.History.{History}
use Rattle.txn_types.specs.Reads.{Read, reads, inside, is_inside, first_read_time, began_by, began_time, before_start, met_since}
use Rattle.txn_types.specs.Session.{Keeps, moved_by}
use Rattle.txn_types.specs.Run.{Run, Steps, Mover, mover_at, kept_after, session_of}
use Rattle.law_machines.specs.Own.{StandsOver}
use Rattle.law_machines.proofs.Basics.{eq_true, same_cases, same_refl}
use Rattle.law_machines.proofs.Owns.{steps_at, member_stands, stands_member}
use Rattle.law_messages.proofs.Rules.{entry}
use Rattle.law_owners.specs.Owner.{owner_of, IsHomedAt}
use Rattle.law_owners.proofs.Serials.{id_owner, id_number}
use Rattle.law_owners.proofs.Runs.{requests_homed}
use Rattle.law_fates.specs.Laws.{CommittedAt}
use Rattle.law_open_txns.proofs.Open.{TouchesUpTo, number_of}
use Rattle.law_session_order.proofs.Runs.{commit_of, idle_ok}
use Rattle.law_read_times.specs.Laws.{IsBeginLine, IsToldAt}
use Rattle.law_read_times.proofs.Runs.{reads_up}
use Rattle.law_courses.proofs.Parts.{part_stands, stands_part}
use Rattle.law_apart.proofs.Steps.{start_keeps}
use Rattle.law_steady_reads.proofs.Follows.{Final}
use Rattle.law_steady_reads.proofs.Finals.{timed_at, can_final}
use Rattle.law_steady_reads.proofs.FinalTimes.{part_start, part_steps}
use Rattle.law_steady_reads.proofs.Steady.{last_rises, timed_begin, begin_some}
use Rattle.law_visit_rows.proofs.Shown.{Earlier, Later, Same, places}
use Rattle.law_right_reads.proofs.Floors.{commit_floor}
use Rattle.law_right_reads.proofs.Starts.{under_way}
use Rattle.law_right_reads.proofs.Starts.{start_of as began_at}
use Rattle.law_right_reads.proofs.Above.{commits_above_reads, same_line}
use Rattle.law_commit_times.specs.Laws.{CommitsAreAboveReadTimes}

-- ## a first finished read

record FirstRead (config : Config) (x at : ℕ) (rs : List Read) : Type 0 where
  pub read : Read
  pub member : Member read rs
  pub is_in : inside config read ≡ Some x
  pub time : read.at ≡ at

inside_is : (o : Option ℕ) (x : ℕ) → (elim o [ Some y ↦ nat_eq y x | None ↦ false ]) ≡ true → o ≡ Some x
inside_is (Some y) x is = ap Some (eq_true y x is)
inside_is None x is = cc

new_first : (config : Config) (x at : ℕ) (b : Bool) (read : Read) (rs : List Read) → is_inside config x read ≡ b → (if b then Some read.at else None) ≡ Some at → FirstRead config x at (read ∷ rs)
new_first config x at true read rs inside_it is = let time : read.at ≡ at = cc in record { read = read; member = inl refl; is_in = inside_is (inside config read) x inside_it; time = time }
new_first config x at false read rs inside_it is = cc

either_first : (config : Config) (x at : ℕ) (o : Option ℕ) (read : Read) (rs : List Read) → first_read_time config x rs ≡ o → or_else o (if is_inside config x read then Some read.at else None) ≡ Some at → (first_read_time config x rs ≡ Some at → FirstRead config x at rs) → FirstRead config x at (read ∷ rs)
either_first config x at (Some t) read rs first is more =
    let same : t ≡ at = cc in
    let r = more (first ∙ ap Some same) in
    record { read = r.read; member = inr r.member; is_in = r.is_in; time = r.time }
either_first config x at None read rs first is more = new_first config x at (is_inside config x read) read rs refl is

first_is : (config : Config) (x at : ℕ) (rs : List Read) → first_read_time config x rs ≡ Some at → FirstRead config x at rs
unfolding first_read_time
first_is config x at [] is = cc
first_is config x at (read ∷ rs) is = either_first config x at (first_read_time config x rs) read rs refl is (first_is config x at rs)

-- ## a begin that was told

record ToldBegun (x at : ℕ) (h : History) : Type 0 where
  pub actor : Actor
  pub reading : Option ℕ
  pub number : ℕ
  pub before : History
  pub stands : StandsOver (entry actor reading (Tell number (told.Began x at))) before h

new_begun : (x at number y t : ℕ) (b : Bool) (a : Actor) (reading : Option ℕ) (h : History) → nat_eq y x ≡ b → (if b then Some t else None) ≡ Some at → ToldBegun x at (entry a reading (Tell number (told.Began y t)) ∷ h)
new_begun x at number y t true a reading h same is =
    let time : t ≡ at = cc in
    let id : y ≡ x = eq_true y x same in
    record {
      actor = a;
      reading = reading;
      number = number;
      before = h;
      stands = inl (ap (λ (z : ℕ). entry a reading (Tell number (told.Began z t))) id ∙ ap (λ (z : ℕ). entry a reading (Tell number (told.Began x z))) time, refl);
    }
new_begun x at number y t false a reading h same is = cc

event_begun : (x at : ℕ) (a : Actor) (reading : Option ℕ) (event : Event) (h : History) → began_by x event ≡ Some at → ToldBegun x at (entry a reading event ∷ h)
event_begun x at a reading (Tell number (told.Began y t)) h is = new_begun x at number y t (nat_eq y x) a reading h refl is
event_begun x at a reading event h is = cc

either_begun : (x at : ℕ) (o : Option ℕ) (e : Entry) (h : History) → began_time x h ≡ o → or_else o (began_by x e.event) ≡ Some at → (began_time x h ≡ Some at → ToldBegun x at h) → ToldBegun x at (e ∷ h)
either_begun x at (Some t) e h began is more =
    let same : t ≡ at = cc in
    let b = more (began ∙ ap Some same) in
    record { actor = b.actor; reading = b.reading; number = b.number; before = b.before; stands = inr b.stands }
either_begun x at None e h began is more = event_begun x at e.actor e.reading e.event h is

begun_is : (x at : ℕ) (h : History) → began_time x h ≡ Some at → ToldBegun x at h
unfolding began_time
begun_is x at [] is = cc
begun_is x at (e ∷ h) is = either_begun x at (began_time x h) e h refl is (begun_is x at h)

-- ## the time told is not above its session's time then

taken_up : (last : ℕ) (reading : Option ℕ) → max last (time_at (or_zero reading) 0) ≤ max (moved_by last reading) 0
taken_up last None = omega arith
taken_up last (Some r) = omega arith

begin_taken : (config : Config) (a : Actor) (s : Mover) (line : Option Command) (y at : ℕ) → IsBeginLine line → at ≡ max s.keeps.last (time_at (or_zero s.reading) 0) → at ≤ (kept_after config a s line (told.Began y at)).last
begin_taken config a s (Some line) y at of is = let le = taken_up s.keeps.last s.reading in omega (arith, le, is)
begin_taken config a s None y at of is = absurd of

told_last : (config : Config) (m : Actor) (reading : Option ℕ) (number y at : ℕ) (h : History) → at ≤ (kept_after config m (mover_at config m h) (mover_at config m h).line (told.Began y at)).last → at ≤ (mover_at config m (entry m reading (Tell number (told.Began y at)) ∷ h)).keeps.last
unfolding mover_at
told_last config m reading number y at h le = let same = same_refl m in rw same le

began_taken : (config : Config) (h : History) (j : ℕ) (reading : Option ℕ) (number y at : ℕ) → Run config (entry (Session j) reading (Tell number (told.Began y at)) ∷ h) → IsBeginLine (mover_at config (Session j) h).line →
    at ≤ (mover_at config (Session j) (entry (Session j) reading (Tell number (told.Began y at)) ∷ h)).keeps.last
unfolding Steps
began_taken config h j reading number y at run of =
    let s = mover_at config (Session j) h in
    let final : Final s.keeps s.reading (met_since (Session j) h) (told.Began y at) = can_final s reading (met_since (Session j) h) (told.Began y at) run.1.1.3 tt (timed_begin s.keeps s.reading (met_since (Session j) h) s.rest s.line of (timed_at config h j run.1.0)) in
    told_last config (Session j) reading number y at h (begin_taken config (Session j) s s.line y at of final)

-- ## its commit comes later

-- a served commit leaves the line of a session
commit_other : (config : Config) (a : Actor) (reading : Option ℕ) (from : Actor) (y floor : ℕ) (tablets : List ℕ) (r : Reply) (time : Option ℕ) (append : Append) (h : History) (i : ℕ) →
    (mover_at config (Session i) (entry a reading (Serve from (request.Commit y floor tablets) r time append) ∷ h)).line ≡ (mover_at config (Session i) h).line
unfolding mover_at
commit_other config a reading from y floor tablets r time append h i = elim (same_cases a (Session i)) [
  | inl s ↦ rw s.0 refl
  | inr s ↦ rw s.0 refl
]

begin_not_commit : (line : Command) → IsBeginLine (Some line) → line ≡ command.Commit → ⊥
begin_not_commit (command.Begin priority) of is = cc
begin_not_commit line of is = of

-- a commit of a transaction is served after its begin was told, with a floor not below the time told
floor_above : (config : Config) (h before zk : History) (j : ℕ) (own a : Actor) (reading read_at : Option ℕ) (number x at floor : ℕ) (from : Actor) (tablets : List ℕ) (r : Reply) (time : Option ℕ) (append : Append) → Run config h → own ≡ Session j →
    StandsOver (entry own read_at (Tell number (told.Began x at))) before h → IsToldAt config before own (Tell number (told.Began x at)) → StandsOver (entry a reading (Serve from (request.Commit x floor tablets) r time append)) zk h → from ≡ Session j →
    owner_of x ≡ j → number_of x ≡ (mover_at config (Session j) before).keeps.serial + 1 → at ≤ floor
unfolding Steps
floor_above config h before zk j own a reading read_at number x at floor from tablets r time append run is stands up committed mine owner number_is =
    let m = Session j in
    let e = entry m read_at (Tell number (told.Began x at)) in
    let k = entry a reading (Serve m (request.Commit x floor tablets) r time append) in
    let stands_e : StandsOver e before h = subst (λ (b : Actor). StandsOver (entry b read_at (Tell number (told.Began x at))) before h) is stands in
    let stands_k : StandsOver k zk h = subst (λ (b : Actor). StandsOver (entry a reading (Serve b (request.Commit x floor tablets) r time append)) zk h) mine committed in
    let up_to : Steps config (e ∷ before) = steps_at config e before h run.1 stands_e in
    let of : IsBeginLine (mover_at config m before).line = subst (λ (b : Actor). IsBeginLine (mover_at config b before).line) is up.1 in
    let floors = commit_floor config h zk a reading j x floor tablets r time append run.1 stands_k in
    elim (places e k before zk h stands_e stands_k) [
      | Earlier there ↦
          let one = began_taken config before j read_at number x at (run.0, up_to) of in
          let two = last_rises config m (e ∷ before) zk (stands_part e before zk there) in
          let floor_is = floors.0 in
          omega (arith, one, two, floor_is)
      | Later there ↦
          let line = begin_some (mover_at config m before).line of in
          elim (under_way config m before (k ∷ zk) line.0 line.1 (stands_part k zk before there)) [
            | inl old ↦
                let low = before_start m before in
                let start = began_at config m before line.0 up_to.0 line.1 in
                let run_low : Run config low = (run.0, part_steps config low before (part_start m before) up_to.0) in
                let touches : TouchesUpTo m (mover_at config m low).keeps.serial low = (idle_ok config low j run_low start.idle).touches in
                let few = touches k (stands_member k zk low (part_stands k zk low old)) owner in
                let same : (mover_at config m low).keeps.serial ≡ (mover_at config m before).keeps.serial = ap (λ (s : Keeps). s.serial) (start_keeps config m before line.0 line.1) in
                omega (arith, few, same, number_is)
            | inr now ↦ absurd (begin_not_commit line.0 (subst IsBeginLine line.1 of) (same_line line.0 (mover_at config m zk).line (sym (commit_other config a reading m x floor tablets r time append zk j) ∙ now) floors.1))
          ]
      | Same both ↦ let no = ap (λ (g : Entry). g.event) both in cc
    ]

began_below : (config : Config) (h : History) (x c at : ℕ) → Run config h → CommittedAt h x c → ToldBegun x at h → at < c
began_below config h x c at run committed b =
    let k = commit_of config h x c run committed in
    let place = member_stands k.entry h k.member in
    let form = k.form in
    let stands : StandsOver (entry k.entry.actor k.entry.reading (Serve form.from (request.Commit x form.floor form.tablets) form.reply (Some c) form.append)) place.0 h =
    subst (λ (ev : Event). StandsOver (entry k.entry.actor k.entry.reading ev) place.0 h) form.is place.1 in
    let e = entry b.actor b.reading (Tell b.number (told.Began x at)) in
    let up : IsToldAt config b.before b.actor (Tell b.number (told.Began x at)) = reads_up config h b.before e run b.stands in
    let j = session_of b.actor in
    let serial = (mover_at config b.actor b.before).keeps.serial in
    let owner : owner_of x ≡ j = ap owner_of up.3 ∙ id_owner j (serial + 1) up.4 in
    let number_is : number_of x ≡ serial + 1 = ap number_of up.3 ∙ id_number j (serial + 1) up.4 in
    let number_here : number_of x ≡ (mover_at config (Session j) b.before).keeps.serial + 1 = number_is ∙ ap (λ (a : Actor). (mover_at config a b.before).keeps.serial + 1) up.0 in
    let homed : IsHomedAt config k.entry.actor (Serve form.from (request.Commit x form.floor form.tablets) form.reply (Some c) form.append) = subst (λ (ev : Event). IsHomedAt config k.entry.actor ev) form.is (requests_homed config h k.entry run k.member) in
    let mine : form.from ≡ Session j = homed.0.0 ∙ ap Session owner in
    let le = floor_above config h b.before place.0 j b.actor k.entry.actor k.entry.reading b.reading b.number x at form.floor form.from form.tablets form.reply (Some c) form.append run up.0 b.stands up stands mine owner number_here in
    let above = k.above in
    omega (arith, le, above)

-- ## the law

time_below : (config : Config) (h : History) (x c : ℕ) (first began : Option ℕ) → Run config h → CommittedAt h x c → first_read_time config x (reads h) ≡ first → began_time x h ≡ began → or_zero (or_else first began) < c
time_below config h x c (Some at) began run committed first_at began_at =
    let f = first_is config x at (reads h) first_at in
    let below = commits_above_reads config h f.read x c run f.member f.is_in committed in
    let time = f.time in
    omega (arith, below, time)
time_below config h x c None (Some at) run committed first_at began_at = began_below config h x c at run committed (begun_is x at h began_at)
time_below config h x c None None run committed first_at began_at = let k = commit_of config h x c run committed in let above = k.above in omega (arith, above)

pub commits_above_times : CommitsAreAboveReadTimes
commits_above_times config h x c run committed = time_below config h x c (first_read_time config x (reads h)) (began_time x h) run committed refl refl
