-- What each session keeps of its open transaction is its read time, and read times never fall.
use Rattle.std.proofs.Common.{◌≡◌, ℕ, ◌+◌, ◌^◌, ◌<◌, ◌≤◌, List, [], ◌∷◌, Option, Some, None, refl, ◌∙◌, ap, subst, inl, inr, ◌⊎◌, arith}
use Rattle.txn_data.specs.declared.actor.Actor.{Actor}
use Rattle.txn_data.specs.declared.actor.Actor.TheVariants.{Tablet, Status, Session, Applier}
use Rattle.txn_data.specs.declared.committed_txn.CommittedTxn.{CommittedTxn}
use Rattle.txn_data.specs.declared.config.Config.{Config}
use Rattle.txn_data.specs.declared.row.Row.{Row}
use Rattle.txn_data.specs.declared.request.Request.TheVariants as request
use Rattle.txn_data.specs.declared.told.Told.TheVariants as told
use Rattle.txn_data.specs.declared.reply.Reply.TheVariants as reply
use Rattle.txn_data.specs.declared.event.Event.{Event}
use Rattle.txn_data.specs.declared.event.Event.TheVariants.{Serve, Tell}
use Rattle.txn_data.specs.declared.entry.Entry.{Entry}
use Rattle.txn_types.specs.Lists.{or_else, or_zero}
use Rattle.txn_types.specs.History.{History}
use Rattle.txn_types.specs.Session.{Opened, txn_id}
use Rattle.txn_types.specs.Reads.{reads, reads_by, first_read_time, began_time, read_time}
use Rattle.txn_types.specs.Run.{Run, Steps, mover_at}
use Rattle.law_machines.specs.Own.{StandsOver}
use Rattle.law_machines.proofs.Basics.{eq_cases}
use Rattle.law_machines.proofs.Owns.{member_stands, stands_trans, run_until}
use Rattle.law_owners.specs.Owner.{owner_of, IsHomedAt}
use Rattle.law_owners.proofs.Serials.{id_owner, id_number}
use Rattle.law_owners.proofs.Runs.{requests_homed}
use Rattle.law_open_txns.proofs.Open.{number_of}
use Rattle.law_messages.proofs.Rules.{entry}
use Rattle.law_read_times.specs.Laws.{IsReadLine, IsUp, IsToldAt, WasOpen, ReadsAsOpen}
use Rattle.law_read_times.proofs.Runs.{reads_up, writes_as_open}
use Rattle.law_related_writes.specs.Laws.{WritesFrom, ReadAbove}
use Rattle.law_related_writes.proofs.Related.{commits_read_above}
use Rattle.law_apart.specs.Laws.{RelatedAreApart}
use Rattle.law_apart.proofs.Steps.{or_none, first_read, Same, silent_same}
use Rattle.law_apart.proofs.Keeps.{OpenedRead, same_time}
use Rattle.law_apart.proofs.Times.{IsNot, values_same, values_first, values_rise}
use Rattle.law_apart.proofs.Sessions.{SessionAt, other_session, silent_session, line_some, values_session, began_same, began_session}

-- ## what each session keeps

-- what an applier or a machine is told is no finished read, and it begins nothing
foreign_same : (config : Config) (x : ℕ) (h : History) (a : Actor) (reading : Option ℕ) (number at restarts : ℕ) (rows : List Row) → reads_by h a (Tell number (told.Values at restarts rows)) ≡ [] →
    Same config x h (entry a reading (Tell number (told.Values at restarts rows)) ∷ h)
unfolding reads began_time
foreign_same config x h a reading number at restarts rows none = (or_none (began_time x h), rw none refl)

foreign_values : (config : Config) (h : History) (a : Actor) (reading : Option ℕ) (number at restarts : ℕ) (rows : List Row) (i : ℕ) → reads_by h a (Tell number (told.Values at restarts rows)) ≡ [] → (a ≡ Session i → ⊥) → SessionAt config h i →
    SessionAt config (entry a reading (Tell number (told.Values at restarts rows)) ∷ h) i
foreign_values config h a reading number at restarts rows i none other ok =
    other_session config h (entry a reading (Tell number (told.Values at restarts rows))) i other (λ x own. foreign_same config x h a reading number at restarts rows none) ok

told_up : (config : Config) (h : History) (a : Actor) (reading : Option ℕ) (event : Event) → Run config (entry a reading event ∷ h) → IsToldAt config h a event
told_up config h a reading event run = reads_up config (entry a reading event ∷ h) h (entry a reading event) run (inl (refl, refl))

session_event : (config : Config) (h : History) (a : Actor) (reading : Option ℕ) (event : Event) → ((j : ℕ) → SessionAt config h j) → Run config (entry a reading event ∷ h) → (i : ℕ) → SessionAt config (entry a reading event ∷ h) i
session_event config h (Session j) reading (Tell number (told.Values at restarts rows)) all run i =
    values_session config h j number at restarts rows reading all (told_up config h (Session j) reading (Tell number (told.Values at restarts rows)) run).0 i
session_event config h (Tablet j) reading (Tell number (told.Values at restarts rows)) all run i = foreign_values config h (Tablet j) reading number at restarts rows i refl (λ same. cc) (all i)
session_event config h (Status j) reading (Tell number (told.Values at restarts rows)) all run i = foreign_values config h (Status j) reading number at restarts rows i refl (λ same. cc) (all i)
session_event config h (Applier j) reading (Tell number (told.Values at restarts rows)) all run i = foreign_values config h (Applier j) reading number at restarts rows i refl (λ same. cc) (all i)
session_event config h (Session j) reading (Tell number (told.Began y at)) all run i =
    let up = told_up config h (Session j) reading (Tell number (told.Began y at)) run in
    began_session config h j number y at reading all up.1 up.2 up.3 up.4 i
session_event config h (Tablet j) reading (Tell number (told.Began y at)) all run i = let up = told_up config h (Tablet j) reading (Tell number (told.Began y at)) run in let no = up.0 in cc
session_event config h (Status j) reading (Tell number (told.Began y at)) all run i = let up = told_up config h (Status j) reading (Tell number (told.Began y at)) run in let no = up.0 in cc
session_event config h (Applier j) reading (Tell number (told.Began y at)) all run i = let up = told_up config h (Applier j) reading (Tell number (told.Began y at)) run in let no = up.0 in cc
session_event config h a reading event all run i = silent_session config h (entry a reading event) i tt (all i)

pub sessions_read : (config : Config) (h : History) → Run config h → (i : ℕ) → SessionAt config h i
unfolding Steps mover_at reads began_time first_read_time
sessions_read config [] run i = record { opened = tt; fresh = λ x own low. (refl, refl) }
sessions_read config (e ∷ h) run i = session_event config h e.actor e.reading e.event (λ j. sessions_read config h (run.0, run.1.0) j) run i

-- ## read times never fall

same_rises : (config : Config) (x : ℕ) (h g : History) → Same config x h g → read_time config h x ≤ read_time config g x
same_rises config x h g same = let is = same_time config x h g same in omega (arith, is)

is_open : (o : Option Opened) (x : ℕ) → IsNot o x ⊎ ((y : Opened) × (o ≡ Some y) × (y.meta.txn ≡ x))
is_open None x = inl tt
is_open (Some y) x = elim (eq_cases y.meta.txn x) [ inl same ↦ inr (y, refl, same.1) | inr differ ↦ inl differ.1 ]

up_of : (o : Option Opened) (y : Opened) (at : ℕ) → o ≡ Some y → IsUp o at → y.r ≤ at
up_of (Some z) y at is up = let same : z ≡ y = cc in subst (λ (w : Opened). w.r ≤ at) same up
up_of None y at is up = cc

values_rises : (config : Config) (h : History) (j : ℕ) (reading : Option ℕ) (number at restarts : ℕ) (rows : List Row) (x : ℕ) → SessionAt config h j → IsReadLine (mover_at config (Session j) h).line → IsUp (mover_at config (Session j) h).keeps.opened at →
    read_time config h x ≤ read_time config (entry (Session j) reading (Tell number (told.Values at restarts rows)) ∷ h) x
values_rises config h j reading number at restarts rows x ok of up =
    let s = mover_at config (Session j) h in
    let e = entry (Session j) reading (Tell number (told.Values at restarts rows)) in
    let line = line_some s.line of in
    elim (is_open s.keeps.opened x) [
      | inl other ↦ same_rises config x h (e ∷ h) (values_same config x j number at restarts rows e h line.0 refl refl line.1 other)
      | inr y ↦
          let first = values_first config j number at restarts rows e h line.0 y.0 refl refl line.1 y.1 in
          let read : OpenedRead config h j s.keeps.serial (Some y.0) = subst (λ (o : Option Opened). OpenedRead config h j s.keeps.serial o) y.1 ok.opened in
          subst (λ (z : ℕ). read_time config h z ≤ read_time config (e ∷ h) z) y.2 (values_rise config h (e ∷ h) j s.keeps.serial at y.0 read (up_of s.keeps.opened y.0 at y.1 up) first.0 first.1)
    ]

unused_time : (config : Config) (h : History) (y : ℕ) → (began_time y h ≡ None) × (first_read config h y ≡ None) → read_time config h y ≡ 0
unused_time config h y none = ap (λ (o : Option ℕ). or_zero (or_else o (began_time y h))) none.1 ∙ ap or_zero none.0

began_rises : (config : Config) (h : History) (j : ℕ) (reading : Option ℕ) (number y at x : ℕ) → SessionAt config h j → y ≡ txn_id j ((mover_at config (Session j) h).keeps.serial + 1) → (mover_at config (Session j) h).keeps.serial + 1 < 2 ^ 64 →
    read_time config h x ≤ read_time config (entry (Session j) reading (Tell number (told.Began y at)) ∷ h) x
began_rises config h j reading number y at x ok is low =
    let serial = (mover_at config (Session j) h).keeps.serial in
    let g = entry (Session j) reading (Tell number (told.Began y at)) ∷ h in
    elim (eq_cases y x) [
      | inl same ↦
          let owner : owner_of y ≡ j = ap owner_of is ∙ id_owner j (serial + 1) low in
          let number_is : number_of y ≡ serial + 1 = ap number_of is ∙ id_number j (serial + 1) low in
          let old = unused_time config h y (ok.fresh y owner (omega (arith, number_is))) in
          subst (λ (z : ℕ). read_time config h z ≤ read_time config g z) same.1 (omega (arith, old))
      | inr differ ↦ same_rises config x h g (began_same config x (Session j) reading number y at h differ.1)
    ]

rises_event : (config : Config) (h : History) (a : Actor) (reading : Option ℕ) (event : Event) (x : ℕ) → ((j : ℕ) → SessionAt config h j) → Run config (entry a reading event ∷ h) → read_time config h x ≤ read_time config (entry a reading event ∷ h) x
rises_event config h (Session j) reading (Tell number (told.Values at restarts rows)) x all run =
    let up = told_up config h (Session j) reading (Tell number (told.Values at restarts rows)) run in
    values_rises config h j reading number at restarts rows x (all j) up.0 up.1
rises_event config h (Tablet j) reading (Tell number (told.Values at restarts rows)) x all run = same_rises config x h (entry (Tablet j) reading (Tell number (told.Values at restarts rows)) ∷ h) (foreign_same config x h (Tablet j) reading number at restarts rows refl)
rises_event config h (Status j) reading (Tell number (told.Values at restarts rows)) x all run = same_rises config x h (entry (Status j) reading (Tell number (told.Values at restarts rows)) ∷ h) (foreign_same config x h (Status j) reading number at restarts rows refl)
rises_event config h (Applier j) reading (Tell number (told.Values at restarts rows)) x all run = same_rises config x h (entry (Applier j) reading (Tell number (told.Values at restarts rows)) ∷ h) (foreign_same config x h (Applier j) reading number at restarts rows refl)
rises_event config h (Session j) reading (Tell number (told.Began y at)) x all run =
    let up = told_up config h (Session j) reading (Tell number (told.Began y at)) run in
    began_rises config h j reading number y at x (all j) up.3 up.4
rises_event config h (Tablet j) reading (Tell number (told.Began y at)) x all run = let up = told_up config h (Tablet j) reading (Tell number (told.Began y at)) run in let no = up.0 in cc
rises_event config h (Status j) reading (Tell number (told.Began y at)) x all run = let up = told_up config h (Status j) reading (Tell number (told.Began y at)) run in let no = up.0 in cc
rises_event config h (Applier j) reading (Tell number (told.Began y at)) x all run = let up = told_up config h (Applier j) reading (Tell number (told.Began y at)) run in let no = up.0 in cc
rises_event config h a reading event x all run = same_rises config x h (entry a reading event ∷ h) (silent_same config x (entry a reading event) h tt)

pub time_rises : (config : Config) (h g : History) (e : Entry) (x : ℕ) → Run config h → StandsOver e g h → read_time config g x ≤ read_time config h x
unfolding Steps
time_rises config [] g e x run stands = absurd stands
time_rises config (f ∷ h) g e x run stands =
    let before : Run config h = (run.0, run.1.0) in
    let one = rises_event config h f.actor f.reading f.event x (sessions_read config h before) run in
    elim stands [
      | inl here ↦ subst (λ (k : History). read_time config k x ≤ read_time config (f ∷ h) x) here.1 one
      | inr deeper ↦ let more = time_rises config h g e x before deeper in omega (arith, one, more)
    ]

-- ## no write reads above the read time of its transaction

open_time : (config : Config) (z : History) (i : ℕ) (o : Option Opened) (y : Opened) (x : ℕ) → OpenedRead config z i (mover_at config (Session i) z).keeps.serial o → o ≡ Some y → y.meta.txn ≡ x → read_time config z x ≡ y.r
open_time config z i (Some w) y x ok is same =
    let w_is : w ≡ y = cc in
    let id : w.meta.txn ≡ x = ap (λ (v : Opened). v.meta.txn) w_is ∙ same in
    subst (λ (n : ℕ). read_time config z n ≡ w.r) id ok.time ∙ ap (λ (v : Opened). v.r) w_is
open_time config z i None y x ok is same = cc

write_time : (config : Config) (h before : History) (i x read : ℕ) (m : Actor) → Run config h → Run config before → ((z : History) (f : Entry) → StandsOver f z before → StandsOver f z h) → m ≡ Session i → WasOpen config before m x read → read ≤ read_time config h x
write_time config h before i x read m run run_before on is was =
    let z = was.1 in
    let run_z : Run config z = run_until config before z was.0 run_before was.2 in
    let o = was.3 in
    let opened : (mover_at config (Session i) z).keeps.opened ≡ Some o.0 = subst (λ (a : Actor). (mover_at config a z).keeps.opened ≡ Some o.0) is o.1 in
    let time : read_time config z x ≡ o.0.r = open_time config z i (mover_at config (Session i) z).keeps.opened o.0 x (sessions_read config z run_z i).opened opened o.2 in
    let le = time_rises config h z was.0 x run (on z was.0 was.2) in
    let read_is = o.3 in
    omega (arith, time, le, read_is)

writes_from : (config : Config) (h before : History) (y c : ℕ) (a : Actor) (event : Event) → Run config h → Run config before → ((z : History) (f : Entry) → StandsOver f z before → StandsOver f z h) → IsHomedAt config a event → ReadsAsOpen config before event → WritesFrom y c event → c ≤ read_time config h y
writes_from config h before y c a (Serve from (request.Write meta number path op read seen fates) (reply.Written w) time append) run run_before on homed was of =
    let le = write_time config h before (owner_of meta.txn) meta.txn read from run run_before on homed.0.0 was in
    let c_le = of.1 in
    subst (λ (n : ℕ). c ≤ read_time config h n) of.0 (omega (arith, le, c_le))
writes_from config h before y c a event run run_before on homed was of = absurd of

above_time : (config : Config) (h : History) (x y : CommittedTxn) → Run config h → ReadAbove h x y → x.at ≤ read_time config h y.txn
above_time config h x y run above =
    let f = above.0 in
    let at = member_stands f h above.1 in
    writes_from config h at.0 y.txn x.at f.actor f.event run (run_until config h at.0 f run at.1) (λ z g inside. stands_trans g f z at.0 h inside at.1) (requests_homed config h f run above.1) (writes_as_open config h at.0 f run at.1) above.2

pub related_apart : RelatedAreApart
related_apart config h x y run agree of_x of_y other rel = elim (commits_read_above config h x y run agree of_x of_y other rel) [
  | inl one ↦ inl (above_time config h x y run one)
  | inr two ↦ inr (above_time config h y x run two)
]
