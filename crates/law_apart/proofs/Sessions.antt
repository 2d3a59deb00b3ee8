-- After each entry, what each session keeps of its open transaction is its read time.
use Rattle.std.proofs.Common.{◌≡◌, ℕ, ◌+◌, ◌^◌, ◌<◌, ◌≤◌, Bool, List, [], ◌∷◌, Option, Some, None, nat_eq, refl, sym, ◌∙◌, ap, subst, inl, inr, if◌then◌else◌, arith}
use Rattle.txn_data.specs.declared.actor.Actor.{Actor}
use Rattle.txn_data.specs.declared.actor.Actor.TheVariants.{Tablet, Status, Session, Applier}
use Rattle.txn_data.specs.declared.command.Command.{Command}
use Rattle.txn_data.specs.declared.command.Command.TheVariants as command
use Rattle.txn_data.specs.declared.config.Config.{Config}
use Rattle.txn_data.specs.declared.row.Row.{Row}
use Rattle.txn_data.specs.declared.told.Told.{Told}
use Rattle.txn_data.specs.declared.told.Told.TheVariants as told
use Rattle.txn_data.specs.declared.event.Event.{Event}
use Rattle.txn_data.specs.declared.event.Event.TheVariants.{Start, Ask, Serve, Hear, Tell, Restarted}
use Rattle.txn_data.specs.declared.entry.Entry.{Entry}
use Rattle.txn_types.specs.Lists.{or_else, or_zero}
use Rattle.txn_types.specs.History.{History}
use Rattle.txn_types.specs.Session.{Keeps, Opened, txn_id, opens, serial_after, opened_after}
use Rattle.txn_types.specs.Reads.{reads_by, reads, began_time, read_time}
use Rattle.txn_types.specs.Run.{Mover, mover_at, mover_after, kept_after, session_of}
use Rattle.law_machines.proofs.Basics.{eq_cases, eq_refl, same_cases}
use Rattle.law_owners.specs.Owner.{owner_of}
use Rattle.law_owners.proofs.Serials.{id_owner, id_number, serial_least}
use Rattle.law_open_txns.proofs.Open.{number_of}
use Rattle.law_messages.proofs.Rules.{entry}
use Rattle.law_read_times.specs.Laws.{IsReadLine, IsBeginLine}
use Rattle.law_apart.proofs.Steps.{or_none, first_read, IsSilent, Same, silent_same}
use Rattle.law_apart.proofs.Keeps.{OpenedRead, SessionRead, opened_same, silent_opened}
use Rattle.law_apart.proofs.Times.{IsNot, values_same, values_first, values_opened}

abbrev pub SessionAt : Config → History → ℕ → Type 0
SessionAt config h i = SessionRead config h i (mover_at config (Session i) h).keeps.serial (mover_at config (Session i) h).keeps.opened

-- nothing is told of the session's transactions
abbrev pub SameOf : Config → ℕ → History → History → Type 0
SameOf config i h g = (x : ℕ) → owner_of x ≡ i → Same config x h g

pub stays_read : (config : Config) (h g : History) (i few many : ℕ) (o : Option Opened) → SameOf config i h g → few ≤ many → SessionRead config h i few o → SessionRead config g i many o
stays_read config h g i few many o same le ok = record {
  opened = opened_same config h g i few many o same le ok.opened;
  fresh = λ x own low. let old = ok.fresh x own (omega (arith, le, low)) in let s = same x own in (s.0 ∙ old.0, s.1 ∙ old.1);
}

pub other_session : (config : Config) (h : History) (e : Entry) (i : ℕ) → (e.actor ≡ Session i → ⊥) → SameOf config i h (e ∷ h) → SessionAt config h i → SessionAt config (e ∷ h) i
unfolding mover_at
other_session config h e i other same ok = elim (same_cases e.actor (Session i)) [
  | inl s ↦ absurd (other s.1)
  | inr s ↦ rw s.0 (stays_read config h (e ∷ h) i (mover_at config (Session i) h).keeps.serial (mover_at config (Session i) h).keeps.serial (mover_at config (Session i) h).keeps.opened same (omega arith) ok)
]

own_session : (config : Config) (h : History) (e : Entry) (i : ℕ) → e.actor ≡ Session i →
    SessionRead config (e ∷ h) i (mover_after config (Session i) (mover_at config (Session i) h) e.reading e.event).keeps.serial (mover_after config (Session i) (mover_at config (Session i) h) e.reading e.event).keeps.opened →
    SessionAt config (e ∷ h) i
unfolding mover_at
own_session config h e i own ok = elim (same_cases e.actor (Session i)) [
  | inl s ↦ rw s.0 ok
  | inr s ↦ absurd (s.1 own)
]

-- ## what is told otherwise

told_silent : (config : Config) (h g : History) (i : ℕ) (s : Mover) (number : ℕ) (t : Told) (line : Option Command) → IsSilent (Tell number t) → SameOf config i h g → SessionRead config h i s.keeps.serial s.keeps.opened →
    SessionRead config g i (kept_after config (Session i) s line t).serial (kept_after config (Session i) s line t).opened
told_silent config h g i s number t None silent same ok = stays_read config h g i s.keeps.serial s.keeps.serial s.keeps.opened same (omega arith) ok
told_silent config h g i s number t (Some line) silent same ok =
    let more = serial_after s.keeps line t in
    let le : s.keeps.serial ≤ more = serial_least s.keeps line t in
    let kept = stays_read config h g i s.keeps.serial more s.keeps.opened same le ok in
    record { opened = silent_opened config g i more s.keeps line number s.reading s.limits t s.keeps.opened silent kept.opened; fresh = kept.fresh }

event_silent : (config : Config) (h g : History) (i : ℕ) (s : Mover) (reading : Option ℕ) (event : Event) → IsSilent event → SameOf config i h g → SessionRead config h i s.keeps.serial s.keeps.opened →
    SessionRead config g i (mover_after config (Session i) s reading event).keeps.serial (mover_after config (Session i) s reading event).keeps.opened
event_silent config h g i s reading (Tell number t) silent same ok = told_silent config h g i s number t s.line silent same ok
event_silent config h g i s reading (Start number line) silent same ok = stays_read config h g i s.keeps.serial s.keeps.serial s.keeps.opened same (omega arith) ok
event_silent config h g i s reading (Ask to asked) silent same ok = stays_read config h g i s.keeps.serial s.keeps.serial s.keeps.opened same (omega arith) ok
event_silent config h g i s reading (Hear from r) silent same ok = stays_read config h g i s.keeps.serial s.keeps.serial s.keeps.opened same (omega arith) ok
event_silent config h g i s reading (Serve from asked r time append) silent same ok = stays_read config h g i s.keeps.serial s.keeps.serial s.keeps.opened same (omega arith) ok
event_silent config h g i s reading (Restarted from kept) silent same ok = stays_read config h g i s.keeps.serial s.keeps.serial s.keeps.opened same (omega arith) ok

pub silent_session : (config : Config) (h : History) (e : Entry) (i : ℕ) → IsSilent e.event → SessionAt config h i → SessionAt config (e ∷ h) i
silent_session config h e i silent ok =
    let same : SameOf config i h (e ∷ h) = λ x own. silent_same config x e h silent in
    elim (same_cases e.actor (Session i)) [
      | inl s ↦ own_session config h e i s.1 (event_silent config h (e ∷ h) i (mover_at config (Session i) h) e.reading e.event silent same ok)
      | inr s ↦ other_session config h e i s.1 same ok
    ]

-- ## values

abbrev values : ℕ → Option ℕ → ℕ → ℕ → ℕ → List Row → Entry
values j reading number at restarts rows = entry (Session j) reading (Tell number (told.Values at restarts rows))

not_other : (config : Config) (h : History) (j serial : ℕ) (o : Option Opened) (x : ℕ) → OpenedRead config h j serial o → (owner_of x ≡ j → ⊥) → IsNot o x
not_other config h j serial None x ok other = tt
not_other config h j serial (Some y) x ok other = λ same. other (ap owner_of (sym same) ∙ ok.owner)

not_later : (config : Config) (h : History) (j serial : ℕ) (o : Option Opened) (x : ℕ) → OpenedRead config h j serial o → serial < number_of x → IsNot o x
not_later config h j serial None x ok low = tt
not_later config h j serial (Some y) x ok low = λ same. let number = ok.number in let is : number_of y.meta.txn ≡ number_of x = ap number_of same in omega (arith, number, is, low)

pub line_some : (o : Option Command) → IsReadLine o → (line : Command) × (o ≡ Some line)
line_some (Some line) of = (line, refl)
line_some None of = absurd of

-- what the session keeps then
values_keeps : (config : Config) (h : History) (i number at restarts : ℕ) (rows : List Row) (reading : Option ℕ) (line : Command) (o : Option Opened) → IsReadLine (Some line) →
    (mover_at config (Session i) h).line ≡ Some line → (mover_at config (Session i) h).keeps.opened ≡ o → OpenedRead config h i (mover_at config (Session i) h).keeps.serial o →
    OpenedRead config (values i reading number at restarts rows ∷ h) i (serial_after (mover_at config (Session i) h).keeps line (told.Values at restarts rows))
    (opened_after config i (mover_at config (Session i) h).keeps line (mover_at config (Session i) h).reading (mover_at config (Session i) h).limits (told.Values at restarts rows) o)
values_keeps config h i number at restarts rows reading (command.Read strict places) None of is open_is ok = tt
values_keeps config h i number at restarts rows reading (command.Scan strict place) None of is open_is ok = tt
values_keeps config h i number at restarts rows reading (command.Read strict places) (Some x) of is open_is ok =
    values_opened config h (values i reading number at restarts rows ∷ h) i (mover_at config (Session i) h).keeps.serial at restarts rows x (mover_at config (Session i) h).limits ok
    (values_first config i number at restarts rows (values i reading number at restarts rows) h (command.Read strict places) x refl refl is open_is).1
values_keeps config h i number at restarts rows reading (command.Scan strict place) (Some x) of is open_is ok =
    values_opened config h (values i reading number at restarts rows ∷ h) i (mover_at config (Session i) h).keeps.serial at restarts rows x (mover_at config (Session i) h).limits ok
    (values_first config i number at restarts rows (values i reading number at restarts rows) h (command.Scan strict place) x refl refl is open_is).1
values_keeps config h i number at restarts rows reading line o of is open_is ok = absurd of

values_own : (config : Config) (h : History) (i number at restarts : ℕ) (rows : List Row) (reading : Option ℕ) (line : Command) → IsReadLine (Some line) → (mover_at config (Session i) h).line ≡ Some line → SessionAt config h i →
    SessionAt config (values i reading number at restarts rows ∷ h) i
values_own config h i number at restarts rows reading line of is ok =
    let s = mover_at config (Session i) h in
    let e = values i reading number at restarts rows in
    let t = told.Values at restarts rows in
    let more : s.keeps.serial ≤ serial_after s.keeps line t = serial_least s.keeps line t in
    let kept : SessionRead config (e ∷ h) i (kept_after config (Session i) s (Some line) t).serial (kept_after config (Session i) s (Some line) t).opened = record {
      opened = values_keeps config h i number at restarts rows reading line s.keeps.opened of is refl ok.opened;
      fresh = λ x own low.
          let old = ok.fresh x own (omega (arith, more, low)) in
          let out : IsNot s.keeps.opened x = not_later config h i s.keeps.serial s.keeps.opened x ok.opened (omega (arith, more, low)) in
          let same = values_same config x i number at restarts rows e h line refl refl is out in
          (same.0 ∙ old.0, same.1 ∙ old.1);
    } in
    own_session config h e i refl (subst (λ (l : Option Command). SessionRead config (e ∷ h) i (kept_after config (Session i) s l t).serial (kept_after config (Session i) s l t).opened) (sym is) kept)

pub values_session : (config : Config) (h : History) (j number at restarts : ℕ) (rows : List Row) (reading : Option ℕ) → ((i : ℕ) → SessionAt config h i) → IsReadLine (mover_at config (Session j) h).line → (i : ℕ) →
    SessionAt config (values j reading number at restarts rows ∷ h) i
values_session config h j number at restarts rows reading all of i =
    let line = line_some (mover_at config (Session j) h).line of in
    elim (eq_cases j i) [
      | inl s ↦ subst (λ (k : ℕ). SessionAt config (values j reading number at restarts rows ∷ h) k) s.1
          (values_own config h j number at restarts rows reading line.0 (subst IsReadLine line.1 of) line.1 (all j))
      | inr s ↦ other_session config h (values j reading number at restarts rows) i (λ same. s.1 (let k : session_of (Session j) ≡ session_of (Session i) = ap session_of same in k))
          (λ x own. values_same config x j number at restarts rows (values j reading number at restarts rows) h line.0 refl refl line.1
          (not_other config h j (mover_at config (Session j) h).keeps.serial (mover_at config (Session j) h).keeps.opened x (all j).opened (λ mine. s.1 (sym mine ∙ own))))
          (all i)
    ]

-- ## a begin

abbrev began : Actor → Option ℕ → ℕ → ℕ → ℕ → Entry
began a reading number y at = entry a reading (Tell number (told.Began y at))

began_reads : (h : History) (a : Actor) (number y at : ℕ) → reads_by h a (Tell number (told.Began y at)) ≡ []
began_reads h (Session i) number y at = refl
began_reads h (Tablet k) number y at = refl
began_reads h (Status j) number y at = refl
began_reads h (Applier k) number y at = refl

pub began_first : (config : Config) (x : ℕ) (a : Actor) (reading : Option ℕ) (number y at : ℕ) (h : History) → first_read config (began a reading number y at ∷ h) x ≡ first_read config h x
unfolding reads
began_first config x a reading number y at h = rw (began_reads h a number y at) refl

pub began_same : (config : Config) (x : ℕ) (a : Actor) (reading : Option ℕ) (number y at : ℕ) (h : History) → (y ≡ x → ⊥) → Same config x h (began a reading number y at ∷ h)
unfolding began_time
began_same config x a reading number y at h other = elim (eq_cases y x) [
  | inl s ↦ absurd (other s.1)
  | inr s ↦ (ap (λ (b : Bool). or_else (began_time x h) (if b then Some at else None)) s.0 ∙ or_none (began_time x h), began_first config x a reading number y at h)
]

began_here : (a : Actor) (reading : Option ℕ) (number y at : ℕ) (h : History) → began_time y h ≡ None → began_time y (began a reading number y at ∷ h) ≡ Some at
unfolding began_time
began_here a reading number y at h unused = ap (λ (o : Option ℕ). or_else o (if nat_eq y y then Some at else None)) unused ∙ ap (λ (b : Bool). if b then Some at else None) (eq_refl y)

-- what it opened
began_keeps : (config : Config) (g : History) (i : ℕ) (s : Keeps) (priority y at : ℕ) (reading : Option ℕ) → s.serial + 1 < 2 ^ 64 → y ≡ txn_id i (s.serial + 1) → read_time config g y ≡ at → first_read config g y ≡ None →
    OpenedRead config g i (s.serial + 1) (opens config i s priority reading (told.Began y at))
began_keeps config g i s priority y at None low is time first = tt
began_keeps config g i s priority y at (Some reading) low is time first =
    let number = id_number i (s.serial + 1) low in
    record {
      owner = id_owner i (s.serial + 1) low;
      number = omega (arith, number);
      time = subst (λ (x : ℕ). read_time config g x ≡ at) is time;
      unread = λ none. subst (λ (x : ℕ). first_read config g x ≡ None) is first;
      done = λ none. cc;
    }

began_own : (config : Config) (h : History) (i number y at : ℕ) (reading : Option ℕ) (s : Mover) (line : Option Command) (o : Option Opened) → IsBeginLine line → o ≡ None → y ≡ txn_id i (s.keeps.serial + 1) → s.keeps.serial + 1 < 2 ^ 64 →
    SessionRead config h i s.keeps.serial o → s.keeps.opened ≡ o →
    SessionRead config (began (Session i) reading number y at ∷ h) i (kept_after config (Session i) s line (told.Began y at)).serial (kept_after config (Session i) s line (told.Began y at)).opened
began_own config h i number y at reading s (Some (command.Begin priority)) o of none is low ok same =
    let g = began (Session i) reading number y at ∷ h in
    let serial = s.keeps.serial in
    let owner : owner_of y ≡ i = ap owner_of is ∙ id_owner i (serial + 1) low in
    let number_is : number_of y ≡ serial + 1 = ap number_of is ∙ id_number i (serial + 1) low in
    let unused = ok.fresh y owner (omega (arith, number_is)) in
    let first : first_read config g y ≡ None = began_first config y (Session i) reading number y at h ∙ unused.1 in
    let time : read_time config g y ≡ at = ap (λ (p : Option ℕ). or_zero (or_else p (began_time y g))) first ∙ ap or_zero (began_here (Session i) reading number y at h unused.0) in
    record {
      opened = subst (λ (p : Option Opened). OpenedRead config g i (serial + 1) (opened_after config i s.keeps (command.Begin priority) s.reading s.limits (told.Began y at) p)) (sym (same ∙ none))
          (began_keeps config g i s.keeps priority y at s.reading low is time first);
      fresh = λ x own above.
          let other : y ≡ x → ⊥ = λ e. let e_number : number_of y ≡ number_of x = ap number_of e in omega (arith, e_number, number_is, above) in
          let old = ok.fresh x own (omega (arith, above)) in
          let stays = began_same config x (Session i) reading number y at h other in
          (stays.0 ∙ old.0, stays.1 ∙ old.1);
    }
began_own config h i number y at reading s line o of none is low ok same = absurd of

pub began_session : (config : Config) (h : History) (j number y at : ℕ) (reading : Option ℕ) → ((i : ℕ) → SessionAt config h i) →
    IsBeginLine (mover_at config (Session j) h).line → (mover_at config (Session j) h).keeps.opened ≡ None → y ≡ txn_id j ((mover_at config (Session j) h).keeps.serial + 1) → (mover_at config (Session j) h).keeps.serial + 1 < 2 ^ 64 → (i : ℕ) →
    SessionAt config (began (Session j) reading number y at ∷ h) i
began_session config h j number y at reading all of none is low i =
    let s = mover_at config (Session j) h in
    elim (eq_cases j i) [
      | inl same ↦ subst (λ (k : ℕ). SessionAt config (began (Session j) reading number y at ∷ h) k) same.1
          (own_session config h (began (Session j) reading number y at) j refl (began_own config h j number y at reading s s.line s.keeps.opened of none is low (all j) refl))
      | inr differ ↦ other_session config h (began (Session j) reading number y at) i (λ same. differ.1 (let k : session_of (Session j) ≡ session_of (Session i) = ap session_of same in k))
          (λ x own. began_same config x (Session j) reading number y at h (λ e. differ.1 (sym (ap owner_of is ∙ id_owner j (s.keeps.serial + 1) low) ∙ (ap owner_of e ∙ own))))
          (all i)
    ]
