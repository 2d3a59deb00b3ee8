-- What a read tells of its time, by the times that it met; and what a begin tells of its own.
use Rattle.std.proofs.Common.{◌≡◌, ℕ, ◌+◌, max, suc, Bool, true, false, ◌||◌, List, [], ◌∷◌, Option, Some, None, Result, Ok, Err, nat_eq, nat_lt, length, map, refl, sym, ◌∙◌, ap, if◌then◌else◌, arith}
use Rattle.hybrid_time.specs.Time.{time_at, limit_time, least_time, greatest_reading}
use Rattle.hybrid_time.specs.declared.time_refusal.TimeRefusal.{TimeRefusal}
use Rattle.hybrid_time.specs.declared.time_refusal.TimeRefusal.TheVariants as time_refusal
use Rattle.txn_data.specs.declared.actor.Actor.{Actor}
use Rattle.txn_data.specs.declared.command.Command.{Command}
use Rattle.txn_data.specs.declared.command.Command.TheVariants as command
use Rattle.txn_data.specs.declared.config.Config.{Config}
use Rattle.txn_data.specs.declared.fate_of.FateOf.{FateOf}
use Rattle.txn_data.specs.declared.found.Found.{Found}
use Rattle.txn_data.specs.declared.place.Place.{Place}
use Rattle.txn_data.specs.declared.read_end.ReadEnd.{ReadEnd}
use Rattle.txn_data.specs.declared.read_kind.ReadKind.{ReadKind}
use Rattle.txn_data.specs.declared.read_kind.ReadKind.TheVariants.{Get, Scan}
use Rattle.txn_data.specs.declared.read_what.ReadWhat.{ReadWhat}
use Rattle.txn_data.specs.declared.read_what.ReadWhat.TheVariants as what
use Rattle.txn_data.specs.declared.reply.Reply.{Reply}
use Rattle.txn_data.specs.declared.reply.Reply.TheVariants as reply
use Rattle.txn_data.specs.declared.tablet_limit.TabletLimit.{TabletLimit}
use Rattle.txn_data.specs.declared.told.Told.{Told}
use Rattle.txn_data.specs.declared.told.Told.TheVariants as told
use Rattle.txn_data.specs.declared.told_refusal.ToldRefusal.TheVariants as told_refusal
use Rattle.txn_data.specs.declared.txn_step.TxnStep.TheVariants as step
use Rattle.txn_data.specs.declared.event.Event.TheVariants.{Hear}
use Rattle.txn_data.specs.declared.written.Written.{Written}
use Rattle.txn_types.specs.Lists.{or_zero, rising, with_number}
use Rattle.txn_types.specs.Program.{Program, Done, Asks, Reads, then_do}
use Rattle.txn_types.specs.ReadProgram.{Asked, Progress, tablets_of, with_limit, ask_fates, visit, with_tablet_rows, read_done, round_two, restarted, met_then, round_one, read_program}
use Rattle.txn_types.specs.TxnProgram.{refused, txn_program}
use Rattle.txn_types.specs.Reads.{met_heard, last_met}
use Rattle.txn_types.specs.Session.{Keeps, Opened, next_meta, timed_then, begin_program, read_at, read_inside, read_told, writes_of, has_writes, read_command, if_closed, command_program}
use Rattle.law_messages.proofs.Shapes.{one_next, two_next}

abbrev pub met_by : Actor → Reply → List ℕ → List ℕ
met_by from r mets = elim (met_heard (Hear from r)) [ Some at ↦ at ∷ mets | None ↦ mets ]

-- whatever it hears, it ends so; it takes no reading
abbrev pub Inner : {A : Type 0} → (List ℕ → A → Type 0) → List ℕ → Program A → Type 0
Inner Q mets (Done a) = Q mets a
Inner Q mets (Asks to asked next) = (from : Actor) (r : Reply) → Inner Q (met_by from r mets) (next r)
Inner Q mets (Reads given) = ⊥

pub then_inner : {A B : Type 0} (Q : List ℕ → A → Type 0) (U : List ℕ → B → Type 0) (mets : List ℕ) (p : Program A) (next : A → Program B) → Inner Q mets p → ((seen : List ℕ) (a : A) → Q seen a → Inner U seen (next a)) → Inner U mets (then_do p next)
unfolding then_do
then_inner Q U mets (Done a) next first rest = rest mets a first
then_inner Q U mets (Asks to asked heard) next first rest = λ from r. then_inner Q U (met_by from r mets) (heard r) next (first from r) rest
then_inner Q U mets (Reads given) next first rest = absurd first

-- ## reads

-- its time is the last that it met, or this one
abbrev pub TimeIs : ℕ → List ℕ → ℕ → ℕ → Type 0
TimeIs u mets t restarts = (t ≡ last_met mets u) × (restarts ≡ length mets)

abbrev pub EndIs : ℕ → List ℕ → ReadEnd → ReadWhat → Type 0
EndIs u mets end (what.Values rows) = TimeIs u mets end.t end.restarts
EndIs u mets end w = Unit {0}

abbrev pub EndOf : ℕ → List ℕ → ReadEnd → Type 0
EndOf u mets end = EndIs u mets end end.what

abbrev pub GoesOn : ℕ → List ℕ → Program ReadEnd → Type 0
GoesOn u mets p = Inner (EndOf u) mets p

fates_go : (u : ℕ) (mets : List ℕ) (s : Progress) (fs : List Found) (fates : List FateOf) (next : List FateOf → Program ReadEnd) → ((found : List FateOf) → GoesOn u mets (next found)) → GoesOn u mets (ask_fates s fs fates next)
unfolding ask_fates
fates_go u mets s [] fates next goes = goes fates
fates_go u mets s (f ∷ fs) fates next goes = λ from. elim [
  | reply.FateIs heard ↦ fates_go u mets s fs _ next goes
  | reply.Refused why ↦ tt
  | _ ↦ tt
]

visit_goes : (u : ℕ) (mets : List ℕ) (a : Asked) (s : Progress) (windowed : Bool) (k : ℕ) (next : Progress → Reply → Program ReadEnd) →
    ((seen : Progress) (from : Actor) (r : Reply) → seen.t ≡ s.t → seen.restarts ≡ s.restarts → GoesOn u (met_by from r mets) (next seen r)) → GoesOn u mets (visit a s windowed k next)
visit_goes u mets a s windowed k next goes = λ from. elim [
  | reply.Listed limit others ↦ fates_go u mets (record s { limits = with_limit k limit s.limits }) others [] _ (λ fates by answer. goes (record s { limits = with_limit k limit s.limits }) by answer refl refl)
  | reply.Refused why ↦ tt
  | _ ↦ tt
]

two_goes : (u : ℕ) (mets : List ℕ) (a : Asked) (s : Progress) (ks : List ℕ) → TimeIs u mets s.t s.restarts → GoesOn u mets (round_two a s ks)
unfolding round_two
two_goes u mets a s [] is = is
two_goes u mets a s (k ∷ ks) is = visit_goes u mets a s false k (two_next a k ks) (λ seen from. elim [
  | reply.Collected rows ↦ λ t restarts. two_goes u mets a (with_tablet_rows k rows seen) ks (t ∙ is.0, restarts ∙ is.1)
  | reply.Refused why ↦ λ t restarts. tt
  | _ ↦ λ t restarts. tt
])

met_goes : (u : ℕ) (mets : List ℕ) (strict : Bool) (at : ℕ) (w : ReadWhat) (s : Progress) (next : Program ReadEnd) → EndIs u mets (record { what = w; t = s.t; restarts = s.restarts; limits = s.limits }) w → GoesOn u mets next → GoesOn u mets (met_then strict w s next)
met_goes u mets true at w s next ends goes = ends
met_goes u mets false at w s next ends goes = goes

done_goes : (u : ℕ) (mets : List ℕ) (a : Asked) (s : Progress) (b : Bool) → TimeIs u mets s.t s.restarts → GoesOn u mets (if b then read_done a s else round_two a (record s { found = [] }) (tablets_of a.places))
done_goes u mets a s true is = is
done_goes u mets a s false is = two_goes u mets a (record s { found = [] }) (tablets_of a.places) is

one_goes : (u : ℕ) (mets : List ℕ) (a : Asked) (s : Progress) (ks : List ℕ) → TimeIs u mets s.t s.restarts → GoesOn u mets (round_one a s ks)
unfolding round_one
one_goes u mets a s [] is = done_goes u mets a s (nat_eq s.restarts 0) is
one_goes u mets a s (k ∷ ks) is = visit_goes u mets a s true k (one_next a k ks) (λ seen from. elim [
  | reply.Collected rows ↦ λ t restarts. one_goes u mets a (with_tablet_rows k rows seen) ks (t ∙ is.0, restarts ∙ is.1)
  | reply.Met at path ↦ λ t restarts. met_goes u (at ∷ mets) a.strict at (what.Restart at path) seen (round_one a (restarted at seen) ks) tt
      (one_goes u (at ∷ mets) a (restarted at seen) ks (refl, ap (λ (n : ℕ). n + 1) (restarts ∙ is.1) ∙ one_more (length mets)))
  | reply.Refused why ↦ λ t restarts. tt
  | _ ↦ λ t restarts. tt
])
  where
    one_more : (n : ℕ) → n + 1 ≡ suc n
    one_more n = omega arith

pub read_goes : (own_txn : Option ℕ) (kind : ReadKind) (places : List Place) (t g : ℕ) (strict : Bool) (limits : List TabletLimit) → GoesOn t [] (read_program own_txn kind places t g strict limits)
read_goes own_txn kind places t g strict limits = one_goes t [] _ _ (tablets_of places) (refl, refl)

-- ## what is told

-- the time that a read has as long as it met nothing: outside a transaction the session's own at its reading
abbrev pub unmet_time : ℕ → Option Opened → Option ℕ → ℕ
unmet_time last None own = max last (time_at (or_zero own) 0)
unmet_time last (Some x) own = x.r

-- by what the session keeps and the reading that it took
abbrev pub Final : Keeps → Option ℕ → List ℕ → Told → Type 0
Final s own mets (told.Values at restarts rows) = TimeIs (unmet_time s.last s.opened own) mets at restarts
Final s own mets (told.Began y at) = at ≡ max s.last (time_at (or_zero own) 0)
Final s own mets t = Unit {0}

-- what is not told before anything was asked
abbrev pub NotAtOnce : Program Told → Type 0
NotAtOnce (Done (told.Values at restarts rows)) = ⊥
NotAtOnce (Done (told.Began y at)) = ⊥
NotAtOnce p = Unit {0}

-- with the reading that it took, or that it takes now
abbrev pub Outer : Keeps → Option ℕ → List ℕ → Program Told → Type 0
Outer s own mets (Done t) = Final s own mets t
Outer s own mets (Asks to asked next) = Inner (Final s own) mets (Asks to asked next)
Outer s own mets (Reads given) = (own ≡ None) × ((n : ℕ) → Inner (Final s (Some n)) mets (given n) × NotAtOnce (given n))

pub inner_outer : (s : Keeps) (own : Option ℕ) (mets : List ℕ) (p : Program Told) → Inner (Final s own) mets p → Outer s own mets p
inner_outer s own mets (Done t) inner = inner
inner_outer s own mets (Asks to asked next) inner = inner
inner_outer s own mets (Reads given) inner = absurd inner

told_final : (s : Keeps) (own : Option ℕ) (mets : List ℕ) (u : ℕ) (kind : ReadKind) (ws : List Written) (places : List Place) (end : ReadEnd) (w : ReadWhat) → end.what ≡ w → unmet_time s.last s.opened own ≡ u → EndIs u mets end w → Final s own mets (read_told kind ws places end)
told_final s own mets u kind ws places end (what.Values rows) is same final = rw (is, same) final
told_final s own mets u kind ws places end (what.Restart at path) is same final = rw is tt
told_final s own mets u kind ws places end (what.Refused why) is same final = rw is tt

reads_on : (s : Keeps) (own : Option ℕ) (u : ℕ) (own_txn : Option ℕ) (kind : ReadKind) (ws : List Written) (places : List Place) (g : ℕ) (strict : Bool) (limits : List TabletLimit) → unmet_time s.last s.opened own ≡ u →
    Inner (Final s own) [] (then_do (read_program own_txn kind places u g strict limits) (λ end. Done (read_told kind ws places end)))
reads_on s own u own_txn kind ws places g strict limits same =
    then_inner (EndOf u) (Final s own) [] (read_program own_txn kind places u g strict limits) _ (read_goes own_txn kind places u g strict limits)
    (λ seen end final. told_final s own seen u kind ws places end end.what refl same final)

-- a read of one place at least asks first
with_first : (n : ℕ) (ms : List ℕ) → (k : ℕ) × ((ks : List ℕ) × (with_number n ms ≡ k ∷ ks))
unfolding with_number
with_first n [] = (n, ([], refl))
with_first n (m ∷ ms) = first_choice (nat_lt n m) (nat_eq n m)
  where
    first_choice : (b c : Bool) → (k : ℕ) × ((ks : List ℕ) × ((if b then n ∷ m ∷ ms else (if c then m ∷ ms else m ∷ with_number n ms)) ≡ k ∷ ks))
    first_choice true c = (n, (m ∷ ms, refl))
    first_choice false true = (m, (ms, refl))
    first_choice false false = (m, (with_number n ms, refl))

pub tablets_some : (p : Place) (ps : List Place) → (k : ℕ) × ((ks : List ℕ) × (tablets_of (p ∷ ps) ≡ k ∷ ks))
unfolding rising
tablets_some p ps = with_first p.tablet (rising (map (λ (q : Place). q.tablet) ps))

asks_first : (a : Asked) (s : Progress) (ks : List ℕ) (kind : ReadKind) (ws : List Written) (places : List Place) → (k : ℕ) × ((more : List ℕ) × (ks ≡ k ∷ more)) → NotAtOnce (then_do (round_one a s ks) (λ end. Done (read_told kind ws places end)))
unfolding round_one then_do
asks_first a s [] kind ws places some = let is = some.1.1 in cc
asks_first a s (k ∷ ks) kind ws places some = tt

abbrev pub HasPlace : List Place → Type 0
HasPlace [] = ⊥
HasPlace (p ∷ ps) = Unit {0}

read_first : (own_txn : Option ℕ) (kind : ReadKind) (ws : List Written) (places : List Place) (t g : ℕ) (strict : Bool) (limits : List TabletLimit) → HasPlace places → NotAtOnce (then_do (read_program own_txn kind places t g strict limits) (λ end. Done (read_told kind ws places end)))
read_first own_txn kind ws [] t g strict limits some = absurd some
read_first own_txn kind ws (p ∷ ps) t g strict limits some = asks_first _ _ (tablets_of (p ∷ ps)) kind ws (p ∷ ps) (tablets_some p ps)

-- ## the commands that take a reading

max_zero : (n : ℕ) → max n 0 ≡ n
max_zero n = omega arith

least_choice : (b : Bool) (last n now : ℕ) → (if b then Err (time_refusal.ClockRange n) else Ok (max (max last 0) (time_at n 0))) ≡ Ok now → now ≡ max last (time_at n 0)
least_choice true last n now same = cc
least_choice false last n now same = let at : max (max last 0) (time_at n 0) ≡ now = cc in sym at ∙ ap (λ (l : ℕ). max l (time_at n 0)) (max_zero last)

-- a session's new time is its old one, or that of the reading
pub least_is : (last n now : ℕ) → least_time last 0 n ≡ Ok now → now ≡ max last (time_at n 0)
least_is last n now is = least_choice (nat_lt greatest_reading n) last n now is

timed_is : (s : Keeps) (n i : ℕ) (next : ℕ → Program Told) (time : Result ℕ TimeRefusal) → least_time s.last 0 n ≡ time → ((now : ℕ) → now ≡ max s.last (time_at n 0) → Inner (Final s (Some n)) [] (next now) × NotAtOnce (next now)) →
    Inner (Final s (Some n)) [] (timed_then i n next time) × NotAtOnce (timed_then i n next time)
timed_is s n i next (Ok now) is goes = goes now (least_is s.last n now is)
timed_is s n i next (Err why) is goes = (tt, tt)

begin_outer : (config : Config) (i : ℕ) (s : Keeps) (priority : ℕ) (opened : Option Opened) → Outer s None [] (if_closed opened (begin_program config i s priority))
begin_outer config i s priority (Some x) = tt
begin_outer config i s priority None = (
  refl,
  λ n. timed_is s n i (λ now. txn_program (step.Begin (next_meta config i s priority) now)) (least_time s.last 0 n) refl
      (λ now is. (λ from. elim [ reply.Begun ↦ is | reply.Refused why ↦ tt | _ ↦ tt ], tt)),
)

pub read_outer : (config : Config) (i : ℕ) (s : Keeps) (kind : ReadKind) (strict : Bool) (places : List Place) (opened : Option Opened) → s.opened ≡ opened → HasPlace places → Outer s None [] (read_command config i s kind strict places opened)
read_outer config i s kind strict places None is some = (
  refl,
  λ n. timed_is s n i (read_at config kind strict places n) (least_time s.last 0 n) refl (λ now same. (
    reads_on s (Some n) now None kind [] places (max now (limit_time n config.skew_us)) strict [] (ap (λ (o : Option Opened). unmet_time s.last o (Some n)) is ∙ sym same),
    read_first None kind [] places now (max now (limit_time n config.skew_us)) strict [] some,
  )),
)
read_outer config i s kind strict places (Some x) is some = doubt_outer x.in_doubt
  where
    doubt_outer : (b : Bool) → Outer s None [] (if b then refused told_refusal.InDoubt else read_inside x kind strict places)
    doubt_outer true = tt
    doubt_outer false = inner_outer s None [] (read_inside x kind strict places)
        (reads_on s None x.r (Some x.meta.txn) kind (writes_of x.writes) places x.g (strict || has_writes x.writes || x.has_read) x.limits (ap (λ (o : Option Opened). unmet_time s.last o None) is))

-- a begin, a read and a scan tell such times
abbrev pub TimedLine : Command → Type 0
TimedLine (command.Begin priority) = Unit {0}
TimedLine (command.Read strict places) = HasPlace places
TimedLine (command.Scan strict place) = Unit {0}
TimedLine line = ⊥

pub line_outer : (config : Config) (i : ℕ) (s : Keeps) (line : Command) → TimedLine line → Outer s None [] (command_program config i s line)
line_outer config i s (command.Begin priority) timed = begin_outer config i s priority s.opened
line_outer config i s (command.Read strict places) timed = read_outer config i s Get strict places s.opened refl timed
line_outer config i s (command.Scan strict place) timed = read_outer config i s Scan strict (place ∷ []) s.opened refl tt
line_outer config i s line timed = absurd timed
