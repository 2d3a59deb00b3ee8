-- What a program asks and what it ends with, whatever fitting replies it hears; and that a read ends not below its time.
use Rattle.std.proofs.Common.{ℕ, ◌<◌, ◌≤◌, Bool, true, false, List, [], ◌∷◌, Option, nat_eq, if◌then◌else◌, arith}
use Rattle.doc_path.specs.Path.{Parts}
use Rattle.txn_data.specs.declared.fate_of.FateOf.{FateOf}
use Rattle.txn_data.specs.declared.found.Found.{Found}
use Rattle.txn_data.specs.declared.place.Place.{Place}
use Rattle.txn_data.specs.declared.read_end.ReadEnd.{ReadEnd}
use Rattle.txn_data.specs.declared.read_kind.ReadKind.{ReadKind}
use Rattle.txn_data.specs.declared.read_what.ReadWhat.{ReadWhat}
use Rattle.txn_data.specs.declared.read_what.ReadWhat.TheVariants as what
use Rattle.txn_data.specs.declared.tablet_limit.TabletLimit.{TabletLimit}
use Rattle.txn_data.specs.declared.window.Window.{Window}
use Rattle.txn_data.specs.declared.request.Request.{Request}
use Rattle.txn_data.specs.declared.request.Request.TheVariants as request
use Rattle.txn_data.specs.declared.reply.Reply.{Reply}
use Rattle.txn_data.specs.declared.reply.Reply.TheVariants as reply
use Rattle.txn_types.specs.Program.{Program, Done, Asks, Reads, then_do}
use Rattle.txn_types.specs.ReadProgram.{Asked, Progress, tablets_of, paths_on, window_of, fixed, ask_fates, visit, with_tablet_rows, read_done, round_two, restarted, met_then, round_one, read_program}
use Rattle.law_messages.proofs.Shapes.{one_next, two_next}
use Rattle.law_read_times.proofs.Above.{Fits}

abbrev pub Holds : {A : Type 0} → (Request → Type 0) → (A → Type 0) → Program A → Type 0
Holds Q T (Done a) = T a
Holds Q T (Asks to asked next) = Q asked × ((r : Reply) → Fits asked r → Holds Q T (next r))
Holds Q T (Reads given) = (reading : ℕ) → Holds Q T (given reading)

pub then_holds : {A B : Type 0} (Q : Request → Type 0) (T : A → Type 0) (U : B → Type 0) (p : Program A) (next : A → Program B) → Holds Q T p → ((a : A) → T a → Holds Q U (next a)) → Holds Q U (then_do p next)
unfolding then_do
then_holds Q T U (Done a) next first rest = rest a first
then_holds Q T U (Asks to asked heard) next first rest = (first.0, λ r fits. then_holds Q T U (heard r) next (first.1 r fits) rest)
then_holds Q T U (Reads given) next first rest = λ reading. then_holds Q T U (given reading) next (first reading) rest

-- no writes
abbrev pub NoWrite : Request → Type 0
NoWrite (request.Write meta number path op read seen fates) = ⊥
NoWrite asked = Unit {0}

-- ## reads

abbrev EndsFrom : ℕ → ReadEnd → Type 0
EndsFrom low end = low ≤ end.t

fates_holds : (low : ℕ) (s : Progress) (fs : List Found) (fates : List FateOf) (next : List FateOf → Program ReadEnd) → low ≤ s.t → ((found : List FateOf) → Holds NoWrite (EndsFrom low) (next found)) →
    Holds NoWrite (EndsFrom low) (ask_fates s fs fates next)
unfolding ask_fates
fates_holds low s [] fates next le goes = goes fates
fates_holds low s (f ∷ fs) fates next le goes = (
  tt,
  elim [
    | reply.FateIs heard ↦ λ fits. fates_holds low s fs _ next le goes
    | reply.Refused why ↦ λ fits. le
    | _ ↦ λ fits. le
  ],
)

-- an answer to a Collect at this time
abbrev MetFits : ℕ → Reply → Type 0
MetFits t (reply.Met at path) = t < at
MetFits t r = Unit {0}

met_fits : (own_txn : Option ℕ) (kind : ReadKind) (paths : List Parts) (t : ℕ) (fates : List FateOf) (r : Reply) (window : Option Window) → Fits (request.Collect own_txn kind paths t window fates) r → MetFits t r
met_fits own_txn kind paths t fates (reply.Met at path) window fits = fits
met_fits own_txn kind paths t fates r window fits = tt

visit_holds : (low : ℕ) (a : Asked) (s : Progress) (windowed : Bool) (k : ℕ) (next : Progress → Reply → Program ReadEnd) → low ≤ s.t →
    ((seen : Progress) (r : Reply) → low ≤ seen.t → MetFits seen.t r → Holds NoWrite (EndsFrom low) (next seen r)) → Holds NoWrite (EndsFrom low) (visit a s windowed k next)
visit_holds low a s windowed k next le goes = (
  tt,
  elim [
    | reply.Listed limit others ↦ λ fits. fates_holds low _ others [] _ le (λ fates. (tt, λ answer fits. goes _ answer le (met_fits a.own_txn a.kind (paths_on k a.places) s.t fates answer (window_of windowed a.g (fixed k limit s.limits)) fits)))
    | reply.Refused why ↦ λ fits. le
    | _ ↦ λ fits. le
  ],
)

two_holds : (low : ℕ) (a : Asked) (s : Progress) (ks : List ℕ) → low ≤ s.t → Holds NoWrite (EndsFrom low) (round_two a s ks)
unfolding round_two
two_holds low a s [] le = le
two_holds low a s (k ∷ ks) le =
    visit_holds low a s false k (two_next a k ks) le (λ seen. elim [ reply.Collected rows ↦ λ at fits. two_holds low a (with_tablet_rows k rows seen) ks at | reply.Refused why ↦ λ at fits. at | _ ↦ λ at fits. at ])

choice_holds : (low : ℕ) (b : Bool) (p q : Program ReadEnd) → Holds NoWrite (EndsFrom low) p → Holds NoWrite (EndsFrom low) q → Holds NoWrite (EndsFrom low) (if b then p else q)
choice_holds low true p q one two = one
choice_holds low false p q one two = two

met_holds : (low : ℕ) (strict : Bool) (end : ReadWhat) (s : Progress) (next : Program ReadEnd) → low ≤ s.t → Holds NoWrite (EndsFrom low) next → Holds NoWrite (EndsFrom low) (met_then strict end s next)
met_holds low true end s next le goes = le
met_holds low false end s next le goes = goes

one_holds : (low : ℕ) (a : Asked) (s : Progress) (ks : List ℕ) → low ≤ s.t → Holds NoWrite (EndsFrom low) (round_one a s ks)
unfolding round_one
one_holds low a s [] le = choice_holds low (nat_eq s.restarts 0) (read_done a s) _ le (two_holds low a _ (tablets_of a.places) le)
one_holds low a s (k ∷ ks) le = visit_holds low a s true k (one_next a k ks) le (λ seen. elim [
  | reply.Collected rows ↦ λ at fits. one_holds low a (with_tablet_rows k rows seen) ks at
  | reply.Met t path ↦ λ at fits. met_holds low a.strict (what.Restart t path) seen _ at (one_holds low a (restarted t seen) ks (omega (arith, at, fits)))
  | reply.Refused why ↦ λ at fits. at
  | _ ↦ λ at fits. at
])

pub read_holds : (own_txn : Option ℕ) (kind : ReadKind) (places : List Place) (t g : ℕ) (strict : Bool) (limits : List TabletLimit) → Holds NoWrite (λ (end : ReadEnd). t ≤ end.t) (read_program own_txn kind places t g strict limits)
read_holds own_txn kind places t g strict limits = one_holds t _ _ (tablets_of places) (omega arith)
