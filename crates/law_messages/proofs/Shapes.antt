-- What a program may ask, whatever it hears.
use Rattle.std.proofs.Common.{ℕ, ◌+◌, Bool, true, false, List, [], ◌∷◌, Option, nat_eq, if◌then◌else◌}
use Rattle.doc_path.specs.Path.{Parts}
use Rattle.txn_data.specs.declared.actor.Actor.TheVariants.{Tablet, Status}
use Rattle.txn_data.specs.declared.fate.Fate.TheVariants as fate
use Rattle.txn_data.specs.declared.fate_of.FateOf.{FateOf}
use Rattle.txn_data.specs.declared.found.Found.{Found}
use Rattle.txn_data.specs.declared.meta.Meta.{Meta}
use Rattle.txn_data.specs.declared.place.Place.{Place}
use Rattle.txn_data.specs.declared.read_end.ReadEnd.{ReadEnd}
use Rattle.txn_data.specs.declared.read_kind.ReadKind.{ReadKind}
use Rattle.txn_data.specs.declared.read_what.ReadWhat.{ReadWhat}
use Rattle.txn_data.specs.declared.read_what.ReadWhat.TheVariants as what
use Rattle.txn_data.specs.declared.tablet_limit.TabletLimit.{TabletLimit}
use Rattle.txn_data.specs.declared.window.Window.{Window}
use Rattle.txn_data.specs.declared.request.Request.{Request}
use Rattle.txn_data.specs.declared.request.Request.TheVariants as request
use Rattle.txn_data.specs.declared.reply.Reply.{Reply}
use Rattle.txn_data.specs.declared.reply.Reply.TheVariants as reply
use Rattle.txn_data.specs.declared.told.Told.{Told}
use Rattle.txn_data.specs.declared.told_refusal.ToldRefusal.{ToldRefusal}
use Rattle.txn_data.specs.declared.told_refusal.ToldRefusal.TheVariants as told_refusal
use Rattle.txn_types.specs.Program.{Program, Done, Asks, Reads, then_do, refusal_told}
use Rattle.txn_types.specs.TxnProgram.{resolve_all, find_others}
use Rattle.txn_types.specs.ReadProgram.{Asked, Progress, tablets_of, read_refused, ask_fates, visit, with_tablet_rows, read_done, round_two, restarted, met_then, round_one, read_program}
use Rattle.txn_types.specs.PassProgram.{Counts, apply_then, clean_then, pass_over, pass_program}

abbrev pub Always : {T : Type 0} → (Request → Type 0) → Program T → Type 0
Always P (Done t) = Unit {0}
Always P (Asks to asked next) = P asked × ((r : Reply) → Always P (next r))
Always P (Reads given) = (reading : ℕ) → Always P (given reading)

pub then_always : {A B : Type 0} (P : Request → Type 0) (p : Program A) (next : A → Program B) → Always P p → ((a : A) → Always P (next a)) → Always P (then_do p next)
unfolding then_do
then_always P (Done a) next first rest = rest a
then_always P (Asks to asked heard) next first rest = (first.0, λ r. then_always P (heard r) next (first.1 r) rest)
then_always P (Reads given) next first rest = λ reading. then_always P (given reading) next (first reading) rest

-- ## reads

-- the requests of a read
pub record OfReads (P : Request → Type 0) : Type 0 where
  pub lists : (own_txn : Option ℕ) (paths : List Parts) (t g : ℕ) (limit : Option ℕ) → P (request.ListRead own_txn paths t g limit)
  pub asks : (x t : ℕ) → P (request.AskFate x t)
  pub collects : (own_txn : Option ℕ) (kind : ReadKind) (paths : List Parts) (t : ℕ) (window : Option Window) (fates : List FateOf) → P (request.Collect own_txn kind paths t window fates)

fates_always : (P : Request → Type 0) → OfReads P → (s : Progress) (fs : List Found) (fates : List FateOf) (next : List FateOf → Program ReadEnd) → ((found : List FateOf) → Always P (next found)) →
    Always P (ask_fates s fs fates next)
unfolding ask_fates
fates_always P of s [] fates next goes = goes fates
fates_always P of s (f ∷ fs) fates next goes = (
  of.asks f.txn s.t,
  elim [ reply.FateIs heard ↦ fates_always P of s fs _ next goes | reply.Refused why ↦ tt | _ ↦ tt ],
)

visit_always : (P : Request → Type 0) → OfReads P → (a : Asked) (s : Progress) (windowed : Bool) (k : ℕ) (next : Progress → Reply → Program ReadEnd) →
    ((seen : Progress) (r : Reply) → Always P (next seen r)) → Always P (visit a s windowed k next)
visit_always P of a s windowed k next goes = (
  of.lists _ _ _ _ _,
  elim [
    | reply.Listed limit others ↦ fates_always P of _ others [] _ (λ fates. (of.collects _ _ _ _ _ _, λ answer. goes _ answer))
    | reply.Refused why ↦ tt
    | _ ↦ tt
  ],
)

abbrev pub two_next : Asked → ℕ → List ℕ → Progress → Reply → Program ReadEnd
two_next a k ks seen answer = elim answer [
  | reply.Collected rows ↦ round_two a (with_tablet_rows k rows seen) ks
  | reply.Refused why ↦ read_refused (refusal_told (Tablet k) why) seen
  | _ ↦ read_refused told_refusal.Memory seen
]

abbrev pub one_next : Asked → ℕ → List ℕ → Progress → Reply → Program ReadEnd
one_next a k ks seen answer = elim answer [
  | reply.Collected rows ↦ round_one a (with_tablet_rows k rows seen) ks
  | reply.Met at path ↦ met_then a.strict (what.Restart at path) seen (round_one a (restarted at seen) ks)
  | reply.Refused why ↦ read_refused (refusal_told (Tablet k) why) seen
  | _ ↦ read_refused told_refusal.Memory seen
]

two_always : (P : Request → Type 0) → OfReads P → (a : Asked) (s : Progress) (ks : List ℕ) → Always P (round_two a s ks)
unfolding round_two
two_always P of a s [] = tt
two_always P of a s (k ∷ ks) =
    visit_always P of a s false k (two_next a k ks) (λ seen. elim [ reply.Collected rows ↦ two_always P of a (with_tablet_rows k rows seen) ks | reply.Refused why ↦ tt | _ ↦ tt ])

choice_always : {T : Type 0} (P : Request → Type 0) (b : Bool) (p q : Program T) → Always P p → Always P q → Always P (if b then p else q)
choice_always P true p q one two = one
choice_always P false p q one two = two

met_always : (P : Request → Type 0) (strict : Bool) (end : ReadWhat) (s : Progress) (next : Program ReadEnd) → Always P next → Always P (met_then strict end s next)
met_always P true end s next goes = tt
met_always P false end s next goes = goes

one_always : (P : Request → Type 0) → OfReads P → (a : Asked) (s : Progress) (ks : List ℕ) → Always P (round_one a s ks)
unfolding round_one
one_always P of a s [] = choice_always P (nat_eq s.restarts 0) (read_done a s) _ tt (two_always P of a _ (tablets_of a.places))
one_always P of a s (k ∷ ks) = visit_always P of a s true k (one_next a k ks) (λ seen. elim [
  | reply.Collected rows ↦ one_always P of a (with_tablet_rows k rows seen) ks
  | reply.Met at path ↦ met_always P a.strict (what.Restart at path) seen _ (one_always P of a (restarted at seen) ks)
  | reply.Refused why ↦ tt
  | _ ↦ tt
])

pub read_always : (P : Request → Type 0) → OfReads P → (own_txn : Option ℕ) (kind : ReadKind) (places : List Place) (t g : ℕ) (strict : Bool) (limits : List TabletLimit) →
    Always P (read_program own_txn kind places t g strict limits)
read_always P of own_txn kind places t g strict limits = one_always P of _ _ (tablets_of places)

-- ## passes

-- the requests of a pass
pub record OfPasses (P : Request → Type 0) : Type 0 where
  pub lists : P request.ListIntents
  pub asks : (x t : ℕ) → P (request.AskFate x t)
  pub applies : (x at : ℕ) → P (request.Apply x at)
  pub cleans : (x : ℕ) → P (request.Clean x)
  pub notes : (x tablet : ℕ) → P (request.Applied x tablet)

applied_always : (P : Request → Type 0) → OfPasses P → (k : ℕ) (f : Found) (c : ℕ) (next : Program Told) → Always P next → Always P (apply_then k f c next)
applied_always P of k f c next goes = (
  of.applies f.txn c,
  elim [
    | reply.AppliedHere ↦ (of.notes f.txn k, elim [ reply.Noted ↦ goes | reply.Refused why ↦ tt | _ ↦ tt ])
    | reply.Refused why ↦ tt
    | _ ↦ tt
  ],
)

cleaned_always : (P : Request → Type 0) → OfPasses P → (k : ℕ) (f : Found) (next : Program Told) → Always P next → Always P (clean_then k f next)
cleaned_always P of k f next goes = (of.cleans f.txn, elim [ reply.Cleaned ↦ goes | reply.Refused why ↦ tt | _ ↦ tt ])

over_always : (P : Request → Type 0) → OfPasses P → (k : ℕ) (n : Counts) (fs : List Found) → Always P (pass_over k n fs)
unfolding pass_over
over_always P of k n [] = tt
over_always P of k n (f ∷ fs) = (
  of.asks f.txn 0,
  elim [
    | reply.FateIs fate.Pending ↦ over_always P of k (record n { left = n.left + 1 }) fs
    | reply.FateIs (fate.Committed c) ↦ applied_always P of k f c _ (over_always P of k (record n { applied = n.applied + 1 }) fs)
    | reply.FateIs fate.Aborted ↦ cleaned_always P of k f _ (over_always P of k (record n { cleaned = n.cleaned + 1 }) fs)
    | reply.FateIs fate.Absent ↦ cleaned_always P of k f _ (over_always P of k (record n { cleaned = n.cleaned + 1 }) fs)
    | reply.Refused why ↦ tt
    | _ ↦ tt
  ],
)

pub pass_always : (P : Request → Type 0) → OfPasses P → (k : ℕ) → Always P (pass_program k)
pass_always P of k = (of.lists, elim [ reply.Intents found ↦ over_always P of k _ found | reply.Refused why ↦ tt | _ ↦ tt ])

-- ## finding and resolving others

pub record OfFinding (P : Request → Type 0) : Type 0 where
  pub lists : (x : ℕ) (path : Parts) → P (request.ListWrite x path)
  pub resolves : (x by priority : ℕ) → P (request.Resolve x by priority)

resolve_always : (P : Request → Type 0) → OfFinding P → (meta : Meta) (fs : List Found) (fates : List FateOf) (stop : ToldRefusal → Program Told) (next : List FateOf → Program Told) →
    ((why : ToldRefusal) → Always P (stop why)) → ((found : List FateOf) → Always P (next found)) → Always P (resolve_all meta fs fates stop next)
unfolding resolve_all
resolve_always P of meta [] fates stop next stops goes = goes fates
resolve_always P of meta (f ∷ fs) fates stop next stops goes = (
  of.resolves f.txn meta.txn meta.priority,
  elim [
    | reply.FateIs fate.Pending ↦ stops (told_refusal.Conflict f.txn)
    | reply.FateIs settled ↦ resolve_always P of meta fs _ stop next stops goes
    | reply.Refused why ↦ stops (refusal_told (Status f.status) why)
    | _ ↦ tt
  ],
)

pub find_always : (P : Request → Type 0) → OfFinding P → (meta : Meta) (place : Place) (stop : ToldRefusal → Program Told) (next : List FateOf → Program Told) →
    ((why : ToldRefusal) → Always P (stop why)) → ((found : List FateOf) → Always P (next found)) → Always P (find_others meta place stop next)
find_always P of meta place stop next stops goes = (
  of.lists meta.txn place.path,
  elim [
    | reply.Others found ↦ resolve_always P of meta found [] stop next stops goes
    | reply.Refused why ↦ stops (refusal_told (Tablet place.tablet) why)
    | _ ↦ tt
  ],
)
