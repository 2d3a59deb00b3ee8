-- Each command of a session, and each pass, asks about transactions at their own status tablets.
use Rattle.std.proofs.Common.{◌≡◌, ℕ, ◌+◌, Bool, true, false, List, [], ◌∷◌, Option, Some, None, nat_eq, refl, ap, subst, inl, inr, if◌then◌else◌}
use Rattle.txn_data.specs.declared.actor.Actor.{Actor}
use Rattle.txn_data.specs.declared.actor.Actor.TheVariants.{Tablet, Status}
use Rattle.txn_data.specs.declared.config.Config.{Config}
use Rattle.txn_data.specs.declared.fate.Fate.TheVariants as fate
use Rattle.txn_data.specs.declared.fate_of.FateOf.{FateOf}
use Rattle.txn_data.specs.declared.found.Found.{Found}
use Rattle.txn_data.specs.declared.meta.Meta.{Meta}
use Rattle.txn_data.specs.declared.op.Op.{Op}
use Rattle.txn_data.specs.declared.place.Place.{Place}
use Rattle.txn_data.specs.declared.read_end.ReadEnd.{ReadEnd}
use Rattle.txn_data.specs.declared.read_kind.ReadKind.{ReadKind}
use Rattle.txn_data.specs.declared.read_what.ReadWhat.{ReadWhat}
use Rattle.txn_data.specs.declared.read_what.ReadWhat.TheVariants as what
use Rattle.txn_data.specs.declared.refusal.Refusal.{Refusal}
use Rattle.txn_data.specs.declared.refusal.Refusal.TheVariants as refusal
use Rattle.txn_data.specs.declared.tablet_limit.TabletLimit.{TabletLimit}
use Rattle.txn_data.specs.declared.reply.Reply.{Reply}
use Rattle.txn_data.specs.declared.reply.Reply.TheVariants as reply
use Rattle.txn_data.specs.declared.told.Told.{Told}
use Rattle.txn_data.specs.declared.told.Told.TheVariants as told
use Rattle.txn_data.specs.declared.told_refusal.ToldRefusal.{ToldRefusal}
use Rattle.txn_data.specs.declared.told_refusal.ToldRefusal.TheVariants as told_refusal
use Rattle.txn_data.specs.declared.txn_step.TxnStep.TheVariants as step
use Rattle.txn_types.specs.Program.{Program, refusal_told}
use Rattle.txn_types.specs.TxnProgram.{refused, abort_after, write_refused, resolve_all, find_others, txn_program}
use Rattle.txn_types.specs.ReadProgram.{Asked, Progress, tablets_of, read_refused, ask_fates, visit, with_tablet_rows, read_done, round_two, restarted, met_then, round_one, read_program}
use Rattle.txn_types.specs.PassProgram.{Counts, apply_then, clean_then, pass_over, pass_program}
use Rattle.law_messages.proofs.Shapes.{one_next, two_next}
use Rattle.law_owners.specs.Owner.{home_of, IsOwner, IsHome}
use Rattle.law_owners.proofs.Founds.{FoundsHomed}
use Rattle.law_owners.proofs.Homed.{NotOpen, Homed}

-- the metadata of a transaction of this mover
abbrev pub MetaHomed : Config → Actor → Meta → Type 0
MetaHomed config m meta = IsOwner m meta.txn × (meta.status ≡ home_of config meta.txn)

abbrev pub Told_ : Config → Actor → Option ℕ → Program Told → Type 0
Told_ config m spare p = Homed NotOpen config m spare p

pub not_open : (a : Actor) (why : Refusal) → NotOpen (told.Refused (refusal_told a why))
not_open a (refusal.Conflict other) = tt
not_open a (refusal.Overlap at) = tt
not_open a (refusal.LeaseHeld until) = tt
not_open a (refusal.ClockFull at) = tt
not_open a (refusal.ClockRange reading) = tt
not_open a refusal.LogFault = tt
not_open a (refusal.Down since) = tt
not_open a refusal.Memory = tt

status_home : (config : Config) (status x : ℕ) → status ≡ home_of config x → IsHome config (Status status) x
status_home config status x is = ap Status is

abort_homed : (config : Config) (m : Actor) (spare : Option ℕ) (meta : Meta) (why : ToldRefusal) → MetaHomed config m meta → NotOpen (told.Refused why) → Told_ config m spare (abort_after meta why)
abort_homed config m spare meta why homed ok = ((homed.0, status_home config meta.status meta.txn homed.1), tt, tt, λ r heard. ok)

write_stop : (config : Config) (m : Actor) (spare : Option ℕ) (meta : Meta) (why : ToldRefusal) → MetaHomed config m meta → NotOpen (told.Refused why) → Told_ config m spare (write_refused meta why)
write_stop config m spare meta (told_refusal.Conflict other) homed ok = abort_homed config m spare meta (told_refusal.Conflict other) homed ok
write_stop config m spare meta (told_refusal.Overlap at) homed ok = abort_homed config m spare meta (told_refusal.Overlap at) homed ok
write_stop config m spare meta (told_refusal.LogFault actor) homed ok = abort_homed config m spare meta (told_refusal.LogFault actor) homed ok
write_stop config m spare meta why homed ok = ok

resolve_homed : (config : Config) (m : Actor) (spare : Option ℕ) (meta : Meta) (fs : List Found) (fates : List FateOf) (stop : ToldRefusal → Program Told) (next : List FateOf → Program Told) →
    IsOwner m meta.txn → FoundsHomed config fs → ((why : ToldRefusal) → NotOpen (told.Refused why) → Told_ config m spare (stop why)) → ((found : List FateOf) → Told_ config m spare (next found)) →
    Told_ config m spare (resolve_all meta fs fates stop next)
unfolding resolve_all
resolve_homed config m spare meta [] fates stop next mine homed stops goes = goes fates
resolve_homed config m spare meta (f ∷ fs) fates stop next mine homed stops goes = (
  (mine, status_home config f.status f.txn (homed f (inl refl))),
  tt,
  tt,
  elim [
    | reply.FateIs fate.Pending ↦ λ ok. stops (told_refusal.Conflict f.txn) tt
    | reply.FateIs settled ↦ λ ok. resolve_homed config m spare meta fs _ stop next mine (λ g k. homed g (inr k)) stops goes
    | reply.Refused why ↦ λ ok. stops (refusal_told (Status f.status) why) (not_open (Status f.status) why)
    | _ ↦ λ ok. tt
  ],
)

find_homed : (config : Config) (m : Actor) (spare : Option ℕ) (meta : Meta) (place : Place) (stop : ToldRefusal → Program Told) (next : List FateOf → Program Told) →
    IsOwner m meta.txn → ((why : ToldRefusal) → NotOpen (told.Refused why) → Told_ config m spare (stop why)) → ((found : List FateOf) → Told_ config m spare (next found)) →
    Told_ config m spare (find_others meta place stop next)
find_homed config m spare meta place stop next mine stops goes = (
  mine,
  tt,
  tt,
  elim [
    | reply.Others found ↦ λ ok. resolve_homed config m spare meta found [] stop next mine ok stops goes
    | reply.Refused why ↦ λ ok. stops (refusal_told (Tablet place.tablet) why) (not_open (Tablet place.tablet) why)
    | _ ↦ λ ok. tt
  ],
)

pub begin_homed : (config : Config) (m : Actor) (meta : Meta) (r : ℕ) → MetaHomed config m meta → Told_ config m (Some meta.txn) (txn_program (step.Begin meta r))
begin_homed config m meta r homed = (
  (homed.0, status_home config meta.status meta.txn homed.1),
  tt,
  refl,
  elim [
    | reply.Begun ↦ λ ok. tt
    | reply.Refused why ↦ λ ok. not_open (Status meta.status) why
    | _ ↦ λ ok. tt
  ],
)

pub write_homed : (config : Config) (m : Actor) (meta : Meta) (number : ℕ) (place : Place) (op : Op) (read seen : ℕ) → MetaHomed config m meta →
    Told_ config m None (txn_program (step.Write meta number place op read seen))
write_homed config m meta number place op read seen homed =
    find_homed config m None meta place (write_refused meta) _ homed.0 (λ why ok. write_stop config m None meta why homed ok) (λ fates. (
      homed,
      tt,
      tt,
      elim [
        | reply.Written at ↦ λ ok. tt
        | reply.Refused why ↦ λ ok. write_stop config m None meta (refusal_told (Tablet place.tablet) why) homed (not_open (Tablet place.tablet) why)
        | _ ↦ λ ok. tt
      ],
    ))

pub single_homed : (config : Config) (m : Actor) (meta : Meta) (place : Place) (op : Op) (seen : ℕ) → IsOwner m meta.txn → Told_ config m (Some meta.txn) (txn_program (step.Single meta place op seen))
single_homed config m meta place op seen mine =
    find_homed config m (Some meta.txn) meta place refused _ mine (λ why ok. ok) (λ fates. (
      mine,
      tt,
      refl,
      elim [
        | reply.SingleDone at ↦ λ ok. tt
        | reply.Refused why ↦ λ ok. not_open (Tablet place.tablet) why
        | _ ↦ λ ok. tt
      ],
    ))

pub commit_homed : (config : Config) (m : Actor) (meta : Meta) (floor : ℕ) (tablets : List ℕ) → MetaHomed config m meta → Told_ config m None (txn_program (step.Commit meta floor tablets))
commit_homed config m meta floor tablets homed = (
  (homed.0, status_home config meta.status meta.txn homed.1),
  tt,
  tt,
  elim [
    | reply.Committed at ↦ λ ok. tt
    | reply.AbortedBy by ↦ λ ok. tt
    | reply.Gone ↦ λ ok. tt
    | reply.Refused why ↦ λ ok. not_open (Status meta.status) why
    | _ ↦ λ ok. tt
  ],
)

pub end_homed : (config : Config) (m : Actor) (meta : Meta) → MetaHomed config m meta → Told_ config m None (txn_program (step.Abort meta))
end_homed config m meta homed = (
  (homed.0, status_home config meta.status meta.txn homed.1),
  tt,
  tt,
  elim [
    | reply.Ended ↦ λ ok. tt
    | reply.Committed at ↦ λ ok. tt
    | reply.Refused why ↦ λ ok. not_open (Status meta.status) why
    | _ ↦ λ ok. tt
  ],
)

-- ## reads

-- what a read may end with
abbrev pub EndsWell : ReadEnd → Type 0
EndsWell end = (why : ToldRefusal) → end.what ≡ what.Refused why → NotOpen (told.Refused why)

abbrev pub Read_ : Config → Actor → Program ReadEnd → Type 0
Read_ config m p = Homed EndsWell config m None p

same_refused : (v w : ToldRefusal) → what.Refused v ≡ what.Refused w → NotOpen (told.Refused v) → NotOpen (told.Refused w)
same_refused v w is ok = let e : v ≡ w = cc in subst (λ (u : ToldRefusal). NotOpen (told.Refused u)) e ok

refused_well : (config : Config) (m : Actor) (why : ToldRefusal) (s : Progress) → NotOpen (told.Refused why) → Read_ config m (read_refused why s)
refused_well config m why s ok = λ other is. same_refused why other is ok

fates_homed : (config : Config) (m : Actor) (s : Progress) (fs : List Found) (fates : List FateOf) (next : List FateOf → Program ReadEnd) → FoundsHomed config fs →
    ((found : List FateOf) → Read_ config m (next found)) → Read_ config m (ask_fates s fs fates next)
unfolding ask_fates
fates_homed config m s [] fates next homed goes = goes fates
fates_homed config m s (f ∷ fs) fates next homed goes = (
  status_home config f.status f.txn (homed f (inl refl)),
  tt,
  tt,
  elim [
    | reply.FateIs heard ↦ λ ok. fates_homed config m s fs _ next (λ g k. homed g (inr k)) goes
    | reply.Refused why ↦ λ ok. refused_well config m (refusal_told (Status f.status) why) s (not_open (Status f.status) why)
    | _ ↦ λ ok. refused_well config m told_refusal.Memory s tt
  ],
)

visit_homed : (config : Config) (m : Actor) (a : Asked) (s : Progress) (windowed : Bool) (k : ℕ) (next : Progress → Reply → Program ReadEnd) →
    ((seen : Progress) (r : Reply) → Read_ config m (next seen r)) → Read_ config m (visit a s windowed k next)
visit_homed config m a s windowed k next goes = (
  tt,
  tt,
  tt,
  elim [
    | reply.Listed limit others ↦ λ ok. fates_homed config m _ others [] _ ok (λ fates. (tt, tt, tt, λ answer heard. goes _ answer))
    | reply.Refused why ↦ λ ok. refused_well config m (refusal_told (Tablet k) why) s (not_open (Tablet k) why)
    | _ ↦ λ ok. refused_well config m told_refusal.Memory s tt
  ],
)

done_well : (config : Config) (m : Actor) (a : Asked) (s : Progress) → Read_ config m (read_done a s)
done_well config m a s = λ why is. cc

two_homed : (config : Config) (m : Actor) (a : Asked) (s : Progress) (ks : List ℕ) → Read_ config m (round_two a s ks)
unfolding round_two
two_homed config m a s [] = done_well config m a s
two_homed config m a s (k ∷ ks) = visit_homed config m a s false k (two_next a k ks) (λ seen. elim [
  | reply.Collected rows ↦ two_homed config m a (with_tablet_rows k rows seen) ks
  | reply.Refused why ↦ refused_well config m (refusal_told (Tablet k) why) seen (not_open (Tablet k) why)
  | _ ↦ refused_well config m told_refusal.Memory seen tt
])

one_done : (config : Config) (m : Actor) (a : Asked) (s : Progress) (b : Bool) (two : Program ReadEnd) → Read_ config m two → Read_ config m (if b then read_done a s else two)
one_done config m a s true two goes = done_well config m a s
one_done config m a s false two goes = goes

met_homed : (config : Config) (m : Actor) (strict : Bool) (end : ReadWhat) (s : Progress) (next : Program ReadEnd) → ((why : ToldRefusal) → end ≡ what.Refused why → ⊥) → Read_ config m next →
    Read_ config m (met_then strict end s next)
met_homed config m true end s next never goes = λ why is. absurd (never why is)
met_homed config m false end s next never goes = goes

one_homed : (config : Config) (m : Actor) (a : Asked) (s : Progress) (ks : List ℕ) → Read_ config m (round_one a s ks)
unfolding round_one
one_homed config m a s [] = one_done config m a s (nat_eq s.restarts 0) _ (two_homed config m a _ (tablets_of a.places))
one_homed config m a s (k ∷ ks) = visit_homed config m a s true k (one_next a k ks) (λ seen. elim [
  | reply.Collected rows ↦ one_homed config m a (with_tablet_rows k rows seen) ks
  | reply.Met at path ↦ met_homed config m a.strict (what.Restart at path) seen _ (λ why is. cc) (one_homed config m a (restarted at seen) ks)
  | reply.Refused why ↦ refused_well config m (refusal_told (Tablet k) why) seen (not_open (Tablet k) why)
  | _ ↦ refused_well config m told_refusal.Memory seen tt
])

pub read_homed : (config : Config) (m : Actor) (own_txn : Option ℕ) (kind : ReadKind) (places : List Place) (t g : ℕ) (strict : Bool) (limits : List TabletLimit) →
    Read_ config m (read_program own_txn kind places t g strict limits)
read_homed config m own_txn kind places t g strict limits = one_homed config m _ _ (tablets_of places)

-- ## passes

counted_homed : (config : Config) (m : Actor) (k : ℕ) (f : Found) (c : ℕ) (next : Program Told) → f.status ≡ home_of config f.txn → Told_ config m None next → Told_ config m None (apply_then k f c next)
counted_homed config m k f c next homed goes = (
  tt,
  tt,
  tt,
  elim [
    | reply.AppliedHere ↦ λ ok. (
      status_home config f.status f.txn homed,
      tt,
      tt,
      elim [
        | reply.Noted ↦ λ heard. goes
        | reply.Refused why ↦ λ heard. not_open (Status f.status) why
        | _ ↦ λ heard. tt
      ],
    )
    | reply.Refused why ↦ λ ok. not_open (Tablet k) why
    | _ ↦ λ ok. tt
  ],
)

cleaned_homed : (config : Config) (m : Actor) (k : ℕ) (f : Found) (next : Program Told) → Told_ config m None next → Told_ config m None (clean_then k f next)
cleaned_homed config m k f next goes = (
  tt,
  tt,
  tt,
  elim [
    | reply.Cleaned ↦ λ ok. goes
    | reply.Refused why ↦ λ ok. not_open (Tablet k) why
    | _ ↦ λ ok. tt
  ],
)

over_homed : (config : Config) (m : Actor) (k : ℕ) (n : Counts) (fs : List Found) → FoundsHomed config fs → Told_ config m None (pass_over k n fs)
unfolding pass_over
over_homed config m k n [] homed = tt
over_homed config m k n (f ∷ fs) homed = (
  status_home config f.status f.txn (homed f (inl refl)),
  tt,
  tt,
  elim [
    | reply.FateIs fate.Pending ↦ λ ok. over_homed config m k (record n { left = n.left + 1 }) fs (λ g j. homed g (inr j))
    | reply.FateIs (fate.Committed c) ↦ λ ok. counted_homed config m k f c _ (homed f (inl refl)) (over_homed config m k (record n { applied = n.applied + 1 }) fs (λ g j. homed g (inr j)))
    | reply.FateIs fate.Aborted ↦ λ ok. cleaned_homed config m k f _ (over_homed config m k (record n { cleaned = n.cleaned + 1 }) fs (λ g j. homed g (inr j)))
    | reply.FateIs fate.Absent ↦ λ ok. cleaned_homed config m k f _ (over_homed config m k (record n { cleaned = n.cleaned + 1 }) fs (λ g j. homed g (inr j)))
    | reply.Refused why ↦ λ ok. not_open (Status f.status) why
    | _ ↦ λ ok. tt
  ],
)

pub pass_homed : (config : Config) (m : Actor) (k : ℕ) → Told_ config m None (pass_program k)
pass_homed config m k = (
  tt,
  tt,
  tt,
  elim [
    | reply.Intents found ↦ λ ok. over_homed config m k _ found ok
    | reply.Refused why ↦ λ ok. not_open (Tablet k) why
    | _ ↦ λ ok. tt
  ],
)
