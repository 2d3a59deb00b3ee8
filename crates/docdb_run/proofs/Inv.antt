-- How far a run of one session without transactions has come: the tablet, the session and the applier between two commands.
use Rattle.std.proofs.Common.{◌≡◌, ◌≤◌, true, false, [], ◌∷◌, None, ap}
use Rattle.txn_data.specs.declared.actor.Actor.{Actor}
use Rattle.txn_data.specs.declared.entry.Entry.{Entry}
use Rattle.txn_types.specs.History.{History, own, same_actor}
use Rattle.txn_types.specs.TxnProgram.{lost}
use Rattle.txn_types.specs.Session.{Keeps}
use Rattle.txn_types.specs.Run.{Mover, idle, mover_at, mover_after, flight, Quiet, Steps}
use Rattle.docdb_run.specs.Form.{cluster}
use Rattle.docdb_run.specs.Course.{Course, one, t0, applier}
use Rattle.docdb_run.proofs.Ordered.{Upto}
use Rattle.docdb_run.proofs.TabletState.{TabletAt}

abbrev pub keeps_of : Course → Keeps
keeps_of k = record { last = k.session; serial = k.serial; opened = None }

-- the session between two commands
abbrev pub between : Course → Mover
between k = record {
  keeps = keeps_of k;
  commands = k.commands;
  line = None;
  rest = lost;
  reading = None;
  limits = [];
  may_lose = true;
}

pub record Inv (h : History) (k : Course) : Type 0 where
  pub steps : Steps cluster h
  pub tablet : TabletAt (own t0 h) k.tablet k.versions
  pub mover : mover_at cluster one h ≡ between k
  pub quiet : flight one h ≡ Quiet
  pub passes : mover_at cluster applier h ≡ idle
  pub still : flight applier h ≡ Quiet
  pub upto : Upto k.session k.versions
  pub clock : k.clock ≤ 4000000000000000

-- one more entry: of the mover's own, or of another actor
pub mover_on : (a : Actor) (h : History) (e : Entry) (m : Mover) → same_actor e.actor a ≡ true → mover_at cluster a h ≡ m →
    mover_at cluster a (e ∷ h) ≡ mover_after cluster a m e.reading e.event
unfolding mover_at
mover_on a h e m same is = rw same (ap (λ (n : Mover). mover_after cluster a n e.reading e.event) is)

pub mover_off : (a : Actor) (h : History) (e : Entry) (m : Mover) → same_actor e.actor a ≡ false → mover_at cluster a h ≡ m →
    mover_at cluster a (e ∷ h) ≡ m
unfolding mover_at
mover_off a h e m same is = rw same is
