-- A request that may be served is one that the machine accepts.
use Rattle.std.proofs.Common.{◌≡◌, ℕ, ◌≤◌, ◌<◌, true, false, Bool, ◌&&◌, IsTrue, List, [], ◌∷◌, Some, refl, sym, ap, subst, inl, inr, length, nat_le}
use Rattle.std.specs.List.{All, list_all}
use Rattle.std.proofs.lemmas.Bool.{le-leb}
use Rattle.std.proofs.lemmas.List.Elements.{All-head, All-tail, All-weaker}
use Rattle.doc_path.specs.Path.{Parts}
use Rattle.txn_data.specs.declared.actor.Actor.{Actor}
use Rattle.txn_data.specs.declared.actor.Actor.TheVariants.{Tablet, Status}
use Rattle.txn_data.specs.declared.config.Config.{Config}
use Rattle.txn_data.specs.declared.op.Op.{Op}
use Rattle.txn_data.specs.declared.op.Op.TheVariants as op
use Rattle.txn_data.specs.declared.request.Request.{Request}
use Rattle.txn_data.specs.declared.request.Request.TheVariants as request
use Rattle.txn_types.specs.Machine.{FewTablets, ReadingGiven}
use Rattle.txn_types.specs.Plan.{IsShort, IsPath}
use Rattle.law_owners.specs.Owner.{IsOfTable}
use Rattle.law_requests.specs.Requests.{IsServable, IsSmall, IsShortOp}
use Rattle.log_record.specs.Spelling.{are_bytes, is_path, is_op}
use Rattle.status_tablet.specs.Decisions.{IsStatusRequest}
use Rattle.tablet_core.specs.Requests.{Accepts, IsGood}
use Rattle.world_machines.specs.Machines.{MachinesState, MayServe}

-- in a map of versions every path fits
abbrev pub FitsAny : Parts → Type 0
FitsAny path = Unit {0}

both : (a b : Bool) → a ≡ true → b ≡ true → (a && b) ≡ true
both a b first second = rw first second

short : (bytes : List ℕ) → IsShort bytes → are_bytes bytes ≡ true
short bytes is = both (nat_le 1 (length bytes)) (nat_le (length bytes) 65536) (le-leb 1 (length bytes) is.0) (le-leb (length bytes) 65536 is.1)

parts : (path : Parts) → All IsShort path → list_all are_bytes path ≡ true
parts [] are = refl
parts (part ∷ more) are = both (are_bytes part) (list_all are_bytes more) (short part (All-head IsShort part more are)) (parts more (All-tail IsShort part more are))

path_is : (path : Parts) → IsPath path → is_path path ≡ true
path_is path is = both _ (list_all are_bytes path) (both _ _ (le-leb 1 (length path) is.0) (le-leb (length path) 5 is.1)) (parts path is.2)

op_is : (o : Op) → IsShortOp o → is_op o ≡ true
op_is (op.Put v) is = short v is
op_is op.Delete is = refl

good : (path : Parts) → IsPath path → IsGood FitsAny path
good path is = record { spelled = path_is path is; fit = tt }

written : (path : Parts) (o : Op) → IsPath path × IsShortOp o → FitsAny path × IsTrue (is_path path && is_op o)
written path o is = (tt, both (is_path path) (is_op o) (path_is path is.0) (op_is o is.1))

tablet_accepts : (k : ℕ) (asked : Request) → IsOfTable (Tablet k) asked → IsSmall asked → Accepts FitsAny asked
tablet_accepts k request.Restart of small = tt
tablet_accepts k (request.ListWrite x path) of small = good path small
tablet_accepts k (request.Write meta number path o read seen fates) of small = written path o small
tablet_accepts k (request.Single x path o seen fates) of small = written path o small
tablet_accepts k (request.ListRead own paths t g limit) of small = All-weaker IsPath (IsGood FitsAny) good paths small
tablet_accepts k (request.Collect own kind paths t window fates) of small = All-weaker IsPath (IsGood FitsAny) good paths small
tablet_accepts k request.ListIntents of small = tt
tablet_accepts k (request.Apply x at) of small = tt
tablet_accepts k (request.Clean x) of small = tt
tablet_accepts k asked of small = absurd of

status_accepts : (j : ℕ) (asked : Request) → IsOfTable (Status j) asked → IsStatusRequest asked
status_accepts j request.Restart of = tt
status_accepts j (request.Begin x isolation priority) of = tt
status_accepts j (request.AskFate x t) of = tt
status_accepts j (request.Resolve x by priority) of = tt
status_accepts j (request.Commit x floor tablets) of = tt
status_accepts j (request.Abort x) of = tt
status_accepts j (request.Applied x tablet) of = tt
status_accepts j asked of = absurd of

few_tablets : (asked : Request) → IsSmall asked → FewTablets asked
few_tablets (request.Commit x floor tablets) small = small.0
few_tablets asked small = tt

pub reading_given : (takes : Bool) (reading : ℕ) → ReadingGiven takes (Some reading)
reading_given true reading = tt
reading_given false reading = tt

-- ## what may be served is in its machine's range, and the machine accepts it

pub tablet_may : {L : Type 0} (m : MachinesState L) (by : Actor) (k : ℕ) (asked : Request) → by ≡ Tablet k → MayServe m by asked → (k < length m.tablets) × Accepts FitsAny asked
tablet_may m by k asked is may =
    let can = subst (λ (a : Actor). IsServable may.config a asked) is may.servable in
    (subst (λ n. k < n) (sym may.tablets) can.machine, tablet_accepts k asked can.table can.small)

pub status_may : {L : Type 0} (m : MachinesState L) (by : Actor) (j : ℕ) (asked : Request) → by ≡ Status j → MayServe m by asked → (j < length m.statuses) × IsStatusRequest asked × FewTablets asked
status_may m by j asked is may =
    let can = subst (λ (a : Actor). IsServable may.config a asked) is may.servable in
    (subst (λ n. j < n) (sym may.statuses) can.machine, status_accepts j asked can.table, few_tablets asked can.small)

-- nobody else serves
pub nobody_may : {L : Type 0} (m : MachinesState L) (by : Actor) (asked : Request) → ((k : ℕ) → by ≡ Tablet k → ⊥) → ((j : ℕ) → by ≡ Status j → ⊥) → MayServe m by asked → ⊥
nobody_may m (Tablet k) asked no_tablet no_status may = no_tablet k refl
nobody_may m (Status j) asked no_tablet no_status may = no_status j refl
nobody_may m a asked no_tablet no_status may = may.servable.machine
