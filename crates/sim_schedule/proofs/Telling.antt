-- The last entry of a trace, and whether it tells.
use Rattle.std.proofs.Common.{◌≡◌, ℕ, ◌<◌, Bool, List, Some, get_or, length, reverse, sym, ◌∙◌, ap, subst, arith}
use Rattle.std.specs.List.{slice_get}
use Rattle.std.proofs.lemmas.List.{length-reverse}
use Rattle.std.proofs.lemmas.Option.{get_or_from_slice_get}
use Rattle.txn_data.specs.declared.actor.Actor.{Actor}
use Rattle.txn_data.specs.declared.entry.Entry.{Entry}
use Rattle.law_schedules.specs.Courses.{is_tell}
use Rattle.law_moves.proofs.Loops.{added_at, longer}
use Rattle.world_core.specs.State.{WorldState}
use Rattle.world_core.specs.World.{recorded}
use Rattle.sim_schedule.specs.Stands.{HasNext}
use Rattle.sim_schedule.proofs.Ways.{LastTells, Once, Way}

-- it stands in the trace
pub place_within : {L : Type 0} (w w1 : WorldState L) (c c1 : List ℕ) (a : Actor) (entries : List Entry) (at : ℕ) → HasNext w c a → Way w c w1 c1 (Once w w1 a) → reverse entries ≡ recorded w1 → at ≡ length (recorded w) → at < length entries
place_within w w1 c c1 a entries at has once is place =
    let grown = longer a (recorded w) (recorded w1) (once has.config has.plan has.standing).so in
    let turned : length entries ≡ length (recorded w1) = sym (length-reverse entries) ∙ ap length is in
    omega (arith, grown, turned, place)

pub last_tells : {L : Type 0} (w w1 : WorldState L) (a : Actor) (entries : List Entry) (at : ℕ) (e : Entry) (b : Bool) → reverse entries ≡ recorded w1 → at ≡ length (recorded w) → e ≡ get_or entries at e → b ≡ is_tell e.event → LastTells w w1 a b
last_tells w w1 a entries at e b is place read tells once =
    let added = added_at entries a (recorded w) (record { entry = once.entry; adds = is ∙ once.adds; by = once.by }) in
    let there : slice_get entries at ≡ Some once.entry = subst (λ n. slice_get entries n ≡ Some once.entry) (sym place) added in
    let same : e ≡ once.entry = read ∙ get_or_from_slice_get entries at once.entry e there in
    ap (λ (f : Entry). is_tell f.event) (sym same) ∙ sym tells
