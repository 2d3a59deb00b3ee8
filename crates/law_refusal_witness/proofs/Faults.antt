-- Appends that fail of what a put or a del asked, by computation.
use Rattle.std.proofs.Common.{true, false, [], refl}
use Rattle.txn_types.specs.Cause.{served_since}
use Rattle.worked_cases.specs.Simulated.{all_done}
use Rattle.worked_cases.proofs.Tables.{tables}
use Rattle.law_witness.specs.Endings.{earlier}
use Rattle.law_witness.specs.Witness.{small, reader}
use Rattle.law_witness.proofs.Simulated.{done_is_run}
use Rattle.law_witness.proofs.Tests.{one_home}
use Rattle.law_refusal_witness.specs.Faults.{closing_fault, closing_fails, write_kept, write_lost, write_fails, ShowsRefusedClosing, ShowsFailedWrite}
use Rattle.law_refusal_witness.proofs.Refused.{refused_at, served_at, was_served}

pub shows_refused_closing : ShowsRefusedClosing (all_done small closing_fault closing_fails [])
unfolding tables served_since
shows_refused_closing =
    let h = all_done small closing_fault closing_fails [] in
    record {
      is_run = record { run = done_is_run small closing_fault closing_fails refl refl; places = one_home (λ part. 0) h refl };
      conflicts = refused_at 0 small h _ _ _ refl refl refl refl;
      failed = record { served = served_at 0 reader (earlier h); here = was_served 0 reader (earlier h) refl; asked = refl; answered = refl };
      closed = refl;
    }

pub shows_kept_write : ShowsFailedWrite (all_done small write_kept write_fails []) true
unfolding tables
shows_kept_write =
    let h = all_done small write_kept write_fails [] in
    record {
      is_run = record { run = done_is_run small write_kept write_fails refl refl; places = one_home (λ part. 0) h refl };
      append_failed = refused_at 1 small h _ _ _ refl refl refl refl;
      closed = refl;
      stands = refl;
    }

pub shows_lost_write : ShowsFailedWrite (all_done small write_lost write_fails []) false
unfolding tables
shows_lost_write =
    let h = all_done small write_lost write_fails [] in
    record {
      is_run = record { run = done_is_run small write_lost write_fails refl refl; places = one_home (λ part. 0) h refl };
      append_failed = refused_at 1 small h _ _ _ refl refl refl refl;
      closed = refl;
      stands = refl;
    }
