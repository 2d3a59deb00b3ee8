use Rattle.script_text.proofs.Kept.{kept_err2, kept_err3}
use Rattle.script_text.proofs.written_words.write_command.Goals as goal

pub returns-in_ok-write_strict-in-Read-clause-memory : goal.returns-in_ok-write_strict-in-Read-clause-memory
returns-in_ok-write_strict-in-Read-clause-memory c =
    kept_err2 c.write_places.result _ _ _ _ _ _ c.in_ok-extend_from_slice-in-Read.ensures.items c.in_ok-write_strict-in-Read.ensures.ok c.write_places.ensures.memory

pub returns-in_ok-write_strict-in-Scan-clause-memory : goal.returns-in_ok-write_strict-in-Scan-clause-memory
returns-in_ok-write_strict-in-Scan-clause-memory c =
    kept_err2 c.write_place-in-Scan.result _ _ _ _ _ _ c.in_ok-extend_from_slice-in-Scan.ensures.items c.in_ok-write_strict-in-Scan.ensures.ok c.write_place-in-Scan.ensures.memory

pub returns-in_ok-write_value-in-SinglePut-clause-memory : goal.returns-in_ok-write_value-in-SinglePut-clause-memory
returns-in_ok-write_value-in-SinglePut-clause-memory c =
    kept_err3 c.write_priority-in-SinglePut.result _ _ _ _ _ _ _ _ c.in_ok-extend_from_slice-in-SinglePut.ensures.items c.in_ok-write_place-in-SinglePut.ensures.ok c.in_ok-write_value-in-SinglePut.ensures.ok c.write_priority-in-SinglePut.ensures.memory

pub returns-in_ok-write_place-in-SingleDel-clause-memory : goal.returns-in_ok-write_place-in-SingleDel-clause-memory
returns-in_ok-write_place-in-SingleDel-clause-memory c =
    kept_err2 c.write_priority-in-SingleDel.result _ _ _ _ _ _ c.in_ok-extend_from_slice-in-SingleDel.ensures.items c.in_ok-write_place-in-SingleDel.ensures.ok c.write_priority-in-SingleDel.ensures.memory

pub returns-in_ok-push-in-Clock-clause-memory : goal.returns-in_ok-push-in-Clock-clause-memory
returns-in_ok-push-in-Clock-clause-memory c =
    kept_err3 c.write_number-in-Clock.result _ _ _ _ _ _ _ _ c.in_ok-extend_from_slice-in-Clock.ensures.items c.in_ok-write_number-in-Clock.ensures.ok c.in_ok-push-in-Clock.ensures.items c.write_number-in-Clock.ensures.memory
