use Rattle.std.proofs.Common.{◌≡◌, ◌∙◌, sym, ap, length, List, Err}
use Rattle.txn_data.specs.declared.command.Command.{Command}
use Rattle.docdb_run.specs.Form.{form_of, Accepted}
use Rattle.docdb_run.specs.Course.{at_first, told_from, all_entries}
use Rattle.docdb_run.proofs.FormIs.{form_is}
use Rattle.docdb_run.proofs.Endings.{sim_words, other_words, nothing_written, words_end, read_end, script_end, report_end, ends_before, ends_within, accepted_if, refused_if, as_many, within_word, all_taken, same_report}
use Rattle.docdb_run.proofs.sim.sim_main.Goals as goal

pub returns-then-not-are_sim-clause-ends : goal.returns-then-not-are_sim-clause-ends
returns-then-not-are_sim-clause-ends g c =
    words_end _ c.ended.result _ (other_words _ (sym c.are_sim.ensures ∙ c.if-not-are_sim.true)) c.requires.empty c.as_slice.ensures c.ended.ensures

pub returns-in-Err-Failed-clause-ends : goal.returns-in-Err-Failed-clause-ends
returns-in-Err-Failed-clause-ends g c =
    read_end _ c.ended-in-Err-Failed.result _
    (sim_words _ (sym c.are_sim.ensures ∙ c.if-not-are_sim.false), c.in-Err-Failed.ensures.failed (ap (λ e. Err e) c.in-Err-Failed.field-0-is))
    c.requires.empty c.as_slice-in-Err-Failed.ensures c.ended-in-Err-Failed.ensures

pub returns-in-Err-Memory-clause-ends : goal.returns-in-Err-Memory-clause-ends
returns-in-Err-Memory-clause-ends g c = ends_before _ (nothing_written _) c.requires.empty

pub returns-in_default-clause-ends : goal.returns-in_default-clause-ends
returns-in_default-clause-ends g c = ends_before _ (nothing_written _) c.requires.empty

pub returns-in-Err-Later-clause-ends : goal.returns-in-Err-Later-clause-ends
returns-in-Err-Later-clause-ends g c =
    script_end _ c.ended-in-Err-Later.result c.in-Err-Later.line _
    (refused_if _ c.in-Ok.script.items c.in-Err-Later.line (sim_words _ (sym c.are_sim.ensures ∙ c.if-not-are_sim.false)) c.in-Ok.ensures.read
    (ap form_of (sym c.as_slice-2.ensures.value) ∙ c.in-Err-Later.ensures.later c.in-Err-Later.line (ap (λ e. Err e) c.in-Err-Later.field-0-is)))
    c.requires.empty (c.as_bytes.ensures.value ∙ c.in-Ok-refused_script.ensures) c.ended-in-Err-Later.ensures

pub returns-in-Err-Memory-read_form-clause-ends : goal.returns-in-Err-Memory-read_form-clause-ends
returns-in-Err-Memory-read_form-clause-ends g c = ends_before _ (nothing_written _) c.requires.empty

pub simulate-requires-clause-form : goal.simulate-requires-clause-form
simulate-requires-clause-form g c =
    form_is c.as_slice-2.result.now c.as_slice-3.result.now (c.in-Ok-read_form.ensures.accepted ∙ ap Accepted (sym c.as_slice-3.ensures.value))

pub returns-in_default-simulate-clause-ends : goal.returns-in_default-simulate-clause-ends
returns-in_default-simulate-clause-ends g c =
    let cs = c.as_slice-3.result.now in
    let accepted : form_of c.as_slice-2.result.now ≡ Accepted cs = c.in-Ok-read_form.ensures.accepted ∙ ap Accepted (sym c.as_slice-3.ensures.value) in
    let part = c.in_default-simulate.ensures.memory in
    ends_within _ cs part.0
    (accepted_if _ c.in-Ok.script.items cs (sim_words _ (sym c.are_sim.ensures ∙ c.if-not-are_sim.false)) c.in-Ok.ensures.read
    (ap form_of (sym c.as_slice-2.ensures.value) ∙ accepted))
    (form_is c.as_slice-2.result.now cs accepted) (nothing_written _) part.1

pub report-requires-clause-same : goal.report-requires-clause-same
report-requires-clause-same g c =
    let cs = c.as_slice-3.result.now in
    let tolds : c.as_slice-5.result.now ≡ told_from at_first cs = c.as_slice-5.ensures.value ∙ c.in-Ok-simulate.ensures.told in
    let same : cs ≡ c.as_slice-4.result.now = c.as_slice-3.ensures.value ∙ sym c.as_slice-4.ensures.value in
    as_many cs c.as_slice-5.result.now tolds ∙ ap (λ (xs : List Command). length xs) same

pub report-requires-clause-few : goal.report-requires-clause-few
report-requires-clause-few g c =
    let cs = c.as_slice-3.result.now in
    let accepted : form_of c.as_slice-2.result.now ≡ Accepted cs = c.in-Ok-read_form.ensures.accepted ∙ ap Accepted (sym c.as_slice-3.ensures.value) in
    within_word cs c.as_slice-5.result.now (form_is c.as_slice-2.result.now cs accepted) (c.as_slice-5.ensures.value ∙ c.in-Ok-simulate.ensures.told)

pub returns-in_default-report-clause-ends : goal.returns-in_default-report-clause-ends
returns-in_default-report-clause-ends g c =
    let cs = c.as_slice-3.result.now in
    let accepted : form_of c.as_slice-2.result.now ≡ Accepted cs = c.in-Ok-read_form.ensures.accepted ∙ ap Accepted (sym c.as_slice-3.ensures.value) in
    ends_within _ cs (length (all_entries cs))
    (accepted_if _ c.in-Ok.script.items cs (sim_words _ (sym c.are_sim.ensures ∙ c.if-not-are_sim.false)) c.in-Ok.ensures.read
    (ap form_of (sym c.as_slice-2.ensures.value) ∙ accepted))
    (form_is c.as_slice-2.result.now cs accepted) (nothing_written _) (all_taken cs _ c.in-Ok-simulate.ensures.entries)

pub returns-clause-ends : goal.returns-clause-ends
returns-clause-ends g c =
    let cs = c.as_slice-3.result.now in
    let accepted : form_of c.as_slice-2.result.now ≡ Accepted cs = c.in-Ok-read_form.ensures.accepted ∙ ap Accepted (sym c.as_slice-3.ensures.value) in
    let tolds : c.as_slice-5.result.now ≡ told_from at_first cs = c.as_slice-5.ensures.value ∙ c.in-Ok-simulate.ensures.told in
    let same : c.as_slice-4.result.now ≡ cs = c.as_slice-4.ensures.value ∙ sym c.as_slice-3.ensures.value in
    report_end _ c.ended-2.result cs _
    (accepted_if _ c.in-Ok.script.items cs (sim_words _ (sym c.are_sim.ensures ∙ c.if-not-are_sim.false)) c.in-Ok.ensures.read
    (ap form_of (sym c.as_slice-2.ensures.value) ∙ accepted))
    (form_is c.as_slice-2.result.now cs accepted) c.in-Ok-simulate.ensures.entries
    (c.as_slice-6.ensures.value ∙ c.in-Ok-report.ensures ∙ same_report cs c.as_slice-4.result.now c.as_slice-5.result.now same tolds) c.ended-2.ensures
