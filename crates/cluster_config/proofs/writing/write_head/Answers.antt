use Rattle.std.proofs.Common.{◌∙◌, Err, ap, false, subst, string_bytes, sym}
use Rattle.std.proofs.lemmas.Bool.{false≢true}
use Rattle.toml.specs.Data.{Members, members_have_valid_dates}
use Rattle.toml.specs.declared.ser.error.Error.{Error}
use Rattle.toml.specs.Text.{IsDocumentText}
use Rattle.cluster_config.specs.Head.{head_of_document, head_of_table}
use Rattle.cluster_config.proofs.HeadText.{head_only, valid}
use Rattle.cluster_config.proofs.Members.{depth_fits, head_back}
use Rattle.cluster_config.proofs.writing.write_head.Goals as goal

pub returns-in-Ok-clause-text : goal.returns-in-Ok-clause-text
returns-in-Ok-clause-text c =
    head_only c.args.config.now (string_bytes c.in-Ok.text) c.requires
    (subst (λ (ms : Members). IsDocumentText false ms (string_bytes c.in-Ok.text)) c.in_ok-table.ensures c.in-Ok.ensures.text)

pub returns-in-Ok-clause-read : goal.returns-in-Ok-clause-read
returns-in-Ok-clause-read c =
    let config = c.args.config.now in
    let made = c.in_ok-table.ensures in
    ap head_of_document (c.in-Ok.ensures.reads_back (rw made (depth_fits config)))
    ∙ (ap head_of_table made ∙ head_back config c.requires)

-- a head has no date
pub unreachable-requires : goal.unreachable-requires
unreachable-requires c =
    let refused = c.in-Err-DateInvalid.ensures.dates.0 (ap (λ (e : Error). Err e) c.in-Err-DateInvalid.field-0-is) in
    false≢true (sym (sym (ap members_have_valid_dates c.in_ok-table.ensures) ∙ refused) ∙ valid c.args.config.now)
