use Rattle.std.proofs.Common.{◌∙◌, ap}
use Rattle.serde_json.specs.Written.{compact_text, has_float}
use Rattle.serde_json.proofs.OnLiterals.{serde_json_on_literals}
use Rattle.report_text.proofs.Ascii.{string_of}
use Rattle.report_text.proofs.line.json_object.Goals as goal

pub returns : goal.returns
unfolding serde_json_on_literals
returns c =
    let seen = c.in_ok-value.ensures in
    string_of c.from_utf8.result c.unwrap.result c.in_ok-object.object c.unwrap.ensures c.from_utf8.ensures.ok
    ∙ (c.in_ok-object.ensures.text (ap has_float seen) ∙ ap compact_text seen)
