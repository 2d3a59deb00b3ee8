use Rattle.std.proofs.Common.{◌≡◌, ◌∙◌, ap, ap₂, true}
use Rattle.std.proofs.lemmas.Result.{IfOk-weaker}
use Rattle.clap.specs.Words.{Shape, app_of, with_rule}
use Rattle.clap.specs.Simple.{app_of_fields, on_top}
use Rattle.clap.specs.declared.builder.command.Command.{Command}
use Rattle.clap.specs.declared.builder.command.Command.TheOpen.{Command-F}
use Rattle.run_words.specs.Words.{bare_app}
use Rattle.run_words.proofs.command.command.Goals as goal

pub returns : goal.returns
returns c =
    let bare : app_of c.disable_help_flag.result ≡ bare_app = ap app_of_fields c.disable_help_flag.ensures
    ∙ (ap (λ (f : Command-F Command). app_of_fields (record f { disable_help_flag = true })) c.no_binary_name.ensures
    ∙ ap (on_top (λ (s : Shape). record s { no_binary_name = true; disable_help_flag = true })) c.new.ensures.app) in
    let one = c.in_ok-arg.ensures.shape c.mode_arg.ensures.local ∙ ap₂ with_rule bare c.mode_arg.ensures.rule in
    let two = c.in_ok-arg-2.ensures.shape c.json_arg.ensures.local ∙ ap₂ with_rule one c.json_arg.ensures.rule in
    let three = c.in_ok-arg-3.ensures.shape c.option_arg.ensures.local ∙ ap₂ with_rule two c.option_arg.ensures.rule in
    let four = c.in_ok-arg-4.ensures.shape c.option_arg-2.ensures.local ∙ ap₂ with_rule three c.option_arg-2.ensures.rule in
    IfOk-weaker c.arg-5.result _ _ (λ r h. h.shape c.option_arg-3.ensures.local ∙ ap₂ with_rule four c.option_arg-3.ensures.rule) c.arg-5.ensures
