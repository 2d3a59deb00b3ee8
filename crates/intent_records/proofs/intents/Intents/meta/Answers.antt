use Rattle.std.proofs.Common.{◌≡◌, Option, Some, None, is_some, option_copied, refl, sym, ap, ◌∙◌, Bor}
use Rattle.txn_data.specs.declared.meta.Meta.{Meta}
use Rattle.intent_records.proofs.Writes.{is_some-first_meta}
use Rattle.intent_records.proofs.intents.Intents.meta.Goals as goal

copied_some : (o : Option (Bor Meta)) → is_some (option_copied o) ≡ is_some o
copied_some None = refl
copied_some (Some m) = refl

pub returns-clause-any : goal.returns-clause-any
returns-clause-any c = λ ps holds.
    sym (copied_some c.get.result) ∙ ap is_some (c.get.ensures.value ∙ holds.metas c.args.txn) ∙ is_some-first_meta c.args.txn ps
