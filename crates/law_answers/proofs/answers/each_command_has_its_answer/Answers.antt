use Rattle.law_answers.proofs.Runs.{each_answered}
use Rattle.law_answers.proofs.answers.each_command_has_its_answer.Goals as goal

pub returns : goal.returns
returns c = each_answered
