use Rattle.report_text.proofs.Agreeing.{agreed_is, agreed_says}
use Rattle.report_text.proofs.laws.the_total_says_whether_clocks_agreed.Goals as goal

pub returns : goal.returns
returns c = λ config h. (agreed_says config h, agreed_is config h)
