use Rattle.script_text.proofs.script_refusal.ScriptRefusalDisplay.fmt.Goals as goal

pub returns-in-ScriptRefused-clause-writes : goal.returns-in-ScriptRefused-clause-writes
returns-in-ScriptRefused-clause-writes g c = λ plain ok. rw c.in-ScriptRefused.is (c.write.ensures.writes plain ok)
