use Rattle.std.proofs.Common.{◌≡◌, length}
use Rattle.script_text.specs.Words.{words_of}
use Rattle.script_text.proofs.sessions.first_word.Given as goal

abbrev pub invariant-words : goal.invariant-words
invariant-words l = words_of l.rest ≡ words_of l.line

abbrev pub decreases-words : goal.decreases-words
decreases-words l = length l.rest
