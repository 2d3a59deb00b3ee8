use Rattle.std.proofs.Common.{◌≡◌, ◌++◌, length, map}
use Rattle.script_text.specs.Words.{words_of}
use Rattle.script_text.proofs.words.words_of.Given as goal

abbrev pub invariant-words : goal.invariant-words
invariant-words l = map (λ w. w.now) l.words.items ++ words_of l.rest ≡ words_of l.line

abbrev pub decreases-words : goal.decreases-words
decreases-words l = length l.rest
