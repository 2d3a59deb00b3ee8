use Rattle.actor_words.specs.Words.{size}
use Rattle.actor_words.proofs.lists.read_rows.Given as goal

abbrev pub decreases-rows : goal.decreases-rows
decreases-rows l = size l.words
