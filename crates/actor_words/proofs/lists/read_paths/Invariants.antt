use Rattle.actor_words.specs.Words.{size}
use Rattle.actor_words.proofs.lists.read_paths.Given as goal

abbrev pub decreases-paths : goal.decreases-paths
decreases-paths l = size l.words
