use Rattle.std.proofs.Common.{◌≡◌, ◌-◌, ◌≤◌, length}
use Rattle.regular_records.specs.PrefixWords.{AreFirstWords}
use Rattle.regular_records.proofs.prefix_words.PrefixWords.go_to.Given as goal

abbrev pub invariant-loop-i : goal.invariant-loop-i
invariant-loop-i l = record {
  words : AreFirstWords l.t l.path l.paths l.self.words.items;
  many : length l.self.words.items ≡ l.i;
  path : l.self.path.now ≡ l.path;
  inside : l.i ≤ length l.path - 1;
}
