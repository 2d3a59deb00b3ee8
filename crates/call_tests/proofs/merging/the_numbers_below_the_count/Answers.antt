use Rattle.std.proofs.Common.{refl}
use Rattle.call_tests.proofs.Distinct.{four}
use Rattle.call_tests.proofs.merging.the_numbers_below_the_count.Goals as goal

pub put_into_one-requires : goal.put_into_one-requires
put_into_one-requires g c = four 0 1 2 3 refl refl refl refl refl refl

pub put_into_one-requires-2 : goal.put_into_one-requires-2
put_into_one-requires-2 g c = four 0 2 1 3 refl refl refl refl refl refl

pub put_into_one-requires-3 : goal.put_into_one-requires-3
put_into_one-requires-3 g c = four 3 2 1 0 refl refl refl refl refl refl
