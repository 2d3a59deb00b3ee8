use Rattle.std.proofs.Common.{refl}
use Rattle.call_tests.proofs.Distinct.{four}
use Rattle.call_tests.proofs.merging.other_stamps.Goals as goal

pub put_into_one-requires : goal.put_into_one-requires
put_into_one-requires g c = four 0 4 1 3 refl refl refl refl refl refl

pub put_into_one-requires-2 : goal.put_into_one-requires-2
put_into_one-requires-2 g c = four 7 20 3 9 refl refl refl refl refl refl
