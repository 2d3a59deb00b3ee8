-- A list to which nothing was added.
use Rattle.std.proofs.Common.{◌≡◌, List, [], ◌∷◌, length, refl, arith}
use Rattle.txn_data.specs.declared.version.Version.{Version}
use Rattle.txn_types.specs.Tablet.{with_versions}

pub none-added : (vs : List Version) → length vs ≡ 0 → with_versions [] vs ≡ []
unfolding with_versions
none-added [] h = refl
none-added (v ∷ vs) h = absurd (omega arith)
