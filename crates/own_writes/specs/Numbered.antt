-- Writes as versions of one time, by their numbers.
use Rattle.std.specs.Prelude.{ℕ, ◌+◌, List, [], ◌∷◌}
use Rattle.txn_data.specs.declared.version.Version.{Version}
use Rattle.txn_data.specs.declared.written.Written.{Written}

abbrev pub version_of : ℕ → Written → Version
version_of n w = record { path = w.path; at = 0; wrote = 0; number = n; op = w.op }

-- numbered from n on
unfoldable pub numbered : ℕ → List Written → List Version
numbered n [] = []
numbered n (w ∷ ws) = version_of n w ∷ numbered (n + 1) ws
