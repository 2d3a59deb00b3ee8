-- Before any entry nothing is kept.
use Rattle.std.proofs.Common.{◌≡◌, ℕ, [], None, refl}
use Rattle.txn_types.specs.History.{counting_before}
use Rattle.txn_types.specs.Status.{record_over, record_of, noted, is_sure}
use Rattle.status_tablet.specs.Keeps.{kept_of}

pub none_kept : (x : ℕ) → kept_of (record_of x []) (noted x []) (is_sure x []) ≡ None
unfolding counting_before record_over noted is_sure
none_kept x = refl
