use Rattle.std.proofs.Common.{◌≡◌, [], Option, ap, sym, subst}
use Rattle.std.specs.Prelude.{IfOk}
use Rattle.std.specs.Option.{option_copied}
use Rattle.txn_data.specs.declared.place.Place.{Place}
use Rattle.txn_types.specs.Session.{writes_of}
use Rattle.own_writes.specs.OwnWrites.{writes}
use Rattle.session_core.specs.Work.{shown_at}
use Rattle.session_core.proofs.work.rows_over.Goals as goal

pub returns-in-None-clause-rows : goal.returns-in-None-clause-rows
returns-in-None-clause-rows c =
    let P : Option Place → Type 0 = λ o. IfOk c.over_rows.result (λ all. all ≡ shown_at (writes_of (writes c.args.own_writes.now)) o c.args.rows) in
    subst P (sym (ap option_copied c.in-None.is)) (c.over_rows.ensures.rows [])
