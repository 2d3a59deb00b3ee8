-- What a Collect answers, where the list that it made is that of the committed writes on related paths.
use Rattle.std.proofs.Common.{◌≡◌, ℕ, List, [], ◌++◌, Option, Some, None, ap, ◌∙◌}
use Rattle.std.specs.Prelude.{filter}
use Rattle.doc_path.specs.Path.{Parts}
use Rattle.txn_data.specs.declared.version.Version.{Version}
use Rattle.txn_data.specs.declared.row.Row.{Row}
use Rattle.txn_data.specs.declared.met_at.MetAt.{MetAt}
use Rattle.txn_data.specs.declared.window.Window.{Window}
use Rattle.txn_data.specs.declared.read_kind.ReadKind.{ReadKind}
use Rattle.txn_data.specs.declared.reply.Reply.{Reply}
use Rattle.txn_data.specs.declared.reply.Reply.TheVariants.{Met, Collected}
use Rattle.txn_types.specs.Tablet.{with_versions, writes_at, rows_of, met_in, met_under, collected}
use Rattle.regular_records.specs.Laws.{RowsOfAdded}
use Rattle.tablet_records.specs.Committed.{on_related}
use Rattle.tablet_records.proofs.Near.{rows_of_related, met_of_related}

met-by : (t : ℕ) (paths : List Parts) (window : Option Window) (us vs ws : List Version) (met : Option MetAt) → vs ≡ filter (on_related paths) ws
    → met ≡ met_under window t paths (us ++ vs) → met ≡ met_under window t paths (us ++ ws)
met-by t paths None us vs ws met is e = e
met-by t paths (Some w) us vs ws met is e = e ∙ ap (λ (l : List Version). met_in w t paths (us ++ l)) is ∙ met_of_related w t paths us ws

pub told-met : (kind : ReadKind) (paths : List Parts) (t : ℕ) (window : Option Window) (us vs ws : List Version) (m : MetAt) → vs ≡ filter (on_related paths) ws
    → Some m ≡ met_under window t paths (us ++ vs) → Met m.at m.path ≡ collected kind paths t (us ++ ws) (met_under window t paths (us ++ ws))
told-met kind paths t window us vs ws m is e = ap (collected kind paths t (us ++ ws)) (met-by t paths window us vs ws (Some m) is e)

pub told-rows : RowsOfAdded → (kind : ReadKind) (paths : List Parts) (t : ℕ) (window : Option Window) (us vs ws : List Version) (rows : List Row) → vs ≡ filter (on_related paths) ws
    → None ≡ met_under window t paths (us ++ vs) → rows ≡ rows_of kind paths (writes_at t (us ++ with_versions [] vs))
    → Collected rows ≡ collected kind paths t (us ++ ws) (met_under window t paths (us ++ ws))
told-rows added kind paths t window us vs ws rows is e r =
    let told : List Row → Reply = λ x. Collected x in
    ap told (r ∙ added kind paths t us vs ∙ ap (λ (l : List Version). rows_of kind paths (writes_at t (us ++ l))) is ∙ rows_of_related kind paths t us ws)
    ∙ ap (collected kind paths t (us ++ ws)) (met-by t paths window us vs ws None is e)
