use Rattle.std.proofs.Common.{◌∙◌, ap, List, ℕ}
use Rattle.toml.specs.View.{members_view, view}
use Rattle.cluster_config.specs.Table.{put}
use Rattle.cluster_config.proofs.Members.{put_entry}
use Rattle.cluster_config.proofs.writing.put.Goals as goal

pub returns-in-Ok : goal.returns-in-Ok
returns-in-Ok c =
    ap members_view c.in-Ok.ensures.entries
    ∙ (put_entry c.args.table.now.entries _ c.args.value
    ∙ ap (λ (k : List ℕ). put k (view c.args.value) (members_view c.args.table.now.entries)) c.in_ok-key.ensures.ok)
