use Rattle.report_text.proofs.Ascii.{more_utf8, string_utf8}
use Rattle.report_text.proofs.refused.restart.Goals as goal

pub unwrap-requires : goal.unwrap-requires
unwrap-requires c =
    let head = string_utf8 c.in_ok-head.head c.into_bytes-text.result c.into_bytes-text.ensures.value in
    c.from_utf8.ensures.succeeds (more_utf8 _ _ _ c.in_ok-path_text.ensures.ok head c.in_ok-path_text.ensures.ascii)
