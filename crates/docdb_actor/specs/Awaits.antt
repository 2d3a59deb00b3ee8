-- What may be called of a session that waits for this.
use Rattle.std.specs.Prelude.{Bool}
use Rattle.session_core.specs.Core.{is_idle, wants_reading, awaits_reply}
use Rattle.session_core.specs.declared.session_core.SessionCore.{SessionCore}
use Rattle.docdb_actor.specs.declared.awaits.Awaits.{Awaits}
use Rattle.docdb_actor.specs.declared.awaits.Awaits.TheVariants as awaits

abbrev pub does_await : SessionCore → Awaits → Bool
does_await core awaits.Command = is_idle core
does_await core awaits.Reading = wants_reading core
does_await core (awaits.Reply from) = awaits_reply core
