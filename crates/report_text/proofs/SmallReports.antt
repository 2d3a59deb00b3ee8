-- Reports of small histories, which the checker computes.
use Rattle.std.proofs.Common.{◌≡◌, true, false, [], ◌∷◌, None, codes, refl}
use Rattle.std.specs.Fmt.{digits}
use Rattle.json.specs.Print.{escape_byte}
use Rattle.txn_data.specs.declared.actor.Actor.{Actor}
use Rattle.txn_data.specs.declared.actor.Actor.TheVariants.{Tablet, Applier}
use Rattle.txn_data.specs.declared.append.Append.TheVariants.{Nothing}
use Rattle.txn_data.specs.declared.request.Request.TheVariants as request
use Rattle.txn_data.specs.declared.reply.Reply.TheVariants as reply
use Rattle.txn_data.specs.declared.command.Command.TheVariants as command
use Rattle.txn_data.specs.declared.told.Told.TheVariants as told
use Rattle.txn_data.specs.declared.event.Event.{Event}
use Rattle.txn_data.specs.declared.event.Event.TheVariants.{Start, Ask, Serve, Hear, Tell}
use Rattle.txn_data.specs.declared.entry.Entry.{Entry}
use Rattle.txn_data.specs.declared.config.Config.{Config}
use Rattle.txn_data.specs.declared.schedule.Schedule.TheVariants.{Serial}
use Rattle.txn_types.specs.History.{History}
use Rattle.txn_types.specs.Run.{mover_at}
use Rattle.txn_types.specs.Reads.{reads}
use Rattle.txn_types.specs.Script.{from_up}
use Rattle.txn_types.specs.Settled.{last_told}
use Rattle.report_text.specs.Text.{shown_to, numbered_lines, session_tells, text_of}

-- one node, one tablet and one status tablet
abbrev one : Config
one = record {
  nodes = 1;
  tablets = 1;
  status = 1;
  passes = 0;
  skew_us = 500000;
  lease_us = 2000000;
  number = 0;
  start_us = 1000000 ∷ [];
  schedule = Serial;
}

abbrev by : Actor → Event → Entry
by a event = record { actor = a; reading = None; event = event }

-- the history of a script without commands: a pass over a tablet with nothing in it
abbrev a_pass : History
a_pass =
    by (Applier 0) (Tell 1 (told.Passed 0 0 0)) ∷ by (Applier 0) (Hear (Tablet 0) (reply.Intents []))
    ∷ by (Tablet 0) (Serve (Applier 0) request.ListIntents (reply.Intents []) None Nothing)
    ∷ by (Applier 0) (Ask (Tablet 0) request.ListIntents) ∷ by (Applier 0) (Start 1 (command.Apply 0)) ∷ []

plain_pass : text_of one false false a_pass
    ≡ codes "t0 last passed applied=0 cleaned=0 left=0\ntotal commands=0 ok=0 refused=0 committed=0 reads=0 restarts=0 skew=ok\n"
unfolding digits escape_byte shown_to numbered_lines session_tells last_told from_up reads mover_at
plain_pass = refl

json_pass : text_of one true false a_pass
    ≡ codes "{\"call\":\"t0\",\"command\":\"last\",\"told\":\"passed applied=0 cleaned=0 left=0\"}\n{\"commands\":0,\"committed\":0,\"ok\":0,\"reads\":0,\"refused\":0,\"restarts\":0,\"skew\":\"ok\"}\n"
unfolding digits escape_byte shown_to numbered_lines session_tells last_told from_up reads mover_at
json_pass = refl

json_total_alone : text_of one true true a_pass
    ≡ codes "{\"commands\":0,\"committed\":0,\"ok\":0,\"reads\":0,\"refused\":0,\"restarts\":0,\"skew\":\"ok\"}\n"
unfolding digits escape_byte session_tells reads
json_total_alone = refl
