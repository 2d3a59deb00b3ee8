-- What a command heard was served since its start, by the table of the machine that it asked.
use Rattle.std.proofs.Common.{◌≡◌, ℕ, ◌∷◌, Option, ap, inl, inr}
use Rattle.txn_data.specs.declared.actor.Actor.{Actor}
use Rattle.txn_data.specs.declared.append.Append.{Append}
use Rattle.txn_data.specs.declared.config.Config.{Config}
use Rattle.txn_data.specs.declared.request.Request.{Request}
use Rattle.txn_data.specs.declared.reply.Reply.{Reply}
use Rattle.txn_data.specs.declared.told.Told.{Told}
use Rattle.txn_data.specs.declared.event.Event.TheVariants.{Serve, Tell}
use Rattle.txn_data.specs.declared.entry.Entry.{Entry}
use Rattle.txn_types.specs.Lists.{Member}
use Rattle.txn_types.specs.History.{History, own}
use Rattle.txn_types.specs.Reads.{before_start}
use Rattle.txn_types.specs.Run.{Allowed, Steps, Serves}
use Rattle.txn_types.specs.Cause.{served_since}
use Rattle.law_machines.specs.Own.{StandsOver}
use Rattle.law_machines.proofs.Owns.{steps_at}
use Rattle.law_courses.specs.Course.{entry_of}
use Rattle.law_causes.proofs.Goes.{AllHeard}
use Rattle.law_refusals.proofs.Since.{in_since}
use Rattle.law_refusals.proofs.Runs.{allowed_last}

pub record Heard (config : Config) (m : Actor) (h : History) (a : Actor) (asked : Request) (r : Reply) : Type 0 where
  pub reading : Option ℕ
  pub time : Option ℕ
  pub append : Append
  pub before : History
  pub stands : StandsOver (entry_of a reading (Serve m asked r time append)) before h
  pub here : Member (record { by = a; reading = reading; asked = asked; reply = r; append = append; before = before }) (served_since m h)
  pub serves : Serves config.lease_us a (own a before) reading asked r time append

-- the entry that tells is not the one that answered
not_telling : (m a : Actor) (reading own_reading : Option ℕ) (asked : Request) (r : Reply) (time : Option ℕ) (append : Append) (number : ℕ) (t : Told) (before h : History) →
    StandsOver (entry_of a reading (Serve m asked r time append)) before (entry_of m own_reading (Tell number t) ∷ h) → StandsOver (entry_of a reading (Serve m asked r time append)) before h
not_telling m a reading own_reading asked r time append number t before h stands = elim stands [ inl here ↦ let wrong : Tell number t ≡ Serve m asked r time append = ap (λ (e : Entry). e.event) here.0 in cc | inr deeper ↦ deeper ]

-- over the history before the entry that tells
pub all_heard : (config : Config) (m : Actor) (reading : Option ℕ) (number : ℕ) (t : Told) (h : History) → Steps config h → AllHeard (Heard config m h) m (entry_of m reading (Tell number t) ∷ h) (before_start m h)
all_heard config m reading number t h steps to asked a =
    let stands = not_telling m to a.reading reading asked a.reply a.time a.append number t a.before h a.stands in
    let e = entry_of to a.reading (Serve m asked a.reply a.time a.append) in
    let ok : Allowed config a.before to a.reading (Serve m asked a.reply a.time a.append) = allowed_last config e a.before (steps_at config e a.before h steps stands) in
    record {
      reading = a.reading;
      time = a.time;
      append = a.append;
      before = a.before;
      stands = stands;
      here = in_since m to a.reading asked a.reply a.time a.append a.before h stands a.later;
      serves = ok.2;
    }
