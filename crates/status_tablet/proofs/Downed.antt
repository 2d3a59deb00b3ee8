-- A status tablet that is down refuses every request but a restart.
use Rattle.std.proofs.Common.{◌≡◌, ℕ, Bool, List, Option, Some, None, refl, sym, ap, ◌∙◌}
use Rattle.txn_data.specs.declared.actor.Actor.{Actor}
use Rattle.txn_data.specs.declared.append.Append.TheVariants.{Nothing}
use Rattle.txn_data.specs.declared.request.Request.{Request}
use Rattle.txn_data.specs.declared.request.Request.TheVariants as request
use Rattle.txn_data.specs.declared.reply.Reply.TheVariants as reply
use Rattle.txn_data.specs.declared.refusal.Refusal.{Refusal}
use Rattle.txn_data.specs.declared.refusal.Refusal.TheVariants as refusal
use Rattle.txn_data.specs.declared.event.Event.TheVariants.{Serve}
use Rattle.txn_types.specs.History.{History}
use Rattle.txn_types.specs.Lists.{or_zero}
use Rattle.txn_types.specs.Clock.{down_since}
use Rattle.txn_types.specs.Status.{Record, noted_after, sure_after, status_up, status_standing, status_answer}
use Rattle.leased_log.specs.Decides.{IsPlain}
use Rattle.status_tablet.specs.declared.mark.Mark.TheVariants as mark
use Rattle.status_tablet.specs.Keeps.{kept_of}
use Rattle.status_tablet.specs.Stands.{StatusState}
use Rattle.status_tablet.specs.Decisions.{IsUpRequest, Says}

plain_answer : (lease : ℕ) (h : History) (fails : Bool) (reading : ℕ) (asked : Request) → IsPlain asked
    → status_answer lease h fails reading asked ≡ status_standing (down_since h) (status_up lease h fails reading asked)
plain_answer lease h fails reading request.Restart plain = absurd plain
plain_answer lease h fails reading _ plain = refl

refused_changes : (asked : Request) (why : Refusal) (from : Actor) (x : ℕ) (r : Record) (ns : List ℕ) (sure : Bool)
    → kept_of r ns sure ≡ kept_of r (noted_after x ns (Serve from asked (reply.Refused why) None Nothing)) (sure_after x sure (Serve from asked (reply.Refused why) None Nothing))
refused_changes request.ListIntents why from x r ns sure = refl
refused_changes _ why from x r ns sure = refl

pub down_says : (since : ℕ) (s : StatusState) → s.log.down ≡ Some since → (reading : Option ℕ) (asked : Request) → IsUpRequest reading asked
    → Says s reading asked (record { decision = record { reply = reply.Refused (refusal.Down since); step = None; own = None }; mark = mark.Nothing })
down_says since s down reading asked fit = record {
  told = tt;
  decides = λ bytes faults h st. record {
    plain = fit.1;
    told = tt;
    fits = fit.2;
    says = λ fails. plain_answer s.log.clock.lease h fails (or_zero reading) asked fit.1
        ∙ ap (λ (d : Option ℕ). status_standing d (status_up s.log.clock.lease h fails (or_zero reading) asked)) (sym st.log.down ∙ down);
    step = tt;
    own = λ e. cc;
  };
  changes = λ from x r ns sure. refused_changes asked (refusal.Down since) from x r ns sure;
}
