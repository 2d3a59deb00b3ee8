-- What the simulation makes of a script is a run, where the test of what it leaves open is passed.
use Rattle.std.proofs.Common.{◌≡◌, ℕ, zero, suc, Bool, true, false, ◌&&◌, List, [], ◌∷◌, Option, Some, None, refl, inl}
use Rattle.std.proofs.lemmas.Bool.{and_parts}
use Rattle.txn_data.specs.Time.{takes_time}
use Rattle.txn_data.specs.declared.actor.Actor.{Actor}
use Rattle.txn_data.specs.declared.command.Command.{Command}
use Rattle.txn_data.specs.declared.commands.Commands.{Commands}
use Rattle.txn_data.specs.declared.config.Config.{Config}
use Rattle.txn_data.specs.declared.event.Event.{Event}
use Rattle.txn_data.specs.declared.event.Event.TheVariants.{Hear}
use Rattle.txn_data.specs.declared.request.Request.{Request}
use Rattle.txn_data.specs.declared.request.Request.TheVariants as request
use Rattle.txn_data.specs.declared.told.Told.{Told}
use Rattle.txn_types.specs.Clock.{has_failed}
use Rattle.txn_types.specs.History.{History, own}
use Rattle.txn_types.specs.Program as program
use Rattle.txn_types.specs.Program.{Turn, turn_with}
use Rattle.txn_types.specs.Run.{Flight, Quiet, Asked, Answered, mover_at, flight, IsUnderWay, CanKeep, ReadingFits, Allowed, Steps, Run}
use Rattle.txn_types.specs.Script.{reading_of, node_of}
use Rattle.worked_cases.specs.Simulated.{Fault, no_fault, entry, fails_now, reading_for, serve, turned, next_turn, move_in, move, moved, start, all_done, next_line, lines_left, start_any, event, events, by_turns}
use Rattle.law_witness.proofs.Fits.{machine, is_cluster, cluster_fits, start_allowed, entry_fits, entries_fit}

-- where the test is passed, each entry is allowed
abbrev Sound : Config → History → Type 0
Sound config h = entries_fit config h ≡ true → Steps config h

nothing : (config : Config) → Sound config []
unfolding Steps
nothing config is = tt

-- one more entry, which is allowed if the test says so of it
one_more : (config : Config) (h : History) (a : Actor) (reading : Option ℕ) (e : Event) →
    (entry_fits config h a e ≡ true → Allowed config h a reading e) → Sound config h → Sound config (entry a reading e ∷ h)
unfolding Steps
one_more config h a reading e allowed before is =
    let parts = and_parts (entries_fit config h) (entry_fits config h a e) is in (before parts.0, allowed parts.1)

start_sound : (config : Config) (a : Actor) (line : Command) (h : History) → Sound config h → Sound config (start config a line h)
start_sound config a line h =
    one_more config h a None _ (λ fits.
    let may = start_allowed config a (mover_at config a h) line fits in (may.0, refl, refl, may.1))

reading_fits : (config : Config) (a : Actor) (h : History) (takes : Bool) → ReadingFits takes (reading_for config a h takes)
reading_fits config a h true = tt
reading_fits config a h false = refl

keeps_if : (h : History) (failed : Bool) → has_failed h ≡ failed → CanKeep failed h
keeps_if h false is = tt
keeps_if h true is = is

can_keep : (kept : Bool) (h : History) → CanKeep (kept && has_failed h) h
can_keep false h = tt
can_keep true h = keeps_if h (has_failed h) refl

serve_sound : (config : Config) (f : Fault) (to a : Actor) (asked : Request) (h : History) → flight a h ≡ Asked to asked →
    Sound config h → Sound config (serve config f to a asked h)
serve_sound config f to a request.Restart h sent =
    one_more config h to None _ (λ fits. (machine config to fits, sent, refl, can_keep f.kept (own to h)))
serve_sound config f to a asked h sent =
    one_more config h to _ _ (λ fits. (
      machine config to fits,
      sent,
      record {
        fails = fails_now f to h;
        fits = reading_fits config to h (takes_time asked);
        replied = refl;
        took = refl;
        logged = refl;
      },
    ))

turned_sound : (config : Config) (a : Actor) (h : History) (reading : Option ℕ) (t : Turn Told) → IsUnderWay (mover_at config a h).line →
    flight a h ≡ Quiet → turn_with (mover_at config a h).rest reading ≡ t → Sound config h →
    Sound config (turned config a reading (mover_at config a h).commands t h)
turned_sound config a h reading (program.Ask to asked) under quiet is before =
    one_more config h a reading _ (λ fits. (under, quiet, is)) before
turned_sound config a h reading (program.Tell t) under quiet is before =
    one_more config h a reading _ (λ fits. (under, quiet, refl, inl is)) before
turned_sound config a h reading program.Reading under quiet is before = before

next_turn_sound : (config : Config) (a : Actor) (h : History) (t : Turn Told) → IsUnderWay (mover_at config a h).line → flight a h ≡ Quiet →
    turn_with (mover_at config a h).rest None ≡ t → Sound config h → Sound config (next_turn config a (mover_at config a h) h t)
next_turn_sound config a h program.Reading under quiet is =
    turned_sound config a h (Some (reading_of config (node_of config a) h)) _ under quiet refl
next_turn_sound config a h (program.Ask to asked) under quiet is = turned_sound config a h None _ under quiet is
next_turn_sound config a h (program.Tell t) under quiet is = turned_sound config a h None _ under quiet is

move_in_sound : (config : Config) (f : Fault) (a : Actor) (h : History) (message : Flight) → IsUnderWay (mover_at config a h).line →
    flight a h ≡ message → Sound config h → Sound config (move_in config f a h message)
move_in_sound config f a h (Asked to asked) under is = serve_sound config f to a asked h is
move_in_sound config f a h (Answered from r) under is =
    one_more config h a None (Hear from r) (λ fits. (refl, rw is (refl, refl)))
move_in_sound config f a h Quiet under is = next_turn_sound config a h _ under is refl

move_sound : (config : Config) (f : Fault) (a : Actor) (h : History) → IsUnderWay (mover_at config a h).line → Sound config h →
    Sound config (move config f a h)
move_sound config f a h under = move_in_sound config f a h (flight a h) under refl

under_way : {found : Option Command} {line : Command} → found ≡ Some line → IsUnderWay found
under_way is = rw is tt

-- it goes on while its command is under way
while_under_way : (config : Config) (f : Fault) (a : Actor) (n : ℕ) (h : History) (found : Option Command) →
    (mover_at config a h).line ≡ found → (Sound config (move config f a h) → Sound config (moved config f a n (move config f a h))) →
    Sound config h → Sound config (elim found [ Some line ↦ moved config f a n (move config f a h) | None ↦ h ])
while_under_way config f a n h (Some line) is more before = more (move_sound config f a h (under_way is) before)
while_under_way config f a n h None is more before = before

moved_sound : (config : Config) (f : Fault) (a : Actor) (n : ℕ) (h : History) → Sound config h → Sound config (moved config f a n h)
moved_sound config f a zero h before = before
moved_sound config f a (suc n) h before =
    while_under_way config f a n h (mover_at config a h).line refl (moved_sound config f a n (move config f a h)) before

all_done_sound : (config : Config) (f : Fault) (cs : List (Actor × Command)) (h : History) → Sound config h → Sound config (all_done config f cs h)
all_done_sound config f [] h before = before
all_done_sound config f (c ∷ cs) h before =
    let begun = start_sound config c.0 c.1 h before in
    all_done_sound config f cs _ (moved_sound config f c.0 200 (start config c.0 c.1 h) begun)

-- the commands of a script, one after another
pub done_is_run : (config : Config) (f : Fault) (cs : List (Actor × Command)) → is_cluster config ≡ true →
    entries_fit config (all_done config f cs []) ≡ true → Run config (all_done config f cs [])
done_is_run config f cs cluster fit = (cluster_fits config cluster, all_done_sound config f cs [] (nothing config) fit)

-- movers by turns

started_sound : (config : Config) (a : Actor) (h : History) (line : Option Command) → Sound config h → Sound config (start_any config a line h)
started_sound config a h (Some line) before = start_sound config a line h before
started_sound config a h None before = before

event_in : (config : Config) (plan : Commands) (a : Actor) (h : History) (found : Option Command) → (mover_at config a h).line ≡ found →
    Sound config h →
    Sound config (elim found [
      | Some line ↦ move config no_fault a h
      | None ↦ start_any config a (next_line (mover_at config a h).keeps.opened (lines_left plan a h)) h
    ])
event_in config plan a h (Some line) is before = move_sound config no_fault a h (under_way is) before
event_in config plan a h None is before = started_sound config a h _ before

events_sound : (config : Config) (plan : Commands) (a : Actor) (n : ℕ) (h : History) → Sound config h → Sound config (events config plan a n h)
events_sound config plan a zero h before = before
events_sound config plan a (suc n) h before =
    let next : Sound config (event config plan a h) = event_in config plan a h (mover_at config a h).line refl before in
    events_sound config plan a n (event config plan a h) next

turns_sound : (config : Config) (plan : Commands) (ts : List (Actor × ℕ)) (h : History) → Sound config h → Sound config (by_turns config plan ts h)
turns_sound config plan [] h before = before
turns_sound config plan (t ∷ ts) h before =
    turns_sound config plan ts _ (events_sound config plan t.0 t.1 h before)

-- the movers of a plan, as often as each of the turns says
pub turns_are_run : (config : Config) (plan : Commands) (ts : List (Actor × ℕ)) → is_cluster config ≡ true →
    entries_fit config (by_turns config plan ts []) ≡ true → Run config (by_turns config plan ts [])
turns_are_run config plan ts cluster fit = (cluster_fits config cluster, turns_sound config plan ts [] (nothing config) fit)
