-- The limits that a session knows were fixed, at each of its entries.
use Rattle.std.proofs.Common.{◌≡◌, ℕ, List, [], ◌∷◌, Option, Some, None, refl, sym, ◌∙◌, ap, subst, inl}
use Rattle.txn_data.specs.declared.actor.Actor.{Actor}
use Rattle.txn_data.specs.declared.actor.Actor.TheVariants.{Tablet, Status, Session, Applier}
use Rattle.txn_data.specs.declared.append.Append.{Append}
use Rattle.txn_data.specs.declared.command.Command.{Command}
use Rattle.txn_data.specs.declared.command.Command.TheVariants as command
use Rattle.txn_data.specs.declared.config.Config.{Config}
use Rattle.txn_data.specs.declared.found.Found.{Found}
use Rattle.txn_data.specs.declared.op.Op.{Op}
use Rattle.txn_data.specs.declared.op.Op.TheVariants as op
use Rattle.txn_data.specs.declared.place.Place.{Place}
use Rattle.txn_data.specs.declared.refusal.Refusal.{Refusal}
use Rattle.txn_data.specs.declared.refusal.Refusal.TheVariants as refusal
use Rattle.txn_data.specs.declared.tablet_limit.TabletLimit.{TabletLimit}
use Rattle.txn_data.specs.declared.request.Request.{Request}
use Rattle.txn_data.specs.declared.request.Request.TheVariants as request
use Rattle.txn_data.specs.declared.reply.Reply.{Reply}
use Rattle.txn_data.specs.declared.reply.Reply.TheVariants as reply
use Rattle.txn_data.specs.declared.told.Told.{Told}
use Rattle.txn_data.specs.declared.told.Told.TheVariants as told
use Rattle.txn_data.specs.declared.told_refusal.ToldRefusal.TheVariants as told_refusal
use Rattle.txn_data.specs.declared.event.Event.TheVariants.{Start, Ask, Serve, Hear, Tell}
use Rattle.txn_data.specs.declared.entry.Entry.{Entry}
use Rattle.txn_types.specs.History.{History, own}
use Rattle.txn_types.specs.Program.{Program, Done, Asks, Reads, with_reading, heard}
use Rattle.txn_types.specs.Reads.{open_txn}
use Rattle.txn_types.specs.Session.{Keeps, Opened, opens, after_write, after_end, after_read, opened_after}
use Rattle.txn_types.specs.Tablet.{local_limit}
use Rattle.txn_types.specs.Run.{Mover, mover_after, kept_after, limits_of, limits_after, Serves, Flight, Quiet, Asked, Answered, CanHear}
use Rattle.law_clocks.proofs.Answered.{list_answered}
use Rattle.law_messages.proofs.Rules.{entry}
use Rattle.law_courses.specs.Course.{IsPart}
use Rattle.law_local_limits.specs.Laws.{WasFixed, low_of}
use Rattle.law_local_limits.proofs.Programs.{On, LimitIsFixed, IsAskedSo, IsRepliedSo, Goes, goes_on, limits_on, no_limits, more_limits, OpenLimits, command_goes}
use Rattle.law_local_limits.proofs.Tables.{others_unlisted}

-- ## what is known

-- what a reply on its way answers
abbrev pub FlightIsSo : History → Actor → Option Opened → Program Told → Flight → Type 0
FlightIsSo h m o p Quiet = Unit {0}
FlightIsSo h m o p (Asked to asked) = Unit {0}
FlightIsSo h m o p (Answered by r) = (asked : Request) × ((next : Reply → Program Told) × (p ≡ Asks by asked next) × IsRepliedSo h m o by asked r)

-- the limits of the open transaction, those heard by now, what is left of the command, and the message on its way
pub record MoverIsSo (h : History) (m : Actor) (s : Mover) (f : Flight) : Type 0 where
  pub kept : OpenLimits h m s.keeps.opened (limits_of s.keeps.opened)
  pub known : OpenLimits h m s.keeps.opened s.limits
  pub rest : Goes m s.keeps.opened h s.rest
  pub flies : FlightIsSo h m s.keeps.opened s.rest f

reply_on : (m : Actor) (o : Option Opened) (h g : History) (to : Actor) (asked : Request) (r : Reply) → On m o h g → IsRepliedSo h m o to asked r → IsRepliedSo g m o to asked r
reply_on m o h g to (request.ListRead own_txn paths t end limit) (reply.Listed l others) on is = on to end l is
reply_on m o h g to asked (reply.Listed l others) on is = absurd is
reply_on m o h g to asked r on is = tt

pub flight_on : (m : Actor) (o : Option Opened) (h g : History) (p : Program Told) (f : Flight) → On m o h g → FlightIsSo h m o p f → FlightIsSo g m o p f
flight_on m o h g p Quiet on is = tt
flight_on m o h g p (Asked to asked) on is = tt
flight_on m o h g p (Answered by r) on is = (is.0, (is.1.0, is.1.1, reply_on m o h g by is.0 r on is.1.2))

open_on : (m : Actor) (h g : History) (o : Option Opened) (ls : List TabletLimit) → On m o h g → OpenLimits h m o ls → OpenLimits g m o ls
open_on m h g None ls on are = tt
open_on m h g (Some x) ls on are = limits_on m (Some x) h g x.g ls on are

-- a mover that does nothing
pub stays : (m : Actor) (h g : History) (s : Mover) (f : Flight) → On m s.keeps.opened h g → MoverIsSo h m s f → MoverIsSo g m s f
stays m h g s f on is = record {
  kept = open_on m h g s.keeps.opened (limits_of s.keeps.opened) on is.kept;
  known = open_on m h g s.keeps.opened s.limits on is.known;
  rest = goes_on m s.keeps.opened h g s.rest on is.rest;
  flies = flight_on m s.keeps.opened h g s.rest f on is.flies;
}

-- ## what it hears

refused_so : (h : History) (m : Actor) (o : Option Opened) (to : Actor) (asked : Request) (why : Refusal) → IsRepliedSo h m o to asked (reply.Refused why)
refused_so h m o to (request.ListRead own_txn paths t g limit) why = tt
refused_so h m o to asked why = tt

known_more : (h : History) (m : Actor) (o : Option Opened) (ls : List TabletLimit) (from : Actor) (asked : Request) (r : Reply) → IsAskedSo h m o from asked → IsRepliedSo h m o from asked r → OpenLimits h m o ls → OpenLimits h m o (limits_after ls from r)
known_more h m (Some x) ls (Tablet k) (request.ListRead own_txn paths t g limit) (reply.Listed l others) asked_is replied are =
    more_limits h m (Some x.meta.txn) x.g k l ls (subst (λ (n : ℕ). WasFixed h m (Tablet k) (Some x.meta.txn) n l) asked_is.1 replied) are
known_more h m (Some x) ls (Tablet k) asked (reply.Listed l others) asked_is replied are = absurd replied
known_more h m o ls from asked r asked_is replied are = are

-- the program after a reply to what it asks
heard_goes : (h : History) (m : Actor) (o : Option Opened) (p : Program Told) (by : Actor) (asked : Request) (next : Reply → Program Told) (r : Reply) → p ≡ Asks by asked next → IsRepliedSo h m o by asked r → Goes m o h p → Goes m o h (heard p r)
heard_goes h m o p by asked next r is replied goes =
    let asks : Goes m o h (Asks by asked next) = subst (λ (q : Program Told). Goes m o h q) is goes in
    subst (λ (q : Program Told). Goes m o h (heard q r)) (sym is) (asks.1 h (λ a g l was. was) r replied)

pub asked_of : (h : History) (m : Actor) (o : Option Opened) (p : Program Told) (by : Actor) (asked : Request) (next : Reply → Program Told) → p ≡ Asks by asked next → Goes m o h p → IsAskedSo h m o by asked
asked_of h m o p by asked next is goes = (subst (λ (q : Program Told). Goes m o h q) is goes).0

-- out of memory in place of an answer
lost_goes : (h : History) (m : Actor) (o : Option Opened) (p : Program Told) (why : Refusal) → Goes m o h p → Goes m o h (heard p (reply.Refused why))
lost_goes h m o (Done t) why goes = goes
lost_goes h m o (Reads given) why goes = goes
lost_goes h m o (Asks to asked next) why goes = goes.1 h (λ a g l was. was) (reply.Refused why) (refused_so h m o to asked why)

lost_limits : (ls : List TabletLimit) (from : Actor) (why : Refusal) → limits_after ls from (reply.Refused why) ≡ ls
lost_limits ls (Tablet k) why = refl
lost_limits ls (Status j) why = refl
lost_limits ls (Session i) why = refl
lost_limits ls (Applier k) why = refl

-- what is left, and the limits by then
record Heard (h : History) (m : Actor) (o : Option Opened) (p : Program Told) (ls : List TabletLimit) : Type 0 where
  pub goes : Goes m o h p
  pub limits : OpenLimits h m o ls

hears : (h : History) (m : Actor) (o : Option Opened) (p : Program Told) (ls : List TabletLimit) (f : Flight) (from : Actor) (r : Reply) → CanHear f from r → FlightIsSo h m o p f → Goes m o h p → OpenLimits h m o ls → Heard h m o (heard p r) (limits_after ls from r)
hears h m o p ls Quiet from r can flies goes are = absurd can
hears h m o p ls (Asked to asked) from r can flies goes are = subst (λ (q : Reply). Heard h m o (heard p q) (limits_after ls from q)) (sym can.1) (record {
  goes = lost_goes h m o p refusal.Memory goes;
  limits = subst (λ (l : List TabletLimit). OpenLimits h m o l) (sym (lost_limits ls from refusal.Memory)) are;
})
hears h m o p ls (Answered by answer) from r can flies goes are =
    let heard_it : Heard h m o (heard p answer) (limits_after ls by answer) = record {
      goes = heard_goes h m o p by flies.0 flies.1.0 answer flies.1.1 flies.1.2 goes;
      limits = known_more h m o ls by flies.0 answer (asked_of h m o p by flies.0 flies.1.0 flies.1.1 goes) flies.1.2 are;
    } in
    subst (λ (q : Reply). Heard h m o (heard p q) (limits_after ls from q)) (sym can.1) (subst (λ (b : Actor). Heard h m o (heard p answer) (limits_after ls b answer)) can.0 heard_it)

with_goes : (h : History) (m : Actor) (o : Option Opened) (p : Program Told) (reading : Option ℕ) → Goes m o h p → Goes m o h (with_reading p reading)
with_goes h m o (Done t) reading goes = goes
with_goes h m o (Asks to asked next) reading goes = goes
with_goes h m o (Reads given) None goes = goes
with_goes h m o (Reads given) (Some r) goes = goes h (λ a g l was. was) r

-- ## what it keeps

abbrev KeptLimits : History → Actor → Option Opened → Type 0
KeptLimits h m o = OpenLimits h m o (limits_of o)

opens_limits : (config : Config) (h : History) (m : Actor) (i : ℕ) (s : Keeps) (priority : ℕ) (reading : Option ℕ) (t : Told) → KeptLimits h m (opens config i s priority reading t)
opens_limits config h m i s priority (Some r) (told.Began y at) = no_limits h m _ _
opens_limits config h m i s priority reading t = tt

write_limits : (h : History) (m : Actor) (x : Opened) (place : Place) (w : Op) (t : Told) → KeptLimits h m (Some x) → KeptLimits h m (after_write x place w t)
write_limits h m x place w (told.Written at) are = are
write_limits h m x place w (told.Refused (told_refusal.Conflict other)) are = tt
write_limits h m x place w (told.Refused (told_refusal.Overlap at)) are = tt
write_limits h m x place w (told.Refused (told_refusal.LogFault actor)) are = tt
write_limits h m x place w t are = are

end_limits : (h : History) (m : Actor) (x : Opened) (t : Told) → KeptLimits h m (Some x) → KeptLimits h m (after_end x t)
end_limits h m x (told.Committed y at) are = tt
end_limits h m x (told.Ended y) are = tt
end_limits h m x (told.Refused (told_refusal.Aborted by)) are = tt
end_limits h m x (told.Refused (told_refusal.LogFault actor)) are = are
end_limits h m x t are = are

read_limits : (h : History) (m : Actor) (x : Opened) (limits : List TabletLimit) (t : Told) → OpenLimits h m (Some x) limits → KeptLimits h m (after_read x limits t)
read_limits h m x limits (told.Values at restarts rows) are = are
read_limits h m x limits t are = are

opened_limits : (config : Config) (h : History) (m : Actor) (i : ℕ) (s : Keeps) (line : Command) (reading : Option ℕ) (limits : List TabletLimit) (t : Told) (o : Option Opened) → KeptLimits h m o → OpenLimits h m o limits →
    KeptLimits h m (opened_after config i s line reading limits t o)
opened_limits config h m i s (command.Begin priority) reading limits t None kept known = opens_limits config h m i s priority reading t
opened_limits config h m i s line reading limits t None kept known = tt
opened_limits config h m i s (command.Put place v) reading limits t (Some x) kept known = write_limits h m x place (op.Put v) t kept
opened_limits config h m i s (command.Del place) reading limits t (Some x) kept known = write_limits h m x place op.Delete t kept
opened_limits config h m i s command.Commit reading limits t (Some x) kept known = end_limits h m x t kept
opened_limits config h m i s command.Abort reading limits t (Some x) kept known = end_limits h m x t kept
opened_limits config h m i s command.End reading limits t (Some x) kept known = end_limits h m x t kept
opened_limits config h m i s (command.Read strict places) reading limits t (Some x) kept known = read_limits h m x limits t known
opened_limits config h m i s (command.Scan strict place) reading limits t (Some x) kept known = read_limits h m x limits t known
opened_limits config h m i s line reading limits t (Some x) kept known = kept

told_limits : (config : Config) (h : History) (i : ℕ) (s : Mover) (line : Option Command) (t : Told) (f : Flight) → MoverIsSo h (Session i) s f → KeptLimits h (Session i) (kept_after config (Session i) s line t).opened
told_limits config h i s None t f is = is.kept
told_limits config h i s (Some line) t f is = opened_limits config h (Session i) i s.keeps line s.reading s.limits t s.keeps.opened is.kept is.known

none_known : (h : History) (m : Actor) (o : Option Opened) → OpenLimits h m o []
none_known h m None = tt
none_known h m (Some x) = no_limits h m (Some x.meta.txn) x.g

-- ## one more entry of its own

pub starts : (config : Config) (h : History) (i number : ℕ) (line : Command) (reading : Option ℕ) (s : Mover) → KeptLimits h (Session i) s.keeps.opened → MoverIsSo h (Session i) (mover_after config (Session i) s reading (Start number line)) Quiet
starts config h i number line reading s kept = record { kept = kept; known = kept; rest = command_goes config h (Session i) i s.keeps line kept; flies = tt }

pub asks : (config : Config) (h : History) (i : ℕ) (reading : Option ℕ) (s : Mover) (f : Flight) (to : Actor) (asked : Request) → MoverIsSo h (Session i) s f → MoverIsSo h (Session i) (mover_after config (Session i) s reading (Ask to asked)) (Asked to asked)
asks config h i reading s f to asked is = record { kept = is.kept; known = is.known; rest = with_goes h (Session i) s.keeps.opened s.rest reading is.rest; flies = tt }

pub hears_reply : (config : Config) (h : History) (i : ℕ) (reading : Option ℕ) (s : Mover) (f : Flight) (from : Actor) (r : Reply) → CanHear f from r → MoverIsSo h (Session i) s f → MoverIsSo h (Session i) (mover_after config (Session i) s reading (Hear from r)) Quiet
hears_reply config h i reading s f from r can is =
    let now = hears h (Session i) s.keeps.opened s.rest s.limits f from r can is.flies is.rest is.known in
    record { kept = is.kept; known = now.limits; rest = now.goes; flies = tt }

pub tells : (config : Config) (h : History) (i : ℕ) (reading : Option ℕ) (s : Mover) (f : Flight) (number : ℕ) (t : Told) → MoverIsSo h (Session i) s f → MoverIsSo h (Session i) (mover_after config (Session i) s reading (Tell number t)) Quiet
tells config h i reading s f number t is =
    let o = (kept_after config (Session i) s s.line t).opened in
    record { kept = told_limits config h i s s.line t f is; known = none_known h (Session i) o; rest = tt; flies = tt }

-- ## what a machine replies

-- what is replied is so, where what was asked was
abbrev answer_entry : Actor → Option ℕ → Actor → Request → Reply → Option ℕ → Append → Entry
answer_entry a reading m asked r time append = entry a reading (Serve m asked r time append)

listed_limit : (limit : Option ℕ) (now g l : ℕ) (P : ℕ → Type 0) → l ≡ local_limit limit now g → (limit ≡ None → P l) → ((known : ℕ) → limit ≡ Some known → P known) → P l
listed_limit None now g l P is new old = new refl
listed_limit (Some known) now g l P is new old = subst P (sym is) (old known refl)

same_listed : (own_txn : Option ℕ) (l k : ℕ) (xs ys : List Found) → reply.Listed l xs ≡ reply.Listed k ys → l ≡ k
same_listed own_txn l k xs ys is = cc

pub replied_so : (lease : ℕ) (h : History) (m a : Actor) (op : Option Opened) (reading : Option ℕ) (asked : Request) (r : Reply) (time : Option ℕ) (append : Append) → On m op h (answer_entry a reading m asked r time append ∷ h) → IsPart (low_of m (answer_entry a reading m asked r time append ∷ h) (open_txn op)) h →
    Serves lease a (own a h) reading asked r time append → IsAskedSo h m op a asked → IsRepliedSo (answer_entry a reading m asked r time append ∷ h) m op a asked r
replied_so lease h m a op reading (request.ListRead own_txn paths t g limit) (reply.Listed l others) time append on low served is =
    let e = answer_entry a reading m (request.ListRead own_txn paths t g limit) (reply.Listed l others) time append in
    let was = list_answered lease a (own a h) reading own_txn paths t g limit (reply.Listed l others) time append served tt in
    listed_limit limit was.now g l (λ (n : ℕ). WasFixed (e ∷ h) m a (open_txn op) g n) (same_listed own_txn l (local_limit limit was.now g) others _ was.reply)
    (λ none. record {
      paths = paths;
      t = t;
      others = others;
      reading = reading;
      now = was.now;
      append = append;
      before = h;
      stands = inl (
        ap (λ (p : Option ℕ). entry a reading (Serve m (request.ListRead own_txn paths t g p) (reply.Listed l others) time append)) none
            ∙ (ap (λ (p : Option ℕ). entry a reading (Serve m (request.ListRead p paths t g None) (reply.Listed l others) time append)) is.0
            ∙ ap (λ (p : Option ℕ). entry a reading (Serve m (request.ListRead (open_txn op) paths t g None) (reply.Listed l others) p append)) was.time),
        refl,
      );
      later = low;
    })
    (λ known some. on a g known (subst (λ (p : Option ℕ). LimitIsFixed h m a (open_txn op) g p) some is.2))
replied_so lease h m a op reading asked (reply.Listed l others) time append on low served is = absurd (others_unlisted lease a (own a h) reading asked (reply.Listed l others) time append served tt)
replied_so lease h m a op reading asked r time append on low served is = tt
