-- Each listing read that a program asks gives only limits that it knows to be fixed.
use Rattle.std.proofs.Common.{◌≡◌, ℕ, Bool, true, false, ◌||◌, List, [], ◌∷◌, ◌++◌, Option, Some, None, Result, Ok, Err, max, nat_eq, if◌then◌else◌, length, refl, subst, inl, inr, ◌⊎◌}
use Rattle.hybrid_time.specs.Time.{least_time, limit_time}
use Rattle.hybrid_time.specs.declared.time_refusal.TimeRefusal.{TimeRefusal}
use Rattle.txn_data.specs.declared.actor.Actor.{Actor}
use Rattle.txn_data.specs.declared.actor.Actor.TheVariants.{Tablet}
use Rattle.txn_data.specs.declared.command.Command.{Command}
use Rattle.txn_data.specs.declared.command.Command.TheVariants as command
use Rattle.txn_data.specs.declared.config.Config.{Config}
use Rattle.txn_data.specs.declared.fate_of.FateOf.{FateOf}
use Rattle.txn_data.specs.declared.found.Found.{Found}
use Rattle.txn_data.specs.declared.meta.Meta.{Meta}
use Rattle.txn_data.specs.declared.op.Op.{Op}
use Rattle.txn_data.specs.declared.op.Op.TheVariants as op
use Rattle.txn_data.specs.declared.place.Place.{Place}
use Rattle.txn_data.specs.declared.read_end.ReadEnd.{ReadEnd}
use Rattle.txn_data.specs.declared.read_kind.ReadKind.{ReadKind}
use Rattle.txn_data.specs.declared.read_kind.ReadKind.TheVariants.{Get, Scan}
use Rattle.txn_data.specs.declared.read_what.ReadWhat.{ReadWhat}
use Rattle.txn_data.specs.declared.read_what.ReadWhat.TheVariants as what
use Rattle.txn_data.specs.declared.tablet_limit.TabletLimit.{TabletLimit}
use Rattle.txn_data.specs.declared.txn_step.TxnStep.TheVariants as step
use Rattle.txn_data.specs.declared.written.Written.{Written}
use Rattle.txn_data.specs.declared.request.Request.{Request}
use Rattle.txn_data.specs.declared.request.Request.TheVariants as request
use Rattle.txn_data.specs.declared.reply.Reply.{Reply}
use Rattle.txn_data.specs.declared.reply.Reply.TheVariants as reply
use Rattle.txn_data.specs.declared.told.Told.{Told}
use Rattle.txn_data.specs.declared.told_refusal.ToldRefusal.{ToldRefusal}
use Rattle.txn_data.specs.declared.told_refusal.ToldRefusal.TheVariants as told_refusal
use Rattle.txn_types.specs.History.{History}
use Rattle.txn_types.specs.Program.{Program, Done, Asks, Reads, then_do, refusal_told}
use Rattle.txn_types.specs.ReadProgram.{Progress, tablets_of, limit_of, with_limit, ask_fates, visit, with_tablet_rows, read_done, round_two, restarted, met_then, round_one, read_program}
use Rattle.txn_types.specs.ReadProgram.{Asked as Query}
use Rattle.txn_types.specs.Reads.{open_txn}
use Rattle.txn_types.specs.TxnProgram.{refused, write_refused, txn_program}
use Rattle.txn_types.specs.PassProgram.{pass_program}
use Rattle.txn_types.specs.Session.{Keeps, Opened, next_meta, timed_then, begin_program, read_told, read_at, read_inside, read_command, has_writes, writes_of, write_command, commit_command, abort_command, if_closed, restart_program, command_program}
use Rattle.txn_types.specs.Run.{limits_of}
use Rattle.law_machines.proofs.Basics.{eq_true}
use Rattle.law_messages.proofs.Shapes.{Always, OfPasses, OfFinding, pass_always, find_always, one_next, two_next}
use Rattle.law_local_limits.specs.Laws.{WasFixed}

-- ## what is asked and heard

-- what was fixed for the transaction that is open stays so
abbrev pub On : Actor → Option Opened → History → History → Type 0
On m o h f = (a : Actor) (g l : ℕ) → WasFixed h m a (open_txn o) g l → WasFixed f m a (open_txn o) g l

pub on_trans : (m : Actor) (o : Option Opened) (h f k : History) → On m o h f → On m o f k → On m o h k
on_trans m o h f k one two = λ a g l was. two a g l (one a g l was)

-- inside a transaction the window is its own
abbrev pub HasEnd : Option Opened → ℕ → Type 0
HasEnd None g = Unit {0}
HasEnd (Some x) g = g ≡ x.g

abbrev pub LimitIsFixed : History → Actor → Actor → Option ℕ → ℕ → Option ℕ → Type 0
LimitIsFixed h m a own_txn g None = Unit {0}
LimitIsFixed h m a own_txn g (Some l) = WasFixed h m a own_txn g l

abbrev pub IsAskedSo : History → Actor → Option Opened → Actor → Request → Type 0
IsAskedSo h m o to (request.ListRead own_txn paths t g limit) = (own_txn ≡ open_txn o) × HasEnd o g × LimitIsFixed h m to (open_txn o) g limit
IsAskedSo h m o to asked = Unit {0}

abbrev pub IsRepliedSo : History → Actor → Option Opened → Actor → Request → Reply → Type 0
IsRepliedSo h m o to (request.ListRead own_txn paths t g limit) (reply.Listed l others) = WasFixed h m to (open_txn o) g l
IsRepliedSo h m o to asked (reply.Listed l others) = ⊥
IsRepliedSo h m o to asked r = Unit {0}

-- each listing read that is asked is so, whatever is replied so
abbrev pub Goes : {A : Type 0} → Actor → Option Opened → History → Program A → Type 0
Goes m o h (Done a) = Unit {0}
Goes m o h (Asks to asked next) = IsAskedSo h m o to asked × ((f : History) → On m o h f → (r : Reply) → IsRepliedSo f m o to asked r → Goes m o f (next r))
Goes m o h (Reads given) = (f : History) → On m o h f → (reading : ℕ) → Goes m o f (given reading)

limit_on : (m : Actor) (o : Option Opened) (h f : History) (a : Actor) (g : ℕ) (limit : Option ℕ) → On m o h f → LimitIsFixed h m a (open_txn o) g limit → LimitIsFixed f m a (open_txn o) g limit
limit_on m o h f a g None on is = tt
limit_on m o h f a g (Some l) on is = on a g l is

pub asked_on : (m : Actor) (o : Option Opened) (h f : History) (to : Actor) (asked : Request) → On m o h f → IsAskedSo h m o to asked → IsAskedSo f m o to asked
asked_on m o h f to (request.ListRead own_txn paths t g limit) on is = (is.0, is.1, limit_on m o h f to g limit on is.2)
asked_on m o h f to asked on is = tt

pub goes_on : {A : Type 0} (m : Actor) (o : Option Opened) (h f : History) (p : Program A) → On m o h f → Goes m o h p → Goes m o f p
goes_on m o h f (Done a) on goes = tt
goes_on m o h f (Asks to asked next) on goes = (asked_on m o h f to asked on goes.0, λ k more. goes.1 k (on_trans m o h f k on more))
goes_on m o h f (Reads given) on goes = λ k more. goes k (on_trans m o h f k on more)

then_goes : {A B : Type 0} (m : Actor) (o : Option Opened) (h : History) (p : Program A) (next : A → Program B) → Goes m o h p → ((f : History) (a : A) → Goes m o f (next a)) → Goes m o h (then_do p next)
unfolding then_do
then_goes m o h (Done a) next first rest = rest h a
then_goes m o h (Asks to asked heard) next first rest = (first.0, λ f on r is. then_goes m o f (heard r) next (first.1 f on r is) rest)
then_goes m o h (Reads given) next first rest = λ f on reading. then_goes m o f (given reading) next (first f on reading) rest

-- ## what lists nothing

abbrev pub NoListing : Request → Type 0
NoListing (request.ListRead own_txn paths t g limit) = ⊥
NoListing asked = Unit {0}

none_asked : (h : History) (m : Actor) (o : Option Opened) (to : Actor) (asked : Request) → NoListing asked → IsAskedSo h m o to asked
none_asked h m o to (request.ListRead own_txn paths t g limit) none = absurd none
none_asked h m o to asked none = tt

always_goes : {A : Type 0} (m : Actor) (o : Option Opened) (h : History) (p : Program A) → Always NoListing p → Goes m o h p
always_goes m o h (Done a) none = tt
always_goes m o h (Asks to asked next) none = (none_asked h m o to asked none.0, λ f on r is. always_goes m o f (next r) (none.1 r))
always_goes m o h (Reads given) none = λ f on reading. always_goes m o f (given reading) (none reading)

of_passes : OfPasses NoListing
of_passes = record { lists = tt; asks = λ x t. tt; applies = λ x at. tt; cleans = λ x. tt; notes = λ x tablet. tt }

of_finding : OfFinding NoListing
of_finding = record { lists = λ x path. tt; resolves = λ x by priority. tt }

pub pass_none : (k : ℕ) → Always NoListing (pass_program k)
pass_none k = pass_always NoListing of_passes k

stop_none : (meta : Meta) (why : ToldRefusal) → Always NoListing (write_refused meta why)
stop_none meta (told_refusal.Conflict other) = (tt, λ r. tt)
stop_none meta (told_refusal.Overlap at) = (tt, λ r. tt)
stop_none meta (told_refusal.LogFault actor) = (tt, λ r. tt)
stop_none meta why = tt

put_none : (meta : Meta) (number : ℕ) (place : Place) (w : Op) (read seen : ℕ) → Always NoListing (txn_program (step.Write meta number place w read seen))
put_none meta number place w read seen = find_always NoListing of_finding meta place (write_refused meta) _ (λ why. stop_none meta why)
    (λ fates. (tt, elim [ reply.Written at ↦ tt | reply.Refused why ↦ stop_none meta (refusal_told (Tablet place.tablet) why) | _ ↦ tt ]))

write_none : (s : Keeps) (place : Place) (w : Op) (opened : Option Opened) → Always NoListing (write_command s place w opened)
write_none s place w None = tt
write_none s place w (Some x) = doubt_none x.in_doubt
  where
    doubt_none : (b : Bool) → Always NoListing (if b then refused told_refusal.InDoubt else txn_program (step.Write x.meta (length x.writes) place w x.r s.last))
    doubt_none true = tt
    doubt_none false = put_none x.meta (length x.writes) place w x.r s.last

single_none : (config : Config) (i : ℕ) (s : Keeps) (priority : ℕ) (place : Place) (w : Op) (opened : Option Opened) → Always NoListing (if_closed opened (txn_program (step.Single (next_meta config i s priority) place w s.last)))
single_none config i s priority place w (Some x) = tt
single_none config i s priority place w None = find_always NoListing of_finding (next_meta config i s priority) place refused _ (λ why. tt)
    (λ fates. (tt, elim [ reply.SingleDone at ↦ tt | reply.Refused why ↦ tt | _ ↦ tt ]))

timed_none : (i reading : ℕ) (next : ℕ → Program Told) (time : Result ℕ TimeRefusal) → ((now : ℕ) → Always NoListing (next now)) → Always NoListing (timed_then i reading next time)
timed_none i reading next (Ok now) goes = goes now
timed_none i reading next (Err why) goes = tt

begin_none : (config : Config) (i : ℕ) (s : Keeps) (priority : ℕ) (opened : Option Opened) → Always NoListing (if_closed opened (begin_program config i s priority))
begin_none config i s priority (Some x) = tt
begin_none config i s priority None = λ reading. timed_none i reading (λ now. txn_program (step.Begin (next_meta config i s priority) now)) (least_time s.last 0 reading)
    (λ now. (tt, elim [ reply.Begun ↦ tt | reply.Refused why ↦ tt | _ ↦ tt ]))

commit_none : (s : Keeps) (opened : Option Opened) → Always NoListing (commit_command s opened)
commit_none s None = tt
commit_none s (Some x) = (tt, elim [ reply.Committed at ↦ tt | reply.AbortedBy by ↦ tt | reply.Gone ↦ tt | reply.Refused why ↦ tt | _ ↦ tt ])

abort_none : (opened : Option Opened) → Always NoListing (abort_command opened)
abort_none None = tt
abort_none (Some x) = (tt, elim [ reply.Ended ↦ tt | reply.Committed at ↦ tt | reply.Refused why ↦ tt | _ ↦ tt ])

restart_none : (a : Actor) → Always NoListing (restart_program a)
restart_none a = (tt, elim [ reply.Restarted k ↦ tt | reply.Refused why ↦ tt | _ ↦ tt ])

-- ## limits that are known

-- each of these was fixed by its tablet
abbrev pub LimitsAreFixed : History → Actor → Option ℕ → ℕ → List TabletLimit → Type 0
LimitsAreFixed h m own_txn g ls = (k l : ℕ) → limit_of k ls ≡ Some l → WasFixed h m (Tablet k) own_txn g l

pub limits_on : (m : Actor) (o : Option Opened) (h f : History) (g : ℕ) (ls : List TabletLimit) → On m o h f → LimitsAreFixed h m (open_txn o) g ls → LimitsAreFixed f m (open_txn o) g ls
limits_on m o h f g ls on are = λ k l is. on (Tablet k) g l (are k l is)

pub no_limits : (h : History) (m : Actor) (own_txn : Option ℕ) (g : ℕ) → LimitsAreFixed h m own_txn g []
unfolding limit_of
no_limits h m own_txn g k l is = cc

last_choice : (b : Bool) (k j limit l : ℕ) (o : Option ℕ) → nat_eq k j ≡ b → (if b then Some limit else None) ≡ Some l → (k ≡ j) × (limit ≡ l)
last_choice true k j limit l o same is = let e : limit ≡ l = cc in (eq_true k j same, e)
last_choice false k j limit l o same is = cc

more_choice : (b : Bool) (limit : ℕ) (rest all : Option ℕ) (l : ℕ) (P : Type 0) → (all ≡ Some l → (rest ≡ Some l) ⊎ P) → (if b then Some limit else all) ≡ Some l → ((if b then Some limit else rest) ≡ Some l) ⊎ P
more_choice true limit rest all l P goes is = inl is
more_choice false limit rest all l P goes is = goes is

limit_append : (j k limit l : ℕ) (ls : List TabletLimit) → limit_of j (ls ++ (record { tablet = k; limit = limit }) ∷ []) ≡ Some l → (limit_of j ls ≡ Some l) ⊎ ((k ≡ j) × (limit ≡ l))
unfolding limit_of
limit_append j k limit l [] is = inr (last_choice (nat_eq k j) k j limit l None refl is)
limit_append j k limit l (t ∷ ls) is = more_choice (nat_eq t.tablet j) t.limit (limit_of j ls) (limit_of j (ls ++ (record { tablet = k; limit = limit }) ∷ [])) l ((k ≡ j) × (limit ≡ l)) (limit_append j k limit l ls) is

limit_choice : (o : Option ℕ) (j k limit l : ℕ) (ls : List TabletLimit) → limit_of j (elim o [ Some known ↦ ls | None ↦ ls ++ (record { tablet = k; limit = limit }) ∷ [] ]) ≡ Some l → (limit_of j ls ≡ Some l) ⊎ ((k ≡ j) × (limit ≡ l))
limit_choice (Some known) j k limit l ls is = inl is
limit_choice None j k limit l ls is = limit_append j k limit l ls is

pub more_limits : (h : History) (m : Actor) (own_txn : Option ℕ) (g k limit : ℕ) (ls : List TabletLimit) → WasFixed h m (Tablet k) own_txn g limit → LimitsAreFixed h m own_txn g ls → LimitsAreFixed h m own_txn g (with_limit k limit ls)
more_limits h m own_txn g k limit ls was are = λ j l is. elim (limit_choice (limit_of k ls) j k limit l ls is) [
  | inl old ↦ are j l old
  | inr new ↦ subst (λ (n : ℕ). WasFixed h m (Tablet n) own_txn g l) new.0 (subst (λ (n : ℕ). WasFixed h m (Tablet k) own_txn g n) new.1 was)
]

-- ## reads

known_limit : (h : History) (m a : Actor) (own_txn : Option ℕ) (g : ℕ) (o : Option ℕ) → ((l : ℕ) → o ≡ Some l → WasFixed h m a own_txn g l) → LimitIsFixed h m a own_txn g o
known_limit h m a own_txn g None are = tt
known_limit h m a own_txn g (Some l) are = are l refl

-- a read for the open transaction, with its window
record IsFor (o : Option Opened) (a : Query) : Type 0 where
  pub own_is : a.own_txn ≡ open_txn o
  pub end_is : HasEnd o a.g

fates_goes : (m : Actor) (o : Option Opened) (h : History) (s : Progress) (fs : List Found) (fates : List FateOf) (next : List FateOf → Program ReadEnd) → ((f : History) → On m o h f → (found : List FateOf) → Goes m o f (next found)) →
    Goes m o h (ask_fates s fs fates next)
unfolding ask_fates
fates_goes m o h s [] fates next goes = goes h (λ a g l was. was) fates
fates_goes m o h s (x ∷ fs) fates next goes = (
  tt,
  λ f on. elim [
    | reply.FateIs heard ↦ λ is. fates_goes m o f s fs _ next (λ k more. goes k (on_trans m o h f k on more))
    | reply.Refused why ↦ λ is. tt
    | _ ↦ λ is. tt
  ],
)

visit_goes : (m : Actor) (o : Option Opened) (h : History) (a : Query) (s : Progress) (windowed : Bool) (k : ℕ) (next : Progress → Reply → Program ReadEnd) → IsFor o a → LimitsAreFixed h m (open_txn o) a.g s.limits →
    ((f : History) (seen : Progress) (r : Reply) → LimitsAreFixed f m (open_txn o) a.g seen.limits → Goes m o f (next seen r)) → Goes m o h (visit a s windowed k next)
visit_goes m o h a s windowed k next is_for are goes = (
  (is_for.own_is, is_for.end_is, known_limit h m (Tablet k) (open_txn o) a.g (limit_of k s.limits) (are k)),
  λ f on. elim [
    | reply.Listed limit others ↦ λ was.
        let now : LimitsAreFixed f m (open_txn o) a.g (with_limit k limit s.limits) = more_limits f m (open_txn o) a.g k limit s.limits was (limits_on m o h f a.g s.limits on are) in
        fates_goes m o f _ others [] _ (λ l more fates. (tt, λ q after answer replied. goes q _ answer (limits_on m o f q a.g (with_limit k limit s.limits) (on_trans m o f l q more after) now)))
    | reply.Refused why ↦ λ is. tt
    | _ ↦ λ is. tt
  ],
)

two_goes : (m : Actor) (o : Option Opened) (h : History) (a : Query) (s : Progress) (ks : List ℕ) → IsFor o a → LimitsAreFixed h m (open_txn o) a.g s.limits → Goes m o h (round_two a s ks)
unfolding round_two
two_goes m o h a s [] is_for are = tt
two_goes m o h a s (k ∷ ks) is_for are =
    visit_goes m o h a s false k (two_next a k ks) is_for are (λ f seen. elim [ reply.Collected rows ↦ λ now. two_goes m o f a (with_tablet_rows k rows seen) ks is_for now | reply.Refused why ↦ λ now. tt | _ ↦ λ now. tt ])

choice_goes : (b : Bool) (m : Actor) (o : Option Opened) (h : History) (p q : Program ReadEnd) → Goes m o h p → Goes m o h q → Goes m o h (if b then p else q)
choice_goes true m o h p q one two = one
choice_goes false m o h p q one two = two

met_goes : (strict : Bool) (m : Actor) (o : Option Opened) (h : History) (end : ReadWhat) (s : Progress) (next : Program ReadEnd) → Goes m o h next → Goes m o h (met_then strict end s next)
met_goes true m o h end s next goes = tt
met_goes false m o h end s next goes = goes

one_goes : (m : Actor) (o : Option Opened) (h : History) (a : Query) (s : Progress) (ks : List ℕ) → IsFor o a → LimitsAreFixed h m (open_txn o) a.g s.limits → Goes m o h (round_one a s ks)
unfolding round_one
one_goes m o h a s [] is_for are = choice_goes (nat_eq s.restarts 0) m o h (read_done a s) _ tt (two_goes m o h a _ (tablets_of a.places) is_for are)
one_goes m o h a s (k ∷ ks) is_for are = visit_goes m o h a s true k (one_next a k ks) is_for are (λ f seen. elim [
  | reply.Collected rows ↦ λ now. one_goes m o f a (with_tablet_rows k rows seen) ks is_for now
  | reply.Met t path ↦ λ now. met_goes a.strict m o f (what.Restart t path) seen _ (one_goes m o f a (restarted t seen) ks is_for now)
  | reply.Refused why ↦ λ now. tt
  | _ ↦ λ now. tt
])

read_goes : (m : Actor) (o : Option Opened) (h : History) (kind : ReadKind) (ws : List Written) (places : List Place) (t g : ℕ) (strict : Bool) (limits : List TabletLimit) → HasEnd o g → LimitsAreFixed h m (open_txn o) g limits →
    Goes m o h (then_do (read_program (open_txn o) kind places t g strict limits) (λ end. Done (read_told kind ws places end)))
read_goes m o h kind ws places t g strict limits end_is are =
    then_goes m o h (read_program (open_txn o) kind places t g strict limits) (λ end. Done (read_told kind ws places end))
    (one_goes m o h _ _ (tablets_of places) (record { own_is = refl; end_is = end_is }) are) (λ f end. tt)

timed_goes : (m : Actor) (h : History) (i reading : ℕ) (next : ℕ → Program Told) (time : Result ℕ TimeRefusal) → ((now : ℕ) → Goes m None h (next now)) → Goes m None h (timed_then i reading next time)
timed_goes m h i reading next (Ok now) goes = goes now
timed_goes m h i reading next (Err why) goes = tt

-- the limits that the open transaction has
abbrev pub OpenLimits : History → Actor → Option Opened → List TabletLimit → Type 0
OpenLimits h m None ls = Unit {0}
OpenLimits h m (Some x) ls = LimitsAreFixed h m (Some x.meta.txn) x.g ls

read_command_goes : (config : Config) (h : History) (m : Actor) (i : ℕ) (s : Keeps) (kind : ReadKind) (strict : Bool) (places : List Place) (opened : Option Opened) → OpenLimits h m opened (limits_of opened) → Goes m opened h (read_command config i s kind strict places opened)
read_command_goes config h m i s kind strict places None are = λ f on reading. timed_goes m f i reading (read_at config kind strict places reading) (least_time s.last 0 reading) (λ now.
    read_goes m None f kind [] places now (max now (limit_time reading config.skew_us)) strict [] tt (no_limits f m None (max now (limit_time reading config.skew_us))))
read_command_goes config h m i s kind strict places (Some x) are = doubt_goes x.in_doubt
  where
    doubt_goes : (b : Bool) → Goes m (Some x) h (if b then refused told_refusal.InDoubt else read_inside x kind strict places)
    doubt_goes true = tt
    doubt_goes false = read_goes m (Some x) h kind (writes_of x.writes) places x.r x.g (strict || has_writes x.writes || x.has_read) x.limits refl are

pub command_goes : (config : Config) (h : History) (m : Actor) (i : ℕ) (s : Keeps) (line : Command) → OpenLimits h m s.opened (limits_of s.opened) → Goes m s.opened h (command_program config i s line)
command_goes config h m i s (command.Begin priority) are = always_goes m s.opened h _ (begin_none config i s priority s.opened)
command_goes config h m i s (command.Put place v) are = always_goes m s.opened h _ (write_none s place (op.Put v) s.opened)
command_goes config h m i s (command.Del place) are = always_goes m s.opened h _ (write_none s place op.Delete s.opened)
command_goes config h m i s command.Commit are = always_goes m s.opened h _ (commit_none s s.opened)
command_goes config h m i s command.Abort are = always_goes m s.opened h _ (abort_none s.opened)
command_goes config h m i s command.End are = always_goes m s.opened h _ (abort_none s.opened)
command_goes config h m i s (command.Read strict places) are = read_command_goes config h m i s Get strict places s.opened are
command_goes config h m i s (command.Scan strict place) are = read_command_goes config h m i s Scan strict (place ∷ []) s.opened are
command_goes config h m i s (command.SinglePut place v priority) are = always_goes m s.opened h _ (single_none config i s priority place (op.Put v) s.opened)
command_goes config h m i s (command.SingleDel place priority) are = always_goes m s.opened h _ (single_none config i s priority place op.Delete s.opened)
command_goes config h m i s (command.Restart actor) are = always_goes m s.opened h (restart_program actor) (restart_none actor)
command_goes config h m i s (command.Apply tablet) are = always_goes m s.opened h (pass_program tablet) (pass_none tablet)
command_goes config h m i s (command.Clock node micros) are = tt
