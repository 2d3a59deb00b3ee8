-- A put or del writes with the next number, and once accepted this number is taken.
use Rattle.std.proofs.Common.{◌≡◌, ℕ, Bool, true, false, ◌&&◌, List, [], ◌∷◌, ◌++◌, Option, Some, None, length, sym, subst, if◌then◌else◌, arith, ap, ◌∙◌, reverse}
use Rattle.std.proofs.lemmas.List.{length-map, map-append}
use Rattle.txn_data.specs.declared.actor.Actor.{Actor}
use Rattle.txn_data.specs.declared.actor.Actor.TheVariants.{Tablet, Status, Session}
use Rattle.txn_data.specs.declared.append.Append.{Append}
use Rattle.txn_data.specs.declared.command.Command.{Command}
use Rattle.txn_data.specs.declared.config.Config.{Config}
use Rattle.txn_data.specs.declared.fate.Fate.TheVariants as fate
use Rattle.txn_data.specs.declared.fate_of.FateOf.{FateOf}
use Rattle.txn_data.specs.declared.found.Found.{Found}
use Rattle.txn_data.specs.declared.meta.Meta.{Meta}
use Rattle.txn_data.specs.declared.op.Op.{Op}
use Rattle.txn_data.specs.declared.place.Place.{Place}
use Rattle.txn_data.specs.declared.refusal.Refusal.TheVariants as refusal
use Rattle.txn_data.specs.declared.request.Request.{Request}
use Rattle.txn_data.specs.declared.request.Request.TheVariants as request
use Rattle.txn_data.specs.declared.reply.Reply.{Reply}
use Rattle.txn_data.specs.declared.reply.Reply.TheVariants as reply
use Rattle.txn_data.specs.declared.tablet_limit.TabletLimit.{TabletLimit}
use Rattle.txn_data.specs.declared.told.Told.{Told}
use Rattle.txn_data.specs.declared.told.Told.TheVariants as told
use Rattle.txn_data.specs.declared.told_refusal.ToldRefusal.{ToldRefusal}
use Rattle.txn_data.specs.declared.told_refusal.ToldRefusal.TheVariants as told_refusal
use Rattle.txn_data.specs.declared.txn_step.TxnStep.TheVariants as step
use Rattle.txn_data.specs.declared.written.Written.{Written}
use Rattle.txn_data.specs.declared.event.Event.TheVariants.{Serve}
use Rattle.txn_types.specs.History.{History}
use Rattle.txn_types.specs.Plan.{IsCluster}
use Rattle.txn_types.specs.Program.{Program, Done, Asks, refusal_told}
use Rattle.txn_types.specs.TxnProgram.{refused, lost, write_refused, resolve_all, find_others, txn_program}
use Rattle.txn_types.specs.Committed.{Numbered}
use Rattle.txn_types.specs.Session.{Keeps, Opened, Accepted, writes_of, after_write, write_command}
use Rattle.txn_types.specs.Run.{limits_after, may_lose_after}
use Rattle.law_messages.proofs.Rules.{Stage, kept, no_memory, told_memory, entry}
use Rattle.law_messages.proofs.Safe.{Safe}
use Rattle.law_messages.proofs.Shapes.{Always}
use Rattle.law_write_numbers.specs.Laws.{IsNumbered}
use Rattle.law_write_numbers.proofs.Numbers.{all_accepted, downwards, own_accepted, accepted_below, down_more}
use Rattle.law_write_numbers.proofs.Claims.{AreBelow, Claim, Holds, claim_of, IsGood, rules, holds_more, holds_later, holds_served, holds_restarted, NoWrite, Tells, Closes, told_ending, plain_safe}

-- ## what a put or a del leaves

-- it is not told that a write was accepted
abbrev pub Unsaid : Told → Type 0
Unsaid (told.Written at) = ⊥
Unsaid t = Unit {0}

after_holds : (g : History) (m : Actor) (x : Opened) (place : Place) (o : Op) (t : Told) → Unsaid t → Holds g m (claim_of (Some x)) → Holds g m (claim_of (after_write x place o t))
after_holds g m x place o (told.Written at) said holds = absurd said
after_holds g m x place o (told.Refused (told_refusal.Conflict other)) said holds = tt
after_holds g m x place o (told.Refused (told_refusal.Overlap at)) said holds = tt
after_holds g m x place o (told.Refused (told_refusal.LogFault actor)) said holds = tt
after_holds g m x place o t said holds = holds

-- ## its program

-- a line of the session that writes for its open transaction
pub record WriteLine (config : Config) (i : ℕ) (s : Keeps) (x : Opened) (place : Place) (o : Op) (line : Command) : Type 0 where
  pub opened : s.opened ≡ Some x
  pub leaves : (reading : Option ℕ) (limits : List TabletLimit) (lose : Bool) (t : Told) →
      (kept config (Session i) (record { keeps = s; line = Some line; reading = reading; limits = limits; may_lose = lose }) t).opened ≡ after_write x place o t

closes : (config : Config) (i : ℕ) (s : Keeps) (x : Opened) (place : Place) (o : Op) (line : Command) → WriteLine config i s x place o line → Closes config (Session i) s (Some line) (claim_of (Some x)) Unsaid
closes config i s x place o line about = record {
  closes = λ g reading limits lose t said holds.
      subst (λ (u : Option Opened). Holds g (Session i) (claim_of u)) (sym (about.leaves reading limits lose t)) (after_holds g (Session i) x place o t said holds);
  memory = tt;
}

stop_plain : (meta : Meta) (why : ToldRefusal) → Always NoWrite (write_refused meta why)
stop_plain meta (told_refusal.Conflict other) = (tt, λ r. tt)
stop_plain meta (told_refusal.Overlap at) = (tt, λ r. tt)
stop_plain meta (told_refusal.LogFault actor) = (tt, λ r. tt)
stop_plain meta why = tt

stop_tells : (meta : Meta) (why : ToldRefusal) → Tells Unsaid (write_refused meta why)
stop_tells meta (told_refusal.Conflict other) = λ r. tt
stop_tells meta (told_refusal.Overlap at) = λ r. tt
stop_tells meta (told_refusal.LogFault actor) = λ r. tt
stop_tells meta why = tt

abbrev stage : Keeps → Command → Option ℕ → List TabletLimit → Bool → Stage
stage s line reading limits lose = record { keeps = s; line = Some line; reading = reading; limits = limits; may_lose = lose }

-- safe wherever the claim holds
abbrev SafeOver : Config → ℕ → Keeps → Opened → Command → History → Program Told → Type 0
SafeOver config i s x line z p = (reading : Option ℕ) (limits : List TabletLimit) (lose : Bool) (h : History) → Holds h (Session i) (claim_of (Some x)) → Safe rules config (Session i) z (stage s line reading limits lose) h p

plain_over : (config : Config) → IsCluster config → (i : ℕ) (s : Keeps) (x : Opened) (line : Command) (z : History) (p : Program Told) → Closes config (Session i) s (Some line) (claim_of (Some x)) Unsaid → Always NoWrite p → Tells Unsaid p → SafeOver config i s x line z p
plain_over config cluster i s x line z p close plain tells reading limits lose h holds = plain_safe config cluster (Session i) z p (stage s line reading limits lose) h (claim_of (Some x)) Unsaid close plain tells holds

asks_over : (config : Config) → IsCluster config → (i : ℕ) (s : Keeps) (x : Opened) (line : Command) (z : History) (to : Actor) (asked : Request) (next : Reply → Program Told) → Closes config (Session i) s (Some line) (claim_of (Some x)) Unsaid → NoWrite asked →
    ((g : History) → IsGood g asked) → ((r : Reply) → SafeOver config i s x line z (next r)) → SafeOver config i s x line z (Asks to asked next)
asks_over config cluster i s x line z to asked next close plain good goes reading limits lose h holds = (
  λ may. told_ending config cluster (Session i) z (stage s line reading limits lose) h (claim_of (Some x)) Unsaid told_memory close tt holds,
  λ g later steps base.
      let now = holds_later config cluster (Session i) (claim_of (Some x)) h g later holds in (
        good g,
        λ own r time append allowed after. goes r reading (limits_after limits to r) (lose && may_lose_after (Session i) r) _ (holds_served (Session i) (claim_of (Some x)) g to own asked r time append plain now),
        λ own k is after. goes (reply.Restarted k) reading (limits_after limits to (reply.Restarted k)) (lose && may_lose_after (Session i) (reply.Restarted k)) _ (holds_restarted (Session i) (claim_of (Some x)) g to own k now),
        goes no_memory reading (limits_after limits to no_memory) (lose && may_lose_after (Session i) no_memory) g now,
      ),
)

-- ## finding and resolving others

abbrev Stops : (ToldRefusal → Program Told) → Type 0
Stops stop = (why : ToldRefusal) → Always NoWrite (stop why) × Tells Unsaid (stop why)

resolve_over : (config : Config) → IsCluster config → (i : ℕ) (s : Keeps) (x : Opened) (line : Command) (z : History) (meta : Meta) (stop : ToldRefusal → Program Told) (next : List FateOf → Program Told) → Closes config (Session i) s (Some line) (claim_of (Some x)) Unsaid →
    Stops stop → ((found : List FateOf) → SafeOver config i s x line z (next found)) → (fs : List Found) (fates : List FateOf) → SafeOver config i s x line z (resolve_all meta fs fates stop next)
unfolding resolve_all
resolve_over config cluster i s x line z meta stop next close stops goes [] fates = goes fates
resolve_over config cluster i s x line z meta stop next close stops goes (f ∷ fs) fates =
    asks_over config cluster i s x line z (Status f.status) (request.Resolve f.txn meta.txn meta.priority) _ close tt (λ g. tt) (elim [
      | reply.FateIs fate.Pending ↦ plain_over config cluster i s x line z (stop (told_refusal.Conflict f.txn)) close (stops (told_refusal.Conflict f.txn)).0 (stops (told_refusal.Conflict f.txn)).1
      | reply.FateIs settled ↦ resolve_over config cluster i s x line z meta stop next close stops goes fs _
      | reply.Refused why ↦ plain_over config cluster i s x line z (stop (refusal_told (Status f.status) why)) close (stops (refusal_told (Status f.status) why)).0 (stops (refusal_told (Status f.status) why)).1
      | _ ↦ plain_over config cluster i s x line z lost close tt tt
    ])

find_over : (config : Config) → IsCluster config → (i : ℕ) (s : Keeps) (x : Opened) (line : Command) (z : History) (meta : Meta) (place : Place) (stop : ToldRefusal → Program Told) (next : List FateOf → Program Told) → Closes config (Session i) s (Some line) (claim_of (Some x)) Unsaid →
    Stops stop → ((found : List FateOf) → SafeOver config i s x line z (next found)) → SafeOver config i s x line z (find_others meta place stop next)
find_over config cluster i s x line z meta place stop next close stops goes =
    asks_over config cluster i s x line z (Tablet place.tablet) (request.ListWrite meta.txn place.path) _ close tt (λ g. tt) (elim [
      | reply.Others found ↦ resolve_over config cluster i s x line z meta stop next close stops goes found []
      | reply.Refused why ↦ plain_over config cluster i s x line z (stop (refusal_told (Tablet place.tablet) why)) close (stops (refusal_told (Tablet place.tablet) why)).0 (stops (refusal_told (Tablet place.tablet) why)).1
      | _ ↦ plain_over config cluster i s x line z lost close tt tt
    ])

-- ## the write

abbrev written_next : Meta → Place → Reply → Program Told
written_next meta place answer = elim answer [
  | reply.Written at ↦ Done (told.Written at)
  | reply.Refused why ↦ write_refused meta (refusal_told (Tablet place.tablet) why)
  | _ ↦ lost
]

no_loss : (lose : Bool) → lose && false ≡ true → ⊥
no_loss true is = cc
no_loss false is = cc

abbrev write_of : Opened → Place → Op → ℕ → List FateOf → Request
write_of x place o seen fates = request.Write x.meta (length x.writes) place.path o x.r seen fates

abbrev claimed : Opened → Claim
claimed x = record { txn = x.meta.txn; accepted = writes_of x.writes }

-- what is answered leaves the claim, unless the write was accepted
abbrev Unwritten : Reply → Type 0
Unwritten (reply.Written w) = ⊥
Unwritten r = Unit {0}

unnumbered : (x k : ℕ) (y : Opened) (place : Place) (o : Op) (seen : ℕ) (fates : List FateOf) (m : Actor) (r : Reply) (time : Option ℕ) (append : Append) → Unwritten r → IsNumbered x k (Serve m (write_of y place o seen fates) r time append) → ⊥
unnumbered x k y place o seen fates m (reply.Written w) time append un is = un
unnumbered x k y place o seen fates m r time append un is = is

unwritten_holds : (m : Actor) (x : Opened) (g : History) (place : Place) (o : Op) (seen : ℕ) (fates : List FateOf) (own : Option ℕ) (r : Reply) (time : Option ℕ) (append : Append) → Unwritten r → Holds g m (claim_of (Some x)) →
    Holds (entry (Tablet place.tablet) own (Serve m (write_of x place o seen fates) r time append) ∷ g) m (claim_of (Some x))
unwritten_holds m x g place o seen fates own r time append un holds =
    holds_more m (claimed x) (entry (Tablet place.tablet) own (Serve m (write_of x place o seen fates) r time append)) g (λ k is. unnumbered x.meta.txn k x place o seen fates m r time append un is) holds

-- once accepted, it is the last of them
written_holds : (m : Actor) (x : Opened) (g : History) (place : Place) (o : Op) (seen : ℕ) (fates : List FateOf) (own : Option ℕ) (w : ℕ) (time : Option ℕ) (append : Append) → Holds g m (claim_of (Some x)) →
    Holds (entry (Tablet place.tablet) own (Serve m (write_of x place o seen fates) (reply.Written w) time append) ∷ g) m (claim_of (after_write x place o (told.Written w)))
written_holds m x g place o seen fates own w time append holds =
    let a : Accepted = record { tablet = place.tablet; write = record { path = place.path; op = o } } in
    let ws = writes_of x.writes in
    let all = all_accepted g x.meta.txn in
    let one : Numbered = record { number = length x.writes; write = a.write } in
    let count : length ws ≡ length x.writes = length-map x.writes (λ (b : Accepted). b.write) in (
      holds.0,
      ap (λ (ns : List Numbered). ns ++ all) (own_accepted x.meta.txn (length x.writes) a.write)
          ∙ (ap (λ (ns : List Numbered). one ∷ ns) holds.1
          ∙ (ap (λ (n : ℕ). let k : Numbered = record { number = n; write = a.write } in k ∷ downwards (reverse ws)) (sym count)
          ∙ (sym (down_more ws a.write) ∙ ap (λ (vs : List Written). downwards (reverse vs)) (sym (map-append (λ (b : Accepted). b.write) x.writes (a ∷ [])))))),
    )

-- the number of the next is above theirs
next_above : (m : Actor) (x : Opened) (g : History) → Holds g m (claim_of (Some x)) → AreBelow x.meta.txn (length x.writes) g
next_above m x g holds e member k is =
    let low = accepted_below x.meta.txn g (writes_of x.writes) holds.1 e member k is in
    let count = length-map x.writes (λ (b : Accepted). b.write) in
    omega (arith, low, count)

answered : (config : Config) → IsCluster config → (i : ℕ) (s : Keeps) (x : Opened) (place : Place) (o : Op) (line : Command) (z : History) → WriteLine config i s x place o line → (seen : ℕ) (fates : List FateOf) (reading : Option ℕ) (limits : List TabletLimit) (lose : Bool)
    (g : History) (own : Option ℕ) (r : Reply) (time : Option ℕ) (append : Append) → Holds g (Session i) (claim_of (Some x)) →
    Safe rules config (Session i) z (stage s line reading limits (lose && may_lose_after (Session i) r)) (entry (Tablet place.tablet) own (Serve (Session i) (write_of x place o seen fates) r time append) ∷ g) (written_next x.meta place r)
answered config cluster i s x place o line z about seen fates reading limits lose g own (reply.Written w) time append holds =
    let e = entry (Tablet place.tablet) own (Serve (Session i) (write_of x place o seen fates) (reply.Written w) time append) in (
      λ may. absurd (no_loss lose may),
      λ f later. (
        tt,
        subst (λ (u : Option Opened). Holds f (Session i) (claim_of u)) (sym (about.leaves reading limits (lose && false) (told.Written w)))
            (holds_later config cluster (Session i) (claim_of (after_write x place o (told.Written w))) (e ∷ g) f later (written_holds (Session i) x g place o seen fates own w time append holds)),
      ),
    )
answered config cluster i s x place o line z about seen fates reading limits lose g own (reply.Refused why) time append holds =
    plain_over config cluster i s x line z (write_refused x.meta (refusal_told (Tablet place.tablet) why)) (closes config i s x place o line about) (stop_plain x.meta (refusal_told (Tablet place.tablet) why)) (stop_tells x.meta (refusal_told (Tablet place.tablet) why)) reading limits (lose && may_lose_after (Session i) (reply.Refused why)) _
    (unwritten_holds (Session i) x g place o seen fates own (reply.Refused why) time append tt holds)
answered config cluster i s x place o line z about seen fates reading limits lose g own r time append holds =
    plain_over config cluster i s x line z lost (closes config i s x place o line about) tt tt reading limits (lose && may_lose_after (Session i) r) _
    (unwritten_holds (Session i) x g place o seen fates own r time append tt holds)

write_asks : (config : Config) → IsCluster config → (i : ℕ) (s : Keeps) (x : Opened) (place : Place) (o : Op) (line : Command) (z : History) → WriteLine config i s x place o line → (seen : ℕ) (fates : List FateOf) →
    SafeOver config i s x line z (Asks (Tablet place.tablet) (write_of x place o seen fates) (written_next x.meta place))
write_asks config cluster i s x place o line z about seen fates reading limits lose h holds = (
  λ may. told_ending config cluster (Session i) z (stage s line reading limits lose) h (claim_of (Some x)) Unsaid told_memory (closes config i s x place o line about) tt holds,
  λ g later steps base.
      let now = holds_later config cluster (Session i) (claim_of (Some x)) h g later holds in (
        next_above (Session i) x g now,
        λ own r time append allowed after. answered config cluster i s x place o line z about seen fates reading (limits_after limits (Tablet place.tablet) r) lose g own r time append now,
        λ own k is after. cc,
        plain_over config cluster i s x line z (written_next x.meta place no_memory) (closes config i s x place o line about) (stop_plain x.meta (refusal_told (Tablet place.tablet) refusal.Memory)) (stop_tells x.meta (refusal_told (Tablet place.tablet) refusal.Memory)) reading (limits_after limits (Tablet place.tablet) no_memory) (lose && may_lose_after (Session i) no_memory) g now,
      ),
)

pub put_safe : (config : Config) → IsCluster config → (i : ℕ) (s : Keeps) (x : Opened) (place : Place) (o : Op) (line : Command) (z : History) → WriteLine config i s x place o line → (limits : List TabletLimit) (h : History) → Holds h (Session i) (claim_of (Some x)) →
    Safe rules config (Session i) z (stage s line None limits true) h (write_command s place o (Some x))
put_safe config cluster i s x place o line z about limits h holds = doubt_safe x.in_doubt
  where
    doubt_safe : (b : Bool) → Safe rules config (Session i) z (stage s line None limits true) h (if b then refused told_refusal.InDoubt else txn_program (step.Write x.meta (length x.writes) place o x.r s.last))
    doubt_safe true = plain_over config cluster i s x line z (refused told_refusal.InDoubt) (closes config i s x place o line about) tt tt None limits true h holds
    doubt_safe false = find_over config cluster i s x line z x.meta place (write_refused x.meta) _ (closes config i s x place o line about) (λ why. (stop_plain x.meta why, stop_tells x.meta why))
        (λ fates. write_asks config cluster i s x place o line z about s.last fates) None limits true h holds
