-- The laws of times and leases in every run.
use Rattle.std.proofs.Common.{◌≡◌, ℕ, ◌≤◌, false, [], ◌∷◌, Option, Some, None, refl, sym, ◌∙◌, ap, subst, inl, inr, ◌⊎◌, arith}
use Rattle.txn_data.specs.declared.actor.Actor.{Actor}
use Rattle.txn_data.specs.declared.append.Append.{Append}
use Rattle.txn_data.specs.declared.append.Append.TheVariants.{Nothing, Took, Failed}
use Rattle.txn_data.specs.declared.config.Config.{Config}
use Rattle.txn_data.specs.declared.fate.Fate.TheVariants as fate
use Rattle.txn_data.specs.declared.request.Request.{Request}
use Rattle.txn_data.specs.declared.request.Request.TheVariants as request
use Rattle.txn_data.specs.declared.reply.Reply.{Reply}
use Rattle.txn_data.specs.declared.reply.Reply.TheVariants as reply
use Rattle.txn_data.specs.declared.event.Event.{Event}
use Rattle.txn_data.specs.declared.event.Event.TheVariants.{Serve}
use Rattle.txn_data.specs.declared.entry.Entry.{Entry}
use Rattle.txn_types.specs.Lists.{Member}
use Rattle.txn_types.specs.History.{History, own, counting}
use Rattle.txn_types.specs.Tablet.{local_limit}
use Rattle.txn_types.specs.Run.{Run}
use Rattle.law_machines.specs.Own.{StandsOver, time_of, ServesNext}
use Rattle.law_machines.proofs.Counted.{counting_own, own_all, counts_for_good, counts_served, WasServed}
use Rattle.law_machines.proofs.Owns.{serves_own, serves_at, serves_before, stands_own, member_own, member_counted, counted_counting, member_stands}
use Rattle.law_clocks.specs.Laws.{TookOwn, floor_at, Listing, Adds, Reached, TimesRise, TimesKeepFloors, CountsForGood, LeasesCover, LastIsGreatest, PendingPromises, ListingsReach, ListingsPromise}
use Rattle.law_clocks.proofs.Answered.{ask_answered, list_answered}
use Rattle.law_clocks.proofs.Rise.{covers, is_top, past_counted, past_floor, timed_whole}

pub times_rise : TimesRise
times_rise config h before e f x y run stands m same te tf =
    past_counted config.lease_us f.actor (own f.actor before) f.reading f.event y (serves_before config f.actor f before h run.1 stands) (own_all f.actor before)
    (serves_at config f before h run.1 stands) tf e x (member_counted e f.actor before same m) te

pub times_keep_floors : TimesKeepFloors
times_keep_floors config h f y run m tf =
    let at = member_stands f h m in
    past_floor config.lease_us f.actor (own f.actor at.0) f.reading f.event y (serves_at config f at.0 h run.1 at.1) tf

pub counts_on : CountsForGood
counts_on config h before e f y run stands m same tf =
    let whole = timed_whole config.lease_us f.actor (own f.actor before) f.reading f.event y (serves_at config f before h run.1 stands) tf in
    counted_counting e f.actor h (counts_for_good e f (own f.actor before) (own f.actor h) false whole (member_counted e f.actor before same m) (stands_own f.actor f before h refl stands))

pub leases_cover : LeasesCover
leases_cover config h e x run m te =
    let here : Member e (counting (own e.actor h)) = subst (λ (l : History). Member e l) (sym (counting_own e.actor (own e.actor h) (own_all e.actor h))) (member_counted e e.actor h refl m) in
    covers config.lease_us (counting (own e.actor h)) e x here te

pub last_is_greatest : LastIsGreatest
last_is_greatest config h e x run m te gave =
    is_top config.lease_us e.actor (own e.actor h) (serves_own config e.actor h run.1) (own_all e.actor h) gave false e x (member_counted e e.actor h refl m) te

-- ## what was answered counts

pub served_is : (from : Actor) (asked : Request) (r : Reply) (time : Option ℕ) (append : Append) → (append ≡ Nothing) ⊎ (append ≡ Took) → WasServed (Serve from asked r time append)
served_is from asked r time Nothing is = tt
served_is from asked r time Took is = tt
served_is from asked r time Failed is = elim is [ inl n ↦ cc | inr t ↦ cc ]

member_counting : (e : Entry) (h : History) → Member e h → WasServed e.event → Member e (counting h)
member_counting e h m ok = counted_counting e e.actor h (counts_served e false (own e.actor h) (member_own e e.actor h refl m) ok)

serves_event : (config : Config) (j : Entry) (h : History) (event : Event) → Run config h → Member j h → j.event ≡ event → (o : History) × ServesNext config.lease_us j.actor o j.reading event
serves_event config j h event run m is =
    let at = member_stands j h m in
    (own j.actor at.0, subst (λ (ev : Event). ServesNext config.lease_us j.actor (own j.actor at.0) j.reading ev) is (serves_at config j at.0 h run.1 at.1))

pub member_before : (j f : Entry) (before h : History) → Member j before → StandsOver f before h → Member j h
member_before j f before [] m stands = absurd stands
member_before j f before (g ∷ h) m stands = elim stands [
  | inl here ↦ inr (subst (λ (l : History). Member j l) (sym here.1) m)
  | inr deeper ↦ inr (member_before j f before h m deeper)
]

-- ## Pending

pub pending_promises : PendingPromises
pending_promises config h before j k m n x y t floor c tablets r time append after run stands mj same is_j is_k =
    let in_h : Member j h = member_before j k before h mj stands in
    let s = serves_event config j h (Serve m (request.AskFate x t) (reply.FateIs fate.Pending) time append) run in_h is_j in
    let a = ask_answered config.lease_us j.actor s.0 j.reading x t (reply.FateIs fate.Pending) time append s.1 tt in
    let time_j : time_of j.event ≡ Some a.now = ap time_of is_j ∙ a.time in
    let served : WasServed j.event = subst (λ (ev : Event). WasServed ev) (sym is_j) (served_is m (request.AskFate x t) (reply.FateIs fate.Pending) time append a.append) in
    let floors = times_keep_floors config h j a.now run in_h time_j in
    let low : t ≤ a.now = subst (λ (ev : Event). floor_at ev ≤ a.now) is_j floors.0 in
    let past = times_rise config h before j k a.now c run stands (member_counting j before mj served) same time_j (ap time_of is_k) in
    let own_time : TookOwn k.event = subst (λ (ev : Event). TookOwn ev) (sym is_k) refl in
    let high = past.1 own_time in
    omega (arith, low, high)

-- ## listing reads

list_event : (lease : ℕ) (a : Actor) (o : History) (reading : Option ℕ) (event : Event) (t g : ℕ) (limit : Option ℕ) (local : ℕ) → ServesNext lease a o reading event → Listing event t g limit local →
    WasServed event × ((now : ℕ) × (time_of event ≡ Some now) × Reached t g limit local now)
list_event lease a o reading (Serve from (request.ListRead own_txn paths u v given) (reply.Listed fixed others) time append) t g limit local served is =
    let w = list_answered lease a o reading own_txn paths u v given (reply.Listed fixed others) time append served tt in
    let f : fixed ≡ local_limit given w.now v = cc in
    let floors = past_floor lease a o reading (Serve from (request.ListRead own_txn paths u v given) (reply.Listed fixed others) time append) w.now served w.time in (
      served_is from (request.ListRead own_txn paths u v given) (reply.Listed fixed others) time append w.append,
      (
        w.now,
        w.time,
        record {
          past = subst (λ (z : ℕ). z ≤ w.now) is.0 floors.0;
          fixed = sym is.3 ∙ (f ∙ (ap (λ (l : Option ℕ). local_limit l w.now v) is.2 ∙ ap (λ (z : ℕ). local_limit limit w.now z) is.1));
        },
      ),
    )
list_event lease a o reading event t g limit local served is = absurd is

list_at : (config : Config) (h : History) (j : Entry) (t g : ℕ) (limit : Option ℕ) (local : ℕ) → Run config h → Member j h → Listing j.event t g limit local →
    WasServed j.event × ((now : ℕ) × (time_of j.event ≡ Some now) × Reached t g limit local now)
list_at config h j t g limit local run m is =
    let at = member_stands j h m in
    list_event config.lease_us j.actor (own j.actor at.0) j.reading j.event t g limit local (serves_at config j at.0 h run.1 at.1) is

pub listings_reach : ListingsReach
listings_reach config h j t g limit local run m is = (list_at config h j t g limit local run m is).1

adds_own : (event : Event) → Adds event → TookOwn event
adds_own (Serve from (request.Write meta number path op read seen fates) r time append) ok = refl
adds_own (Serve from (request.Single x path op seen fates) r time append) ok = refl
adds_own event ok = absurd ok

local_low : (limit : Option ℕ) (now g local : ℕ) → local ≡ local_limit limit now g → limit ≡ None → local ≤ now
local_low None now g local is none = omega arith
local_low (Some l) now g local is none = cc

pub listings_promise : ListingsPromise
listings_promise config h before j f t g limit local w run stands mj same is adds tf =
    let in_h : Member j h = member_before j f before h mj stands in
    let l = list_at config h j t g limit local run in_h is in
    let past = times_rise config h before j f l.1.0 w run stands (member_counting j before mj l.0) same l.1.1 tf in
    let high = past.1 (adds_own f.event adds) in
    (omega (arith, l.1.2.past, high), λ none. let low = local_low limit l.1.0 g local l.1.2.fixed none in omega (arith, low, high))
