-- What a pass applied or cleaned has no provisional write at its tablet in the end.
use Rattle.std.proofs.Common.{◌≡◌, ℕ, Bool, true, false, not, ◌||◌, List, [], ◌∷◌, Option, Some, None, filter, nat_eq, refl, sym, subst, inl, inr}
use Rattle.std.specs.List.{list_any}
use Rattle.txn_data.specs.declared.actor.Actor.{Actor}
use Rattle.txn_data.specs.declared.actor.Actor.TheVariants.{Tablet}
use Rattle.txn_data.specs.declared.append.Append.{Append}
use Rattle.txn_data.specs.declared.append.Append.TheVariants.{Nothing, Took, Failed}
use Rattle.txn_data.specs.declared.config.Config.{Config}
use Rattle.txn_data.specs.declared.request.Request.TheVariants as request
use Rattle.txn_data.specs.declared.reply.Reply.{Reply}
use Rattle.txn_data.specs.declared.reply.Reply.TheVariants as reply
use Rattle.txn_data.specs.declared.event.Event.{Event}
use Rattle.txn_data.specs.declared.event.Event.TheVariants.{Serve}
use Rattle.txn_types.specs.Lists.{Member}
use Rattle.txn_types.specs.History.{History, own, standing}
use Rattle.txn_types.specs.Clock.{Answer, logged, down_since}
use Rattle.txn_types.specs.Tablet.{Intent, is_of, has_any, provisional, provisional_over, provisional_after, tablet_standing}
use Rattle.txn_types.specs.Run.{Run, Serves}
use Rattle.law_machines.specs.Own.{landed, StandsOver, ServesNext}
use Rattle.law_machines.proofs.Basics.{eq_refl, filter_member, same_refl}
use Rattle.law_machines.proofs.Counted.{own_all}
use Rattle.law_machines.proofs.Owns.{serves_own, serves_at, run_until}
use Rattle.law_machines.proofs.Landed as landed
use Rattle.law_machines.proofs.Landed.{standing_landed}
use Rattle.law_machines.proofs.Since.{IsLanding}
use Rattle.law_courses.specs.Course.{IsPart, entry_of}
use Rattle.law_courses.proofs.Parts.{part_trans, stands_part, part_more}
use Rattle.law_intents.specs.Laws.{NoneAt}
use Rattle.law_intents.proofs.Table.{TookOrNone}
use Rattle.law_intents.proofs.Cleared.{NoneIn}
use Rattle.txn_promises.specs.Left.{RestSince}
use Rattle.law_left.proofs.Rests.{PassEvent, pass_only}
use Rattle.law_left.proofs.Since.{since_front}

-- ## passes add nothing

none_pass : (x : ℕ) (ps : List Intent) (event : Event) → PassEvent event → NoneIn x ps → NoneIn x (provisional_after ps event)
none_pass x ps (Serve from (request.Write meta number path op read seen fates) r time append) pass none = absurd pass
none_pass x ps (Serve from (request.Apply y at) r time append) pass none = λ p m is. none p (filter_member _ p ps m).0 is
none_pass x ps (Serve from (request.Clean y) r time append) pass none = λ p m is. none p (filter_member _ p ps m).0 is
none_pass x ps event pass none = none

abbrev NoneOver : ℕ → History → Type 0
NoneOver x l = NoneIn x (provisional_over l)

none_lands : (x : ℕ) → IsLanding (NoneOver x) PassEvent
unfolding provisional_over
none_lands x l e pass none = none_pass x (provisional_over l) e.event pass none

-- ## what a tablet answers to a Clean

abbrev IsCleaned : Reply → Type 0
IsCleaned reply.Cleaned = Unit {0}
IsCleaned r = ⊥

clean_logged : (fails any : Bool) → IsCleaned (logged fails any None reply.Cleaned).reply → TookOrNone any (logged fails any None reply.Cleaned).append
clean_logged false false is = inr (refl, refl)
clean_logged true false is = inr (refl, refl)
clean_logged false true is = inl refl
clean_logged true true is = absurd is

clean_standing : (d : Option ℕ) (up : Answer) (any : Bool) → (IsCleaned up.reply → TookOrNone any up.append) → IsCleaned (tablet_standing d up).reply → TookOrNone any (tablet_standing d up).append
clean_standing (Some n) up any ok is = absurd is
clean_standing None up any ok is = ok is

cleaned_by : (lease k : ℕ) (o : History) (reading : Option ℕ) (x : ℕ) (time : Option ℕ) (append : Append) → Serves lease (Tablet k) o reading (request.Clean x) reply.Cleaned time append → TookOrNone (has_any x (provisional o)) append
cleaned_by lease k o reading x time append served =
    subst (λ (a : Append). TookOrNone (has_any x (provisional o)) a) (sym served.logged)
    (clean_standing (down_since o) (logged served.fails (has_any x (provisional o)) None reply.Cleaned) (has_any x (provisional o)) (clean_logged served.fails (has_any x (provisional o)))
    (subst (λ (r : Reply). IsCleaned r) served.replied tt))

-- ## nothing is left of it

any_first : (b : Bool) (x : ℕ) (ps : List Intent) → b ≡ true → (b || list_any (is_of x) ps) ≡ true
any_first true x ps is = refl
any_first false x ps is = cc

any_later : (b : Bool) (x : ℕ) (ps : List Intent) → list_any (is_of x) ps ≡ true → (b || list_any (is_of x) ps) ≡ true
any_later true x ps is = refl
any_later false x ps is = is

any_of : (x : ℕ) (ps : List Intent) (p : Intent) → Member p ps → p.meta.txn ≡ x → has_any x ps ≡ true
any_of x [] p m is = absurd m
any_of x (q ∷ ps) p m is = elim m [
  | inl same ↦ any_first (is_of x q) x ps (subst (λ (r : Intent). is_of x r ≡ true) same (subst (λ (y : ℕ). nat_eq p.meta.txn y ≡ true) is (eq_refl p.meta.txn)))
  | inr more ↦ any_later (is_of x q) x ps (any_of x ps p more is)
]

none_of : (x : ℕ) (ps : List Intent) → has_any x ps ≡ false → NoneIn x ps
none_of x ps none p m is = let any : has_any x ps ≡ true = any_of x ps p m is in cc

left_out : (x : ℕ) (ps : List Intent) → NoneIn x (filter (λ (p : Intent). not (is_of x p)) ps)
left_out x ps p m is =
    let f = filter_member (λ (q : Intent). not (is_of x q)) p ps m in
    let mine : is_of x p ≡ true = subst (λ (y : ℕ). nat_eq p.meta.txn y ≡ true) is (eq_refl p.meta.txn) in
    not_both (is_of x p) mine f.1
  where
    not_both : (b : Bool) → b ≡ true → not b ≡ true → ⊥
    not_both true one two = cc
    not_both false one two = cc

-- where it was answered
cleaned_now : (x k : ℕ) (reading : Option ℕ) (m : Actor) (time : Option ℕ) (append : Append) (b : History) → standing (own (Tablet k) b) ≡ landed.logged (landed (own (Tablet k) b)) →
    TookOrNone (has_any x (provisional (own (Tablet k) b))) append → NoneOver x (landed.logged (landed (own (Tablet k) (entry_of (Tablet k) reading (Serve m (request.Clean x) reply.Cleaned time append) ∷ b))))
unfolding landed provisional_over
cleaned_now x k reading m time Took b stands is = rw (same_refl (Tablet k)) (left_out x (provisional_over (landed.logged (landed (own (Tablet k) b)))))
cleaned_now x k reading m time Nothing b stands is = rw (same_refl (Tablet k)) (elim is [
  | inl took ↦ cc
  | inr none ↦ subst (λ (l : History). NoneIn x (provisional_over l)) stands (none_of x (provisional (own (Tablet k) b)) none.1)
])
cleaned_now x k reading m time Failed b stands is = elim is [ inl took ↦ cc | inr none ↦ cc ]

-- and in the end
pub cleaned_none : (config : Config) (h low b : History) (k x : ℕ) (m : Actor) (reading : Option ℕ) (time : Option ℕ) (append : Append) → Run config h → RestSince config low h → IsPart low b →
    StandsOver (entry_of (Tablet k) reading (Serve m (request.Clean x) reply.Cleaned time append)) b h → NoneAt h k x
cleaned_none config h low b k x m reading time append run rest part stands =
    let a = Tablet k in
    let e = entry_of a reading (Serve m (request.Clean x) reply.Cleaned time append) in
    let until = run_until config h b e run stands in
    let served : ServesNext config.lease_us a (own a b) reading e.event = serves_at config e b h run.1 stands in
    let is_standing = standing_landed config.lease_us a (own a b) (serves_own config a b until.1) (own_all a b) in
    let first = cleaned_now x k reading m time append b is_standing (cleaned_by config.lease_us k (own a b) reading x time append served) in
    let last = since_front (NoneOver x) PassEvent (none_lands x) (λ from kept never. never) a (e ∷ b) h (stands_part e b h stands)
    (λ f c there at. pass_only config h low f c run rest there (part_trans low (e ∷ b) c (part_more low e b part) at)) first in
    subst (λ (l : History). NoneIn x (provisional_over l)) (sym (standing_landed config.lease_us a (own a h) (serves_own config a h run.1) (own_all a h))) last
