-- Programs read once for all that they ask, and for what each reply means for the end.
use Rattle.std.proofs.Common.{◌≡◌, ℕ, Bool, true, false, ◌&&◌, List, [], ◌∷◌, ◌++◌, refl, sym, ◌∙◌, ap, subst, inl, inr, ◌⊎◌}
use Rattle.txn_data.specs.declared.actor.Actor.{Actor}
use Rattle.txn_data.specs.declared.refusal.Refusal.{Refusal}
use Rattle.txn_data.specs.declared.refusal.Refusal.TheVariants as refusal
use Rattle.txn_data.specs.declared.reply.Reply.{Reply}
use Rattle.txn_data.specs.declared.reply.Reply.TheVariants as reply
use Rattle.txn_data.specs.declared.request.Request.{Request}
use Rattle.txn_data.specs.declared.told.Told.{Told}
use Rattle.txn_data.specs.declared.told.Told.TheVariants as told
use Rattle.txn_data.specs.declared.told_refusal.ToldRefusal.TheVariants as told_refusal
use Rattle.txn_types.specs.Lists.{Member}
use Rattle.txn_types.specs.Program.{Program, Done, Asks, Reads, then_do}
use Rattle.txn_types.specs.Run.{may_lose_after}
use Rattle.txn_types.specs.Cause.{ServedAt}
use Rattle.law_served.specs.Ran.{Ran}

-- whatever it hears from here on, it comes to an end of this kind
abbrev pub ComesTo : {A : Type 0} → (A → Type 0) → Program A → Type 0
ComesTo Q (Done a) = Q a
ComesTo Q (Asks to asked next) = (r : Reply) → ComesTo Q (next r)
ComesTo Q (Reads given) = (n : ℕ) → ComesTo Q (given n)

-- all that it asks is of this kind
abbrev pub Asking : {A : Type 0} → (Actor → Request → Type 0) → Program A → Type 0
Asking P (Done a) = Unit {0}
Asking P (Asks to asked next) = P to asked × ((r : Reply) → Asking P (next r))
Asking P (Reads given) = (n : ℕ) → Asking P (given n)

-- each request is of the kind P, each reply to it means this of the end, and after one that is refused all is of the kind C
abbrev pub Heeds : {A : Type 0} → (Actor → Request → Type 0) → (Actor → Request → Type 0) → (Actor → Request → Reply → A → Type 0) → Program A → Type 0
Heeds P C W (Done a) = Unit {0}
Heeds P C W (Asks to asked next) = P to asked × ((r : Reply) → ComesTo (W to asked r) (next r) × Heeds P C W (next r)) × ((w : Refusal) → Asking C (next (reply.Refused w)))
Heeds P C W (Reads given) = (n : ℕ) → Heeds P C W (given n)

pub any : {A : Type 0} (Q : A → Type 0) → ((a : A) → Q a) → (p : Program A) → ComesTo Q p
any Q all (Done a) = all a
any Q all (Asks to asked next) = λ r. any Q all (next r)
any Q all (Reads given) = λ n. any Q all (given n)

pub then_comes : {A B : Type 0} (Q : A → Type 0) (V : B → Type 0) (f : A → B) → ((a : A) → Q a → V (f a)) → (p : Program A) → ComesTo Q p → ComesTo V (then_do p (λ a. Done (f a)))
unfolding then_do
then_comes Q V f goes (Done a) comes = goes a comes
then_comes Q V f goes (Asks to asked next) comes = λ r. then_comes Q V f goes (next r) (comes r)
then_comes Q V f goes (Reads given) comes = λ n. then_comes Q V f goes (given n) (comes n)

pub then_asking : {A B : Type 0} (P R : Actor → Request → Type 0) (f : A → B) → ((to : Actor) (asked : Request) → P to asked → R to asked) → (p : Program A) → Asking P p → Asking R (then_do p (λ a. Done (f a)))
unfolding then_do
then_asking P R f kind (Done a) asks = tt
then_asking P R f kind (Asks to asked next) asks = (kind to asked asks.0, λ r. then_asking P R f kind (next r) (asks.1 r))
then_asking P R f kind (Reads given) asks = λ n. then_asking P R f kind (given n) (asks n)

pub then_heeds : {A B : Type 0} (P R C D : Actor → Request → Type 0) (W : Actor → Request → Reply → A → Type 0) (V : Actor → Request → Reply → B → Type 0) (f : A → B) →
    ((to : Actor) (asked : Request) → P to asked → R to asked) → ((to : Actor) (asked : Request) → C to asked → D to asked) → ((to : Actor) (asked : Request) (r : Reply) (a : A) → P to asked → W to asked r a → V to asked r (f a)) →
    (p : Program A) → Heeds P C W p → Heeds R D V (then_do p (λ a. Done (f a)))
unfolding then_do
then_heeds P R C D W V f kind ends means (Done a) heeds = tt
then_heeds P R C D W V f kind ends means (Asks to asked next) heeds = (
  kind to asked heeds.0,
  λ r. (
    then_comes (W to asked r) (V to asked r) f (λ a w. means to asked r a heeds.0 w) (next r) (heeds.1 r).0,
    then_heeds P R C D W V f kind ends means (next r) (heeds.1 r).1,
  ),
  λ w. then_asking C D f ends (next (reply.Refused w)) (heeds.2 w),
)
then_heeds P R C D W V f kind ends means (Reads given) heeds = λ n. then_heeds P R C D W V f kind ends means (given n) (heeds n)

pub heeds_asking : (P C : Actor → Request → Type 0) (W : Actor → Request → Reply → Told → Type 0) (p : Program Told) → Heeds P C W p → Asking P p
heeds_asking P C W (Done t) heeds = tt
heeds_asking P C W (Asks to asked next) heeds = (heeds.0, λ r. heeds_asking P C W (next r) (heeds.1 r).1)
heeds_asking P C W (Reads given) heeds = λ n. heeds_asking P C W (given n) (heeds n)

-- ## what was served for a program that is read so

and_first : (a b : Bool) → (a && b) ≡ true → a ≡ true
and_first true b is = refl
and_first false b is = cc

and_second : (a b : Bool) → (a && b) ≡ true → b ≡ true
and_second true b is = is
and_second false b is = cc

-- it was told out of memory, which it could be
abbrev pub Forgot : Bool → Told → Type 0
Forgot lose end = (end ≡ told.Refused told_refusal.Memory) × (lose ≡ true)

forgot_first : (a b : Bool) (Q : Told → Type 0) (end : Told) → Q end ⊎ Forgot (a && b) end → Q end ⊎ Forgot a end
forgot_first a b Q end came = elim came [ inl is ↦ inl is | inr none ↦ inr (none.0, and_first a b none.1) ]

pub ran_comes : (Q : Told → Type 0) (m : Actor) (lose : Bool) (ss : List ServedAt) (p : Program Told) (end : Told) → ComesTo Q p → Ran m lose ss p end → Q end ⊎ Forgot lose end
unfolding Ran
ran_comes Q m lose ss (Done t) end comes ran = elim ran [
  | inl is ↦ inl (subst Q is.1 comes)
  | inr none ↦ inr (none.2, none.0)
]
ran_comes Q m lose ss (Asks to asked next) end comes ran = elim ran [
  | inl heard ↦ forgot_first lose _ Q end (ran_comes Q m _ heard.1 (next heard.0.reply) end (comes heard.0.reply) heard.5)
  | inr other ↦ elim other [
    | inl restart ↦ forgot_first lose _ Q end (ran_comes Q m _ ss (next (reply.Restarted restart.1.0)) end (comes (reply.Restarted restart.1.0)) restart.1.1)
    | inr more ↦ elim more [
      | inl unheard ↦ forgot_first lose _ Q end (ran_comes Q m _ ss (next (reply.Refused refusal.Memory)) end (comes (reply.Refused refusal.Memory)) unheard)
      | inr none ↦ inr (none.2, none.0)
    ]
  ]
]
ran_comes Q m lose ss (Reads given) end comes ran = elim ran [
  | inl read ↦ ran_comes Q m lose ss (given read.0) end (comes read.0) read.1
  | inr none ↦ inr (none.2, none.0)
]

pub no_member : (s : ServedAt) (ss : List ServedAt) → ss ≡ [] → Member s ss → ⊥
no_member s ss is here = subst (λ (l : List ServedAt). Member s l) is here

-- what is said of one that was served
abbrev pub Says : (Actor → Request → Type 0) → (Actor → Request → Reply → Told → Type 0) → Actor → ServedAt → Told → Type 0
Says P W m s end = P s.by s.asked × (W s.by s.asked s.reply end ⊎ Forgot (may_lose_after m s.reply) end)

pub ran_heeds : (P C : Actor → Request → Type 0) (W : Actor → Request → Reply → Told → Type 0) (m : Actor) (lose : Bool) (ss : List ServedAt) (p : Program Told) (end : Told) (s : ServedAt) → Heeds P C W p → Ran m lose ss p end → Member s ss → Says P W m s end
unfolding Ran
ran_heeds P C W m lose ss (Done t) end s heeds ran here = elim ran [
  | inl is ↦ absurd (no_member s ss is.0 here)
  | inr none ↦ absurd (no_member s ss none.1 here)
]
ran_heeds P C W m lose ss (Asks to asked next) end s heeds ran here = elim ran [
  | inl heard ↦
      let u : ServedAt = heard.0 in
      let there : Member s (u ∷ heard.1) = subst (λ (l : List ServedAt). Member s l) heard.2 here in
      elim there [
        | inl is ↦ subst (λ (v : ServedAt). Says P W m v end) (sym is) (
          subst (λ (q : Request). P u.by q) (sym heard.4) (subst (λ (a : Actor). P a asked) (sym heard.3) heeds.0),
          subst (λ (q : Request). W u.by q u.reply end ⊎ Forgot (may_lose_after m u.reply) end) (sym heard.4) (
              subst (λ (a : Actor). W a asked u.reply end ⊎ Forgot (may_lose_after m u.reply) end) (sym heard.3) (
              elim (ran_comes (W to asked u.reply) m (lose && may_lose_after m u.reply) heard.1 (next u.reply) end (heeds.1 u.reply).0 heard.5) [
                | inl means ↦ inl means
                | inr none ↦ inr (none.0, and_second lose (may_lose_after m u.reply) none.1)
              ]
              )
              ),
        )
        | inr more ↦ ran_heeds P C W m _ heard.1 (next u.reply) end s (heeds.1 u.reply).1 heard.5 more
      ]
  | inr other ↦ elim other [
    | inl restart ↦ ran_heeds P C W m _ ss (next (reply.Restarted restart.1.0)) end s (heeds.1 (reply.Restarted restart.1.0)).1 restart.1.1 here
    | inr more ↦ elim more [
      | inl unheard ↦ ran_heeds P C W m _ ss (next (reply.Refused refusal.Memory)) end s (heeds.1 (reply.Refused refusal.Memory)).1 unheard here
      | inr none ↦ absurd (no_member s ss none.1 here)
    ]
  ]
]
ran_heeds P C W m lose ss (Reads given) end s heeds ran here = elim ran [
  | inl read ↦ ran_heeds P C W m lose ss (given read.0) end s (heeds read.0) read.1 here
  | inr none ↦ absurd (no_member s ss none.1 here)
]

-- ## what was served after a request that was refused

pub ran_asking : (P : Actor → Request → Type 0) (m : Actor) (lose : Bool) (ss : List ServedAt) (p : Program Told) (end : Told) (s : ServedAt) → Asking P p → Ran m lose ss p end → Member s ss → P s.by s.asked
unfolding Ran
ran_asking P m lose ss (Done t) end s asks ran here = elim ran [
  | inl is ↦ absurd (no_member s ss is.0 here)
  | inr none ↦ absurd (no_member s ss none.1 here)
]
ran_asking P m lose ss (Asks to asked next) end s asks ran here = elim ran [
  | inl heard ↦
      let u : ServedAt = heard.0 in
      let there : Member s (u ∷ heard.1) = subst (λ (l : List ServedAt). Member s l) heard.2 here in
      elim there [
        | inl is ↦ subst (λ (v : ServedAt). P v.by v.asked) (sym is) (subst (λ (q : Request). P u.by q) (sym heard.4) (subst (λ (a : Actor). P a asked) (sym heard.3) asks.0))
        | inr more ↦ ran_asking P m _ heard.1 (next u.reply) end s (asks.1 u.reply) heard.5 more
      ]
  | inr other ↦ elim other [
    | inl restart ↦ ran_asking P m _ ss (next (reply.Restarted restart.1.0)) end s (asks.1 (reply.Restarted restart.1.0)) restart.1.1 here
    | inr more ↦ elim more [
      | inl unheard ↦ ran_asking P m _ ss (next (reply.Refused refusal.Memory)) end s (asks.1 (reply.Refused refusal.Memory)) unheard here
      | inr none ↦ absurd (no_member s ss none.1 here)
    ]
  ]
]
ran_asking P m lose ss (Reads given) end s asks ran here = elim ran [
  | inl read ↦ ran_asking P m lose ss (given read.0) end s (asks read.0) read.1 here
  | inr none ↦ absurd (no_member s ss none.1 here)
]

no_split : (s : ServedAt) (ss older newer : List ServedAt) → ss ≡ [] → ss ≡ older ++ (s ∷ newer) → ⊥
no_split s ss [] newer none is = cc
no_split s ss (v ∷ older) newer none is = cc

first_split : (v s : ServedAt) (rest older newer : List ServedAt) → v ∷ rest ≡ older ++ (s ∷ newer) → ((v ≡ s) × (rest ≡ newer)) ⊎ ((more : List ServedAt) × (rest ≡ more ++ (s ∷ newer)))
first_split v s rest [] newer is = inl (cc, cc)
first_split v s rest (u ∷ older) newer is = inr (older, cc)

-- the oldest first: what comes after a request that was refused is of the kind C
pub ran_ends : (P C : Actor → Request → Type 0) (W : Actor → Request → Reply → Told → Type 0) (m : Actor) (lose : Bool) (ss older newer : List ServedAt) (p : Program Told) (end : Told) (s u : ServedAt) (w : Refusal) → Heeds P C W p → Ran m lose ss p end →
    ss ≡ older ++ (s ∷ newer) → s.reply ≡ reply.Refused w → Member u newer → C u.by u.asked
unfolding Ran
ran_ends P C W m lose ss older newer (Done t) end s u w heeds ran is refused here = elim ran [
  | inl done ↦ absurd (no_split s ss older newer done.0 is)
  | inr none ↦ absurd (no_split s ss older newer none.1 is)
]
ran_ends P C W m lose ss older newer (Asks to asked next) end s u w heeds ran is refused here = elim ran [
  | inl heard ↦ elim (first_split heard.0 s heard.1 older newer (sym heard.2 ∙ is)) [
    | inl same ↦
        let asks : Asking C (next heard.0.reply) = subst (λ (r : Reply). Asking C (next r)) (sym (ap (λ (v : ServedAt). v.reply) same.0 ∙ refused)) (heeds.2 w) in
        ran_asking C m _ heard.1 (next heard.0.reply) end u asks heard.5 (subst (λ (l : List ServedAt). Member u l) (sym same.1) here)
    | inr deeper ↦ ran_ends P C W m _ heard.1 deeper.0 newer (next heard.0.reply) end s u w (heeds.1 heard.0.reply).1 heard.5 deeper.1 refused here
  ]
  | inr other ↦ elim other [
    | inl restart ↦ ran_ends P C W m _ ss older newer (next (reply.Restarted restart.1.0)) end s u w (heeds.1 (reply.Restarted restart.1.0)).1 restart.1.1 is refused here
    | inr more ↦ elim more [
      | inl unheard ↦ ran_ends P C W m _ ss older newer (next (reply.Refused refusal.Memory)) end s u w (heeds.1 (reply.Refused refusal.Memory)).1 unheard is refused here
      | inr none ↦ absurd (no_split s ss older newer none.1 is)
    ]
  ]
]
ran_ends P C W m lose ss older newer (Reads given) end s u w heeds ran is refused here = elim ran [
  | inl read ↦ ran_ends P C W m lose ss older newer (given read.0) end s u w (heeds read.0) read.1 is refused here
  | inr none ↦ absurd (no_split s ss older newer none.1 is)
]
