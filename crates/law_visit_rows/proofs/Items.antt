-- What a collect considers, and what a listing tells.
use Rattle.std.proofs.Common.{◌≡◌, ℕ, max, Bool, true, false, ◌&&◌, ◌||◌, not, List, [], ◌∷◌, Option, Some, None, nat_le, map, filter, refl, sym, ◌∙◌, ap, inl, inr, ◌⊎◌}
use Rattle.std.specs.List.{list_any, cons_option, filter_map}
use Rattle.doc_path.specs.Path.{Parts, related}
use Rattle.txn_data.specs.declared.actor.Actor.TheVariants.{Tablet}
use Rattle.txn_data.specs.declared.append.Append.{Append}
use Rattle.txn_data.specs.declared.fate.Fate.{Fate}
use Rattle.txn_data.specs.declared.fate.Fate.TheVariants as fate
use Rattle.txn_data.specs.declared.fate_of.FateOf.{FateOf}
use Rattle.txn_data.specs.declared.found.Found.{Found}
use Rattle.txn_data.specs.declared.met_at.MetAt.{MetAt}
use Rattle.txn_data.specs.declared.read_kind.ReadKind.{ReadKind}
use Rattle.txn_data.specs.declared.reply.Reply.TheVariants as reply
use Rattle.txn_data.specs.declared.request.Request.TheVariants as request
use Rattle.txn_data.specs.declared.row.Row.{Row}
use Rattle.txn_data.specs.declared.version.Version.{Version}
use Rattle.txn_data.specs.declared.window.Window.{Window}
use Rattle.txn_types.specs.Lists.{Member, rising, sorted_by}
use Rattle.txn_types.specs.History.{History}
use Rattle.txn_types.specs.Clock.{told_only, down_since}
use Rattle.txn_types.specs.Tablet.{Intent, version_at, txn_of, home_in, founds, first_fate, is_own, commit_time, under_fate, considered, rows_of, writes_at, met_under, collected, local_limit, provisional, versions, tablet_standing}
use Rattle.txn_types.specs.Run.{Serves}
use Rattle.law_machines.proofs.Basics.{eq_cases, member_cases, member_right, member_map, filter_member, member_filter, member_rising, sorted_from}
use Rattle.law_clocks.proofs.Answered.{list_answered}
use Rattle.law_write_order.proofs.Found.{member_mapped}
use Rattle.law_values.proofs.Orders.{sorted_into}

-- ## a collect

collected_rows : (d : Option ℕ) (kind : ReadKind) (paths : List Parts) (t : ℕ) (vs : List Version) (o : Option MetAt) (rows : List Row) → reply.Collected rows ≡ (tablet_standing d (told_only (collected kind paths t vs o))).reply → rows ≡ rows_of kind paths (writes_at t vs)
collected_rows (Some n) kind paths t vs o rows is = cc
collected_rows None kind paths t vs (Some m) rows is = cc
collected_rows None kind paths t vs None rows is = cc

pub collect_served : (lease k : ℕ) (o : History) (reading own_txn : Option ℕ) (kind : ReadKind) (paths : List Parts) (t : ℕ) (window : Option Window) (fates : List FateOf) (rows : List Row) (time : Option ℕ) (append : Append) →
    Serves lease (Tablet k) o reading (request.Collect own_txn kind paths t window fates) (reply.Collected rows) time append → rows ≡ rows_of kind paths (writes_at t (considered own_txn fates (provisional o) (versions o)))
collect_served lease k o reading own_txn kind paths t window fates rows time append served =
    let vs = considered own_txn fates (provisional o) (versions o) in
    collected_rows (down_since o) kind paths t vs (met_under window t paths vs) rows served.replied

-- ## what is considered

option_cases : {B : Type 0} (o : Option B) (y : B) (ys : List B) → Member y (cons_option o ys) → (o ≡ Some y) ⊎ Member y ys
option_cases (Some w) y ys m = elim m [ inl is ↦ inl (ap Some (sym is)) | inr more ↦ inr more ]
option_cases None y ys m = inr m

mapped_member : {A B : Type 0} (g : A → Option B) (y : B) (xs : List A) → Member y (filter_map g xs) → (x : A) × Member x xs × (g x ≡ Some y)
mapped_member g y [] m = absurd m
mapped_member g y (x ∷ xs) m = elim (option_cases (g x) y (filter_map g xs) m) [
  | inl here ↦ (x, inl refl, here)
  | inr more ↦ let r = mapped_member g y xs more in (r.0, inr r.1, r.2)
]

abbrev fated : Option Fate → Intent → Option Version
fated o p = elim (commit_time o) [ Some c ↦ Some (version_at c p) | None ↦ None ]

fated_is : (o : Option Fate) (p : Intent) (v : Version) → fated o p ≡ Some v → (c : ℕ) × (o ≡ Some (fate.Committed c)) × (version_at c p ≡ v)
fated_is (Some (fate.Committed c)) p v is = (c, refl, cc)
fated_is (Some fate.Pending) p v is = cc
fated_is (Some fate.Aborted) p v is = cc
fated_is (Some fate.Absent) p v is = cc
fated_is None p v is = cc

abbrev is_other : Option ℕ → Intent → Bool
is_other own_txn p = not (is_own own_txn (txn_of p))

abbrev others_of : Option ℕ → List Intent → List Intent
others_of own_txn ps = sorted_by (λ (p q : Intent). nat_le (txn_of p) (txn_of q)) (filter (is_other own_txn) ps)

-- a considered item is a version, or a provisional write with a fate Committed
pub data Item (fates : List FateOf) (ps : List Intent) (vs : List Version) (v : Version) : Type 0 where
  IsVersion : Member v vs → Item fates ps vs v
  IsIntent : (p : Intent) (c : ℕ) → Member p ps → first_fate fates (txn_of p) ≡ Some (fate.Committed c) → version_at c p ≡ v → Item fates ps vs v

pub item_of : (own_txn : Option ℕ) (fates : List FateOf) (ps : List Intent) (vs : List Version) (v : Version) → Member v (considered own_txn fates ps vs) → Item fates ps vs v
item_of own_txn fates ps vs v m = elim (member_cases v vs (filter_map (under_fate fates) (others_of own_txn ps)) m) [
  | inl old ↦ IsVersion old
  | inr new ↦
      let r = mapped_member (under_fate fates) v (others_of own_txn ps) new in
      let p = r.0 in
      let of = (filter_member (is_other own_txn) p ps (sorted_from (λ (p q : Intent). nat_le (txn_of p) (txn_of q)) p (filter (is_other own_txn) ps) r.1)).0 in
      let f = fated_is (first_fate fates (txn_of p)) p v r.2 in
      IsIntent p f.0 of f.1 f.2
]

fated_now : (o : Option Fate) (p : Intent) (c : ℕ) → o ≡ Some (fate.Committed c) → fated o p ≡ Some (version_at c p)
fated_now o p c is = ap (λ (f : Option Fate). fated f p) is

pub intent_item : (own_txn : Option ℕ) (fates : List FateOf) (ps : List Intent) (vs : List Version) (p : Intent) (c : ℕ) → Member p ps → is_own own_txn (txn_of p) ≡ false → first_fate fates (txn_of p) ≡ Some (fate.Committed c) → Member (version_at c p) (considered own_txn fates ps vs)
intent_item own_txn fates ps vs p c m other is =
    let kept : Member p (filter (is_other own_txn) ps) = member_filter (is_other own_txn) p ps m (ap not other) in
    let sorted = sorted_into (λ (p q : Intent). nat_le (txn_of p) (txn_of q)) p (filter (is_other own_txn) ps) kept in
    member_right (version_at c p) vs (filter_map (under_fate fates) (others_of own_txn ps)) (member_mapped (under_fate fates) p (version_at c p) (others_of own_txn ps) sorted (fated_now (first_fate fates (txn_of p)) p c is))

-- the first fate of one that has a fate
pub first_some : (fs : List FateOf) (f : FateOf) (x : ℕ) → Member f fs → f.txn ≡ x → (g : Fate) × (first_fate fs x ≡ Some g)
unfolding first_fate
first_some [] f x m is = absurd m
first_some (k ∷ fs) f x m is = elim (eq_cases k.txn x) [
  | inl same ↦ (k.fate, rw same.0 refl)
  | inr differ ↦ elim m [
    | inl here ↦ absurd (differ.1 (sym (ap (λ (j : FateOf). j.txn) here) ∙ is))
    | inr more ↦ let r = first_some fs f x more is in (r.0, rw differ.0 r.1)
  ]
]

-- ## a listing

abbrev pub list_test : Option ℕ → List Parts → ℕ → ℕ → Intent → Bool
list_test own_txn paths t limit p = not (is_own own_txn (txn_of p)) && nat_le p.wrote (max t limit) && list_any (related p.path) paths

same_listed : (limit other : ℕ) (fs gs : List Found) → reply.Listed limit fs ≡ reply.Listed other gs → (limit ≡ other) × (fs ≡ gs)
same_listed limit other fs gs is = (cc, cc)

-- it tells the transactions of the provisional writes that pass
pub list_served : (lease k : ℕ) (o : History) (reading own_txn : Option ℕ) (paths : List Parts) (t g : ℕ) (known : Option ℕ) (limit : ℕ) (others : List Found) (time : Option ℕ) (append : Append) →
    Serves lease (Tablet k) o reading (request.ListRead own_txn paths t g known) (reply.Listed limit others) time append → others ≡ founds (provisional o) (filter (list_test own_txn paths t limit) (provisional o))
list_served lease k o reading own_txn paths t g known limit others time append served =
    let a = list_answered lease (Tablet k) o reading own_txn paths t g known (reply.Listed limit others) time append served tt in
    let l = local_limit known a.now g in
    let is = same_listed limit l others (founds (provisional o) (filter (list_test own_txn paths t l) (provisional o))) a.reply in
    is.1 ∙ ap (λ (n : ℕ). founds (provisional o) (filter (list_test own_txn paths t n) (provisional o))) (sym is.0)

pub found_of : (all some : List Intent) (p : Intent) → Member p some → (f : Found) × Member f (founds all some) × (f.txn ≡ txn_of p)
found_of all some p m =
    let named : Member (txn_of p) (rising (map txn_of some)) = member_rising (txn_of p) (map txn_of some) (member_map txn_of p some m) in
    (record { txn = txn_of p; status = home_in (txn_of p) all }, member_map (λ (x : ℕ). record { txn = x; status = home_in x all }) (txn_of p) (rising (map txn_of some)) named, refl)

or_left : (b c : Bool) → b ≡ true → (b || c) ≡ true
or_left b c is = rw is refl

or_right : (b c : Bool) → c ≡ true → (b || c) ≡ true
or_right true c is = refl
or_right false c is = is

pub any_of : {A : Type 0} (test : A → Bool) (xs : List A) (x : A) → Member x xs → test x ≡ true → list_any test xs ≡ true
any_of test [] x m is = absurd m
any_of test (y ∷ ys) x m is = elim m [
  | inl here ↦ or_left (test y) (list_any test ys) (ap test (sym here) ∙ is)
  | inr more ↦ or_right (test y) (list_any test ys) (any_of test ys x more is)
]

pub all_three : (a b c : Bool) → a ≡ true → b ≡ true → c ≡ true → (a && b && c) ≡ true
all_three a b c one two three = rw (one, two, three) refl
