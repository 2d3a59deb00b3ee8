-- Facts of a history by a test that computes.
use Rattle.std.proofs.Common.{◌≡◌, ℕ, zero, suc, ◌+◌, ◌-◌, Bool, true, false, ◌&&◌, ◌||◌, List, [], ◌∷◌, Option, Some, None, nat_eq, nat_le, refl, sym, ap, inl, inr}
use Rattle.std.specs.List.{list_all, flat_map}
use Rattle.std.proofs.lemmas.Bool.{leb-true, le-leb, eqb-true, eq-eqb, and_parts, and_from, or_left, or_right}
use Rattle.txn_data.specs.declared.committed_txn.CommittedTxn.{CommittedTxn}
use Rattle.txn_data.specs.declared.config.Config.{Config}
use Rattle.txn_data.specs.declared.entry.Entry.{Entry}
use Rattle.txn_data.specs.declared.place.Place.{Place}
use Rattle.txn_types.specs.Lists.{Member}
use Rattle.txn_types.specs.History.{History}
use Rattle.txn_types.specs.Plan.{OneTablet, PlacesAgree, first_part, started_places}
use Rattle.txn_types.specs.Reads.{Read, ReadsUpTo, SkewHeld, reads, own_reading, origin}

-- the entry after this many later ones
abbrev entry_at : ℕ → History → Option Entry
entry_at n [] = None
entry_at zero (e ∷ h) = Some e
entry_at (suc n) (e ∷ h) = entry_at n h

pub member_at : (n : ℕ) (e : Entry) (h : History) → entry_at n h ≡ Some e → Member e h
member_at n e [] is = cc
member_at zero e (f ∷ h) is = inl cc
member_at (suc n) e (f ∷ h) is = inr (member_at n e h is)

-- no reading is above this
abbrev is_up_to : ℕ → Option ℕ → Bool
is_up_to most None = true
is_up_to most (Some reading) = nat_le reading most

abbrev are_up_to : ℕ → History → Bool
are_up_to most [] = true
are_up_to most (e ∷ h) = is_up_to most e.reading && are_up_to most h

reads_up_to : (most : ℕ) (reading : Option ℕ) → is_up_to most reading ≡ true → ReadsUpTo most reading
reads_up_to most None is = tt
reads_up_to most (Some reading) is = leb-true reading most is

pub all_up_to : (most : ℕ) (h : History) (e : Entry) → are_up_to most h ≡ true → Member e h → ReadsUpTo most e.reading
all_up_to most [] e is m = absurd m
all_up_to most (f ∷ h) e is m =
    let parts = and_parts (is_up_to most f.reading) (are_up_to most h) is in
    elim m [
      | inl here ↦ rw here (reads_up_to most f.reading parts.0)
      | inr later ↦ all_up_to most h e parts.1 later
    ]

up_to : (most : ℕ) (reading : Option ℕ) → ReadsUpTo most reading → is_up_to most reading ≡ true
up_to most None below = refl
up_to most (Some reading) below = le-leb reading most below

are_up : (most : ℕ) (h : History) → ((e : Entry) → Member e h → ReadsUpTo most e.reading) → are_up_to most h ≡ true
are_up most [] each = refl
are_up most (e ∷ h) each =
    and_from _ _ (up_to most e.reading (each e (inl refl))) (are_up most h (λ f m. each f (inr m)))

-- clocks agree within the skew before a read, or do not

abbrev skew_fits : Config → Read → Bool
skew_fits config read = are_up_to (own_reading config read + config.skew_us) (origin config read)

pub skew_held : (config : Config) (read : Read) → skew_fits config read ≡ true → SkewHeld config config.skew_us read
skew_held config read is =
    λ e m. all_up_to (own_reading config read + config.skew_us) (origin config read) e is m

pub skew_broken : (config : Config) (read : Read) → skew_fits config read ≡ false → SkewHeld config config.skew_us read → ⊥
skew_broken config read is held =
    let fits : skew_fits config read ≡ true = are_up (own_reading config read + config.skew_us) (origin config read) held in
    cc

-- what stands at a position in a list, and that it is one of the list
abbrev pub nth : {A : Type 0} → A → ℕ → List A → A
nth d n [] = d
nth d zero (x ∷ xs) = x
nth d (suc n) (x ∷ xs) = nth d n xs

abbrev pub is_at : {A : Type 0} → ℕ → List A → Bool
is_at n [] = false
is_at zero (x ∷ xs) = true
is_at (suc n) (x ∷ xs) = is_at n xs

pub nth_member : {A : Type 0} (d : A) (n : ℕ) (xs : List A) → is_at n xs ≡ true → Member (nth d n xs) xs
nth_member d n [] is = cc
nth_member d zero (x ∷ xs) is = inl refl
nth_member d (suc n) (x ∷ xs) is = inr (nth_member d n xs is)

-- the finished read and the commit that stand there, the newest first
abbrev pub read_at : ℕ → History → Read
read_at n h = nth (record { session = 0; before = []; at = 0; restarts = 0; rows = [] }) n (reads h)

abbrev pub commit_at : ℕ → List CommittedTxn → CommittedTxn
commit_at n xs = nth (record { txn = 0; at = 0; writes = [] }) n xs

pub is_read : (n : ℕ) (h : History) → is_at n (reads h) ≡ true → Member (read_at n h) (reads h)
is_read n h is = nth_member _ n (reads h) is

pub is_commit : (n : ℕ) (xs : List CommittedTxn) → is_at n xs ≡ true → Member (commit_at n xs) xs
is_commit n xs is = nth_member _ n xs is

-- each place is at the home of its document
abbrev is_home : (Option (List ℕ) → ℕ) → Place → Bool
is_home home p = nat_eq p.tablet (home (first_part p.path))

-- a commit is none of these where none has its id
abbrev has_txn : ℕ → List CommittedTxn → Bool
has_txn id [] = false
has_txn id (x ∷ xs) = nat_eq x.txn id || has_txn id xs

has_its_txn : (x : CommittedTxn) (xs : List CommittedTxn) → Member x xs → has_txn x.txn xs ≡ true
has_its_txn x [] m = absurd m
has_its_txn x (y ∷ ys) (inl here) = or_left _ _ (eq-eqb y.txn x.txn (ap (λ (z : CommittedTxn). z.txn) (sym here)))
has_its_txn x (y ∷ ys) (inr later) = or_right _ _ (has_its_txn x ys later)

pub is_no_commit : (x : CommittedTxn) (xs : List CommittedTxn) → has_txn x.txn xs ≡ false → Member x xs → ⊥
is_no_commit x xs is m = let there = has_its_txn x xs m in cc

-- of two documents, the one whose name begins with the byte 98 is at tablet 1
abbrev pub by_byte : Option (List ℕ) → ℕ
by_byte (Some (byte ∷ more)) = byte - 97
by_byte part = 0

at_home : (home : Option (List ℕ) → ℕ) (ps : List Place) (p : Place) → list_all (is_home home) ps ≡ true → Member p ps →
    p.tablet ≡ home (first_part p.path)
at_home home [] p is m = absurd m
at_home home (q ∷ ps) p is m =
    let parts = and_parts (is_home home q) (list_all (is_home home) ps) is in
    elim m [
      | inl here ↦ rw here (eqb-true q.tablet (home (first_part q.path)) parts.0)
      | inr later ↦ at_home home ps p parts.1 later
    ]

-- there are two places of a document, at different tablets
pub two_homes : (h : History) (p q : Place) → Member p (flat_map (λ (e : Entry). started_places e.event) h) →
    Member q (flat_map (λ (e : Entry). started_places e.event) h) → first_part p.path ≡ first_part q.path → nat_eq p.tablet q.tablet ≡ false →
    PlacesAgree h → ⊥
two_homes h p q at_p at_q same is agree =
    let one = eq-eqb p.tablet q.tablet (agree p q at_p at_q same) in
    cc

pub one_tablet : (home : Option (List ℕ) → ℕ) (ps : List Place) → list_all (is_home home) ps ≡ true → OneTablet ps
one_tablet home ps is = λ p q at_p at_q same.
    let by_p = at_home home ps p is at_p in
    let by_q = at_home home ps q is at_q in
    let homes = ap home same in
    cc

pub one_home : (home : Option (List ℕ) → ℕ) (h : History) →
    list_all (is_home home) (flat_map (λ (e : Entry). started_places e.event) h) ≡ true → PlacesAgree h
one_home home h is = one_tablet home (flat_map (λ (e : Entry). started_places e.event) h) is
