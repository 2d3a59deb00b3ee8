-- The test of clocks decides the fact about each finished read.
use Rattle.std.proofs.Common.{◌≡◌, ℕ, ◌+◌, Bool, true, false, ◌&&◌, List, [], ◌∷◌, Option, Some, None, is_some, not, refl, sym, ap, ◌∙◌, inl, inr}
use Rattle.std.specs.List.{list_all}
use Rattle.std.proofs.lemmas.Bool.{le-leb, leb-true}
use Rattle.txn_data.specs.declared.entry.Entry.{Entry}
use Rattle.txn_data.specs.declared.config.Config.{Config}
use Rattle.txn_types.specs.Lists.{Member}
use Rattle.txn_types.specs.History.{History}
use Rattle.txn_types.specs.Reads.{Read, reads, origin, own_reading, ReadsUpTo, SkewHeld}
use Rattle.trace_merge.specs.Clocks.{ClocksAgree}
use Rattle.report_text.specs.Text.{reads_up_to, agrees_at, agreed, Agreed}

all_hold : {A : Type 0} (p : A → Bool) (xs : List A) → ((x : A) → Member x xs → p x ≡ true) → list_all p xs ≡ true
all_hold p [] holds = refl
all_hold p (x ∷ xs) holds = rw (holds x (inl refl)) (all_hold p xs (λ y here. holds y (inr here)))

both : (a b : Bool) → (a && b) ≡ true → (a ≡ true) × (b ≡ true)
both true b is = (refl, is)
both false b is = cc

one_holds : {A : Type 0} (p : A → Bool) (xs : List A) (x : A) → list_all p xs ≡ true → Member x xs → p x ≡ true
one_holds p [] x all here = absurd here
one_holds p (y ∷ ys) x all (inl same) = ap p same ∙ (both (p y) (list_all p ys) all).0
one_holds p (y ∷ ys) x all (inr here) = one_holds p ys x (both (p y) (list_all p ys) all).1 here

up_to : (most : ℕ) (reading : Option ℕ) → ReadsUpTo most reading → reads_up_to most reading ≡ true
up_to most None holds = refl
up_to most (Some reading) holds = le-leb reading most holds

up_to_is : (most : ℕ) (reading : Option ℕ) → reads_up_to most reading ≡ true → ReadsUpTo most reading
up_to_is most None is = tt
up_to_is most (Some reading) is = leb-true reading most is

pub agrees : (config : Config) (read : Read) → SkewHeld config config.skew_us read → agrees_at config read ≡ true
agrees config read held =
    all_hold (λ (e : Entry). reads_up_to (own_reading config read + config.skew_us) e.reading) (origin config read)
    (λ e here. up_to (own_reading config read + config.skew_us) e.reading (held e here))

pub held_at : (config : Config) (read : Read) → agrees_at config read ≡ true → SkewHeld config config.skew_us read
held_at config read is = λ e here.
    up_to_is (own_reading config read + config.skew_us) e.reading
    (one_holds (λ (x : Entry). reads_up_to (own_reading config read + config.skew_us) x.reading) (origin config read) e is here)

pub agreed_is : (config : Config) (h : History) → Agreed config h → agreed config h ≡ true
agreed_is config h all = all_hold (agrees_at config) (reads h) (λ read here. agrees config read (all read here))

pub agreed_says : (config : Config) (h : History) → agreed config h ≡ true → Agreed config h
agreed_says config h is = λ read here. held_at config read (one_holds (agrees_at config) (reads h) read is here)

broken : (b : Bool) → (b ≡ true → ⊥) → b ≡ false
broken true fails = absurd (fails refl)
broken false fails = refl

-- one finished read fails
pub agreed_fails : (config : Config) (h : History) (read : Read) → Member read (reads h) → (SkewHeld config config.skew_us read → ⊥) → agreed config h ≡ false
agreed_fails config h read here fails = broken (agreed config h) (λ is. fails (agreed_says config h is read here))

turned : (a : Bool) → true ≡ not a → a ≡ false
turned true is = cc
turned false is = refl

turned_back : (a : Bool) → false ≡ not a → a ≡ true
turned_back true is = refl
turned_back false is = cc

-- no place means that clocks agreed, and two places that they did not
pub agreed_answer : (config : Config) (h : History) (answer : Option (ℕ × ℕ)) (none : Bool) → is_some answer ≡ not none →
    ClocksAgree config config.skew_us h answer → none ≡ agreed config h
agreed_answer config h None none is all = turned_back none is ∙ sym (agreed_is config h all)
agreed_answer config h (Some places) none is failed = turned none is ∙ sym (agreed_fails config h failed.read failed.finished failed.fails)
