-- Words on the prefixes of a path, one after another.
use Rattle.std.proofs.Common.{◌≡◌, ℕ, ◌+◌, ◌-◌, ◌<◌, ◌≤◌, Bool, true, false, List, [], ◌∷◌, ◌++◌, Option, Some, None, zero, suc, nat_lt, length, take, refl, sym, ap, ◌∙◌, subst, arith}
use Rattle.std.specs.Prelude.{option_map, IfSome, slice_index_or}
use Rattle.std.proofs.lemmas.Bool.Decides.{nat_tests}
use Rattle.std.proofs.lemmas.List.{get_or-take, length-take, length-take-le, take_all, take-take}
use Rattle.std.proofs.Math.ListN.{get_or-append, length-append}
use Rattle.std.proofs.Math.Seq.{get_or-append_seam}
use Rattle.doc_path.specs.Path.{Parts}
use Rattle.regular_records.specs.declared.word.Word.{Word}
use Rattle.regular_records.specs.Records.{later}
use Rattle.regular_records.specs.Store.{PathVersions, VersionStore, first_until, first_at, path_versions_at, newest_upto, word_version, IsLonger}
use Rattle.regular_records.specs.PrefixWords.{IsOwnWord, IsWord, AreFirstWords}

pub is_longer : (p : Parts) (i n : ℕ) (w o : Option Word) → n ≡ i + 1 → i < length p → IfSome w (λ x. x.parts ≤ i) → IfSome o (λ x. x.parts ≡ n) → IsLonger p w o
is_longer p i n None None next lt h k = tt
is_longer p i n None (Some o) next lt h k = tt
is_longer p i n (Some w) None next lt h k = tt
is_longer p i n (Some w) (Some o) next lt h k = (omega arith, omega arith)

pub at_most : (n m : ℕ) (o : Option Word) → n ≤ m → IfSome o (λ x. x.parts ≤ n) → IfSome o (λ x. x.parts ≤ m)
at_most n m None le h = tt
at_most n m (Some w) le h = omega arith

pub equal_most : (n : ℕ) (o : Option Word) → IfSome o (λ x. x.parts ≡ n) → IfSome o (λ x. x.parts ≤ n)
equal_most n None h = tt
equal_most n (Some w) h = omega arith

-- the newest version up to t at the first n prefixes
abbrev pub IsAbove : ℕ → Parts → VersionStore → ℕ → Option Word → Type 0
IsAbove t p store n o = (option_map (word_version p) o ≡ newest_upto t p store n) × IfSome o (λ (w : Word). w.parts ≤ n)

-- the last of the first words
pub last-word : (t : ℕ) (p : Parts) (store : VersionStore) (ws : List (Option Word)) → AreFirstWords t p store ws → IsAbove t p store (length ws) (slice_index_or ws (length ws - 1) None)
unfolding newest_upto
last-word t p store [] are = (refl, tt)
last-word t p store (w ∷ ws) are =
    let is : suc (length (w ∷ ws) - 1) ≡ length (w ∷ ws) = omega arith in
    subst (λ n. IsAbove t p store n (slice_index_or (w ∷ ws) (length (w ∷ ws) - 1) None)) is (are (length (w ∷ ws) - 1) (omega arith))

pub next-word : (t : ℕ) (p : Parts) (store : VersionStore) (n : ℕ) (above own new : Option Word) → IsAbove t p store n above → IsOwnWord t p store n own
    → option_map (word_version p) new ≡ later (option_map (word_version p) above) (option_map (word_version p) own) → IfSome new (λ w. w.parts ≤ suc n)
    → IsWord t p store n new
unfolding newest_upto
next-word t p store n above own new a o is parts = (
  is
      ∙ ap (λ x. later x (option_map (word_version p) own)) a.0
      ∙ ap (later (newest_upto t p store n)) o.0,
  parts,
)

pub words-push : (t : ℕ) (p : Parts) (store : VersionStore) (ws : List (Option Word)) (new : Option Word) → AreFirstWords t p store ws → IsWord t p store (length ws) new
    → AreFirstWords t p store (ws ++ new ∷ [])
words-push t p store ws new are is n inside =
    let many : length (ws ++ new ∷ []) ≡ length ws + 1 = length-append ws (new ∷ []) in
    let P : Bool → Type 0 = λ b. nat_lt n (length ws) ≡ b → IsWord t p store n (slice_index_or (ws ++ new ∷ []) n None) in
    (elim (nat_lt n (length ws)) as P [
      | true ↦ λ b.
          let less : n < length ws = grind (arith, nat_tests) in
          subst (IsWord t p store n) (sym (get_or-append ws (new ∷ []) None n less)) (are n less)
      | false ↦ λ b.
          let last : length ws ≡ n = grind (arith, nat_tests) in
          subst (λ m. IsWord t p store m (slice_index_or (ws ++ new ∷ []) m None)) last (subst (IsWord t p store (length ws)) (sym (get_or-append_seam ws new [] None)) is)
    ]) refl

-- ---- another path

take-fewer : (m k : ℕ) (p q : Parts) → m ≤ k → take k p ≡ take k q → take m p ≡ take m q
take-fewer m k p q le is = sym (take-take m k p le) ∙ ap (take m) is ∙ take-take m k q le

newest-move : (t : ℕ) (p q : Parts) (store : VersionStore) (k n : ℕ) → n ≤ k → take k p ≡ take k q → newest_upto t p store n ≡ newest_upto t q store n
unfolding newest_upto
newest-move t p q store k zero le is = refl
newest-move t p q store k (suc n) le is =
    ap (λ x. later x (first_at t (take (suc n) p) (path_versions_at (take (suc n) p) store))) (newest-move t p q store k n (omega arith) is)
    ∙ ap (λ r. later (newest_upto t q store n) (first_at t r (path_versions_at r store))) (take-fewer (suc n) k p q le is)

version-move : (p q : Parts) (k n : ℕ) (o : Option Word) → n ≤ k → take k p ≡ take k q → IfSome o (λ (w : Word). w.parts ≤ n) → option_map (word_version q) o ≡ option_map (word_version p) o
version-move p q k n None le is parts = refl
version-move p q k n (Some w) le is parts =
    ap (λ r. Some (record { path = r; at = w.at.now; wrote = w.value.now.wrote; number = w.number; op = w.value.now.op })) (sym (take-fewer w.parts k p q (omega arith) is))

pub words-move : (t : ℕ) (p q : Parts) (store : VersionStore) (ws : List (Option Word)) (k : ℕ) → AreFirstWords t p store ws → take k p ≡ take k q → AreFirstWords t q store (take k ws)
words-move t p q store ws k are is n inside =
    let many = length-take k ws in
    let less : n < k = omega arith in
    let there : n < length ws = omega arith in
    let o = slice_index_or ws n None in
    let word = are n there in
    subst (IsWord t q store n) (sym (get_or-take k ws n None less))
    (version-move p q k (suc n) o (omega arith) is word.1 ∙ word.0 ∙ newest-move t p q store k (suc n) (omega arith) is, word.1)

pub own-word : (t : ℕ) (p : Parts) (store : VersionStore) (i n : ℕ) (o : Option Word) → i < length p → n ≡ i
    → option_map (word_version p) o ≡ first_at t (take (length (take (i + 1) p)) p) (path_versions_at (take (i + 1) p) store)
    → IfSome o (λ (w : Word). w.parts ≡ length (take (i + 1) p)) → IsOwnWord t p store n o
own-word t p store i n o inside same is parts =
    let next : i + 1 ≡ suc n = omega arith in
    let many : length (take (i + 1) p) ≡ suc n = length-take-le (i + 1) p (omega arith) ∙ next in (
      is ∙ ap (λ m. first_at t (take m p) (path_versions_at (take (i + 1) p) store)) many ∙ ap (λ m. first_at t (take (suc n) p) (path_versions_at (take m p) store)) next,
      subst (λ m. IfSome o (λ (w : Word). w.parts ≡ m)) many parts,
    )

pub own-last : (t : ℕ) (p : Parts) (store : VersionStore) (n parts : ℕ) (versions : PathVersions) (o : Option Word) → suc n ≡ length p → parts ≡ length p
    → path_versions_at p store ≡ Some versions
    → option_map (word_version p) o ≡ first_until t (take parts p) versions.entries → IfSome o (λ (w : Word). w.parts ≡ parts) → IsOwnWord t p store n o
own-last t p store n parts versions o next same there is own =
    let whole : take (suc n) p ≡ p = take_all (suc n) p (omega arith) in (
      is
          ∙ ap (λ m. first_until t (take m p) versions.entries) (same ∙ sym next)
          ∙ ap (first_at t (take (suc n) p)) (sym (ap (λ q. path_versions_at q store) whole ∙ there)),
      subst (λ m. IfSome o (λ (w : Word). w.parts ≡ m)) (same ∙ sym next) own,
    )
