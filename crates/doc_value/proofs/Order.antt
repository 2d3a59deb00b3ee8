-- The order of bytes that stand one behind another, and of numbers high byte first.
use Rattle.std.proofs.Common.{◌≡◌, ℕ, zero, suc, ◌+◌, ◌*◌, ◌%◌, ◌^◌, ◌<◌, ◌≤◌, List, [], ◌∷◌, ◌++◌, refl, sym, ap, ◌∙◌, arith, pow-suc, mul_comm}
use Rattle.std.specs.Cmp.{nat_cmp_is}
use Rattle.std.specs.Cmp.Lexicographic.{slice_cmp}
use Rattle.std.specs.Int.{w16, w32, w64, byte_at, bytes_high_first, to_be_bytes}
use Rattle.std.specs.Ordering.{nat_cmp, ordering_then}
use Rattle.std.specs.declared.cmp.Ordering.{Ordering}
use Rattle.std.specs.declared.cmp.Ordering.TheVariants.{Less, Equal, Greater}
use Rattle.std.proofs.Math.Arith.{mod-mul}
use Rattle.std.proofs.Math.Nat.{pow-le-pow_right, mul-le-mul_left}
use Rattle.std.proofs.lemmas.Cmp.{ranked}
use Rattle.std.proofs.lemmas.List.{append-nil}
use Rattle.std.proofs.lemmas.Nat.{mod_below}

abbrev pub bytes_cmp : List ℕ → List ℕ → Ordering
bytes_cmp a b = slice_cmp nat_cmp a b

pub then_assoc : (a b c : Ordering) → ordering_then (ordering_then a b) c ≡ ordering_then a (ordering_then b c)
then_assoc Less b c = refl
then_assoc Equal b c = refl
then_assoc Greater b c = refl

-- with nothing behind
pub alone : (o : Ordering) → ordering_then o Equal ≡ o
alone Less = refl
alone Equal = refl
alone Greater = refl

pub cmp_less : (a b : ℕ) → a < b → nat_cmp a b ≡ Less
cmp_less a b lt = sym (nat_cmp_is a b Less lt)

pub cmp_equal : (a b : ℕ) → a ≡ b → nat_cmp a b ≡ Equal
cmp_equal a b same = sym (nat_cmp_is a b Equal same)

pub cmp_greater : (a b : ℕ) → b < a → nat_cmp a b ≡ Greater
cmp_greater a b gt = sym (nat_cmp_is a b Greater gt)

-- ---- one behind another

-- neither begins the other, but where they are the same
abbrev pub IsApart : List ℕ → List ℕ → Type 0
IsApart a b = (x y : List ℕ) → a ++ x ≡ b ++ y → a ≡ b

apart_tail : (a b : ℕ) (xs ys : List ℕ) → a ≡ b → IsApart (a ∷ xs) (b ∷ ys) → IsApart xs ys
apart_tail a b xs ys same apart x y e =
    let longer : a ∷ (xs ++ x) ≡ b ∷ (ys ++ y) = cc (same, e) in
    let whole : a ∷ xs ≡ b ∷ ys = apart x y longer in
    cc

behind_head : (o : Ordering) (a b : ℕ) (xs ys x y : List ℕ) → o ≡ nat_cmp a b → IsApart (a ∷ xs) (b ∷ ys)
    → (IsApart xs ys → bytes_cmp (xs ++ x) (ys ++ y) ≡ ordering_then (bytes_cmp xs ys) (bytes_cmp x y))
    → ordering_then o (bytes_cmp (xs ++ x) (ys ++ y)) ≡ ordering_then (ordering_then o (bytes_cmp xs ys)) (bytes_cmp x y)
behind_head Less a b xs ys x y is apart next = refl
behind_head Equal a b xs ys x y is apart next = next (apart_tail a b xs ys (ranked a b Equal is) apart)
behind_head Greater a b xs ys x y is apart next = refl

-- the fronts decide, and where they are the same what stands behind them
pub order_behind : (a b x y : List ℕ) → IsApart a b → bytes_cmp (a ++ x) (b ++ y) ≡ ordering_then (bytes_cmp a b) (bytes_cmp x y)
order_behind [] [] x y apart = refl
order_behind [] (b ∷ ys) x y apart =
    let same : [] ≡ b ∷ ys = apart (b ∷ ys) [] (sym (append-nil (b ∷ ys))) in
    absurd cc
order_behind (a ∷ xs) [] x y apart =
    let same : a ∷ xs ≡ [] = apart [] (a ∷ xs) (append-nil (a ∷ xs)) in
    absurd cc
order_behind (a ∷ xs) (b ∷ ys) x y apart = behind_head (nat_cmp a b) a b xs ys x y refl apart (order_behind xs ys x y)

-- ---- numbers

shift_cmp : (o : Ordering) (c r s : ℕ) → o ≡ nat_cmp r s → nat_cmp (c + r) (c + s) ≡ o
shift_cmp Less c r s is = let lt : r < s = ranked r s Less is in cmp_less (c + r) (c + s) (omega arith)
shift_cmp Equal c r s is = let same : r ≡ s = ranked r s Equal is in cmp_equal (c + r) (c + s) (omega arith)
shift_cmp Greater c r s is = let gt : s < r = ranked r s Greater is in cmp_greater (c + r) (c + s) (omega arith)

digit_less : (a b p r s : ℕ) → a < b → r < p → a * p + r < b * p + s
digit_less a b p r s lt r_lt =
    let step : p * (a + 1) ≤ p * b = mul-le-mul_left p (omega arith) in
    omega (arith, step)

digit_cmp : (o : Ordering) (a b p r s : ℕ) → o ≡ nat_cmp a b → r < p → s < p → nat_cmp (a * p + r) (b * p + s) ≡ ordering_then o (nat_cmp r s)
digit_cmp Less a b p r s is r_lt s_lt = cmp_less _ _ (digit_less a b p r s (ranked a b Less is) r_lt)
digit_cmp Equal a b p r s is r_lt s_lt =
    ap (λ (c : ℕ). nat_cmp (c * p + r) (b * p + s)) (ranked a b Equal is) ∙ shift_cmp (nat_cmp r s) (b * p) r s refl
digit_cmp Greater a b p r s is r_lt s_lt = cmp_greater _ _ (digit_less b a p s r (ranked a b Greater is) s_lt)

-- the lowest bytes of a number: the highest of them, and those below it
high_byte : (k n : ℕ) → byte_at k n * 256 ^ k + n % 256 ^ k ≡ n % 256 ^ suc k
high_byte zero n = omega arith
high_byte (suc k) n =
    let unit : ℕ = 256 ^ suc k in
    let wider : 256 ^ suc (suc k) ≡ 256 * 256 ^ suc k = pow-suc 256 (suc k) ∙ mul_comm unit 256 in
    let some : 0 < unit = pow-le-pow_right {n = 256} (omega arith) {i = 0} {j = suc k} (omega arith) in
    sym (ap (λ (m : ℕ). n % m) wider ∙ mod-mul n {m = 256} {c = unit} (omega arith) some)

low_below : (k n : ℕ) → n % 256 ^ k < 256 ^ k
low_below k n = mod_below n (256 ^ k) (pow-le-pow_right {n = 256} (omega arith) {i = 0} {j = k} (omega arith))

low_bytes_cmp : (k m n : ℕ) (x y : List ℕ) → bytes_cmp (bytes_high_first k m ++ x) (bytes_high_first k n ++ y) ≡ ordering_then (nat_cmp (m % 256 ^ k) (n % 256 ^ k)) (bytes_cmp x y)
low_bytes_cmp zero m n x y = sym (ap (λ (o : Ordering). ordering_then o (bytes_cmp x y)) (cmp_equal (m % 256 ^ 0) (n % 256 ^ 0) (omega arith)))
low_bytes_cmp (suc k) m n x y =
    let high : Ordering = nat_cmp (byte_at k m) (byte_at k n) in
    let low : Ordering = nat_cmp (m % 256 ^ k) (n % 256 ^ k) in
    ap (ordering_then high) (low_bytes_cmp k m n x y)
    ∙ sym (then_assoc high low (bytes_cmp x y))
    ∙ ap (λ (o : Ordering). ordering_then o (bytes_cmp x y)) (sym (digit_cmp high (byte_at k m) (byte_at k n) (256 ^ k) (m % 256 ^ k) (n % 256 ^ k) refl (low_below k m) (low_below k n)))
    ∙ ap (λ (c : ℕ). ordering_then (nat_cmp c (byte_at k n * 256 ^ k + n % 256 ^ k)) (bytes_cmp x y)) (high_byte k m)
    ∙ ap (λ (c : ℕ). ordering_then (nat_cmp (m % 256 ^ suc k) c) (bytes_cmp x y)) (high_byte k n)

pub order_of_64 : (m n : ℕ) (x y : List ℕ) → m < 2 ^ 64 → n < 2 ^ 64 → bytes_cmp (to_be_bytes w64 m ++ x) (to_be_bytes w64 n ++ y) ≡ ordering_then (nat_cmp m n) (bytes_cmp x y)
order_of_64 m n x y m_lt n_lt =
    let m_is : m % 256 ^ 8 ≡ m = omega arith in
    let n_is : n % 256 ^ 8 ≡ n = omega arith in
    low_bytes_cmp 8 m n x y ∙ rw (m_is, n_is) refl

pub order_of_16 : (m n : ℕ) (x y : List ℕ) → m < 2 ^ 16 → n < 2 ^ 16 → bytes_cmp (to_be_bytes w16 m ++ x) (to_be_bytes w16 n ++ y) ≡ ordering_then (nat_cmp m n) (bytes_cmp x y)
order_of_16 m n x y m_lt n_lt =
    let m_is : m % 256 ^ 2 ≡ m = omega arith in
    let n_is : n % 256 ^ 2 ≡ n = omega arith in
    low_bytes_cmp 2 m n x y ∙ rw (m_is, n_is) refl

pub order_of_32 : (m n : ℕ) (x y : List ℕ) → m < 2 ^ 32 → n < 2 ^ 32 → bytes_cmp (to_be_bytes w32 m ++ x) (to_be_bytes w32 n ++ y) ≡ ordering_then (nat_cmp m n) (bytes_cmp x y)
order_of_32 m n x y m_lt n_lt =
    let m_is : m % 256 ^ 4 ≡ m = omega arith in
    let n_is : n % 256 ^ 4 ≡ n = omega arith in
    low_bytes_cmp 4 m n x y ∙ rw (m_is, n_is) refl
