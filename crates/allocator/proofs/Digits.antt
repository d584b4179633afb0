-- The binary digits of a word: of `&`, `|` and `!`, of a power of two, and how many are set.
use mathlib.Core.Path.{◌≡◌, refl, sym, ap, ap₂, ◌∙◌, fun_ext}
use mathlib.Core.Bool.{Bool, false, not, cond, ◌&&◌, ◌||◌}
use Prim.Native.Nat.compare
use Prim.Native.Nat.{ℕ, zero, suc, ◌+◌, ◌-◌, ◌/◌, ◌%◌, ◌^◌, ◌<◌, min, max}
use native.Mathlib.Nat.{mod-lt, lt_of_le_of_lt, min-le_left, zero-lt-suc, div-one, le_of_suc-le-suc}
use native.Mathlib.Numerals.{one-add}
use native.Mathlib.Omega.{arith}
use lib.Arith.{digits_mod, lt-one}
use lib.Pow.{shr-shr, pow_pos}
use lib.Bits.{bit_and, and_step, and_shr, and_le_l, bit_or, or_step, or_shr}
use lib.Count.{ones, ones_step}
use lib.Dec.{eqb, compare_is_eq}
use Rattle.ranges.specs.Below.{count_below, sum_below}
use Rattle.ranges.specs.Counting.{count-front}
use Rattle.allocator.specs.Words.{digit}

pub digit-zero : (n : ℕ) → digit n 0 ≡ eqb (n % 2) 1
unfolding digit
digit-zero n = ap (λ (x : ℕ). eqb (x % 2) 1) (div-one n)

pub digit-suc : (n k : ℕ) → digit n (suc k) ≡ digit (n / 2) k
unfolding digit
digit-suc n k = ap (λ (x : ℕ). eqb (x % 2) 1) (ap (λ (x : ℕ). n / 2 ^ x) (sym (one-add k)) ∙ sym (shr-shr n 1 k))

-- ---- a & b

min-digit : (p q : ℕ) → p < 2 → q < 2 → eqb (min p q) 1 ≡ (eqb p 1 && eqb q 1)
min-digit zero zero hp hq = refl
min-digit zero (suc zero) hp hq = refl
min-digit (suc zero) zero hp hq = refl
min-digit (suc zero) (suc zero) hp hq = refl
min-digit zero (suc (suc q)) hp hq = absurd (omega arith)
min-digit (suc zero) (suc (suc q)) hp hq = absurd (omega arith)
min-digit (suc (suc p)) q hp hq = absurd (omega arith)

and-odd : (a b : ℕ) → bit_and a b % 2 ≡ min (a % 2) (b % 2)
and-odd a b =
    ap (λ (x : ℕ). x % 2) (and_step a b)
    ∙ digits_mod (bit_and (a / 2) (b / 2)) (lt_of_le_of_lt (min-le_left (a % 2) (b % 2)) (mod-lt a (zero-lt-suc 1)))

pub digit_and : (k a b : ℕ) → digit (bit_and a b) k ≡ (digit a k && digit b k)
digit_and zero a b =
    digit-zero (bit_and a b) ∙ ap (λ (x : ℕ). eqb x 1) (and-odd a b)
    ∙ min-digit (a % 2) (b % 2) (mod-lt a (zero-lt-suc 1)) (mod-lt b (zero-lt-suc 1))
    ∙ sym (ap₂ ◌&&◌ (digit-zero a) (digit-zero b))
digit_and (suc k) a b =
    digit-suc (bit_and a b) k ∙ ap (λ (x : ℕ). digit x k) (and_shr a b 1) ∙ digit_and k (a / 2) (b / 2)
    ∙ sym (ap₂ ◌&&◌ (digit-suc a k) (digit-suc b k))

-- ---- a | b

max-digit : (p q : ℕ) → p < 2 → q < 2 → eqb (max p q) 1 ≡ (eqb p 1 || eqb q 1)
max-digit zero zero hp hq = refl
max-digit zero (suc zero) hp hq = refl
max-digit (suc zero) zero hp hq = refl
max-digit (suc zero) (suc zero) hp hq = refl
max-digit zero (suc (suc q)) hp hq = absurd (omega arith)
max-digit (suc zero) (suc (suc q)) hp hq = absurd (omega arith)
max-digit (suc (suc p)) q hp hq = absurd (omega arith)

or-odd : (a b : ℕ) → bit_or a b % 2 ≡ max (a % 2) (b % 2)
or-odd a b = ap (λ (x : ℕ). x % 2) (or_step a b) ∙ digits_mod (bit_or (a / 2) (b / 2)) (omega arith)

pub digit_or : (k a b : ℕ) → digit (bit_or a b) k ≡ (digit a k || digit b k)
digit_or zero a b =
    digit-zero (bit_or a b) ∙ ap (λ (x : ℕ). eqb x 1) (or-odd a b)
    ∙ max-digit (a % 2) (b % 2) (mod-lt a (zero-lt-suc 1)) (mod-lt b (zero-lt-suc 1))
    ∙ sym (ap₂ ◌||◌ (digit-zero a) (digit-zero b))
digit_or (suc k) a b =
    digit-suc (bit_or a b) k ∙ ap (λ (x : ℕ). digit x k) (or_shr a b 1) ∙ digit_or k (a / 2) (b / 2)
    ∙ sym (ap₂ ◌||◌ (digit-suc a k) (digit-suc b k))

-- ---- !m, of w digits

not_digit : (p : ℕ) → p < 2 → eqb (1 - p) 1 ≡ not (eqb p 1)
not_digit zero h = refl
not_digit (suc zero) h = refl
not_digit (suc (suc p)) h = absurd (omega arith)

pub digit_not : (w k m : ℕ) → m < 2 ^ w → k < w → digit ((2 ^ w - 1) - m) k ≡ not (digit m k)
digit_not zero k m hm hk = absurd (omega arith)
digit_not (suc w) zero m hm hk =
    let e : ((2 ^ suc w - 1) - m) % 2 ≡ 1 - m % 2 = omega (arith, pow_pos w) in
    digit-zero ((2 ^ suc w - 1) - m) ∙ ap (λ (x : ℕ). eqb x 1) e ∙ not_digit (m % 2) (mod-lt m (zero-lt-suc 1)) ∙ sym (ap not (digit-zero m))
digit_not (suc w) (suc k) m hm hk =
    let e : ((2 ^ suc w - 1) - m) / 2 ≡ (2 ^ w - 1) - m / 2 = omega (arith, pow_pos w) in
    digit-suc ((2 ^ suc w - 1) - m) k ∙ ap (λ (x : ℕ). digit x k) e ∙ digit_not w k (m / 2) (omega arith) (le_of_suc-le-suc hk)
    ∙ sym (ap not (digit-suc m k))

-- ---- 2 ^ s

pub digit-none : (k : ℕ) → digit 0 k ≡ false
digit-none zero = digit-zero 0
digit-none (suc k) = digit-suc 0 k ∙ digit-none k

pub digit-pow : (s k : ℕ) → digit (2 ^ s) k ≡ eqb k s
digit-pow zero zero = digit-zero 1
digit-pow zero (suc k) = digit-suc 1 k ∙ digit-none k ∙ sym (ap compare_is_eq (compare.suc-zero k))
digit-pow (suc s) zero =
    let e : 2 ^ suc s % 2 ≡ 0 = omega arith in
    digit-zero (2 ^ suc s) ∙ ap (λ (x : ℕ). eqb x 1) e ∙ sym (ap compare_is_eq (compare.zero-suc s))
digit-pow (suc s) (suc k) =
    let e : 2 ^ suc s / 2 ≡ 2 ^ s = omega arith in
    digit-suc (2 ^ suc s) k ∙ ap (λ (x : ℕ). digit x k) e ∙ digit-pow s k ∙ sym (ap compare_is_eq (compare.suc-suc k s))

-- ---- how many are set

one-digit : (p : ℕ) → p < 2 → p ≡ cond (eqb p 1) 1 0
one-digit zero h = refl
one-digit (suc zero) h = refl
one-digit (suc (suc p)) h = absurd (omega arith)

-- the set digits of a number of w digits
ones-count : (w n : ℕ) → n < 2 ^ w → ones n ≡ count_below w (digit n)
unfolding count_below sum_below ones
ones-count zero n h = ap ones (lt-one h)
ones-count (suc w) n h =
    ones_step n
    ∙ ap₂ ◌+◌ (one-digit (n % 2) (mod-lt n (zero-lt-suc 1)) ∙ ap (λ (t : Bool). cond t 1 0) (sym (digit-zero n)))
    (ones-count w (n / 2) (omega arith) ∙ ap (count_below w) (fun_ext λ k. sym (digit-suc n k)))
    ∙ sym (count-front w (digit n))

-- the set digits of a & b are those that both have
pub ones_and : (w a b : ℕ) → a < 2 ^ w → ones (bit_and a b) ≡ count_below w (λ k. digit a k && digit b k)
ones_and w a b h = ones-count w (bit_and a b) (lt_of_le_of_lt (and_le_l a b) h) ∙ ap (count_below w) (fun_ext λ k. digit_and k a b)
