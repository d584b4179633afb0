-- A row of four words, by its bits.
use mathlib.Core.Path.{◌≡◌, refl, sym, ap, ap₂, ◌∙◌}
use mathlib.Core.Bool.{Bool, true, false, not, cond, ◌&&◌, ◌||◌}
use mathlib.Core.List.{List, [], ◌∷◌}
use Prim.Native.Nat.{ℕ, zero, suc, ◌+◌, ◌-◌, ◌*◌, ◌/◌, ◌%◌, ◌^◌, ◌<◌}
use native.Mathlib.Omega.{arith}
use lib.Bits.{bit_and, bit_or}
use native.Mathlib.Decide.{ℕ_discrete}
use lib.Dec.{eqb, lit<}
use lib.Pow.{shl_exact, pow-lt}
use lib.ListN.{get_or, set, length, get_or-eq_default}
use lib.Seq.{get_or-set_same, get_or-set_other}
use borrow.Author.Tests.{eq-eqb, ne_eqb}
use Rattle.ranges.specs.Below.{count_below}
use Rattle.ranges.specs.Counting.{count_add, count_same}
use Rattle.allocator.specs.Words.{digit, bit_of, shared_bits, shared_digits}
use Rattle.allocator.proofs.Digits.{digit_and, digit_not, digit-pow, digit-none, digit_or}

-- bit k of word w
pub bit_of-at : (row : List ℕ) (i w k : ℕ) → k < 64 → i ≡ w * 64 + k → bit_of row i ≡ digit (get_or row w 0) k
unfolding bit_of
bit_of-at row i w k h e =
    let p : i / 64 ≡ w = omega arith in
    let q : i % 64 ≡ k = omega arith in
    ap₂ (λ (x y : ℕ). digit (get_or row x 0) y) p q

-- word w's part of the shared bits; s is where it begins
word : (a b : List ℕ) (w : ℕ) (s : ℕ → ℕ) → ((k : ℕ) → k < 64 → s k ≡ w * 64 + k)
    → count_below 64 (λ k. bit_of a (s k) && bit_of b (s k)) ≡ shared_digits (get_or a w 0) (get_or b w 0)
unfolding shared_digits
word a b w s h =
    count_same 64 (λ k. bit_of a (s k) && bit_of b (s k)) (λ k. digit (get_or a w 0) k && digit (get_or b w 0) k)
    (λ k l. ap₂ ◌&&◌ (bit_of-at a (s k) w k l (h k l)) (bit_of-at b (s k) w k l (h k l)))

pub shared-four : (a b : List ℕ)
    → shared_bits a b
    ≡ shared_digits (get_or a 0 0) (get_or b 0 0) + shared_digits (get_or a 1 0) (get_or b 1 0) + shared_digits (get_or a 2 0) (get_or b 2 0) + shared_digits (get_or a 3 0) (get_or b 3 0)
unfolding shared_bits
shared-four a b =
    let p : ℕ → Bool = λ k. bit_of a k && bit_of b k in
    let e₁ : count_below 256 p ≡ count_below 64 p + count_below 192 (λ k. p (64 + k)) = count_add 64 192 p in
    let e₂ : count_below 192 (λ k. p (64 + k)) ≡ count_below 64 (λ k. p (64 + k)) + count_below 128 (λ k. p (64 + (64 + k))) = count_add 64 128 (λ k. p (64 + k)) in
    let e₃ : count_below 128 (λ k. p (64 + (64 + k))) ≡ count_below 64 (λ k. p (64 + (64 + k))) + count_below 64 (λ k. p (64 + (64 + (64 + k)))) =
    count_add 64 64 (λ k. p (64 + (64 + k))) in
    let w₀ = word a b 0 (λ k. k) (λ k l. omega arith) in
    let w₁ = word a b 1 (λ k. 64 + k) (λ k l. omega arith) in
    let w₂ = word a b 2 (λ k. 64 + (64 + k)) (λ k l. omega arith) in
    let w₃ = word a b 3 (λ k. 64 + (64 + (64 + k))) (λ k l. omega arith) in
    omega (arith, e₁, e₂, e₃, w₀, w₁, w₂, w₃)

-- a row whose words are those of a & b
pub bits-and : (a b r : List ℕ) → ((w : ℕ) → get_or r w 0 ≡ bit_and (get_or a w 0) (get_or b w 0)) → (j : ℕ) → bit_of r j ≡ (bit_of a j && bit_of b j)
unfolding bit_of
bits-and a b r h j = ap (λ (x : ℕ). digit x (j % 64)) (h (j / 64)) ∙ digit_and (j % 64) (get_or a (j / 64) 0) (get_or b (j / 64) 0)

-- the four words of a & b, and 0 past them
pub four-and : (a b : List ℕ) → length a ≡ 4 → (w : ℕ)
    → get_or
    (bit_and (get_or a 0 0) (get_or b 0 0) ∷ bit_and (get_or a 1 0) (get_or b 1 0) ∷ bit_and (get_or a 2 0) (get_or b 2 0) ∷ bit_and (get_or a 3 0) (get_or b 3 0) ∷ []) w 0
    ≡ bit_and (get_or a w 0) (get_or b w 0)
four-and a b h zero = refl
four-and a b h (suc zero) = refl
four-and a b h (suc (suc zero)) = refl
four-and a b h (suc (suc (suc zero))) = refl
four-and a b h (suc (suc (suc (suc w)))) =
    let n = suc (suc (suc (suc w))) in
    let e : get_or a n 0 ≡ 0 = get_or-eq_default a 0 {n = n} (omega arith) in
    sym (ap (λ (x : ℕ). bit_and x (get_or b n 0)) e)

same-eqb : (a b c d : ℕ) → (a ≡ b → c ≡ d) → (c ≡ d → a ≡ b) → eqb a b ≡ eqb c d
same-eqb a b c d f g =
    elim (ℕ_discrete a b) [
      | yes e ↦ eq-eqb a b e ∙ sym (eq-eqb c d (f e))
      | no n ↦ ne_eqb a b n ∙ sym (ne_eqb c d (λ e. n (g e)))
    ]

pub on-true : (t on : Bool) → on ≡ true → t ≡ (t && on)
on-true true on e = sym e
on-true false on e = refl

or-cond : (x e : Bool) → (x || e) ≡ cond e true x
or-cond true true = refl
or-cond true false = refl
or-cond false true = refl
or-cond false false = refl

and-not : (x e : Bool) → (x && not e) ≡ cond e false x
and-not true true = refl
and-not true false = refl
and-not false true = refl
and-not false false = refl

mask : (k : ℕ) → (1 * 2 ^ (k % 64)) % 2 ^ 64 ≡ 2 ^ (k % 64)
mask k = shl_exact {a = 1} 1 (k % 64) 64 (lit< tt) (omega arith) ∙ omega arith

-- word k / 64 becomes v, whose digit k % 64 is e and whose others are as they were: so does bit k of the row
bits-set : (row : List ℕ) (k v : ℕ) (e : Bool) → length row ≡ 4 → k < 256
    → ((t : ℕ) → t < 64 → digit v t ≡ cond (eqb t (k % 64)) e (digit (get_or row (k / 64) 0) t))
    → (j : ℕ) → bit_of (set row (k / 64) v) j ≡ cond (eqb j k) e (bit_of row j)
unfolding bit_of
bits-set row k v e l h d j = go (ℕ_discrete (j / 64) (k / 64))
  where
    go : Dec (j / 64 ≡ k / 64) → bit_of (set row (k / 64) v) j ≡ cond (eqb j k) e (bit_of row j)
    go (yes q) =
        let p : get_or (set row (k / 64) v) (j / 64) 0 ≡ v = ap (λ (i : ℕ). get_or (set row (k / 64) v) i 0) q ∙ get_or-set_same row (k / 64) v 0 (omega arith) in
        let b : eqb (j % 64) (k % 64) ≡ eqb j k = same-eqb (j % 64) (k % 64) j k (λ f. omega arith) (λ f. omega arith) in
        ap (λ (y : ℕ). digit y (j % 64)) p ∙ d (j % 64) (omega arith)
        ∙ ap₂ (λ (t : Bool) (i : ℕ). cond t e (digit (get_or row i 0) (j % 64))) b (sym q)
    go (no n) =
        ap (λ (y : ℕ). digit y (j % 64)) (get_or-set_other row (k / 64) (j / 64) v 0 n)
        ∙ ap (λ (t : Bool). cond t e (bit_of row j)) (sym (ne_eqb j k (λ q. n (ap (λ (i : ℕ). i / 64) q))))

-- the word without the digit, and with it, as the code makes them
pub bits-clear : (row : List ℕ) (k : ℕ) → length row ≡ 4 → k < 256 → (j : ℕ)
    → bit_of (set row (k / 64) (bit_and (get_or row (k / 64) 0) (18446744073709551615 - (1 * 2 ^ (k % 64)) % 18446744073709551616))) j
    ≡ cond (eqb j k) false (bit_of row j)
bits-clear row k l h =
    let x = get_or row (k / 64) 0 in
    bits-set row k _ false l h (λ t ht.
    ap (λ (m : ℕ). digit (bit_and x (18446744073709551615 - m)) t) (mask k)
    ∙ digit_and t x (18446744073709551615 - 2 ^ (k % 64))
    ∙ ap (λ (y : Bool). digit x t && y)
    (digit_not 64 t (2 ^ (k % 64)) (pow-lt {i = k % 64} {j = 64} (omega arith)) ht ∙ ap not (digit-pow (k % 64) t))
    ∙ and-not (digit x t) (eqb t (k % 64)))

pub bits-with : (row : List ℕ) (k : ℕ) → length row ≡ 4 → k < 256 → (j : ℕ)
    → bit_of (set row (k / 64) (bit_or (get_or row (k / 64) 0) ((1 * 2 ^ (k % 64)) % 18446744073709551616))) j ≡ cond (eqb j k) true (bit_of row j)
bits-with row k l h =
    let x = get_or row (k / 64) 0 in
    bits-set row k _ true l h (λ t ht.
    ap (λ (m : ℕ). digit (bit_or x m) t) (mask k) ∙ digit_or t x (2 ^ (k % 64))
    ∙ ap (λ (y : Bool). digit x t || y) (digit-pow (k % 64) t) ∙ or-cond (digit x t) (eqb t (k % 64)))

-- nothing in a row of zeros, nothing past the rows
pub zeros-bit : (k : ℕ) → bit_of (0 ∷ 0 ∷ 0 ∷ 0 ∷ []) k ≡ false
unfolding bit_of
zeros-bit k = ap (λ (x : ℕ). digit x (k % 64)) (zeros (k / 64)) ∙ digit-none (k % 64)
  where
    zeros : (w : ℕ) → ◌≡◌ {A = ℕ} (get_or (0 ∷ 0 ∷ 0 ∷ 0 ∷ []) w 0) 0
    zeros zero = refl
    zeros (suc zero) = refl
    zeros (suc (suc zero)) = refl
    zeros (suc (suc (suc zero))) = refl
    zeros (suc (suc (suc (suc w)))) = refl

-- a word with one digit more, as the code makes it
pub with-digit : (x s k : ℕ) → digit (bit_or x ((1 * 2 ^ (s % 64)) % 18446744073709551616)) k ≡ (digit x k || eqb k (s % 64))
with-digit x s k =
    ap (λ (m : ℕ). digit (bit_or x m) k) (mask s) ∙ digit_or k x (2 ^ (s % 64)) ∙ ap (λ (y : Bool). digit x k || y) (digit-pow (s % 64) k)
