-- A test decides a statement: where it is true the statement holds, where it is false the statement fails. How tests made of tests decide.
-- It renders no section of document 01: the conditions of `Orders` are statements, and the definitions behind the promises are tests.
use Rattle.std.specs.Prelude.{ℕ, ◌≤◌, ◌<◌, Bool, true, false, not, ◌&&◌, ◌||◌, ◌≡◌, refl, ◌⊎◌, leb, ltb, eqb}
use Rattle.std.proofs.Common.{true≢false, inl, inr, ⊎_elim, arith, eqb-true, ltb-true, ltb-false, leb-true, leb-false}
use Rattle.std.proofs.lemmas.Bool.{false≢true, eqb-false}
use Rattle.ranges.specs.Below.{any_below}
use Rattle.ranges.specs.Truth.{contradiction}
use Rattle.ranges.specs.Finding.{any-witness, any_false}

pub record Decides (t : Bool) (P : Type 0) : Type 0 where
  pub holds : t ≡ true → P
  pub fails : t ≡ false → P → ⊥

-- the statement in other words
pub in_words : {t : Bool} {P Q : Type 0} → Decides t P → (P → Q) → (Q → P) → Decides t Q
in_words D f g = record { holds = λ e. f (D.holds e); fails = λ e q. D.fails e (g q) }

-- a test that is its own statement
pub itself : (t : Bool) → Decides t (t ≡ true)
itself t = record { holds = λ e. e; fails = λ e s. contradiction s e }

pub equal : (m n : ℕ) → Decides (eqb m n) (m ≡ n)
equal m n = record { holds = eqb-true m n; fails = eqb-false m n }

pub less : (m n : ℕ) → Decides (ltb m n) (m < n)
less m n = record { holds = ltb-true m n; fails = λ e l. omega (arith, ltb-false m n e) }

pub no_more : (m n : ℕ) → Decides (leb m n) (m ≤ n)
no_more m n = record { holds = leb-true m n; fails = λ e l. omega (arith, leb-false m n e) }

pub fails-to : {t : Bool} {P : Type 0} → Decides t P → Decides (not t) (P → ⊥)
fails-to {t = true} D = record { holds = λ e. absurd (false≢true e); fails = λ e n. n (D.holds refl) }
fails-to {t = false} D = record { holds = λ e. D.fails refl; fails = λ e. absurd (true≢false e) }

pub holds-both : {t u : Bool} {P Q : Type 0} → Decides t P → Decides u Q → Decides (t && u) (P × Q)
holds-both {t = true} D E = record { holds = λ e. (D.holds refl, E.holds e); fails = λ e p. E.fails e p.1 }
holds-both {t = false} D E = record { holds = λ e. absurd (false≢true e); fails = λ e p. D.fails refl p.0 }

pub holds-one : {t u : Bool} {P Q : Type 0} → Decides t P → Decides u Q → Decides (t || u) (P ⊎ Q)
holds-one {t = true} D E = record { holds = λ e. inl (D.holds refl); fails = λ e. absurd (true≢false e) }
holds-one {t = false} D E = record { holds = λ e. inr (E.holds e); fails = λ e. ⊎_elim (D.fails refl) (E.fails e) }

-- of three tests, of four
pub holds-three : {t u v : Bool} {P Q R : Type 0} → Decides t P → Decides u Q → Decides v R → Decides (t && u && v) (P × Q × R)
holds-three D E F = in_words (holds-both (holds-both D E) F) (λ p. (p.0.0, p.0.1, p.1)) (λ p. ((p.0, p.1), p.2))

pub one_of_three : {t u v : Bool} {P Q R : Type 0} → Decides t P → Decides u Q → Decides v R → Decides (t || u || v) (P ⊎ Q ⊎ R)
one_of_three D E F = in_words (holds-one (holds-one D E) F) right left
  where
    right : {P Q R : Type 0} → (P ⊎ Q) ⊎ R → P ⊎ Q ⊎ R
    right (inl (inl p)) = inl p
    right (inl (inr q)) = inr (inl q)
    right (inr r) = inr (inr r)

    left : {P Q R : Type 0} → P ⊎ Q ⊎ R → (P ⊎ Q) ⊎ R
    left (inl p) = inl (inl p)
    left (inr (inl q)) = inl (inr q)
    left (inr (inr r)) = inr r

pub one-of-four : {t u v w : Bool} {P Q R S : Type 0} → Decides t P → Decides u Q → Decides v R → Decides w S
    → Decides (t || u || v || w) (P ⊎ Q ⊎ R ⊎ S)
one-of-four D E F G = in_words (holds-one (one_of_three D E F) G) right left
  where
    right : {P Q R S : Type 0} → (P ⊎ Q ⊎ R) ⊎ S → P ⊎ Q ⊎ R ⊎ S
    right (inl (inl p)) = inl p
    right (inl (inr (inl q))) = inr (inl q)
    right (inl (inr (inr r))) = inr (inr (inl r))
    right (inr s) = inr (inr (inr s))

    left : {P Q R S : Type 0} → P ⊎ Q ⊎ R ⊎ S → (P ⊎ Q ⊎ R) ⊎ S
    left (inl p) = inl (inl p)
    left (inr (inl q)) = inl (inr (inl q))
    left (inr (inr (inl r))) = inl (inr (inr r))
    left (inr (inr (inr s))) = inr s

-- some number below n
pub some_below : (n : ℕ) (p : ℕ → Bool) {P : ℕ → Type 0} → ((k : ℕ) → k < n → Decides (p k) (P k)) → Decides (any_below n p) ((k : ℕ) × (k < n) × P k)
some_below n p D =
    record {
      holds = λ e. let w = any-witness n p e in (w.0, w.1, (D w.0 w.1).holds w.2);
      fails = λ e w. (D w.0 w.1).fails (any_false n p e w.0 w.1) w.2;
    }

-- ---- a test that is to hold, and what is said where it fails

pub record Denies (t : Bool) (P : Type 0) : Type 0 where
  pub fails : t ≡ false → P
  pub holds : t ≡ true → P → ⊥

pub denied : {t : Bool} {P : Type 0} → Decides t P → Denies t (P → ⊥)
denied D = record { fails = D.fails; holds = λ e n. n (D.holds e) }

pub one-denied : {t u : Bool} {P Q : Type 0} → Denies t P → Denies u Q → Denies (t && u) (P ⊎ Q)
one-denied {t = true} D E = record { fails = λ e. inr (E.fails e); holds = λ e. ⊎_elim (D.holds refl) (E.holds e) }
one-denied {t = false} D E = record { fails = λ e. inl (D.fails refl); holds = λ e. absurd (false≢true e) }

pub deny-words : {t : Bool} {P Q : Type 0} → Denies t P → (P → Q) → (Q → P) → Denies t Q
deny-words D f g = record { fails = λ e. f (D.fails e); holds = λ e q. D.holds e (g q) }
