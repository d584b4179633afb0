-- The tests of a place decide the conditions of 13 and 14, and those of a pair of values the conditions of 16 to 19.
-- Document 01, "Binding records", "Numbers that come back".
use Rattle.std.specs.Prelude.{ℕ, ◌<◌, Bool, true, false, not, ◌≡◌, refl, ◌⊎◌, List}
use Rattle.std.proofs.Common.{inl, arith}
use Rattle.std.proofs.Math.Logic.{inr, ⊎_elim}
use Rattle.ranges.specs.Truth.{by_order, by_equal, by-test, contradiction}
use Rattle.reader.specs.Block.{field, kind, is_operation, computes, values, occupies, overlap}
use Rattle.reader.specs.Binding.{register, unit, bus, makes_use, used_in, asks_in, some_step, class, may_share_unit, source_of, sink_of, same_connection, clash, field_right, fields_right}
use Rattle.reader.specs.Boundaries.{overlap-at, overlap-common}
use Rattle.reader.specs.StepsInUse.{used-makes, asks-end, some-step, step-witness, no-clash, clashing}
use Rattle.reader.specs.Connections.{connection-eq, eq-connection}
use Rattle.checker.specs.Rules.{some_uses, clash_on_bus, two_buses, breaks16, breaks17, breaks18, breaks19}
use Rattle.evidence.specs.Orders.{WrongField, WrongFields, Broken16, Broken17, Broken18, Broken19}
use Rattle.evidence.specs.Decisions.{Decides, in_words, itself, equal, less, no_more, fails-to, holds-both, holds-three, some_below, Denies, denied, one-denied, deny-words}
use Rattle.evidence.specs.RecordDecisions.{computed}

-- ---- 14

-- one field
field-wrong : (needed : Bool) (top x : ℕ) {Needed : Type 0} → Decides needed Needed → Denies (field_right needed top x) (WrongField Needed top x)
field-wrong true top x D =
    deny-words (denied (no_more x top))
    (λ n. inl (D.holds refl, by_order top x (λ l. l) (λ l. absurd (n l))))
    (λ w l. ⊎_elim (λ p. omega (arith, p.1)) (λ p. p.0 (D.holds refl)) w)
field-wrong false top x D =
    deny-words (denied (equal x 255)) (λ n. inr (D.fails refl, n)) (λ w e. ⊎_elim (λ p. D.fails refl p.0) (λ p. p.1 e) w)

-- seven statements, one after another
module _ {A B C D E F G : Type 0} where
  from-left : ((((((A ⊎ B) ⊎ C) ⊎ D) ⊎ E) ⊎ F) ⊎ G) → A ⊎ B ⊎ C ⊎ D ⊎ E ⊎ F ⊎ G
  from-left (inl (inl (inl (inl (inl (inl p)))))) = inl p
  from-left (inl (inl (inl (inl (inl (inr p)))))) = inr (inl p)
  from-left (inl (inl (inl (inl (inr p))))) = inr (inr (inl p))
  from-left (inl (inl (inl (inr p)))) = inr (inr (inr (inl p)))
  from-left (inl (inl (inr p))) = inr (inr (inr (inr (inl p))))
  from-left (inl (inr p)) = inr (inr (inr (inr (inr (inl p)))))
  from-left (inr p) = inr (inr (inr (inr (inr (inr p)))))

  to-left : A ⊎ B ⊎ C ⊎ D ⊎ E ⊎ F ⊎ G → ((((((A ⊎ B) ⊎ C) ⊎ D) ⊎ E) ⊎ F) ⊎ G)
  to-left (inl p) = inl (inl (inl (inl (inl (inl p)))))
  to-left (inr (inl p)) = inl (inl (inl (inl (inl (inr p)))))
  to-left (inr (inr (inl p))) = inl (inl (inl (inl (inr p))))
  to-left (inr (inr (inr (inl p)))) = inl (inl (inl (inr p)))
  to-left (inr (inr (inr (inr (inl p))))) = inl (inl (inr p))
  to-left (inr (inr (inr (inr (inr (inl p)))))) = inl (inr p)
  to-left (inr (inr (inr (inr (inr (inr p)))))) = inr p

pub denies-14 : (b d : List ℕ) (v : ℕ) → Denies (fields_right (is_operation b v) (computes b v) d v) (WrongFields b d v)
unfolding fields_right
denies-14 b d v =
    let operates = equal (kind b v) 2 in
    let calculates = computed b v in
    deny-words
    (one-denied (one-denied (one-denied (one-denied (one-denied (one-denied
    (deny-words (denied (no_more (register d v) 79)) (λ n. by_order 79 (register d v) (λ l. l) (λ l. absurd (n l))) (λ l h. omega arith))
    (field-wrong (computes b v) 79 (unit d v) calculates))
    (field-wrong (is_operation b v) 239 (bus d v 0) operates))
    (field-wrong (computes b v) 239 (bus d v 1) calculates))
    (field-wrong (computes b v) 239 (bus d v 2) calculates))
    (denied (equal (field d v 6) 0)))
    (denied (equal (field d v 7) 0)))
    from-left to-left

-- ---- pairs

module _ (b d : List ℕ) (v w : ℕ) (l : v < values b) (m : w < values b) where
  -- a common boundary
  common : Decides (overlap b v w) ((k : ℕ) × (occupies b v k ≡ true) × (occupies b w k ≡ true))
  common = record { holds = overlap-common b v w; fails = λ e k. contradiction (overlap-at b v w k.0 k.1 k.2) e }

  pub decides-16 : Decides (breaks16 b d v w) (Broken16 b d v w)
  unfolding breaks16
  decides-16 = holds-three (less w v) (equal (register d v) (register d w)) common

  -- classes that differ, or a common step
  may-not-share : Decides (not (may_share_unit b v w)) ((class b v ≡ class b w → ⊥) ⊎ ((k : ℕ) × (asks_in b v k ≡ true) × (asks_in b w k ≡ true)))
  unfolding may_share_unit
  may-not-share =
      in_words (fails-to (holds-both (equal (class b v) (class b w)) (fails-to steps)))
      (λ n. by_equal (class b v) (class b w) (λ e. inr (found (λ z. n (e, z)))) inl)
      (λ s p. ⊎_elim (λ n. n p.0) p.1 s)
    where
      steps : Decides (some_step b (asks_in b v) (asks_in b w)) ((k : ℕ) × (asks_in b v k ≡ true) × (asks_in b w k ≡ true))
      steps =
          record {
            holds = step-witness b (asks_in b v) (asks_in b w);
            fails = λ e k. contradiction (some-step b (asks_in b v) (asks_in b w) k.0 (asks-end b v k.0 l k.1) k.1 k.2) e;
          }

      found : (((k : ℕ) × (asks_in b v k ≡ true) × (asks_in b w k ≡ true) → ⊥) → ⊥) → (k : ℕ) × (asks_in b v k ≡ true) × (asks_in b w k ≡ true)
      found n = by-test (some_step b (asks_in b v) (asks_in b w)) steps.holds (λ e. absurd (n (steps.fails e)))

  pub decides-17 : Decides (breaks17 b d v w) (Broken17 b d v w)
  unfolding breaks17
  decides-17 =
      in_words (holds-three (less w v) (holds-three (computed b v) (computed b w) (equal (unit d v) (unit d w))) may-not-share)
      (λ p. (p.0, p.1.0, p.1.1, p.1.2, p.2)) (λ p. (p.0, (p.1, p.2, p.3), p.4))

  -- some uses of the two
  uses : (p : ℕ → ℕ → Bool) {P : ℕ → ℕ → Type 0} → ((i j : ℕ) → i < 3 → j < 3 → Decides (p i j) (P i j))
      → Decides (some_uses b v w p) ((i : ℕ) × (j : ℕ) × (i < 3) × (j < 3) × (makes_use b v i ≡ true) × (makes_use b w j ≡ true) × P i j)
  uses p D =
      in_words
      (some_below 3 _ (λ i l. some_below 3 _ (λ j m. holds-three (itself (makes_use b v i)) (itself (makes_use b w j)) (D i j l m))))
      (λ x. (x.0, x.2.0, x.1, x.2.1, x.2.2.0, x.2.2.1, x.2.2.2))
      (λ x. (x.0, x.2, (x.1, x.3, (x.4, x.5, x.6))))

  -- two uses in one step
  clashes : (i j : ℕ) → Decides (clash b d v i w j) ((k : ℕ) × ((v ≡ w) × (i ≡ j) → ⊥) × (used_in b v i k ≡ true) × (used_in b w j k ≡ true))
  clashes i j =
      record {
        holds = λ e. let c = clashing b d v i w j e in (c.at, λ s. c.different s.0 s.1, c.first, c.second);
        fails = λ e k. k.1 (no-clash b d v i w j k.0 l k.2 k.3 e);
      }

  pub decides-18 : Decides (breaks18 b d v w) (Broken18 b d v w)
  unfolding breaks18
  decides-18 =
      in_words (holds-both (no_more w v) (uses (clash_on_bus b d v w) (λ i j l m. holds-both (clashes i j) (equal (bus d v i) (bus d w j)))))
      (λ x. let u = x.1 in let c = u.6.0 in (x.0, (u.0, u.1, c.0, u.2, u.3, c.1, c.2, c.3, u.6.1)))
      (λ x. let u = x.1 in (x.0, (u.0, u.1, u.3, u.4, used-makes b v u.0 u.2 u.6, used-makes b w u.1 u.2 u.7, ((u.2, u.5, u.6, u.7), u.8))))

  -- two uses of one connection
  connected : (i j : ℕ) → Decides (same_connection b d v i w j) ((source_of b d v i ≡ source_of b d w j) × (sink_of b d v i ≡ sink_of b d w j))
  connected i j =
      record { holds = connection-eq b d v i w j; fails = λ e p. contradiction (eq-connection b d v i w j p.0 p.1) e }

  pub decides-19 : Decides (breaks19 b d v w) (Broken19 b d v w)
  unfolding breaks19
  decides-19 =
      in_words (holds-both (less w v) (uses (two_buses b d v w) (λ i j l m. holds-both (connected i j) (fails-to (equal (bus d v i) (bus d w j))))))
      (λ x. let u = x.1 in (x.0, (u.0, u.1, u.2, u.3, u.4, u.5, u.6.0.0, u.6.0.1, u.6.1)))
      (λ x. let u = x.1 in (x.0, (u.0, u.1, u.2, u.3, u.4, u.5, ((u.6, u.7), u.8))))
