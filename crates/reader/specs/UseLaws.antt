-- Laws of what `uses` hands on: of a readable block and a binding's registers and units these are the steps, sources and sinks of "Binding records".
-- Document 01, "Binding records".
use Prim.Native.Nat.{ℕ, zero, suc, ◌+◌, ◌*◌, ◌/◌, ◌%◌, ◌≤◌, ◌<◌}
use Rattle.std.specs.Prelude.{true, false, cond, ◌≡◌, List, Option, Some, None, get_or, eqb}
use Rattle.std.proofs.Math.Path.{refl}
use Rattle.std.proofs.Common.{◌∙◌, sym, ap, ap₂, arith}
use Rattle.ranges.specs.Truth.{both, by-test, holds_not}
use Rattle.ranges.specs.Tables.{get_d_tabulate}
use Rattle.reader.specs.Block.{kind, step, operation, literal, is_operation, is_constant, computes, reads_left, reads_right, left_value, right_value, values}
use Rattle.reader.specs.Table.{no_entry, entry_of}
use Rattle.reader.specs.KindLaws.{operates-is, constant-is}
use Rattle.reader.specs.Binding.{register, unit, no_place, place_of, places_of, makes_use, source_of, sink_of}
use Rattle.reader.specs.Boundaries.{values-le}
use Rattle.reader.specs.Readability.{Read, left-source, right-source}
use Rattle.reader.specs.TableLaws.{place_is, Shows}
use Rattle.reader.specs.declared.Table.{Table}
use Rattle.reader.specs.declared.Place.{Place}
use Rattle.reader.specs.declared.Use.{Use}
use Rattle.reader.specs.declared.Source.{Source}
use Rattle.reader.specs.declared.Source.TheVariants.{Register as from_register, Unit as from_unit, Literal as from_literal}
use Rattle.reader.specs.declared.Sink.{Sink}
use Rattle.reader.specs.declared.Sink.TheVariants.{Left as into_left, Right as into_right, Register as into_register}
use Rattle.reader.specs.Uses.{no_use, left_use, right_use, result_use, one_use, register_in, use_of, use_at, uses_in, if_made}

-- the places have the registers and the units of the binding d, whatever their buses
pub record Placed (places : List Place) (b d : List ℕ) : Type 0 where
  pub register-is : (v : ℕ) → v < values b → register_in places v ≡ register d v
  pub unit-is : (v : ℕ) → v < values b → (get_or places v no_place).unit ≡ unit d v

-- u is the use at p of v
pub record IsUse (u : Use) (b d : List ℕ) (v p : ℕ) : Type 0 where
  pub made-is : u.made ≡ makes_use b v p
  pub step_is : u.step ≡ step b v
  pub source_is : makes_use b v p ≡ true → u.source ≡ source_of b d v p
  pub sink-is : u.sink ≡ sink_of b d v p

pub placed : (b d : List ℕ) → values b ≤ 80 → Placed (places_of d) b d
unfolding place_of
placed b d h =
    record {
      register-is = λ v l. ap (λ (p : Place). p.register) (place_is d v (omega arith));
      unit-is = λ v l. ap (λ (p : Place). p.unit) (place_is d v (omega arith));
    }

module _ (b d : List ℕ) (R : Read b) (places : List Place) (P : Placed places b d) (v : ℕ) (l : v < values b) where
  -- the registers that are read
  left-register : reads_left b v ≡ true → register_in places (entry_of b v).left ≡ register d (left_value b v)
  unfolding entry_of
  left-register t = rw t (P.register-is (left_value b v) (left-source b R v (omega (arith, values-le b)) t).0)

  right-register : reads_right b v ≡ true → register_in places (entry_of b v).right ≡ register d (right_value b v)
  unfolding entry_of
  right-register t = rw t (P.register-is (right_value b v) (right-source b R v (omega (arith, values-le b)) t).0)

  left-from : is_operation b v ≡ true
      → cond (is_constant b v) (from_literal (literal b v)) (from_register (register_in places (entry_of b v).left)) ≡ source_of b d v 0
  unfolding source_of
  left-from o =
      by-test (is_constant b v) (λ t. rw t) (λ t. rw t (ap from_register (left-register (both o (holds_not t)))))

  left-into : cond (computes b v) (into_left (get_or places v no_place).unit) (into_register (register_in places v)) ≡ sink_of b d v 0
  unfolding sink_of
  left-into = by-test (computes b v) (λ t. rw t (ap into_left (P.unit-is v l))) (λ t. rw t (ap into_register (P.register-is v l)))

  first_made : is_operation b v ≡ makes_use b v 0
  first_made = by-test (is_operation b v) (λ t. rw t) (λ t. rw t)

  other-made : (p : ℕ) → eqb p 0 ≡ false → computes b v ≡ makes_use b v p
  other-made p e = rw e (by-test (is_operation b v) (λ t. rw t) (λ t. rw t))

  use-of : (p : ℕ) → p < 3 → IsUse (use_of (entry_of b v) places v p) b d v p
  unfolding entry_of one_use left_use right_use result_use source_of sink_of
  use-of zero h =
      record {
        made-is = operates-is (kind b v) ∙ first_made;
        step_is = refl;
        source_is = λ m. rw (operates-is (kind b v), constant-is (operation b v)) (left-from (first_made ∙ m));
        sink-is = left-into;
      }
  use-of (suc zero) h =
      record {
        made-is = other-made 1 refl;
        step_is = refl;
        source_is = λ m. ap from_register (right-register (other-made 1 refl ∙ m));
        sink-is = ap into_right (P.unit-is v l);
      }
  use-of (suc (suc zero)) h =
      record {
        made-is = other-made 2 refl;
        step_is = refl;
        source_is = λ m. ap from_unit (P.unit-is v l);
        sink-is = ap into_register (P.register-is v l);
      }
  use-of (suc (suc (suc p))) h = absurd (omega arith)

-- where the use at p of v stands
pub use-at : (t : Table) (places : List Place) (v p : ℕ) → v < 80 → p < 3
    → get_or (uses_in t places) (3 * v + p) no_use ≡ use_of (get_or t.entries v no_entry) places v p
unfolding uses_in use_at
use-at t places v p l h =
    let quotient : (3 * v + p) / 3 ≡ v = omega arith in
    let rest : (3 * v + p) % 3 ≡ p = omega arith in
    get_d_tabulate 240 (use_at t.entries places) no_use (3 * v + p) (omega arith)
    ∙ ap₂ (λ (w q : ℕ). use_of (get_or t.entries w no_entry) places w q) quotient rest

-- each use is the one that the block and the binding make
pub use-is : (t : Table) (places : List Place) (b d : List ℕ) → Shows t b → Placed places b d → (v p : ℕ) → v < values b → p < 3
    → IsUse (get_or (uses_in t places) (3 * v + p) no_use) b d v p
use-is t places b d S P v p l h =
    let fewer = S.fewer in
    rw (use-at t places v p (omega arith) h, S.entry-is v (omega (arith, values-le b))) (use-of b d S.readable places P v l p h)

-- ---- the uses that are made, as an Option

abbrev pub made_use : ℕ → Source → Sink → Option Use
made_use step source sink = Some (record { made = true; step = step; source = source; sink = sink })

-- the use at p of v that the block and the binding make
unfoldable pub use_by : List ℕ → List ℕ → ℕ → ℕ → Option Use
use_by b d v p = cond (makes_use b v p) (made_use (step b v) (source_of b d v p) (sink_of b d v p)) None

pub use-made : (b d : List ℕ) (v p : ℕ) → makes_use b v p ≡ true → use_by b d v p ≡ made_use (step b v) (source_of b d v p) (sink_of b d v p)
unfolding use_by
use-made b d v p m = rw m

pub use-not-made : (b d : List ℕ) (v p : ℕ) → makes_use b v p ≡ false → use_by b d v p ≡ None
unfolding use_by
use-not-made b d v p m = rw m

made-same : (u : Use) {k : ℕ} {x : Source} {y : Sink} → u.made ≡ true → u.step ≡ k → u.source ≡ x → u.sink ≡ y → if_made u ≡ made_use k x y
made-same u m k e f = rw (m, ← k, ← e, ← f)

-- a use is that one, where it is made
pub if-made-is : {u : Use} {b d : List ℕ} {v p : ℕ} → IsUse u b d v p → if_made u ≡ use_by b d v p
unfolding use_by
if-made-is {u} {b} {d} {v} {p} U =
    by-test (makes_use b v p)
    (λ m. made-same u (U.made-is ∙ m) U.step_is (U.source_is m) U.sink-is ∙ sym (use-made b d v p m))
    (λ m. rw (U.made-is, m))
