-- The allocator's own binding of a readable block, by any method, is well formed and keeps the rules 16 to 19.
-- Document 01, "Left edge and clique merging", number 20; demand 3.
use Rattle.std.specs.Prelude.{ℕ, ◌≤◌, ◌<◌, true, false, ◌≡◌, refl, List, get_or, eqb}
use Rattle.std.proofs.Common.{◌∙◌, subst, arith, eq-eqb, le-leb}
use Rattle.ranges.specs.Truth.{both, by-test, cond-true}
use Rattle.reader.specs.Block.{field, is_operation, computes, values, reading}
use Rattle.reader.specs.Binding.{register, unit, bus, makes_use, field_right, fields_right, record_fault, place_fault}
use Rattle.reader.specs.Boundaries.{values-le}
use Rattle.reader.specs.Readability.{read}
use Rattle.reader.specs.WellFormed.{well-formed}
use Rattle.checker.specs.Acceptance.{Keeps}
use Rattle.allocator.specs.Allocation.{registers_by, unit_numbers, unit_of, placed, bus_numbers, bus_of, binding_by}
use Rattle.allocator.specs.OwnRecords.{placed-register, placed-unit, length-binding, binding-value, binding-zeros, binding-bus, same-register, same-unit, same_source_lem, same-sink}
use Rattle.allocator.proofs.OwnRegisters.{method-16, method-below}
use Rattle.allocator.specs.OwnUnits.{unit-below, units-17}
use Rattle.allocator.specs.OwnBuses.{bus-below, buses-18, buses-19}

module _ (b : List ℕ) (m : ℕ) where
  pub binding-register : (v : ℕ) → v < values b → register (binding_by m b) v ≡ get_or (registers_by m b) v 0
  binding-register v l = same-register b m v ∙ placed-register b m v l

  binding-unit : (v : ℕ) → v < values b → unit (binding_by m b) v ≡ unit_of b (unit_numbers b) v
  binding-unit v l = same-unit b m v ∙ placed-unit b m v l

  -- ---- every field is in its range, every unneeded one is 255

  no-unit : (v : ℕ) → computes b v ≡ false → unit_of b (unit_numbers b) v ≡ 255
  unfolding unit_of
  no-unit v c = rw c

  no-bus : (v p : ℕ) → makes_use b v p ≡ false → bus_of b (placed b m) (bus_numbers b (placed b m)) v p ≡ 255
  unfolding bus_of
  no-bus v p c = rw c

  module _ (few : values b ≤ 80) where
    pub register-fits : (v : ℕ) → v < values b → register (binding_by m b) v < 80
    register-fits v l = omega (arith, binding-register v l, method-below b m v l)

    right-unit : (v : ℕ) → v < values b → field_right (computes b v) 79 (unit (binding_by m b) v) ≡ true
    right-unit v l =
        by-test (computes b v)
        (λ c. rw c (le-leb (unit (binding_by m b) v) 79 (omega (arith, binding-unit v l, unit-below b v l c))))
        (λ c. rw c (eq-eqb (unit (binding_by m b) v) 255 (binding-unit v l ∙ no-unit v c)))

    right-bus : (v p : ℕ) → v < values b → p < 3 → field_right (makes_use b v p) 239 (bus (binding_by m b) v p) ≡ true
    right-bus v p l h =
        by-test (makes_use b v p)
        (λ c. rw c (le-leb (bus (binding_by m b) v p) 239 (omega (arith, binding-bus b m v p l h, bus-below b (placed b m) v p l h c))))
        (λ c. rw c (eq-eqb (bus (binding_by m b) v p) 255 (binding-bus b m v p l h ∙ no-bus v p c)))

    -- a left bus is needed by an operation, the others by the operations 3 to 8
    made-left : (v : ℕ) → makes_use b v 0 ≡ is_operation b v
    made-left v = by-test (is_operation b v) (λ t. rw t) (λ t. rw t)

    made_other : (v p : ℕ) → eqb p 0 ≡ false → makes_use b v p ≡ computes b v
    made_other v p e = rw e (by-test (is_operation b v) (λ t. rw t) (λ t. rw t))

    place-right : (v : ℕ) → v < values b → place_fault b (binding_by m b) v ≡ 0
    unfolding place_fault record_fault fields_right
    place-right v l =
        let z = binding-zeros b m v l in
        rw (eq-eqb (field (binding_by m b) v 0) v (binding-value b m v l))
        (cond-true 0 14
        (both (both (both (both (both (both
        (le-leb (register (binding_by m b) v) 79 (omega (arith, register-fits v l)))
        (right-unit v l))
        (subst (λ t. field_right t 239 (bus (binding_by m b) v 0) ≡ true) (made-left v) (right-bus v 0 l (omega arith))))
        (subst (λ t. field_right t 239 (bus (binding_by m b) v 1) ≡ true) (made_other v 1 refl) (right-bus v 1 l (omega arith))))
        (subst (λ t. field_right t 239 (bus (binding_by m b) v 2) ≡ true) (made_other v 2 refl) (right-bus v 2 l (omega arith))))
        (eq-eqb (field (binding_by m b) v 6) 0 z.0))
        (eq-eqb (field (binding_by m b) v 7) 0 z.1)))

  -- ---- and the rules hold

  pub own-keeps : (reading b).number ≡ 0 → Keeps b (binding_by m b)
  own-keeps e =
      record {
        readable = e;
        well-formed = well-formed b (binding_by m b) (length-binding b m) (place-right (omega (arith, values-le b, (read b e).few)));
        rule16 = method-16 b m (binding_by m b) binding-register;
        rule17 = units-17 b (binding_by m b) binding-unit;
        rule18 = buses-18 b (placed b m) (binding_by m b) (binding-bus b m) (method-16 b m (placed b m) (placed-register b m)) (units-17 b (placed b m) (placed-unit b m));
        rule19 = buses-19 b (placed b m) (binding_by m b) (binding-bus b m) (same_source_lem b m) (same-sink b m);
      }
