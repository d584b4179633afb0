-- The answer of `bind`, test by test; refused, the room stays, and done, it has the binding in front.
use Prim.Native.Nat.{ℕ, ◌*◌, ◌≤◌, ◌<◌}
use mathlib.Core.Path.{◌≡◌, sym, ap, ap₂, ◌∙◌}
use mathlib.Core.List.{List, ◌++◌}
use native.Mathlib.Omega.{arith}
use lib.ListN.{length, drop}
use borrow.Author.Tests.{eq-eqb, ne_eqb, lt-ltb, le-ltb}
use Rattle.reader.specs.Block.{values, reading}
use Rattle.reader.specs.Table.{table_of}
use Rattle.reader.specs.TableLaws.{Shows, shown_by}
use Rattle.checker.specs.Rules.{verdict}
use Rattle.checker.specs.Numbers.{Verdict}
use Rattle.allocator.specs.Allocation.{binding_by}
use Rattle.reader.specs.declared.Table.{Table}
use Rattle.allocator.specs.Answer.{unallocated, allocated, room_after, Binds}
use Rattle.allocator.specs.Numbers.{Allocated}
use Rattle.allocator.specs.OwnRecords.{length-binding}

module _ (b : List ℕ) (m : ℕ) (out : List ℕ) where
  -- refused
  stopped : (r : Allocated) → r ≡ allocated b m (length out) → (r.number ≡ 0 → ⊥) → Binds b m out r out
  unfolding room_after
  stopped r e n =
      record {
        answer = e;
        room = sym (rw (ne_eqb (allocated b m (length out)).number 0 (λ z. n (ap (λ (x : Allocated). x.number) e ∙ z))));
      }

  pub stops-9 : 1 < m → (r : Allocated) → r ≡ unallocated 9 0 0 → Binds b m out r out
  unfolding allocated
  stops-9 h r e = stopped r (e ∙ sym (rw (lt-ltb 1 m h))) (λ z. omega (arith, ap (λ (x : Allocated). x.number) e))

  module _ (method : m ≤ 1) where
    pub stops_block : ((reading b).number ≡ 0 → ⊥) → (r : Allocated) → r ≡ unallocated (reading b).number (reading b).first (reading b).second → Binds b m out r out
    unfolding allocated
    stops_block n r e =
        stopped r (e ∙ sym (rw (le-ltb 1 m method, ne_eqb (reading b).number 0 n))) (λ z. n (sym (ap (λ (x : Allocated). x.number) e) ∙ z))

    module _ (readable : (reading b).number ≡ 0) (v : Verdict) (judged : v ≡ verdict b (binding_by m b)) where
      judged-number : v.number ≡ (verdict b (binding_by m b)).number
      judged-number = ap (λ (x : Verdict). x.number) judged

      pub stops-20 : (v.number ≡ 0 → ⊥) → (r : Allocated) → r ≡ unallocated 20 0 0 → Binds b m out r out
      unfolding allocated
      stops-20 n r e =
          stopped r
          (e ∙ sym (rw (le-ltb 1 m method, eq-eqb (reading b).number 0 readable, ne_eqb (verdict b (binding_by m b)).number 0 (λ z. n (judged-number ∙ z)))))
          (λ z. omega (arith, ap (λ (x : Allocated). x.number) e))

      module _ (accepted : v.number ≡ 0) where
        verdict-0 : (verdict b (binding_by m b)).number ≡ 0
        verdict-0 = sym judged-number ∙ accepted

        pub stops-10 : length out < 8 * values b → (r : Allocated) → r ≡ unallocated 10 0 0 → Binds b m out r out
        unfolding allocated
        stops-10 l r e =
            stopped r
            (e ∙ sym (rw (le-ltb 1 m method, eq-eqb (reading b).number 0 readable, eq-eqb (verdict b (binding_by m b)).number 0 verdict-0, lt-ltb (length out) (8 * values b) l)))
            (λ z. omega (arith, ap (λ (x : Allocated). x.number) e))

        allocated-done : 8 * values b ≤ length out → allocated b m (length out) ≡ record { number = 0; first = 0; second = 0; written = 8 * values b }
        unfolding allocated
        allocated-done l =
            rw (le-ltb 1 m method, eq-eqb (reading b).number 0 readable, eq-eqb (verdict b (binding_by m b)).number 0 verdict-0, le-ltb (length out) (8 * values b) l)

        pub done : (own x : List ℕ) → length own ≤ length out → own ≡ binding_by m b → x ≡ own ++ drop (length own) out
            → Binds b m out (record { number = 0; first = 0; second = 0; written = length own }) x
        unfolding room_after
        done own x l p q =
            let w : length own ≡ 8 * values b = ap length p ∙ length-binding b m in
            let fits : 8 * values b ≤ length out = omega arith in
            record {
              answer = rw w (sym (allocated-done fits));
              room = q ∙ ap₂ (λ (y : List ℕ) (k : ℕ). y ++ drop k out) p w
                  ∙ sym (rw (eq-eqb (allocated b m (length out)).number 0 (ap (λ (y : Allocated). y.number) (allocated-done fits))));
            }

-- what `binding` gives is the block's binding
pub own-binding : (t : Table) (b : List ℕ) (m : ℕ) (own : List ℕ) → t ≡ table_of b → (reading b).number ≡ 0
    → ((c : List ℕ) → Shows t c → own ≡ binding_by m c) → own ≡ binding_by m b
own-binding t b m own e readable h = h b (shown_by t b e readable)

pub own-length : (b : List ℕ) (m : ℕ) (own : List ℕ) → own ≡ binding_by m b → length own ≡ 8 * values b
own-length b m own e = ap length e ∙ length-binding b m
