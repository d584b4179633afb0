-- What is known of a record's bytes says what the bytes say.
use Rattle.std.specs.Prelude.{ℕ, ◌≤◌, ◌≡◌, Some, leb, eqb}
use Rattle.std.proofs.Common.{sym, arith}
use borrow.Author.Tests.{eqb-true, eqb-false, ne_eqb, leb-true, leb-false}
use Rattle.ranges.specs.Truth.{by-test}
use Rattle.reader.specs.Binding.{class_of}
use Rattle.reader.specs.Kinds.{kind_at, operation_at, class_read, incomes, operates, goes_out, is_move, is_constant, operation_number, kind_number, known_number, class_number}
use Rattle.reader.specs.declared.kinds.Operation.{Operation}

-- one of four tests of a number holds, or none
pub incomes-is : (k : ℕ) → incomes (kind_at k) ≡ eqb k 1
unfolding kind_at
incomes-is k = by-test (eqb k 1) (λ t. rw t) (λ t. rw t (by-test (eqb k 2) (λ u. rw u) (λ u. rw u (by-test (eqb k 3) (λ w. rw w) (λ w. rw w)))))

pub operates-is : (k : ℕ) → operates (kind_at k) ≡ eqb k 2
unfolding kind_at
operates-is k =
    by-test (eqb k 1)
    (λ t. let e = eqb-true k 1 t in rw e)
    (λ t. rw t (by-test (eqb k 2) (λ u. rw u) (λ u. rw u (by-test (eqb k 3) (λ w. rw w) (λ w. rw w)))))

pub goes-out-is : (k : ℕ) → goes_out (kind_at k) ≡ eqb k 3
unfolding kind_at
goes-out-is k =
    by-test (eqb k 1)
    (λ t. let e = eqb-true k 1 t in rw e)
    (λ t. rw t (by-test (eqb k 2) (λ u. let e = eqb-true k 2 u in rw e) (λ u. rw u (by-test (eqb k 3) (λ w. rw w) (λ w. rw w)))))

pub class-is : (o : ℕ) → class_number (class_read o) ≡ class_of o
unfolding class_read class_of
class-is o = by-test (leb o 4) (λ t. rw t) (λ t. rw t (by-test (eqb o 5) (λ u. rw u) (λ u. rw u)))

-- a constant is the operation 2
pub constant-is : (o : ℕ) → is_constant (operation_at o) ≡ eqb o 2
unfolding operation_at
constant-is o =
    by-test (eqb o 1)
    (λ t. let e = eqb-true o 1 t in rw e)
    (λ t. rw t (by-test (eqb o 2) (λ u. rw u) (λ u. rw u
    (by-test (eqb o 3) (λ w. rw w) (λ w. rw w
    (by-test (eqb o 4) (λ w. rw w) (λ w. rw w
    (by-test (eqb o 5) (λ w. rw w) (λ w. rw w
    (by-test (eqb o 6) (λ w. rw w) (λ w. rw w
    (by-test (eqb o 7) (λ w. rw w) (λ w. rw w
    (by-test (eqb o 8) (λ w. rw w) (λ w. rw w)))))))))))))))

-- a move is the operation 1
pub move-is : (o : ℕ) → is_move (operation_at o) ≡ eqb o 1
unfolding operation_at
move-is o =
    by-test (eqb o 1)
    (λ t. rw t)
    (λ t. rw t (by-test (eqb o 2) (λ u. rw u) (λ u. rw u
    (by-test (eqb o 3) (λ w. rw w) (λ w. rw w
    (by-test (eqb o 4) (λ w. rw w) (λ w. rw w
    (by-test (eqb o 5) (λ w. rw w) (λ w. rw w
    (by-test (eqb o 6) (λ w. rw w) (λ w. rw w
    (by-test (eqb o 7) (λ w. rw w) (λ w. rw w
    (by-test (eqb o 8) (λ w. rw w) (λ w. rw w)))))))))))))))

-- each of the operations 3 to 8 is known by its number
pub operation-known : (n : ℕ) → 3 ≤ n → n ≤ 8 → (o : Operation) × (operation_at n ≡ Some o) × (operation_number o ≡ n)
unfolding operation_at
operation-known n l h =
    let low = ne_eqb n 1 (λ q. omega arith) in
    let next = ne_eqb n 2 (λ q. omega arith) in
    by-test (eqb n 3) (λ t. (Operation.Add, rw (low, next, t), sym (eqb-true n 3 t))) (λ t.
    by-test (eqb n 4) (λ u. (Operation.Subtract, rw (low, next, t, u), sym (eqb-true n 4 u))) (λ u.
    by-test (eqb n 5) (λ w. (Operation.Multiply, rw (low, next, t, u, w), sym (eqb-true n 5 w))) (λ w.
    by-test (eqb n 6) (λ x. (Operation.And, rw (low, next, t, u, w, x), sym (eqb-true n 6 x))) (λ x.
    by-test (eqb n 7) (λ y. (Operation.Or, rw (low, next, t, u, w, x, y), sym (eqb-true n 7 y))) (λ y.
    let e : n ≡ 8 = omega (arith, eqb-false n 3 t, eqb-false n 4 u, eqb-false n 5 w, eqb-false n 6 x, eqb-false n 7 y) in
    (Operation.ExclusiveOr, rw e, sym e))))))

pub kind-numbered : (k : ℕ) → 1 ≤ k → k ≤ 3 → kind_number (kind_at k) ≡ k
unfolding kind_at
kind-numbered k l h =
    by-test (eqb k 1) (λ t. rw t (sym (eqb-true k 1 t))) (λ t. rw t
    (by-test (eqb k 2) (λ u. rw u (sym (eqb-true k 2 u))) (λ u.
    let e : k ≡ 3 = omega (arith, eqb-false k 1 t, eqb-false k 2 u) in rw (u, e))))

pub operation-numbered : (n : ℕ) → n ≤ 8 → known_number (operation_at n) ≡ n
unfolding operation_at
operation-numbered n h =
    by-test (leb 3 n)
    (λ t. let k = operation-known n (leb-true 3 n t) h in rw k.1 k.2)
    (λ t. by-test (eqb n 1) (λ u. rw u (sym (eqb-true n 1 u))) (λ u.
    by-test (eqb n 2) (λ w. rw (u, w) (sym (eqb-true n 2 w))) (λ w.
    let e : n ≡ 0 = omega (arith, leb-false 3 n t, eqb-false n 1 u, eqb-false n 2 w) in rw e)))
