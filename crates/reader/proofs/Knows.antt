-- What `Learned` holds after the first i records of a block, none of which has a fault, and why the judge then finds the fault of the record i.
use Prim.Native.Nat.{ℕ, suc, ◌+◌, ◌*◌, ◌≤◌, ◌<◌, min}
use mathlib.Core.Bool.{Bool, true, false, cond, not, ◌&&◌, ◌||◌, or-true, or-false, and-false}
use mathlib.Core.Path.{◌≡◌, refl, sym, ap, ap₂, ◌∙◌}
use mathlib.Core.List.{List}
use Rattle.std.specs.Prelude.{Ok, Err}
use native.Mathlib.Omega.{arith}
use lib.ListN.{length, get_or, set, length-set, get_or-replicate}
use lib.Seq.{get_or-set_same, get_or-set_other}
use lib.Dec.{ltb, eqb, lit≤}
use borrow.Author.Tests.{lt-ltb, le-ltb, ne_eqb, ltb-true, ltb-false, eqb-true, eqb-false}
use Rattle.ranges.specs.Below.{any_below}
use Rattle.ranges.specs.Truth.{both, by-test, neither_left, neither_right, right-fails, and_same, cond_same, below_suc}
use Rattle.ranges.specs.Finding.{any_same, none_any}
use Rattle.reader.specs.declared.Known.{Known}
use Rattle.reader.specs.declared.Learned.{Learned}
use Rattle.reader.specs.declared.refusals.Reason.{Reason}
use Rattle.reader.specs.Refusals.{fault_number}
use Rattle.reader.specs.Block.{kind, step, name, left_name, right_name, is_operation, is_outgoing, is_value, reads_left, reads_right, born_below, has_value, at_end, kind_before, step_before, kind_fault, order_fault, range_fault, unused_fault, twice_fault, missing_fault, fault}
use Rattle.reader.specs.Judging.{unknown, nothing, no_known, known_of, earliest_after, learned_after, order_known, twice_known, born_known, missing_known, judgement_of}
use Rattle.reader.specs.Records.{record_of, kind_fault_of, range_fault_of, unused_fault_of, mark_of}
use Rattle.reader.specs.RecordLaws.{kind-fault-is, range-fault-is, unused-fault-is}
use Rattle.reader.specs.Boundaries.{unborn}
use Rattle.reader.specs.Readability.{faultless}
use Rattle.reader.proofs.Tidy.{Tidy, tidy, tidy-at, mark, same-mark}

-- the mark of the last record, and that the record j of the name n has the mark x
abbrev pub top : Learned → ℕ
top l = 256 * l.kind + l.step

abbrev pub marked : List ℕ → ℕ → ℕ → ℕ → Bool
marked b n x j = eqb (name b j) n && eqb (mark b j) x

pub record Knows (b : List ℕ) (i : ℕ) (l : Learned) : Type 0 where
  pub none : (j : ℕ) → j < i → fault b j ≡ 0
  pub kind-before : l.kind ≡ kind_before b i
  pub step-before : l.step ≡ step_before b i
  pub small : l.step ≤ 64
  pub idle : (l.kind ≡ 2 → ⊥) → l.step ≡ 0
  pub rising : (j : ℕ) → j < i → mark b j ≤ top l
  pub born : (n s : ℕ) → n < 64 → s ≤ 66 → born_known l s n ≡ has_value b i s n
  pub twice : (n x : ℕ) → n < 64 → 0 < x → top l ≤ x → eqb (known_of l n).latest x ≡ any_below i (marked b n x)
  pub long : length l.names ≡ 64

-- ---- before the first record

pub start : (b : List ℕ) → Knows b 0 nothing
unfolding has_value any_below
start b =
    record {
      none = λ j h. absurd (omega arith);
      kind-before = refl;
      step-before = refl;
      small = lit≤ tt;
      idle = λ e. refl;
      rising = λ j h. absurd (omega arith);
      born = λ n s p q. rw (get_or-replicate {A = Known} 64 n unknown no_known p) (le-ltb 66 s q);
      twice = λ n x p q h. rw (get_or-replicate {A = Known} 64 n unknown no_known p) (ne_eqb 0 x (omega arith));
      long = refl;
    }

-- ---- the judge agrees with the definition of the record's fault

module _ (b : List ℕ) (i : ℕ) (l : Learned) (known : Knows b i l) where
  order-agrees : order_known (record_of b i) l ≡ order_fault b i
  unfolding record_of order_known order_fault
  order-agrees = rw (known.kind-before, known.step-before)

  -- a record in order has no smaller mark
  rises : Tidy b i → order_fault b i ≡ false → top l ≤ mark b i
  unfolding order_fault
  rises t o =
      let k : l.kind ≤ kind b i = omega (arith, known.kind-before, ltb-false (kind b i) (kind_before b i) (neither_left (ltb (kind b i) (kind_before b i)) _ o)) in
      let s = t.born in
      let small = known.small in
      by-test (eqb (kind_before b i) 2)
      (λ x. by-test (is_operation b i)
      (λ y. omega (arith, known.step-before, ltb-false (step b i) (step_before b i) (right-fails (eqb (kind_before b i) 2 && is_operation b i) _ (both x y) (neither_right (ltb (kind b i) (kind_before b i)) _ o))))
      (λ y. omega (arith, known.kind-before, eqb-true (kind_before b i) 2 x, eqb-false (kind b i) 2 y)))
      (λ x. omega (arith, known.idle (λ z. eqb-false (kind_before b i) 2 x (sym known.kind-before ∙ z))))

  twice-agrees : Tidy b i → top l ≤ mark b i → twice_known (record_of b i) l ≡ twice_fault b i
  unfolding record_of twice_known twice_fault
  twice-agrees t h =
      known.twice (name b i) (mark b i) (omega (arith, t.named)) (omega (arith, t.low)) h
      ∙ any_same i _ _ (λ j m. same-mark b j i (tidy-at b j (known.none j m)) t)

  missing-agrees : Tidy b i → missing_known (record_of b i) l ≡ missing_fault b i
  unfolding record_of missing_known missing_fault
  missing-agrees t =
      ap₂ ◌||◌ (ap₂ ◌||◌
      (and_same (reads_left b i) _ _ (λ r. ap not (known.born (left_name b i) (step b i) (omega (arith, t.left r)) (omega (arith, t.early)))))
      (and_same (reads_right b i) _ _ (λ r. ap not (known.born (right_name b i) (step b i) (omega (arith, t.right r)) (omega (arith, t.early))))))
      (and_same (is_outgoing b i) _ _ (λ r. ap not (known.born (name b i) at_end (omega (arith, t.named)) (lit≤ tt))))

  -- over any tests: the number of a judgement is the chain of numbers
  chain : (k o r u t m : Bool)
      → fault_number (cond k (Err Reason.Kind) (cond o (Err Reason.Order) (cond r (Err Reason.Range) (cond u (Err Reason.Unused) (cond t (Err Reason.Twice) (cond m (Err Reason.Missing) (Ok tt)))))))
      ≡ cond k 3 (cond o 4 (cond r 5 (cond u 6 (cond t 7 (cond m 8 0)))))
  chain true o r u t m = refl
  chain false true r u t m = refl
  chain false false true u t m = refl
  chain false false false true t m = refl
  chain false false false false true m = refl
  chain false false false false false true = refl
  chain false false false false false false = refl

  pub agrees : fault_number (judgement_of (record_of b i) l) ≡ fault b i
  unfolding judgement_of fault
  agrees =
      let f = record_of b i in
      chain (kind_fault_of f) (order_known f l) (range_fault_of f) (unused_fault_of f) (twice_known f l) (missing_known f l)
      ∙ rw (kind-fault-is b i, order-agrees, range-fault-is b i, unused-fault-is b i)
      (cond_same (kind_fault b i) 3 λ k.
      cond_same (order_fault b i) 4 λ o.
      cond_same (range_fault b i) 5 λ r.
      cond_same (unused_fault b i) 6 λ u.
      let t = tidy b i k r u in
      rw (twice-agrees t (rises t o), missing-agrees t))

-- ---- one record more

min-below : (x y s : ℕ) → ltb (min x y) s ≡ (ltb x s || ltb y s)
min-below x y s =
    by-test (ltb x s)
    (λ e. rw (e, lt-ltb (min x y) s (omega (arith, ltb-true x s e))))
    (λ e. by-test (ltb y s)
    (λ f. rw (e, f, lt-ltb (min x y) s (omega (arith, ltb-true y s f))))
    (λ f. rw (e, f, le-ltb (min x y) s (omega (arith, ltb-false x s e, ltb-false y s f)))))

module _ (b : List ℕ) (i : ℕ) (l : Learned) (known : Knows b i l) (none : fault b i ≡ 0) where
  here : Tidy b i
  here = tidy-at b i none

  higher : top l ≤ mark b i
  higher = rises b i l known here (faultless b i none).order

  -- what is known of a name after the record: of its own name this, of any other what was known
  abbrev next : Known
  next = record { earliest = earliest_after (record_of b i) l; latest = mark_of (record_of b i) }

  own-name : (n : ℕ) → n < 64 → name b i ≡ n → known_of (learned_after (record_of b i) l) n ≡ next
  unfolding record_of learned_after
  own-name n m z =
      ap (λ (k : ℕ). get_or (set l.names (name b i) next) k no_known) (sym z)
      ∙ get_or-set_same l.names (name b i) next no_known (omega (arith, known.long, z))

  other-name : (n : ℕ) → (name b i ≡ n → ⊥) → known_of (learned_after (record_of b i) l) n ≡ known_of l n
  unfolding record_of learned_after
  other-name n z = get_or-set_other l.names (name b i) n next no_known (λ q. z (sym q))

  born-more : (n s : ℕ) → n < 64 → s ≤ 66 → born_known (learned_after (record_of b i) l) s n ≡ (has_value b i s n || born_below b s n i)
  unfolding record_of
  born-more n s m q =
      by-test (eqb (name b i) n)
      (λ t. let z = eqb-true (name b i) n t in
      rw (own-name n m z, t, z)
      (by-test (is_value b i)
      (λ v. rw (v, min-below, known.born n s m q))
      (λ v. rw (v, known.born n s m q) (sym (or-false (has_value b i s n))))))
      (λ t. rw (other-name n (eqb-false (name b i) n t), t, and-false (is_value b i)) (known.born n s m q ∙ sym (or-false (has_value b i s n))))

  twice-more : (n x : ℕ) → n < 64 → 0 < x → mark b i ≤ x → eqb (known_of (learned_after (record_of b i) l) n).latest x ≡ (any_below i (marked b n x) || marked b n x i)
  unfolding record_of
  twice-more n x m q h =
      by-test (eqb (name b i) n)
      (λ t. rw (own-name n m (eqb-true (name b i) n t), t)
      (by-test (eqb (mark b i) x)
      (λ w. rw w (sym (or-true (any_below i (marked b n x)))))
      (λ w. rw w (sym (or-false (any_below i (marked b n x)) ∙ none_any i (marked b n x) (earlier w))))))
      (λ t. rw (other-name n (eqb-false (name b i) n t), t)
      (known.twice n x m q (omega (arith, higher)) ∙ sym (or-false (any_below i (marked b n x)))))
    where
      earlier : eqb (mark b i) x ≡ false → (j : ℕ) → j < i → marked b n x j ≡ false
      earlier w j k = rw (ne_eqb (mark b j) x (λ v. eqb-false (mark b i) x w (omega (arith, known.rising j k, higher)))) (and-false (eqb (name b j) n))

  pub more : Knows b (suc i) (learned_after (record_of b i) l)
  unfolding record_of learned_after has_value any_below
  more =
      record {
        none = λ j m. below_suc j i m (known.none j) (λ z. rw z none);
        kind-before = refl;
        step-before = refl;
        small = here.early;
        idle = λ z. sym here.born ∙ unborn b i z;
        rising = λ j m. rw (← here.born) (below_suc j i m (λ k. omega (arith, known.rising j k, higher)) (λ z. rw z (omega arith)));
        born = born-more;
        twice = λ n x m q h. twice-more n x m q (omega (arith, here.born));
        long = length-set l.names (name b i) next ∙ known.long;
      }
