-- Laws of the tests on gathered values: of a readable block and any binding they are the rules 16 to 19.
-- Document 01, "Binding records", the rules of a binding.
use Prim.Native.Nat.{ℕ, zero, suc, ◌<◌}
use Rattle.std.specs.Prelude.{Bool, true, false, cond, not, ◌&&◌, ◌≡◌, List, Option, Some, None, length, take, get_or, eqb}
use Rattle.std.proofs.Math.Bool.{and_assoc}
use Rattle.std.proofs.Math.Path.{refl, sym, ap, ap₂}
use Rattle.std.proofs.Math.Nat.{add-zero}
use Rattle.std.proofs.Common.{arith, get_or-take, length-take-le}
use Rattle.std.proofs.Math.Dec.{leb, ltb}
use Rattle.std.specs.Option.{is_some}
use Rattle.ranges.specs.Truth.{by-test, and_same, both-parts, three-parts}
use Rattle.ranges.specs.Finding.{any_same}
use Rattle.ranges.specs.Tables.{length-tabulate, get_d_tabulate}
use Rattle.reader.specs.Block.{operation, step, computes, values, last, overlap}
use Rattle.reader.specs.Table.{entry_of}
use Rattle.reader.specs.KindLaws.{class-is}
use Rattle.reader.specs.Binding.{register, unit, bus, makes_use, asks_in, some_step, class, may_share_unit, clash, same_connection, no_place, place_of, places_of}
use Rattle.reader.specs.Boundaries.{values-le}
use Rattle.reader.specs.StepsInUse.{used-same-step, asks-same-step}
use Rattle.reader.specs.TableLaws.{Shows, place_is}
use Rattle.reader.specs.Uses.{uses_in}
use Rattle.reader.specs.UseLaws.{use_by, placed, use-is, if-made-is}
use Rattle.reader.specs.declared.Table.{Table}
use Rattle.reader.specs.declared.Place.{Place}
use Rattle.reader.specs.declared.Use.{Use}
use Rattle.checker.specs.declared.bound.Bound.{Bound}
use Rattle.checker.specs.declared.bound.Carried.{Carried}
use Rattle.checker.specs.declared.rules.Rule.{Rule}
use Rattle.checker.specs.declared.rules.Rule.TheVariants.{SharedRegister, SharedUnit, SharedBus, SplitConnection}
use Rattle.checker.specs.Rules.{on_one_unit, some_uses, clash_on_bus, two_buses, breaks16, breaks17, breaks18, breaks19}
use Rattle.checker.specs.Bound.{bound_at, bound_in, no_bound, carried_by, carried, shares_register, shares_unit, of_both, uses_clash, uses_part, uses_break, some_break, breaks_bound, breaks_in}

-- ---- what is gathered of a value

pub record IsBound (x : Bound) (b d : List ℕ) (v : ℕ) : Type 0 where
  pub entry-is : x.entry ≡ entry_of b v
  pub last-is : x.last ≡ last b v
  pub place_is : x.place ≡ place_of d v
  pub use-is : (i : ℕ) → i < 3 → carried x i ≡ carried_by (use_by b d v i) (bus d v i)

-- of every value of the block
pub record Gathered (all : List Bound) (b d : List ℕ) : Type 0 where
  pub value : (v : ℕ) → v < values b → IsBound (get_or all v no_bound) b d v

-- and of no more
pub record GatheredAlone (all : List Bound) (b d : List ℕ) : Type 0 where
  pub long : length all ≡ values b
  pub each : Gathered all b d

module _ (t : Table) (b d : List ℕ) (S : Shows t b) (v : ℕ) (l : v < values b) where
  abbrev own : Bound
  own = bound_at t.entries t.lasts (places_of d) (uses_in t (places_of d)) v

  own-place : get_or (places_of d) v no_place ≡ place_of d v
  own-place = place_is d v (omega (arith, S.fewer))

  own-use : (i : ℕ) → i < 3 → carried own i ≡ carried_by (use_by b d v i) (bus d v i)
  unfolding bound_at place_of
  own-use zero h =
      ap₂ carried_by (if-made-is (rw add-zero at (use-is t (places_of d) b d S (placed b d S.fewer) v 0 l h))) (ap (λ (p : Place). p.left) own-place)
  own-use (suc zero) h =
      ap₂ carried_by (if-made-is (use-is t (places_of d) b d S (placed b d S.fewer) v 1 l h)) (ap (λ (p : Place). p.right) own-place)
  own-use (suc (suc zero)) h =
      ap₂ carried_by (if-made-is (use-is t (places_of d) b d S (placed b d S.fewer) v 2 l h)) (ap (λ (p : Place). p.result) own-place)
  own-use (suc (suc (suc i))) h = absurd (omega arith)

  bound-is : IsBound own b d v
  unfolding bound_at
  bound-is =
      let fewer = S.fewer in
      record {
        entry-is = S.entry-is v (omega (arith, values-le b));
        last-is = S.last-is v l;
        place_is = own-place;
        use-is = own-use;
      }

pub gathered : (t : Table) (b d : List ℕ) → Shows t b → Gathered (bound_in t (places_of d)) b d
unfolding bound_in
gathered t b d S = record { value = λ v l. rw (get_d_tabulate 80 _ no_bound v (omega (arith, S.fewer))) (bound-is t b d S v l) }

bound-many : (t : Table) (places : List Place) → length (bound_in t places) ≡ 80
unfolding bound_in
bound-many t places = length-tabulate 80 _

-- of the 80 that are gathered as many as the block has values
pub gathered-alone : (t : Table) (b d : List ℕ) → Shows t b → GatheredAlone (take (values b) (bound_in t (places_of d))) b d
gathered-alone t b d S =
    let all = bound_in t (places_of d) in
    record {
      long = length-take-le (values b) all (omega (arith, S.fewer, bound-many t (places_of d)));
      each = record { value = λ v l. rw (get_or-take (values b) all v no_bound l) ((gathered t b d S).value v l) };
    }

-- ---- tests under which something holds

under-both : (m n r s : Bool) → (m ≡ true → n ≡ true → r ≡ s) → (m && n && r) ≡ (m && n && s)
under-both m n r s h = and_same (m && n) r s (λ t. let p = both-parts m n t in h p.0 p.1)

under-both-of-unit : (m n u k r s : Bool) → (m ≡ true → n ≡ true → r ≡ s) → (m && n && u && not (k && not r)) ≡ (m && n && u && not (k && not s))
under-both-of-unit m n u k r s h = and_same (m && n && u) _ _ (λ t. let p = three-parts m n u t in rw (h p.0 p.1))

-- ---- the rules of two values that are gathered

module _ (b d : List ℕ) (v w : ℕ) (x y : Bound) (X : IsBound x b d v) (Y : IsBound y b d w) where
  same-registers : shares_register x y ≡ (eqb (register d v) (register d w) && overlap b v w)
  unfolding shares_register overlap entry_of place_of
  same-registers = rw (X.place_is, Y.place_is, X.entry-is, Y.entry-is, X.last-is, Y.last-is)

  same_units : v < values b → shares_unit x y ≡ (on_one_unit b d v w && not (may_share_unit b v w))
  unfolding shares_unit may_share_unit entry_of place_of
  same_units l =
      rw (X.place_is, Y.place_is, X.entry-is, Y.entry-is, class-is (operation b v), class-is (operation b w))
      (under-both-of-unit (computes b v) (computes b w) (eqb (unit d v) (unit d w)) (eqb (class b v) (class b w)) (eqb (step b v) (step b w)) (some_step b (asks_in b v) (asks_in b w)) (λ p q. sym (asks-same-step b v w l p q)))

-- ---- the rules of two uses

both-made : (p : Use → Use → Bool) (m n : Bool) (x y : Use) → of_both p (cond m (Some x) None) (cond n (Some y) None) ≡ (m && n && p x y)
both-made p true true x y = refl
both-made p true false x y = refl
both-made p false n x y = refl

pub made-is : (b d : List ℕ) (v p : ℕ) {u : Option Use} → u ≡ use_by b d v p → is_some u ≡ makes_use b v p
unfolding use_by
made-is b d v p e = rw e (by-test (makes_use b v p) (λ t. rw t) (λ t. rw t))

module _ (b d : List ℕ) (v i w j : ℕ) (l : v < values b) (a c : Carried)
    (A : a ≡ carried_by (use_by b d v i) (bus d v i)) (C : c ≡ carried_by (use_by b d w j) (bus d w j)) where
  same-clash : uses_clash (eqb v w && eqb i j) a c ≡ (makes_use b v i && makes_use b w j && clash_on_bus b d v w i j)
  unfolding uses_clash use_by clash
  same-clash =
      rw (A, C, both-made)
      (under-both (makes_use b v i) (makes_use b w j) _ _ (λ p q. rw (used-same-step b v i w j l p q)))

  same-part : uses_part a c ≡ (makes_use b v i && makes_use b w j && two_buses b d v w i j)
  unfolding uses_part use_by same_connection
  same-part = rw (A, C, both-made)

-- ---- the rules of all pairs

pub bus-is : (b d : List ℕ) (v : ℕ) (x : Bound) → IsBound x b d v → (i : ℕ) → i < 3 → (carried x i).bus ≡ bus d v i
bus-is b d v x X i h = ap (λ (a : Carried). a.bus) (X.use-is i h)

module _ (all : List Bound) (b d : List ℕ) (G : Gathered all b d) (v w : ℕ) (l : v < values b) (m : w < values b) where
  abbrev x : Bound
  x = get_or all v no_bound

  abbrev y : Bound
  y = get_or all w no_bound

  -- a use of v and a use of w, by either rule
  same-uses : (rule : Rule) (test : ℕ → ℕ → Bool)
      → ((i j : ℕ) → i < 3 → j < 3 → uses_break rule (eqb v w && eqb i j) (carried x i) (carried y j) ≡ (makes_use b v i && makes_use b w j && test i j))
      → some_break rule (eqb v w) x y ≡ some_uses b v w test
  unfolding some_break
  same-uses rule test h = any_same 3 _ _ (λ i p. any_same 3 _ _ (λ j q. h i j p q))

  pub is16 : breaks_in SharedRegister all v w ≡ breaks16 b d v w
  unfolding breaks_in breaks_bound breaks16
  is16 = rw (same-registers b d v w x y (G.value v l) (G.value w m)) (sym (and_assoc (ltb w v) _ _))

  pub is17 : breaks_in SharedUnit all v w ≡ breaks17 b d v w
  unfolding breaks_in breaks_bound breaks17
  is17 = rw (same_units b d v w x y (G.value v l) (G.value w m) l) (sym (and_assoc (ltb w v) _ _))

  pub is18 : breaks_in SharedBus all v w ≡ breaks18 b d v w
  unfolding breaks_in breaks_bound breaks18 uses_break
  is18 =
      let X = G.value v l in
      let Y = G.value w m in
      ap (λ (t : Bool). leb w v && t) (same-uses SharedBus (clash_on_bus b d v w) (λ i j p q.
      same-clash b d v i w j l (carried x i) (carried y j) (X.use-is i p) (Y.use-is j q)))

  pub is19 : breaks_in SplitConnection all v w ≡ breaks19 b d v w
  unfolding breaks_in breaks_bound breaks19 uses_break
  is19 =
      let X = G.value v l in
      let Y = G.value w m in
      ap (λ (t : Bool). ltb w v && t) (same-uses SplitConnection (two_buses b d v w) (λ i j p q.
      same-part b d v i w j l (carried x i) (carried y j) (X.use-is i p) (Y.use-is j q)))
