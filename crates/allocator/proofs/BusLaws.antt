-- The graph of buses: a table of uses has the first uses, the steps and the nodes of the connections of the block.
use Prim.Native.Nat.{ℕ, suc, ◌*◌, ◌/◌, ◌%◌, ◌≤◌, ◌<◌}
use mathlib.Core.Bool.{Bool, true, false, cond, not, ◌&&◌}
use mathlib.Core.Path.{◌≡◌, refl, sym, ap, ap₂, ◌∙◌}
use mathlib.Core.List.{List}
use native.Mathlib.Omega.{arith}
use lib.ListN.{get_or, length}
use lib.Dec.{eqb, ltb}
use borrow.Author.Tests.{eqb-true, eq-eqb, not-true, lt-ltb, le-ltb}
use Rattle.std.specs.Prelude.{Option, Some, None, is_some}
use Rattle.ranges.specs.Below.{any_below, count_below, keep_below, first_below}
use Rattle.ranges.specs.Truth.{both, both-parts, and_left, by-test, contradiction, not-holds, holds_not, same_tests}
use Rattle.ranges.specs.Finding.{any-true, any-witness, any_same, first-at, first-same}
use Rattle.ranges.specs.Counting.{count-zero, count-grows}
use Rattle.ranges.specs.Tables.{length-keep, keep_same, keep-in}
use Rattle.reader.specs.Block.{kind, step, is_operation, values, last_step}
use Rattle.reader.specs.Binding.{used_in, some_step, same_connection}
use Rattle.reader.specs.StepsInUse.{used-end, some-step, step-witness}
use Rattle.reader.specs.Readability.{operation-range}
use Rattle.reader.specs.declared.Use.{Use}
use Rattle.reader.specs.UseLaws.{made_use, use-made, use-not-made}
use Rattle.reader.specs.Binding.{source_of, sink_of}
use Rattle.allocator.specs.Merging.{graph_of}
use Rattle.allocator.specs.Words.{digit, shared_digits, leading}
use Rattle.allocator.specs.Nodes.{near_nodes, near_in}
use Rattle.allocator.specs.Allocation.{is_use, alike, is_first_use, first_uses, connection_in, connections_joined, buses_joined, bus_numbers, node_of}
use Rattle.allocator.specs.FirstUses.{node-below}
use Rattle.allocator.specs.Links.{use_at, step_of, same_use, made_alike, first_in, Steps, Nodes, Uses, node_in, bus_in}
use Rattle.allocator.specs.declared.graphs.Node.{Node}
use Rattle.allocator.proofs.LeadingLaws.{leading_at}
use Rattle.allocator.proofs.HeldLaws.{graph_same}

module _ (uses : List (Option Use)) (b d : List ℕ) (U : Uses uses b d) where
  -- ---- made uses, and uses of one connection

  use-of : (u : ℕ) → u < length uses → is_use b u ≡ true → use_at uses u ≡ made_use (step b (u / 3)) (source_of b d (u / 3) (u % 3)) (sink_of b d (u / 3) (u % 3))
  use-of u l t = U.each u l ∙ use-made b d (u / 3) (u % 3) t

  unused : (u : ℕ) → u < length uses → is_use b u ≡ false → use_at uses u ≡ None
  unused u l t = U.each u l ∙ use-not-made b d (u / 3) (u % 3) t

  made-same : (u : ℕ) → u < length uses → is_some (use_at uses u) ≡ is_use b u
  made-same u l = by-test (is_use b u) (λ t. rw (use-of u l t, t)) (λ t. rw (unused u l t, t))

  step-same : (u : ℕ) → u < length uses → is_use b u ≡ true → step_of (use_at uses u) ≡ step b (u / 3)
  step-same u l t = ap step_of (use-of u l t)

  alike_same : (u v : ℕ) → u < length uses → v < length uses → is_use b u ≡ true → is_use b v ≡ true → same_use (use_at uses u) (use_at uses v) ≡ alike b d u v
  unfolding same_connection
  alike_same u v l m s t = ap₂ same_use (use-of u l s) (use-of v m t)

  made-alike-same : (u v : ℕ) → u < length uses → v < length uses → is_use b u ≡ true → made_alike uses (use_at uses u) v ≡ (is_use b v && alike b d v u)
  made-alike-same u v l m s =
      by-test (is_use b v) (λ t. alike_same v u m l t s ∙ rw t) (λ t. ap (λ (y : Option Use). same_use y (use_at uses u)) (unused v m t) ∙ rw t)

  -- ---- first uses

  first-same-use : (u : ℕ) → u < length uses → first_in uses u ≡ is_first_use b d u
  unfolding first_in
  first-same-use u l =
      ap (λ (t : Bool). t && not (any_below u (made_alike uses (use_at uses u)))) (made-same u l)
      ∙ by-test (is_use b u)
      (λ t. ap (λ (x : Bool). is_use b u && not x) (any_same u _ (λ v. is_use b v && alike b d v u) (λ v m. made-alike-same u v l (omega arith) t)))
      (λ t. rw t)

  pub firsts_same : keep_below (length uses) (first_in uses) ≡ first_uses b d
  unfolding first_uses
  firsts_same = keep_same (length uses) (first_in uses) (is_first_use b d) first-same-use ∙ ap (λ (m : ℕ). keep_below m (is_first_use b d)) (sym U.all)

  -- ---- the steps of a connection

  connection-at : (x u k : ℕ) → u < length uses → is_use b u ≡ true → alike b d u x ≡ true → step b (u / 3) ≡ k → connection_in b d x k ≡ true
  unfolding connection_in used_in
  connection-at x u k l s t e =
      any-true (3 * values b) (λ v. used_in b (v / 3) (v % 3) k && alike b d v x) u (omega (arith, U.all)) (both (both s (eq-eqb (step b (u / 3)) k e)) t)

  connection-use : (x k : ℕ) → connection_in b d x k ≡ true → (u : ℕ) × (u < length uses) × (is_use b u ≡ true) × (alike b d u x ≡ true) × (step b (u / 3) ≡ k)
  unfolding connection_in used_in
  connection-use x k t =
      let w = any-witness (3 * values b) (λ v. used_in b (v / 3) (v % 3) k && alike b d v x) t in
      let p = both-parts (used_in b (w.0 / 3) (w.0 % 3) k) (alike b d w.0 x) w.2 in
      let q = both-parts (is_use b w.0) (eqb (step b (w.0 / 3)) k) p.0 in
      (w.0, omega (arith, w.1, U.all), q.0, p.1, eqb-true (step b (w.0 / 3)) k q.1)

  module _ (x steps : ℕ) (l : x < length uses) (s : is_use b x ≡ true) (S : Steps uses (length uses) (use_at uses x) steps) where
    digit_at : (u : ℕ) → u < length uses → is_use b u ≡ true → alike b d u x ≡ true → digit steps (step b (u / 3) % 64) ≡ true
    digit_at u m t a =
        S.step (step b (u / 3) % 64) (omega arith)
        ∙ any-true (length uses) (λ v. made_alike uses (use_at uses x) v && eqb (step b (u / 3) % 64) (step_of (use_at uses v) % 64)) u m
        (both (made-alike-same x u l m s ∙ both t a) (eq-eqb (step b (u / 3) % 64) (step_of (use_at uses u) % 64) (ap (λ (k : ℕ). k % 64) (sym (step-same u m t)))))

    digit-use : (k : ℕ) → k < 64 → digit steps k ≡ true
        → (u : ℕ) × (u < length uses) × (is_use b u ≡ true) × (alike b d u x ≡ true) × (step b (u / 3) % 64 ≡ k)
    digit-use k h t =
        let w = any-witness (length uses) (λ v. made_alike uses (use_at uses x) v && eqb k (step_of (use_at uses v) % 64)) (sym (S.step k h) ∙ t) in
        let p = both-parts (made_alike uses (use_at uses x) w.0) (eqb k (step_of (use_at uses w.0) % 64)) w.2 in
        let q = both-parts (is_use b w.0) (alike b d w.0 x) (sym (made-alike-same x w.0 l w.1 s) ∙ p.0) in
        (w.0, w.1, q.0, q.1, sym (eqb-true k (step_of (use_at uses w.0) % 64) p.1 ∙ ap (λ (m : ℕ). m % 64) (step-same w.0 w.1 q.0)))

  use-range : (u : ℕ) → u < length uses → is_use b u ≡ true → (1 ≤ step b (u / 3)) × (step b (u / 3) ≤ 64)
  use-range u l t =
      let r = operation-range b U.readable (u / 3) (omega (arith, U.all)) (eqb-true (kind b (u / 3)) 2 (and_left (is_operation b (u / 3)) _ t)) in
      (r.0, r.1)

  ends : (u : ℕ) → u < length uses → is_use b u ≡ true → step b (u / 3) < suc (last_step b)
  unfolding used_in
  ends u h z = used-end b (u / 3) (u % 3) (step b (u / 3)) (omega (arith, U.all)) (both z (eq-eqb (step b (u / 3)) (step b (u / 3)) refl))

  bus-near : (x y mx my : ℕ) → x < length uses → y < length uses → is_use b x ≡ true → is_use b y ≡ true → Steps uses (length uses) (use_at uses x) mx → Steps uses (length uses) (use_at uses y) my
      → eqb (shared_digits mx my) 0 ≡ connections_joined b d x y
  unfolding connections_joined shared_digits
  bus-near x y mx my l m s t SX SY = same_tests _ _ (λ e. holds_not (not-holds _ (apart (eqb-true (shared_digits mx my) 0 e)))) (λ e. eq-eqb (shared_digits mx my) 0 (none (not-true _ e)))
    where
      shared : ℕ → Bool
      shared k = digit mx k && digit my k

      apart : count_below 64 shared ≡ 0 → some_step b (connection_in b d x) (connection_in b d y) ≡ true → ⊥
      apart e z =
          let w = step-witness b (connection_in b d x) (connection_in b d y) z in
          let u = connection-use x w.0 w.1 in
          let v = connection-use y w.0 w.2 in
          let p = digit_at x mx l s SX u.0 u.1 u.2 u.3 in
          let q = digit_at y my m t SY v.0 v.1 v.2 v.3 in
          omega (arith, count-grows shared (step b (u.0 / 3) % 64) 64 (omega arith) (both p (rw (v.4 ∙ sym u.4) at q)))

      met : some_step b (connection_in b d x) (connection_in b d y) ≡ false → (k : ℕ) → k < 64 → shared k ≡ true → ⊥
      met e k h z =
          let p = both-parts (digit mx k) (digit my k) z in
          let u = digit-use x mx l s SX k h p.0 in
          let v = digit-use y my m t SY k h p.1 in
          let ru = use-range u.0 u.1 u.2 in
          let rv = use-range v.0 v.1 v.2 in
          let g : step b (v.0 / 3) ≡ step b (u.0 / 3) = omega (arith, u.4, v.4) in
          contradiction
          (some-step b (connection_in b d x) (connection_in b d y) (step b (u.0 / 3)) (ends u.0 u.1 u.2)
          (connection-at x u.0 (step b (u.0 / 3)) u.1 u.2 u.3 refl) (connection-at y v.0 (step b (u.0 / 3)) v.1 v.2 v.3 g)) e

      none : some_step b (connection_in b d x) (connection_in b d y) ≡ false → count_below 64 shared ≡ 0
      none e = count-zero 64 shared (λ k h. not-holds (shared k) (met e k h))

  -- ---- the list of first uses

  module _ (list : List ℕ) (L : list ≡ keep_below (length uses) (first_in uses)) where
    pub count-same-firsts : length list ≡ length (first_uses b d)
    count-same-firsts = ap length (L ∙ firsts_same)

    list_at : (i : ℕ) → i < length list → get_or list i 0 ≡ get_or (first_uses b d) i 0
    list_at i l = ap (λ (t : List ℕ). get_or t i 0) (L ∙ firsts_same)

    list-use : (i : ℕ) → i < length list → (get_or list i 0 < length uses) × (is_use b (get_or list i 0) ≡ true)
    list-use i l =
        let z = keep-in (length uses) (is_first_use b d) i (omega (arith, sym (length-keep (length uses) (is_first_use b d)), whole)) in
        rw (list_at i l ∙ ap (λ (t : List ℕ). get_or t i 0) (sym kept)) (z.0, and_left (is_use b _) _ z.1)
      where
        kept : keep_below (length uses) (is_first_use b d) ≡ first_uses b d
        kept = sym (keep_same (length uses) (first_in uses) (is_first_use b d) first-same-use) ∙ firsts_same

        whole : length list ≡ length (keep_below (length uses) (is_first_use b d))
        whole = count-same-firsts ∙ ap length (sym kept)

    pub bus-graph : (nodes : List Node) → Nodes uses list (length list) nodes → graph_of (length nodes) (near_in nodes) ≡ graph_of (length (first_uses b d)) (buses_joined b d)
    bus-graph nodes N = ap (λ (k : ℕ). graph_of k (near_in nodes)) N.many ∙ graph_same (length list) (near_in nodes) (buses_joined b d) pair ∙ ap (λ (k : ℕ). graph_of k (buses_joined b d)) count-same-firsts
      where
        pair : (i j : ℕ) → i < length list → j < length list → near_in nodes i j ≡ buses_joined b d i j
        pair i j l m =
            let x = N.node i l in
            let y = N.node j m in
            let p = list-use i l in
            let q = list-use j m in
            ap₂ near_nodes x.1 y.1 ∙ bus-near (get_or list i 0) (get_or list j 0) x.0 y.0 p.0 q.0 p.1 q.1 x.2 y.2
            ∙ ap₂ (connections_joined b d) (list_at i l) (list_at j m)

    node-same : (u : ℕ) → u < length uses → is_use b u ≡ true → node_in uses list (use_at uses u) ≡ node_of b d u
    unfolding node_in node_of
    node-same u l t =
        first-same (length list) _ (λ i. alike b d (get_or (first_uses b d) i 0) u)
        (λ i h. let p = list-use i h in alike_same (get_or list i 0) u p.0 l p.1 t ∙ ap (λ (x : ℕ). alike b d x u) (list_at i h))
        ∙ ap (λ (m : ℕ). first_below m (λ i. alike b d (get_or (first_uses b d) i 0) u)) count-same-firsts

    -- a use that is not made has no node
    none-found : ltb (node_in uses list None) (length list) ≡ false
    unfolding node_in
    none-found =
        let e = first-at (length list) (λ i. same_use (use_at uses (get_or list i 0)) None) (length list) (omega arith) (λ i l. never (use_at uses (get_or list i 0))) (λ l. absurd (omega arith)) in
        rw e (le-ltb (length list) (length list) (omega arith))
      where
        never : (x : Option Use) → same_use x None ≡ false
        never None = refl
        never (Some x) = refl

    -- the bus of a use
    pub bus-same : (numbers : List ℕ) → leading (length (first_uses b d)) numbers ≡ bus_numbers b d → (u : ℕ) → u < length uses
        → bus_in uses list numbers (use_at uses u) ≡ cond (is_use b u) (get_or (bus_numbers b d) (node_of b d u) 0) 255
    unfolding bus_in
    bus-same numbers M u l =
        by-test (is_use b u)
        (λ t. let below = node-below b d u (omega (arith, U.all)) t in
        rw (node-same u l t, count-same-firsts, t, lt-ltb (node_of b d u) (length (first_uses b d)) below)
        (sym (leading_at (length (first_uses b d)) numbers (node_of b d u) below) ∙ ap (λ (x : List ℕ). get_or x (node_of b d u) 0) M))
        (λ t. rw (unused u l t, none-found, t))
