-- Connections by their first uses, as tables: what the searches and the nodes tell.
use Prim.Native.Nat.{ℕ, ◌+◌, ◌≤◌, ◌<◌}
use mathlib.Core.Bool.{Bool, true, false, ◌&&◌, not, and-true, and-false}
use mathlib.Core.Path.{◌≡◌, sym, ap, ◌∙◌}
use mathlib.Core.List.{List, [], ◌∷◌, ◌++◌, append-nil}
use native.Mathlib.Omega.{arith}
use lib.ListN.{get_or, length, take}
use lib.Dec.{ltb}
use borrow.Author.Tests.{lt-ltb, le-ltb}
use Rattle.std.proofs.Common.{length-take-le, get_or-take}
use Rattle.std.proofs.lemmas.List.{length_push, get_or_push, get_or_append_left}
use Rattle.std.specs.Prelude.{Option, Some, None, is_some}
use Rattle.ranges.specs.Below.{any_below, keep_below}
use Rattle.ranges.specs.Counting.{count-le}
use Rattle.ranges.specs.Tables.{length-keep, keep-next, keep-in}
use Rattle.ranges.specs.Truth.{by-test, by_equal}
use Rattle.ranges.specs.Finding.{any-true, none_any, any_same, first-at}
use Rattle.reader.specs.declared.Use.{Use}
use Rattle.allocator.specs.Links.{use_at, same_use, made_alike, first_at, first_in, bus_node, Steps, Nodes, node_in, found_in}
use Rattle.allocator.specs.Nodes.{no_node}
use Rattle.allocator.specs.declared.graphs.Node.{Node}

-- ---- the first use of a connection

module _ (earlier : List (Option Use)) (x : Option Use) where
  -- an earlier use has the connection
  pub not_first : (v : ℕ) → v < length earlier → made_alike earlier x v ≡ true → false ≡ first_at earlier x
  unfolding first_at
  not_first v l t = sym (rw (any-true (length earlier) (made_alike earlier x) v l t) (and-false (is_some x)))

  -- none has
  pub first_made : (v : ℕ) → length earlier ≤ v → ((j : ℕ) → j < v → made_alike earlier x j ≡ false) → is_some x ≡ first_at earlier x
  unfolding first_at
  first_made v l h = sym (rw (none_any (length earlier) (made_alike earlier x) (λ j m. h j (omega arith))) (and-true (is_some x)))

-- the uses before u
pub first_same : (uses : List (Option Use)) (u : ℕ) → u ≤ length uses → first_at (take u uses) (use_at uses u) ≡ first_in uses u
unfolding first_at first_in
first_same uses u l =
    let x = use_at uses u in
    ap (λ (t : Bool). is_some x && not t)
    (ap (λ (k : ℕ). any_below k (made_alike (take u uses) x)) (length-take-le u uses l)
    ∙ any_same u (made_alike (take u uses) x) (made_alike uses x) (λ v m. ap (λ (y : Option Use). same_use y x) (get_or-take u uses v _ m)))

-- ---- the list of first uses

module _ (uses : List (Option Use)) (k : ℕ) (firsts : List ℕ) where
  pub firsts-few : firsts ≡ keep_below k (first_in uses) → length firsts ≤ k
  firsts-few e = omega (arith, ap length e, length-keep k (first_in uses), count-le k (first_in uses))

  pub firsts-more : first_in uses k ≡ true → firsts ≡ keep_below k (first_in uses) → firsts ++ k ∷ [] ≡ keep_below (k + 1) (first_in uses)
  firsts-more t h = rw (h, keep-next, t)

  pub firsts-same : first_in uses k ≡ false → firsts ≡ keep_below k (first_in uses) → firsts ≡ keep_below (k + 1) (first_in uses)
  firsts-same t h = h ∙ rw (keep-next, t) (sym (append-nil (keep_below k (first_in uses))))

pub first-below : (uses : List (Option Use)) (firsts : List ℕ) (i : ℕ) → firsts ≡ keep_below (length uses) (first_in uses) → i < length firsts → get_or firsts i 0 < length uses
first-below uses firsts i e l =
    omega (arith, ap (λ (x : List ℕ). get_or x i 0) e, (keep-in (length uses) (first_in uses) i (omega (arith, ap length e, length-keep (length uses) (first_in uses)))).0)

-- ---- the node of a connection

module _ (uses : List (Option Use)) (firsts : List ℕ) (x : Option Use) (i : ℕ) where
  pub found-at : i < length firsts → ((j : ℕ) → j < i → same_use (use_at uses (get_or firsts j 0)) x ≡ false) → same_use (use_at uses (get_or firsts i 0)) x ≡ true
      → Some i ≡ found_in uses firsts x
  unfolding found_in node_in
  found-at l h t =
      let e = first-at (length firsts) (λ j. same_use (use_at uses (get_or firsts j 0)) x) i (omega arith) h (λ m. t) in
      sym (rw (e, lt-ltb i (length firsts) l))

  pub found-none : length firsts ≤ i → i ≤ length firsts → ((j : ℕ) → j < i → same_use (use_at uses (get_or firsts j 0)) x ≡ false) → None ≡ found_in uses firsts x
  unfolding found_in node_in
  found-none l m h =
      let e = first-at (length firsts) (λ j. same_use (use_at uses (get_or firsts j 0)) x) i m h (λ k. absurd (omega arith)) in
      sym (rw (e, le-ltb i (length firsts) l))

  pub found-some : Some i ≡ found_in uses firsts x → (i ≡ node_in uses firsts x) × (ltb (node_in uses firsts x) (length firsts) ≡ true)
  unfolding found_in
  found-some e =
      by-test (ltb (node_in uses firsts x) (length firsts))
      (λ t. let s = rw t at e in let q : i ≡ node_in uses firsts x = cc in (q, t))
      (λ t. let s = rw t at e in cc)

pub found-no : (uses : List (Option Use)) (firsts : List ℕ) (x : Option Use) → None ≡ found_in uses firsts x → ltb (node_in uses firsts x) (length firsts) ≡ false
unfolding found_in
found-no uses firsts x e = by-test (ltb (node_in uses firsts x) (length firsts)) (λ t. let s = rw t at e in cc) (λ t. t)

-- ---- the nodes of connections

pub nodes-more : (uses : List (Option Use)) (firsts : List ℕ) (i : ℕ) (nodes : List Node) (node : Node) (steps : ℕ) → node ≡ bus_node steps
    → Steps uses (length uses) (use_at uses (get_or firsts i 0)) steps → Nodes uses firsts i nodes → Nodes uses firsts (i + 1) (nodes ++ node ∷ [])
nodes-more uses firsts i nodes node steps e s g =
    record {
      many = length_push nodes node ∙ ap (λ (k : ℕ). k + 1) g.many;
      node = λ k l.
          by_equal k i
          (λ q. rw q (steps, get_or_push nodes node no_node i g.many ∙ e, s))
          (λ o. let z = g.node k (omega arith) in (z.0, get_or_append_left nodes (node ∷ []) no_node k (omega (arith, g.many)) ∙ z.1, z.2));
    }
