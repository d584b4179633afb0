-- What the entries show of their records: what each reads and sends out, and so the last boundary of a value.
use Prim.Native.Nat.{ℕ, zero, suc, ◌-◌, ◌%◌, ◌≤◌, ◌<◌, max}
use mathlib.Core.Bool.{Bool, false, cond, ◌||◌}
use mathlib.Core.Path.{◌≡◌, refl, sym, ap, ◌∙◌}
use mathlib.Core.List.{List, [], ◌∷◌}
use native.Mathlib.Omega.{arith}
use lib.ListN.{length, get_or, take, get_or-eq_default}
use lib.Seq.{get_or-take}
use Rattle.std.proofs.Common.{length-take-le}
use lib.Dec.{ltb}
use borrow.Author.Tests.{ltb-true, ltb-false}
use Rattle.std.proofs.Math.Nat.{zero-max}
use Rattle.std.specs.Array.{AllOfLen}
use Rattle.std.specs.Prelude.{replicate, Option, None}
use Rattle.std.proofs.lemmas.List.{ext_get_or, length-replicate, get_or-replicate}
use Rattle.std.specs.List.{fold, list_any}
use Rattle.std.proofs.lemmas.Bool.Decides.{nat_tests}
use Rattle.ranges.specs.Truth.{by-test}
use Rattle.ranges.specs.Below.{any_below, largest_below, filled}
use Rattle.ranges.specs.Finding.{any_same, largest-same}
use Rattle.ranges.specs.Tables.{tabulate-same, length-filled}
use Rattle.reader.specs.Block.{field, records, kind, step, operation, reads, sends, last, last_step, values}
use Rattle.reader.specs.declared.kinds.Kind.{Kind}
use Rattle.reader.specs.declared.kinds.Operation.{Operation}
use Rattle.reader.specs.declared.kinds.Class.{Class}
use Rattle.reader.specs.declared.kinds.Class.TheVariants.{A}
use Rattle.reader.specs.KindLaws.{operates-is, goes-out-is, constant-is}
use Rattle.reader.specs.Table.{no_entry, entry_of, entries_of, lasts_of, no_table, entry_reads, entry_sends, before_reading, last_in, Entered}
use Rattle.reader.specs.TableLaws.{entries_at}
use Rattle.reader.specs.Sources.{named_in, names_in}
use Rattle.reader.specs.declared.Entry.{Entry}
use Rattle.reader.specs.declared.Table.{Table}

-- ---- one entry

reads-shown : (b : List ℕ) (i v : ℕ) → entry_reads (entry_of b i) v ≡ reads b i v
unfolding entry_of reads
reads-shown b i v = rw (operates-is (kind b i), constant-is (operation b i)) (grind (arith, nat_tests))

sends-shown : (b : List ℕ) (i v : ℕ) → entry_sends (entry_of b i) v ≡ sends b i v
unfolding entry_of sends
sends-shown b i v = rw (goes-out-is (kind b i)) (grind (arith, nat_tests))

step-shown : (b : List ℕ) (i : ℕ) → (entry_of b i).step ≡ step b i
unfolding entry_of
step-shown b i = refl

-- past the end of whole records all is 0
past : (b : List ℕ) (i k : ℕ) → length b % 8 ≡ 0 → records b ≤ i → field b i k ≡ 0
past b i k w h = get_or-eq_default b 0 (omega arith)

named-past : (b : List ℕ) (i : ℕ) → length b % 8 ≡ 0 → records b ≤ i → named_in b i ≡ None
unfolding named_in
named-past b i w h = rw (past b i 0 w h)

pub all-names : (b : List ℕ) → length b % 8 ≡ 0 → filled 80 (records b) None (named_in b) ≡ names_in b
unfolding names_in filled
all-names b w =
    tabulate-same 80 _ _ (λ i l. by-test (ltb i (records b)) (λ t. rw t) (λ t. rw t (sym (named-past b i w (ltb-false i (records b) t)))))

-- ---- a list from its front

any-front : (n : ℕ) (f : ℕ → Bool) → any_below (suc n) f ≡ (f 0 || any_below n (λ k. f (suc k)))
unfolding any_below
any-front zero f = grind (arith, nat_tests)
any-front (suc n) f = grind (arith, nat_tests, any-front n f)

largest-front : (n : ℕ) (f : ℕ → ℕ) → largest_below (suc n) f ≡ max (f 0) (largest_below n (λ k. f (suc k)))
unfolding largest_below
largest-front zero f = omega arith
largest-front (suc n) f = omega (arith, largest-front n f)

module _ {A : Type 0} (d : A) where
  list-any : (p : A → Bool) (xs : List A) → list_any p xs ≡ any_below (length xs) (λ i. p (get_or xs i d))
  unfolding any_below
  list-any p [] = refl
  list-any p (x ∷ xs) = ap (λ (t : Bool). p x || t) (list-any p xs) ∙ sym (any-front (length xs) (λ i. p (get_or (x ∷ xs) i d)))

  list-largest : (h : A → ℕ) (xs : List A) (a : ℕ) → fold (λ far x. max far (h x)) a xs ≡ max a (largest_below (length xs) (λ i. h (get_or xs i d)))
  unfolding largest_below
  list-largest h [] a = omega arith
  list-largest h (x ∷ xs) a =
      omega (arith, list-largest h xs (max a (h x)), largest-front (length xs) (λ i. h (get_or (x ∷ xs) i d)))

-- ---- the entries of all records

module _ (b : List ℕ) (all : List Entry) (e : all ≡ entries_of b) (few : records b ≤ 80) where
  pub taken : length (take (records b) all) ≡ records b
  unfolding entries_of
  taken = let long : length all ≡ 80 = ap length e ∙ length-filled 80 no_entry (entry_of b) (records b) in length-take-le (records b) all (omega arith)

pub entered : (b : List ℕ) (all : List Entry) (t : ℕ) → all ≡ entries_of b → records b ≤ 80 → t ≡ last_step b → Entered (take (records b) all) t b
entered b all t e few s =
    let part = taken b all e few in
    record {
      all = part;
      each = λ i l. get_or-take (records b) all i no_entry (omega arith) ∙ rw e (entries_at b i (omega arith) (omega arith));
      last-step-is = s;
    }

-- ---- last boundaries

module _ (entries : List Entry) (t : ℕ) (b : List ℕ) (E : Entered entries t b) where
  reading-shown : (v : ℕ) → fold (λ far e. max far (before_reading e v)) 0 entries ≡ largest_below (records b) (λ i. cond (reads b i v) (step b i - 1) 0)
  reading-shown v =
      list-largest no_entry (λ e. before_reading e v) entries 0 ∙ zero-max _
      ∙ largest-same (length entries) _ _ (λ i l. rw (E.each i l, reads-shown b i v, step-shown b i))
      ∙ ap (λ (k : ℕ). largest_below k (λ i. cond (reads b i v) (step b i - 1) 0)) E.all

  sending-shown : (v : ℕ) → list_any (λ e. entry_sends e v) entries ≡ any_below (records b) (λ i. sends b i v)
  sending-shown v =
      list-any no_entry (λ e. entry_sends e v) entries
      ∙ any_same (length entries) _ _ (λ i l. rw (E.each i l, sends-shown b i v))
      ∙ ap (λ (k : ℕ). any_below k (λ i. sends b i v)) E.all

  last-shown : (v : ℕ) → v < length entries → last_in entries t v ≡ last b v
  unfolding last_in last entry_of
  last-shown v l = rw (reading-shown v, sending-shown v, E.each v l, E.last-step-is)

  pub all-lasts : (m : ℕ) → m ≤ length entries → m ≡ values b → filled 80 m 0 (last_in entries t) ≡ lasts_of b
  unfolding lasts_of filled
  all-lasts m h e =
      rw (← e) (tabulate-same 80 _ _ (λ v l. by-test (ltb v m) (λ s. rw s (last-shown v (omega (arith, ltb-true v m s)))) (λ s. rw s)))

-- ---- the empty table

-- an array each of whose elements is d
all-default : {A : Type 0} (d : A) (P : A → Type 0) (n : ℕ) (xs : List A) → ((x : A) → P x → x ≡ d) → AllOfLen P xs n → xs ≡ replicate n d
all-default d P n xs only h =
    ext_get_or d xs (replicate n d) (h.long ∙ sym (length-replicate n d))
    (λ i l. let k : i < n = omega (arith, h.long) in only (get_or xs i d) (h.at i d k) ∙ sym (get_or-replicate n i d d k))

entry-by : (k : Option Kind) (s : ℕ) (o : Option Operation) (c : Bool) (l : Class) (n x t u v w : ℕ) → k ≡ None → s ≡ 0 → o ≡ None → c ≡ false → l ≡ A → n ≡ 0 → x ≡ 0 → t ≡ 0 → u ≡ 0 → v ≡ 0 → w ≡ 0
    → ◌≡◌ {A = Entry} (record {
      kind = k;
      step = s;
      operation = o;
      computes = c;
      class = l;
      name = n;
      literal = x;
      birth = t;
      left = u;
      right = v;
      sent = w;
    }) no_entry
entry-by k s o c l n x t u v w h1 h2 h3 h4 h5 h6 h7 h8 h9 h10 h11 = rw (h1, h2, h3, h4, h5, h6, h7, h8, h9, h10, h11)

table-by : (es : List Entry) (ls : List ℕ) (i v o t : ℕ) → es ≡ replicate 80 no_entry → ls ≡ replicate 80 0 → i ≡ 0 → v ≡ 0 → o ≡ 0 → t ≡ 0
    → ◌≡◌ {A = Table} (record { entries = es; lasts = ls; incoming = i; values = v; outgoing = o; last_step = t }) no_table
table-by es ls i v o t h1 h2 h3 h4 h5 h6 = rw (h1, h2, h3, h4, h5, h6)

-- what the derived `default` says of each field
pub default-entry : (e : Entry) → (e.kind ≡ None) × ((e.step ≡ 0) × ((e.operation ≡ None) × ((e.computes ≡ false) × ((e.class ≡ A) × ((e.name ≡ 0)
    × ((e.literal ≡ 0) × ((e.birth ≡ 0) × ((e.left ≡ 0) × ((e.right ≡ 0) × (e.sent ≡ 0)))))))))) → e ≡ no_entry
default-entry e (k, (s, (o, (c, (l, (n, (x, (t, (u, (v, w)))))))))) =
    entry-by e.kind e.step e.operation e.computes e.class e.name e.literal e.birth e.left e.right e.sent k s o c l n x t u v w

pub default-table : (t : Table) (P : Entry → Type 0) (Q : ℕ → Type 0) → ((e : Entry) → P e → e ≡ no_entry) → ((x : ℕ) → Q x → x ≡ 0)
    → AllOfLen P t.entries 80 × (AllOfLen Q t.lasts 80 × ((t.incoming ≡ 0) × ((t.values ≡ 0) × ((t.outgoing ≡ 0) × (t.last_step ≡ 0))))) → t ≡ no_table
default-table t P Q p q (es, (ls, (i, (v, (o, s))))) =
    table-by t.entries t.lasts t.incoming t.values t.outgoing t.last_step (all-default no_entry P 80 t.entries p es) (all-default 0 Q 80 t.lasts q ls) i v o s
