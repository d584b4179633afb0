-- A record's eight bytes, handed on as a part of the block, say of the record what the block says of it.
use Prim.Native.Nat.{ℕ, ◌*◌, ◌<◌}
use mathlib.Core.Path.{◌≡◌, ◌∙◌}
use mathlib.Core.List.{List}
use lib.ListN.{get_or, drop}
use lib.Seq.{get_or-take, get_or-drop}
use lib.Dec.{lit<}
use Rattle.reader.specs.Block.{field, kind, step, operation, name, left_name, right_name, birth}
use Rattle.reader.specs.Judging.{record_at}
use Rattle.reader.specs.Records.{record_of}

byte-is : (b : List ℕ) (i k : ℕ) → k < 8 → get_or (record_at b i) k 0 ≡ field b i k
byte-is b i k h = get_or-take 8 (drop (8 * i) b) k 0 h ∙ get_or-drop (8 * i) b k 0

-- p is the record i of b
pub record Is (p b : List ℕ) (i : ℕ) : Type 0 where
  pub kind-is : kind p 0 ≡ kind b i
  pub step_is : step p 0 ≡ step b i
  pub operation-is : operation p 0 ≡ operation b i
  pub name-is : name p 0 ≡ name b i
  pub left_is : left_name p 0 ≡ left_name b i
  pub right_is : right_name p 0 ≡ right_name b i
  pub low-is : field p 0 6 ≡ field b i 6
  pub high_is : field p 0 7 ≡ field b i 7

pub one-record : (b : List ℕ) (i : ℕ) → Is (record_at b i) b i
one-record b i =
    record {
      kind-is = byte-is b i 0 (lit< tt);
      step_is = byte-is b i 1 (lit< tt);
      operation-is = byte-is b i 2 (lit< tt);
      name-is = byte-is b i 3 (lit< tt);
      left_is = byte-is b i 4 (lit< tt);
      right_is = byte-is b i 5 (lit< tt);
      low-is = byte-is b i 6 (lit< tt);
      high_is = byte-is b i 7 (lit< tt);
    }

module _ {p b : List ℕ} {i : ℕ} (e : Is p b i) where
  same-birth : birth p 0 ≡ birth b i
  unfolding birth
  same-birth = cc

  pub same-record : record_of p 0 ≡ record_of b i
  unfolding record_of
  same-record = rw (e.kind-is, e.step_is, e.operation-is, e.name-is, e.left_is, e.right_is, e.low-is, e.high_is, same-birth)
