-- Laws of a record: what its fields say of it is what Block.antt says of its bytes.
-- Document 01, "Records of a block".
use Rattle.std.specs.Prelude.{◌≡◌, refl, ℕ, List}
use Rattle.reader.specs.Block.{kind_fault, range_fault, unused_fault}
use Rattle.reader.specs.Records.{record_of, kind_fault_of, range_fault_of, unused_fault_of}

module _ (b : List ℕ) (i : ℕ) where
  pub kind-fault-is : kind_fault_of (record_of b i) ≡ kind_fault b i
  unfolding record_of kind_fault_of kind_fault
  kind-fault-is = refl

  pub range-fault-is : range_fault_of (record_of b i) ≡ range_fault b i
  unfolding record_of range_fault_of range_fault
  range-fault-is = refl

  pub unused-fault-is : unused_fault_of (record_of b i) ≡ unused_fault b i
  unfolding record_of unused_fault_of unused_fault
  unused-fault-is = refl
