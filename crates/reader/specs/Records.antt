-- What is read of one record, at once: its fields, and what they alone say of it, which is what Block.antt says of its bytes (RecordLaws).
-- Document 01, "Records of a block".
use Rattle.std.specs.Prelude.{ℕ, ◌+◌, ◌*◌, Bool, not, ◌&&◌, ◌||◌, List, ltb, eqb}
use Rattle.reader.specs.Block.{kind, step, operation, name, left_name, right_name, literal, reads_left, reads_right, birth, within}
use Rattle.reader.specs.declared.Record.{Record}

unfoldable pub record_of : List ℕ → ℕ → Record
record_of b i =
    record {
      kind = kind b i;
      step = step b i;
      operation = operation b i;
      name = name b i;
      left = left_name b i;
      right = right_name b i;
      literal = literal b i;
      birth = birth b i;
      reads_left = reads_left b i;
      reads_right = reads_right b i;
    }

-- kind not 1, 2, 3
unfoldable pub kind_fault_of : Record → Bool
kind_fault_of f = not (within 1 3 f.kind)

-- step, operation or used name beyond its range
unfoldable pub range_fault_of : Record → Bool
range_fault_of f =
    eqb f.kind 2 && not (within 1 64 f.step && within 1 8 f.operation)
    || ltb 63 f.name
    || f.reads_left && ltb 63 f.left
    || f.reads_right && ltb 63 f.right

-- an unused byte that is not zero
unfoldable pub unused_fault_of : Record → Bool
unused_fault_of f =
    not (eqb f.kind 2) && not (eqb f.step 0 && eqb f.operation 0)
    || not f.reads_left && not (eqb f.left 0)
    || not f.reads_right && not (eqb f.right 0)
    || not (eqb f.kind 2 && eqb f.operation 2) && not (eqb f.literal 0)

-- kind and birth as one number, which never falls from record to record of a block without a fault
abbrev pub mark_of : Record → ℕ
mark_of f = 256 * f.kind + f.birth
