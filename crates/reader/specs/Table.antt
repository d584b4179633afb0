-- What `table` hands on, by value: of each record what the crates above need, of each value its last boundary, and the counts.
-- Document 01, "Values, steps and boundaries"; "the reader returns .., value count and T".
use Rattle.std.specs.Prelude.{◌≡◌, ℕ, ◌-◌, ◌<◌, max, Bool, false, cond, not, ◌&&◌, ◌||◌, List, length, get_or, replicate, eqb, None}
use Rattle.std.specs.List.{fold, list_any}
use Rattle.ranges.specs.Below.{filled}
use Rattle.reader.specs.Block.{kind, step, operation, computes, name, literal, records, is_outgoing, reads_left, reads_right, left_value, right_value, sent_value, birth, last, incoming, values, outgoing, last_step, reading}
use Rattle.reader.specs.Kinds.{kind_at, operation_at, class_read, operates, goes_out, is_constant}
use Rattle.reader.specs.declared.kinds.Class.TheVariants.{A}
use Rattle.reader.specs.declared.Entry.{Entry}
use Rattle.reader.specs.declared.Table.{Table}

abbrev pub no_entry : Entry
no_entry =
    record { kind = None; step = 0; operation = None; computes = false; class = A; name = 0; literal = 0; birth = 0; left = 0; right = 0; sent = 0 }

-- the record i; a value that it does not read or send out stands as 0
unfoldable pub entry_of : List ℕ → ℕ → Entry
entry_of b i =
    record {
      kind = kind_at (kind b i);
      step = step b i;
      operation = operation_at (operation b i);
      computes = computes b i;
      class = class_read (operation b i);
      name = name b i;
      literal = literal b i;
      birth = birth b i;
      left = cond (reads_left b i) (left_value b i) 0;
      right = cond (reads_right b i) (right_value b i) 0;
      sent = cond (is_outgoing b i) (sent_value b i) 0;
    }

-- an entry for each record and a last boundary for each value; the rest of the 80 are 0
unfoldable pub entries_of : List ℕ → List Entry
entries_of b = filled 80 (records b) no_entry (entry_of b)

unfoldable pub lasts_of : List ℕ → List ℕ
lasts_of b = filled 80 (values b) 0 (last b)

-- ---- what the entries say of the value v, as their records do

abbrev pub entry_reads : Entry → ℕ → Bool
entry_reads e v = operates e.kind && not (is_constant e.operation) && eqb e.left v || e.computes && eqb e.right v

abbrev pub entry_sends : Entry → ℕ → Bool
entry_sends e v = goes_out e.kind && eqb e.sent v

-- j - 1 if it reads v in step j
abbrev pub before_reading : Entry → ℕ → ℕ
before_reading e v = cond (entry_reads e v) (e.step - 1) 0

-- the largest of: its birth; j - 1 for each reading in step j; t if an outgoing record gets it
unfoldable pub last_in : List Entry → ℕ → ℕ → ℕ
last_in entries t v =
    max (get_or entries v no_entry).birth (max (fold (λ far e. max far (before_reading e v)) 0 entries) (cond (list_any (λ e. entry_sends e v) entries) t 0))

-- the entries are those of all records of b, and t is its T
pub record Entered (entries : List Entry) (t : ℕ) (b : List ℕ) : Type 0 where
  pub all : length entries ≡ records b
  pub each : (i : ℕ) → i < length entries → get_or entries i no_entry ≡ entry_of b i
  pub last-step-is : t ≡ last_step b

-- what is handed on of a block that cannot be read
abbrev pub no_table : Table
no_table =
    record {
      entries = replicate 80 no_entry;
      lasts = replicate 80 0;
      incoming = 0;
      values = 0;
      outgoing = 0;
      last_step = 0;
    }

unfoldable pub table_of : List ℕ → Table
table_of b =
    cond (eqb (reading b).number 0)
    (record {
      entries = entries_of b;
      lasts = lasts_of b;
      incoming = incoming b;
      values = values b;
      outgoing = outgoing b;
      last_step = last_step b;
    })
    no_table
