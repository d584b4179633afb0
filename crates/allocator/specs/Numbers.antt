-- What comes back of an allocation, in document 01's numbers, and what the allocator's answer is in them.
-- Document 01, "Numbers that come back": "The allocator returns number, records and bytes written".
use Rattle.std.specs.Prelude.{ℕ, Result, Ok, Err}
use Rattle.reader.specs.declared.refusals.Refusal.{Refusal}
use Rattle.reader.specs.Refusals.{number_of}

-- the number with its two records, and the bytes written, 0 on refusal
pub record Allocated : Type 0 where
  pub number : ℕ
  pub first : ℕ
  pub second : ℕ
  pub written : ℕ

-- the answer of `bind`
abbrev pub allocated_as : Result ℕ Refusal → Allocated
allocated_as (Ok bytes) = record { number = 0; first = 0; second = 0; written = bytes }
allocated_as (Err e) = record { number = number_of e.reason; first = e.first; second = e.second; written = 0 }
