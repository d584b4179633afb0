-- What comes back of a block and a binding, in document 01's numbers, and what the checker's answer is in them.
-- Document 01, "Numbers that come back": "The checker returns number, records, and how many different registers, units and buses occur".
use Rattle.std.specs.Prelude.{ℕ, Result, Ok, Err}
use Rattle.reader.specs.declared.refusals.Refusal.{Refusal}
use Rattle.reader.specs.Refusals.{number_of}
use Rattle.checker.specs.declared.Used.{Used}

-- the number with the later and the earlier record, and the counts, 0 on refusal
pub record Verdict : Type 0 where
  pub number : ℕ
  pub later : ℕ
  pub earlier : ℕ
  pub registers : ℕ
  pub units : ℕ
  pub buses : ℕ

-- the answer of `check`
abbrev pub checked_as : Result Used Refusal → Verdict
checked_as (Ok u) = record { number = 0; later = 0; earlier = 0; registers = u.registers; units = u.units; buses = u.buses }
checked_as (Err e) = record { number = number_of e.reason; later = e.first; earlier = e.second; registers = 0; units = 0; buses = 0 }
