-- What comes back of a run, in document 01's numbers, and what the runners' answers are in them.
-- Document 01, "Numbers that come back": "A runner returns number, records and words written".
use Rattle.std.specs.Prelude.{ℕ, Result, Ok, Err}
use Rattle.reader.specs.declared.refusals.Reason.{Reason}
use Rattle.reader.specs.declared.refusals.Refusal.{Refusal}
use Rattle.reader.specs.Refusals.{number_of}

-- the number with its two records, and the words written, 0 on refusal
pub record Ran : Type 0 where
  pub number : ℕ
  pub first : ℕ
  pub second : ℕ
  pub written : ℕ

-- the answer of a runner
abbrev pub ran_as : Result ℕ Refusal → Ran
ran_as (Ok words) = record { number = 0; first = 0; second = 0; written = words }
ran_as (Err e) = record { number = number_of e.reason; first = e.first; second = e.second; written = 0 }

-- a test that names no record, and what comes after it
abbrev pub then_ran : Result (Unit {0}) Reason → Ran → Ran
then_ran (Ok u) next = next
then_ran (Err reason) next = record { number = number_of reason; first = 0; second = 0; written = 0 }
