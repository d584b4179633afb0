-- What comes back of a block and of a binding, in document 01's numbers.
-- Document 01, "Numbers that come back": "The reader returns number, records, value count and T".
use Rattle.std.specs.Prelude.{ℕ}

-- the number with its two records, the count of values and T; counts and T are 0 on refusal
pub record Reading : Type 0 where
  pub number : ℕ
  pub first : ℕ
  pub second : ℕ
  pub values : ℕ
  pub last_step : ℕ

-- the number with the place, or 0
pub record Formed : Type 0 where
  pub number : ℕ
  pub place : ℕ
