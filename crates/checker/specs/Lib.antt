-- The files of the checker: Rules defines, Bound says what the code has of two values, the others are laws.
-- Document 01, "Binding records", "Numbers that come back".
pub mod Numbers
pub mod Rules
pub mod Bound
pub mod Judged
pub mod Counted
pub mod Judgement
pub mod Acceptance
