-- The files of the runner: BlockRun and DatapathRun define the two runs, and Answers what the runners promise. The others are laws:
-- RunLaws of the two runs; TableRuns, BoundTables and Fillings of the runs by the reader's tables; AnswerLaws of what is promised.
-- Document 01, "Values, steps and boundaries", "How the datapath runs", "Numbers that come back".
pub mod BlockRun
pub mod DatapathRun
pub mod Numbers
pub mod Answers
pub mod RunLaws
pub mod TableRuns
pub mod BoundTables
pub mod Fillings
pub mod AnswerLaws
