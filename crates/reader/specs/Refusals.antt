-- Document 01's number for each reason, and what an answer of the reader is in its numbers: 0 where it is done, else the reason's number with its records.
-- Document 01, "Numbers that come back"; "Where the answer is an enum, there is a definition that gives this paper's number and values for each of its cases".
use Rattle.std.specs.Prelude.{ℕ, Result, Ok, Err}
use Rattle.reader.specs.declared.refusals.Reason.{Reason}
use Rattle.reader.specs.declared.refusals.Reason.TheVariants.{PartOfRecord, TooManyRecords, Kind, Order, Range, Unused, Twice, Missing, Method, Room, PartOfPlace, OtherPlaces, PlaceNumber, PlaceField, Registers, Units, Buses, Connections, NotAccepted, IncomingWords, OutgoingWords, RegisterFile}
use Rattle.reader.specs.declared.refusals.Refusal.{Refusal}
use Rattle.reader.specs.declared.refusals.Fault.{Fault}
use Rattle.reader.specs.declared.Readable.{Readable}
use Rattle.reader.specs.Numbers.{Reading, Formed}

-- the number that the document's table gives each reason
abbrev pub number_of : Reason → ℕ
number_of PartOfRecord = 1
number_of TooManyRecords = 2
number_of Kind = 3
number_of Order = 4
number_of Range = 5
number_of Unused = 6
number_of Twice = 7
number_of Missing = 8
number_of Method = 9
number_of Room = 10
number_of PartOfPlace = 11
number_of OtherPlaces = 12
number_of PlaceNumber = 13
number_of PlaceField = 14
number_of Registers = 16
number_of Units = 17
number_of Buses = 18
number_of Connections = 19
number_of NotAccepted = 20
number_of IncomingWords = 21
number_of OutgoingWords = 22
number_of RegisterFile = 23

-- a refusal that names no record has 0, 0
abbrev pub alone : Reason → Refusal
alone reason = record { reason = reason; first = 0; second = 0 }

-- a fault of one record or place names it as both record numbers
abbrev pub twice : Fault → Refusal
twice f = record { reason = f.reason; first = f.at; second = f.at }

-- the answer of `read`
abbrev pub read_as : Result Readable Refusal → Reading
read_as (Ok r) = record { number = 0; first = 0; second = 0; values = r.values; last_step = r.last_step }
read_as (Err e) = record { number = number_of e.reason; first = e.first; second = e.second; values = 0; last_step = 0 }

-- the answer of `form`, and of the search for the first fault
abbrev pub formed_as : Result (Unit {0}) Fault → Formed
formed_as (Ok u) = record { number = 0; place = 0 }
formed_as (Err f) = record { number = number_of f.reason; place = f.at }

-- the judgement of a record or a place
abbrev pub fault_number : Result (Unit {0}) Reason → ℕ
fault_number (Ok u) = 0
fault_number (Err r) = number_of r
