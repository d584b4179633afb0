-- Answers as one 64-bit number, lowest byte first.
-- Document 01, "Numbers that come back": what each function returns.
use Rattle.std.specs.Prelude.{ℕ, ◌+◌, ◌*◌}
use Rattle.reader.specs.Numbers.{Reading}
use Rattle.checker.specs.Numbers.{Verdict}
use Rattle.runner.specs.Numbers.{Ran}
use Rattle.allocator.specs.Numbers.{Allocated}

-- six bytes, lowest first
abbrev pub packed : ℕ → ℕ → ℕ → ℕ → ℕ → ℕ → ℕ
packed a b c d e f = a + 256 * b + 65536 * c + 16777216 * d + 4294967296 * e + 1099511627776 * f

-- number, first, second, values, last step
abbrev pub packed_reading : Reading → ℕ
packed_reading r = packed r.number r.first r.second r.values r.last_step 0

-- number, later, earlier, registers, units, buses
abbrev pub packed_verdict : Verdict → ℕ
packed_verdict v = packed v.number v.later v.earlier v.registers v.units v.buses

-- number, first, second; the words written in byte 4
abbrev pub packed_ran : Ran → ℕ
packed_ran r = packed r.number r.first r.second 0 r.written 0

-- number, first, second; the bytes written in the 16 bits from bit 32
abbrev pub packed_allocated : Allocated → ℕ
packed_allocated a = packed a.number a.first a.second 0 a.written 0
