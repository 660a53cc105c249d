-- What is the same for all records of a plan, and how many there may be: each edition's numbers. Definitions only.
use Rattle.std.specs.Prelude.{◌≤◌}
use Rattle.switch.specs.declared.Edition.{Edition}

-- 64 outputs, a zero byte, N of 1 to 64, at most 8,192 records
abbrev pub first_edition : Edition
first_edition = record { width = 64; byte = 0; ports = 64; records = 8192 }

-- 128 outputs, the byte 2, N of 1 to 128, at most 32,768 records
abbrev pub second_edition : Edition
second_edition = record { width = 128; byte = 2; ports = 128; records = 32768 }

-- what the code relies on of an edition
pub record Bounded (E : Edition) : Type 0 where
  pub width : E.width ≤ 128
  pub ports : E.ports ≤ E.width
  pub records : E.records ≤ 65536
