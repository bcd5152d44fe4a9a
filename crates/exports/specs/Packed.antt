-- What the exported functions answer, each answer as a number.
-- Assumes nothing.
use Rattle.std.specs.Prelude.{ℕ, ◌+◌, ◌*◌, ◌^◌, ◌≡◌, cond, List, ltb}
use Rattle.table.specs.Fault.{no_fault, in_cell, in_job, Checked, refused, checked}
use Rattle.rules.specs.Search.{Searched}
use Rattle.clock.specs.Clock.{Answered}

-- a number as a byte; what no byte holds is 255
unfoldable pub narrowed : ℕ → ℕ
narrowed x = cond (ltb 255 x) 255 x

-- a verdict and a number, as one
abbrev pub with_verdict : ℕ → ℕ → ℕ
with_verdict verdict number = verdict * 2 ^ 32 + number

-- a search, told as one number
abbrev pub search_number : Searched → ℕ
search_number s = with_verdict s.verdict s.tries

-- and its buffer
pub record SearchNumber (r : ℕ) (buffer : List ℕ) (s : Searched) : Type 0 where
  pub answer : r ≡ search_number s
  pub left : buffer ≡ s.buffer

-- three numbers of a class, as one
abbrev pub packed_as : ℕ → ℕ → ℕ → ℕ → ℕ
packed_as class a b c = class * 2 ^ 48 + a * 2 ^ 32 + b * 2 ^ 16 + c

-- the checker's word as one number
unfoldable pub check_number : Checked → ℕ
check_number (checked no_fault) = 0
check_number (checked (in_cell slot core kind)) = packed_as 1 slot core kind
check_number (checked (in_job task job kind)) = packed_as 2 task job kind
check_number (refused number) = packed_as 3 0 0 number

-- what a start or a step shows, told as one number and its four cells
pub record ShownNumber (r : ℕ) (cells : List ℕ) (s : Answered) : Type 0 where
  pub answer : r ≡ with_verdict s.verdict s.missed
  pub shown : cells ≡ s.cells
