-- The writer: an answer's text.
-- Assumes nothing.
use Rattle.std.specs.Prelude.{ℕ, zero, suc, ◌+◌, ◌*◌, ◌/◌, ◌%◌, ◌≡◌, Bool, cond, List, [], ◌∷◌, ◌++◌, leb, ltb, eqb, length}
use Rattle.laws.specs.Sum.{gate}
use Rattle.laws.specs.Tests.{every}
use Rattle.laws.specs.Lists.{nth, over}
use Rattle.lines.specs.Lines.{line_of}

-- 8.2: 05 verdict, tries of four bytes
unfoldable pub verdict_frame : ℕ → ℕ → List ℕ
verdict_frame verdict tries = 5 ∷ verdict ∷ tries / 16777216 ∷ tries / 65536 % 256 ∷ tries / 256 % 256 ∷ tries % 256 ∷ []

-- 8.12: a cell of slot t, 0 beyond the cores
unfoldable pub cell_at : ℕ → List ℕ → ℕ → ℕ → ℕ
cell_at m table t j = gate (ltb j m) (nth table (t * m + j))

-- 8.2: 06 slot, four cells
unfoldable pub slot_frame : ℕ → List ℕ → ℕ → List ℕ
slot_frame m table t =
    6 ∷ t / 256 ∷ t % 256 ∷ cell_at m table t 0 ∷ cell_at m table t 1 ∷ cell_at m table t 2 ∷ cell_at m table t 3 ∷ []

-- the same of the cells in a row, 0 beyond its end
unfoldable pub row_frame : ℕ → List ℕ → List ℕ
row_frame t row = 6 ∷ t / 256 ∷ t % 256 ∷ nth row 0 ∷ nth row 1 ∷ nth row 2 ∷ nth row 3 ∷ []

-- 8.12: the 06 lines of slots 0 to H - 1
unfoldable pub slot_lines : ℕ → ℕ → List ℕ → List ℕ
slot_lines zero m table = []
slot_lines (suc H) m table = slot_lines H m table ++ line_of (slot_frame m table H)

-- 8.12: 05, so many 06 lines, and 07
abbrev pub answer_lines : ℕ → ℕ → ℕ → ℕ → List ℕ → List ℕ
answer_lines verdict tries shown m table = line_of (verdict_frame verdict tries) ++ slot_lines shown m table ++ line_of (7 ∷ [])

-- 8.12: 05, the 06 lines for verdict 0, and 07
unfoldable pub write_answer : ℕ → ℕ → ℕ → ℕ → List ℕ → List ℕ
write_answer verdict tries H m table = answer_lines verdict tries (gate (eqb verdict 0) H) m table

-- the table has the cells, and the longest answer has room: 05 in 13 bytes, 1024 slots of 15 bytes, 07 in 3 bytes
unfoldable pub can_write : ℕ → ℕ → ℕ → ℕ → Bool
can_write H m cells room = every (leb H 1024 ∷ leb m 4 ∷ leb (H * m) cells ∷ leb 15376 room ∷ [])

-- a writer's answer r and what it leaves in its buffer: the text over the buffer's start, or nothing written
pub record Written (can : Bool) (text out : List ℕ) (r : ℕ) (out' : List ℕ) : Type 0 where
  pub count : r ≡ gate can (length text)
  pub holds : out' ≡ cond can (over text out) out
