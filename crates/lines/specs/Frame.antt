-- Frames: a kind, its fixed length and its bytes, and numbers high byte first.
-- Assumes nothing.
use Rattle.std.specs.Prelude.{ℕ, ◌+◌, ◌*◌, Bool, true, false, ◌||◌, List, [], ◌∷◌, eqb}
use Rattle.laws.specs.Lists.{nth, tab}
use Rattle.tasks.specs.Refusal.{within}

-- 8.2: 01 cores (2); 02 task (10); 03 rates (6); 04 engine and limit (6); 05 verdict and tries (6); 06 slot (7); 07 end (1)
abbrev pub lengths : List ℕ
lengths = 0 ∷ 2 ∷ 10 ∷ 6 ∷ 6 ∷ 6 ∷ 7 ∷ 1 ∷ []

-- 8.2: each kind of frame has its fixed length in bytes
abbrev pub length_of_kind : ℕ → ℕ
length_of_kind kind = nth lengths kind

-- whether a kind stands in a problem, in an answer alone, or in neither
pub data Sort : Type 0 where
  Known : Sort
  Misplaced : Sort
  Unknown : Sort

-- a sort if a test passes, else another
abbrev pub sort_if : Bool → Sort → Sort → Sort
sort_if true s t = s
sort_if false s t = t

-- 8.2: 01 to 04 and 07 stand in a problem, 05 and 06 in an answer alone; there are no others
unfoldable pub sort_of : ℕ → Sort
sort_of kind = sort_if (within 1 4 kind || eqb kind 7) Known (sort_if (within 5 6 kind) Misplaced Unknown)

-- 8.1: the number of two bytes of a frame, from place k, high byte first
unfoldable pub two : List ℕ → ℕ → ℕ
two f k = nth f k * 256 + nth f (k + 1)

-- 8.1: and of four bytes
unfoldable pub four : List ℕ → ℕ → ℕ
four f k = two f k * 65536 + two f (k + 2)

-- a frame's bytes, filled up with 0
unfoldable pub ten_bytes : List ℕ → List ℕ
ten_bytes f = tab 10 (nth f)
