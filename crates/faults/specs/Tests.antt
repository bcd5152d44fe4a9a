-- What the tests of one cell and of one job say.
-- Assumes nothing.
use Rattle.std.specs.Prelude.{ℕ, ◌+◌, ◌*◌, Bool, true, false, cond, not, List, Option, None, Some, ltb, eqb}
use Rattle.laws.specs.Tests.{all}
use Rattle.laws.specs.Lists.{nth, seek}
use Rattle.table.specs.Fault.{work_kind}

-- the task v stands on none of the earlier cores of the slot that begins at cell first
unfoldable pub free_in : List ℕ → ℕ → ℕ → ℕ → Bool
free_in t first core v = all core (λ j. not (eqb (nth t (first + j)) v))

-- the counter of job k of the task at a place of the list, from 0
abbrev pub counter_at : ℕ → ℕ → ℕ
counter_at place k = k * 16 + place

-- the count of a job of which a cell was not needed
abbrev pub unneeded : ℕ
unneeded = 65535

-- the count of a job that has done d: d, if each of its cells was needed
unfoldable pub count_of : Bool → ℕ → ℕ
count_of needed d = cond needed d unneeded

-- the count x of a job of work C with one more cell, that does s: the cell is needed while x is below C
unfoldable pub counted : ℕ → ℕ → ℕ → ℕ
counted C x s = cond (ltb x C) (x + s) unneeded

-- the fault of a job of work C by its count
unfoldable pub count_kind : ℕ → ℕ → ℕ
count_kind C x = work_kind C x (not (eqb x unneeded))

-- the fault of job k of the task at a place of the list, by its counter
unfoldable pub counted_kind : List ℕ → ℕ → ℕ → ℕ → ℕ
counted_kind counters place C k = count_kind C (nth counters (counter_at place k))

-- job k and its kind, if the test passes
abbrev pub some_if : Bool → ℕ → ℕ → Option (ℕ × ℕ)
some_if true k kind = Some (k, kind)
some_if false k kind = None

-- the first job of n that is faulty, and the kind of its fault, by the kinds of all; none if no job is
unfoldable pub first_fault : ℕ → (ℕ → ℕ) → Option (ℕ × ℕ)
first_fault n kind = let k = seek n kind in some_if (ltb k n) k (kind k)
