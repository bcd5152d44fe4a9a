-- Tables and when they are valid. A table is its cells by number: cell c is core c % cores of slot c / cores, and holds 0 (idle) or a task number.
-- Assumes nothing.
use Rattle.std.specs.Prelude.{ℕ, ◌+◌, ◌*◌, ◌-◌, ◌/◌, ◌%◌, ◌≤◌, ◌<◌, ◌≡◌, ◌≢◌, Bool, not, ◌&&◌, List, T, eqb, length}
use Rattle.laws.specs.Sum.{gate, sum}
use Rattle.laws.specs.Tests.{all}
use Rattle.laws.specs.Lists.{nth}
use Rattle.tasks.specs.Instance.{Instance, job_slot}

-- 3.1: a table has slots × cores cells
abbrev pub cells : Instance → ℕ
cells P = P.slots * P.cores

-- 3.1: the slot of a cell
abbrev pub slot_of : Instance → ℕ → ℕ
slot_of P c = c / P.cores

-- 3.1: the core of a cell, from 0
abbrev pub core_of : Instance → ℕ → ℕ
core_of P c = c % P.cores

-- 3.1: the cell of core j in the slot of cell c
abbrev pub beside : Instance → ℕ → ℕ → ℕ
beside P c j = slot_of P c * P.cores + j

-- 3.6: the value v in cell c is of job k of task i: it is that task in one of the job's slots
abbrev pub of_job : Instance → ℕ → ℕ → ℕ → ℕ → Bool
of_job P i k c v = eqb v i && job_slot P i k (slot_of P c)

-- 3.6: what the value v in cell c does for the job: the rate, if it is of the job
unfoldable pub share : Instance → ℕ → ℕ → ℕ → ℕ → ℕ
share P i k c v = gate (of_job P i k c v) (P.rate i (core_of P c))

-- 3.6: what the first c cells do for the job
unfoldable pub done : Instance → ℕ → (ℕ → ℕ) → ℕ → ℕ → ℕ
done P c f i k = sum c (λ d. share P i k d (f d))

-- 4.5: the work left: C less what the job's earlier cells in table order did, and never less than 0
abbrev pub work_left : Instance → ℕ → (ℕ → ℕ) → ℕ → ℕ → ℕ
work_left P c f i k = P.work i - done P c f i k

-- 3.5: the value v does not stand on an earlier core of the slot of cell c
unfoldable pub free : Instance → ℕ → (ℕ → ℕ) → ℕ → Bool
free P c f v = all (core_of P c) (λ j. not (eqb (f (beside P c j)) v))

-- 3.2: a valid table, by its cells: C1 to C4
pub record Valid (P : Instance) (f : ℕ → ℕ) : Type 0 where
  -- 3.4: C2, by its form; a cell is 0 or a task number
  pub known : (c : ℕ) → c < cells P → f c ≤ P.tasks
  -- 3.3: C1, a task stands only in slots where it is open
  pub open_there : (c : ℕ) → c < cells P → f c ≢ 0 → T (P.opens (f c) (slot_of P c))
  -- 3.3: C1, and only on cores with a positive rate for it
  pub rated : (c : ℕ) → c < cells P → f c ≢ 0 → 0 < P.rate (f c) (core_of P c)
  -- 3.5: C3, a task stands at most once in a slot
  pub once : (c d : ℕ) → c < cells P → d < cells P → c ≢ d → slot_of P c ≡ slot_of P d → f c ≡ f d → f c ≡ 0
  -- 3.6: C4, the cells of each job do at least C units
  pub full : (i k : ℕ) → i ≢ 0 → i ≤ P.tasks → k < P.jobs i → P.work i ≤ done P (cells P) f i k
  -- 3.6: C4, and none of them stands where the job's earlier cells, in table order, have already done C
  pub needed : (c : ℕ) → c < cells P → f c ≢ 0 → done P c f (f c) (P.job (f c) (slot_of P c)) < P.work (f c)

-- 3.2: a list of cells that is a valid table
pub record Table (P : Instance) (t : List ℕ) : Type 0 where
  pub size : length t ≡ cells P
  pub valid : Valid P (nth t)
