-- Sets of tasks, one for each of four cores, as the digits of one number: task v, from 0, on a core is digit 4 * v + core.
-- Assumes nothing.
use Rattle.std.specs.Prelude.{ℕ, ◌+◌, ◌*◌, ◌-◌, ◌/◌, ◌%◌, ◌^◌, ◌<◌, ◌≡◌, ◌≢◌, Bool, false, eqb}
use Rattle.std.specs.Int.Bits.{bit_and, bit_xor}
use Rattle.std.specs.Int.Count.{count_trailing_zeros}

-- task v is in the set of a core
unfoldable pub has : ℕ → ℕ → ℕ → Bool
has s v core = eqb (s / 2 ^ (4 * v + core) % 2) 1

-- the set of a core, as the set of core 0, alone
unfoldable pub of_core : ℕ → ℕ → ℕ
of_core s core = bit_and (s / 2 ^ core) 1229782938247303441

-- the lowest task of a set of core 0
unfoldable pub lowest : ℕ → ℕ
lowest s = count_trailing_zeros 64 s / 4

-- the sets without task v
unfoldable pub without : ℕ → ℕ → ℕ
without s v = bit_xor s (bit_and s (15 * 2 ^ (4 * v)))

-- the sets with each task one number higher, and the cores of a new task 0
unfoldable pub pushed : ℕ → ℕ → ℕ
pushed s cores = s * 16 + cores

-- the tasks that are in both, core by core
unfoldable pub common : ℕ → ℕ → ℕ
common a b = bit_and a b

-- the sets with each task of a set of core 0, alone, on all four cores
unfoldable pub on_cores : ℕ → ℕ
on_cores s = 15 * s

-- the tasks of a set from a rank on; the rank of a task is one more than its number here
unfoldable pub from_rank : ℕ → ℕ → ℕ
from_rank s rank = s / 2 ^ (4 * (rank - 1)) * 2 ^ (4 * (rank - 1))

-- only the set of core 0 has tasks
pub record Alone (s : ℕ) : Type 0 where
  pub none : (v c : ℕ) → c ≢ 0 → c < 4 → has s v c ≡ false
