-- Which tables are checked.
-- Assumes nothing.
use Rattle.std.specs.Prelude.{ℕ, ◌*◌, ◌≤◌, ◌≡◌, List, length}
use Rattle.tasks.specs.declared.Task.{Task}
use Rattle.tasks.specs.Refusal.{IsSound, table_length}

-- none of 1 to 8 and 10 refuses: the list is sound, its tables have h slots, and t has all cells
pub record Checkable (ts : List Task) (m h : ℕ) (t : List ℕ) : Type 0 where
  pub sound : IsSound m ts
  pub slots : h ≡ table_length ts
  pub long : h * m ≤ length t
