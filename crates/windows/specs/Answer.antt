-- What is told of a task in a slot, and of which tasks it is asked.
-- Assumes nothing.
use Rattle.std.specs.Prelude.{ℕ, ◌/◌, ◌≤◌}
use Rattle.laws.specs.Sum.{gate}
use Rattle.tasks.specs.declared.Task.{Task}
use Rattle.tasks.specs.Window.{job_at, is_open, to_come, Cyclic}
use Rattle.windows.specs.declared.InSlot.{InSlot}

-- a task whose windows fit a table of L slots, no longer than tables may be
pub record Fit (L : ℕ) (τ : Task) : Type 0 where
  pub few_slots : L ≤ 1024
  pub cyclic : Cyclic L τ.deadline.0 τ.period.0 (L / τ.period.0)

-- 2.3, 2.4, 2.7: a task in slot t of L: whether it is open; the number of its job, in a closed slot too; and how many of the job's slots are still to come, 0 in a closed slot
unfoldable pub in_slot : ℕ → Task → ℕ → InSlot
in_slot L τ t =
    let open_there = is_open L τ.offset.0 τ.deadline.0 τ.period.0 t in
    let k = job_at L τ.offset.0 τ.period.0 t in
    record {
      opens = open_there;
      job = k;
      coming = record { 0 = gate open_there (to_come L τ.offset.0 τ.deadline.0 τ.period.0 k t) };
    }
