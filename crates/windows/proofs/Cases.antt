-- What the definition tells of two windows that run round the table's end, slot by slot: RULES' picture, and P2.
-- Assumes nothing.
use Prim.Native.Nat.{ℕ}
use mathlib.Core.Path.{◌≡◌, refl}
use mathlib.Core.Bool.{true, false}
use mathlib.Core.List.{[], ◌∷◌}
use Rattle.laws.specs.Sum.{gate, sum, count}
use Rattle.laws.specs.Lists.{tab_from, tab}
use Rattle.tasks.specs.declared.Task.{Task}
use Rattle.tasks.specs.Window.{place, is_jobs}
use Rattle.windows.specs.declared.InSlot.{InSlot}
use Rattle.windows.specs.Answer.{in_slot}

-- a task of work 1 with this offset, deadline and period
abbrev task : ℕ → ℕ → ℕ → Task
task O D T = record {
  offset = record { 0 = O };
  work = record { 0 = 1 };
  deadline = record { 0 = D };
  period = record { 0 = T };
  rates = record { 0 = 1 ∷ 0 ∷ 0 ∷ 0 ∷ [] };
}

-- open for job k, with c slots to come
abbrev for_job : ℕ → ℕ → InSlot
for_job k c = record { opens = true; job = k; coming = record { 0 = c } }

-- closed, behind the window of job k
abbrev past_job : ℕ → InSlot
past_job k = record { opens = false; job = k; coming = record { 0 = 0 } }

-- offset 3, deadline 3 and period 4 in a table of 8 slots: job 1 has slots 0, 1 and 7
pub picture : tab 8 (in_slot 8 (task 3 3 4))
    ≡ for_job 1 2 ∷ for_job 1 1 ∷ past_job 1 ∷ for_job 0 2 ∷ for_job 0 1 ∷ for_job 0 0 ∷ past_job 0 ∷ for_job 1 0 ∷ []
unfolding tab_from in_slot gate place count sum is_jobs
picture = refl

-- P2: in time slot 0 comes after slot 2, in the table before it
pub p2_to_come : tab 3 (in_slot 3 (task 2 2 3)) ≡ for_job 0 1 ∷ past_job 0 ∷ for_job 0 0 ∷ []
unfolding tab_from in_slot gate place count sum is_jobs
p2_to_come = refl
