-- Refusals 1 to 8, in the order of RULES 5.7; 0 where there is none.
-- Assumes nothing.
use Rattle.std.specs.Prelude.{ℕ, zero, suc, ◌≤◌, ◌<◌, ◌≡◌, Bool, true, false, cond, ◌&&◌, List, leb, ltb, eqb, length, Option, None, Some}
use Rattle.laws.specs.Tests.{all}
use Rattle.laws.specs.Lists.{nth, first_of}
use Rattle.laws.specs.Lcm.{lcms_of}
use Rattle.tasks.specs.declared.Rates.{Rates}
use Rattle.tasks.specs.declared.Task.{Task}
use Rattle.tasks.specs.declared.Slots.{Slots}
use Rattle.tasks.specs.Task.{task}

-- low..high
unfoldable pub within : ℕ → ℕ → ℕ → Bool
within low high x = leb low x && leb x high

-- refusal k unless the test passes, then what comes after
unfoldable pub unless : Bool → ℕ → ℕ → ℕ
unless true k next = next
unless false k next = k

-- x, or the next where x is 0
unfoldable pub or_next : ℕ → ℕ → ℕ
or_next x next = cond (eqb x 0) next x

-- 1.3: the most that a rate may be on core j of m: 15, and 0 beyond the board's last core
abbrev pub most_rate : ℕ → ℕ → ℕ
most_rate m j = cond (ltb j m) 15 0

-- 1.3: the four rates are in range
unfoldable pub rates_fit : ℕ → Rates → Bool
rates_fit m r = all 4 (λ j. leb (nth r.0 j) (most_rate m j))

-- 1.2, 1.7, 5.4, 5.7: within a task 3 to 7: period T 1..1024, deadline D 1..T, work C 1..4096, offset O 0..1023, rates
unfoldable pub task_refusal : ℕ → Task → ℕ
task_refusal m τ =
    unless (within 1 1024 τ.period.0) 3
    (unless (within 1 τ.period.0 τ.deadline.0) 4
    (unless (within 1 4096 τ.work.0) 5
    (unless (within 0 1023 τ.offset.0) 6
    (unless (rates_fit m τ.rates) 7 0))))

-- 5.7: task by task in number order
unfoldable pub list_refusal : ℕ → List Task → ℕ
list_refusal m ts = first_of (length ts) (λ k. task_refusal m (task ts (suc k)))

-- the period of the task at place k, from 0
abbrev pub period_at : List Task → ℕ → ℕ
period_at ts k = (task ts (suc k)).period.0

-- 1.6: H, the least common multiple of all periods
unfoldable pub table_length : List Task → ℕ
table_length ts = lcms_of (length ts) (period_at ts)

-- 1.1, 1.6, 5.4, 5.7: 1 no task or over 16; 2 cores not 1..4; 3 to 7 task by task; 8 H over 1024
unfoldable pub refusal : ℕ → List Task → ℕ
refusal m ts =
    unless (within 1 16 (length ts)) 1
    (unless (within 1 4 m) 2
    (or_next (list_refusal m ts)
    (unless (leb (table_length ts) 1024) 8 0)))

-- 5.10: a list is sound if none of 1 to 8 refuses it
abbrev pub IsSound : ℕ → List Task → Type 0
IsSound m ts = refusal m ts ≡ 0

-- the table's length, or none where it is over 1024
abbrev pub fits_if : Bool → ℕ → Option Slots
fits_if true h = Some (record { 0 = h })
fits_if false h = None

-- 1.6: what the code answers of a table's length
unfoldable pub length_of : List Task → Option Slots
length_of ts = fits_if (leb (table_length ts) 1024) (table_length ts)

-- what is told of a list: that it is sound, with H, or the number that refuses it
pub data Tested : Type 0 where
  sound : ℕ → Tested
  refused : ℕ → Tested

-- the refusal, if it is not 0, else sound, with H
abbrev pub tested_if : ℕ → ℕ → Tested
tested_if zero h = sound h
tested_if (suc k) h = refused (suc k)

-- 5.10: the test of a list on m cores
unfoldable pub tested : ℕ → List Task → Tested
tested m ts = tested_if (refusal m ts) (table_length ts)

-- each period is 1..1024
abbrev pub Periods : List Task → Type 0
Periods ts = (k : ℕ) → k < length ts → (0 < period_at ts k) × (period_at ts k ≤ 1024)
