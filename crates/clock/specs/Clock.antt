-- The player's clock: what a step works out of the record's numbers, and what is shown.
-- Assumes nothing.
use Rattle.std.specs.Prelude.{ℕ, zero, suc, pred, ◌+◌, ◌-◌, ◌*◌, ◌%◌, ◌^◌, min, Bool, List, [], ◌∷◌, nat_le, nat_lt, Result, Ok, Err}
use Rattle.laws.specs.Sum.{gate, sum}
use Rattle.laws.specs.Tests.{every}
use Rattle.laws.specs.Lists.{nth, tab}
use Rattle.tasks.specs.declared.Refusal.{Refusal}
use Rattle.tasks.specs.Refusal.{within, unless}
use Rattle.tasks.specs.Told.{number_of}
use Rattle.clock.specs.declared.Shown.{Shown}
use Rattle.clock.specs.declared.Numbers.{Numbers}
use Rattle.clock.specs.declared.Next.{Next}

-- ---- a step
-- what a step works out of the record's numbers: what it stores, the slots missed, where the slot's cells begin in the table, and its verdict
pub record Worked : Type 0 where
  pub last : ℕ
  pub missed : ℕ
  pub at : ℕ
  pub position : ℕ
  pub age : ℕ
  pub verdict : ℕ

-- 7.4: the elapsed number is the new tick less the last, modulo 2^32
abbrev pub elapsed_of : ℕ → ℕ → ℕ
elapsed_of tick last = (tick + 2 ^ 32 - last) % 2 ^ 32

-- 7.5: spoilt unless: H 1..1024, m 1..4, task count 1..16, position below H, age not over 1024
abbrev pub ranges : ℕ → ℕ → ℕ → ℕ → ℕ → List Bool
ranges h position age m n = within 1 1024 h ∷ within 1 4 m ∷ within 1 16 n ∷ nat_lt position h ∷ nat_le age 1024 ∷ []

-- 5.6, 7.5, 7.6: 12 spoilt; 15 the elapsed number is from 2^31 up; 0 for none
unfoldable pub step_refusal : ℕ → ℕ → ℕ → ℕ → ℕ → ℕ → ℕ → ℕ
step_refusal last h position age m n tick = unless (every (ranges h position age m n)) 12 (unless (nat_lt (elapsed_of tick last) (2 ^ 31)) 15 0)

-- 7.10: what a refused step works out: last, position and age as they are
abbrev pub stays_of : ℕ → ℕ → ℕ → ℕ → Worked
stays_of last position age verdict = record { last = last; missed = 0; at = 0; position = position; age = age; verdict = verdict }

-- 7.7, 7.8: what any other works out at the new tick, of the elapsed number e: position advances by it modulo H, age by it but not past 1024, last becomes the new tick,
-- missed = elapsed - 1 (0 if elapsed is 0), and the slot's cells begin behind those of the slots before it
abbrev pub advanced : ℕ → ℕ → ℕ → ℕ → ℕ → ℕ → Worked
advanced h position age m tick e =
    record { last = tick; missed = e - 1; at = (position + e) % h * m; position = (position + e) % h; age = min (age + e) 1024; verdict = 0 }

-- 7.10: the one or the other, by the refusal
abbrev pub next_if : ℕ → ℕ → ℕ → ℕ → Worked → Worked
next_if zero last position age x = x
next_if (suc r) last position age x = stays_of last position age (suc r)

-- 7.7: what a step works out of the record's numbers
unfoldable pub next_of : ℕ → ℕ → ℕ → ℕ → ℕ → ℕ → ℕ → Worked
next_of last h position age m n tick = next_if (step_refusal last h position age m n tick) last position age (advanced h position age m tick (elapsed_of tick last))

-- what the code works out, by the rules' numbers
abbrev pub worked_as : Numbers → Result Next Refusal → Worked
worked_as s (Ok x) = record { last = x.last; missed = x.missed; at = x.at; position = x.position.0; age = x.age.0; verdict = 0 }
worked_as s (Err r) = stays_of s.last s.position.0 s.age.0 (number_of r)

-- ---- what is shown
-- 7.9: a cell v on core j is shown as 0 if it is above the task count n, if its task's offset exceeds age, or if the board lacks that core
abbrev pub shown_cell : ℕ → ℕ → ℕ → ℕ → ℕ → ℕ → ℕ
shown_cell m n age offset j v = gate (every (nat_le v n ∷ nat_le offset age ∷ nat_lt j m ∷ [])) v

-- 7.9: the same with its task's offset among all
abbrev pub cell_of : ℕ → ℕ → ℕ → List ℕ → ℕ → ℕ → ℕ
cell_of m n age offsets j v = shown_cell m n age (nth offsets (pred v)) j v

-- 7.8: the answer to what a step works out, with the four cells of the table
abbrev pub shown_of : Next → ℕ → ℕ → List ℕ → List ℕ → Shown
shown_of x m n offsets cells = record { cells = tab 4 (λ j. cell_of m n x.age.0 offsets j (nth cells j)); missed = x.missed }

-- what a start or a step answers: its verdict, four cells, one a core, and the slots missed
pub record Answered : Type 0 where
  pub verdict : ℕ
  pub cells : List ℕ
  pub missed : ℕ

-- 7.10: a refused start or step shows four 0 cells and missed 0
abbrev pub answer_or : ℕ → Answered → Answered
answer_or zero s = s
answer_or (suc r) s = record { verdict = suc r; cells = 0 ∷ 0 ∷ 0 ∷ 0 ∷ []; missed = 0 }

-- what the code answers, by the rules' numbers
abbrev pub answered_as : Result Shown Refusal → Answered
answered_as (Ok s) = record { verdict = 0; cells = s.cells; missed = s.missed }
answered_as (Err r) = record { verdict = number_of r; cells = 0 ∷ 0 ∷ 0 ∷ 0 ∷ []; missed = 0 }

-- ---- ticks
-- 7.11: the elapsed number from tick s to the next
abbrev pub elapsed_at : (ℕ → ℕ) → ℕ → ℕ
elapsed_at tick s = elapsed_of (tick (suc s)) (tick s)

-- 7.11: the time after s steps: the sum of their elapsed numbers
abbrev pub time_after : (ℕ → ℕ) → ℕ → ℕ
time_after tick s = sum s (elapsed_at tick)
