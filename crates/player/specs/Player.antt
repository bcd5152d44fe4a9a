-- The player: what a start and a step answer, and what they leave of the record.
-- Assumes nothing.
use Rattle.std.specs.Prelude.{ℕ, zero, suc, ◌+◌, ◌*◌, List, ltb, length}
use Rattle.laws.specs.Sum.{gate}
use Rattle.laws.specs.Lists.{nth, tab}
use Rattle.tasks.specs.declared.Task.{Task}
use Rattle.tasks.specs.Task.{task}
use Rattle.tasks.specs.Refusal.{table_length}
use Rattle.table.specs.Fault.{Fault, no_fault, in_cell, in_job, Checked, refused, checked, check}
use Rattle.clock.specs.Clock.{Worked, next_of, cell_of, Answered, answer_or}
use Rattle.player.specs.declared.Player.{Player}

-- ---- what is shown
-- 7.8: four cells, one a core: those of the slot at the record's position
unfoldable pub cells_of : Player → List ℕ
cells_of p = tab 4 (λ j. cell_of p.m p.n p.age p.offsets j (nth p.table (p.position * p.m + j)))

-- ---- a step
-- what a step works out of the record's numbers
abbrev pub worked_out : Player → ℕ → Worked
worked_out p tick = next_of p.last p.h p.position p.age p.m p.n tick

-- 7.7: the record with the last tick, position and age that a step works out
abbrev pub stored : Player → Worked → Player
stored p x = record {
  last = x.last;
  h = p.h;
  position = x.position;
  age = x.age;
  offsets = p.offsets;
  m = p.m;
  n = p.n;
  table = p.table;
}

-- 7.7: the record after a step
unfoldable pub after_step : Player → ℕ → Player
after_step p tick = stored p (worked_out p tick)

-- 7.8: what a step answers: the cells of the slot that it comes to, and the slots missed
unfoldable pub stepped : Player → ℕ → Answered
stepped p tick = let x = worked_out p tick in answer_or x.verdict (record { verdict = 0; cells = cells_of (after_step p tick); missed = x.missed })

-- ---- a start
-- 5.6: 11 for a table that is not valid, by its first fault
abbrev pub fault_refusal : Fault → ℕ
fault_refusal no_fault = 0
fault_refusal (in_cell t j k) = 11
fault_refusal (in_job i k x) = 11

-- 5.7, 7.1: refusals 1 to 8, 10, 11 in that order; 0 for none
abbrev pub check_refusal : Checked → ℕ
check_refusal (refused r) = r
check_refusal (checked x) = fault_refusal x

-- 7.1: the refusal of a problem and a table
abbrev pub start_refusal : ℕ → List Task → List ℕ → ℕ
start_refusal m ts t = check_refusal (check m ts t)

-- 7.2: n numbers: the first k by a rule, the unused ones 0
unfoldable pub padded : ℕ → ℕ → (ℕ → ℕ) → List ℕ
padded n k g = tab n (λ i. gate (ltb i k) (g i))

-- the offset of the task at place k, from 0
abbrev pub offset_at : List Task → ℕ → ℕ
offset_at ts k = (task ts (suc k)).offset.0

-- 7.2: the record that a start makes: position 0, age 0; unused offsets and cells are 0
unfoldable pub record_of : ℕ → List Task → List ℕ → ℕ → Player
record_of m ts t tick = record {
  last = tick;
  h = table_length ts;
  position = 0;
  age = 0;
  offsets = padded 16 (length ts) (offset_at ts);
  m = m;
  n = length ts;
  table = padded 4096 (table_length ts * m) (nth t);
}

-- 7.3: what a start answers of a record: as a step does, missed 0
abbrev pub first_shown : Player → ℕ → Answered
first_shown p r = answer_or r (record { verdict = 0; cells = cells_of p; missed = 0 })

-- 7.3: what a start answers: for slot 0
unfoldable pub started : ℕ → List Task → List ℕ → ℕ → Answered
started m ts t tick = first_shown (record_of m ts t tick) (start_refusal m ts t)

-- 5.8, 7.10: a refused start leaves the record as it was
abbrev pub record_or : ℕ → Player → Player → Player
record_or zero made p = made
record_or (suc r) made p = p

-- 5.8, 7.2: the record after a start
unfoldable pub after_start : ℕ → List Task → List ℕ → ℕ → Player → Player
after_start m ts t tick p = record_or (start_refusal m ts t) (record_of m ts t tick) p
