-- What the search puts into the counters, what it walks over, and what it tells.
-- Assumes nothing.
use Rattle.std.specs.Prelude.{ℕ, suc, List, length, take, replicate, Result, Ok, Err}
use Rattle.tasks.specs.declared.Task.{Task}
use Rattle.tasks.specs.declared.Refusal.{Refusal}
use Rattle.tasks.specs.Task.{task}
use Rattle.tasks.specs.Told.{number_of}
use Rattle.tasks.specs.Instance.{own_instance}
use Rattle.table.specs.Table.{cells}
use Rattle.rules.specs.Walk.{limited}
use Rattle.rules.specs.Search.{Searched, walked, search_told}
use Rattle.grid.specs.Grid.{sets_on}
use Rattle.walk.specs.declared.End.{End}
use Rattle.walk.specs.declared.End.TheVariants as end
use Rattle.walk.specs.declared.Walked.{Walked}
use Rattle.walk.specs.Machine.{Ran}
use Rattle.fill.specs.Grid.{in_rows, empty_grid, grid_of}
use Rattle.search.specs.declared.Outcome.{Outcome}
use Rattle.search.specs.declared.Outcome.TheVariants.{Found, NoTable, Stopped}
use Rattle.search.specs.declared.Answer.{Answer}

-- l with the work of each task at the counters of its first k jobs, sixteen counters a job number
abbrev pub left_in : List Task → ℕ → List ℕ → List ℕ
left_in ts k = in_rows 16 (length ts) (λ job v. (task ts (suc v)).work.0) k

-- the counters of a list: each job's whole work
unfoldable pub left_of : List Task → List ℕ
left_of ts = left_in ts 1024 (replicate 16385 0)

-- what a walk over the grid and the counters of a list answers and leaves: from u tries and the cells t, the answer r and the cells t'
pub record ListWalked (ts : List Task) (m e L u : ℕ) (t : List ℕ) (r : Walked) (t' : List ℕ) : Type 0 where
  pub left : List ℕ
  pub ran : Ran (grid_of ts m e L empty_grid) 0 0 (sets_on (grid_of ts m e L empty_grid) (left_of ts) 0) t (left_of ts) u r.end t' left r.tries

-- how a search ends whose walk ends so
abbrev pub outcome_of : End → Outcome
outcome_of end.Found = Found
outcome_of end.NoneFound = NoTable
outcome_of end.Stopped = Stopped

-- 5.1, 5.2, 5.3: the verdict of a search that ends so
abbrev pub verdict_of : Outcome → ℕ
verdict_of Found = 0
verdict_of NoTable = 13
verdict_of Stopped = 14

-- what is left in the first n cells of the caller's buffer: the table, if one was found, else 0
unfoldable pub cells_handed : Outcome → ℕ → List ℕ → List ℕ
cells_handed Found n t = take n t
cells_handed NoTable n t = replicate n 0
cells_handed Stopped n t = replicate n 0

-- what the search tells where nothing is refused
unfoldable pub walk_told : ℕ → List Task → ℕ → ℕ → List ℕ → Searched
walk_told m ts e b buffer = search_told (cells (own_instance m ts)) buffer (limited b (walked e (own_instance m ts)))

-- an answer and the buffer, as the definition has them
abbrev pub ended_as : Answer → List ℕ → Searched
ended_as r t = record { verdict = verdict_of r.outcome; tries = r.tries; buffer = t }

-- 5.8: a refusal reports its number and 0 tries
abbrev pub searched_as : Result Answer Refusal → List ℕ → Searched
searched_as (Ok r) t = ended_as r t
searched_as (Err r) t = record { verdict = number_of r; tries = 0; buffer = t }
