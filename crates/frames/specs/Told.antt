-- What the code holds and answers of a text, by the rules' numbers.
-- Assumes nothing.
use Rattle.std.specs.Prelude.{ℕ, ◌≡◌, List, [], take, Option, None, Some, Result, Ok, Err}
use Rattle.tasks.specs.declared.Refusal.{Refusal}
use Rattle.tasks.specs.declared.Task.{Task}
use Rattle.tasks.specs.Told.{number_of}
use Rattle.lines.specs.declared.Frame.{Frame}
use Rattle.lines.specs.Told.{code_of, IsFrame}
use Rattle.frames.specs.declared.Problem.{Problem}
use Rattle.frames.specs.declared.task_list.TaskList.{TaskList}
use Rattle.frames.specs.Read.{Read, refused, problem, Reading}

-- the tasks that a list holds: the first of its places
abbrev pub listed : TaskList → List Task
listed l = take l.count l.places

-- a problem, or the number that refuses the file
abbrev pub read_as : Result Problem Refusal → Read
read_as (Ok p) = problem p.m (listed p.tasks) p.engine p.limit
read_as (Err r) = refused (number_of r)

-- what the frames so far have said
pub record HasRead (p : Problem) (s : Reading) : Type 0 where
  pub m : p.m ≡ s.m
  pub tasks : listed p.tasks ≡ s.tasks
  pub engine : p.engine ≡ s.engine
  pub limit : p.limit ≡ s.limit

-- the kind of the last frame, 0 before the first
abbrev pub code_before : Option Frame → ℕ
code_before None = 0
code_before (Some frame) = code_of frame.kind

-- the last frame has these bytes, none before the first
abbrev pub WasFrame : Option Frame → List ℕ → Type 0
WasFrame None f = f ≡ []
WasFrame (Some frame) f = IsFrame frame f
