-- The reader: a problem's text, line by line, and file refusals 20 to 24.
-- Assumes nothing.
use Rattle.std.specs.Prelude.{ℕ, zero, suc, Bool, false, cond, ◌&&◌, ◌||◌, List, [], ◌∷◌, ◌++◌, leb, eqb, length}
use Rattle.laws.specs.Tests.{imp}
use Rattle.laws.specs.Lists.{nth}
use Rattle.tasks.specs.declared.Task.{Task}
use Rattle.tasks.specs.Refusal.{unless}
use Rattle.lines.specs.Frame.{two, four}
use Rattle.lines.specs.Lines.{Line, bytes_of, lines}
use Rattle.lines.specs.Refusal.{line_refusal}

-- what a text holds: cores, tasks, engine and limit; or the number that refuses the file
pub data Read : Type 0 where
  refused : ℕ → Read
  problem : ℕ → List Task → ℕ → ℕ → Read

-- where a reading stands: the last frame, and what the frames so far have said
pub record Reading : Type 0 where
  pub last : List ℕ
  pub m : ℕ
  pub tasks : List Task
  pub engine : ℕ
  pub limit : ℕ

-- the problem that they make
abbrev pub said : Reading → Read
said s = problem s.m s.tasks s.engine s.limit

-- 8.4: before the first frame; 04 left out: engine 1, limit 1000000
abbrev pub start : Reading
start = record { last = []; m = 0; tasks = []; engine = 1; limit = 1000000 }

-- 8.3: 01, then for each task its 02 and its 03, then 04 at most once, then 07 and nothing more; kind 0 stands for the start
unfoldable pub may_follow : ℕ → ℕ → Bool
may_follow last kind =
    cond (eqb last 0) (eqb kind 1)
    (cond (eqb last 1 || eqb last 3) (eqb kind 2 || (eqb kind 4 || eqb kind 7))
    (cond (eqb last 2) (eqb kind 3)
    (cond (eqb last 4) (eqb kind 7) false)))

-- 8.3: tasks 1, 2, .. without gaps, none above 16; n have been read
unfoldable pub right_number : ℕ → ℕ → ℕ → Bool
right_number n kind number = imp (eqb kind 2 || eqb kind 3) (eqb number (suc n) && leb number 16)

-- 8.3: a frame stands in its place behind the last one, where n tasks have been read
unfoldable pub in_place : ℕ → ℕ → List ℕ → Bool
in_place last n f = may_follow last (nth f 0) && right_number n (nth f 0) (nth f 1)

-- 8.2: the task of an 02 (number, O, C, D, T) and an 03 (number, four rates)
unfoldable pub task_of : List ℕ → List ℕ → Task
task_of f g = record {
  offset = record { 0 = two f 2 };
  work = record { 0 = two f 4 };
  deadline = record { 0 = two f 6 };
  period = record { 0 = two f 8 };
  rates = record { 0 = nth g 2 ∷ nth g 3 ∷ nth g 4 ∷ nth g 5 ∷ [] };
}

-- 8.2: what a frame in its place says: 01 the cores, 03 with the 02 before it a task, 04 engine and limit
unfoldable pub taken_frame : Reading → List ℕ → Reading
taken_frame s f = record {
  last = f;
  m = cond (eqb (nth f 0) 1) (nth f 1) s.m;
  tasks = cond (eqb (nth f 0) 3) (s.tasks ++ (task_of s.last f ∷ [])) s.tasks;
  engine = cond (eqb (nth f 0) 4) (nth f 1) s.engine;
  limit = cond (eqb (nth f 0) 4) (four f 2) s.limit;
}

-- 8.10: 24 out of place, or a task number above 16
unfoldable pub place_refusal : Reading → List ℕ → ℕ
place_refusal s f = unless (in_place (nth s.last 0) (length s.tasks) f) 24 0

-- the refusal k, or what comes after where it is 0
abbrev pub or_read : ℕ → Read → Read
or_read zero r = r
or_read (suc k) r = refused (suc k)

-- 8.6, 8.10: line by line 21 to 24; 24 too where there is no end
unfoldable pub read_lines : Reading → List Line → Read
read_lines s [] = or_read (unless (eqb (nth s.last 0) 7) 24 0) (said s)
read_lines s (l ∷ ls) =
    or_read (line_refusal l) (or_read (place_refusal s (bytes_of l.text)) (read_lines (taken_frame s (bytes_of l.text)) ls))

-- 8.5: 20 a text over its limit; then line by line
unfoldable pub read_within : ℕ → List ℕ → Read
read_within most text = or_read (unless (leb (length text) most) 20 0) (read_lines start (lines text))

-- 8.5: a file of at most 1024 bytes
abbrev pub read_problem : List ℕ → Read
read_problem = read_within 1024
