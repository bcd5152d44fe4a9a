-- The planning program: from the bytes of a problem to the bytes of its answer.
-- Assumes nothing.
use Rattle.std.specs.Prelude.{ℕ, List, [], replicate}
use Rattle.tasks.specs.declared.Task.{Task}
use Rattle.tasks.specs.Refusal.{table_length}
use Rattle.rules.specs.Search.{Searched, search}
use Rattle.frames.specs.Read.{Read, refused, problem, read_problem}
use Rattle.answer.specs.Write.{write_answer}

-- 8.12: 05 with the search's verdict and tries, the 06 lines for verdict 0, and 07
unfoldable pub search_answer : ℕ → List Task → Searched → List ℕ
search_answer m ts s = write_answer s.verdict s.tries (table_length ts) m s.buffer

-- 8.11, 8.13: a refusal, of the file too, stands in 05 as the verdict, with 0 tries; the search has room for the largest table
unfoldable pub answer_to_read : Read → List ℕ
answer_to_read (refused k) = write_answer k 0 0 0 []
answer_to_read (problem m ts e b) = search_answer m ts (search m ts e b (replicate 4096 0))

-- 8.12: the answer to a text
abbrev pub answer_to : List ℕ → List ℕ
answer_to text = answer_to_read (read_problem text)
