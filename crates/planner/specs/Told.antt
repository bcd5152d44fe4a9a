-- What the code tells of a text, by the rules' numbers.
-- Assumes nothing.
use Rattle.std.specs.Prelude.{ℕ, List, Result, Ok, Err}
use Rattle.tasks.specs.declared.Refusal.{Refusal}
use Rattle.tasks.specs.Told.{number_of}
use Rattle.search.specs.Told.{verdict_of}
use Rattle.answer.specs.Write.{write_answer}
use Rattle.planner.specs.declared.Planned.{Planned}

-- the text of an answer with the table t, or of a refusal
unfoldable pub planned_text : Result Planned Refusal → List ℕ → List ℕ
planned_text (Ok p) t = write_answer (verdict_of p.answer.outcome) p.answer.tries p.slots.0 p.m t
planned_text (Err r) t = write_answer (number_of r) 0 0 0 t
