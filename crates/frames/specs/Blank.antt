-- What a reader's places hold behind its tasks.
-- Assumes nothing.
use Rattle.std.specs.Prelude.{[], ◌∷◌}
use Rattle.tasks.specs.declared.Task.{Task}

-- no task yet
abbrev pub blank : Task
blank = record {
  offset = record { 0 = 0 };
  work = record { 0 = 0 };
  deadline = record { 0 = 0 };
  period = record { 0 = 0 };
  rates = record { 0 = 0 ∷ 0 ∷ 0 ∷ 0 ∷ [] };
}
