-- `windows::open_in` meets its contract: what a place has beyond its job's start is the place mod T, and the slots to come are the count's closed form.
-- Assumes nothing.
use native.Mathlib.Nat.{lt_of_le_of_lt, div-mul-le_self}
use borrow.Author.Rules.{rules}
use Rattle.windows.proofs.AnswerLaws.{past_deadline, before_deadline}
use Rattle.windows.proofs.open_in.Goals as goal

pub overflow_mul-in_period : goal.overflow_mul-in_period
overflow_mul-in_period c = record { fits = lt_of_le_of_lt (div-mul-le_self _ _) (search rules) }

pub overflow_sub-in_period : goal.overflow_sub-in_period
overflow_sub-in_period c = div-mul-le_self _ _

pub returns-then-t-in_period : goal.returns-then-t-in_period
returns-then-t-in_period c = search (rules, past_deadline)

pub returns : goal.returns
returns c = search (rules, before_deadline)
