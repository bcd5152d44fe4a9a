-- Demand 2 over the calls that users make: verdicts exact both ways, the first table, the checker, and a table as a board plays it. The words come first, then the theorems.
-- Assumes nothing.
use Prim.Native.Nat.{ℕ, ◌^◌, ◌≤◌, ◌<◌}
use native.Mathlib.Omega.{arith}
use mathlib.Core.Path.{◌≡◌, sym, ap, subst, ◌∙◌}
use mathlib.Core.Logic.{◌≢◌, ◌↔◌}
use mathlib.Core.List.{List, []}
use lib.ListN.{length, replicate, length-replicate}
use Rattle.laws.specs.Lists.{over}
use Rattle.std.specs.Prelude.{Option, None, Result, Ok}
use Rattle.tasks.specs.declared.Task.{Task}
use Rattle.tasks.specs.declared.Refusal.{Refusal}
use Rattle.tasks.specs.Task.{rate, task}
use Rattle.tasks.specs.Refusal.{table_length, IsSound}
use Rattle.tasks.specs.Instance.{instance_of, own_instance}
use Rattle.tasks.proofs.SoundLaws.{sound_list, length_whole, sound_cyclic}
use Rattle.table.specs.Table.{cells, Valid}
use Rattle.table.proofs.TableLaws.{serves_none}
use Rattle.rules.specs.Search.{Searched, walked, search}
use Rattle.rules.proofs.Demand2.{Searches, searches}
use Rattle.search.specs.declared.Answer.{Answer}
use Rattle.search.specs.Told.{searched_as}
use Rattle.search.proofs.Calls.{Search}
use Rattle.checker.specs.declared.Fault.{Fault}
use Rattle.checker.specs.Told.{checked_as}
use Rattle.checker.proofs.Calls.{Checks}
use Rattle.checker.proofs.Demand2.{Tells, answer_tells}
use Rattle.clock.specs.Clock.{Answered, elapsed_at}
use Rattle.clock.proofs.ClockLaws.{tick_after}
use Rattle.player.specs.declared.Player.{Player}
use Rattle.player.proofs.Demand2 as played
use Rattle.player.proofs.Calls.{Start}
use Rattle.player.proofs.Demand2.{Run, Keeps, Plays}
use Rattle.lines.specs.Lines.{lines}
use Rattle.frames.specs.Read.{problem, read_problem}
use Rattle.frames.proofs.LimitLaws.{limits_in, left_out_quick}
use Rattle.answer.specs.Write.{write_answer}
use Rattle.planner.specs.Answer.{search_answer, answer_to_read}
use Rattle.planner.proofs.Calls.{PlanText}
use Rattle.demands.proofs.Demand1.{own_cells, written_room}

-- ---- words
-- a call of `plan_text` writes what a search s tells: 05 with its verdict and tries, the 06 lines for verdict 0, and 07
pub record WritesAnswer (m : ℕ) (ts : List Task) (s : Searched) (out : List ℕ) (r : ℕ) (out' : List ℕ) : Type 0 where
  pub count : r ≡ length (write_answer s.verdict s.tries (table_length ts) m s.buffer)
  pub holds : out' ≡ over (write_answer s.verdict s.tries (table_length ts) m s.buffer) out

-- ---- theorems
-- a call of `search` on a sound list, by either engine, with any limit, into a buffer that is long enough
pub plans : (ts : List Task) (m e b : ℕ) (t : List ℕ) (r : Result Answer Refusal) (t' : List ℕ) → Search ts m e b t r t' → IsSound m ts → e ≤ 1 → cells (own_instance m ts) ≤ length t
    → Searches (own_instance m ts) (walked e (own_instance m ts)) b t (searched_as r t')
plans ts m e b t r t' call sound engine room = subst (Searches (own_instance m ts) (walked e (own_instance m ts)) b t) (sym call) (searches m ts e b t sound engine room)

-- a call of `check_table`, for every list, every number of cores and every table
pub checks : (ts : List Task) (m : ℕ) (t : List ℕ) (r : Result (Option Fault) Refusal) → Checks ts m t r → Tells m ts t (checked_as r)
checks = answer_tells

-- a list with a task of four zero rates: no table serves it
pub unserved : (ts : List Task) (m i : ℕ) → IsSound m ts → i ≢ 0 → i ≤ length ts → ((j : ℕ) → j < 4 → rate (task ts i) j ≡ 0)
    → (f : ℕ → ℕ) → Valid (own_instance m ts) f → ⊥
unfolding instance_of
unserved ts m i sound x l zeros f =
    let s = sound_list m ts sound in
    serves_none (own_instance m ts) s.some_core i 0 x l (sound_cyclic s (length_whole s) i x l).some_jobs (s.in_range i x l).work_pos (λ j k. zeros j (omega (arith, k, s.few_cores))) f

-- the planning program's buffer has room for every table
pub room : (m : ℕ) (ts : List Task) → IsSound m ts → cells (own_instance m ts) ≤ length {A = ℕ} (replicate 4096 0)
room m ts sound = rw (length-replicate {A = ℕ} 4096 0) (own_cells m ts sound)

-- a call of `plan_text` with room for the longest answer writes what the search of the text's problem tells
pub text_writes : (text out : List ℕ) (r : ℕ) (out' : List ℕ) → PlanText text out r out' → 15376 ≤ length out
    → (m : ℕ) (ts : List Task) (e b : ℕ) → read_problem text ≡ problem m ts e b → WritesAnswer m ts (search m ts e b (replicate 4096 0)) out r out'
unfolding answer_to_read search_answer
text_writes text out r out' call l m ts e b reads =
    let w = written_room call l in record { count = w.0 ∙ ap (λ x. length (answer_to_read x)) reads; holds = w.1 ∙ ap (λ x. over (answer_to_read x) out) reads }

-- where that has a sound list and engine 0 or 1, its verdict, tries and lines are as a search's must be
pub text_plans : (text out : List ℕ) (r : ℕ) (out' : List ℕ) → PlanText text out r out' → 15376 ≤ length out
    → (m : ℕ) (ts : List Task) (e b : ℕ) → read_problem text ≡ problem m ts e b → IsSound m ts → e ≤ 1
    → (s : Searched) × Searches (own_instance m ts) (walked e (own_instance m ts)) b (replicate 4096 0) s × WritesAnswer m ts s out r out'
text_plans text out r out' call l m ts e b reads sound engine =
    (search m ts e b (replicate 4096 0), searches m ts e b (replicate 4096 0) sound engine (room m ts sound), text_writes text out r out' call l m ts e b reads)

-- quick unless told otherwise: for a text without an 04 that holds a sound list they are those of engine 1 with limit 1000000
pub quick_unless_told : (text out : List ℕ) (r : ℕ) (out' : List ℕ) → PlanText text out r out' → 15376 ≤ length out
    → (m : ℕ) (ts : List Task) (e b : ℕ) → read_problem text ≡ problem m ts e b → limits_in (lines text) ≡ [] → IsSound m ts
    → (s : Searched) × Searches (own_instance m ts) (walked 1 (own_instance m ts)) 1000000 (replicate 4096 0) s × WritesAnswer m ts s out r out'
quick_unless_told text out r out' call l m ts e b reads none sound = text_plans text out r out' call l m ts 1 1000000 (left_out_quick text m ts e b reads none) sound (omega arith)

module _ (ts : List Task) (m : ℕ) (t : List ℕ) (p : Player) (tick : ℕ → ℕ) (n : ℕ) (shown : ℕ → Answered) (left : ℕ → Player)
    (valid : Checks ts m t (Ok None)) (run : Run ts m t p tick n shown left) where
  -- a table that `check_table` finds valid, played by a call of `start` with the lent tasks and n calls of `step` with every elapsed number 1:
  -- each job from its first release gets at least its work inside its own window
  pub plays : ((s : ℕ) → s < n → elapsed_at tick s ≡ 1) → Plays m ts t n shown
  plays = played.plays ts m t p tick n shown left valid run

  -- the same with any elapsed numbers below 2^31
  pub keeps : ((s : ℕ) → s < n → elapsed_at tick s < 2 ^ 31) → Keeps m ts t tick n shown left
  keeps = played.keeps ts m t p tick n shown left valid run

-- a start is accepted exactly if `check_table` finds the table valid
pub accepts : (ts : List Task) (m : ℕ) (t : List ℕ) (p p' : Player) (tick : ℕ) (r : Answered) → Start p ts m t tick r p' → (r.verdict ≡ 0) ↔ Checks ts m t (Ok None)
accepts = played.accepts

-- the board's counter, from any tick on and across its wrap, has every elapsed number 1
pub counts : (τ s : ℕ) → elapsed_at (tick_after τ) s ≡ 1
counts = played.counts
