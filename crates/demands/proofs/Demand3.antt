-- Demand 3 over the calls that users make: the engines agree, without a limit for every sound list, and with one wherever neither stops. The words come first, then the theorems.
-- Assumes nothing.
use Prim.Native.Nat.{ℕ, ◌≤◌}
use mathlib.Core.Path.{◌≡◌}
use mathlib.Core.List.{List}
use lib.ListN.{length, replicate}
use Rattle.std.specs.Prelude.{Result}
use Rattle.tasks.specs.declared.Task.{Task}
use Rattle.tasks.specs.declared.Refusal.{Refusal}
use Rattle.tasks.specs.Refusal.{IsSound}
use Rattle.tasks.specs.Instance.{own_instance}
use Rattle.table.specs.Table.{cells, Table}
use Rattle.rules.specs.Rules.{rank}
use Rattle.rules.specs.Right.{Right, Quicker}
use Rattle.rules.specs.Search.{walked, search}
use Rattle.tasks.proofs.SoundLaws.{own_regular}
use Rattle.rules.proofs.Demand2.{walks}
use Rattle.rules.proofs.Demand3.{Agree, without_limit, agree}
use Rattle.search.specs.declared.Answer.{Answer}
use Rattle.search.specs.Told.{searched_as}
use Rattle.search.proofs.Calls.{Search}
use Rattle.frames.specs.Read.{problem, read_problem}
use Rattle.planner.proofs.Calls.{PlanText}
use Rattle.demands.proofs.Demand2.{WritesAnswer, room, text_writes}

-- ---- words
-- the walks of a sound list without a limit
pub record Unlimited (m : ℕ) (ts : List Task) : Type 0 where
  -- each finds the first valid table, or there is none
  pub right : (e : ℕ) → Right (rank (own_instance m ts)) (Table (own_instance m ts)) (walked e (own_instance m ts))
  -- both reach the same verdict and the same table, cell for cell, and the quick one takes no more tries
  pub quicker : Quicker (walked 1 (own_instance m ts)) (walked 0 (own_instance m ts))

-- ---- theorems
-- for every sound list
pub unlimited : (m : ℕ) (ts : List Task) → IsSound m ts → Unlimited m ts
unlimited m ts sound = record { right = (walks (own_instance m ts) (own_regular m ts sound)).walked_right; quicker = without_limit m ts sound }

-- two calls of `search` on a sound list with the same limit, the quick and the plain, into any two buffers that are long enough
pub same : (ts : List Task) (m b : ℕ) (t t' : List ℕ) (q p : Result Answer Refusal) (u v : List ℕ) → Search ts m 1 b t q u → Search ts m 0 b t' p v
    → IsSound m ts → cells (own_instance m ts) ≤ length t → cells (own_instance m ts) ≤ length t'
    → Agree (own_instance m ts) (walked 1 (own_instance m ts)) (walked 0 (own_instance m ts)) b (searched_as q u) (searched_as p v)
same ts m b t t' q p u v quick plain sound room room' = rw (quick, plain) (agree m ts b t t' sound room room')

-- two calls of `plan_text` on texts that hold the same sound list and limit, for the quick engine and the plain
pub same_text : (text text' out out' : List ℕ) (r r' : ℕ) (u v : List ℕ) → PlanText text out r u → PlanText text' out' r' v → 15376 ≤ length out → 15376 ≤ length out'
    → (m : ℕ) (ts : List Task) (b : ℕ) → read_problem text ≡ problem m ts 1 b → read_problem text' ≡ problem m ts 0 b → IsSound m ts
    → WritesAnswer m ts (search m ts 1 b (replicate 4096 0)) out r u × WritesAnswer m ts (search m ts 0 b (replicate 4096 0)) out' r' v
    × Agree (own_instance m ts) (walked 1 (own_instance m ts)) (walked 0 (own_instance m ts)) b (search m ts 1 b (replicate 4096 0)) (search m ts 0 b (replicate 4096 0))
same_text text text' out out' r r' u v quick plain l l' m ts b reads reads' sound = (
  text_writes text out r u quick l m ts 1 b reads,
  text_writes text' out' r' v plain l' m ts 0 b reads',
  agree m ts b (replicate 4096 0) (replicate 4096 0) sound (room m ts sound) (room m ts sound),
)
