-- What a call of each public function ensures, as its contract says, and that it leaves one answer and one record; tasks and table are only read.
-- Assumes nothing.
use Prim.Native.Nat.{ℕ}
use mathlib.Core.Path.{◌≡◌, refl}
use mathlib.Core.List.{List}
use Rattle.std.specs.Prelude.{Result}
use Rattle.laws.proofs.Only.{Says, only}
use Rattle.tasks.specs.declared.Task.{Task}
use Rattle.tasks.specs.declared.Refusal.{Refusal}
use Rattle.clock.specs.declared.Shown.{Shown}
use Rattle.clock.specs.Clock.{Answered, answered_as}
use Rattle.clock.proofs.Calls.{answered_only}
use Rattle.player.specs.declared.Player.{Player}
use Rattle.player.specs.Player.{stepped, after_step, started, after_start}
use Rattle.player.specs.contracts.step as step_call
use Rattle.player.specs.contracts.start as start_call

-- ---- step: it finds the record p, answers r, by the rules' numbers, and leaves the record p'
abbrev pub Step : Player → ℕ → Answered → Player → Type 0
Step p tick r p' = (r ≡ stepped p tick) × (p' ≡ after_step p tick)

step_says : (κs p tick p' tick' r : _)
    → Says (λ M 𝓤 𝓛 mem run. step_call.ensures-1 𝓛 κs mem run p tick p' tick' r) (Step p'.entry.now tick (answered_as r) p'.exit.now)
step_says κs p tick p' tick' r M 𝓤 𝓛 mem run = refl

pub step_only : (p : Player) (tick : ℕ) (r r' : Result Shown Refusal) (q q' : Player)
    → Step p tick (answered_as r) q → Step p tick (answered_as r') q' → (r ≡ r') × (q ≡ q')
step_only p tick r r' q q' e e' = (answered_only e.0 e'.0, only e.1 e'.1)

-- ---- start: for the tasks ts on m cores and the table t it finds the record p, answers r, by the rules' numbers, and leaves the record p'
abbrev pub Start : Player → List Task → ℕ → List ℕ → ℕ → Answered → Player → Type 0
Start p ts m t tick r p' = (r ≡ started m ts t tick) × (p' ≡ after_start m ts t tick p)

start_says : (κs p tasks m table tick p' tasks' m' table' tick' r : _)
    → Says (λ M 𝓤 𝓛 mem run. start_call.ensures-1 𝓛 κs mem run p tasks m table tick p' tasks' m' table' tick' r)
    (Start p'.entry.now tasks'.entry.now m table'.entry.now tick (answered_as r) p'.exit.now)
start_says κs p tasks m table tick p' tasks' m' table' tick' r M 𝓤 𝓛 mem run = refl

pub start_only : (p : Player) (ts : List Task) (m : ℕ) (t : List ℕ) (tick : ℕ) (r r' : Result Shown Refusal) (q q' : Player)
    → Start p ts m t tick (answered_as r) q → Start p ts m t tick (answered_as r') q' → (r ≡ r') × (q ≡ q')
start_only p ts m t tick r r' q q' e e' = (answered_only e.0 e'.0, only e.1 e'.1)
