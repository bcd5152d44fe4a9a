-- What a call of each exported function ensures, as its contract says, and that it leaves one answer and one state; what is lent without `mut` is only read.
-- Assumes nothing.
use Prim.Native.Nat.{ℕ}
use mathlib.Core.Path.{◌≡◌, refl}
use mathlib.Core.List.{List}
use Rattle.laws.proofs.Only.{Says, only}
use Rattle.tasks.specs.declared.Task.{Task}
use Rattle.table.specs.Fault.{check}
use Rattle.rules.specs.Search.{search}
use Rattle.player.specs.declared.Player.{Player}
use Rattle.clock.specs.Clock.{Answered}
use Rattle.player.specs.Player.{stepped, after_step, started, after_start}
use Rattle.planner.proofs.Calls.{PlanText, plan_text_only}
use Rattle.exports.specs.Packed.{SearchNumber, check_number, ShownNumber}
use Rattle.exports.specs.contracts.xiphomera_search as xiphomera_search_call
use Rattle.exports.specs.contracts.xiphomera_check as xiphomera_check_call
use Rattle.exports.specs.contracts.xiphomera_plan_text as xiphomera_plan_text_call
use Rattle.exports.specs.contracts.xiphomera_start as xiphomera_start_call
use Rattle.exports.specs.contracts.xiphomera_step as xiphomera_step_call

-- ---- xiphomera_search: it finds the buffer t, answers r and leaves the buffer t'
abbrev pub XiphomeraSearch : List Task → ℕ → ℕ → ℕ → List ℕ → ℕ → List ℕ → Type 0
XiphomeraSearch ts cores engine limit t r t' = SearchNumber r t' (search cores ts engine limit t)

xiphomera_search_says : (κs tasks cores engine limit table tasks' cores' engine' limit' table' r : _)
    → Says (λ M 𝓤 𝓛 mem run. xiphomera_search_call.ensures-1 𝓛 κs mem run tasks cores engine limit table tasks' cores' engine' limit' table' r)
    (XiphomeraSearch tasks'.entry.now cores engine limit table'.entry.now r table'.exit.now)
xiphomera_search_says κs tasks cores engine limit table tasks' cores' engine' limit' table' r M 𝓤 𝓛 mem run = refl

pub xiphomera_search_only : (ts : List Task) (cores engine limit : ℕ) (t : List ℕ) (r r' : ℕ) (u u' : List ℕ)
    → XiphomeraSearch ts cores engine limit t r u → XiphomeraSearch ts cores engine limit t r' u' → (r ≡ r') × (u ≡ u')
xiphomera_search_only ts cores engine limit t r r' u u' e e' = (only e.answer e'.answer, only e.left e'.left)

-- ---- xiphomera_check
abbrev pub XiphomeraCheck : List Task → ℕ → List ℕ → ℕ → Type 0
XiphomeraCheck ts cores t r = r ≡ check_number (check cores ts t)

xiphomera_check_says : (κs tasks cores table tasks' cores' table' r : _)
    → Says (λ M 𝓤 𝓛 mem run. xiphomera_check_call.ensures-1 𝓛 κs mem run tasks cores table tasks' cores' table' r)
    (XiphomeraCheck tasks'.entry.now cores table'.entry.now r)
xiphomera_check_says κs tasks cores table tasks' cores' table' r M 𝓤 𝓛 mem run = refl

pub xiphomera_check_only : (ts : List Task) (cores : ℕ) (t : List ℕ) (r r' : ℕ) → XiphomeraCheck ts cores t r → XiphomeraCheck ts cores t r' → r ≡ r'
xiphomera_check_only ts cores t r r' = only

-- ---- xiphomera_plan_text
xiphomera_plan_text_says : (κs text out text' out' r : _)
    → Says (λ M 𝓤 𝓛 mem run. xiphomera_plan_text_call.ensures-1 𝓛 κs mem run text out text' out' r) (PlanText text'.entry.now out'.entry.now r out'.exit.now)
xiphomera_plan_text_says κs text out text' out' r M 𝓤 𝓛 mem run = refl

pub xiphomera_plan_text_only : (text out : List ℕ) (r r' : ℕ) (o o' : List ℕ) → PlanText text out r o → PlanText text out r' o' → (r ≡ r') × (o ≡ o')
xiphomera_plan_text_only = plan_text_only

-- ---- xiphomera_start: it finds the record p, answers r and leaves the four cells and the record p'
-- what a player shows and leaves, told as a number, four cells and a record
pub shown_only : {s : Answered} {p : Player} {r r' : ℕ} {c c' : List ℕ} {q q' : Player} → ShownNumber r c s × (q ≡ p) → ShownNumber r' c' s × (q' ≡ p) → (r ≡ r') × (c ≡ c') × (q ≡ q')
shown_only e e' = (only e.0.answer e'.0.answer, only e.0.shown e'.0.shown, only e.1 e'.1)

abbrev pub XiphomeraStart : Player → List Task → ℕ → List ℕ → ℕ → ℕ → List ℕ → Player → Type 0
XiphomeraStart p ts cores t tick r cells p' = ShownNumber r cells (started cores ts t tick) × (p' ≡ after_start cores ts t tick p)

xiphomera_start_says : (κs player tasks cores table tick cells player' tasks' cores' table' tick' cells' r : _)
    → Says (λ M 𝓤 𝓛 mem run. xiphomera_start_call.ensures-1 𝓛 κs mem run player tasks cores table tick cells player' tasks' cores' table' tick' cells' r)
    (XiphomeraStart player'.entry.now tasks'.entry.now cores table'.entry.now tick r cells'.exit.now player'.exit.now)
xiphomera_start_says κs player tasks cores table tick cells player' tasks' cores' table' tick' cells' r M 𝓤 𝓛 mem run = refl

pub xiphomera_start_only : (p : Player) (ts : List Task) (cores : ℕ) (t : List ℕ) (tick r r' : ℕ) (c c' : List ℕ) (q q' : Player)
    → XiphomeraStart p ts cores t tick r c q → XiphomeraStart p ts cores t tick r' c' q' → (r ≡ r') × (c ≡ c') × (q ≡ q')
xiphomera_start_only p ts cores t tick r r' c c' q q' = shown_only

-- ---- xiphomera_step: the same
abbrev pub XiphomeraStep : Player → ℕ → ℕ → List ℕ → Player → Type 0
XiphomeraStep p tick r cells p' = ShownNumber r cells (stepped p tick) × (p' ≡ after_step p tick)

xiphomera_step_says : (κs player tick cells player' tick' cells' r : _)
    → Says (λ M 𝓤 𝓛 mem run. xiphomera_step_call.ensures-1 𝓛 κs mem run player tick cells player' tick' cells' r)
    (XiphomeraStep player'.entry.now tick r cells'.exit.now player'.exit.now)
xiphomera_step_says κs player tick cells player' tick' cells' r M 𝓤 𝓛 mem run = refl

pub xiphomera_step_only : (p : Player) (tick r r' : ℕ) (c c' : List ℕ) (q q' : Player)
    → XiphomeraStep p tick r c q → XiphomeraStep p tick r' c' q' → (r ≡ r') × (c ≡ c') × (q ≡ q')
xiphomera_step_only p tick r r' c c' q q' = shown_only
