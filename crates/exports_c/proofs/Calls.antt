-- What a call of each function that C links ensures is what the function of its name in `exports` does, so what is proved of those holds of these.
-- Assumes nothing.
use mathlib.Core.Path.{refl}
use Rattle.laws.proofs.Only.{Says}
use Rattle.planner.proofs.Calls.{PlanText}
use Rattle.exports.proofs.Calls.{XiphomeraSearch, XiphomeraCheck, XiphomeraStart, XiphomeraStep}
use Rattle.exports_c.specs.contracts.xiphomera_search as xiphomera_search_call
use Rattle.exports_c.specs.contracts.xiphomera_check as xiphomera_check_call
use Rattle.exports_c.specs.contracts.xiphomera_plan_text as xiphomera_plan_text_call
use Rattle.exports_c.specs.contracts.xiphomera_start as xiphomera_start_call
use Rattle.exports_c.specs.contracts.xiphomera_step as xiphomera_step_call

xiphomera_search_says : (κs tasks cores engine limit table tasks' cores' engine' limit' table' r : _)
    → Says (λ M 𝓤 𝓛 mem run. xiphomera_search_call.ensures-1 𝓛 κs mem run tasks cores engine limit table tasks' cores' engine' limit' table' r)
    (XiphomeraSearch tasks'.entry.now cores engine limit table'.entry.now r table'.exit.now)
xiphomera_search_says κs tasks cores engine limit table tasks' cores' engine' limit' table' r M 𝓤 𝓛 mem run = refl

xiphomera_check_says : (κs tasks cores table tasks' cores' table' r : _)
    → Says (λ M 𝓤 𝓛 mem run. xiphomera_check_call.ensures-1 𝓛 κs mem run tasks cores table tasks' cores' table' r)
    (XiphomeraCheck tasks'.entry.now cores table'.entry.now r)
xiphomera_check_says κs tasks cores table tasks' cores' table' r M 𝓤 𝓛 mem run = refl

xiphomera_plan_text_says : (κs text out text' out' r : _)
    → Says (λ M 𝓤 𝓛 mem run. xiphomera_plan_text_call.ensures-1 𝓛 κs mem run text out text' out' r) (PlanText text'.entry.now out'.entry.now r out'.exit.now)
xiphomera_plan_text_says κs text out text' out' r M 𝓤 𝓛 mem run = refl

xiphomera_start_says : (κs player tasks cores table tick cells player' tasks' cores' table' tick' cells' r : _)
    → Says (λ M 𝓤 𝓛 mem run. xiphomera_start_call.ensures-1 𝓛 κs mem run player tasks cores table tick cells player' tasks' cores' table' tick' cells' r)
    (XiphomeraStart player'.entry.now tasks'.entry.now cores table'.entry.now tick r cells'.exit.now player'.exit.now)
xiphomera_start_says κs player tasks cores table tick cells player' tasks' cores' table' tick' cells' r M 𝓤 𝓛 mem run = refl

xiphomera_step_says : (κs player tick cells player' tick' cells' r : _)
    → Says (λ M 𝓤 𝓛 mem run. xiphomera_step_call.ensures-1 𝓛 κs mem run player tick cells player' tick' cells' r)
    (XiphomeraStep player'.entry.now tick r cells'.exit.now player'.exit.now)
xiphomera_step_says κs player tick cells player' tick' cells' r M 𝓤 𝓛 mem run = refl
