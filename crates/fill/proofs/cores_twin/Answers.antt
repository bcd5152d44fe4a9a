-- `fill::cores_twin` meets its contract: each task's two rates are compared.
-- Assumes nothing.
use Rattle.std.proofs.Common.{rules, ◌≡◌, Bool, true, false, eqb}
use Rattle.std.proofs.lemmas.Iterator.{cases_from_all, YieldsList-from_slice}
use borrow.Author.Tests.{tests}
use Rattle.tasks.specs.declared.Task.{Task}
use Rattle.tasks.specs.Task.{rate}
use Rattle.fill.specs.Grid.{cores_twin}
use Rattle.fill.proofs.RateLaws.{all_told}
use Rattle.fill.proofs.cores_twin.Goals as goal

pub returns : goal.returns
unfolding cores_twin
returns c =
    let same : Task → Bool = λ τ. eqb (rate τ c.args.a) (rate τ c.args.b) in
    all_told same _ c.all.result
    (cases_from_all _ _ _ (λ τ. same τ ≡ true) (λ τ. same τ ≡ false) c.all.ensures.ran
    (YieldsList-from_slice c.args.tasks.now c.iter.ensures.rest) (λ x q k. search (rules, tests)) (λ x q k. search (rules, tests)))
