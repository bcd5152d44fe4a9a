-- `search::hand_over` meets its contract: the cells are those of the outcome.
-- Assumes nothing.
use Rattle.std.proofs.Common.{ap, replicate, ◌∙◌, arith}
use Rattle.std.proofs.Math.Logic.{⊎_elim}
use lib.ListN.{length-replicate}
use lib.Seq.{length-take-le}
use Rattle.search.specs.Told.{cells_handed}
use Rattle.search.proofs.AnswerLaws.{written}
use Rattle.search.proofs.hand_over.Goals as goal

pub returns-in-Found : goal.returns-in-Found
unfolding cells_handed
returns-in-Found c =
    rw c.in-Found.is
    (written _ _ _ _ c.copy_from_slice.ensures.after (length-take-le c.args.n _ (omega (arith, c.requires.0, c.told-cells))))

pub returns-in-NoTable : goal.returns-in-NoTable
unfolding cells_handed
returns-in-NoTable c =
    let zeros = c.fill.ensures.after (λ y e. e) ∙ ap (λ n. replicate n 0) (length-take-le c.args.n _ c.requires.1) in
    let cleared = written (replicate c.args.n 0) _ c.args.table.now c.args.n zeros (length-replicate c.args.n 0) in
    ⊎_elim (λ is. rw is cleared) (λ is. rw is cleared) c.in-NoTable.is
