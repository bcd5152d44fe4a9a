-- `exports::xiphomera_search` meets its contract: the search of the narrowed numbers is that of the numbers, and it is told as a number.
-- Assumes nothing.
use Rattle.exports.proofs.NarrowLaws.{search_told_lem}
use Rattle.exports.proofs.xiphomera_search.Goals as goal

pub returns : goal.returns
returns c = search_told_lem _ _ _ _ _ _ _ c.narrow-m.ensures c.narrow-e.ensures c.search.ensures c.tell_search.ensures
