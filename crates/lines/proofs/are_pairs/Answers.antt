-- `lines::are_pairs` meets its contract: half a pair, or a byte that is no digit, decides.
-- Assumes nothing.
use Rattle.std.proofs.Common.{sym, ap, ◌∙◌, arith}
use Rattle.std.specs.Option.{is_some}
use Rattle.lines.proofs.FrameLaws.{told_not}
use Rattle.lines.proofs.LineLaws.{odd_none, other_none, all_pairs}
use Rattle.lines.proofs.are_pairs.Goals as goal

pub returns-then-text-ne0 : goal.returns-then-text-ne0
returns-then-text-ne0 c = sym (odd_none _ c.if-text-ne0.true)

pub returns-then-is_none : goal.returns-then-is_none
returns-then-is_none c =
    sym (other_none _ _ c.loop-c-test.true (told_not _ _ (sym (ap is_some c.digit.ensures.value) ∙ c.if-is_none.ensures)))

pub returns : goal.returns
returns c = sym (all_pairs _ c.if-text-ne0.false (λ k l. c.loop-c.invariant k (omega arith)))
