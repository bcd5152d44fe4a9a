-- `frames::in_place` meets its contract: its tests are the definition's.
-- Assumes nothing.
use Rattle.std.proofs.Common.{ap, ap₂, ◌∙◌}
use Rattle.laws.specs.Lists.{nth, tab_from}
use Rattle.lines.specs.Frame.{ten_bytes}
use Rattle.frames.specs.Read.{may_follow, right_number, in_place}
use Rattle.frames.specs.Told.{code_before}
use Rattle.frames.proofs.in_place.Goals as goal

pub returns-then-may_follow : goal.returns-then-may_follow
unfolding in_place ten_bytes tab_from
returns-then-may_follow c =
    λ f g. rw (← (c.if-may_follow.ensures ∙ ap (may_follow (code_before c.args.last)) g.0))
    (c.right_number.ensures ∙ ap₂ (right_number c.args.count) g.0 (ap (λ b. nth b 1) g.1))

pub returns-else-may_follow : goal.returns-else-may_follow
unfolding in_place
returns-else-may_follow c =
    λ f g. rw (← (c.if-may_follow.ensures ∙ ap (may_follow (code_before c.args.last)) g.0)) c.if-may_follow.false
