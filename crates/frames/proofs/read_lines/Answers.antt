-- `frames::read_lines` meets its contract: each line is refused or read, and the end decides.
-- Assumes nothing.
use Rattle.std.proofs.Common.{rules}
use Rattle.std.proofs.lemmas.Result.{err_from_is_err_and}
use Rattle.tasks.proofs.RefusalLaws.{some_number}
use Rattle.frames.proofs.ReachLaws.{next_cut, line_refused, place_refused, rates_room, reached_next, no_end, read_all}
use Rattle.frames.proofs.read_lines.Goals as goal

pub returns-in_err-frame : goal.returns-in_err-frame
returns-in_err-frame c =
    let cut = next_cut _ _ _ _ _ _ (λ f a r f' k. search rules) c.in-Some.ensures.steps in
    let p = err_from_is_err_and c.from_residual.result c.from_residual.ensures.1 in
    rw (p.1, p.2) (line_refused _ _ _ _ _ _ c.loop-line.invariant cut _ c.in_err-frame.ensures.refusal (some_number _))

pub returns-then-not-in_place : goal.returns-then-not-in_place
returns-then-not-in_place c =
    let cut = next_cut _ _ _ _ _ _ (λ f a r f' k. search rules) c.in-Some.ensures.steps in
    place_refused _ _ _ _ _ _ c.loop-line.invariant cut c.in_ok-frame.ensures.refusal _ c.len.ensures
    (c.if-not-in_place.ensures _ c.in_ok-frame.ensures.frame)

pub take_frame-requires : goal.take_frame-requires
take_frame-requires c =
    λ k. let room = rates_room _ _ c.in_ok-frame.frame _ c.in_ok-frame.ensures.frame (c.if-not-in_place.ensures _ c.in_ok-frame.ensures.frame) k in
    (room.0, rw c.len.ensures at room.1)

pub loop-line-preserved : goal.loop-line-preserved
loop-line-preserved c =
    let cut = next_cut _ _ _ _ _ _ (λ f a r f' k. search rules) c.in-Some.ensures.steps in
    let i = c.loop-line.invariant in
    reached_next _ _ _ _ _ _ i cut c.in_ok-frame.ensures.refusal _ c.len.ensures c.in_ok-frame.frame _
    (c.if-not-in_place.ensures _ c.in_ok-frame.ensures.frame) c.in_ok-frame.ensures.frame
    (c.take_frame.ensures i.state i.held i.was _ c.in_ok-frame.ensures.frame)

pub returns-then-not-is_end : goal.returns-then-not-is_end
returns-then-not-is_end c = no_end _ _ _ _ c.loop-line.invariant c.in-None.ensures.steps.0 c.if-not-is_end.ensures

pub returns : goal.returns
returns c = read_all _ _ _ _ c.loop-line.invariant c.in-None.ensures.steps.0 c.if-not-is_end.ensures
