-- `Walker::cell`, `Walker::finish_slot` and `Walker::next_slot` meet their contracts, by one proof: each goal is a law of the turn that it belongs to.
-- Assumes nothing.
use Prim.Native.Nat.{◌*◌}
use native.Mathlib.Omega.{arith}
use mathlib.Core.Path.{refl, sym, ap, ◌∙◌}
use Rattle.std.proofs.option.Match.{None-if_not_some}
use Rattle.grid.proofs.ReadLaws.{at_slot, starves_tells}
use Rattle.walk.specs.Machine.{cells_left}
use mathlib.Core.Logic.{⊎_elim}
use Rattle.walk.proofs.GiveBackLaws.{found_apart, stopped_apart}
use Rattle.walk.proofs.TurnLaws.{begins, task_in, task_few, rises, passes, backs, ends, stops, idle_barred, idle_stops, idle_starves, idles, stands_without, stands_start, goes_on, slot_left, starved, founds, next_slots, stands_same, ran_after_same, loans_on, some_there}
use Rattle.walk.proofs.Walker.+cell_finish_slot.Goals as goal

pub cell-loop-rest-init : goal.cell-loop-rest-init
cell-loop-rest-init t c =
    (record { grid = refl; table = refl; left = refl }, begins c.requires (ap (λ m. c.args.slot * m) c.from.ensures) c.of_core.ensures c.from_rank-rest.ensures c.floor-floor.ensures)

pub cell-without-rest-requires : goal.cell-without-rest-requires
cell-without-rest-requires t c =
    task_few c.loop-rest.invariant.1 c.loop-rest-test.true c.lowest-task.ensures

pub cell-returns-then-self-clause-ran : goal.cell-returns-then-self-clause-ran
cell-returns-then-self-clause-ran t c =
    stops c.loop-rest.invariant.1 c.loop-rest-test.true c.lowest-task.ensures c.if-self.true

pub cell-overflow_add-self-in-loop-rest : goal.cell-overflow_add-self-in-loop-rest
cell-overflow_add-self-in-loop-rest t c =
    omega (arith, task_few c.loop-rest.invariant.1 c.loop-rest-test.true c.lowest-task.ensures)

pub cell-overflow_cast-self : goal.cell-overflow_cast-self
cell-overflow_cast-self t c =
    omega (arith, task_few c.loop-rest.invariant.1 c.loop-rest-test.true c.lowest-task.ensures)

pub cell-counter-counter-requires : goal.cell-counter-counter-requires
cell-counter-counter-requires t c =
    (c.requires.fits, task_in c.loop-rest.invariant.1 c.loop-rest-test.true c.lowest-task.ensures)

pub cell-loop-rest-smaller-then-starves : goal.cell-loop-rest-smaller-then-starves
cell-loop-rest-smaller-then-starves t c =
    rises c.loop-rest.invariant.1 c.loop-rest-test.true c.lowest-task.ensures c.without-rest.ensures

pub cell-loop-rest-preserved-then-starves : goal.cell-loop-rest-preserved-then-starves
cell-loop-rest-preserved-then-starves t c =
    let s = starves_tells _ _ (sym c.starves.ensures ∙ c.if-starves.true) in (
      record { grid = c.loop-rest.invariant.0.grid; table = c.loop-rest.invariant.0.table; left = c.loop-rest.invariant.0.left },
      passes c.loop-rest.invariant.1 c.loop-rest-test.true c.lowest-task.ensures c.without-rest.ensures c.if-self.false
          c.counter-counter.ensures.0 c.due-due.ensures s.1 s.2,
    )

pub cell-rate-requires : goal.cell-rate-requires
cell-rate-requires t c =
    (task_few c.loop-rest.invariant.1 c.loop-rest-test.true c.lowest-task.ensures, omega arith)

pub cell-without-requires : goal.cell-without-requires
cell-without-requires t c =
    task_few c.loop-rest.invariant.1 c.loop-rest-test.true c.lowest-task.ensures

pub cell-finish_slot-end-requires : goal.cell-finish_slot-end-requires
cell-finish_slot-end-requires t c = (
  omega (arith, c.decreases, ap (λ b. cells_left b.now c.args.slot c.args.core) c.loop-rest.invariant.0.grid),
  stands_same (sym (ap (λ b. b.now) c.loop-rest.invariant.0.grid)) (stands_without c.requires (task_few c.loop-rest.invariant.1 c.loop-rest-test.true c.lowest-task.ensures) c.without.ensures),
)

pub cell-loop-rest-smaller : goal.cell-loop-rest-smaller
cell-loop-rest-smaller t c =
    rises c.loop-rest.invariant.1 c.loop-rest-test.true c.lowest-task.ensures c.without-rest.ensures

pub cell-returns-in-Found : goal.cell-returns-in-Found
cell-returns-in-Found t c =
    record {
      same = loans_on c.finish_slot-end.ensures.same (record { grid = c.loop-rest.invariant.0.grid; table = c.loop-rest.invariant.0.table; left = c.loop-rest.invariant.0.left });
      ran = ends c.loop-rest.invariant.1 c.loop-rest-test.true c.lowest-task.ensures c.without-rest.ensures c.if-self.false
          c.counter-counter.ensures.0 c.rate.ensures c.put-had.ensures.0 c.put-had.ensures.1 c.without.ensures
          (ran_after_same (ap (λ b. b.now) c.loop-rest.invariant.0.grid) c.finish_slot-end.ensures.ran)
          (⊎_elim (λ f z. found_apart (sym f ∙ z)) (λ s z. stopped_apart (sym s ∙ z)) c.in-Found.is);
    }

pub cell-loop-rest-preserved : goal.cell-loop-rest-preserved
cell-loop-rest-preserved t c =
    let k = loans_on {a = c.args.self.now} c.finish_slot-end.ensures.same (record { grid = c.loop-rest.invariant.0.grid; table = c.loop-rest.invariant.0.table; left = c.loop-rest.invariant.0.left }) in (
      record { grid = k.grid; table = k.table; left = k.left },
      backs c.loop-rest.invariant.1 c.loop-rest-test.true c.lowest-task.ensures c.without-rest.ensures c.if-self.false
          c.counter-counter.ensures.0 c.rate.ensures c.put-had.ensures.0 c.put-had.ensures.1 c.without.ensures
          (ran_after_same (ap (λ b. b.now) c.loop-rest.invariant.0.grid) c.finish_slot-end.ensures.ran) c.in-NoneFound.is refl,
    )

pub cell-returns-then-bars_idle-clause-ran : goal.cell-returns-then-bars_idle-clause-ran
cell-returns-then-bars_idle-clause-ran t c =
    idle_barred c.loop-rest.invariant.1 c.loop-rest-test.false c.bars_idle.ensures c.if-bars_idle.true

pub cell-returns-then-self-2-clause-ran : goal.cell-returns-then-self-2-clause-ran
cell-returns-then-self-2-clause-ran t c =
    idle_stops c.loop-rest.invariant.1 c.loop-rest-test.false c.bars_idle.ensures c.if-bars_idle.false c.if-self-2.true

pub cell-returns-then-is_some-clause-ran : goal.cell-returns-then-is_some-clause-ran
cell-returns-then-is_some-clause-ran t c =
    let s = some_there _ (sym c.is_some.ensures ∙ c.if-is_some.true) in
    idle_starves c.loop-rest.invariant.1 c.loop-rest-test.false c.bars_idle.ensures c.if-bars_idle.false c.if-self-2.false c.due-due.ensures s.1

pub cell-returns-clause-ran : goal.cell-returns-clause-ran
cell-returns-clause-ran t c =
    idles c.loop-rest.invariant.1 c.loop-rest-test.false c.bars_idle.ensures c.if-bars_idle.false c.if-self-2.false
    (ran_after_same (ap (λ b. b.now) c.loop-rest.invariant.0.grid) c.finish_slot.ensures.ran)

pub finish_slot-returns-then-core-from-clause-ran : goal.finish_slot-returns-then-core-from-clause-ran
finish_slot-returns-then-core-from-clause-ran t c =
    goes_on c.requires (omega (arith, c.from.ensures, c.if-core-from.true)) c.cell.ensures.ran

pub finish_slot-returns-then-is_some-clause-ran : goal.finish_slot-returns-then-is_some-clause-ran
finish_slot-returns-then-is_some-clause-ran t c =
    let s = some_there _ (sym c.is_some.ensures ∙ c.if-is_some.true) in
    starved c.requires (omega (arith, c.from.ensures, c.if-core-from.false)) (sym c.first_due.ensures ∙ s.1)

pub finish_slot-next_slot-requires : goal.finish_slot-next_slot-requires
finish_slot-next_slot-requires t c = (
  omega (arith, slot_left c.requires (omega (arith, c.from.ensures, c.if-core-from.false)) (omega (arith, c.from-2.ensures, c.if-slot-from.true))),
  (at_slot c.requires.fits (omega (arith, c.from-2.ensures, c.if-slot-from.true)), omega (arith, c.requires.core_in)),
)

pub finish_slot-returns-then-slot-from-clause-ran : goal.finish_slot-returns-then-slot-from-clause-ran
finish_slot-returns-then-slot-from-clause-ran t c =
    next_slots c.requires (omega (arith, c.from.ensures, c.if-core-from.false))
    (sym c.first_due.ensures ∙ None-if_not_some _ (sym c.is_some.ensures ∙ c.if-is_some.false)) (omega (arith, c.from-2.ensures, c.if-slot-from.true)) c.next_slot.ensures.ran

pub finish_slot-returns-clause-ran : goal.finish_slot-returns-clause-ran
finish_slot-returns-clause-ran t c =
    founds c.requires (omega (arith, c.from.ensures, c.if-core-from.false))
    (sym c.first_due.ensures ∙ None-if_not_some _ (sym c.is_some.ensures ∙ c.if-is_some.false)) (omega (arith, c.from-2.ensures, c.if-slot-from.false))

pub next_slot-cell-requires : goal.next_slot-cell-requires
next_slot-cell-requires t c = (omega arith, stands_start _ _ _ c.requires.0 c.requires.1 c.enter-sets.ensures)
