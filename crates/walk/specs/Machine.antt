-- The walk on its arrays: a grid, a table and the work left.
-- Assumes nothing.
use Rattle.std.specs.Prelude.{ℕ, zero, suc, ◌+◌, ◌*◌, ◌-◌, ◌≤◌, ◌<◌, ◌≡◌, false, cond, ◌&&◌, List, leb, ltb, eqb, set}
use Rattle.laws.specs.Lists.{nth}
use Rattle.sets.specs.Sets.{has, without}
use Rattle.grid.specs.declared.Grid.{Grid}
use Rattle.grid.specs.Grid.{rate_on, tasks_on, cores_on, slots_on, cells_on, counter_on, sets_on, bars_idle, floor_on, all_settled_on, OnGrid}
use Rattle.walk.specs.declared.Walker.{Walker}
use Rattle.walk.specs.declared.End.{End}
use Rattle.walk.specs.declared.End.TheVariants.{Found, NoneFound, Stopped}

-- an end, the tries, the table and the work left
pub record State : Type 0 where
  pub end : End
  pub tries : ℕ
  pub table : List ℕ
  pub left : List ℕ

-- a state from its parts
abbrev pub state : End → List ℕ → List ℕ → ℕ → State
state e t l u = record { end = e; tries = u; table = t; left = l }

-- go on where there is nothing, else stay
abbrev pub unless_ended : End → State → (State → State) → State
unless_ended Found r k = r
unless_ended NoneFound r k = k r
unless_ended Stopped r k = r

-- a walk onward from the sets of the slot, a table and the work left, with some tries used
abbrev pub Onward : Type 0
Onward = ℕ → List ℕ → List ℕ → ℕ → State

-- one more try, if the limit allows it
abbrev pub one_more : ℕ → List ℕ → List ℕ → ℕ → State → State
one_more limit t l u r = cond (eqb u limit) (state Stopped t l u) r

-- the cell of core `core` in the slot: the values v + 1, v + 2, .., j of them, and then idle
module _ (grid : Grid) (limit first slot core sets : ℕ) (next : Onward) where
  -- idle, if rule A does not bar it
  unfoldable pub idle_last : List ℕ → List ℕ → ℕ → State
  idle_last t l u = cond (bars_idle grid sets core) (state NoneFound t l u) (one_more limit t l u (next sets (set t (first + core) 0) l (u + 1)))

  -- task v put into the cell, and on from there
  unfoldable pub placed : List ℕ → List ℕ → ℕ → ℕ → State
  placed t l v u =
      next (without sets v) (set t (first + core) (v + 1)) (set l (counter_on grid slot v) (nth l (counter_on grid slot v) - rate_on grid v core)) (u + 1)

  -- the values in order, and idle last
  unfoldable pub try_from : ℕ → ℕ → List ℕ → List ℕ → ℕ → ℕ → State
  try_from zero floor t l v u = idle_last t l u
  try_from (suc j) floor t l v u =
      cond (has sets v core && leb floor (v + 1))
      (one_more limit t l u
      (let r = placed t l v u in
      unless_ended r.end r (λ s. try_from j floor s.table (set s.left (counter_on grid slot v) (nth l (counter_on grid slot v))) (v + 1) s.tries)))
      (try_from j floor t l (v + 1) u)

-- from core to core, and from the last core to the next slot, or to the table's end; `walk` goes on from a cell
unfoldable pub after_cell : Grid → (ℕ → ℕ → ℕ → Onward) → ℕ → ℕ → ℕ → Onward
after_cell grid walk first slot core sets t l u =
    cond (ltb core (cores_on grid)) (walk first slot core sets t l u)
    (cond (all_settled_on grid l slot)
    (cond (ltb (slot + 1) (slots_on grid)) (walk (first + core) (slot + 1) 0 (sets_on grid l (slot + 1)) t l u) (state Found t l u))
    (state NoneFound t l u))

-- the walk over the k cells left, from the cell of a core
unfoldable pub walk_on : ℕ → Grid → ℕ → ℕ → ℕ → ℕ → Onward
walk_on zero grid limit first slot core sets t l u = state NoneFound t l u
walk_on (suc k) grid limit first slot core sets t l u =
    try_from grid limit first slot core sets (after_cell grid (walk_on k grid limit) first slot (core + 1)) (tasks_on grid) (floor_on grid t first core) t l 0 u

-- where the walk stands: at the cell of a core in a slot, with the sets of the tasks that may still stand in the slot
pub record Stands (grid : Grid) (slot core sets : ℕ) : Type 0 where
  pub fits : OnGrid grid slot
  pub core_in : core < cores_on grid
  pub within : (v c : ℕ) → tasks_on grid ≤ v → c < 4 → has sets v c ≡ false

-- a walker's grid is the same, and it still has the same loans of a table and of the work left
pub record SameLoans (old new : Walker) : Type 0 where
  pub grid : new.grid ≡ old.grid
  pub table : new.table.ghost_name ≡ old.table.ghost_name
  pub left : new.left.ghost_name ≡ old.left.ghost_name

-- the first cell of a slot
abbrev pub first_on : Grid → ℕ → ℕ
first_on grid slot = slot * cores_on grid

-- the cells left after the cell of a core in a slot
abbrev pub cells_left : Grid → ℕ → ℕ → ℕ
cells_left grid slot core = cells_on grid - (first_on grid slot + (core + 1))

-- the tries are counted up to here
abbrev pub full : ℕ
full = 4294967295

-- an end, a table, the work left and the tries are those of a state
pub record Leaves (s : State) (e : End) (t l : List ℕ) (u : ℕ) : Type 0 where
  pub end : e ≡ s.end
  pub table : t ≡ s.table
  pub left : l ≡ s.left
  pub tries : u ≡ s.tries

-- what a walk from a cell answers and leaves
pub record Ran (grid : Grid) (slot core sets : ℕ) (t l : List ℕ) (u : ℕ) (e : End) (t' l' : List ℕ) (u' : ℕ) : Type 0 where
  pub leaves : Leaves (walk_on (suc (cells_left grid slot core)) grid full (first_on grid slot) slot core sets t l u) e t' l' u'

-- the same after a cell, with the slot to finish
pub record RanAfter (grid : Grid) (slot core sets : ℕ) (t l : List ℕ) (u : ℕ) (e : End) (t' l' : List ℕ) (u' : ℕ) : Type 0 where
  pub leaves : Leaves (after_cell grid (walk_on (cells_left grid slot core) grid full) (first_on grid slot) slot (core + 1) sets t l u) e t' l' u'
