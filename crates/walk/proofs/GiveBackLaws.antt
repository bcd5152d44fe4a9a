-- A walk that finds nothing gives the work left back as it was.
-- Assumes nothing.
use Prim.Native.Nat.{ℕ, zero, suc, ◌+◌}
use native.Mathlib.Omega.{arith}
use mathlib.Core.Path.{◌≡◌, refl, sym, ap, ◌∙◌}
use mathlib.Core.Bool.{Bool, true, false, cond, ◌&&◌}
use mathlib.Core.List.{List}
use lib.Dec.{leb, ltb, eqb}
use lib.ListN.{set}
use lib.Seq.{set-set, set-get_or}
use Rattle.laws.specs.Lists.{nth}
use Rattle.sets.specs.Sets.{has}
use Rattle.grid.specs.declared.Grid.{Grid}
use Rattle.grid.specs.Grid.{counter_on, cores_on, slots_on, tasks_on, sets_on, bars_idle, floor_on, all_settled_on}
use Rattle.walk.specs.declared.End.{End}
use Rattle.walk.specs.declared.End.TheVariants.{Found, NoneFound, Stopped}
use Rattle.walk.specs.Machine.{State, state, unless_ended, Onward, idle_last, placed, try_from, after_cell, walk_on}

-- Stopped is not NoneFound
pub stopped_apart : ◌≡◌ {A = End} Stopped NoneFound → ⊥
stopped_apart z = let y : ◌≡◌ {A = ℕ} 0 1 = cc in omega arith

-- nor is Found
pub found_apart : ◌≡◌ {A = End} Found NoneFound → ⊥
found_apart z = let y : ◌≡◌ {A = ℕ} 0 1 = cc in omega arith

-- a counter given back what it was
pub given_back : (l : List ℕ) (k w : ℕ) → set (set l k w) k (nth l k) ≡ l
given_back l k w = set-set l k w (nth l k) ∙ set-get_or l k 0

-- the work left l is there again if nothing is found
abbrev pub GivenBack : List ℕ → State → Type 0
GivenBack l s = s.end ≡ NoneFound → s.left ≡ l

-- a walk onward that gives back what it had
abbrev pub GivesBack : Onward → Type 0
GivesBack next = (sets : ℕ) (t l : List ℕ) (u : ℕ) → GivenBack l (next sets t l u)

-- one of two walks
either_gives : (l : List ℕ) (b : Bool) (s s' : State) → GivenBack l s → GivenBack l s' → GivenBack l (cond b s s')
either_gives l true s s' k k' = k
either_gives l false s s' k k' = k'

-- a walk that is stopped
stopped_gives : (l t l' : List ℕ) (u : ℕ) → GivenBack l (state Stopped t l' u)
stopped_gives l t l' u z = absurd (stopped_apart z)

-- a walk that goes on from where another found nothing
then_gives : (l : List ℕ) (r : State) (k : State → State) → (r.end ≡ NoneFound → GivenBack l (k r)) → GivenBack l (unless_ended r.end r k)
then_gives l r k h = go r.end refl
  where
    go : (e : End) → r.end ≡ e → GivenBack l (unless_ended e r k)
    go Found q z = absurd (found_apart (sym q ∙ z))
    go NoneFound q z = h q z
    go Stopped q z = absurd (stopped_apart (sym q ∙ z))

-- the values of a cell
module _ (grid : Grid) (limit first slot core sets : ℕ) (next : Onward) (gives : GivesBack next) where
  try_gives : (j floor : ℕ) (t l : List ℕ) (v u : ℕ) → GivenBack l (try_from grid limit first slot core sets next j floor t l v u)
  unfolding try_from idle_last placed
  try_gives zero floor t l v u = either_gives l (bars_idle grid sets core) _ _ (λ _. refl) (either_gives l (eqb u limit) _ _ (stopped_gives l t l u) (gives sets (set t (first + core) 0) l (u + 1)))
  try_gives (suc j) floor t l v u = either_gives l (has sets v core && leb floor (v + 1)) _ _
      (either_gives l (eqb u limit) _ _ (stopped_gives l t l u)
      (then_gives l (placed grid limit first slot core sets next t l v u) _ (λ q z.
      try_gives j floor _ _ (v + 1) _ z ∙ ap (λ x. set x (counter_on grid slot v) (nth l (counter_on grid slot v))) (gives _ _ _ _ q) ∙ given_back l (counter_on grid slot v) _)))
      (try_gives j floor t l (v + 1) u)

-- from a cell on
pub after_gives : (grid : Grid) (walk : ℕ → ℕ → ℕ → Onward) → ((first slot core : ℕ) → GivesBack (walk first slot core)) → (first slot core : ℕ) → GivesBack (after_cell grid walk first slot core)
unfolding after_cell
after_gives grid walk gives first slot core sets t l u = either_gives l (ltb core (cores_on grid)) _ _ (gives first slot core sets t l u)
    (either_gives l (all_settled_on grid l slot) _ _
    (either_gives l (ltb (slot + 1) (slots_on grid)) _ _ (gives (first + core) (slot + 1) 0 (sets_on grid l (slot + 1)) t l u) (λ z. absurd (found_apart z)))
    (λ _. refl))

pub walk_gives : (k : ℕ) (grid : Grid) (limit first slot core : ℕ) → GivesBack (walk_on k grid limit first slot core)
unfolding walk_on
walk_gives zero grid limit first slot core sets t l u = λ _. refl
walk_gives (suc k) grid limit first slot core sets t l u =
    try_gives grid limit first slot core sets (after_cell grid (walk_on k grid limit) first slot (core + 1)) (after_gives grid (walk_on k grid limit) (walk_gives k grid limit) first slot (core + 1))
    (tasks_on grid) (floor_on grid t first core) t l 0 u
