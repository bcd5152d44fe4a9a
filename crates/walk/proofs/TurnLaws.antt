-- The walk on its arrays, one turn of its loop at a time: what is still to be tried gives what the whole walk gives.
-- Assumes nothing.
use Prim.Native.Nat.{ℕ, zero, suc, ◌+◌, ◌-◌, ◌^◌, ◌≤◌, ◌<◌}
use native.Mathlib.Omega.{arith}
use native.Mathlib.Nat.{add-zero, add-suc, zero-add, mul-le-mul_right}
use native.Mathlib.Decide.{ℕ_discrete}
use lib.Dec.{leb, eqb}
use Rattle.laws.proofs.SumLaws.{lt_or_ge}
use mathlib.Core.Path.{◌≡◌, refl, sym, ap, subst, ◌∙◌}
use mathlib.Core.Logic.{◌≢◌, inl, inr}
use mathlib.Core.Bool.{Bool, true, false, not, ◌&&◌, true≢false, and-false}
use mathlib.Core.List.{List}
use Rattle.std.specs.Prelude.{Option, None, Some, is_some}
use borrow.Author.Tests.{lt-ltb, le-ltb, eq-eqb, ne_eqb}
use lib.ListN.{set}
use Rattle.laws.specs.Lists.{nth}
use lib.Count.{trailing_of_zero}
use Rattle.sets.specs.Sets.{has, of_core, from_rank, lowest, without, Alone}
use Rattle.sets.proofs.SetLaws.{none_has, of_core_has, of_core_alone, of_core_lt, without_has, without_alone, without_lt, lowest_in, lowest_first, from_has, from_alone, from_lt}
use Rattle.grid.proofs.ReadLaws.{sets_none, due_starves, due_still, none_starved, due_only_last}
use Rattle.grid.specs.declared.Grid.{Grid}
use Rattle.grid.specs.Grid.{counter_on, rate_on, tasks_on, cores_on, slots_on, cells_on, sets_on, bars_idle, floor_on, all_settled_on, first_due_on, due_on, OnGrid}
use Rattle.walk.specs.declared.Walker.{Walker}
use Rattle.walk.specs.declared.End.{End}
use Rattle.walk.specs.declared.End.TheVariants.{Found, NoneFound, Stopped}
use Rattle.walk.specs.Machine.{State, state, Onward, unless_ended, idle_last, placed, try_from, after_cell, walk_on, Stands, first_on, cells_left, full, SameLoans, Leaves, Ran, RanAfter}
use Rattle.walk.proofs.GiveBackLaws.{given_back, GivesBack, after_gives, walk_gives}

-- ---- where the walk stands
module _ {grid : Grid} (slot : ℕ) (fits : OnGrid grid slot) where
  -- the slot's cells are among the table's
  pub slot_cells : first_on grid slot + cores_on grid ≤ cells_on grid
  slot_cells = omega (arith, mul-le-mul_right (cores_on grid) fits.slot_in)

-- a walk that has ended stays as it is
pub ended_stays : (e : End) (r : State) (k : State → State) → (e ≡ NoneFound → ⊥) → unless_ended e r k ≡ r
ended_stays Found r k x = refl
ended_stays NoneFound r k x = absurd (x refl)
ended_stays Stopped r k x = refl

-- ---- what a state leaves
-- an equal state leaves the same
leaves_same : {s s' : State} {e : End} {t l : List ℕ} {u : ℕ} → s ≡ s' → Leaves s e t l u → Leaves s' e t l u
leaves_same {e = e} {t = t} {l = l} {u = u} q h = subst (λ s. Leaves s e t l u) q h

-- a state leaves its own parts
told : (e : End) (t l : List ℕ) (u : ℕ) → Leaves (state e t l u) e t l u
told e t l u = record { end = refl; table = refl; left = refl; tries = refl }

-- ---- one value
module _ (grid : Grid) (limit first slot core sets : ℕ) (next : Onward) (j floor : ℕ) (t l : List ℕ) (v u : ℕ) where
  -- it is not tried
  pub skip : has sets v core && leb floor (v + 1) ≡ false
      → try_from grid limit first slot core sets next (suc j) floor t l v u ≡ try_from grid limit first slot core sets next j floor t l (v + 1) u
  unfolding try_from
  skip h = rw h

  module _ (p : has sets v core && leb floor (v + 1) ≡ true) where
    -- the limit is used up
    pub stop : u ≡ limit → try_from grid limit first slot core sets next (suc j) floor t l v u ≡ state Stopped t l u
    unfolding try_from
    stop e = rw (p, eq-eqb u limit e)

    module _ (e : u ≢ limit) (r : State) (is : placed grid limit first slot core sets next t l v u ≡ r) where
      pub tried : try_from grid limit first slot core sets next (suc j) floor t l v u
          ≡ unless_ended r.end r (λ s. try_from grid limit first slot core sets next j floor s.table (set s.left (counter_on grid slot v) (nth l (counter_on grid slot v))) (v + 1) s.tries)
      unfolding try_from
      tried = rw (p, ne_eqb u limit e, is)

      -- nothing is found below it
      pub back : r.end ≡ NoneFound → try_from grid limit first slot core sets next (suc j) floor t l v u
          ≡ try_from grid limit first slot core sets next j floor r.table (set r.left (counter_on grid slot v) (nth l (counter_on grid slot v))) (v + 1) r.tries
      back n = tried ∙ ap (λ (x : End). unless_ended x r (λ s. try_from grid limit first slot core sets next j floor s.table (set s.left (counter_on grid slot v) (nth l (counter_on grid slot v))) (v + 1) s.tries)) n

      -- the walk ends below it
      stays : (r.end ≡ NoneFound → ⊥) → try_from grid limit first slot core sets next (suc j) floor t l v u ≡ r
      stays x = tried ∙ ended_stays r.end r _ x

-- values that are not tried
pub skips_to : (grid : Grid) (limit first slot core sets : ℕ) (next : Onward) (floor : ℕ) (t l : List ℕ) (u z j v : ℕ)
    → ((w : ℕ) → v ≤ w → w < v + z → has sets w core && leb floor (w + 1) ≡ false)
    → try_from grid limit first slot core sets next (j + z) floor t l v u ≡ try_from grid limit first slot core sets next j floor t l (v + z) u
skips_to grid limit first slot core sets next floor t l u zero j v h = λ i. try_from grid limit first slot core sets next (add-zero j i) floor t l (sym (add-zero v) i) u
skips_to grid limit first slot core sets next floor t l u (suc z) j v h =
    ap (λ k. try_from grid limit first slot core sets next k floor t l v u) (add-suc j z)
    ∙ skip grid limit first slot core sets next (j + z) floor t l v u (h v (omega arith) (omega arith))
    ∙ skips_to grid limit first slot core sets next floor t l u z j (v + 1) (λ w a b. h w (omega arith) (omega arith))
    ∙ ap (λ x. try_from grid limit first slot core sets next j floor t l x u) (omega arith)

-- what walks on from the cell after the core
abbrev pub onward : Grid → ℕ → ℕ → Onward
onward grid slot core = after_cell grid (walk_on (cells_left grid slot core) grid full) (first_on grid slot) slot (core + 1)

-- it gives back the work left
onward_gives : (grid : Grid) (slot core : ℕ) → GivesBack (onward grid slot core)
onward_gives grid slot core = after_gives grid (walk_on (cells_left grid slot core) grid full) (walk_gives (cells_left grid slot core) grid full) (first_on grid slot) slot (core + 1)

-- the values of the cell, from v on
abbrev pub still : Grid → ℕ → ℕ → ℕ → ℕ → ℕ → List ℕ → List ℕ → ℕ → ℕ → State
still grid slot core sets j floor t l v u = try_from grid full (first_on grid slot) slot core sets (onward grid slot core) j floor t l v u

-- the loop over the values of a cell: the tasks in `rest`, none of them before `next`, are still to be tried, and this gives what the whole walk gives
pub record Turn (grid : Grid) (slot core sets first : ℕ) (t₀ l₀ : List ℕ) (tries floor : ℕ) (t l : List ℕ) (used rest : ℕ) : Type 0 where
  pub stands : Stands grid slot core sets
  pub first_is : first ≡ first_on grid slot
  pub next : ℕ
  pub next_in : next ≤ tasks_on grid
  pub alone : Alone rest
  pub few : rest < 2 ^ 64
  pub rest_is : (v : ℕ) → next ≤ v → v < 16 → has rest v 0 ≡ has sets v core && leb floor (v + 1)
  pub none_before : (v : ℕ) → v < next → has rest v 0 ≡ false
  pub kept : l ≡ l₀
  pub same : walk_on (suc (cells_left grid slot core)) grid full (first_on grid slot) slot core sets t₀ l₀ tries
      ≡ still grid slot core sets (tasks_on grid - next) floor t l next used

-- a slot that starves a job is left with nothing found
starves_on : (grid : Grid) (slot core sets : ℕ) (t l : List ℕ) (u : ℕ) → cores_on grid ≤ core + 1 → all_settled_on grid l slot ≡ false
    → onward grid slot core sets t l u ≡ state NoneFound t l u
unfolding after_cell
starves_on grid slot core sets t l u h f = rw (le-ltb (core + 1) (cores_on grid) h, f)

module _ {grid : Grid} {slot core sets first : ℕ} {t₀ l₀ : List ℕ} {tries floor : ℕ} where
  -- before the first value
  pub begins : Stands grid slot core sets → first ≡ first_on grid slot → {set rest : ℕ} → set ≡ of_core sets core → rest ≡ from_rank set floor → floor ≡ floor_on grid t₀ first core
      → Turn grid slot core sets first t₀ l₀ tries floor t₀ l₀ tries rest
  unfolding walk_on
  begins s e {set} es er ef = record {
    stands = s;
    first_is = e;
    next = 0;
    next_in = omega arith;
    alone = rw (er, es) (from_alone (of_core sets core) floor (of_core_alone sets core));
    few = rw (er, es) (from_lt (of_core sets core) floor (of_core_lt sets core));
    rest_is = λ v _ lv. ap (λ x. has x v 0) er ∙ from_has set floor v 0 (omega arith)
        ∙ ap (λ b. b && leb floor (v + 1)) (ap (λ x. has x v 0) es ∙ of_core_has sets core v (omega (arith, s.core_in, s.fits.cores)) lv);
    none_before = λ v l. absurd (omega arith);
    kept = refl;
    same = ap (λ k. still grid slot core sets k (floor_on grid t₀ (first_on grid slot) core) t₀ l₀ 0 tries) (omega arith)
        ∙ ap (λ f. still grid slot core sets (tasks_on grid - 0) f t₀ l₀ 0 tries) (sym (ef ∙ ap (λ x. floor_on grid t₀ x core) e));
  }

  module _ {t l : List ℕ} {used rest : ℕ} (turn : Turn grid slot core sets first t₀ l₀ tries floor t l used rest) where
    -- a job is due only on the slot's last core
    module _ {due : Option ℕ} (ed : due ≡ due_on grid l₀ slot core) {d : ℕ} (x : due ≡ Some d) where
      due_now : (cores_on grid ≤ core + 1) × (first_due_on grid l slot ≡ Some d)
      due_now = due_only_last grid l slot core d (ap (λ y. due_on grid y slot core) turn.kept ∙ sym ed ∙ x)

    -- some task is still to be tried: the lowest
    module _ (some : rest ≢ 0) {task : ℕ} (et : task ≡ lowest rest) where
      there : (task < 16) × (has rest task 0 ≡ true)
      there = rw et (lowest_in rest some turn.few turn.alone)

      -- none comes before it
      first_there : (v : ℕ) → v < task → has rest v 0 ≡ false
      first_there v h = lowest_first rest v turn.alone (rw et at h)

      -- it is none of those before
      not_before : turn.next ≤ task
      not_before = elim (lt_or_ge task turn.next) [
        | inl h ↦ absurd (true≢false (sym there.1 ∙ turn.none_before task h))
        | inr h ↦ h
      ]

      -- it is tried
      goes : has sets task core && leb floor (task + 1) ≡ true
      goes = sym (turn.rest_is task not_before there.0) ∙ there.1

      -- it is one of the list's
      pub task_in : task < tasks_on grid
      task_in = elim (lt_or_ge task (tasks_on grid)) [
        | inl h ↦ h
        | inr h ↦ absurd (true≢false (sym goes ∙ ap (λ b. b && leb floor (task + 1)) (turn.stands.within task core h (omega (arith, turn.stands.core_in, turn.stands.fits.cores)))))
      ]

      pub task_few : task < 16
      task_few = there.0

      -- those between are not
      values : walk_on (suc (cells_left grid slot core)) grid full (first_on grid slot) slot core sets t₀ l₀ tries
          ≡ still grid slot core sets (suc (tasks_on grid - (task + 1))) floor t l task used
      values = turn.same
          ∙ ap (λ k. still grid slot core sets k floor t l turn.next used) count
          ∙ skips_to grid full (first_on grid slot) slot core sets (onward grid slot core) floor t l used (task - turn.next) (suc (tasks_on grid - (task + 1))) turn.next
          (λ w a b. let h : w < task = omega (arith, not_before) in sym (turn.rest_is w a (omega (arith, there.0))) ∙ first_there w h)
          ∙ ap (λ v. still grid slot core sets (suc (tasks_on grid - (task + 1))) floor t l v used) (omega (arith, not_before))
        where
          count : tasks_on grid - turn.next ≡ suc (tasks_on grid - (task + 1)) + (task - turn.next)
          count = omega (arith, not_before, task_in)

      module _ {rest' : ℕ} (er : rest' ≡ without rest task) where
        -- the tasks up to this one are gone
        gone : (v : ℕ) → v < task + 1 → has rest' v 0 ≡ false
        gone v a = ap (λ x. has x v 0) er ∙ without_has rest task v 0 there.0 (omega arith) ∙ elim (ℕ_discrete v task) [
          | yes q ↦ rw (eq-eqb v task q)
          | no x ↦ rw (ne_eqb v task x) (first_there v (omega arith))
        ]

        -- the lowest rises
        pub rises : 16 - lowest rest' < 16 - lowest rest
        unfolding lowest
        rises = elim (ℕ_discrete rest' 0) [
          | yes z ↦ omega (arith, sym et, there.0, ap lowest z, trailing_of_zero 64)
          | no x ↦ elim (lt_or_ge (lowest rest') (task + 1)) [
            | inl h ↦ absurd (true≢false (sym (lowest_in rest' x (rw er (without_lt rest task turn.few)) (rw er (without_alone rest task there.0 turn.alone))).1 ∙ gone (lowest rest') h))
            | inr h ↦ omega (arith, sym et, there.0)
          ]
        ]

        -- a turn with the task tried
        after : (t' l' : List ℕ) (used' : ℕ) → l' ≡ l₀
            → walk_on (suc (cells_left grid slot core)) grid full (first_on grid slot) slot core sets t₀ l₀ tries
            ≡ still grid slot core sets (tasks_on grid - (task + 1)) floor t' l' (task + 1) used'
            → Turn grid slot core sets first t₀ l₀ tries floor t' l' used' rest'
        after t' l' used' k e = record {
          stands = turn.stands;
          first_is = turn.first_is;
          next = task + 1;
          next_in = omega (arith, task_in);
          alone = rw er (without_alone rest task there.0 turn.alone);
          few = rw er (without_lt rest task turn.few);
          rest_is = λ v a lv. ap (λ x. has x v 0) er ∙ without_has rest task v 0 there.0 (omega arith) ∙ rw (ne_eqb v task (λ q. omega arith)) (turn.rest_is v (omega (arith, not_before)) lv);
          none_before = gone;
          kept = k;
          same = e;
        }

        module _ (q : used ≢ full) {k : ℕ} (ek : k ≡ counter_on grid slot task) where
          -- a value that leaves a job starved: no more than a try
          module _ {due : Option ℕ} (ed : due ≡ due_on grid l₀ slot core) {d : ℕ} (some-due : due ≡ Some d) (other : d ≢ k) where
            -- the work left below it
            less_left : List ℕ
            less_left = set l (counter_on grid slot task) (nth l (counter_on grid slot task) - rate_on grid task core)

            starved_there : State
            starved_there = state NoneFound (set t (first + core) (task + 1)) less_left (used + 1)

            comes_to : placed grid full (first_on grid slot) slot core sets (onward grid slot core) t l task used ≡ starved_there
            unfolding placed starved_there less_left
            comes_to =
                let n = due_now ed some-due in
                starves_on grid slot core (without sets task) (set t (first_on grid slot + core) (task + 1)) less_left (used + 1) n.0
                (due_still grid l slot d (counter_on grid slot task) _ n.1 (λ z. other (z ∙ sym ek)))
                ∙ ap (λ x. state NoneFound (set t (x + core) (task + 1)) less_left (used + 1)) (sym turn.first_is)

            pub passes : Turn grid slot core sets first t₀ l₀ tries floor (set t (first + core) (task + 1)) l (used + 1) rest'
            unfolding starved_there less_left
            passes = after (set t (first + core) (task + 1)) l (used + 1) turn.kept
                (values ∙ back grid full (first_on grid slot) slot core sets (onward grid slot core) (tasks_on grid - (task + 1)) floor t l task used goes q starved_there comes_to refl
                ∙ ap (λ x. still grid slot core sets (tasks_on grid - (task + 1)) floor (set t (first + core) (task + 1)) x (task + 1) (used + 1)) (given_back l (counter_on grid slot task) _))

          -- a value that is put into the cell: the work left is less by its rate, and the walk goes on with the slot's next core
          module _ {rate had : ℕ} (eo : rate ≡ rate_on grid task core) (eh : had ≡ nth l k)
              {l₁ : List ℕ} (el : l₁ ≡ set l k (nth l k - rate)) {sets₁ : ℕ} (es : sets₁ ≡ without sets task) {e : End} {t' l' : List ℕ} {u' : ℕ}
              (ran : RanAfter grid slot core sets₁ (set t (first + core) (task + 1)) l₁ (used + 1) e t' l' u') where
            below : State
            below = onward grid slot core sets₁ (set t (first + core) (task + 1)) l₁ (used + 1)

            went : placed grid full (first_on grid slot) slot core sets (onward grid slot core) t l task used ≡ below
            unfolding placed below
            went = sym (λ i. onward grid slot core (es i) (set t (turn.first_is i + core) (task + 1)) ((el ∙ (λ j. set l (ek j) (nth l (ek j) - eo j))) i) (used + 1))

            -- it comes back with nothing, and the counter is given back what it was
            pub backs : e ≡ NoneFound → {l'' : List ℕ} → l'' ≡ set l' k had → Turn grid slot core sets first t₀ l₀ tries floor t' l'' u' rest'
            unfolding below
            backs none {l''} eb = after t' l'' u' (again ∙ turn.kept)
                (values ∙ back grid full (first_on grid slot) slot core sets (onward grid slot core) (tasks_on grid - (task + 1)) floor t l task used goes q below went nothing
                ∙ (λ i. still grid slot core sets (tasks_on grid - (task + 1)) floor (sym ran.leaves.table i) (given i) (task + 1) (sym ran.leaves.tries i)))
              where
                nothing : below.end ≡ NoneFound
                nothing = sym ran.leaves.end ∙ none

                given : set below.left (counter_on grid slot task) (nth l (counter_on grid slot task)) ≡ l''
                given = (λ i. set (sym ran.leaves.left i) (sym ek i) (nth l (sym ek i))) ∙ ap (set l' k) (sym eh) ∙ sym eb

                again : l'' ≡ l
                again = eb ∙ ap (λ x. set l' k x) eh
                    ∙ ap (λ x. set x k (nth l k)) (ran.leaves.left ∙ onward_gives grid slot core sets₁ _ l₁ (used + 1) nothing ∙ el) ∙ given_back l k _

            -- it comes back with an end
            pub ends : (e ≡ NoneFound → ⊥) → Ran grid slot core sets t₀ l₀ tries e t' l' u'
            unfolding below
            ends some-end = record {
              leaves = leaves_same (sym (values ∙ stays grid full (first_on grid slot) slot core sets (onward grid slot core) (tasks_on grid - (task + 1)) floor t l task used goes q below went
                  (λ z. some-end (ran.leaves.end ∙ z)))) ran.leaves;
            }

      -- a value that the limit does not allow
      pub stops : used ≡ full → Ran grid slot core sets t₀ l₀ tries Stopped t l used
      stops q = record {
        leaves = leaves_same (sym (values ∙ stop grid full (first_on grid slot) slot core sets (onward grid slot core) (tasks_on grid - (task + 1)) floor t l task used goes q)) (told Stopped t l used);
      }

    -- after the last task: idle
    module _ (over : rest ≡ 0) {bars : Bool} (eb : bars ≡ bars_idle grid sets core) where
      last : walk_on (suc (cells_left grid slot core)) grid full (first_on grid slot) slot core sets t₀ l₀ tries
          ≡ idle_last grid full (first_on grid slot) slot core sets (onward grid slot core) t l used
      unfolding try_from
      last = turn.same
          ∙ ap (λ k. still grid slot core sets k floor t l turn.next used) (sym (zero-add (tasks_on grid - turn.next)))
          ∙ skips_to grid full (first_on grid slot) slot core sets (onward grid slot core) floor t l used (tasks_on grid - turn.next) 0 turn.next
          (λ w a b. sym (turn.rest_is w a (omega (arith, turn.next_in, turn.stands.fits.tasks))) ∙ ap (λ x. has x w 0) over ∙ none_has w 0)

      -- rule A bars it
      pub idle_barred : bars ≡ true → Ran grid slot core sets t₀ l₀ tries NoneFound t l used
      unfolding idle_last
      idle_barred z = record { leaves = leaves_same (sym (last ∙ rw (sym eb ∙ z))) (told NoneFound t l used) }

      -- the limit does not allow it
      pub idle_stops : bars ≡ false → used ≡ full → Ran grid slot core sets t₀ l₀ tries Stopped t l used
      unfolding idle_last
      idle_stops z q = record { leaves = leaves_same (sym (last ∙ rw (sym eb ∙ z, eq-eqb used full q))) (told Stopped t l used) }

      -- it is put into the cell
      idle_put : bars ≡ false → used ≢ full → walk_on (suc (cells_left grid slot core)) grid full (first_on grid slot) slot core sets t₀ l₀ tries
          ≡ onward grid slot core sets (set t (first + core) 0) l (used + 1)
      unfolding idle_last
      idle_put z q = last ∙ rw (sym eb ∙ z, ne_eqb used full q) (ap (λ x. onward grid slot core sets (set t (x + core) 0) l (used + 1)) (sym turn.first_is))

      -- and leaves a job starved
      pub idle_starves : bars ≡ false → used ≢ full → {due : Option ℕ} → due ≡ due_on grid l₀ slot core → {d : ℕ} → due ≡ Some d
          → Ran grid slot core sets t₀ l₀ tries NoneFound (set t (first + core) 0) l (used + 1)
      idle_starves z q ed {d} x =
          let n = due_now ed x in record {
            leaves = leaves_same (sym (idle_put z q ∙ starves_on grid slot core sets (set t (first + core) 0) l (used + 1) n.0 (due_starves grid l slot d n.1)))
                (told NoneFound (set t (first + core) 0) l (used + 1));
          }

      -- or the walk goes on
      pub idles : bars ≡ false → used ≢ full → {e : End} {t' l' : List ℕ} {u' : ℕ}
          → RanAfter grid slot core sets (set t (first + core) 0) l (used + 1) e t' l' u' → Ran grid slot core sets t₀ l₀ tries e t' l' u'
      idles z q ran = record { leaves = leaves_same (sym (idle_put z q)) ran.leaves }

-- ---- where the walk goes on
module _ {grid : Grid} {slot core sets : ℕ} (stands : Stands grid slot core sets) where
  -- after a task in the cell
  pub stands_without : {task sets' : ℕ} → task < 16 → sets' ≡ without sets task → Stands grid slot core sets'
  stands_without {task} lt es = record {
    fits = stands.fits;
    core_in = stands.core_in;
    within = λ v c n l. ap (λ s. has s v c) es ∙ without_has sets task v c lt l ∙ ap (λ b. not (eqb v task) && b) (stands.within v c n l) ∙ and-false (not (eqb v task));
  }

-- at the first cell of a slot
pub stands_start : (grid : Grid) (slot : ℕ) (l : List ℕ) {sets : ℕ} → OnGrid grid slot → 0 < cores_on grid → sets ≡ sets_on grid l slot → Stands grid slot 0 sets
stands_start grid slot l fits some es = record {
  fits = fits;
  core_in = some;
  within = λ v c n _. ap (λ s. has s v c) es ∙ sets_none grid l slot v c n;
}

-- ---- after a core
module _ {grid : Grid} {slot core sets : ℕ} (stands : Stands grid slot core sets) where
  -- the cells left after the next core
  pub core_left : core + 1 < cores_on grid → cells_left grid slot core ≡ suc (cells_left grid slot (core + 1))
  core_left h = omega (arith, slot_cells slot stands.fits)

  -- the first cell of the next slot, and the cells left after it
  slot_first : cores_on grid ≤ core + 1 → first_on grid slot + (core + 1) ≡ first_on grid (slot + 1)
  slot_first h = let whole : core + 1 ≡ cores_on grid = omega (arith, stands.core_in) in omega (arith, whole)

  pub slot_left : cores_on grid ≤ core + 1 → slot + 1 < slots_on grid → cells_left grid slot core ≡ suc (cells_left grid (slot + 1) 0)
  slot_left h s = omega (arith, slot_first h, stands.core_in, mul-le-mul_right (cores_on grid) s)

module _ {grid : Grid} {slot core sets : ℕ} {t l : List ℕ} {u : ℕ} (stands : Stands grid slot core sets) where
  -- there is one more core
  pub goes_on : core + 1 < cores_on grid → {e : End} {t' l' : List ℕ} {u' : ℕ} → Ran grid slot (core + 1) sets t l u e t' l' u' → RanAfter grid slot core sets t l u e t' l' u'
  unfolding after_cell
  goes_on h ran = record {
    leaves = leaves_same
        (ap (λ k. walk_on k grid full (first_on grid slot) slot (core + 1) sets t l u) (sym (core_left stands h))
        ∙ sym (rw (lt-ltb (core + 1) (cores_on grid) h)))
        ran.leaves;
  }

  module _ (h : cores_on grid ≤ core + 1) where
    -- a job is starved
    pub starved : {d : ℕ} → first_due_on grid l slot ≡ Some d → RanAfter grid slot core sets t l u NoneFound t l u
    starved {d} x = record { leaves = leaves_same (sym (starves_on grid slot core sets t l u h (due_starves grid l slot d x))) (told NoneFound t l u) }

    module _ (z : first_due_on grid l slot ≡ None) where
      -- the table is found
      pub founds : slots_on grid ≤ slot + 1 → RanAfter grid slot core sets t l u Found t l u
      unfolding after_cell
      founds s = record {
        leaves = leaves_same (sym (rw (le-ltb (core + 1) (cores_on grid) h, none_starved grid l slot z, le-ltb (slot + 1) (slots_on grid) s))) (told Found t l u);
      }

      -- there is one more slot
      pub next_slots : slot + 1 < slots_on grid → {e : End} {t' l' : List ℕ} {u' : ℕ}
          → Ran grid (slot + 1) 0 (sets_on grid l (slot + 1)) t l u e t' l' u' → RanAfter grid slot core sets t l u e t' l' u'
      unfolding after_cell
      next_slots s ran = record {
        leaves = leaves_same
            ((λ i. walk_on (sym (slot_left stands h s) i) grid full (sym (slot_first stands h) i) (slot + 1) 0 (sets_on grid l (slot + 1)) t l u)
            ∙ sym (rw (le-ltb (core + 1) (cores_on grid) h, none_starved grid l slot z, lt-ltb (slot + 1) (slots_on grid) s)))
            ran.leaves;
      }

-- the same with equal grids
pub stands_same : {grid grid' : Grid} {slot core sets : ℕ} → grid ≡ grid' → Stands grid slot core sets → Stands grid' slot core sets
stands_same {slot = slot} {core} {sets} q = subst (λ g. Stands g slot core sets) q

pub ran_after_same : {grid grid' : Grid} {slot core sets : ℕ} {t l : List ℕ} {u : ℕ} {e : End} {t' l' : List ℕ} {u' : ℕ} → grid ≡ grid'
    → RanAfter grid slot core sets t l u e t' l' u' → RanAfter grid' slot core sets t l u e t' l' u'
ran_after_same {slot = slot} {core} {sets} {t} {l} {u} {e} {t'} {l'} {u'} q = subst (λ g. RanAfter g slot core sets t l u e t' l' u') q

-- ---- a walker's loans
-- the same, and again the same
pub loans_on : {a b c : Walker} → SameLoans b c → SameLoans a b → SameLoans a c
loans_on q p = record { grid = q.grid ∙ p.grid; table = q.table ∙ p.table; left = q.left ∙ p.left }

-- a value that is there
pub some_there : {A : Type 0} (o : Option A) → is_some o ≡ true → (x : A) × (o ≡ Some x)
some_there None h = absurd (true≢false (sym h))
some_there (Some x) h = (x, refl)
