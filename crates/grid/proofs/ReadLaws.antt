-- The tests of the walk on its arrays, as its loops find them.
-- Assumes nothing.
use Prim.Native.Nat.{ℕ, zero, suc, ◌+◌, ◌*◌, ◌-◌, ◌%◌, ◌^◌, ◌≤◌, ◌<◌, max}
use native.Mathlib.Omega.{arith}
use native.Mathlib.Numerals.{add-one}
use native.Mathlib.Decide.{ℕ_discrete}
use native.Mathlib.Nat.{add-zero, zero-add, lt_of_lt_of_le, pow-le-pow_right}
use mathlib.Core.Path.{◌≡◌, refl, sym, ap, ap₂, ◌∙◌}
use mathlib.Core.Logic.{◌≢◌, ⊎_elim}
use mathlib.Core.Bool.{Bool, true, false, not, cond, ◌&&◌, true≢false}
use mathlib.Core.List.{List}
use Rattle.std.specs.Prelude.{Option, None, Some}
use Rattle.std.specs.Int.{from_bool}
use Rattle.std.proofs.lemmas.Option.{none-some, same_Some}
use lib.Dec.{leb, ltb, eqb}
use lib.ListN.{set}
use lib.Seq.{get_or-set_other}
use borrow.Author.Tests.{leb-true, le-leb, lt-ltb, le-ltb, eq-eqb, ne_eqb}
use Rattle.laws.specs.Lists.{nth}
use Rattle.laws.specs.Sum.{gate}
use Rattle.laws.specs.Order.{rank_of}
use Rattle.laws.specs.Tests.{imp}
use Rattle.laws.proofs.SumLaws.{gate_lt, gate_le, lt_or_ge}
use Rattle.laws.proofs.TestLaws.{all_false, all_true}
use Rattle.sets.specs.Sets.{has, pushed, common, on_cores}
use Rattle.sets.proofs.SetLaws.{none_has, common_has, pushed_first, pushed_next, pushed_lt, on_cores_none, on_cores_pushed, on_cores_first}
use Rattle.grid.specs.declared.Grid.{Grid}
use Rattle.grid.specs.Grid.{most, entry_on, ends_on, twin_on, tasks_on, cores_on, slots_on, counter_on, rated_on, left_from, sets_on, twin_rank_on, settled_on, all_settled_on, due_from, first_due_on, due_on, starves, OnGrid}

-- ---- another slot of the grid
pub at_slot : {grid : Grid} {slot t : ℕ} → OnGrid grid slot → t < slots_on grid → OnGrid grid t
at_slot on l = record { tasks = on.tasks; cores = on.cores; slots = on.slots; counters = on.counters; slot_in = l }

-- ---- the highest rank
-- one core more
pub most_next : (n : ℕ) (g : ℕ → ℕ) (m x y : ℕ) → m ≡ most n g → x ≡ g n → y ≡ max m x → y ≡ most (n + 1) g
unfolding most
most_next n g m x y em ex ey = rw add-one (ey ∙ ap₂ max em ex)

-- none yet
pub most_none : (g : ℕ → ℕ) → 0 ≡ most 0 g
unfolding most
most_none g = refl

-- ---- a slot whose jobs are settled
module _ (grid : Grid) (l : List ℕ) (slot : ℕ) where
  all_settled_not : (v : ℕ) → v < tasks_on grid → ends_on grid slot ≤ v → settled_on grid l slot v ≡ false → all_settled_on grid l slot ≡ false
  unfolding all_settled_on
  all_settled_not v h ends e = all_false (tasks_on grid) _ v h (rw (le-leb (ends_on grid slot) v ends) e)

  all_settled_yes : ((v : ℕ) → v < tasks_on grid → ends_on grid slot ≤ v → settled_on grid l slot v ≡ true) → all_settled_on grid l slot ≡ true
  unfolding all_settled_on
  all_settled_yes passed = all_true (tasks_on grid) _ (λ v i. from (leb (ends_on grid slot) v) refl (passed v i))
    where
      from : {v : ℕ} (b : Bool) → leb (ends_on grid slot) v ≡ b → (ends_on grid slot ≤ v → settled_on grid l slot v ≡ true) → imp b (settled_on grid l slot v) ≡ true
      from true e h = h (leb-true _ _ e)
      from false e h = refl

-- ---- one job at the slot's end
module _ (grid : Grid) (l : List ℕ) (slot v : ℕ) where
  -- it does not end here
  pub settled_later : entry_on grid slot v % 2 ≡ 0 → true ≡ settled_on grid l slot v
  unfolding settled_on
  settled_later e = rw (eq-eqb (entry_on grid slot v % 2) 0 e)

  -- it does
  pub settled_end : (k : ℕ) → entry_on grid slot v % 2 ≢ 0 → k ≡ counter_on grid slot v → eqb (nth l k) 0 ≡ settled_on grid l slot v
  unfolding settled_on
  settled_end k x e = rw (ne_eqb (entry_on grid slot v % 2) 0 x, e)

-- ---- the rank on an earlier core
module _ (grid : Grid) (t : List ℕ) (first core j : ℕ) where
  -- that is no twin
  pub twin_none : twin_on grid core j ≡ false → 0 ≡ twin_rank_on grid t first core j
  unfolding twin_rank_on gate
  twin_none e = rw e

  -- that is an idle twin
  pub twin_idle : (n : ℕ) → twin_on grid core j ≡ true → nth t (first + j) ≡ 0 → n ≡ tasks_on grid → n + 1 ≡ twin_rank_on grid t first core j
  unfolding twin_rank_on gate
  twin_idle n x z e = rw (x, z, add-one) (ap suc e)

  -- that is a twin with a task
  pub twin_task : (r : ℕ) → twin_on grid core j ≡ true → nth t (first + j) ≢ 0 → r ≡ nth t (first + j) → r ≡ twin_rank_on grid t first core j
  unfolding twin_rank_on gate
  twin_task r x z e = rw x (e ∙ rank_same (nth t (first + j)) z)
    where
      rank_same : (y : ℕ) → y ≢ 0 → y ≡ rank_of (tasks_on grid) y
      rank_same zero h = absurd (h refl)
      rank_same (suc y) h = refl

-- ---- work left
-- 1 if there is some
some_is : (w : ℕ) → from_bool (not (eqb w 0)) ≡ gate (ltb 0 w) 1
unfolding gate
some_is zero = refl
some_is (suc w) = rw (ne_eqb (suc w) 0 (λ z. omega arith)) (sym (gate_lt 0 (suc w) 1 (omega arith)))

-- ---- the sets of a slot
module _ (grid : Grid) (l : List ℕ) (slot : ℕ) where
  -- no task yet
  pub left_none_yet : (n : ℕ) → n ≡ tasks_on grid → 0 ≡ left_from grid l slot (tasks_on grid - n) n
  unfolding left_from
  left_none_yet n e = let z : tasks_on grid - n ≡ 0 = omega arith in ap (λ j. left_from grid l slot j n) (sym z)

  -- a task more
  pub left_more : (n v s b k : ℕ) → v < tasks_on grid → s ≡ left_from grid l slot (tasks_on grid - n) n → n ≡ suc v → k ≡ counter_on grid slot v → b ≡ from_bool (not (eqb (nth l k) 0))
      → pushed s b ≡ left_from grid l slot (tasks_on grid - v) v
  unfolding left_from
  left_more n v s b k lv es en ek eb =
      let more : tasks_on grid - v ≡ suc (tasks_on grid - n) = omega arith in
      ap₂ pushed (es ∙ ap (left_from grid l slot (tasks_on grid - n)) en) (eb ∙ some_is (nth l k) ∙ ap (λ x. gate (ltb 0 (nth l x)) 1) ek) ∙ ap (λ j. left_from grid l slot j v) (sym more)

  -- all tasks
  left_all : (n s : ℕ) → n ≡ 0 → s ≡ left_from grid l slot (tasks_on grid - n) n → s ≡ left_from grid l slot (tasks_on grid) 0
  left_all n s z e = let all : tasks_on grid - n ≡ tasks_on grid = omega arith in e ∙ (λ i. left_from grid l slot (all i) (z i))

  -- and the cores on which their rate is positive
  pub sets_are : (n s c w : ℕ) → n ≡ 0 → s ≡ left_from grid l slot (tasks_on grid - n) n → c ≡ on_cores s → w ≡ rated_on grid → common c w ≡ sets_on grid l slot
  unfolding sets_on
  sets_are n s c w z e ec ew = ap₂ common (ec ∙ ap on_cores (left_all n s z e)) ew

  -- a task has 4 bits
  bits_lt : (v : ℕ) → gate (ltb 0 (nth l (counter_on grid slot v))) 15 < 16
  bits_lt v = omega (arith, gate_le (ltb 0 (nth l (counter_on grid slot v))) 15)

  -- on all cores j tasks have 4 * j bits
  left_lt : (j v : ℕ) → on_cores (left_from grid l slot j v) < 16 ^ j
  unfolding left_from
  left_lt zero v = rw on_cores_none (omega arith)
  left_lt (suc j) v = rw (on_cores_pushed (left_from grid l slot j (suc v)) (ltb 0 (nth l (counter_on grid slot v))))
      (pushed_lt (on_cores (left_from grid l slot j (suc v))) _ j (left_lt j (suc v)) (bits_lt v))

  module _ (n s : ℕ) (few : tasks_on grid ≤ 16) (es : s ≡ left_from grid l slot (tasks_on grid - n) n) where
    -- there is room for them on all cores
    pub left_fits : 15 * s < 2 ^ 64
    unfolding on_cores
    left_fits = let up : 16 ^ (tasks_on grid - n) ≤ 16 ^ 16 = pow-le-pow_right (omega arith) {j = 16} (omega arith) in
        rw es (lt_of_lt_of_le (left_lt (tasks_on grid - n) n) up)

    -- and for one more
    pub left_room : 0 < n → s < 2 ^ 60
    unfolding on_cores
    left_room pos = let up : 16 ^ (tasks_on grid - n) ≤ 16 ^ 15 = pow-le-pow_right (omega arith) {j = 15} (omega arith) in
        let below : 15 * s < 2 ^ 60 = rw es (lt_of_lt_of_le (left_lt (tasks_on grid - n) n) up) in omega arith

  -- a task is on all cores if it has work left
  left_has : (j v w c : ℕ) → w < j → c < 4 → has (on_cores (left_from grid l slot j v)) w c ≡ ltb 0 (nth l (counter_on grid slot (v + w)))
  unfolding left_from
  left_has zero v w c lw lc = absurd (omega arith)
  left_has (suc j) v zero c lw lc = ap (λ s. has s 0 c) (on_cores_pushed (left_from grid l slot j (suc v)) (ltb 0 (nth l (counter_on grid slot v))))
      ∙ pushed_first _ _ c lc ∙ on_cores_first (ltb 0 (nth l (counter_on grid slot v))) c lc ∙ ap (λ x. ltb 0 (nth l (counter_on grid slot x))) (sym (add-zero v))
  left_has (suc j) v (suc w) c lw lc = ap (λ s. has s (suc w) c) (on_cores_pushed (left_from grid l slot j (suc v)) (ltb 0 (nth l (counter_on grid slot v))))
      ∙ pushed_next _ _ w c (bits_lt v) ∙ left_has j (suc v) w c (omega arith) lc ∙ ap (λ x. ltb 0 (nth l (counter_on grid slot x))) (omega arith)

  -- and no other task is
  left_none : (j v w c : ℕ) → j ≤ w → has (on_cores (left_from grid l slot j v)) w c ≡ false
  unfolding left_from
  left_none zero v w c h = ap (λ s. has s w c) on_cores_none ∙ none_has w c
  left_none (suc j) v zero c h = absurd (omega arith)
  left_none (suc j) v (suc w) c h = ap (λ s. has s (suc w) c) (on_cores_pushed (left_from grid l slot j (suc v)) (ltb 0 (nth l (counter_on grid slot v))))
      ∙ pushed_next _ _ w c (bits_lt v) ∙ left_none j (suc v) w c (omega arith)

  -- a task is in the set of a core if it has work left and its rate there is positive
  pub sets_has : (v c : ℕ) → v < tasks_on grid → c < 4 → has (sets_on grid l slot) v c ≡ ltb 0 (nth l (counter_on grid slot v)) && has (rated_on grid) v c
  unfolding sets_on
  sets_has v c lv lc = common_has _ (rated_on grid) v c ∙ ap (λ b. b && has (rated_on grid) v c) (left_has (tasks_on grid) 0 v c lv lc ∙ ap (λ x. ltb 0 (nth l (counter_on grid slot x))) (zero-add v))

  -- and no other task is
  pub sets_none : (v c : ℕ) → tasks_on grid ≤ v → has (sets_on grid l slot) v c ≡ false
  unfolding sets_on
  sets_none v c h = common_has _ (rated_on grid) v c ∙ ap (λ b. b && has (rated_on grid) v c) (left_none (tasks_on grid) 0 v c h)

-- ---- a job that is due
module _ (grid : Grid) (l : List ℕ) (slot n v : ℕ) where
  -- the job of task v is settled: none of it is due
  pub due_later : v < n → {b : Bool} → b ≡ settled_on grid l slot v → b ≡ true → due_from grid l slot (n - v) v ≡ due_from grid l slot (n - (v + 1)) (v + 1)
  unfolding due_from
  due_later h e f =
      let more : n - v ≡ suc (n - (v + 1)) = omega arith in
      ap (λ j. due_from grid l slot j v) more ∙ rw (sym e ∙ f) (ap (due_from grid l slot (n - (v + 1))) (sym (add-one v)))

  -- it is not: it is due
  pub due_here : v < n → {b : Bool} → b ≡ settled_on grid l slot v → b ≡ false → due_from grid l slot (n - v) v ≡ Some (counter_on grid slot v)
  unfolding due_from
  due_here h e f =
      let more : n - v ≡ suc (n - (v + 1)) = omega arith in
      ap (λ j. due_from grid l slot j v) more ∙ rw (sym e ∙ f)

  -- there are no more tasks
  pub due_over : n ≤ v → due_from grid l slot (n - v) v ≡ None
  unfolding due_from
  due_over h = let z : n - v ≡ 0 = omega arith in ap (λ j. due_from grid l slot j v) z

-- whose it is
record DueJob (grid : Grid) (l : List ℕ) (slot due : ℕ) : Type 0 where
  task : ℕ
  task_in : task < tasks_on grid
  from_mark : ends_on grid slot ≤ task
  counter_is : counter_on grid slot task ≡ due
  unsettled : settled_on grid l slot task ≡ false

module _ (grid : Grid) (l : List ℕ) (slot : ℕ) where
  due_from_lem : (j v d : ℕ) → j ≤ tasks_on grid - v → ends_on grid slot ≤ v → due_from grid l slot j v ≡ Some d → DueJob grid l slot d
  unfolding due_from
  due_from_lem zero v d lj lv x = absurd (none-some d x)
  due_from_lem (suc j) v d lj lv x = go (settled_on grid l slot v) refl x (due_from_lem j (suc v) d (omega arith) (omega arith))
    where
      go : (b : Bool) → settled_on grid l slot v ≡ b → cond b (due_from grid l slot j (suc v)) (Some (counter_on grid slot v)) ≡ Some d
          → (due_from grid l slot j (suc v) ≡ Some d → DueJob grid l slot d)
          → DueJob grid l slot d
      go true e y later = later y
      go false e y later = record { task = v; task_in = omega arith; from_mark = lv; counter_is = same_Some _ _ y; unsettled = e }

  first_due : (d : ℕ) → first_due_on grid l slot ≡ Some d → DueJob grid l slot d
  unfolding first_due_on
  first_due d x = due_from_lem (tasks_on grid - ends_on grid slot) (ends_on grid slot) d (omega arith) (omega arith) x

  -- none is due: each is settled
  due_none : (j v w : ℕ) → due_from grid l slot j v ≡ None → v ≤ w → w < v + j → settled_on grid l slot w ≡ true
  unfolding due_from
  due_none zero v w e lo hi = absurd (omega arith)
  due_none (suc j) v w e lo hi = go (settled_on grid l slot v) refl e (λ z after. due_none j (suc v) w z after (omega arith))
    where
      go : (b : Bool) → settled_on grid l slot v ≡ b → cond b (due_from grid l slot j (suc v)) (Some (counter_on grid slot v)) ≡ None
          → (due_from grid l slot j (suc v) ≡ None → suc v ≤ w → settled_on grid l slot w ≡ true) → settled_on grid l slot w ≡ true
      go true s z later = elim (ℕ_discrete v w) [ yes q ↦ ap (settled_on grid l slot) (sym q) ∙ s | no y ↦ later z (omega arith) ]
      go false s z later = absurd (none-some _ (sym z))

  -- a job that is due starves the slot
  pub due_starves : (d : ℕ) → first_due_on grid l slot ≡ Some d → all_settled_on grid l slot ≡ false
  due_starves d x = let j = first_due d x in all_settled_not grid l slot j.task j.task_in j.from_mark j.unsettled

  -- and so it does after another got work
  pub due_still : (d k w : ℕ) → first_due_on grid l slot ≡ Some d → d ≢ k → all_settled_on grid (set l k w) slot ≡ false
  unfolding settled_on
  due_still d k w x y = let j = first_due d x in
      all_settled_not grid (set l k w) slot j.task j.task_in j.from_mark
      (ap (λ n. imp (not (eqb (entry_on grid slot j.task % 2) 0)) (eqb n 0)) (get_or-set_other l k (counter_on grid slot j.task) w 0 (λ q. y (sym j.counter_is ∙ q))) ∙ j.unsettled)

  -- else no job is starved
  pub none_starved : first_due_on grid l slot ≡ None → all_settled_on grid l slot ≡ true
  unfolding first_due_on
  none_starved e = all_settled_yes grid l slot (λ v lv from. due_none (tasks_on grid - ends_on grid slot) (ends_on grid slot) v e from (omega arith))

-- on the slot's last core
module _ (grid : Grid) (l : List ℕ) (slot core : ℕ) where
  -- it is not the last
  pub due_yet : core + 1 < cores_on grid → None ≡ due_on grid l slot core
  unfolding due_on
  due_yet h = rw (lt-ltb (core + 1) (cores_on grid) h)

  -- it is
  pub due_last : cores_on grid ≤ core + 1 → first_due_on grid l slot ≡ due_on grid l slot core
  unfolding due_on
  due_last h = rw (le-ltb (core + 1) (cores_on grid) h)

  -- a job is due only there
  pub due_only_last : (d : ℕ) → due_on grid l slot core ≡ Some d → (cores_on grid ≤ core + 1) × (first_due_on grid l slot ≡ Some d)
  due_only_last d x = ⊎_elim (λ h. absurd (none-some d (due_yet h ∙ x))) (λ h. (h, due_last h ∙ x)) (lt_or_ge (core + 1) (cores_on grid))

-- ---- a job that is due, and another's counter
-- it is due, and not this one
pub starves_tells : (due : Option ℕ) (k : ℕ) → starves due k ≡ true → (d : ℕ) × (due ≡ Some d) × (d ≢ k)
unfolding starves
starves_tells None k t = absurd (true≢false (sym t))
starves_tells (Some d) k t = (d, refl, λ q. true≢false (sym t ∙ rw (eq-eqb d k q)))
