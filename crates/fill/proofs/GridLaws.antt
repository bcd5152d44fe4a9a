-- The grid of a sound list is right for the list's instance.
-- Assumes nothing.
use Prim.Native.Nat.{ℕ, zero, suc, ◌+◌, ◌*◌, ◌/◌, ◌%◌, ◌^◌, ◌≤◌, ◌<◌}
use native.Mathlib.Omega.{arith}
use native.Mathlib.Decide.{ℕ_discrete}
use native.Mathlib.Nat.{div-le_self, zero-add}
use mathlib.Core.Path.{◌≡◌, refl, sym, ap, ap₂, subst, ◌∙◌}
use mathlib.Core.Bool.{Bool, true, false, ◌&&◌, and-true}
use mathlib.Core.List.{List, [], ◌∷◌}
use lib.Dec.{eqb, ltb}
use borrow.Author.Tests.{lt-ltb}
use lib.ListN.{length, replicate, length-replicate}
use lib.Arith.{digits_div, digits_mod}
use Rattle.laws.specs.Sum.{gate}
use Rattle.laws.specs.Tests.{all}
use Rattle.laws.specs.Lists.{nth, filled}
use Rattle.laws.proofs.SumLaws.{gate_le}
use Rattle.laws.proofs.TestLaws.{all_same, all_true}
use Rattle.laws.proofs.ListLaws.{seek_before, filled_at, tab_at}
use Rattle.tasks.specs.declared.Task.{Task}
use Rattle.tasks.specs.declared.Rates.{Rates}
use Rattle.tasks.specs.Task.{task, rate}
use Rattle.tasks.specs.Refusal.{IsSound, table_length}
use Rattle.tasks.specs.Window.{is_jobs}
use Rattle.tasks.specs.Instance.{job_slot, instance_of, own_instance}
use Rattle.tasks.proofs.SoundLaws.{SoundList, sound_list, length_whole, sound_cyclic, instance_regular}
use Rattle.tasks.proofs.WindowLaws.{job_slot_lem, highest_passes}
use Rattle.windows.specs.Answer.{Fit}
use Rattle.windows.proofs.AnswerLaws.{sound_fit}
use Rattle.rules.specs.Rules.{even_rates, twin}
use Rattle.sets.specs.Sets.{has}
use Rattle.sets.proofs.SetLaws.{pushed_first, pushed_next}
use Rattle.grid.specs.declared.Grid.{Grid}
use Rattle.grid.specs.Grid.{cores_on, OnGrid}
use Rattle.grid.specs.GridFor.{Small, entry_of, is_quick, GridFor}
use Rattle.grid.proofs.GridForLaws.{counter_le}
use Rattle.fill.specs.Grid.{entry_for, entry_at, entries_of, end_mark, rate_in, even_pair, even_row, sets_by, quick_bit, rated_bit, rated_row, cores_twin, twins_of, empty_grid, grid_of}
use Rattle.fill.proofs.FillLaws.{rows_at, entry_there}
use Rattle.fill.proofs.RateLaws.{quick_few, bit_le, rated_few}

-- ---- the list's instance
-- what a sound list has for the grid
pub sound_fits : (ts : List Task) (m L : ℕ) → IsSound m ts → L ≡ table_length ts
    → (length ts ≤ 16) × (L ≤ 1024) × ((k : ℕ) → k < length ts → Fit L (task ts (suc k)))
sound_fits ts m L s e =
    let sound = sound_list m ts s in
    (sound.few_tasks, omega (arith, sound.few_slots), λ k l. rw e (sound_fit sound (suc k) (omega arith) l))

module _ {m : ℕ} {ts : List Task} (s : SoundList m ts) where
  -- its instance fits the arrays, and each of its jobs has a slot
  pub instance_small : Small (own_instance m ts)
  unfolding instance_of is_jobs
  instance_small = record {
    regular = instance_regular s (length_whole s);
    few_slots = s.few_slots;
    few_cores = s.few_cores;
    few_tasks = s.few_tasks;
    few_jobs = λ i x l. omega (arith, div-le_self (table_length ts) (task ts i).period.0, s.few_slots);
    job_ends = λ i k x l h.
        let w = job_slot_lem (sound_cyclic s (length_whole s) i x l) (task ts i).offset.0 k h in
        highest_passes (table_length ts) (job_slot (own_instance m ts) i k) w.0 w.1 w.2;
  }

-- ---- the slots in which jobs end
-- no entry before the mark of a slot is odd
module _ (entries : List ℕ) (n L t v : ℕ) where
  abbrev marks : List ℕ
  marks = filled (replicate 1024 0) 0 L (end_mark entries n)

  ends_before : L ≤ 1024 → t < L → v < nth marks t → nth entries (t * 16 + v) % 2 ≡ 0
  unfolding end_mark
  ends_before few lt before = seek_before n (λ v. nth entries (t * 16 + v) % 2) v (subst (λ k. v < k) mark before)
    where
      mark : nth marks t ≡ end_mark entries n t
      mark = ap (nth marks) (sym (zero-add t))
          ∙ filled_at (replicate 1024 0) 0 L (end_mark entries n) t lt (omega (arith, length-replicate {A = ℕ} 1024 0))

-- ---- the sets
-- a task of the list is in the sets on the cores that the rule gives of it
sets_has : (bits : Task → ℕ) → ((τ : Task) → bits τ < 16) → (ts : List Task) (v c : ℕ) → v < length ts → c < 4
    → has (sets_by bits ts) v c ≡ has (bits (task ts (suc v))) 0 c
unfolding sets_by
sets_has bits few [] v c l lc = absurd (omega arith)
sets_has bits few (τ ∷ ts) zero c l lc = pushed_first (sets_by bits ts) (bits τ) c lc
sets_has bits few (τ ∷ ts) (suc v) c l lc = pushed_next (sets_by bits ts) (bits τ) v c (few τ) ∙ sets_has bits few ts v c (omega arith) lc

-- the bit of a test tells it
bit_tells : (b : Bool) → eqb (gate b 1) 1 ≡ b
unfolding gate
bit_tells true = refl
bit_tells false = refl

-- the bit of rule A
quick_has : (e : ℕ) (b : Bool) → has (quick_bit e b) 0 0 ≡ is_quick e && b
unfolding has quick_bit
quick_has e b = ap (λ d. eqb d 1) (at (is_quick e && b)) ∙ bit_tells (is_quick e && b)
  where
    at : (t : Bool) → gate t 1 / 2 ^ (4 * 0 + 0) % 2 ≡ gate t 1
    at t = omega (arith, gate_le t 1)

-- the bits of positive rates, core by core
rated_has : (r : Rates) (j : ℕ) → j < 4 → has (rated_row r) 0 j ≡ ltb 0 (nth r.0 j)
unfolding has rated_row rated_bit
rated_has r j l = ap (λ d. eqb d 1) (at j l) ∙ bit_tells (ltb 0 (nth r.0 j))
  where
    at : (j : ℕ) → j < 4 → rated_row r / 2 ^ (4 * 0 + j) % 2 ≡ rated_bit (nth r.0 j)
    at zero l = omega (arith, bit_le r 0, bit_le r 1, bit_le r 2, bit_le r 3)
    at (suc zero) l = omega (arith, bit_le r 0, bit_le r 1, bit_le r 2, bit_le r 3)
    at (suc (suc zero)) l = omega (arith, bit_le r 0, bit_le r 1, bit_le r 2, bit_le r 3)
    at (suc (suc (suc zero))) l = omega (arith, bit_le r 0, bit_le r 1, bit_le r 2, bit_le r 3)
    at (suc (suc (suc (suc j)))) l = absurd (omega arith)

-- ---- the tests of rates
-- m of n tests, where the others pass
all_fewer : (n m : ℕ) (f : ℕ → Bool) → m ≤ n → ((v : ℕ) → m ≤ v → v < n → f v ≡ true) → all n f ≡ all m f
all_fewer zero m f l pass = let none : 0 ≡ m = omega arith in ap (λ m. all m f) none
all_fewer (suc n) m f l pass = elim (ℕ_discrete m (suc n)) [
  | yes e ↦ ap (λ m. all m f) (sym e)
  | no x ↦ rw (pass n (omega arith) (omega arith), and-true) (all_fewer n m f (omega arith) (λ v lm ln. pass v lm (omega arith)))
]

-- a rate of 0 is even with each
zero_even : (y : ℕ) → even_pair 0 y ≡ true
unfolding even_pair
zero_even y = refl

even_zero : (x : ℕ) → even_pair x 0 ≡ true
unfolding even_pair
even_zero zero = refl
even_zero (suc x) = rw (lt-ltb 0 (suc x) (omega arith)) refl

-- four rates, 0 from m on: each is even with each if those below m are
few_even : (m : ℕ) (r : ℕ → ℕ) → m ≤ 4 → ((j : ℕ) → m ≤ j → j < 4 → r j ≡ 0)
    → all 4 (λ a. all 4 (λ b. even_pair (r a) (r b))) ≡ all m (λ a. all m (λ b. even_pair (r a) (r b)))
few_even m r l none =
    all_same 4 _ _ (λ a la. all_fewer 4 m (λ b. even_pair (r a) (r b)) l (λ b lm lb. ap (even_pair (r a)) (none b lm lb) ∙ even_zero (r a)))
    ∙ all_fewer 4 m (λ a. all m (λ b. even_pair (r a) (r b))) l (λ a lm la. all_true m _ (λ b lb. ap (λ x. even_pair x (r b)) (none a lm la) ∙ zero_even (r b)))

module _ {m : ℕ} {ts : List Task} (s : SoundList m ts) where
  -- rule A's test
  even_same : (v : ℕ) → v < length ts → even_row (task ts (suc v)).rates ≡ even_rates (own_instance m ts) (suc v)
  unfolding even_row even_pair even_rates instance_of
  even_same v l = few_even m (rate (task ts (suc v))) s.few_cores (s.in_range (suc v) (omega arith) l).rate_beyond

  -- rule B's
  twin_same : (a b : ℕ) → cores_twin ts a b ≡ twin (own_instance m ts) a b
  unfolding cores_twin twin instance_of
  twin_same a b = refl

  -- the grid is ready for the instance
  module _ (e : ℕ) where
    pub grid_for : GridFor (own_instance m ts) e (grid_of ts m e (table_length ts) empty_grid)
    unfolding grid_of empty_grid entry_for entry_of twins_of instance_of is_jobs
    grid_for = record {
      slots = refl;
      cores = refl;
      tasks = refl;
      entries = λ t v lt lv. rows_at 16 16 (entry_at ts (table_length ts)) (replicate 16384 0) (table_length ts) t v lt (omega (arith, s.few_tasks)) (omega arith)
          (omega (arith, length-replicate {A = ℕ} 16384 0, s.few_slots)) ∙ sym (entry_there ts (table_length ts) t v lv);
      ends = λ t v lt lv. ends_before (entries_of ts (table_length ts) (replicate 16384 0)) (length ts) (table_length ts) t v s.few_slots lt;
      rates = λ v j lv lj. rows_at 4 4 (rate_in ts) (replicate 64 0) (length ts) v j lv (omega (arith, s.few_cores)) (omega arith)
          (omega (arith, length-replicate {A = ℕ} 64 0, s.few_tasks));
      rated = λ v j lv lj. let few : j < 4 = omega (arith, s.few_cores) in
          sets_has (λ τ. rated_row τ.rates) (λ τ. rated_few τ.rates) ts v j lv few ∙ rated_has (task ts (suc v)).rates j few;
      evens = λ v lv. sets_has (λ τ. quick_bit e (even_row τ.rates)) (λ τ. quick_few e (even_row τ.rates)) ts v 0 lv (omega arith)
          ∙ quick_has e (even_row (task ts (suc v)).rates) ∙ ap (λ b. is_quick e && b) (even_same v lv);
      twins = λ a j la lj. let few : a < 4 = omega (arith, s.few_cores) in let less : j < 4 = omega arith in
          tab_at 16 (λ x. is_quick e && cores_twin ts (x % 4) (x / 4)) (a * 4 + j) false (omega arith)
          ∙ ap (λ b. is_quick e && b) (ap₂ (cores_twin ts) (digits_mod a less) (digits_div a less) ∙ twin_same j a);
    }

-- ---- what the walk asks of a grid that was filled
module _ (m : ℕ) (ts : List Task) (e L : ℕ) (sound : IsSound m ts) (eL : L ≡ table_length ts)
    (grid : Grid) (eg : grid ≡ grid_of ts m e L empty_grid) where
  -- it is the instance's
  pub filled_ready : GridFor (own_instance m ts) e grid
  filled_ready = subst (GridFor (own_instance m ts) e) (sym (eg ∙ ap (λ n. grid_of ts m e n empty_grid) eL)) (grid_for (sound_list m ts sound) e)

  -- and has a first cell
  pub filled_starts : OnGrid grid 0 × (0 < cores_on grid)
  unfolding instance_of
  filled_starts =
      let s = sound_list m ts sound in
      let r = filled_ready in (
        record {
          tasks = omega (arith, r.tasks, s.few_tasks);
          cores = omega (arith, r.cores, s.few_cores);
          slots = omega (arith, r.slots, s.few_slots);
          counters = λ t v lt lv. counter_le (instance_small s) r (omega (arith, r.slots)) (omega (arith, r.tasks));
          slot_in = omega (arith, r.slots, s.some_slot);
        },
        omega (arith, r.cores, s.some_core),
      )
