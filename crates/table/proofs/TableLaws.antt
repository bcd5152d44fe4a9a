-- Tables by their cells: the cells beside a cell, what the cells do for the jobs, and that validity looks at the table's cells only.
-- Assumes nothing.
use Prim.Native.Nat.{ℕ, suc, ◌*◌, ◌≤◌, ◌<◌}
use native.Mathlib.Nat.{div-add-mod', div-lt_iff_lt-mul, le-div_iff_mul-le, div-mul-le_self, mul-le-mul_right, mod-lt}
use native.Mathlib.Decide.{ℕ_discrete}
use native.Mathlib.Omega.{arith}
use mathlib.Core.Path.{◌≡◌, refl, ap, sym, ◌∙◌}
use mathlib.Core.Logic.{◌≢◌}
use lib.Dec.{T, eqb, eqb→eq, not_T, T_not}
use lib.Arith.{digits_div, digits_mod}
use borrow.Author.Tests.{eq-eqb}
use Rattle.laws.specs.Sum.{gate, sum}
use Rattle.laws.proofs.SumLaws.{gate_eq, gate_ne, gate_zero, sum_ext, sum_zero, sum_stays, sum_mono, sum_only, sum_swap, sum_le, sum_const}
use Rattle.laws.proofs.TestLaws.{all_at, at_all, all_same}
use Rattle.tasks.specs.Instance.{Instance, job_end, Regular}
use Rattle.table.specs.Table.{cells, slot_of, core_of, beside, share, done, free, Valid}
use Rattle.table.proofs.JobLaws.{slot_job, end_there, end_last}
use Rattle.table.proofs.ShareLaws.{share_own, share_other, share_none}

module _ (P : Instance) (some_core : 0 < P.cores) where
  -- the slot of a cell is one of the table's
  pub slot_there : (c : ℕ) → c < cells P → slot_of P c < P.slots
  slot_there c l = (div-lt_iff_lt-mul some_core).1 l

  -- cell `beside P c j` is in the slot of cell c
  pub beside_slot : (c j : ℕ) → j < core_of P c → slot_of P (beside P c j) ≡ slot_of P c
  beside_slot c j l = digits_div (slot_of P c) (omega (arith, mod-lt c some_core))

  -- on core j
  pub beside_core : (c j : ℕ) → j < core_of P c → core_of P (beside P c j) ≡ j
  beside_core c j l = digits_mod (slot_of P c) (omega (arith, mod-lt c some_core))

-- the slots of cells come in the order of the cells
pub slot_le : (P : Instance) → 0 < P.cores → (a b : ℕ) → a ≤ b → slot_of P a ≤ slot_of P b
slot_le P some_core a b l = (le-div_iff_mul-le {x = slot_of P a} {y = b} some_core).1 (omega (arith, div-mul-le_self a P.cores))

-- for an earlier core it comes before cell c
pub beside_before : (P : Instance) (c j : ℕ) → j < core_of P c → beside P c j < c
beside_before P c j l = omega (arith, div-add-mod' c P.cores)

-- an earlier cell of the slot of cell c is on an earlier core
pub core_before : (P : Instance) (c d : ℕ) → d < c → slot_of P d ≡ slot_of P c → core_of P d < core_of P c
core_before P c d l s = omega (arith, div-add-mod' c P.cores, div-add-mod' d P.cores, ap (λ t. t * P.cores) s)

-- and is the cell beside c on its core
pub beside_is : (P : Instance) (c d : ℕ) → slot_of P d ≡ slot_of P c → d ≡ beside P c (core_of P d)
beside_is P c d s = omega (arith, div-add-mod' d P.cores, ap (λ t. t * P.cores) s)

module _ (P : Instance) (c : ℕ) (f : ℕ → ℕ) (v : ℕ) where
  -- a value that stands in no earlier cell of the slot of cell c is free there
  pub make_free : 0 < P.cores → ((d : ℕ) → d < c → slot_of P d ≡ slot_of P c → f d ≢ v) → T (free P c f v)
  unfolding free
  make_free some_core h = at_all (core_of P c) _ (λ j l. not_T (eqb (f (beside P c j)) v)
      (λ e. h (beside P c j) (beside_before P c j l) (beside_slot P some_core c j l) (eqb→eq (f (beside P c j)) v e)))

  -- and the other way
  pub free_apart : T (free P c f v) → (d : ℕ) → d < c → slot_of P d ≡ slot_of P c → f d ≢ v
  unfolding free
  free_apart t d l s e = T_not (eqb (f (beside P c (core_of P d))) v) (all_at (core_of P c) _ t (core_of P d) (core_before P c d l s))
      (rw (eq-eqb (f (beside P c (core_of P d))) v (ap f (sym (beside_is P c d s)) ∙ e)) tt)

-- more cells do no less
pub done_more : (P : Instance) (c d : ℕ) (f : ℕ → ℕ) (i k : ℕ) → c ≤ d → done P c f i k ≤ done P d f i k
unfolding done
done_more P c d f i k = sum_mono c d (λ e. share P i k e (f e))

-- what is done and which values are free depend on the earlier cells only
module _ (P : Instance) (c : ℕ) (f g : ℕ → ℕ) (same : (d : ℕ) → d < c → f d ≡ g d) where
  -- the work done
  pub done_same : (i k : ℕ) → done P c f i k ≡ done P c g i k
  unfolding done
  done_same i k = sum_ext c _ _ (λ d l. ap (share P i k d) (same d l))

  -- the values that do not stand in the slot yet
  pub free_same : (v : ℕ) → free P c f v ≡ free P c g v
  unfolding free
  free_same v = all_same (core_of P c) _ _ (λ j l. rw (same (beside P c j) (beside_before P c j l)))

-- behind a job's highest-numbered slot no cell does anything for it
pub done_end : (P : Instance) → Regular P → (f : ℕ → ℕ) (i k : ℕ) → done P (cells P) f i k ≡ done P (suc (job_end P i k) * P.cores) f i k
unfolding done
done_end P regular f i k = sum_stays (suc (job_end P i k) * P.cores) (cells P) _ (mul-le-mul_right P.cores (end_there P i regular k))
    (λ c l n. share_none P i k c (f c) (λ _ t. omega (
      arith,
      end_last P i k (slot_of P c) (slot_there P regular.some_core c n) t,
      (le-div_iff_mul-le {x = suc (job_end P i k)} {y = c} regular.some_core).1 l,
    )))

-- validity looks at the table's cells only
pub valid_same : (P : Instance) (f g : ℕ → ℕ) → ((c : ℕ) → c < cells P → f c ≡ g c) → Valid P f → Valid P g
valid_same P f g same v = record {
  known = λ c l. rw (same c l) at (v.known c l);
  open_there = λ c l. rw (same c l) at (v.open_there c l);
  rated = λ c l. rw (same c l) at (v.rated c l);
  once = λ c d l m. rw (same c l, same d m) at (v.once c d l m);
  full = λ i k x l j. rw (done_same P (cells P) f g same i k) at (v.full i k x l j);
  needed = λ c l. rw (same c l, done_same P c f g (λ d m. same d (omega arith))) at (v.needed c l);
}

module _ (P : Instance) (regular : Regular P) (f : ℕ → ℕ) (v : Valid P f) (i : ℕ) (x : i ≢ 0) (l : i ≤ P.tasks) where
  -- a cell does for all jobs of a task together its rate, if the task stands there
  cell_total : (c : ℕ) → c < cells P → sum (P.jobs i) (λ k. share P i k c (f c)) ≡ gate (eqb (f c) i) (P.rate i (core_of P c))
  cell_total c n = elim (ℕ_discrete (f c) i) [
    | yes e ↦ rw e (only (rw e at (v.open_there c n (omega arith))) ∙ sym (gate_eq i i _ refl))
    | no y ↦ sum_zero (P.jobs i) _ (λ k j. share_other P i k c (f c) y) ∙ sym (gate_ne (f c) i _ y)
  ]
    where
      only : T (P.opens i (slot_of P c)) → sum (P.jobs i) (λ k. share P i k c i) ≡ P.rate i (core_of P c)
      only o = sum_only (P.jobs i) (λ k. share P i k c i) (P.job i (slot_of P c)) (regular.job_there i (slot_of P c) x l (slot_there P regular.some_core c n))
          (λ k j ne. share_none P i k c i (λ _ t. ne (sym (slot_job P i k (slot_of P c) t).1)))
          ∙ share_own P i c o

  -- all of a task's cells together do at least C units for each of its jobs
  pub task_total : P.jobs i * P.work i ≤ sum (cells P) (λ c. gate (eqb (f c) i) (P.rate i (core_of P c)))
  unfolding done
  task_total = omega (
    arith,
    sum_ext (cells P) _ _ cell_total,
    sum_swap (cells P) (P.jobs i) (λ c k. share P i k c (f c)),
    sum_le (P.jobs i) (λ k. P.work i) (λ k. done P (cells P) f i k) (λ k j. v.full i k x l j),
    sum_const (P.jobs i) (P.work i),
  )

-- a job of a task whose rates are all 0 gets no work, so no table serves it
pub serves_none : (P : Instance) → 0 < P.cores → (i k : ℕ) → i ≢ 0 → i ≤ P.tasks → k < P.jobs i → 0 < P.work i → ((j : ℕ) → j < P.cores → P.rate i j ≡ 0)
    → (f : ℕ → ℕ) → Valid P f → ⊥
unfolding done share
serves_none P some_core i k x l h works none f v = omega (arith, works, v.full i k x l h, sum_zero (cells P) (λ c. share P i k c (f c)) (λ c _. nothing c))
  where
    nothing : (c : ℕ) → share P i k c (f c) ≡ 0
    nothing c = rw (none (core_of P c) (mod-lt c some_core)) (gate_zero _)
