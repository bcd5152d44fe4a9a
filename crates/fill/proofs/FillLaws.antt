-- What stands on the grid, as the code finds it.
-- Assumes nothing.
use Prim.Native.Nat.{ℕ, zero, suc, ◌+◌, ◌*◌, ◌/◌, ◌%◌, ◌≤◌, ◌<◌}
use mathlib.Core.Path.{◌≡◌, refl, sym, ◌∙◌}
use mathlib.Core.Logic.{◌≢◌}
use mathlib.Core.Bool.{true, false}
use mathlib.Core.List.{List}
use native.Mathlib.Omega.{arith}
use native.Mathlib.Decide.{ℕ_discrete}
use native.Mathlib.Numerals.{add-one}
use native.Mathlib.Nat.{mul-le-mul_left, mul-le-mul, suc-mul, zero-add}
use lib.ListN.{length, set}
use borrow.Author.Tests.{lt-ltb, le-ltb, eq-eqb, ne_eqb}
use Rattle.laws.specs.Sum.{gate}
use Rattle.laws.specs.Lists.{nth, filled}
use Rattle.laws.proofs.ListLaws.{seek_is, seek_none, filled_length, filled_at, filled_before, filled_behind, filled_next}
use Rattle.tasks.specs.declared.Task.{Task}
use Rattle.windows.specs.declared.InSlot.{InSlot}
use Rattle.windows.specs.Answer.{Fit, in_slot}
use Rattle.tasks.proofs.WindowLaws.{pos_T, job_lt}
use Rattle.windows.proofs.AnswerLaws.{told_opens, told_job, told_last}
use Rattle.fill.specs.Grid.{entry_for, in_rows, entry_in, entry_at, end_mark}

-- ---- rows stored one after the other
module _ (w n : ℕ) (g : ℕ → ℕ → ℕ) (s : List ℕ) where
  -- none yet
  pub rows_none : s ≡ in_rows w n g 0 s
  unfolding in_rows
  rows_none = refl

  -- one more
  pub rows_next : (t : ℕ) (r : List ℕ) → r ≡ filled (in_rows w n g t s) (t * w) n (g t) → r ≡ in_rows w n g (t + 1) s
  unfolding in_rows
  rows_next t r e = rw add-one e

  -- as many places as before
  pub rows_length : (k : ℕ) → length (in_rows w n g k s) ≡ length s
  unfolding in_rows
  rows_length zero = refl
  rows_length (suc k) = filled_length (in_rows w n g k s) (k * w) n (g k) ∙ rows_length k

  -- and at each place of a row what was stored
  pub rows_at : (k t v : ℕ) → t < k → v < n → n ≤ w → k * w ≤ length s → nth (in_rows w n g k s) (t * w + v) ≡ g t v
  unfolding in_rows
  rows_at zero t v lt lv ln room = absurd (omega arith)
  rows_at (suc k) t v lt lv ln room = elim (ℕ_discrete t k) [
    | yes e ↦ rw e (filled_at (in_rows w n g k s) (k * w) n (g k) v lv (omega (arith, rows_length k, suc-mul k w)))
    | no x ↦
        let below : suc t * w ≤ k * w = mul-le-mul {n₂ = k} {m₂ = w} (omega arith) (omega arith) in
        filled_before (in_rows w n g k s) (k * w) n (g k) (t * w + v) (omega (arith, suc-mul t w))
        ∙ rows_at k t v (omega arith) lv ln (omega (arith, suc-mul k w))
  ]

  -- what stands behind the rows
  pub rows_behind : (k i : ℕ) → k * w ≤ i → n ≤ w → nth (in_rows w n g k s) i ≡ nth s i
  unfolding in_rows
  rows_behind zero i l ln = refl
  rows_behind (suc k) i l ln =
      filled_behind (in_rows w n g k s) (k * w) n (g k) i (omega (arith, suc-mul k w)) ∙ rows_behind k i (omega (arith, suc-mul k w)) ln

-- ---- places stored one after the other, from the first on
pub next_stored : (s : List ℕ) (n : ℕ) (g : ℕ → ℕ) (r : List ℕ) (x : ℕ) → r ≡ filled s 0 n g → x ≡ g n → set r n x ≡ filled s 0 (n + 1) g
next_stored s n g r x er ex = rw (zero-add n) at (filled_next s 0 n g r x er ex)

-- ---- the entry of a task in slot t of L, from what is told of it, r
module _ (L t : ℕ) (τ : Task) (r : InSlot) (e : r ≡ in_slot L τ t) where
  -- its job's number is below 1024
  pub few_jobs : Fit L τ → r.job < 1024
  few_jobs fit = omega (
    arith,
    told_job L t τ r e,
    job_lt fit.cyclic τ.offset.0 t,
    fit.few_slots,
    fit.cyclic.cycle,
    mul-le-mul_left (L / τ.period.0) (pos_T fit.cyclic),
  )

  -- open, and nothing is to come: the job's highest-numbered slot
  pub entry_end : (v : ℕ) → t < L → r.opens ≡ true → r.coming.0 ≡ 0 → 2 * (r.job * 16 + v) + 1 ≡ entry_for L τ (suc v) t
  unfolding entry_for gate
  entry_end v l o here = rw (sym (told_opens L t τ r e) ∙ o, ← told_job L t τ r e, eq-eqb _ t ((told_last L t τ r e l o).1 here))

  -- something is: an earlier one
  pub entry_early : (v : ℕ) → t < L → r.opens ≡ true → r.coming.0 ≢ 0 → 2 * (r.job * 16 + v) ≡ entry_for L τ (suc v) t
  unfolding entry_for gate
  entry_early v l o other =
      rw (sym (told_opens L t τ r e) ∙ o, ← told_job L t τ r e, ne_eqb _ t (λ z. other ((told_last L t τ r e l o).0 z))) (omega arith)

  -- closed: no job's
  pub entry_closed : (v : ℕ) → r.opens ≡ false → 32768 ≡ entry_for L τ (suc v) t
  unfolding entry_for
  entry_closed v o = rw (sym (told_opens L t τ r e) ∙ o)

-- ---- what stands at place v of slot t of L
module _ (ts : List Task) (L t v : ℕ) where
  -- of a task of the list its entry
  pub entry_there : v < length ts → entry_in ts L t v ≡ entry_at ts L t v
  unfolding entry_at
  entry_there l = rw (lt-ltb v (length ts) l) refl

  -- behind the list 0
  pub entry_behind : length ts ≤ v → 0 ≡ entry_at ts L t v
  unfolding entry_at
  entry_behind l = rw (le-ltb v (length ts) l) refl

-- ---- the slots in which jobs end
module _ (entries : List ℕ) (n t : ℕ) where
  -- v is the first
  pub first_ends : (v : ℕ) → v < n → ((k : ℕ) → k < v → nth entries (t * 16 + k) % 2 ≡ 0) → nth entries (t * 16 + v) % 2 ≢ 0 → v ≡ end_mark entries n t
  unfolding end_mark
  first_ends v l none x = sym (seek_is n v _ l none x)

  -- none does
  pub none_ends : ((v : ℕ) → v < n → nth entries (t * 16 + v) % 2 ≡ 0) → n ≡ end_mark entries n t
  unfolding end_mark
  none_ends none = sym (seek_none n _ none)
