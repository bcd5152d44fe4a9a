-- How many of a job's slots are still to come: the count in a closed form, for every offset, and the job's highest-numbered slot as the one with none to come.
-- Assumes nothing.
use Prim.Native.Nat.{ℕ, ◌+◌, ◌*◌, ◌-◌, ◌%◌, ◌≤◌, ◌<◌, min}
use mathlib.Core.Path.{◌≡◌, sym, ap, ◌∙◌}
use mathlib.Core.Logic.{◌↔◌, ⊎_elim}
use mathlib.Core.Bool.{Bool, ◌&&◌}
use native.Mathlib.Omega.{arith}
use native.Mathlib.Nat.{mod-lt, mod-eq_of_lt, mod-eq-sub-mod, add-sub_of_le, div-add-mod'}
use lib.Dec.{T as Passes, ltb, lt→ltb, ltb→lt}
use Rattle.laws.specs.Sum.{gate, count}
use Rattle.laws.proofs.SumLaws.{sum_ext, lt_or_ge}
use Rattle.laws.proofs.CountLaws.{count_none, none_counted, count_all, count_split}
use Rattle.tasks.specs.Window.{place, job_at, IsOpen, is_jobs, highest, last_slot, to_come, Cyclic}
use Rattle.tasks.proofs.WindowLaws.{pos_L, D-le-L, place_back, job_lt, both, gate_both, work_window, first_slot, highest_ge, highest_is}

-- ---- the closed form, where x slots are to come
-- the window ends in the table
window_ends : (L D r t x : ℕ) → r ≤ t → r + 1 + x ≡ D → t + 1 + x ≤ L → x ≡ min (D - 1 - min r t) (L - 1 - t)
window_ends L D r t x h e l = omega arith

-- the table ends in the window
table_ends : (L D r t x : ℕ) → r ≤ t → t + 1 + x ≡ L → r + 1 + x ≤ D → x ≡ min (D - 1 - min r t) (L - 1 - t)
table_ends L D r t x h e l = omega arith

-- the window came round the table's end
came_round : (L D r t x : ℕ) → t < r → D ≤ L → t + 1 + x ≡ D → x ≡ min (D - 1 - min r t) (L - 1 - t)
came_round L D r t x h l e = omega arith

-- ---- a window of D slots from slot a on, in a table of L, seen from slot t, which has r of them before it in time
module _ (L D a r t : ℕ) (short : D ≤ L) (first : a < L) (inside : r < D) where
  -- its slot c, from 0, has a higher number than t
  abbrev higher : ℕ → Bool
  higher c = ltb t ((a + c) % L)

  -- a slot before the table's end
  straight : (c : ℕ) → a + c < L → (a + c) % L ≡ a + c
  straight c l = mod-eq_of_lt l

  -- and one behind it
  round : (c : ℕ) → L ≤ a + c → c < D → (a + c) % L ≡ a + c - L
  round c l m = mod-eq-sub-mod l ∙ mod-eq_of_lt (omega arith)

  -- a slot's number decides
  is_higher : (c s : ℕ) → (a + c) % L ≡ s → t < s → Passes (higher c)
  is_higher c s e l = lt→ltb t _ (omega arith)

  not_higher : (c s : ℕ) → (a + c) % L ≡ s → s ≤ t → Passes (higher c) → ⊥
  not_higher c s e l p = omega (arith, ltb→lt t _ p)

  -- t stands before the table's end: those behind it count, as far as the window and the table go, x of them
  higher_straight : a + r ≡ t → t < L → (x y : ℕ) → r + 1 + x + y ≡ D → (0 < y → t + 1 + x ≡ L) → t + 1 + x ≤ L → count D higher ≡ x
  higher_straight e l x y sizes full room = omega (
    arith,
    ap (λ n. count n higher) sizes,
    count_split (r + 1 + x) y higher,
    count_split (r + 1) x higher,
    count_none (r + 1) higher (λ c m. not_higher c (a + c) (straight c (omega arith)) (omega arith)),
    count_all x (λ c. higher (r + 1 + c)) (λ c m. is_higher (r + 1 + c) (a + (r + 1 + c)) (straight (r + 1 + c) (omega arith)) (omega arith)),
    count_none y (λ c. higher (r + 1 + x + c)) (λ c m. let f : t + 1 + x ≡ L = full (omega arith) in
        not_higher (r + 1 + x + c) (a + (r + 1 + x + c) - L) (round (r + 1 + x + c) (omega arith) (omega arith)) (omega arith)),
  )

  -- t stands behind it: the b slots before the table's end count, and the y behind t
  higher_round : a + r ≡ t + L → (b y : ℕ) → t + b ≡ r → b + (t + 1) + y ≡ D → count D higher ≡ b + y
  higher_round e b y before whole = omega (
    arith,
    ap (λ n. count n higher) whole,
    count_split (b + (t + 1)) y higher,
    count_split b (t + 1) higher,
    count_all b higher (λ c m. is_higher c (a + c) (straight c (omega arith)) (omega arith)),
    count_none (t + 1) (λ c. higher (b + c)) (λ c m. not_higher (b + c) (a + (b + c) - L) (round (b + c) (omega arith) (omega arith)) (omega arith)),
    count_all y (λ c. higher (b + (t + 1) + c)) (λ c m. is_higher (b + (t + 1) + c) (a + (b + (t + 1) + c) - L) (round (b + (t + 1) + c) (omega arith) (omega arith)) (omega arith)),
  )

  -- the count in a closed form: of the window's other slots those not lower, as far as the table goes
  higher_is : t ≡ (a + r) % L → count D higher ≡ min (D - 1 - min r t) (L - 1 - t)
  higher_is e =
      let y : ℕ = D - (r + 1) in
      let ey : r + 1 + y ≡ D = add-sub_of_le (omega arith) in
      ⊎_elim
      (λ l. let f : a + r ≡ t = sym (straight r l) ∙ sym e in
      let z : ℕ = L - (t + 1) in
      let ez : t + 1 + z ≡ L = add-sub_of_le (omega arith) in
      ⊎_elim
      (λ m. higher_straight f (omega arith) y 0 (omega arith) (λ n. absurd (omega arith)) (omega arith) ∙ window_ends L D r t y (omega arith) ey (omega arith))
      (λ m. higher_straight f (omega arith) z (y - z) (omega arith) (λ n. ez) (omega arith) ∙ table_ends L D r t z (omega arith) ez (omega arith))
      (lt_or_ge y z))
      (λ l. let f : a + r ≡ t + L = omega (arith, e ∙ round r l inside) in
      let b : ℕ = r - t in
      let eb : t + b ≡ r = add-sub_of_le (omega arith) in
      higher_round f b y eb (omega arith) ∙ came_round L D r t (b + y) (omega arith) short (omega arith))
      (lt_or_ge (a + r) L)

-- ---- the slots to come
module _ {L D T q : ℕ} (w : Cyclic L D T q) (O : ℕ) where
  -- the slots of job k that pass a test, counted over its window
  count_window : (k : ℕ) (g : ℕ → Bool) → k < q → count L (λ u. is_jobs L O D T k u && g u) ≡ count D (λ c. g ((O + (k * T + c)) % L))
  unfolding count
  count_window k g l =
      sum_ext L _ _ (λ u m. gate_both (is_jobs L O D T k u) (g u) 1) ∙ work_window w O k (λ u. gate (g u) 1) l

  -- 2.7 in a closed form, for a slot where the task is open
  pub coming_is : (t : ℕ) → t < L → IsOpen L O D T t
      → to_come L O D T (job_at L O T t) t ≡ min (D - 1 - min (place L O t % T) t) (L - 1 - t)
  coming_is t l o =
      let k : ℕ = job_at L O T t in
      count_window k (ltb t) (job_lt w O t)
      ∙ (λ i. count D (λ c. ltb t (first_slot w O k c i)))
      ∙ higher_is L D ((O + k * T) % L) (place L O t % T) t (D-le-L w) (mod-lt (O + k * T) (pos_L w)) o
      (sym (place_back L O t l) ∙ ap (λ x. (O + x) % L) (sym (div-add-mod' (place L O t) T)) ∙ first_slot w O k (place L O t % T))

-- ---- the highest-numbered slot
-- a number that passes is the highest exactly if none above it passes
highest_none : (n : ℕ) (g : ℕ → Bool) (s : ℕ) → s < n → Passes (g s) → (highest n g ≡ s) ↔ (count n (λ u. g u && ltb s u) ≡ 0)
highest_none n g s l p = (
  λ e. count_none n _ (λ u m b. let h = (both (g u) (ltb s u)).0 b in omega (arith, e, highest_ge n g u m h.0, ltb→lt s u h.1)),
  λ z. highest_is n g s l p (λ u a m h. none_counted n _ z u m ((both (g u) (ltb s u)).1 (h, lt→ltb s u a))),
)

-- a slot of job k is its highest-numbered exactly if nothing is to come there
pub last_none : (L O D T k t : ℕ) → t < L → Passes (is_jobs L O D T k t) → (last_slot L O D T k ≡ t) ↔ (to_come L O D T k t ≡ 0)
last_none L O D T k = highest_none L (is_jobs L O D T k)
