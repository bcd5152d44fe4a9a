-- Laws of places and windows: what slot s mod L says of time s, the slots of a job, its highest, and its work as a sum over its window.
-- Assumes nothing.
use Prim.Native.Nat.{ℕ, zero, suc, ◌+◌, ◌*◌, ◌-◌, ◌/◌, ◌%◌, ◌≤◌, ◌<◌}
use mathlib.Core.Path.{◌≡◌, refl, sym, ap, ◌∙◌, subst}
use mathlib.Core.Logic.{◌↔◌}
use mathlib.Core.Bool.{Bool, true, false, cond, ◌&&◌}
use native.Mathlib.Omega.{arith}
use native.Mathlib.Decide.{ℕ_discrete}
use native.Mathlib.Nat.{le_refl, mod-lt, mod-eq_of_lt, mod-add-mod, add-mod-mod, div-add-mod, div-lt_iff_lt-mul, mul-le-mul_right, div-add-mod', add-mul-mod_self_left, add-sub_of_le, mul-pos}
use lib.Dec.{T as Passes, ltb, eqb, lt→ltb, ltb→lt, eqb→eq, eqb_refl}
use lib.Arith.{digits_div, digits_mod, mod-mul}
use Rattle.laws.specs.Sum.{gate, sum}
use Rattle.laws.proofs.SumLaws.{gate_eq, gate_ne, gate_zero, sum_ext, sum_zero, sum_shift, sum_cells, sum_only, sum_below}
use Rattle.tasks.specs.Window.{place, job_at, IsOpen, is_open, is_jobs, highest, during, done_in, InWindow, Cyclic}

-- ---- places
-- a place is below the length
pub place_lt : (L O t : ℕ) → 0 < L → place L O t < L
unfolding place
place_lt L O t h = mod-lt (t + (L - O % L)) h

-- x slots after the offset the place is x mod L
pub place_after : (L O x : ℕ) → 0 < L → place L O ((O + x) % L) ≡ x % L
unfolding place
place_after L O x h =
    mod-add-mod (O + x) L (L - O % L)
    ∙ ap (λ n. n % L) (omega (arith, div-add-mod O L, mod-lt O h))
    ∙ add-mul-mod_self_left x L (O / L + 1)

-- and back: the slot of a place
pub place_back : (L O t : ℕ) → t < L → (O + place L O t) % L ≡ t
unfolding place
place_back L O t h =
    let pos : 0 < L = omega arith in
    add-mod-mod O (t + (L - O % L)) L
    ∙ ap (λ n. n % L) (omega (arith, div-add-mod O L, mod-lt O pos))
    ∙ add-mul-mod_self_left t L (O / L + 1) ∙ mod-eq_of_lt h

-- a period has a slot
pub pos_T : {L D T q : ℕ} → Cyclic L D T q → 0 < T
pos_T w = omega arith

-- a table has a slot
pub pos_L : {L D T q : ℕ} → Cyclic L D T q → 0 < L
pos_L w = rw w.cycle (mul-pos w.some_jobs (pos_T w))

-- a deadline is no longer than the table
pub D-le-L : {L D T q : ℕ} → Cyclic L D T q → D ≤ L
D-le-L {T = T} w = omega (arith, mul-le-mul_right T w.some_jobs)

-- ---- the slots of a job
-- two tests in one: both pass
pub both : (a b : Bool) → (Passes (a && b)) ↔ (Passes a × Passes b)
both true b = (λ t. (tt, t), λ h. h.1)
both false b = (λ t. absurd t, λ h. h.0)

-- and a term that they let through
pub gate_both : (a b : Bool) (x : ℕ) → gate (a && b) x ≡ gate a (gate b x)
unfolding gate
gate_both true b x = refl
gate_both false b x = refl

-- a slot is one of job k's exactly if it is open, and of that number
pub is_jobs_lem : (L O D T k t : ℕ) → Passes (is_jobs L O D T k t) ↔ (IsOpen L O D T t × (job_at L O T t ≡ k))
unfolding is_jobs
is_jobs_lem L O D T k t = (
  λ h. let p = (both (is_open L O D T t) (eqb (job_at L O T t) k)).0 h in (ltb→lt _ D p.0, eqb→eq _ k p.1),
  λ h. (both (is_open L O D T t) (eqb (job_at L O T t) k)).1 (lt→ltb _ D h.0, rw h.1 (eqb_refl k)),
)

-- what is done in a slot of job k
during_is : (L O D T k t x : ℕ) → during L O D T k t x ≡ gate (is_open L O D T t) (gate (eqb (job_at L O T t) k) x)
unfolding is_jobs
during_is L O D T k t x = gate_both (is_open L O D T t) (eqb (job_at L O T t) k) x

-- the highest number below n that passes is no more than n
highest_le : (n : ℕ) (g : ℕ → Bool) → highest n g ≤ n
unfolding highest
highest_le zero g = le_refl 0
highest_le (suc n) g = go (g n) (highest_le n g)
  where
    go : (b : Bool) → highest n g ≤ n → cond b n (highest n g) ≤ suc n
    go true l = omega arith
    go false l = omega arith

-- and it is below n
pub highest_lt : (n : ℕ) (g : ℕ → Bool) → 0 < n → highest n g < n
unfolding highest
highest_lt zero g l = l
highest_lt (suc n) g l = go (g n)
  where
    go : (b : Bool) → cond b n (highest n g) < suc n
    go true = omega arith
    go false = omega (arith, highest_le n g)

-- no number that passes is higher
pub highest_ge : (n : ℕ) (g : ℕ → Bool) (s : ℕ) → s < n → Passes (g s) → s ≤ highest n g
unfolding highest
highest_ge zero g s l t = absurd (omega arith)
highest_ge (suc n) g s l t = go (g n) (λ e. rw (← e) t) (λ m. highest_ge n g s m t)
  where
    go : (b : Bool) → (s ≡ n → Passes b) → (s < n → s ≤ highest n g) → s ≤ cond b n (highest n g)
    go true h k = omega arith
    go false h k = elim (ℕ_discrete s n) [ yes e ↦ absurd (h e) | no x ↦ k (omega arith) ]

-- where one passes, the highest does
pub highest_passes : (n : ℕ) (g : ℕ → Bool) (s : ℕ) → s < n → Passes (g s) → Passes (g (highest n g))
unfolding highest
highest_passes zero g s l t = absurd (omega arith)
highest_passes (suc n) g s l t = go (g n) refl (λ m. highest_passes n g s m t)
  where
    go : (b : Bool) → g n ≡ b → (s < n → Passes (g (highest n g))) → Passes (g (cond b n (highest n g)))
    go true e k = rw e tt
    go false e k = elim (ℕ_discrete s n) [ yes q ↦ absurd (rw (ap g q ∙ e) at t) | no x ↦ k (omega arith) ]

-- a number that passes, and above which none does, is the highest
pub highest_is : (n : ℕ) (g : ℕ → Bool) (s : ℕ) → s < n → Passes (g s) → ((t : ℕ) → s < t → t < n → Passes (g t) → ⊥) → highest n g ≡ s
unfolding highest
highest_is zero g s l t none = absurd (omega arith)
highest_is (suc n) g s l t none = go (g n) (λ e. rw (← e) t) (λ m p. none n m (omega arith) p) (λ m. highest_is n g s m t (λ u a b. none u a (omega arith)))
  where
    go : (b : Bool) → (s ≡ n → Passes b) → (s < n → Passes b → ⊥) → (s < n → highest n g ≡ s) → cond b n (highest n g) ≡ s
    go true h x k = elim (ℕ_discrete s n) [ yes e ↦ sym e | no y ↦ absurd (x (omega arith) tt) ]
    go false h x k = elim (ℕ_discrete s n) [ yes e ↦ absurd (h e) | no y ↦ k (omega arith) ]

module _ {L D T q : ℕ} (w : Cyclic L D T q) (O : ℕ) where
  -- the place in the period, x slots after the offset
  pub after_mod : (x : ℕ) → place L O ((O + x) % L) % T ≡ x % T
  after_mod x =
      ap (λ n. n % T) (place_after L O x (pos_L w) ∙ ap (λ n. x % n) w.cycle ∙ mod-mul x w.some_jobs (pos_T w))
      ∙ digits_mod (x / T % q) (mod-lt x (pos_T w))

  -- the job, x slots after the offset
  pub after_div : (x : ℕ) → job_at L O T ((O + x) % L) ≡ x / T % q
  after_div x =
      ap (λ n. n / T) (place_after L O x (pos_L w) ∙ ap (λ n. x % n) w.cycle ∙ mod-mul x w.some_jobs (pos_T w))
      ∙ digits_div (x / T % q) (mod-lt x (pos_T w))

  -- a slot's job is one of the table's
  pub job_lt : (t : ℕ) → job_at L O T t < q
  job_lt t = (div-lt_iff_lt-mul (pos_T w)).1 (omega (arith, place_lt L O t (pos_L w)))

  -- a time x slots after the offset is in the K-th window exactly if its slot is open for job K mod q, and it is in the K-th period
  pub after_window : (x K : ℕ)
      → InWindow O D T K (O + x) ↔ (IsOpen L O D T ((O + x) % L) × (job_at L O T ((O + x) % L) ≡ K % q) × (x / T ≡ K))
  after_window x K = (there, back)
    where
      there : InWindow O D T K (O + x) → IsOpen L O D T ((O + x) % L) × (job_at L O T ((O + x) % L) ≡ K % q) × (x / T ≡ K)
      there i =
          let r : ℕ = x - K * T in
          let l : r < T = omega arith in
          let e : x ≡ K * T + r = omega arith in
          let d : x / T ≡ K = ap (λ n. n / T) e ∙ digits_div K l in
          (omega (arith, after_mod x, ap (λ n. n % T) e, digits_mod K l), after_div x ∙ ap (λ k. k % q) d, d)

      back : IsOpen L O D T ((O + x) % L) × (job_at L O T ((O + x) % L) ≡ K % q) × (x / T ≡ K) → InWindow O D T K (O + x)
      back o = omega (arith, div-add-mod' x T, ap (λ k. k * T) o.2, after_mod x)

  -- the same of any time from the offset on
  pub in_window : (s K : ℕ) → O ≤ s
      → InWindow O D T K s ↔ (IsOpen L O D T (s % L) × (job_at L O T (s % L) ≡ K % q) × ((s - O) / T ≡ K))
  in_window s K late =
      subst (λ n. InWindow O D T K n ↔ (IsOpen L O D T (n % L) × (job_at L O T (n % L) ≡ K % q) × ((s - O) / T ≡ K)))
      (add-sub_of_le late) (after_window (s - O) K)

  -- a time from the offset on whose slot is open is in the window of its period
  pub open_window : (s : ℕ) → O ≤ s → IsOpen L O D T (s % L) → InWindow O D T ((s - O) / T) s
  open_window s late =
      subst (λ n. IsOpen L O D T (n % L) → InWindow O D T ((s - O) / T) n)
      (add-sub_of_le late) (λ o. (after_window (s - O) ((s - O) / T)).1 (o, after_div (s - O), refl))

  -- the slot of a time in the K-th window is that of job K mod q
  pub slot_again : (K u : ℕ) → (O + (K * T + u)) % L ≡ (O + (K % q * T + u)) % L
  slot_again K u =
      ap (λ n. n % L) (omega (arith, ap (λ n. n * T) (div-add-mod K q), ap (λ n. n * (K / q)) w.cycle))
      ∙ add-mul-mod_self_left (O + (K % q * T + u)) L (K / q)

  -- the work of job k is what is done in its window, which starts at O + k * T and may run round the table's end
  pub work_window : (k : ℕ) (g : ℕ → ℕ) → k < q → done_in L O D T k g ≡ sum D (λ u. g ((O + (k * T + u)) % L))
  work_window k g h =
      sym (sum_shift L O (λ t. during L O D T k t (g t)))
      ∙ sum_ext L (λ x. during L O D T k ((O + x) % L) (g ((O + x) % L))) (λ x. part (x / T) (x % T)) term
      ∙ ap (λ n. sum n (λ x. part (x / T) (x % T))) w.cycle
      ∙ sym (sum_cells q T part)
      ∙ sum_only q (λ s. sum T (λ r. part s r)) k h (λ s l ne. sum_zero T (part s) (λ r l. ap (gate (ltb r D)) (gate_ne s k _ ne) ∙ gate_zero (ltb r D)))
      ∙ sum_below T D (λ r. gate (eqb k k) (g ((O + (k * T + r)) % L))) w.fits
      ∙ sum_ext D (λ r. gate (eqb k k) (g ((O + (k * T + r)) % L))) (λ r. g ((O + (k * T + r)) % L)) (λ r l. gate_eq k k _ refl)
    where
      part : ℕ → ℕ → ℕ
      part s r = gate (ltb r D) (gate (eqb s k) (g ((O + (s * T + r)) % L)))

      term : (x : ℕ) → x < L → during L O D T k ((O + x) % L) (g ((O + x) % L)) ≡ part (x / T) (x % T)
      term x l = during_is L O D T k ((O + x) % L) _ ∙ cc (place_after L O x (pos_L w), mod-eq_of_lt l, div-add-mod' x T)

  -- the same for a time in the K-th window, counted from the start
  pub work_at_lem : (K : ℕ) (g : ℕ → ℕ) → done_in L O D T (K % q) g ≡ sum D (λ u. g ((O + (K * T + u)) % L))
  work_at_lem K g =
      work_window (K % q) g (mod-lt K w.some_jobs)
      ∙ sum_ext D (λ u. g ((O + (K % q * T + u)) % L)) (λ u. g ((O + (K * T + u)) % L)) (λ u l. ap g (sym (slot_again K u)))

  -- each slot of a job's window is the job's
  window_slot : (k u : ℕ) → k < q → u < D → Passes (is_jobs L O D T k ((O + (k * T + u)) % L))
  window_slot k u h l =
      let r : u < T = omega arith in
      (is_jobs_lem L O D T k _).1 (omega (arith, after_mod (k * T + u), digits_mod k r), after_div (k * T + u) ∙ ap (λ x. x % q) (digits_div k r) ∙ mod-eq_of_lt h)

  -- every job has a slot
  pub job_slot_lem : (k : ℕ) → k < q → (t : ℕ) × (t < L) × Passes (is_jobs L O D T k t)
  job_slot_lem k h = ((O + (k * T + 0)) % L, mod-lt _ (pos_L w), window_slot k 0 h w.some_slots)

  -- a window's slot, from its first on
  pub first_slot : (k u : ℕ) → (O + (k * T + u)) % L ≡ ((O + k * T) % L + u) % L
  first_slot k u = ap (λ x. x % L) (omega arith) ∙ sym (mod-add-mod (O + k * T) L u)
