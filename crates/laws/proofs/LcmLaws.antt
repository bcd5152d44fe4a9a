-- Laws of greatest common divisors and least common multiples.
-- Assumes nothing.
use Prim.Native.Nat.{ℕ, zero, suc, ◌+◌, ◌*◌, ◌/◌, ◌%◌, ◌≤◌, ◌<◌, ◌∣◌}
use mathlib.Core.Path.{◌≡◌, refl, sym, ap, ◌∙◌, subst, subst₂}
use mathlib.Core.Logic.{⊎_elim}
use native.Mathlib.Omega.{arith}
use native.Mathlib.Nat.{mod-lt, zero-lt-suc, not-suc-le-zero, mul_comm, one-mul, mul-zero, zero-mul, zero-div, mul-pos, div-add-mod, div-mul_cancel, dvd_refl, dvd-zero, one-dvd, dvd-add, dvd-sub, dvd_trans, dvd-mul_left, dvd-mul_right, dvd-mul_right_of_dvd, dvd_antisymm, pos_of_dvd_of_pos, le_of_dvd, mul-dvd-mul_left, mul-dvd-mul_right, dvd_of_mul-dvd-mul_left}
use native.Mathlib.Numerals.{add-one}
use Rattle.laws.specs.Lcm.{euclid, gcd_of, lcm_of, lcms_of, SameDivisors, IsGcd, IsLcm, Multiple, IsLcms}
use Rattle.laws.proofs.SumLaws.{lt_or_ge}

-- ---- Euclid's steps
-- a pair has its own divisors
pub same_start : (a b : ℕ) → SameDivisors a b a b
unfolding SameDivisors
same_start a b c d = (λ h. h, λ h. h)

-- a step of Euclid's keeps the divisors
pub same_step : (a b x y : ℕ) → SameDivisors a b x y → SameDivisors a b y (x % y)
unfolding SameDivisors
same_step a b x y s c d = (
  λ h. let k = (s c d).0 h in
      (k.1, subst (λ n. d ∣ n) (omega (arith, times)) (dvd-sub _ k.0 (dvd-mul_right_of_dvd _ k.1 (x / y)))),
  λ h. (s c d).1 (subst (λ n. d ∣ n) times (dvd-add _ (dvd-mul_right_of_dvd _ h.0 (x / y)) h.1), h.0),
)
  where
    times : c * y * (x / y) + c * (x % y) ≡ c * x
    times = omega (arith, ap (λ n. c * n) (div-add-mod x y))

-- where nothing is left, the other is the greatest common divisor
pub same_end : (a b x y : ℕ) → y ≡ 0 → SameDivisors a b x y → IsGcd a b x
unfolding SameDivisors IsGcd
same_end a b x y e s c d = (λ h. ((s c d).0 h).0, λ h. (s c d).1 (h, rw (e, mul-zero) (dvd-zero d)))

-- ---- greatest common divisors
-- it divides both
pub gcd_divides : (a b g : ℕ) → IsGcd a b g → (g ∣ a) × (g ∣ b)
unfolding IsGcd
gcd_divides a b g h = let k = (h 1 g).1 (rw one-mul (dvd_refl g)) in (rw one-mul at k.0, rw one-mul at k.1)

-- it is positive if a is
pub gcd_pos : (a b g : ℕ) → IsGcd a b g → 0 < a → 0 < g
gcd_pos a b g h pos = pos_of_dvd_of_pos (gcd_divides a b g h).0 pos

-- there is one only
pub gcd_one : (a b g g' : ℕ) → IsGcd a b g → IsGcd a b g' → g ≡ g'
unfolding IsGcd
gcd_one a b g g' h h' =
    dvd_antisymm (rw one-mul at ((h' 1 g).0 ((h 1 g).1 (rw one-mul (dvd_refl g))))) (rw one-mul at ((h 1 g').0 ((h' 1 g').1 (rw one-mul (dvd_refl g')))))

-- Euclid's steps find it: y steps are enough
euclid_is : (n x y : ℕ) → y ≤ n → IsGcd x y (euclid n x y)
unfolding euclid IsGcd SameDivisors
euclid_is zero x y h = same_end x y x y (omega arith) (same_start x y)
euclid_is (suc n) x zero h = same_end x 0 x 0 refl (same_start x 0)
euclid_is (suc n) x (suc y) h =
    λ c d.
    let s = same_step x (suc y) x (suc y) (same_start x (suc y)) c d in
    let r : x % suc y ≤ n = omega (arith, mod-lt x (zero-lt-suc y)) in
    let g = euclid_is n (suc y) (x % suc y) r c d in
    (λ k. g.0 (s.0 k), λ k. s.1 (g.1 k))

-- so the function finds it
pub gcd_of_lem : (a b : ℕ) → IsGcd a b (gcd_of a b)
unfolding gcd_of
gcd_of_lem a b = euclid_is b a b (omega arith)

-- ---- least common multiples
-- a / g * b is the least common multiple
pub lcm_is : (a b g : ℕ) → IsGcd a b g → 0 < a → IsLcm a b (a / g * b)
unfolding IsGcd IsLcm
lcm_is a b g h pos c = (there, back)
  where
    gd : (g ∣ a) × (g ∣ b)
    gd = gcd_divides a b g h

    a_is : a / g * g ≡ a
    a_is = div-mul_cancel g gd.0

    there : (a ∣ c) × (b ∣ c) → a / g * b ∣ c
    there m =
        let k : a * b ∣ c * g = (h c (a * b)).0 (rw (mul_comm c a) (mul-dvd-mul_left b a m.1), mul-dvd-mul_right a m.0 b) in
        dvd_of_mul-dvd-mul_left (a / g * b) (gcd_pos a b g h pos)
        (subst₂ ◌∣◌ (omega (arith, ap (λ n. n * b) a_is)) (mul_comm c g) k)

    back : a / g * b ∣ c → (a ∣ c) × (b ∣ c)
    back m = (
      dvd_trans a (subst (λ n. a ∣ n) (omega (arith, ap (λ n. n * (b / g)) a_is, ap (λ n. a / g * n) (div-mul_cancel g gd.1))) (dvd-mul_right a (b / g))) m,
      dvd_trans b (dvd-mul_left b (a / g)) m,
    )

-- it is not 0 if the numbers are not
pub lcm_pos : (a b l : ℕ) → IsLcm a b l → 0 < a → 0 < b → 0 < l
unfolding IsLcm
lcm_pos a b l h pa pb = pos_of_dvd_of_pos ((h (a * b)).0 (dvd-mul_right a b, dvd-mul_left b a)) (mul-pos pa pb)

-- the function finds it
pub lcm_of_lem : (a b : ℕ) → 0 < a → IsLcm a b (lcm_of a b)
unfolding lcm_of
lcm_of_lem a b pos = lcm_is a b (gcd_of a b) (gcd_of_lem a b) pos

-- of 0 and another number it is 0
pub lcm_zero : (a b : ℕ) → a ≡ 0 → 0 ≡ lcm_of a b
unfolding lcm_of
lcm_zero a b e = sym (rw e (ap (λ n. n * b) (zero-div (gcd_of 0 b)) ∙ zero-mul b))

-- ---- least common multiples of a list
-- of no number it is 1
pub lcms_none : (p : ℕ → ℕ) → IsLcms 0 p 1
unfolding IsLcms Multiple
lcms_none p c = (λ h. one-dvd c, λ h k l. absurd (not-suc-le-zero l))

-- of one number more
pub lcms_more : (n : ℕ) (p : ℕ → ℕ) (h l : ℕ) → IsLcms n p h → IsLcm h (p n) l → IsLcms (suc n) p l
unfolding IsLcms Multiple IsLcm
lcms_more n p h l all more c = (
  λ m. (more c).0 ((all c).0 (λ k q. m k (omega arith)), m n (omega arith)),
  λ d k q.
      ⊎_elim (λ s. (all c).1 ((more c).1 d).0 k s) (λ s. subst (λ x. p x ∣ c) (omega arith) ((more c).1 d).1) (lt_or_ge k n),
)

-- the function finds it, and it is not 0 if the numbers are not
pub lcms_of_lem : (n : ℕ) (p : ℕ → ℕ) → ((k : ℕ) → k < n → 0 < p k) → IsLcms n p (lcms_of n p) × (0 < lcms_of n p)
unfolding lcms_of
lcms_of_lem zero p pos = (lcms_none p, omega arith)
lcms_of_lem (suc n) p pos =
    let h = lcms_of_lem n p (λ k l. pos k (omega arith)) in
    let l = lcm_of_lem (lcms_of n p) (p n) h.1 in
    (lcms_more n p _ _ h.0 l, lcm_pos _ _ _ l h.1 (pos n (omega arith)))

-- one turn of the loop that finds it
pub lcms_next : (n : ℕ) (p : ℕ → ℕ) (h r : ℕ) → h ≡ lcms_of n p → r ≡ lcm_of h (p n) → r ≡ lcms_of (n + 1) p
unfolding lcms_of
lcms_next n p h r e f = rw add-one (f ∙ ap (λ x. lcm_of x (p n)) e)

-- there is one only
pub lcms_one : (n : ℕ) (p : ℕ → ℕ) (l l' : ℕ) → IsLcms n p l → IsLcms n p l' → l ≡ l'
unfolding IsLcms
lcms_one n p l l' h h' = dvd_antisymm ((h l').0 ((h' l').1 (dvd_refl l'))) ((h' l).0 ((h l).1 (dvd_refl l)))

-- a common multiple that is not 0 is at least the least
pub lcms_least : (n : ℕ) (p : ℕ → ℕ) (l c : ℕ) → IsLcms n p l → 0 < c → Multiple n p c → l ≤ c
unfolding IsLcms
lcms_least n p l c h pos m = le_of_dvd pos ((h c).0 m)

-- a common multiple of more numbers is at least the least of fewer
pub lcms_over : (n i : ℕ) (p : ℕ → ℕ) (l c : ℕ) → i ≤ n → IsLcms i p l → 0 < c → Multiple n p c → l ≤ c
unfolding Multiple
lcms_over n i p l c le h pos m = lcms_least i p l c h pos (λ k q. m k (omega arith))

-- so of more numbers it is no less
pub lcms_mono : (n i : ℕ) (p : ℕ → ℕ) → ((k : ℕ) → k < n → 0 < p k) → i ≤ n → lcms_of i p ≤ lcms_of n p
unfolding IsLcms
lcms_mono n i p pos le =
    let h = lcms_of_lem n p pos in
    lcms_over n i p _ _ le (lcms_of_lem i p (λ k l. pos k (omega arith))).0 h.1 ((h.0 (lcms_of n p)).1 (dvd_refl (lcms_of n p)))

-- each number divides it
pub lcms_divides : (n : ℕ) (p : ℕ → ℕ) (l k : ℕ) → IsLcms n p l → k < n → p k ∣ l
unfolding IsLcms Multiple
lcms_divides n p l k h q = (h l).1 (dvd_refl l) k q

-- a number of which d is a divisor holds d a whole number of times, at least once
pub dvd_whole : (d l : ℕ) → d ∣ l → 0 < l → (l / d * d ≡ l) × (0 < l / d)
dvd_whole d l h pos = let e : l / d * d ≡ l = div-mul_cancel d h in (e, pos_left (l / d) d (rw e pos))
  where
    pos_left : (a b : ℕ) → 0 < a * b → 0 < a
    pos_left zero b h = omega arith
    pos_left (suc a) b h = omega arith
