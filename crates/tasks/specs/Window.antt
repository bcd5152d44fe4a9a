-- Windows of a task (offset O, deadline D, period T) in a cyclic table of L slots.
-- Assumes nothing.
use Rattle.std.specs.Prelude.{ℕ, zero, suc, ◌+◌, ◌*◌, ◌-◌, ◌/◌, ◌%◌, ◌≤◌, ◌<◌, ◌≡◌, Bool, cond, ◌&&◌, ltb, eqb}
use Rattle.laws.specs.Sum.{gate, sum, count}

-- 2.2: p = (t - O) mod L, taken between 0 and L - 1
unfoldable pub place : ℕ → ℕ → ℕ → ℕ
place L O t = (t + (L - O % L)) % L

-- 2.3: the job is number p div T, from 0
abbrev pub job_at : ℕ → ℕ → ℕ → ℕ → ℕ
job_at L O T t = place L O t / T

-- 2.4: the task is open at t exactly if p mod T < D
abbrev pub IsOpen : ℕ → ℕ → ℕ → ℕ → ℕ → Type 0
IsOpen L O D T t = place L O t % T < D

-- 2.4: the same as a test
abbrev pub is_open : ℕ → ℕ → ℕ → ℕ → ℕ → Bool
is_open L O D T t = ltb (place L O t % T) D

-- 2.5: slot t is one of job k's: open, and of that number
unfoldable pub is_jobs : ℕ → ℕ → ℕ → ℕ → ℕ → ℕ → Bool
is_jobs L O D T k t = is_open L O D T t && eqb (job_at L O T t) k

-- the highest number below n that passes the test, 0 if none does
unfoldable pub highest : ℕ → (ℕ → Bool) → ℕ
highest zero g = 0
highest (suc n) g = cond (g n) n (highest n g)

-- 2.6: job k's highest-numbered slot
abbrev pub last_slot : ℕ → ℕ → ℕ → ℕ → ℕ → ℕ
last_slot L O D T k = highest L (is_jobs L O D T k)

-- 2.7: how many of job k's slots are still to come at slot t: those with a higher number
abbrev pub to_come : ℕ → ℕ → ℕ → ℕ → ℕ → ℕ → ℕ
to_come L O D T k t = count L (λ u. is_jobs L O D T k u && ltb t u)

-- 2.1: time s, from 0 on without end, lies in the K-th window
abbrev pub InWindow : ℕ → ℕ → ℕ → ℕ → ℕ → Type 0
InWindow O D T K s = (O + K * T ≤ s) × (s < O + K * T + D)

-- a table of L slots holds q periods T, each with a deadline D in it
pub record Cyclic (L D T q : ℕ) : Type 0 where
  pub some_jobs : 0 < q
  pub some_slots : 0 < D
  pub fits : D ≤ T
  pub cycle : L ≡ q * T

-- x if slot t is job k's, else 0
abbrev pub during : ℕ → ℕ → ℕ → ℕ → ℕ → ℕ → ℕ → ℕ
during L O D T k t x = gate (is_jobs L O D T k t) x

-- what g does in the slots of job k
abbrev pub done_in : ℕ → ℕ → ℕ → ℕ → ℕ → (ℕ → ℕ) → ℕ
done_in L O D T k g = sum L (λ t. during L O D T k t (g t))
