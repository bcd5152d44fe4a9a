-- Steps that are in time add up, across the counter's wrap.
-- Assumes nothing.
use Rattle.std.proofs.Common.{◌≡◌, ℕ, zero, suc, ◌+◌, ◌-◌, ◌*◌, ◌%◌, ◌^◌, ◌<◌, ◌≤◌, min, sym, refl, ap, ◌∙◌, mod-lt, arith}
use native.Mathlib.Nat.{mod-add-mod}
use Rattle.laws.specs.Sum.{sum}
use Rattle.tasks.specs.Refusal.{within, unless}
use Rattle.clock.specs.Clock.{Worked, elapsed_of, step_refusal, advanced, next_of, time_after}
use Rattle.clock.proofs.StepLaws.{Unspoilt, not_refused, next_taken}

-- the tick s slots after the tick τ
abbrev pub tick_after : ℕ → ℕ → ℕ
tick_after τ s = (τ + s) % 2 ^ 32

-- the elapsed number is the time that has passed, if that is below 2^32
elapsed_is : (s e : ℕ) → e < 2 ^ 32 → elapsed_of (tick_after (s % 2 ^ 32) e) (s % 2 ^ 32) ≡ e
elapsed_is s e h = omega arith

-- ticks of 32 bits are told by the elapsed numbers
pub tick_after_is : (tick : ℕ → ℕ) (n : ℕ) → ((s : ℕ) → s ≤ n → tick s < 2 ^ 32) → (s : ℕ) → s ≤ n → tick s ≡ tick_after (tick 0) (time_after tick s)
unfolding sum
tick_after_is tick n l zero h = omega (arith, l 0 h)
tick_after_is tick n l (suc s) h = omega (arith, tick_after_is tick n l s (omega arith), l s (omega arith), l (suc s) h)

module _ {h position age m n : ℕ} (u : Unspoilt h position age m n) (last s : ℕ) where
  -- numbers moved on by s slots are not spoilt
  moved_unspoilt : Unspoilt h ((position + s) % h) (min (age + s) 1024) m n
  moved_unspoilt = record {
    some_slot = u.some_slot;
    few_slots = u.few_slots;
    some_core = u.some_core;
    few_cores = u.few_cores;
    some_task = u.some_task;
    few_tasks = u.few_tasks;
    in_table = mod-lt (position + s) u.some_slot;
    age_le = omega arith;
  }

  -- a step that is in time moves them on by its elapsed number
  pub moved_on : (e : ℕ) → e < 2 ^ 31
      → next_of (tick_after last s) h ((position + s) % h) (min (age + s) 1024) m n (tick_after (tick_after last s) e)
      ≡ record { last = tick_after last (s + e); missed = e - 1; at = (position + (s + e)) % h * m; position = (position + (s + e)) % h; age = min (age + (s + e)) 1024; verdict = 0 }
  moved_on e l =
      let is = elapsed_is (last + s) e (omega arith) in
      sym (next_taken _ _ _ _ _ _ _ (sym (not_refused _ _ _ _ _ _ _ moved_unspoilt (omega (arith, is)))))
      ∙ ap (advanced h _ _ m _) is
      ∙ same (omega arith) (mod-add-mod (position + s) h e ∙ ap (λ x. x % h) (omega arith)) (omega arith)
    where
      same : {a a' b b' c c' : ℕ} → a ≡ a' → b ≡ b' → c ≡ c'
          → ◌≡◌ {A = Worked} (record { last = a; missed = e - 1; at = b * m; position = b; age = c; verdict = 0 })
          (record { last = a'; missed = e - 1; at = b' * m; position = b'; age = c'; verdict = 0 })
      same x y z = cc

-- the drawing of RULES 7: H = 12, and slot 3 at tick 4294967295; at the next tick, 0, it is slot 4 and not 0
after_wrap : (next_of 4294967295 12 3 3 1 1 0).position ≡ 4
unfolding next_of step_refusal within unless
after_wrap = refl
