-- What a step works out of the record's numbers: when it is refused, and what it stores.
-- Assumes nothing.
use Rattle.std.proofs.Common.{◌≡◌, ℕ, zero, suc, ◌*◌, ◌%◌, ◌^◌, ◌<◌, ◌≤◌, Bool, true, false, T, ltb, ◌≢◌, sym, refl, ◌∙◌, mod-lt, mul-le-mul, arith, le→leb, ltb→lt, lt→ltb, leb→le}
use Rattle.laws.specs.Tests.{every}
use Rattle.laws.proofs.TestLaws.{every_holds, holds_every}
use Rattle.tasks.specs.Refusal.{unless}
use Rattle.tasks.proofs.SoundLaws.{within_is, is_within}
use Rattle.tasks.proofs.AnswerLaws.{unless_yes, unless_no}
use Rattle.clock.specs.Clock.{elapsed_of, ranges, step_refusal, stays_of, advanced, next_of}

-- the numbers of a record that is not spoilt
pub record Unspoilt (h position age m n : ℕ) : Type 0 where
  pub some_slot : 1 ≤ h
  pub few_slots : h ≤ 1024
  pub some_core : 1 ≤ m
  pub few_cores : m ≤ 4
  pub some_task : 1 ≤ n
  pub few_tasks : n ≤ 16
  pub in_table : position < h
  pub age_le : age ≤ 1024

-- tests that both passed
unless_none : (a b : Bool) → unless a 12 (unless b 15 0) ≡ 0 → T a × T b
unfolding unless
unless_none true true e = (tt, tt)
unless_none true false e = absurd (omega arith)
unless_none false b e = absurd (omega arith)

module _ (h position age m n : ℕ) where
  -- numbers that pass the tests
  passes_unspoilt : T (every (ranges h position age m n)) → Unspoilt h position age m n
  passes_unspoilt t =
      let b = every_holds (ranges h position age m n) t in
      record {
        some_slot = (within_is _ _ _ b.0).0;
        few_slots = (within_is _ _ _ b.0).1;
        some_core = (within_is _ _ _ b.1.0).0;
        few_cores = (within_is _ _ _ b.1.0).1;
        some_task = (within_is _ _ _ b.1.1.0).0;
        few_tasks = (within_is _ _ _ b.1.1.0).1;
        in_table = ltb→lt _ _ b.1.1.1.0;
        age_le = leb→le _ _ b.1.1.1.1.0;
      }

  -- and the other way
  unspoilt_passes : Unspoilt h position age m n → T (every (ranges h position age m n))
  unspoilt_passes u = holds_every (ranges h position age m n) (
    is_within 1 1024 h u.some_slot u.few_slots,
    (
      is_within 1 4 m u.some_core u.few_cores,
      (
        is_within 1 16 n u.some_task u.few_tasks,
        (lt→ltb _ _ u.in_table, (le→leb _ _ u.age_le, tt)),
      ),
    ),
  )

module _ {h position age m n : ℕ} (x : ℕ) (u : Unspoilt h position age m n) where
  -- a slot of the table fits any number from 1024 up
  pub slot_below : {b : ℕ} → 1024 ≤ b → x % h < b
  slot_below l = omega (arith, mod-lt x u.some_slot, u.few_slots)

  -- its cells begin four before the end of the table's room or earlier
  pub cells_at : x % h * m ≤ 4092
  cells_at = mul-le-mul {n₂ = 1023} {m₂ = 4} (omega (arith, mod-lt x u.some_slot, u.few_slots)) u.few_cores

  pub cells_below : {b : ℕ} → 4096 ≤ b → x % h * m < b
  cells_below l = omega (arith, cells_at)

module _ (last h position age m n tick : ℕ) where
  abbrev refusal : ℕ
  refusal = step_refusal last h position age m n tick

  -- 12 of a record that is spoilt
  pub refused_spoilt : (Unspoilt h position age m n → ⊥) → refusal ≡ 12
  unfolding step_refusal
  refused_spoilt x = unless_no _ _ _ (λ t. x (passes_unspoilt h position age m n t))

  -- 15 of an elapsed number from 2^31 up
  pub refused_past : Unspoilt h position age m n → 2 ^ 31 ≤ elapsed_of tick last → refusal ≡ 15
  unfolding step_refusal
  refused_past u l = unless_yes _ _ _ (unspoilt_passes h position age m n u) ∙ unless_no _ _ _ (λ t. let k : elapsed_of tick last < 2 ^ 31 = ltb→lt _ _ t in omega arith)

  -- none otherwise
  pub not_refused : Unspoilt h position age m n → elapsed_of tick last < 2 ^ 31 → refusal ≡ 0
  unfolding step_refusal
  not_refused u l = unless_yes _ _ _ (unspoilt_passes h position age m n u) ∙ unless_yes _ _ _ (lt→ltb _ _ l)

  -- and only otherwise
  pub in_time : 0 ≡ refusal → Unspoilt h position age m n × (elapsed_of tick last < 2 ^ 31)
  unfolding step_refusal
  in_time e =
      let t = unless_none (every (ranges h position age m n)) (ltb (elapsed_of tick last) (2 ^ 31)) (sym e) in
      (passes_unspoilt h position age m n t.0, ltb→lt _ _ t.1)

  -- what a refused step works out
  pub next_refused : (v : ℕ) → v ≡ refusal → v ≢ 0 → stays_of last position age v ≡ next_of last h position age m n tick
  unfolding next_of
  next_refused zero e ne = absurd (ne refl)
  next_refused (suc v) e ne = rw (← e)

  -- what any other works out
  pub next_taken : 0 ≡ refusal → advanced h position age m tick (elapsed_of tick last) ≡ next_of last h position age m n tick
  unfolding next_of
  next_taken e = rw (← e)

  -- the four cells of a step lie in the table's room
  at_le : (v : ℕ) → v ≡ refusal → (next_of last h position age m n tick).at ≤ 4092
  unfolding next_of
  at_le zero e = rw (← e) (cells_at _ (in_time e).0)
  at_le (suc v) e = rw (← e) (omega arith)

  pub next_in : (next_of last h position age m n tick).at ≤ 4092
  next_in = at_le refusal refl
