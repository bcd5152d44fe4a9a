-- The record of a start, moved on: steps that are in time add up, and the record shows the table's cells of its time.
-- Assumes nothing.
use Prim.Native.Nat.{ℕ, zero, suc, ◌+◌, ◌*◌, ◌-◌, ◌%◌, ◌^◌, ◌≤◌, ◌<◌, min}
use mathlib.Core.Path.{◌≡◌, sym, ap, ◌∙◌}
use mathlib.Core.Logic.{⊎_elim}
use mathlib.Core.List.{List}
use native.Mathlib.Omega.{arith}
use native.Mathlib.Nat.{mod-eq_of_lt, mul-le-mul, add-zero, zero-add}
use lib.ListN.{length}
use Rattle.laws.specs.Lists.{nth}
use Rattle.laws.proofs.SumLaws.{lt_or_ge}
use Rattle.laws.proofs.ListLaws.{tab_same}
use Rattle.tasks.specs.declared.Task.{Task}
use Rattle.tasks.specs.Task.{task}
use Rattle.tasks.specs.Refusal.{table_length}
use Rattle.tasks.proofs.SoundLaws.{SoundList}
use Rattle.clock.specs.Clock.{shown_cell, cell_of}
use Rattle.clock.proofs.ShownLaws.{shown_beyond, shown_idle, age_tells}
use Rattle.clock.proofs.StepLaws.{Unspoilt}
use Rattle.clock.proofs.ClockLaws.{tick_after, moved_on}
use Rattle.player.specs.declared.Player.{Player}
use Rattle.player.specs.Player.{cells_of, stepped, after_step, record_of}
use Rattle.player.specs.Played.{shown_as, shown_at}
use Rattle.player.proofs.ArrayLaws.{padded_at}
use Rattle.player.proofs.PlayLaws.{cell_lt}

-- ---- the record moved on
-- its numbers are in range
abbrev pub IsUnspoilt : Player → Type 0
IsUnspoilt p = Unspoilt p.h p.position p.age p.m p.n

-- a record moved on by s slots: position modulo H, age not past 1024, last modulo 2^32
abbrev pub moved : Player → ℕ → Player
moved p s = record {
  last = tick_after p.last s;
  h = p.h;
  position = (p.position + s) % p.h;
  age = min (p.age + s) 1024;
  offsets = p.offsets;
  m = p.m;
  n = p.n;
  table = p.table;
}

module _ (p : Player) (u : IsUnspoilt p) where
  module _ (s e : ℕ) (l : e < 2 ^ 31) where
    -- a step that is in time moves the record on
    pub moved_step : after_step (moved p s) (tick_after (moved p s).last e) ≡ moved p (s + e)
    unfolding after_step
    moved_step = rw (moved_on u p.last s e l)

    -- and answers for that slot
    pub moved_answer : stepped (moved p s) (tick_after (moved p s).last e) ≡ record { verdict = 0; cells = cells_of (moved p (s + e)); missed = e - 1 }
    unfolding stepped after_step
    moved_answer = rw (moved_on u p.last s e l)

  -- a record moved on by no slot is as it was
  pub moved_none : p.last < 2 ^ 32 → moved p 0 ≡ p
  moved_none l = same (omega arith) (ap (λ x. x % p.h) (add-zero p.position) ∙ mod-eq_of_lt u.in_table) (omega arith)
    where
      same : {a b c : ℕ} → a ≡ p.last → b ≡ p.position → c ≡ p.age
          → ◌≡◌ {A = Player} (record { last = a; h = p.h; position = b; age = c; offsets = p.offsets; m = p.m; n = p.n; table = p.table }) p
      same x y z = rw (x, y, z)

-- ---- the cells of a start's record
module _ {m : ℕ} {ts : List Task} (s : SoundList m ts) (table : List ℕ) (τ : ℕ) where
  abbrev made : Player
  made = record_of m ts table τ

  -- the record of a start is not spoilt
  pub made_unspoilt : IsUnspoilt made
  unfolding record_of
  made_unspoilt = record {
    some_slot = s.some_slot;
    few_slots = s.few_slots;
    some_core = s.some_core;
    few_cores = s.few_cores;
    some_task = s.some_task;
    few_tasks = s.few_tasks;
    in_table = s.some_slot;
    age_le = omega arith;
  }

  -- it holds the table's cells
  made_cell : (c : ℕ) → c < table_length ts * m → nth made.table c ≡ nth table c
  unfolding record_of
  made_cell c l = padded_at 4096 (table_length ts * m) (nth table) c (omega (arith, mul-le-mul s.few_slots s.few_cores)) l

  -- and the tasks' offsets
  made_offset : (k : ℕ) → k < length ts → nth made.offsets k ≡ (task ts (suc k)).offset.0
  unfolding record_of
  made_offset k l = padded_at 16 (length ts) _ k (omega (arith, s.few_tasks)) l

  -- a known cell is shown by its record as by its time
  made_shown : (t j v : ℕ) → v ≤ length ts → cell_of m (length ts) (min t 1024) made.offsets j v ≡ shown_as m ts t j v
  made_shown t j zero l = shown_idle m (length ts) (min t 1024) _ j ∙ sym (shown_idle m (length ts) t _ j)
  made_shown t j (suc v) l =
      ap (λ o. shown_cell m (length ts) (min t 1024) o j (suc v)) (made_offset v l)
      ∙ age_tells m (length ts) t _ j (suc v) (omega (arith, (s.in_range (suc v) (omega arith) l).offset_le))

  -- the cells at a time
  pub made_cells : ((c : ℕ) → c < table_length ts * m → nth table c ≤ length ts) → (t : ℕ) → cells_of (moved made t) ≡ shown_at m ts table t
  unfolding cells_of record_of
  made_cells known t = rw zero-add (tab_same 4 _ _ (λ j _. ⊎_elim
      (λ l. let c = cell_lt s t j l in ap (cell_of m (length ts) (min t 1024) made.offsets j) (made_cell _ c) ∙ made_shown t j _ (known _ c))
      (λ l. shown_beyond m (length ts) (min t 1024) _ j _ l ∙ sym (shown_beyond m (length ts) t _ j _ l))
      (lt_or_ge j m)))
