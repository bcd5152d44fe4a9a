-- A valid table, played, serves each task: from its offset on a task is shown exactly where it stands, so each of its windows gets at least the work of the window's job.
-- Assumes nothing.
use Prim.Native.Nat.{ℕ, ◌+◌, ◌*◌, ◌-◌, ◌/◌, ◌%◌, ◌≤◌, ◌<◌}
use mathlib.Core.Path.{◌≡◌, refl, sym, ◌∙◌}
use mathlib.Core.Logic.{◌≢◌}
use mathlib.Core.Bool.{Bool, true, false, ◌&&◌}
use mathlib.Core.List.{List}
use native.Mathlib.Omega.{arith}
use native.Mathlib.Decide.{ℕ_discrete}
use native.Mathlib.Nat.{mod-lt, mul-le-mul_right}
use lib.Dec.{eqb, ltb→lt}
use lib.ListN.{length}
use lib.Arith.{digits_div, digits_mod}
use Rattle.laws.specs.Sum.{gate, sum}
use Rattle.laws.proofs.SumLaws.{gate_ne, sum_ext, sum_gate, sum_nested, sum_stays}
use Rattle.tasks.specs.declared.Task.{Task}
use Rattle.tasks.specs.Task.{rate, task}
use Rattle.tasks.specs.Refusal.{table_length}
use Rattle.tasks.specs.Window.{is_jobs, done_in, InWindow, Cyclic}
use Rattle.tasks.specs.Instance.{instance_of, own_instance}
use Rattle.tasks.proofs.WindowLaws.{work_at_lem, open_window}
use Rattle.tasks.proofs.SoundLaws.{SoundList, length_whole, sound_cyclic}
use Rattle.table.specs.Table.{share, done, Valid}
use Rattle.clock.proofs.ShownLaws.{shown_own, shown_is, shown_beyond}
use Rattle.player.specs.Played.{shown_as}

-- ---- the work of a job, slot by slot
-- two gates, the second outermost
gate_and : (a b : Bool) (x : ℕ) → gate (a && b) x ≡ gate b (gate a x)
unfolding gate
gate_and true true x = refl
gate_and true false x = refl
gate_and false true x = refl
gate_and false false x = refl

-- the units that task i does in slot t: the rates of its cells
abbrev units : ℕ → List Task → (ℕ → ℕ) → ℕ → ℕ → ℕ
units m ts f i t = sum m (λ j. gate (eqb (f (t * m + j)) i) (rate (task ts i) j))

-- what a table's cells do for a job is what its slots do
done_work : (L m : ℕ) (ts : List Task) (f : ℕ → ℕ) (i k : ℕ)
    → done (instance_of L m ts) (L * m) f i k ≡ done_in L (task ts i).offset.0 (task ts i).deadline.0 (task ts i).period.0 k (units m ts f i)
unfolding done share instance_of is_jobs
done_work L m ts f i k =
    sym (sum_nested L m _)
    ∙ sum_ext L _ _ (λ t l. sum_ext m _ _ (λ j n. rw (digits_div t n, digits_mod t n) (gate_and (eqb (f (t * m + j)) i) _ _)) ∙ sum_gate _ m _)

-- ---- a valid table, played
module _ {m : ℕ} {ts : List Task} (s : SoundList m ts) where
  -- the cell of core j at a time
  abbrev cell_at : ℕ → ℕ → ℕ
  cell_at t j = t % table_length ts * m + j

  -- it is one of the table's
  pub cell_lt : (t j : ℕ) → j < m → cell_at t j < table_length ts * m
  cell_lt t j l = omega (arith, mul-le-mul_right m (mod-lt t s.some_slot))

  module _ (f : ℕ → ℕ) (v : Valid (own_instance m ts) f) (i : ℕ) (x : i ≢ 0) (l : i ≤ length ts) where
    -- the windows of the task
    windows : Cyclic (table_length ts) (task ts i).deadline.0 (task ts i).period.0 (table_length ts / (task ts i).period.0)
    windows = sound_cyclic s (length_whole s) i x l

    -- from its offset on, the task is shown exactly where it stands
    shown_late : (t j r : ℕ) → j < m → (task ts i).offset.0 ≤ t → gate (eqb (shown_as m ts t j (f (cell_at t j))) i) r ≡ gate (eqb (f (cell_at t j)) i) r
    shown_late t j r n late = elim (ℕ_discrete (f (cell_at t j)) i) [
      | yes e ↦ rw (e, shown_own m (length ts) t (task ts i).offset.0 j i l late n)
      | no y ↦ gate_ne _ i r (λ e. y (shown_is m (length ts) t _ j _ i x e).0) ∙ sym (gate_ne _ i r y)
    ]

    -- and on no core that the board lacks
    shown_lacking : (t j w r : ℕ) → m ≤ j → gate (eqb (shown_as m ts t j w) i) r ≡ 0
    shown_lacking t j w r n = rw (shown_beyond m (length ts) t (task ts w).offset.0 j w n) (gate_ne 0 i r (λ e. x (sym e)))

    -- so it does what it does in that slot
    units_late : (t : ℕ) → (task ts i).offset.0 ≤ t → sum 4 (λ j. gate (eqb (shown_as m ts t j (f (cell_at t j))) i) (rate (task ts i) j)) ≡ units m ts f i (t % table_length ts)
    units_late t late =
        sum_stays m 4 _ s.few_cores (λ j n _. shown_lacking t j (f (cell_at t j)) (rate (task ts i) j) n)
        ∙ sum_ext m _ _ (λ j n. shown_late t j _ n late)

    -- each window gets at least the work of its job
    pub plays_work : (K : ℕ) → (task ts i).work.0 ≤ sum (task ts i).deadline.0 (λ u. let t = (task ts i).offset.0 + (K * (task ts i).period.0 + u) in
        sum 4 (λ j. gate (eqb (shown_as m ts t j (f (cell_at t j))) i) (rate (task ts i) j)))
    unfolding instance_of
    plays_work K = omega (
      arith,
      sum_ext (task ts i).deadline.0 _ _ (λ u n. units_late ((task ts i).offset.0 + (K * (task ts i).period.0 + u)) (omega arith))
          ∙ sym (work_at_lem windows (task ts i).offset.0 K (units m ts f i))
          ∙ sym (done_work (table_length ts) m ts f i (K % (table_length ts / (task ts i).period.0))),
      v.full i (K % (table_length ts / (task ts i).period.0)) x l (mod-lt K windows.some_jobs),
    )

    module _ (t j : ℕ) (e : shown_as m ts t j (f (cell_at t j)) ≡ i) where
      -- a shown task stands there
      pub shown_stands : (f (cell_at t j) ≡ i) × ((task ts i).offset.0 ≤ t) × (j < m)
      shown_stands = let h = shown_is m (length ts) t _ j _ i x e in (h.0, rw h.0 at h.2, h.3)

      -- it is shown in its windows only
      pub plays_open : (K : ℕ) × InWindow (task ts i).offset.0 (task ts i).deadline.0 (task ts i).period.0 K t
      unfolding instance_of
      plays_open = let h = shown_stands in (
        (t - (task ts i).offset.0) / (task ts i).period.0,
        open_window windows (task ts i).offset.0 t h.1 (ltb→lt _ _
            (rw (h.0, digits_div (t % table_length ts) h.2) at (v.open_there (cell_at t j) (cell_lt t j h.2) (λ z. x (sym h.0 ∙ z))))),
      )

      -- and on cores with a positive rate for it
      pub plays_rated : 0 < rate (task ts i) j
      unfolding instance_of
      plays_rated = let h = shown_stands in
          rw (h.0, digits_mod (t % table_length ts) h.2) at (v.rated (cell_at t j) (cell_lt t j h.2) (λ z. x (sym h.0 ∙ z)))

      -- and on no second core
      pub plays_once : (j' : ℕ) → j ≢ j' → shown_as m ts t j' (f (cell_at t j')) ≡ i → ⊥
      unfolding instance_of
      plays_once j' ne e' = let h = shown_stands in
          let h' = shown_is m (length ts) t _ j' _ i x e' in
          x (sym h.0 ∙ v.once (cell_at t j) (cell_at t j') (cell_lt t j h.2) (cell_lt t j' h'.3) (λ q. ne (omega arith))
          (digits_div (t % table_length ts) h.2 ∙ sym (digits_div (t % table_length ts) h'.3)) (h.0 ∙ sym h'.0))
