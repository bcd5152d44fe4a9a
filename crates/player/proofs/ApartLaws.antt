-- A step that takes the record apart: what the clock works out of its numbers, shown with the four cells that the step reads, is the step of the record.
-- Assumes nothing.
use Prim.Native.Nat.{ℕ, zero, suc, ◌+◌, ◌*◌, ◌≤◌, ◌<◌}
use mathlib.Core.Path.{◌≡◌, refl, sym, ap, ◌∙◌}
use mathlib.Core.Logic.{◌≢◌}
use mathlib.Core.List.{List, [], ◌∷◌}
use native.Mathlib.Omega.{arith}
use lib.ListN.{take, drop}
use Rattle.std.proofs.lemmas.List.{get_or-take, get_or-drop}
use Rattle.laws.specs.Lists.{nth}
use Rattle.laws.proofs.ListLaws.{tab_same}
use Rattle.clock.specs.declared.Next.{Next}
use Rattle.clock.specs.Clock.{stays_of, step_refusal, next_of, cell_of, shown_of}
use Rattle.clock.proofs.StepLaws.{next_in}
use Rattle.player.specs.declared.Player.{Player}
use Rattle.player.specs.Player.{cells_of, worked_out, stored, stepped, after_step}

module _ (p : Player) (tick : ℕ) where
  -- a refused step
  pub step_refused : (v : ℕ) → stays_of p.last p.position p.age v ≡ worked_out p tick → v ≢ 0
      → (record { verdict = v; cells = 0 ∷ 0 ∷ 0 ∷ 0 ∷ []; missed = 0 } ≡ stepped p tick) × (p ≡ after_step p tick)
  unfolding stepped after_step
  step_refused zero e x = absurd (x refl)
  step_refused (suc v) e x = (rw (← e), rw (← e))

  -- a step that is not refused begins at the cells of its position
  at_is : (v : ℕ) → v ≡ step_refusal p.last p.h p.position p.age p.m p.n tick → (worked_out p tick).verdict ≡ 0
      → (worked_out p tick).at ≡ (worked_out p tick).position * p.m
  unfolding next_of
  at_is zero e z = rw (← e)
  at_is (suc v) e z = let k : suc v ≡ 0 = rw (← e) at z in absurd (omega arith)

  -- what any other reads, answers and stores
  module _ (x : Next) (e : record { last = x.last; missed = x.missed; at = x.at; position = x.position.0; age = x.age.0; verdict = 0 } ≡ worked_out p tick) where
    pub reads_in : x.at ≤ 4092
    reads_in = omega (arith, ap (λ w. w.at) e, next_in p.last p.h p.position p.age p.m p.n tick)

    -- the cells
    place : x.at ≡ x.position.0 * p.m
    place = ap (λ w. w.at) e ∙ at_is _ refl (sym (ap (λ w. w.verdict) e)) ∙ ap (λ w. w.position * p.m) (sym e)

    read : (n : ℕ) → n ≡ 4 → (j : ℕ) → j < 4 → nth (take n (drop x.at p.table)) j ≡ nth p.table (x.position.0 * p.m + j)
    read n h j l = get_or-take n (drop x.at p.table) j 0 (omega arith) ∙ get_or-drop x.at p.table j 0 ∙ ap (λ a. nth p.table (a + j)) place

    pub answers : (n : ℕ) → n ≡ 4 → (cells : List ℕ) → cells ≡ take n (drop x.at p.table)
        → record { verdict = 0; cells = (shown_of x p.m p.n p.offsets cells).cells; missed = x.missed } ≡ stepped p tick
    unfolding stepped after_step cells_of
    answers n h cells c = rw (← e) (ap (λ s. record { verdict = 0; cells = s; missed = x.missed })
        (tab_same 4 _ _ (λ j l. ap (cell_of p.m p.n x.age.0 p.offsets j) (ap (λ s. nth s j) c ∙ read n h j l))))

    pub stores : stored p (record { last = x.last; missed = x.missed; at = x.at; position = x.position.0; age = x.age.0; verdict = 0 }) ≡ after_step p tick
    unfolding after_step
    stores = ap (stored p) e
