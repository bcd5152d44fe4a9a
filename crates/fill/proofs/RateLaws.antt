-- The grid's sets, task by task, and the tests of rates that they and rule B's marks stand for.
-- Assumes nothing.
use Prim.Native.Nat.{ℕ, zero, suc, ◌+◌, ◌*◌, ◌^◌, ◌≤◌, ◌<◌}
use native.Mathlib.Omega.{arith}
use native.Mathlib.Nat.{add-zero, zero-add, lt_of_lt_of_le, pow-le-pow_right}
use mathlib.Core.Path.{◌≡◌, refl, sym, ap, ap₂, subst, ◌∙◌}
use mathlib.Core.Bool.{Bool, true, false, ◌&&◌}
use mathlib.Core.List.{List, [], ◌∷◌, ◌++◌}
use lib.Dec.{ltb}
use lib.ListN.{length, get_or, length-append}
use lib.Seq.{ext_get_or}
use denote.Param.Members.{Mut}
use Rattle.std.proofs.lemmas.List.{append-nil, append_assoc, length_push, nil_from_length}
use Rattle.std.specs.Fn.{Called}
use Rattle.std.specs.Array.{IsFromFnResultFrom, IsFromFnResult}
use Rattle.std.specs.Bool.{MatchBool}
use Rattle.std.specs.List.{AllWithin, HoldsAt}
use Rattle.laws.specs.Lists.{nth, tab}
use Rattle.laws.specs.Tests.{all}
use Rattle.laws.proofs.SumLaws.{gate_le}
use Rattle.laws.proofs.ListLaws.{tab_length, tab_at}
use Rattle.laws.proofs.TestLaws.{all_true, all_false}
use Rattle.tasks.specs.Task.{task, no_task}
use Rattle.tasks.specs.declared.Rates.{Rates}
use Rattle.tasks.specs.declared.Task.{Task}
use Rattle.sets.specs.Sets.{pushed}
use Rattle.sets.proofs.SetLaws.{pushed_lt}
use Rattle.grid.specs.GridFor.{is_quick}
use Rattle.fill.specs.Grid.{sets_by, quick_bit, rated_bit, rated_row}

-- ---- sets of tasks by a rule that gives the bits of each
-- of all tasks some are to come, and the sets have those passed, from the last on
pub record Passed (bits : Task → ℕ) (whole rest : List Task) (s : ℕ) : Type 0 where
  pub ts : List Task
  pub split : whole ≡ rest ++ ts
  pub made : s ≡ sets_by bits ts

module _ {bits : Task → ℕ} {whole rest : List Task} where
  -- none was passed yet
  pub none_passed : rest ≡ whole → Passed bits whole rest 0
  unfolding sets_by
  none_passed e = record { ts = []; split = sym (append-nil rest ∙ e); made = refl }

  -- each was
  pub all_passed : {s : ℕ} → Passed bits whole rest s → length rest ≡ 0 → s ≡ sets_by bits whole
  all_passed h z = h.made ∙ ap (sets_by bits) (sym (h.split ∙ ap (λ r. r ++ h.ts) (nil_from_length rest z)))

  -- one is, the last of those to come
  module _ {s : ℕ} (h : Passed bits whole rest s) (more : List Task) (τ : Task) (last : rest ≡ more ++ (τ ∷ [])) where
    pub one_passed : (b r : ℕ) → b ≡ bits τ → r ≡ pushed s b → Passed bits whole more r
    unfolding sets_by
    one_passed b r eb er = record {
      ts = τ ∷ h.ts;
      split = h.split ∙ ap (λ rest. rest ++ h.ts) last ∙ append_assoc more (τ ∷ []) h.ts;
      made = er ∙ ap₂ pushed h.made eb;
    }

    -- n tasks have 4 * n bits
    sets_lt : ((τ : Task) → bits τ < 16) → (ts : List Task) → sets_by bits ts < 16 ^ length ts
    unfolding sets_by
    sets_lt few [] = omega arith
    sets_lt few (τ ∷ ts) = pushed_lt (sets_by bits ts) (bits τ) (length ts) (sets_lt few ts) (few τ)

    -- so of sixteen tasks there is room for it
    pub room_passed : ((τ : Task) → bits τ < 16) → length whole ≤ 16 → s < 2 ^ 60
    room_passed few l =
        let most : length h.ts ≤ 15 = omega (arith, ap length h.split, length-append rest h.ts, ap length last, length_push more τ) in
        rw h.made (lt_of_lt_of_le (sets_lt few h.ts) (pow-le-pow_right (omega arith) {j = 15} most))

-- ---- an array made by calls that leave the closure as it is, and answer by a rule
module _ {F B : Type 0} (g : Mut F (ℕ × Unit {0}) B) (f : F) (h : ℕ → B)
    (call : (i : ℕ) (y : B) (q : F) → Called g f (i, tt) y q → (q ≡ f) × (y ≡ h i)) where
  made_at : (ys : List B) (d : B) (n i k : ℕ) (p : F) → p ≡ f → IsFromFnResultFrom g p ys i n → k < n → get_or ys (i + k) d ≡ h (i + k)
  made_at ys d zero i k p e made l = absurd (omega arith)
  made_at ys d (suc n) i zero p e made l =
      let one = call i made.1 made.0 (subst (λ p. Called g p (i, tt) made.1 made.0) e made.3) in
      ap (λ k. get_or ys k d) (add-zero i) ∙ made.2.1 d ∙ one.1 ∙ ap h (sym (add-zero i))
  made_at ys d (suc n) i (suc k) p e made l =
      let one = call i made.1 made.0 (subst (λ p. Called g p (i, tt) made.1 made.0) e made.3) in
      let next : i + suc k ≡ i + 1 + k = omega arith in
      ap (λ k. get_or ys k d) next ∙ made_at ys d n (i + 1) k made.0 one.0 made.4 (omega arith) ∙ ap h (sym next)

  pub made_by : (ys : List B) (d : B) (n : ℕ) → IsFromFnResult g f ys n → ys ≡ tab n h
  made_by ys d n made = ext_get_or d ys (tab n h) (made.long ∙ sym (tab_length n h)) (λ k l.
      let k<n : k < n = rw made.long at l in
      ap (λ k. get_or ys k d) (sym (zero-add k)) ∙ made_at ys d n 0 k f refl made.each k<n ∙ ap h (zero-add k) ∙ sym (tab_at n h k d k<n))

-- ---- a test of each task, as an iterator tells it
pub all_told : (test : Task → Bool) (ts : List Task) (r : Bool)
    → MatchBool r (AllWithin (λ τ. test τ ≡ true) ts 0 (length ts)) ((k : ℕ) × (k < length ts) × HoldsAt (λ τ. test τ ≡ false) ts k)
    → r ≡ all (length ts) (λ v. test (task ts (suc v)))
all_told test ts true each = sym (all_true (length ts) _ (λ k l. each k no_task (omega arith) l))
all_told test ts false one = sym (all_false (length ts) _ one.0 one.1 (one.2 no_task))

-- ---- the bits of a task
-- of a test that the quick engine alone makes
module _ (e : ℕ) (b : Bool) where
  pub quick_few : quick_bit e b < 16
  unfolding quick_bit
  quick_few = omega (arith, gate_le (is_quick e && b) 1)

-- of positive rates
module _ (r : Rates) where
  -- a bit is 1 at most
  pub bit_le : (j : ℕ) → rated_bit (nth r.0 j) ≤ 1
  unfolding rated_bit
  bit_le j = gate_le (ltb 0 (nth r.0 j)) 1

  pub rated_few : rated_row r < 16
  unfolding rated_row
  rated_few = omega (arith, bit_le 0, bit_le 1, bit_le 2, bit_le 3)

  -- those that are told are the task's
  pub rated_told : (a b c d : ℕ)
      → a ≡ rated_bit (nth r.0 0) → b ≡ rated_bit (nth r.0 1) → c ≡ rated_bit (nth r.0 2) → d ≡ rated_bit (nth r.0 3)
      → a + 2 * b + 4 * c + 8 * d ≡ rated_row r
  unfolding rated_row
  rated_told a b c d ea eb ec ed = rw (ea, eb, ec, ed)
