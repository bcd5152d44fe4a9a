-- The quick walk: rules A and B hide no first table, since an exchange would make a table that comes before it. So its verdict and table are the plain walk's, at no more tries.
-- Assumes nothing.
use Prim.Native.Nat.{ℕ, zero, suc, ◌-◌, ◌≤◌, ◌<◌}
use native.Mathlib.Nat.{le_refl, mod-lt}
use native.Mathlib.Decide.{dec_lt, dec_le}
use native.Mathlib.Omega.{arith}
use mathlib.Core.Path.{◌≡◌, refl, ap, sym, ◌∙◌}
use mathlib.Core.Logic.{◌≢◌}
use mathlib.Core.Bool.{not}
use mathlib.Core.List.{List, [], ◌∷◌}
use lib.Dec.{T, ltb, eqb, le→leb, ltb→lt, lt→ltb, eqb→eq, not_T}
use lib.ListN.{length, take}
use lib.Seq.{length-take-le, get_or-take}
use Rattle.laws.specs.Tests.{Holds}
use Rattle.laws.specs.Lists.{nth, tab}
use Rattle.laws.proofs.SumLaws.{sum_more, Grows}
use Rattle.laws.proofs.TestLaws.{every_holds, holds_every, all_at, at_all, all_same, imp_use, imp_make}
use Rattle.laws.proofs.ListLaws.{tab_length, tab_at}
use Rattle.laws.proofs.OrderLaws.{before_at, rank_zero}
use Rattle.tasks.specs.Instance.{Instance, Regular}
use Rattle.table.specs.Table.{cells, slot_of, core_of, beside, share, done, Valid, Table}
use Rattle.table.proofs.JobLaws.{slot_job}
use Rattle.table.proofs.ShareLaws.{share_own, share_some}
use Rattle.table.proofs.TableLaws.{slot_there, slot_le, beside_slot, beside_core, beside_before, free_apart, valid_same}
use Rattle.table.proofs.SwapLaws.{swapped, Moves, Alone, swapped_a, swapped_other, twins_valid, move_valid}
use Rattle.rules.specs.Rules.{tests, permitted, plain, values, rank, even_rates, twin, idle_tried, rule_a, rule_b, quickly, quick}
use Rattle.rules.specs.Right.{Clean, Passes, First, Stricter, Quicker}
use Rattle.rules.specs.Search.{walked}
use Rattle.rules.proofs.Cells.{clean_passes, passes_clean}
use Rattle.rules.proofs.Skip.{skip}
use Rattle.rules.proofs.Plain.{permitted_holds, permitted_needed, permitted_same, valid_walked, clean_table, table_clean, values_rising}

-- no valid table comes before f: none has f's cells before a and a value of lower rank in cell a
Least : Instance → (ℕ → ℕ) → Type 0
Least P f = (g : ℕ → ℕ) (a : ℕ) → Valid P g → a < cells P → ((d : ℕ) → d < a → g d ≡ f d) → rank P (g a) < rank P (f a) → ⊥

-- the first valid table, by its cells
first_least : (P : Instance) (t : List ℕ) → First (rank P) (Table P) t → Least P (nth t)
unfolding Least
first_least P t (h, least) g a v l same less = least (tab (cells P) g)
    (record {
      size = tab_length (cells P) g;
      valid = valid_same P g (nth (tab (cells P) g)) (λ c n. sym (tab_at (cells P) g c 0 n)) v;
    })
    (before_at (rank P) a (tab (cells P) g) t (rw tab_length l) (omega (arith, h.size))
    (λ d n. tab_at (cells P) g d 0 (omega arith) ∙ same d n) (rw (tab_at (cells P) g a 0 l) less))

-- twins have the same rates
twin_rates : (P : Instance) (a b : ℕ) → T (twin P a b) → (i : ℕ) → i ≢ 0 → i ≤ P.tasks → P.rate i a ≡ P.rate i b
unfolding twin
twin_rates P a b t zero x l = absurd (x refl)
twin_rates P a b t (suc i) x l = eqb→eq (P.rate (suc i) a) (P.rate (suc i) b) (all_at P.tasks _ t i l)

-- the positive rates of a task with even rates are the same
even_rates_lem : (P : Instance) (i : ℕ) → T (even_rates P i) → (a b : ℕ) → a < P.cores → b < P.cores → 0 < P.rate i a → 0 < P.rate i b → P.rate i a ≡ P.rate i b
unfolding even_rates
even_rates_lem P i t a b la lb ra rb = eqb→eq (P.rate i a) (P.rate i b)
    (imp_use (ltb 0 (P.rate i b)) (eqb (P.rate i a) (P.rate i b))
    (imp_use (ltb 0 (P.rate i a)) _ (all_at P.cores _ (all_at P.cores _ t a la) b lb) (lt→ltb 0 (P.rate i a) ra)) (lt→ltb 0 (P.rate i b) rb))

module _ (P : Instance) (regular : Regular P) (f : ℕ → ℕ) (v : Valid P f) (least : Least P f) (c : ℕ) (l : c < cells P) where
  -- the first table has twins in order: exchanged, they make a table that comes before it
  twins_ordered : (d : ℕ) → d < c → slot_of P d ≡ slot_of P c → T (twin P (core_of P d) (core_of P c)) → rank P (f d) ≤ rank P (f c)
  unfolding Least
  twins_ordered d i s t = elim (dec_le (rank P (f d)) (rank P (f c))) [
    | yes h ↦ h
    | no x ↦ absurd (least (swapped d c f) d
        (twins_valid P f d c i l v regular.some_core s (twin_rates P (core_of P d) (core_of P c) t)) (omega arith)
        (λ e j. swapped_other d c f e (omega arith) (omega arith)) (rw swapped_a (omega arith)))
  ]

  -- rule B bars no value of the first table
  keeps_B : T (rule_b P c f (f c))
  unfolding rule_b
  keeps_B = at_all (core_of P c) _ (λ j i. imp_make (twin P j (core_of P c)) _ (λ t.
      le→leb (rank P (f (beside P c j))) (rank P (f c))
      (twins_ordered (beside P c j) (beside_before P c j i) (beside_slot P regular.some_core c j i) (rw (beside_core P regular.some_core c j i) t))))

  module _ (z : f c ≡ 0) (i : ℕ) (x : i ≢ 0) (n : i ≤ P.tasks) (h : Holds (tests P c f i)) (e : T (even_rates P i)) where
    -- a task that is permitted in an idle cell stands in a later cell for the same job
    later_cell : Grows (λ d. share P i (P.job i (slot_of P c)) d (f d)) c (cells P)
    unfolding tests done
    later_cell = sum_more (cells P - c) c (cells P) (λ d. share P i (P.job i (slot_of P c)) d (f d)) (omega arith) (omega (
      arith,
      v.full i (P.job i (slot_of P c)) x n (regular.job_there i (slot_of P c) x n (slot_there P regular.some_core c l)),
      permitted_needed P c f i h,
    ))

    module _ (b : ℕ) (cb : c ≤ b) (lb : b < cells P) (fb : f b ≡ i) (jb : P.job i (slot_of P b) ≡ P.job i (slot_of P c))
        (before : (d : ℕ) → c ≤ d → d < b → share P i (P.job i (slot_of P c)) d (f d) ≡ 0) where
      -- the task would do in the idle cell what it does in that later cell
      later_moves : Moves P (f b) b c
      unfolding tests
      later_moves = rw fb (record {
        open_there = h.1.0;
        rated = ltb→lt 0 (P.rate i (core_of P c)) h.1.1.0;
        same_job = jb;
        same_rate = even_rates_lem P i e (core_of P b) (core_of P c) (mod-lt b regular.some_core) (mod-lt c regular.some_core)
            (rw fb at (v.rated b lb (omega arith))) (ltb→lt 0 (P.rate i (core_of P c)) h.1.1.0);
      })

      -- it stands in no cell between the two for that job
      later_next : (d : ℕ) → c ≤ d → d < b → f d ≡ i → P.job i (slot_of P d) ≢ P.job i (slot_of P c)
      later_next d m w q j = omega (arith, before d m w, own, rw q at (v.rated d (omega arith) (omega arith)))
        where
          own : share P i (P.job i (slot_of P c)) d (f d) ≡ P.rate i (core_of P d)
          own = rw (← j, q) (share_own P i d (rw q at (v.open_there d (omega arith) (omega arith))))

      -- and in no other cell of the idle cell's slot
      later_alone : Alone P f c b
      unfolding tests
      later_alone d ld dc db s q = elim (dec_lt d c) [
        | yes m ↦ absurd (free_apart P c f i h.1.1.1.0 d m s (q ∙ fb))
        | no y ↦ elim (dec_lt d b) [
          | yes m ↦ absurd (later_next d (omega arith) m (q ∙ fb) (ap (P.job i) s))
          | no w ↦ v.once b d lb ld (omega arith)
              (omega (arith, slot_le P regular.some_core c b cb, slot_le P regular.some_core b d (omega arith))) (sym q)
        ]
      ]

      -- moved there it makes a table that comes before
      later_before : ⊥
      unfolding Least
      later_before = least (swapped c b f) c
          (move_valid P f c b after lb v z later_moves later_alone (λ d m w _ q. rw (q ∙ fb) (later_next d (omega arith) w (q ∙ fb)))) l
          (λ d j. swapped_other c b f d (omega arith) (omega arith)) (rw (swapped_a, fb, z) (rank_zero P.tasks i x n))
        where
          after : c < b
          after = let y : c ≢ b = λ q. x (sym fb ∙ ap f (sym q) ∙ z) in omega arith

    -- so a first table has no such cell
    moved : ⊥
    moved =
        let g = later_cell in
        let o = share_some P i (P.job i (slot_of P c)) g.place (f g.place) g.some in
        later_before g.place g.from g.under o.0 (slot_job P i (P.job i (slot_of P c)) (slot_of P g.place) o.1).1 g.none_before

  -- rule A bars no idle cell of the first table
  keeps_idle : f c ≡ 0 → T (idle_tried P c f)
  unfolding idle_tried
  keeps_idle z = at_all P.tasks _ (λ i n. imp_make (permitted P c f (suc i)) (not (even_rates P (suc i))) (λ p. not_T (even_rates P (suc i)) (λ e.
      moved z (suc i) (omega arith) n (permitted_holds P c f (suc i) (omega arith) p) e)))

  -- nor any other value
  keeps_A : (u : ℕ) → f c ≡ u → T (rule_a P c f u)
  unfolding rule_a
  keeps_A zero z = keeps_idle z
  keeps_A (suc u) q = tt

-- the rules look at the first c cells only
module _ (P : Instance) (c : ℕ) (f g : ℕ → ℕ) (same : (d : ℕ) → d < c → f d ≡ g d) where
  -- rule A
  rule_a_same : (u : ℕ) → rule_a P c f u ≡ rule_a P c g u
  unfolding rule_a idle_tried
  rule_a_same zero = all_same P.tasks _ _ (λ i l. rw (permitted_same P c f g same (suc i)))
  rule_a_same (suc u) = refl

  -- rule B
  rule_b_same : (u : ℕ) → rule_b P c f u ≡ rule_b P c g u
  unfolding rule_b
  rule_b_same u = all_same (core_of P c) _ _ (λ j l. rw (same (beside P c j) (beside_before P c j l)))

  -- the quick rule
  pub quickly_same : (u : ℕ) → quickly P c f u ≡ quickly P c g u
  unfolding quickly
  quickly_same u = rw (permitted_same P c f g same u, rule_a_same u, rule_b_same u)

-- the quick rule is stricter than the plain rule
quick_stricter : (P : Instance) → Stricter (quick P) (plain P)
unfolding quickly
quick_stricter P = record {
  tried = λ p u t. (every_holds (permitted P (length p) (nth p) u ∷ rule_a P (length p) (nth p) u ∷ rule_b P (length p) (nth p) u ∷ []) t).0;
  goes_on = λ p t. t;
  cost = λ p u. le_refl 1;
}

-- the quick rule at a prefix of a table is the rule at the table's cells
pub prefix_quickly : (P : Instance) (c : ℕ) (t : List ℕ) → c ≤ length t → (u : ℕ) → quickly P (length (take c t)) (nth (take c t)) u ≡ quickly P c (nth t) u
prefix_quickly P c t l u = rw (length-take-le c t l) (quickly_same P c (nth (take c t)) (nth t) (λ d i. get_or-take c t d 0 i) u)

-- the quick walk tries each cell of the first table
first_quickly : (P : Instance) → Regular P → (f : ℕ → ℕ) → Valid P f → Least P f → (c : ℕ) → c < cells P → T (quickly P c f (f c))
unfolding quickly
first_quickly P regular f v least c l = holds_every (permitted P c f (f c) ∷ rule_a P c f (f c) ∷ rule_b P c f (f c) ∷ [])
    ((valid_walked P regular f v).tried c l, (keeps_A P regular f v least c l (f c) refl, (keeps_B P regular f v least c l, tt)))

-- what is first of the tables that the plain rule lets pass is the first valid table
first_table : (P : Instance) → Regular P → (t : List ℕ) → First (rank P) (Clean (plain P) (values P) (cells P) []) t → First (rank P) (Table P) t
first_table P regular t h = (clean_table P regular t h.0, λ s g. h.1 s (table_clean P regular s g))

-- the quick rule lets the first table pass
quick_keeps : (P : Instance) → Regular P → (t : List ℕ) → First (rank P) (Clean (plain P) (values P) (cells P) []) t → Clean (quick P) (values P) (cells P) [] t
quick_keeps P regular t h = passes_clean {R = quick P} (cells P) [] t (record {
  size = p.size;
  goes = p.goes;
  known = p.known;
  tried = λ c l. rw (prefix_quickly P c t (omega (arith, p.size)) (nth t c))
      (first_quickly P regular (nth t) g.0.valid (first_least P t g) c l);
})
  where
    p : Passes (plain P) (values P) (cells P) [] t
    p = clean_passes (cells P) [] t h.0

    g : First (rank P) (Table P) t
    g = first_table P regular t h

-- the quick walk has the plain walk's verdict and table, at no more tries
pub quick_same : (P : Instance) → Regular P → Quicker (walked 1 P) (walked 0 P)
quick_same P regular = skip (cells P) [] (values_rising P) (quick_stricter P) (quick_keeps P regular)
