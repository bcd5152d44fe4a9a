-- The values that the arrays let through are those that the engine's rule tries.
-- Assumes nothing.
use Prim.Native.Nat.{ℕ, zero, suc, ◌+◌, ◌*◌, ◌≤◌, ◌<◌, max}
use native.Mathlib.Omega.{arith}
use native.Mathlib.Numerals.{add-one}
use mathlib.Core.Path.{◌≡◌, refl, sym, ap, ap₂, ◌∙◌}
use mathlib.Core.Bool.{Bool, true, false, not, ◌&&◌}
use mathlib.Core.List.{List}
use lib.Dec.{leb, leb→le, le→leb}
use borrow.Author.Tests.{le-leb}
use lib.ListN.{length, take}
use Rattle.laws.specs.Sum.{gate}
use Rattle.laws.specs.Tests.{all, imp}
use Rattle.laws.specs.Lists.{nth}
use Rattle.laws.specs.Order.{rank_of}
use Rattle.laws.proofs.TestLaws.{both, make_both, all_same, all_true}
use Rattle.tasks.specs.Instance.{Instance}
use Rattle.table.specs.Table.{core_of, beside}
use Rattle.table.proofs.TableLaws.{beside_before}
use Rattle.rules.specs.Rules.{permitted, all_settled, rank, even_rates, twin, idle_tried, rule_a, rule_b, quickly}
use Rattle.rules.specs.Search.{rule_of}
use Rattle.rules.proofs.Plain.{prefix_permitted, prefix_settled}
use Rattle.rules.proofs.Quick.{prefix_quickly}
use Rattle.sets.specs.Sets.{has}
use Rattle.grid.specs.declared.Grid.{Grid}
use Rattle.grid.specs.Grid.{most, tasks_on, bars_idle, twin_rank_on, floor_on}
use Rattle.grid.specs.GridFor.{Small, GridFor}
use Rattle.grid.proofs.GridForLaws.{test_same, Sets, core_is, beside_at, permitted_is, bars_is}

-- ---- numbers and tests
-- the largest is at most x exactly if each is
leb_most : (n : ℕ) (g : ℕ → ℕ) (x : ℕ) → leb (most n g) x ≡ all n (λ j. leb (g j) x)
unfolding most
leb_most zero g x = le-leb 0 x (omega arith)
leb_most (suc n) g x = leb_max (most n g) (g n) ∙ ap (λ b. b && leb (g n) x) (leb_most n g x)
  where
    leb_max : (a b : ℕ) → leb (max a b) x ≡ leb a x && leb b x
    leb_max a b = test_same _ _
        (λ h. let l = leb→le (max a b) x h in make_both (leb a x) (leb b x) (le→leb a x (omega arith)) (le→leb b x (omega arith)))
        (λ h. let p = both (leb a x) (leb b x) h in le→leb (max a b) x (omega (arith, leb→le a x p.0, leb→le b x p.1)))

-- the rank on a twin is at most x
leb_twin : (b : Bool) (r x : ℕ) → leb (gate b r) x ≡ imp b (leb r x)
unfolding gate
leb_twin true r x = refl
leb_twin false r x = le-leb 0 x (omega arith)

-- the rank of idle is the highest
rank_last : (n v : ℕ) → v ≤ n → rank_of n v ≤ suc n
rank_last n zero l = omega arith
rank_last n (suc v) l = omega arith

-- two tests, the second of which passes
and_true : (b c : Bool) → c ≡ true → b && c ≡ b
and_true true c e = e
and_true false c e = refl

-- a test that does not fail
not_not : (b : Bool) → not (not b) ≡ b
not_not true = refl
not_not false = refl

-- what passes after any test
imp_true : (b : Bool) → imp b true ≡ true
imp_true true = refl
imp_true false = refl

-- rule B never bars idle
idle_ranked : (P : Instance) (c : ℕ) (f : ℕ → ℕ) → ((d : ℕ) → d < c → f d ≤ P.tasks) → rule_b P c f 0 ≡ true
unfolding rule_b
idle_ranked P c f known = all_true (core_of P c) _ (λ j lj.
    ap (imp (twin P j (core_of P c))) (le-leb _ _ (rank_last P.tasks (f (beside P c j)) (known (beside P c j) (beside_before P c j lj)))) ∙ imp_true (twin P j (core_of P c)))

-- what a try costs
pub cost_one : (P : Instance) (e : ℕ) (p : List ℕ) (v : ℕ) → (rule_of e P).cost p v ≡ 1
cost_one P zero p v = refl
cost_one P (suc e) p v = refl

-- where the walk goes on
pub goes_prefix : (P : Instance) (e c : ℕ) (t : List ℕ) → c ≤ length t → (rule_of e P).goes_on (take c t) ≡ all_settled P c (nth t)
goes_prefix P zero c t room = prefix_settled P c t room
goes_prefix P (suc e) c t room = prefix_settled P c t room

module _ {P : Instance} (small : Small P) (grid : Grid) {first slot core : ℕ} (ef : first ≡ slot * P.cores) (ls : slot < P.slots) (lc : core < P.cores)
    (t : List ℕ) (room : first + core ≤ length t) {sets : ℕ} (holds : Sets P slot core (first + core) (nth t) sets) where
  -- what the plain rule permits
  plain_is : {e : ℕ} → GridFor P e grid → (v : ℕ) → v < P.tasks → permitted P (length (take (first + core) t)) (nth (take (first + core) t)) (suc v) ≡ has sets v core
  plain_is ready v lv = prefix_permitted P (first + core) t room (suc v) ∙ sym (permitted_is small ready ef ls lc (nth t) holds v lv)

  -- the plain rule knows no twins
  floor_plain : GridFor P 0 grid → (v : ℕ) → leb (floor_on grid t first core) (v + 1) ≡ true
  unfolding floor_on twin_rank_on
  floor_plain ready v = leb_most core _ (v + 1) ∙ all_true core _ (λ j lj. rw (ready.twins core j lc lj) (leb_twin false (rank_of (tasks_on grid) (nth t (first + j))) (v + 1)))

  -- rule B
  floor_quick : {e : ℕ} → GridFor P (suc e) grid → (v x : ℕ) → rank P v ≡ x → leb (floor_on grid t first core) x ≡ rule_b P (first + core) (nth t) v
  unfolding floor_on twin_rank_on rule_b
  floor_quick ready v x ev = leb_most core _ x ∙ all_same core _ _ (λ j lj.
      rw (ready.twins core j lc lj, ready.tasks) (leb_twin (twin P j core) (rank P (nth t (first + j))) x)
      ∙ ap₂ (λ b y. imp b (leb (rank P (nth t y)) x)) (ap (twin P j) (sym (core_is small ready ef ls lc))) (sym (beside_at small ready ef ls lc j))
      ∙ ap (λ y. imp (twin P j (core_of P (first + core))) (leb (rank P (nth t (beside P (first + core) j))) y)) (sym ev))
      ∙ ap (λ n. all n (λ j. imp (twin P j (core_of P (first + core))) (leb (rank P (nth t (beside P (first + core) j))) (rank P v)))) (sym (core_is small ready ef ls lc))

  -- the tasks that are tried
  pub task_tried : (e : ℕ) → GridFor P e grid → (v : ℕ) → v < P.tasks
      → (rule_of e P).tried (take (first + core) t) (suc v) ≡ has sets v core && leb (floor_on grid t first core) (v + 1)
  unfolding quickly rule_a
  task_tried zero ready v lv = plain_is ready v lv ∙ sym (and_true _ _ (floor_plain ready v))
  task_tried (suc e) ready v lv = prefix_quickly P (first + core) t room (suc v)
      ∙ ap₂ (λ a b. a && (true && (b && true))) (sym (permitted_is small ready ef ls lc (nth t) holds v lv)) (sym (floor_quick ready (suc v) (v + 1) (sym (add-one v))))
      ∙ ap (λ b. has sets v core && b) (and_true _ true refl)

  -- whether idle is tried
  pub idle_tried_lem : (e : ℕ) → GridFor P e grid → ((d : ℕ) → d < first + core → nth t d ≤ P.tasks)
      → (rule_of e P).tried (take (first + core) t) 0 ≡ not (bars_idle grid sets core)
  unfolding quickly permitted rule_a idle_tried
  idle_tried_lem zero ready known = sym (ap not (bars_is small ready ef ls lc holds)
      ∙ ap (λ b. not (not b)) (all_true P.tasks _ (λ v lv. imp_true (has sets v core))))
  idle_tried_lem (suc e) ready known = prefix_quickly P (first + core) t room 0
      ∙ ap₂ (λ a b. true && (a && (b && true))) (sym evens) (idle_ranked P (first + core) (nth t) known)
      ∙ and_true _ true refl
    where
      evens : not (bars_idle grid sets core) ≡ idle_tried P (first + core) (nth t)
      evens = ap not (bars_is small ready ef ls lc holds) ∙ not_not _ ∙ all_same P.tasks _ _ (λ v lv.
          ap (λ b. imp b (not (even_rates P (suc v)))) (permitted_is small ready ef ls lc (nth t) holds v lv))
