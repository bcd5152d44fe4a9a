-- The plain walk's rule lets pass the valid tables, and no others.
-- Assumes nothing.
use Prim.Native.Nat.{ℕ, zero, suc, ◌*◌, ◌≤◌, ◌<◌}
use native.Mathlib.Nat.{zero-add, mul-le-mul_right}
use native.Mathlib.Decide.{ℕ_discrete, dec_lt}
use native.Mathlib.Omega.{arith}
use mathlib.Core.Path.{◌≡◌, refl, ap, sym}
use mathlib.Core.Logic.{◌≢◌, inl, inr}
use mathlib.Core.List.{List, []}
use lib.Dec.{T, eqb, leb→le, le→leb, ltb→lt, lt→ltb, eqb→eq}
use borrow.Author.Tests.{eq-eqb}
use lib.ListN.{length, take}
use lib.Seq.{length-take-le, get_or-take}
use Rattle.laws.specs.Tests.{Holds}
use Rattle.laws.specs.Lists.{nth}
use Rattle.laws.specs.Order.{Rising}
use Rattle.laws.proofs.TestLaws.{every_holds, holds_every, all_at, at_all, all_same, imp_use, imp_make}
use Rattle.laws.proofs.OrderLaws.{in_up_to, up_to_rising}
use Rattle.tasks.specs.Instance.{Instance, job_end, Regular}
use Rattle.table.specs.Table.{cells, slot_of, core_of, done, work_left, Valid, Table}
use Rattle.table.proofs.JobLaws.{end_there}
use Rattle.table.proofs.TableLaws.{done_same, free_same, make_free, free_apart, done_end}
use Rattle.rules.specs.Rules.{tests, permitted, settled, all_settled, plain, values, rank}
use Rattle.rules.specs.Right.{Clean, Passes, Right}
use Rattle.rules.specs.Search.{walked}
use Rattle.rules.proofs.First.{right_same, walk_right}
use Rattle.rules.proofs.Cells.{clean_passes, passes_clean}

-- the values stand in their order
pub values_rising : (P : Instance) → Rising (rank P) (values P)
values_rising P = up_to_rising P.tasks P.tasks 0 (zero-add P.tasks)

-- the plain rule lets each cell of a table pass
pub record Walked (P : Instance) (f : ℕ → ℕ) : Type 0 where
  pub goes : (c : ℕ) → c ≤ cells P → T (all_settled P c f)
  pub tried : (c : ℕ) → c < cells P → T (permitted P c f (f c))

module _ (P : Instance) (c : ℕ) (f : ℕ → ℕ) where
  -- idle is permitted, and so is a task that meets its tests
  make_permitted : (v : ℕ) → (v ≢ 0 → Holds (tests P c f v)) → T (permitted P c f v)
  unfolding permitted
  make_permitted zero h = tt
  make_permitted (suc v) h = holds_every (tests P c f (suc v)) (h (omega arith))

  -- a task that is permitted meets its tests
  pub permitted_holds : (v : ℕ) → v ≢ 0 → T (permitted P c f v) → Holds (tests P c f v)
  unfolding permitted
  permitted_holds zero x t = absurd (x refl)
  permitted_holds (suc v) x t = every_holds (tests P c f (suc v)) t

  -- where the walk goes on at cell c, the jobs whose highest-numbered slot ends there have no work left
  all_settled_job : T (all_settled P c f) → (i k : ℕ) → suc (job_end P i k) * P.cores ≡ c → i ≢ 0 → i ≤ P.tasks → k < P.jobs i → work_left P c f i k ≡ 0
  unfolding all_settled settled
  all_settled_job t zero k e x l j = absurd (x refl)
  all_settled_job t (suc i) k e x l j = eqb→eq (work_left P c f (suc i) k) 0
      (imp_use (eqb (suc (job_end P (suc i) k) * P.cores) c) (eqb (work_left P c f (suc i) k) 0)
      (all_at (P.jobs (suc i)) (settled P c f (suc i)) (all_at P.tasks _ t i l) k j) (rw (eq-eqb (suc (job_end P (suc i) k) * P.cores) c e) tt))

  -- and the other way
  make_settled : ((i k : ℕ) → suc (job_end P i k) * P.cores ≡ c → i ≢ 0 → i ≤ P.tasks → k < P.jobs i → work_left P c f i k ≡ 0) → T (all_settled P c f)
  unfolding all_settled settled
  make_settled h = at_all P.tasks _ (λ i l. at_all (P.jobs (suc i)) _ (λ k j.
      imp_make (eqb (suc (job_end P (suc i) k) * P.cores) c) (eqb (work_left P c f (suc i) k) 0)
      (λ s. rw (eq-eqb (work_left P c f (suc i) k) 0 (h (suc i) k (eqb→eq (suc (job_end P (suc i) k) * P.cores) c s) (omega arith) l j)) tt)))

-- where a task is permitted its job is not complete
pub permitted_needed : (P : Instance) (c : ℕ) (f : ℕ → ℕ) (v : ℕ) → Holds (tests P c f v) → done P c f v (P.job v (slot_of P c)) < P.work v
unfolding tests
permitted_needed P c f v h = omega (arith, ltb→lt 0 (work_left P c f v (P.job v (slot_of P c))) h.1.1.1.1.0)

module _ (P : Instance) (regular : Regular P) (f : ℕ → ℕ) where
  module _ (w : Walked P f) where
    -- a task that stands in a cell met its tests there
    stands_holds : (c : ℕ) → c < cells P → f c ≢ 0 → Holds (tests P c f (f c))
    stands_holds c l x = permitted_holds P c f (f c) x (w.tried c l)

    -- what passes is a valid table
    pub walked_valid : Valid P f
    unfolding tests
    walked_valid = record {
      known = known;
      open_there = λ c l x. (stands_holds c l x).1.0;
      rated = λ c l x. ltb→lt 0 (P.rate (f c) (core_of P c)) (stands_holds c l x).1.1.0;
      once = once;
      full = full;
      needed = λ c l x. permitted_needed P c f (f c) (stands_holds c l x);
    }
      where
        known : (c : ℕ) → c < cells P → f c ≤ P.tasks
        known c l = elim (ℕ_discrete (f c) 0) [ yes e ↦ omega arith | no x ↦ leb→le (f c) P.tasks (stands_holds c l x).0 ]

        once : (c d : ℕ) → c < cells P → d < cells P → c ≢ d → slot_of P c ≡ slot_of P d → f c ≡ f d → f c ≡ 0
        once c d lc ld n s e = elim (ℕ_discrete (f c) 0) [
          | yes z ↦ z
          | no x ↦ elim (dec_lt c d) [
            | yes l ↦ absurd (free_apart P d f (f d) (stands_holds d ld (omega arith)).1.1.1.0 c l s e)
            | no y ↦ absurd (free_apart P c f (f c) (stands_holds c lc x).1.1.1.0 d (omega arith) (sym s) (sym e))
          ]
        ]

        full : (i k : ℕ) → i ≢ 0 → i ≤ P.tasks → k < P.jobs i → P.work i ≤ done P (cells P) f i k
        full i k x l j = omega (
          arith,
          done_end P regular f i k,
          all_settled_job P (suc (job_end P i k) * P.cores) f
              (w.goes (suc (job_end P i k) * P.cores) (mul-le-mul_right P.cores (end_there P i regular k))) i k refl x l j,
        )

  -- a valid table passes
  pub valid_walked : Valid P f → Walked P f
  unfolding tests
  valid_walked v = record {
    goes = λ c l. make_settled P c f (λ i k e x n j. omega (arith, ap (λ d. done P d f i k) e, done_end P regular f i k, v.full i k x n j));
    tried = λ c l. make_permitted P c f (f c) (λ x. (
      le→leb (f c) P.tasks (v.known c l),
      (
        v.open_there c l x,
        (
          lt→ltb 0 (P.rate (f c) (core_of P c)) (v.rated c l x),
          (
            make_free P c f (f c) regular.some_core (λ d i s e. x (v.once c d l (omega arith) (omega arith) (sym s) (sym e))),
            (lt→ltb 0 (work_left P c f (f c) (P.job (f c) (slot_of P c))) (omega (arith, v.needed c l x)), tt),
          ),
        ),
      ),
    ));
  }

-- the rule looks at the first c cells only
module _ (P : Instance) (c : ℕ) (f g : ℕ → ℕ) (same : (d : ℕ) → d < c → f d ≡ g d) where
  -- which values are permitted
  pub permitted_same : (v : ℕ) → permitted P c f v ≡ permitted P c g v
  unfolding permitted tests
  permitted_same zero = refl
  permitted_same (suc v) = rw (done_same P c f g same (suc v) (P.job (suc v) (slot_of P c)), free_same P c f g same (suc v))

  -- whether the walk goes on
  pub settled_same : all_settled P c f ≡ all_settled P c g
  unfolding all_settled settled
  settled_same = all_same P.tasks _ _ (λ i l. all_same (P.jobs (suc i)) _ _ (λ k j. rw (done_same P c f g same (suc i) k)))

module _ (P : Instance) (c : ℕ) (t : List ℕ) (l : c ≤ length t) where
  -- the rule at a prefix of a table is the rule at the table's cells
  pub prefix_permitted : (v : ℕ) → permitted P (length (take c t)) (nth (take c t)) v ≡ permitted P c (nth t) v
  prefix_permitted v = rw (length-take-le c t l) (permitted_same P c (nth (take c t)) (nth t) (λ d i. get_or-take c t d 0 i) v)

  -- and so is whether the walk goes on
  pub prefix_settled : all_settled P (length (take c t)) (nth (take c t)) ≡ all_settled P c (nth t)
  prefix_settled = rw (length-take-le c t l) (settled_same P c (nth (take c t)) (nth t) (λ d i. get_or-take c t d 0 i))

module _ (P : Instance) (regular : Regular P) (t : List ℕ) where
  -- a table that the plain rule lets pass is valid
  pub clean_table : Clean (plain P) (values P) (cells P) [] t → Table P t
  clean_table h = record {
    size = p.size;
    valid = walked_valid P regular (nth t) (record {
      goes = λ c l. rw (prefix_settled P c t (omega (arith, p.size))) at (p.goes c l);
      tried = λ c l. rw (prefix_permitted P c t (omega (arith, p.size)) (nth t c)) at (p.tried c l);
    });
  }
    where
      p : Passes (plain P) (values P) (cells P) [] t
      p = clean_passes (cells P) [] t h

  -- and the other way
  pub table_clean : Table P t → Clean (plain P) (values P) (cells P) [] t
  table_clean h = passes_clean {R = plain P} (cells P) [] t (record {
    size = h.size;
    goes = λ c l. rw (prefix_settled P c t (omega arith)) (w.goes c l);
    known = λ c l. in_up_to P.tasks 1 (nth t c) (elim (ℕ_discrete (nth t c) 0) [ yes e ↦ inl e | no x ↦ inr (omega (arith, h.valid.known c l)) ]);
    tried = λ c l. rw (prefix_permitted P c t (omega arith) (nth t c)) (w.tried c l);
  })
    where
      w : Walked P (nth t)
      w = valid_walked P regular (nth t) h.valid

-- the plain walk finds the first valid table, or there is none
pub plain_right : (P : Instance) → Regular P → Right (rank P) (Table P) (walked 0 P)
plain_right P regular = right_same (clean_table P regular) (table_clean P regular) (walk_right (plain P) (values_rising P) (cells P) [])
