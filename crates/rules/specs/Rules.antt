-- The rules of the plain and of the quick walk. A prefix of a table is its length c and its cells f.
-- Assumes nothing.
use Rattle.std.specs.Prelude.{ℕ, zero, suc, ◌*◌, Bool, true, not, List, [], ◌∷◌, leb, ltb, eqb, length}
use Rattle.laws.specs.Tests.{every, all, imp}
use Rattle.laws.specs.Lists.{nth}
use Rattle.laws.specs.Order.{up_to, rank_of}
use Rattle.tasks.specs.Instance.{Instance, job_end}
use Rattle.table.specs.Table.{slot_of, core_of, beside, work_left, free}
use Rattle.rules.specs.Walk.{Rule}

-- 4.1: values are ordered 1, 2, .., n, then idle last
abbrev pub values : Instance → List ℕ
values P = up_to P.tasks 1

-- 4.1: the place of a value in that order
abbrev pub rank : Instance → ℕ → ℕ
rank P = rank_of P.tasks

-- 4.4: a task is permitted in cell c if it is open, has a positive rate there, does not stand on an earlier core of this slot, and its job has work left
unfoldable pub tests : Instance → ℕ → (ℕ → ℕ) → ℕ → List Bool
tests P c f v =
    leb v P.tasks ∷ P.opens v (slot_of P c) ∷ ltb 0 (P.rate v (core_of P c)) ∷ free P c f v
    ∷ ltb 0 (work_left P c f v (P.job v (slot_of P c))) ∷ []

-- 4.4: idle is always permitted
unfoldable pub permitted : Instance → ℕ → (ℕ → ℕ) → ℕ → Bool
permitted P c f zero = true
permitted P c f (suc v) = every (tests P c f (suc v))

-- 4.7: job k of task i has no work left, if the slot that ends before cell c is its highest-numbered
unfoldable pub settled : Instance → ℕ → (ℕ → ℕ) → ℕ → ℕ → Bool
settled P c f i k = imp (eqb (suc (job_end P i k) * P.cores) c) (eqb (work_left P c f i k) 0)

-- 4.7: after the last core of a slot, each job whose highest-numbered slot this is must have no work left
unfoldable pub all_settled : Instance → ℕ → (ℕ → ℕ) → Bool
all_settled P c f = all P.tasks (λ i. all (P.jobs (suc i)) (settled P c f (suc i)))

-- 4.6, 4.9: the plain walk (engine 0); one try is one permitted value put into one cell
abbrev pub plain : Instance → Rule
plain P = record { tried = λ p. permitted P (length p) (nth p); goes_on = λ p. all_settled P (length p) (nth p); cost = λ p v. 1 }

-- 4.10: all positive rates of task i are equal
unfoldable pub even_rates : Instance → ℕ → Bool
even_rates P i =
    all P.cores (λ a. all P.cores (λ b. imp (ltb 0 (P.rate i a)) (imp (ltb 0 (P.rate i b)) (eqb (P.rate i a) (P.rate i b)))))

-- 4.11: twin cores: equal rates for every task
unfoldable pub twin : Instance → ℕ → ℕ → Bool
twin P a b = all P.tasks (λ i. eqb (P.rate (suc i) a) (P.rate (suc i) b))

-- 4.10: A: idle is not tried if some task is permitted in the cell and all its positive rates are equal
unfoldable pub idle_tried : Instance → ℕ → (ℕ → ℕ) → Bool
idle_tried P c f = all P.tasks (λ i. imp (permitted P c f (suc i)) (not (even_rates P (suc i))))

-- 4.10: rule A bears on idle alone
unfoldable pub rule_a : Instance → ℕ → (ℕ → ℕ) → ℕ → Bool
rule_a P c f zero = idle_tried P c f
rule_a P c f (suc v) = true

-- 4.11: B: for twin cores, a value on the later twin that comes before the earlier twin's value in this slot is not tried
unfoldable pub rule_b : Instance → ℕ → (ℕ → ℕ) → ℕ → Bool
rule_b P c f v = all (core_of P c) (λ j. imp (twin P j (core_of P c)) (leb (rank P (f (beside P c j))) (rank P v)))

-- 4.9: the quick walk (engine 1) is the plain walk with two kinds of value not tried and not counted
unfoldable pub quickly : Instance → ℕ → (ℕ → ℕ) → ℕ → Bool
quickly P c f v = every (permitted P c f v ∷ rule_a P c f v ∷ rule_b P c f v ∷ [])

-- 4.9: the quick walk, as a rule
abbrev pub quick : Instance → Rule
quick P = record { tried = λ p. quickly P (length p) (nth p); goes_on = (plain P).goes_on; cost = λ p v. 1 }
