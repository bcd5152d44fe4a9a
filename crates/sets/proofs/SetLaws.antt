-- Sets of tasks by their digits: each operation is told digit by digit, and the digits of the two masks by computation and by their places.
-- Assumes nothing.
use Prim.Native.Nat.{ℕ, zero, suc, ◌+◌, ◌-◌, ◌*◌, ◌/◌, ◌%◌, ◌^◌, ◌≤◌, ◌<◌, suc-le-suc, min}
use native.Mathlib.Nat.{le_of_suc-le-suc, not-suc-le-zero, zero-lt-suc, lt_of_lt_of_le, lt_of_le_of_lt, add-zero, add_comm, mul_assoc, add-mul-div_right, div-one, div-eq_of_lt, div-lt_iff_lt-mul, mod-lt, min-zero, zero-min, min-eq_right, min-le_left, min-eq_left, pow-suc, zero-div, zero-mul, div-mul-le_self, mod-eq_of_lt}
use native.Mathlib.Decide.{ℕ_discrete}
use native.Mathlib.Omega.{arith}
use native.Mathlib.Numerals.{one-add}
use mathlib.Core.Path.{◌≡◌, refl, sym, ap, ◌∙◌, subst}
use mathlib.Core.Logic.{◌≢◌, ⊎_elim}
use mathlib.Core.Bool.{Bool, true, false, not, ◌&&◌, true≢false, and-false, and-true}
use borrow.Author.Tests.{le-leb, lt-leb, eq-eqb, ne_eqb}
use lib.Dec.{leb, eqb, eqb→eq, lit<}
use lib.Arith.{digits_mod, digits_lt, lt-one}
use lib.Pow.{pow_pos, pow_mono, pow-add, shr-shr, shl-shr, shl_lt, high}
use lib.Bits.{bit_and, bit_xor, differ, block_odd, and_step, xor_step, and_shr, xor_shr, and_le_l, and_le_r, xor_lt}
use lib.Count.{count_trailing_zeros, under}
use Rattle.laws.specs.Tests.{all}
use Rattle.laws.specs.Sum.{gate}
use Rattle.laws.proofs.TestLaws.{all_at, all_true, all_false}
use Rattle.laws.proofs.SumLaws.{lt_or_ge}
use Rattle.sets.specs.Sets.{has, of_core, lowest, without, pushed, common, on_cores, from_rank, Alone}

-- ---- digits

-- digit k of a number
abbrev digit : ℕ → ℕ → ℕ
digit x k = x / 2 ^ k % 2

-- a digit is 0 or 1
digit_lt : (x k : ℕ) → digit x k < 2
digit_lt x k = mod-lt (x / 2 ^ k) (zero-lt-suc 1)

-- 0 has no digit
digit_none : (k : ℕ) → digit 0 k ≡ 0
digit_none k = ap (λ (q : ℕ). q % 2) (zero-div (2 ^ k))

-- a number below 2 ^ j has no digit from j on
digit_above : (x j k : ℕ) → x < 2 ^ j → j ≤ k → digit x k ≡ 0
digit_above x j k h l = ap (λ (q : ℕ). q % 2) (div-eq_of_lt (lt_of_lt_of_le h (pow_mono l)))

-- the digits behind the j low ones
digit_shr : (x j k : ℕ) → digit (x / 2 ^ j) k ≡ digit x (j + k)
digit_shr x j k = ap (λ (q : ℕ). q % 2) (shr-shr x j k)

-- a number shifted past digit k leaves it as it is
digit_below : (a j k r : ℕ) → k < j → digit (a * 2 ^ j + r) k ≡ digit r k
digit_below a j k r h = subst (λ (n : ℕ). digit (a * 2 ^ n + r) k ≡ digit r k) (omega arith) (past (j - suc k))
  where
    past : (i : ℕ) → digit (a * 2 ^ (suc i + k) + r) k ≡ digit r k
    past i =
        ap (λ (x : ℕ). (x + r) / 2 ^ k % 2) (ap (λ (p : ℕ). a * p) (pow-add 2 (suc i) k) ∙ sym (mul_assoc a (2 ^ suc i) (2 ^ k)))
        ∙ ap (λ (x : ℕ). x / 2 ^ k % 2) (add_comm (a * 2 ^ suc i * 2 ^ k) r)
        ∙ ap (λ (q : ℕ). q % 2) (add-mul-div_right r (a * 2 ^ suc i) (pow_pos k) ∙ add_comm (r / 2 ^ k) (a * 2 ^ suc i))
        ∙ block_odd a i (r / 2 ^ k)

-- whether two digits differ is a digit
differ_lt : (d e : ℕ) → d < 2 → e < 2 → differ d e < 2
differ_lt zero e h l = l
differ_lt (suc d) zero h l = h
differ_lt (suc zero) (suc e) h l = omega arith
differ_lt (suc (suc d)) (suc e) h l = absurd (not-suc-le-zero (le_of_suc-le-suc (le_of_suc-le-suc h)))

-- a digit of both numbers
and_digit : (a b k : ℕ) → digit (bit_and a b) k ≡ min (digit a k) (digit b k)
and_digit a b k =
    ap (λ (q : ℕ). q % 2) (and_shr a b k ∙ and_step (a / 2 ^ k) (b / 2 ^ k))
    ∙ digits_mod (bit_and (a / 2 ^ k / 2) (b / 2 ^ k / 2)) (lt_of_le_of_lt (min-le_left (digit a k) (digit b k)) (digit_lt a k))

-- a digit of one number only
xor_digit : (a b k : ℕ) → digit (bit_xor a b) k ≡ differ (digit a k) (digit b k)
xor_digit a b k =
    ap (λ (q : ℕ). q % 2) (xor_shr a b k ∙ xor_step (a / 2 ^ k) (b / 2 ^ k))
    ∙ digits_mod (bit_xor (a / 2 ^ k / 2) (b / 2 ^ k / 2)) (differ_lt (digit a k) (digit b k) (digit_lt a k) (digit_lt b k))

-- ---- the empty sets

-- no task is in the empty sets
pub none_has : (v c : ℕ) → has 0 v c ≡ false
unfolding has
none_has v c = ap (λ (d : ℕ). eqb d 1) (digit_none (4 * v + c))

-- ---- the set of a core

-- each task, on core 0 alone
abbrev each_task : ℕ
each_task = 1229782938247303441

-- its digits, by computation
each_task_digit : (v c : ℕ) → v < 16 → c < 4 → digit each_task (4 * v + c) ≡ 1 - c
each_task_digit v c h l =
    eqb→eq _ _ (all_at 4 (λ j. eqb (digit each_task (4 * v + j)) (1 - j)) (all_at 16 (λ i. all 4 (λ j. eqb (digit each_task (4 * i + j)) (1 - j))) tt v h) c l)

-- it has no digit of another core
each_task_alone : (v c : ℕ) → c ≢ 0 → c < 4 → digit each_task (4 * v + c) ≡ 0
each_task_alone v c x l =
    ⊎_elim (λ h. each_task_digit v c h l ∙ omega arith) (λ h. digit_above each_task 64 (4 * v + c) (lit< tt) (omega arith)) (lt_or_ge v 16)

-- digit k of the set of a core, where the mask has b
of_core_digit : (s core k b : ℕ) → digit each_task k ≡ b → digit (of_core s core) k ≡ min (digit (s / 2 ^ core) k) b
unfolding of_core
of_core_digit s core k b e = and_digit (s / 2 ^ core) each_task k ∙ ap (min (digit (s / 2 ^ core) k)) e

-- the set of a core has the core's tasks
pub of_core_has : (s core v : ℕ) → core < 4 → v < 16 → has (of_core s core) v 0 ≡ has s v core
unfolding has
of_core_has s core v l h =
    let k : ℕ = 4 * v + 0 in
    ap (λ (d : ℕ). eqb d 1)
    (of_core_digit s core k 1 (each_task_digit v 0 h (lit< tt))
    ∙ min-eq_left (le_of_suc-le-suc (digit_lt (s / 2 ^ core) k))
    ∙ digit_shr s core k
    ∙ ap (digit s) (omega arith))

-- and nothing on the other cores
pub of_core_alone : (s core : ℕ) → Alone (of_core s core)
unfolding has
of_core_alone s core = record {
  none = λ v c x l. ap (λ (d : ℕ). eqb d 1) (of_core_digit s core (4 * v + c) 0 (each_task_alone v c x l) ∙ min-zero _);
}

-- it has 64 digits
pub of_core_lt : (s core : ℕ) → of_core s core < 2 ^ 64
unfolding of_core
of_core_lt s core = lt_of_le_of_lt (and_le_r (s / 2 ^ core) each_task) (lit< tt)

-- ---- the sets without a task

-- the digits of task w
abbrev cores_of : ℕ → ℕ
cores_of w = 15 * 2 ^ (4 * w)

-- they are 1 at each core of task w
cores_own : (w c : ℕ) → c < 4 → digit (cores_of w) (4 * w + c) ≡ 1
cores_own w c l =
    sym (digit_shr (cores_of w) (4 * w) c) ∙ ap (λ (x : ℕ). digit x c) (shl-shr 15 (4 * w))
    ∙ eqb→eq _ _ (all_at 4 (λ j. eqb (digit 15 j) 1) tt c l)

-- and 0 at each core of another
cores_other : (w v c : ℕ) → c < 4 → v ≢ w → digit (cores_of w) (4 * v + c) ≡ 0
cores_other w v c l x =
    ⊎_elim
    (λ h. ap (λ (n : ℕ). digit n (4 * v + c)) (sym (add-zero (cores_of w))) ∙ digit_below 15 (4 * w) (4 * v + c) 0 (omega arith) ∙ digit_none (4 * v + c))
    (λ h. digit_above (cores_of w) (4 + 4 * w) (4 * v + c) (shl_lt 4 (4 * w) (lit< tt)) (omega arith))
    (lt_or_ge v w)

-- a digit is taken out where the mask has 1, and stays where it has 0
taken_out : (d : ℕ) → d < 2 → (differ d (min d 1) ≡ 0) × (differ d (min d 0) ≡ d)
taken_out zero h = (refl, refl)
taken_out (suc zero) h = (refl, refl)
taken_out (suc (suc d)) h = absurd (not-suc-le-zero (le_of_suc-le-suc (le_of_suc-le-suc h)))

-- digit k of the sets without task w, where the mask has b
without_digit : (s w k b : ℕ) → digit (cores_of w) k ≡ b → digit (without s w) k ≡ differ (digit s k) (min (digit s k) b)
unfolding without
without_digit s w k b e = xor_digit s (bit_and s (cores_of w)) k ∙ ap (differ (digit s k)) (and_digit s (cores_of w) k ∙ ap (min (digit s k)) e)

-- task w is gone, and the others stay
pub without_has : (s w v c : ℕ) → w < 16 → c < 4 → has (without s w) v c ≡ not (eqb v w) && has s v c
unfolding has
without_has s w v c h l =
    let k : ℕ = 4 * v + c in
    elim (ℕ_discrete v w) [
      | yes e ↦
          ap (λ (d : ℕ). eqb d 1) (without_digit s w k 1 (rw e (cores_own w c l)) ∙ (taken_out (digit s k) (digit_lt s k)).0)
          ∙ sym (ap (λ (b : Bool). not b && has s v c) (eq-eqb v w e))
      | no x ↦
          ap (λ (d : ℕ). eqb d 1) (without_digit s w k 0 (cores_other w v c l x) ∙ (taken_out (digit s k) (digit_lt s k)).1)
          ∙ sym (ap (λ (b : Bool). not b && has s v c) (ne_eqb v w x))
    ]

-- a set of core 0, alone, stays one
pub without_alone : (s w : ℕ) → w < 16 → Alone s → Alone (without s w)
without_alone s w h a = record {
  none = λ v c x l. without_has s w v c h l ∙ ap (λ (b : Bool). not (eqb v w) && b) (a.none v c x l) ∙ and-false (not (eqb v w));
}

-- 64 digits stay 64
pub without_lt : (s w : ℕ) → s < 2 ^ 64 → without s w < 2 ^ 64
unfolding without
without_lt s w h = xor_lt 64 s (bit_and s (cores_of w)) h (lt_of_le_of_lt (and_le_l s (cores_of w)) h)

-- ---- the lowest task

-- the lowest digit
digit_first : (n : ℕ) → digit n 0 ≡ n % 2
digit_first n = ap (λ (q : ℕ). q % 2) (div-one n)

-- and the others, which are those of the half
digit_rest : (n j : ℕ) → digit n (suc j) ≡ digit (n / 2) j
digit_rest n j = ap (digit n) (sym (one-add j)) ∙ sym (digit_shr n 1 j)

-- a number of k digits that is not 0 has one of them
trailing_lt : (k n : ℕ) → n ≢ 0 → n < 2 ^ k → count_trailing_zeros k n < k
unfolding count_trailing_zeros
trailing_lt zero n x h = absurd (x (lt-one h))
trailing_lt (suc k) n x h =
    below (n % 2) (λ e. trailing_lt k (n / 2) (λ z. x (omega arith)) ((div-lt_iff_lt-mul (zero-lt-suc 1)).1 (subst (λ (p : ℕ). n < p) (pow-suc 2 k) h))) refl
  where
    below : (d : ℕ) → (n % 2 ≡ 0 → count_trailing_zeros k (n / 2) < k) → n % 2 ≡ d → under d (count_trailing_zeros k (n / 2)) < suc k
    below zero rest e = suc-le-suc (rest e)
    below (suc d) rest e = zero-lt-suc k

-- the digit above the zeros at a number's end is 1
trailing_one : (k n : ℕ) → count_trailing_zeros k n < k → digit n (count_trailing_zeros k n) ≡ 1
unfolding count_trailing_zeros
trailing_one zero n h = absurd (not-suc-le-zero h)
trailing_one (suc k) n h = above (n % 2) (trailing_one k (n / 2)) refl h
  where
    above : (d : ℕ) → (count_trailing_zeros k (n / 2) < k → digit (n / 2) (count_trailing_zeros k (n / 2)) ≡ 1)
        → n % 2 ≡ d → under d (count_trailing_zeros k (n / 2)) < suc k → digit n (under d (count_trailing_zeros k (n / 2))) ≡ 1
    above zero rest e l = digit_rest n (count_trailing_zeros k (n / 2)) ∙ rest (le_of_suc-le-suc l)
    above (suc d) rest e l = digit_first n ∙ omega arith

-- and those below it are 0
trailing_none : (k n j : ℕ) → j < count_trailing_zeros k n → digit n j ≡ 0
unfolding count_trailing_zeros
trailing_none zero n j h = absurd (not-suc-le-zero h)
trailing_none (suc k) n j h = at (n % 2) j (trailing_none k (n / 2)) refl h
  where
    at : (d i : ℕ) → ((m : ℕ) → m < count_trailing_zeros k (n / 2) → digit (n / 2) m ≡ 0) → n % 2 ≡ d → i < under d (count_trailing_zeros k (n / 2)) → digit n i ≡ 0
    at zero zero rest e l = digit_first n ∙ e
    at zero (suc i) rest e l = digit_rest n i ∙ rest i (le_of_suc-le-suc l)
    at (suc d) i rest e l = absurd (not-suc-le-zero l)

-- a digit of the set of core 0, alone, is that of a task
digit_task : (s k : ℕ) → Alone s → digit s k ≡ 1 → has s (k / 4) 0 ≡ true
unfolding has
digit_task s k a e =
    let at : (c : ℕ) → 4 * (k / 4) + c ≡ k → has s (k / 4) c ≡ true = λ c p. ap (λ (d : ℕ). eqb d 1) (ap (digit s) p ∙ e) in
    elim (ℕ_discrete (k % 4) 0) [
      | yes z ↦ at 0 (omega arith)
      | no x ↦ absurd (true≢false (sym (at (k % 4) (omega arith)) ∙ a.none (k / 4) (k % 4) x (mod-lt k (zero-lt-suc 3))))
    ]

-- the lowest task is in the set
pub lowest_in : (s : ℕ) → s ≢ 0 → s < 2 ^ 64 → Alone s → (lowest s < 16) × (has s (lowest s) 0 ≡ true)
unfolding lowest
lowest_in s x h a =
    let l = trailing_lt 64 s x h in (omega arith, digit_task s (count_trailing_zeros 64 s) a (trailing_one 64 s l))

-- and no lower task is
pub lowest_first : (s w : ℕ) → Alone s → w < lowest s → has s w 0 ≡ false
unfolding has lowest
lowest_first s w a h = ap (λ (d : ℕ). eqb d 1) (trailing_none 64 s (4 * w + 0) (omega arith))

-- ---- the tasks in both sets

-- two digits are both 1
min_digit : (d e : ℕ) → d < 2 → e < 2 → eqb (min d e) 1 ≡ eqb d 1 && eqb e 1
min_digit zero e h l = ap (λ (x : ℕ). eqb x 1) (zero-min e)
min_digit (suc zero) e h l = ap (λ (x : ℕ). eqb x 1) (min-eq_right (le_of_suc-le-suc l))
min_digit (suc (suc d)) e h l = absurd (not-suc-le-zero (le_of_suc-le-suc (le_of_suc-le-suc h)))

-- a task is in both
pub common_has : (a b v c : ℕ) → has (common a b) v c ≡ has a v c && has b v c
unfolding has common
common_has a b v c =
    let k : ℕ = 4 * v + c in
    ap (λ (d : ℕ). eqb d 1) (and_digit a b k) ∙ min_digit (digit a k) (digit b k) (digit_lt a k) (digit_lt b k)

-- with a set of core 0, alone, only the set of core 0 has tasks
common_alone : (a b : ℕ) → Alone a → Alone (common a b)
common_alone a b alone = record {
  none = λ v c x l. common_has a b v c ∙ ap (λ (t : Bool). t && has b v c) (alone.none v c x l);
}

-- with 64 digits they have 64
common_lt : (a b : ℕ) → a < 2 ^ 64 → common a b < 2 ^ 64
unfolding common
common_lt a b h = lt_of_le_of_lt (and_le_l a b) h

-- there is none exactly if no task is in both
pub common_none : (a b : ℕ) → a < 2 ^ 64 → Alone a → eqb (common a b) 0 ≡ all 16 (λ v. not (has a v 0 && has b v 0))
common_none a b h alone =
    let apart : ℕ → Bool = λ v. not (has a v 0 && has b v 0) in
    elim (ℕ_discrete (common a b) 0) [
      | yes z ↦ eq-eqb (common a b) 0 z ∙ sym (all_true 16 apart (λ v l. ap not (sym (common_has a b v 0) ∙ ap (λ (s : ℕ). has s v 0) z ∙ none_has v 0)))
      | no x ↦
          let low = lowest_in (common a b) x (common_lt a b h) (common_alone a b alone) in
          ne_eqb (common a b) 0 x ∙ sym (all_false 16 apart (lowest (common a b)) low.0 (ap not (sym (common_has a b (lowest (common a b)) 0) ∙ low.1)))
    ]

-- ---- sets over sets

-- the low j tasks
pub over_first : (j s a v c : ℕ) → v < j → c < 4 → has (s * 2 ^ (4 * j) + a) v c ≡ has a v c
unfolding has
over_first j s a v c h l = ap (λ (d : ℕ). eqb d 1) (digit_below s (4 * j) (4 * v + c) a (omega arith))

-- the tasks above them
pub over_next : (j s a v c : ℕ) → a < 2 ^ (4 * j) → has (s * 2 ^ (4 * j) + a) (j + v) c ≡ has s v c
unfolding has
over_next j s a v c h =
    ap (λ (d : ℕ). eqb d 1)
    (ap (digit (s * 2 ^ (4 * j) + a)) (omega arith) ∙ sym (digit_shr (s * 2 ^ (4 * j) + a) (4 * j) (4 * v + c)) ∙ ap (λ (x : ℕ). digit x (4 * v + c)) (high s (4 * j) h))

-- ---- a new task 0

-- the new task 0 is on its cores
pub pushed_first : (s cores c : ℕ) → c < 4 → has (pushed s cores) 0 c ≡ has cores 0 c
unfolding pushed
pushed_first s cores c l = over_first 1 s cores 0 c (omega arith) l

-- each other task stays on its cores, one number higher
pub pushed_next : (s cores v c : ℕ) → cores < 16 → has (pushed s cores) (suc v) c ≡ has s v c
unfolding pushed
pushed_next s cores v c h = ap (λ (w : ℕ). has (s * 16 + cores) w c) (sym (one-add v)) ∙ over_next 1 s cores v c h

-- the sets of k tasks become those of k + 1
pub pushed_lt : (s cores k : ℕ) → s < 16 ^ k → cores < 16 → pushed s cores < 16 ^ suc k
unfolding pushed
pushed_lt s cores k h l = subst (λ (p : ℕ). s * 16 + cores < p) (sym (pow-suc 16 k)) (digits_lt h l)

-- ---- a set on all four cores

-- no task
pub on_cores_none : on_cores 0 ≡ 0
unfolding on_cores
on_cores_none = refl

-- a new task 0 is on all or on none
pub on_cores_pushed : (s : ℕ) (b : Bool) → on_cores (pushed s (gate b 1)) ≡ pushed (on_cores s) (gate b 15)
unfolding on_cores pushed gate
on_cores_pushed s true = omega arith
on_cores_pushed s false = omega arith

-- bits of all four cores, or of none
pub on_cores_first : (b : Bool) (c : ℕ) → c < 4 → has (gate b 15) 0 c ≡ b
unfolding has gate
on_cores_first true c l = ap (λ (d : ℕ). eqb d 1) {x = digit 15 (4 * 0 + c)} {y = 1} (eqb→eq _ _ (all_at 4 (λ j. eqb (digit 15 (4 * 0 + j)) 1) tt c l))
on_cores_first false c l = none_has 0 c

-- ---- the tasks from a rank on

-- a task is among them if it is in the set and its rank is not below
pub from_has : (s rank v c : ℕ) → c < 4 → has (from_rank s rank) v c ≡ has s v c && leb rank (v + 1)
unfolding has from_rank
from_has s rank v c l = ⊎_elim below above (lt_or_ge (v + 1) rank)
  where
    j : ℕ
    j = 4 * (rank - 1)

    k : ℕ
    k = 4 * v + c

    below : v + 1 < rank → eqb (digit (s / 2 ^ j * 2 ^ j) k) 1 ≡ eqb (digit s k) 1 && leb rank (v + 1)
    below h = ap (λ (d : ℕ). eqb d 1) (ap (λ (n : ℕ). digit n k) (sym (add-zero (s / 2 ^ j * 2 ^ j))) ∙ digit_below (s / 2 ^ j) j k 0 (omega arith) ∙ digit_none k)
        ∙ sym (ap (λ (b : Bool). eqb (digit s k) 1 && b) (lt-leb rank (v + 1) h) ∙ and-false (eqb (digit s k) 1))

    above : rank ≤ v + 1 → eqb (digit (s / 2 ^ j * 2 ^ j) k) 1 ≡ eqb (digit s k) 1 && leb rank (v + 1)
    above h =
        let more : k ≡ j + (k - j) = omega arith in
        ap (λ (d : ℕ). eqb d 1)
        (ap (digit (s / 2 ^ j * 2 ^ j)) more ∙ sym (digit_shr (s / 2 ^ j * 2 ^ j) j (k - j)) ∙ ap (λ (n : ℕ). digit n (k - j)) (shl-shr (s / 2 ^ j) j)
        ∙ digit_shr s j (k - j) ∙ ap (digit s) (sym more))
        ∙ sym (ap (λ (b : Bool). eqb (digit s k) 1 && b) (le-leb rank (v + 1) h) ∙ and-true (eqb (digit s k) 1))

-- a set of core 0, alone, stays one
pub from_alone : (s rank : ℕ) → Alone s → Alone (from_rank s rank)
from_alone s rank a = record { none = λ v c x l. from_has s rank v c l ∙ ap (λ (b : Bool). b && leb rank (v + 1)) (a.none v c x l) }

-- 64 digits stay 64
pub from_lt : (s rank : ℕ) → s < 2 ^ 64 → from_rank s rank < 2 ^ 64
unfolding from_rank
from_lt s rank h = lt_of_le_of_lt (div-mul-le_self s (2 ^ (4 * (rank - 1)))) h

-- from rank 0 or 1 on all tasks are, from rank 17 on none is
pub from_first : (s rank : ℕ) → rank ≤ 1 → s ≡ from_rank s rank
unfolding from_rank
from_first s rank l = let z : 4 * (rank - 1) ≡ 0 = omega arith in sym (ap (λ (j : ℕ). s / 2 ^ j * 2 ^ j) z ∙ omega (arith, div-one s))

pub from_last : (s rank : ℕ) → s < 2 ^ 64 → 16 < rank → 0 ≡ from_rank s rank
unfolding from_rank
from_last s rank h l =
    let long : 64 ≤ 4 * (rank - 1) = omega arith in
    let up : 2 ^ 64 ≤ 2 ^ (4 * (rank - 1)) = pow_mono long in
    sym (ap (λ (q : ℕ). q * 2 ^ (4 * (rank - 1))) (div-eq_of_lt (lt_of_lt_of_le h up)) ∙ zero-mul (2 ^ (4 * (rank - 1))))

-- between, no digit is lost
pub from_between : (s rank : ℕ) → s < 2 ^ 64 → s / 2 ^ (4 * (rank - 1)) * 2 ^ (4 * (rank - 1)) % 2 ^ 64 ≡ from_rank s rank
unfolding from_rank
from_between s rank h = mod-eq_of_lt (from_lt s rank h)
