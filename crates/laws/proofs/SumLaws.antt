-- Laws of `sum` and `gate`.
-- Assumes nothing.
use Prim.Native.Nat.{ℕ, zero, suc, ◌+◌, ◌*◌, ◌-◌, ◌/◌, ◌%◌, ◌≤◌, ◌<◌}
use mathlib.Core.Path.{◌≡◌, refl, sym, ap, ap₂, ◌∙◌}
use mathlib.Core.Logic.{◌≢◌, ◌⊎◌, inl, inr, ⊎_elim}
use mathlib.Core.Bool.{Bool, true, false}
use native.Mathlib.Omega.{arith}
use native.Mathlib.Decide.{ℕ_discrete, dec_lt}
use native.Mathlib.Nat.{add-zero, zero-add, add-suc, add-sub_of_le, le_antisymm, le_refl, le_of_suc-le-suc, mod-eq_of_lt, add-mod_right, suc-mul, zero-mul}
use lib.Dec.{T, ltb, eqb, lt→ltb, eqb_refl, eqb→eq, ltb→lt}
use lib.Arith.{digits_div, digits_mod}
use Rattle.laws.specs.Sum.{gate, sum}

-- ---- gates
-- a passed test lets its term through
pub gate_yes : (b : Bool) (x : ℕ) → T b → gate b x ≡ x
unfolding gate
gate_yes true x h = refl
gate_yes false x h = absurd h

-- a failed test leaves 0
pub gate_no : (b : Bool) (x : ℕ) → (T b → ⊥) → gate b x ≡ 0
unfolding gate
gate_no true x h = absurd (h tt)
gate_no false x h = refl

-- the tests < and = as they pass and as they fail
pub gate_lt : (a b x : ℕ) → a < b → gate (ltb a b) x ≡ x
gate_lt a b x h = gate_yes (ltb a b) x (lt→ltb a b h)

pub gate_ge : (a b x : ℕ) → b ≤ a → gate (ltb a b) x ≡ 0
gate_ge a b x h = gate_no (ltb a b) x (λ t. let l : a < b = ltb→lt a b t in omega arith)

pub gate_eq : (a b x : ℕ) → a ≡ b → gate (eqb a b) x ≡ x
gate_eq a b x h = rw h (gate_yes (eqb b b) x (eqb_refl b))

pub gate_ne : (a b x : ℕ) → a ≢ b → gate (eqb a b) x ≡ 0
gate_ne a b x h = gate_no (eqb a b) x (λ t. h (eqb→eq a b t))

-- a gate lets through no more than there is
pub gate_le : (b : Bool) (x : ℕ) → gate b x ≤ x
unfolding gate
gate_le true x = omega arith
gate_le false x = omega arith

-- a gate of 0 is 0
pub gate_zero : (b : Bool) → gate b 0 ≡ 0
unfolding gate
gate_zero true = refl
gate_zero false = refl

-- ---- a number is below another or not
pub lt_or_ge : (a b : ℕ) → (a < b) ⊎ (b ≤ a)
lt_or_ge a b = go (dec_lt a b)
  where
    go : Dec (a < b) → (a < b) ⊎ (b ≤ a)
    go (yes h) = inl h
    go (no h) = inr (omega arith)

-- ---- sums
-- terms that agree below the bound have equal sums
pub sum_ext : (n : ℕ) (f g : ℕ → ℕ) → ((c : ℕ) → c < n → f c ≡ g c) → sum n f ≡ sum n g
unfolding sum
sum_ext zero f g h = refl
sum_ext (suc n) f g h = ap₂ ◌+◌ (sum_ext n f g (λ c l. h c (omega arith))) (h n (omega arith))

-- the sum of zeros is 0
pub sum_zero : (n : ℕ) (f : ℕ → ℕ) → ((c : ℕ) → c < n → f c ≡ 0) → sum n f ≡ 0
unfolding sum
sum_zero zero f h = refl
sum_zero (suc n) f h = omega (arith, sum_zero n f (λ c l. h c (omega arith)), h n (omega arith))

-- a sum over a + b terms is the sum of the first a and that of the other b
pub sum_split : (a b : ℕ) (f : ℕ → ℕ) → sum (a + b) f ≡ sum a f + sum b (λ c. f (a + c))
unfolding sum
sum_split a zero f = rw (add-zero a) (omega arith)
sum_split a (suc b) f = rw add-suc (omega (arith, sum_split a b f))

-- the first term stands alone
pub sum_first : (n : ℕ) (f : ℕ → ℕ) → sum (suc n) f ≡ f 0 + sum n (λ c. f (suc c))
unfolding sum
sum_first zero f = omega arith
sum_first (suc n) f = omega (arith, sum_first n f)

-- terms add up one by one
pub sum_add : (n : ℕ) (f g : ℕ → ℕ) → sum n (λ c. f c + g c) ≡ sum n f + sum n g
unfolding sum
sum_add zero f g = refl
sum_add (suc n) f g = omega (arith, sum_add n f g)

-- a gate goes into a sum
pub sum_gate : (b : Bool) (n : ℕ) (f : ℕ → ℕ) → sum n (λ c. gate b (f c)) ≡ gate b (sum n f)
unfolding gate
sum_gate true n f = refl
sum_gate false n f = sum_zero n (λ c. 0) (λ c l. refl)

-- a larger term gives a larger sum
pub sum_le : (n : ℕ) (f g : ℕ → ℕ) → ((c : ℕ) → c < n → f c ≤ g c) → sum n f ≤ sum n g
unfolding sum
sum_le zero f g h = omega arith
sum_le (suc n) f g h = omega (arith, sum_le n f g (λ c l. h c (omega arith)), h n (omega arith))

-- a term is at most the sum
pub sum_term : (n : ℕ) (f : ℕ → ℕ) (c : ℕ) → c < n → f c ≤ sum n f
unfolding sum
sum_term zero f c h = omega arith
sum_term (suc n) f c h =
    ⊎_elim (λ l. omega (arith, sum_term n f c l)) (λ l. omega (arith, ap f (le_antisymm l (le_of_suc-le-suc h)))) (lt_or_ge c n)

-- terms of 0 from n on add nothing
pub sum_stays : (n N : ℕ) (f : ℕ → ℕ) → n ≤ N → ((c : ℕ) → n ≤ c → c < N → f c ≡ 0) → sum N f ≡ sum n f
sum_stays n N f h zeros =
    ap (λ k. sum k f) (sym (add-sub_of_le h))
    ∙ sum_split n (N - n) f
    ∙ ap (λ x. sum n f + x) (sum_zero (N - n) (λ c. f (n + c)) (λ c l. zeros (n + c) (omega arith) (omega arith)))
    ∙ add-zero (sum n f)

-- more terms have a larger sum
pub sum_mono : (n N : ℕ) (f : ℕ → ℕ) → n ≤ N → sum n f ≤ sum N f
sum_mono n N f h = omega (arith, ap (λ k. sum k f) (add-sub_of_le h), sum_split n (N - n) f)

-- n times the same term
pub sum_const : (n x : ℕ) → sum n (λ c. x) ≡ n * x
unfolding sum
sum_const zero x = omega arith
sum_const (suc n) x = omega (arith, sum_const n x)

-- ---- change of terms
-- f and g agree below n but at c: their sums differ by what the term at c does
pub sum_change : (n : ℕ) (f g : ℕ → ℕ) (c : ℕ) → c < n → ((x : ℕ) → x < n → x ≢ c → f x ≡ g x) → sum n f + g c ≡ sum n g + f c
unfolding sum
sum_change zero f g c h same = omega arith
sum_change (suc n) f g c h same =
    ⊎_elim
    (λ l. omega (arith, sum_change n f g c l (λ x k. same x (omega arith)), same n (omega arith) (omega arith)))
    (λ l.
    let e : c ≡ n = omega arith in
    omega (arith, sum_ext n f g (λ x k. same x (omega arith) (omega arith)), ap f e, ap g e))
    (lt_or_ge c n)

-- the same at two points, c and d
pub sum_change_two : (n : ℕ) (f g : ℕ → ℕ) (c d : ℕ) → c < n → d < n → c ≢ d
    → ((x : ℕ) → x < n → x ≢ c → x ≢ d → f x ≡ g x) → sum n f + g c + g d ≡ sum n g + f c + f d
unfolding sum
sum_change_two zero f g c d hc hd ne same = omega arith
sum_change_two (suc n) f g c d hc hd ne same =
    ⊎_elim
    (λ l. ⊎_elim
    (λ k. omega (arith, sum_change_two n f g c d l k ne (λ x q. same x (omega arith)), same n (omega arith) (omega arith) (omega arith)))
    (λ k.
    let e : d ≡ n = omega arith in
    omega (arith, sum_change n f g c l (λ x q p. same x (omega arith) p (omega arith)), ap f e, ap g e))
    (lt_or_ge d n))
    (λ l.
    let e : c ≡ n = omega arith in
    let k : d < n = omega arith in
    omega (arith, sum_change n f g d k (λ x q p. same x (omega arith) (omega arith) p), ap f e, ap g e))
    (lt_or_ge c n)

-- a sum with one term that is not 0
pub sum_only : (n : ℕ) (f : ℕ → ℕ) (c : ℕ) → c < n → ((x : ℕ) → x < n → x ≢ c → f x ≡ 0) → sum n f ≡ f c
sum_only n f c h zeros = omega (arith, sum_change n f (λ x. 0) c h zeros, sum_zero n (λ x. 0) (λ x l. refl))

-- a test r < d in a sum over r < n ends the sum at d
pub sum_below : (n d : ℕ) (f : ℕ → ℕ) → d ≤ n → sum n (λ r. gate (ltb r d) (f r)) ≡ sum d f
sum_below n d f h =
    sum_stays d n (λ r. gate (ltb r d) (f r)) h (λ r k l. gate_ge r d (f r) k)
    ∙ sum_ext d (λ r. gate (ltb r d) (f r)) f (λ r l. gate_lt r d (f r) l)

-- ---- nested sums
-- a sum over n blocks of m terms is one sum over all terms
pub sum_nested : (n m : ℕ) (f : ℕ → ℕ) → sum n (λ s. sum m (λ j. f (s * m + j))) ≡ sum (n * m) f
unfolding sum
sum_nested zero m f = rw zero-mul refl
sum_nested (suc n) m f =
    ap (λ x. x + sum m (λ j. f (n * m + j))) (sum_nested n m f) ∙ sym (rw suc-mul (sum_split (n * m) m f))

-- the same where a term is given by its block and its place in it
pub sum_cells : (n m : ℕ) (f : ℕ → ℕ → ℕ) → sum n (λ s. sum m (λ j. f s j)) ≡ sum (n * m) (λ c. f (c / m) (c % m))
sum_cells n m f =
    sum_ext n (λ s. sum m (λ j. f s j)) (λ s. sum m (λ j. f ((s * m + j) / m) ((s * m + j) % m)))
    (λ s k. sum_ext m (λ j. f s j) (λ j. f ((s * m + j) / m) ((s * m + j) % m)) (λ j l. cc (digits_div s l, digits_mod s l)))
    ∙ sum_nested n m (λ c. f (c / m) (c % m))

-- sums change places
pub sum_swap : (n m : ℕ) (f : ℕ → ℕ → ℕ) → sum n (λ a. sum m (λ b. f a b)) ≡ sum m (λ b. sum n (λ a. f a b))
unfolding sum
sum_swap zero m f = sym (sum_zero m (λ b. 0) (λ b l. refl))
sum_swap (suc n) m f = ap (λ x. x + sum m (f n)) (sum_swap n m f) ∙ sym (sum_add m (λ b. sum n (λ a. f a b)) (f n))

-- ---- turns of a cycle
-- a cycle of n terms that starts one later has the same sum
pub sum_turn : (n : ℕ) (f : ℕ → ℕ) → f n ≡ f 0 → sum n (λ s. f (suc s)) ≡ sum n f
unfolding sum
sum_turn n f h = omega (arith, sum_first n f, h)

-- a cycle that starts anywhere has the same sum
pub sum_shift : (L a : ℕ) (f : ℕ → ℕ) → sum L (λ s. f ((a + s) % L)) ≡ sum L f
sum_shift L zero f = sum_ext L (λ s. f ((0 + s) % L)) f (λ s l. ap f (rw zero-add (mod-eq_of_lt l)))
sum_shift L (suc a) f =
    sum_ext L (λ s. f ((suc a + s) % L)) (λ s. f ((a + suc s) % L)) (λ s l. ap (λ x. f (x % L)) (omega arith))
    ∙ sum_turn L (λ s. f ((a + s) % L)) (ap f (add-mod_right a L ∙ ap (λ x. x % L) (sym (add-zero a))))
    ∙ sum_shift L a f

-- ---- where a sum grows
-- the first term from a on, below n, that is not 0
pub record Grows (f : ℕ → ℕ) (a n : ℕ) : Type 0 where
  pub place : ℕ
  pub from : a ≤ place
  pub under : place < n
  pub some : 0 < f place
  pub none_before : (c : ℕ) → a ≤ c → c < place → f c ≡ 0

-- where f a is 0, the first term after a is the first from a on
later : {f : ℕ → ℕ} {a n : ℕ} → f a ≡ 0 → Grows f (suc a) n → Grows f a n
later {f} {a} e g = record {
  place = g.place;
  from = omega arith;
  under = g.under;
  some = g.some;
  none_before = λ c i j. elim (ℕ_discrete c a) [ yes q ↦ ap f q ∙ e | no x ↦ g.none_before c (omega arith) j ];
}

-- where a longer sum is larger there is such a term
pub sum_more : (d a n : ℕ) (f : ℕ → ℕ) → a + d ≡ n → sum a f < sum n f → Grows f a n
unfolding sum
sum_more zero a n f e l = absurd (omega (arith, ap (λ k. sum k f) (sym (add-zero a) ∙ e)))
sum_more (suc d) a n f e l = elim (ℕ_discrete (f a) 0) [
  | yes z ↦ later z (sum_more d (suc a) n f (omega arith) (omega arith))
  | no x ↦ record { place = a; from = le_refl a; under = omega arith; some = omega arith; none_before = λ c i j. absurd (omega arith) }
]
