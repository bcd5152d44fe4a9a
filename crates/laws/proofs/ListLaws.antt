-- Laws of lists made from a rule, of the first place at which a rule gives a number that is not 0, and of stores.
-- Assumes nothing.
use Prim.Native.Nat.{ℕ, zero, suc, ◌+◌, ◌-◌, ◌≤◌, ◌<◌}
use native.Mathlib.Omega.{arith}
use native.Mathlib.Decide.{ℕ_discrete}
use mathlib.Core.Path.{◌≡◌, refl, sym, ap, ◌∙◌}
use mathlib.Core.Logic.{◌≢◌, ◌⊎◌, inl, inr, ⊎_elim}
use mathlib.Core.List.{List, [], ◌∷◌, ◌++◌}
use native.Mathlib.Numerals.{add-one}
use native.Mathlib.Nat.{add-zero, zero-add}
use lib.ListN.{length, take, drop, get_or, set, replicate, length-set, length-append, length-drop, get_or-append}
use lib.Seq.{sets, get_or-set_same, get_or-set_other, get_or-append-add, get_or-drop, get_or-take, length-take-le, ext_get_or}
use Rattle.laws.specs.Lists.{nth, tab_from, tab, over, or_later, seek, first_of, filled}
use Rattle.laws.proofs.SumLaws.{gate_lt, gate_ge, lt_or_ge}

module _ {A : Type 0} where
  -- a list made from a rule has as many places as are asked
  from_length : (a n : ℕ) (g : ℕ → A) → length (tab_from a n g) ≡ n
  unfolding tab_from
  from_length a zero g = refl
  from_length a (suc n) g = ap suc (from_length (suc a) n g)

  pub tab_length : (n : ℕ) (g : ℕ → A) → length (tab n g) ≡ n
  tab_length = from_length 0

  -- and at each what the rule gives
  from_at : (a n : ℕ) (g : ℕ → A) (k : ℕ) (x : A) → k < n → get_or (tab_from a n g) k x ≡ g (a + k)
  unfolding tab_from
  from_at a zero g k x l = absurd (omega arith)
  from_at a (suc n) g zero x l = ap g (sym (add-zero a))
  from_at a (suc n) g (suc k) x l = from_at (suc a) n g k x (omega arith) ∙ ap g (omega arith)

  pub tab_at : (n : ℕ) (g : ℕ → A) (k : ℕ) (x : A) → k < n → get_or (tab n g) k x ≡ g k
  tab_at n g k x l = from_at 0 n g k x l ∙ ap g (zero-add k)

  -- rules that agree below n make the same list
  from_same : (a n : ℕ) (g h : ℕ → A) → ((k : ℕ) → k < a + n → g k ≡ h k) → tab_from a n g ≡ tab_from a n h
  unfolding tab_from
  from_same a zero g h e = refl
  from_same a (suc n) g h e = rw (e a (omega arith), from_same (suc a) n g h (λ k l. e k (omega arith)))

  pub tab_same : (n : ℕ) (g h : ℕ → A) → ((k : ℕ) → k < n → g k ≡ h k) → tab n g ≡ tab n h
  tab_same n g h e = from_same 0 n g h (λ k l. e k (omega arith))

-- rules that agree below n find the same place
pub seek_same : (n : ℕ) (g h : ℕ → ℕ) → ((k : ℕ) → k < n → g k ≡ h k) → seek n g ≡ seek n h
unfolding seek
seek_same zero g h e = refl
seek_same (suc n) g h e = rw (e 0 (omega arith), seek_same n (λ k. g (suc k)) (λ k. h (suc k)) (λ k l. e (suc k) (omega arith)))

-- the place that is found is the first at which g is not 0
pub seek_is : (n i : ℕ) (g : ℕ → ℕ) → i < n → ((k : ℕ) → k < i → g k ≡ 0) → g i ≢ 0 → seek n g ≡ i
unfolding seek
seek_is zero i g l none x = absurd (omega arith)
seek_is (suc n) zero g l none x = stays (g 0) x
  where
    stays : (y : ℕ) → y ≢ 0 → or_later y (suc (seek n (λ k. g (suc k)))) ≡ 0
    stays zero h = absurd (h refl)
    stays (suc y) h = refl
seek_is (suc n) (suc i) g l none x =
    rw (none 0 (omega arith)) (ap suc (seek_is n i (λ k. g (suc k)) (omega arith) (λ k m. none (suc k) (omega arith)) x))

-- where g is 0 throughout none is found
pub seek_none : (n : ℕ) (g : ℕ → ℕ) → ((k : ℕ) → k < n → g k ≡ 0) → seek n g ≡ n
unfolding seek
seek_none zero g none = refl
seek_none (suc n) g none = rw (none 0 (omega arith)) (ap suc (seek_none n (λ k. g (suc k)) (λ k m. none (suc k) (omega arith))))

-- no place before the one that is found has a number that is not 0
pub seek_before : (n : ℕ) (g : ℕ → ℕ) (k : ℕ) → k < seek n g → g k ≡ 0
unfolding seek
seek_before zero g k l = absurd (omega arith)
seek_before (suc n) g k l = go (g 0) refl k l (seek_before n (λ j. g (suc j)))
  where
    go : (x : ℕ) → g 0 ≡ x → (k : ℕ) → k < or_later x (suc (seek n (λ j. g (suc j)))) → ((j : ℕ) → j < seek n (λ j. g (suc j)) → g (suc j) ≡ 0) → g k ≡ 0
    go zero e zero l h = e
    go zero e (suc k) l h = h k (omega arith)
    go (suc x) e k l h = absurd (omega arith)

-- the place is among the n, or none is found
pub seek_le : (n : ℕ) (g : ℕ → ℕ) → seek n g ≤ n
unfolding seek
seek_le zero g = omega arith
seek_le (suc n) g = go (g 0) (seek_le n (λ j. g (suc j)))
  where
    go : (x : ℕ) → seek n (λ j. g (suc j)) ≤ n → or_later x (suc (seek n (λ j. g (suc j)))) ≤ suc n
    go zero l = omega arith
    go (suc x) l = omega arith

-- the number at a place that is found is not 0
pub seek_some : (n : ℕ) (g : ℕ → ℕ) → seek n g < n → g (seek n g) ≢ 0
unfolding seek
seek_some zero g l = absurd (omega arith)
seek_some (suc n) g l = go (g 0) refl l (seek_some n (λ j. g (suc j)))
  where
    go : (x : ℕ) → g 0 ≡ x → or_later x (suc (seek n (λ j. g (suc j)))) < suc n → (seek n (λ j. g (suc j)) < n → g (suc (seek n (λ j. g (suc j)))) ≢ 0)
        → g (or_later x (suc (seek n (λ j. g (suc j))))) ≢ 0
    go zero e l h z = h (omega arith) z
    go (suc x) e l h z = absurd (omega arith)

-- the first that is not 0
pub first_is : (n i : ℕ) (g : ℕ → ℕ) → i < n → ((k : ℕ) → k < i → g k ≡ 0) → g i ≢ 0 → first_of n g ≡ g i
first_is n i g l none x = rw (seek_is n i g l none x) (gate_lt i n (g i) l)

-- there is none
pub first_none : (n : ℕ) (g : ℕ → ℕ) → ((k : ℕ) → k < n → g k ≡ 0) → first_of n g ≡ 0
first_none n g none = rw (seek_none n g none) (gate_ge n n (g n) (omega arith))

-- where the first is 0 there is none
pub first_zero : (n : ℕ) (g : ℕ → ℕ) → first_of n g ≡ 0 → (k : ℕ) → k < n → g k ≡ 0
first_zero n g e k l = go (suc k) l k (omega arith)
  where
    go : (i : ℕ) → i ≤ n → (k : ℕ) → k < i → g k ≡ 0
    go zero m k l = absurd (omega arith)
    go (suc i) m k l = elim (ℕ_discrete (g i) 0) [
      | yes z ↦ elim (ℕ_discrete k i) [ yes q ↦ ap g q ∙ z | no y ↦ go i (omega arith) k (omega arith) ]
      | no x ↦ absurd (x (sym (first_is n i g m (go i (omega arith)) x) ∙ e))
    ]

-- rules that agree below n have the same first
pub first_same : (n : ℕ) (g h : ℕ → ℕ) → ((k : ℕ) → k < n → g k ≡ h k) → first_of n g ≡ first_of n h
first_same n g h e = ⊎_elim
    (λ l. rw (seek_same n g h e, e (seek n h) l))
    (λ l. gate_ge (seek n g) n _ (rw (seek_same n g h e) l) ∙ sym (gate_ge (seek n h) n _ l))
    (lt_or_ge (seek n h) n)

-- ---- places stored one after the other
-- as many as before
pub filled_length : (s : List ℕ) (a n : ℕ) (g : ℕ → ℕ) → length (filled s a n g) ≡ length s
unfolding filled
filled_length s a zero g = refl
filled_length s a (suc n) g = length-set (filled s a n g) (a + n) (g n) ∙ filled_length s a n g

-- what was stored
pub filled_at : (s : List ℕ) (a n : ℕ) (g : ℕ → ℕ) (k : ℕ) → k < n → a + n ≤ length s → nth (filled s a n g) (a + k) ≡ g k
unfolding filled
filled_at s a zero g k l room = absurd (omega arith)
filled_at s a (suc n) g k l room = elim (ℕ_discrete k n) [
  | yes e ↦ rw e (get_or-set_same (filled s a n g) (a + n) (g n) 0 (omega (arith, filled_length s a n g)))
  | no x ↦ get_or-set_other (filled s a n g) (a + n) (a + k) (g n) 0 (omega arith) ∙ filled_at s a n g k (omega arith) (omega arith)
]

-- what stands elsewhere
pub filled_before : (s : List ℕ) (a n : ℕ) (g : ℕ → ℕ) (k : ℕ) → k < a → nth (filled s a n g) k ≡ nth s k
unfolding filled
filled_before s a zero g k l = refl
filled_before s a (suc n) g k l = get_or-set_other (filled s a n g) (a + n) k (g n) 0 (omega arith) ∙ filled_before s a n g k l

pub filled_behind : (s : List ℕ) (a n : ℕ) (g : ℕ → ℕ) (k : ℕ) → a + n ≤ k → nth (filled s a n g) k ≡ nth s k
unfolding filled
filled_behind s a zero g k l = refl
filled_behind s a (suc n) g k l = get_or-set_other (filled s a n g) (a + n) k (g n) 0 (omega arith) ∙ filled_behind s a n g k (omega arith)

-- none yet, and one more
pub filled_none : (s : List ℕ) (a : ℕ) (g : ℕ → ℕ) → s ≡ filled s a 0 g
unfolding filled
filled_none s a g = refl

pub filled_next : (s : List ℕ) (a n : ℕ) (g : ℕ → ℕ) (r : List ℕ) (x : ℕ) → r ≡ filled s a n g → x ≡ g n → set r (a + n) x ≡ filled s a (n + 1) g
unfolding filled
filled_next s a n g r x er ex = rw add-one (λ i. set (er i) (a + n) (ex i))

-- a list stored from the start on is written over it
pub filled_over : (n : ℕ) (s : List ℕ) (g : ℕ → ℕ) → n ≤ length s → filled s 0 n g ≡ over (tab n g) s
unfolding over
filled_over n s g room = ext_get_or 0 _ _ (filled_length s 0 n g ∙ sym size) (λ i l. ⊎_elim (inside i) (outside i (rw (filled_length s 0 n g) at l)) (lt_or_ge i n))
  where
    size : length (tab n g ++ drop (length (tab n g)) s) ≡ length s
    size = rw (tab_length n g, length-append, length-drop, tab_length n g) (omega arith)

    inside : (i : ℕ) → i < n → nth (filled s 0 n g) i ≡ nth (tab n g ++ drop (length (tab n g)) s) i
    inside i l = ap (nth (filled s 0 n g)) (sym (zero-add i)) ∙ filled_at s 0 n g i l (omega arith) ∙ sym (tab_at n g i 0 l) ∙ sym (get_or-append (tab n g) (drop (length (tab n g)) s) 0 i (rw (tab_length n g) l))

    outside : (i : ℕ) → i < length s → n ≤ i → nth (filled s 0 n g) i ≡ nth (tab n g ++ drop (length (tab n g)) s) i
    outside i li l = filled_behind s 0 n g i (omega arith) ∙ sym (rw (tab_length n g)
        (ap (nth (tab n g ++ drop n s)) (omega (arith, tab_length n g)) ∙ get_or-append-add (tab n g) (drop n s) (i - n) 0 ∙ get_or-drop n s (i - n) 0 ∙ ap (nth s) (omega arith)))

-- the first n places of a list
pub tab_take : (n : ℕ) (s : List ℕ) → n ≤ length s → tab n (nth s) ≡ take n s
tab_take n s room = ext_get_or 0 _ _ (tab_length n (nth s) ∙ sym (length-take-le n s room))
    (λ i l. let k : i < n = rw (tab_length n (nth s)) at l in tab_at n (nth s) i 0 k ∙ sym (get_or-take n s i 0 k))

-- n times the same
pub tab_replicate : (n x : ℕ) → tab n (λ _. x) ≡ replicate n x
unfolding tab_from
tab_replicate n x = go 0 n
  where
    go : (a n : ℕ) → tab_from a n (λ _. x) ≡ replicate n x
    go a zero = refl
    go a (suc n) = ap (λ s. x ∷ s) (go (suc a) n)

-- ---- stores, and one more at the end
-- a run of stores leaves what stands beside it
pub sets_other : (vs l : List ℕ) (i k : ℕ) → (k < i) ⊎ (i + length vs ≤ k) → nth (sets l i vs) k ≡ nth l k
sets_other [] l i k h = refl
sets_other (v ∷ vs) l i k h =
    sets_other vs (set l i v) (suc i) k (⊎_elim (λ a. inl (omega arith)) (λ a. inr (omega arith)) h)
    ∙ get_or-set_other l i k v 0 (λ e. ⊎_elim (λ a. omega arith) (λ a. omega arith) h)

-- and puts its own
pub sets_same : (vs l : List ℕ) (i j : ℕ) → j < length vs → i + length vs ≤ length l → nth (sets l i vs) (i + j) ≡ nth vs j
sets_same [] l i j h fits = absurd (omega arith)
sets_same (v ∷ vs) l i zero h fits =
    ap (nth (sets (set l i v) (suc i) vs)) (add-zero i) ∙ sets_other vs (set l i v) (suc i) i (inl (omega arith)) ∙ get_or-set_same l i v 0 (omega arith)
sets_same (v ∷ vs) l i (suc j) h fits =
    ap (nth (sets (set l i v) (suc i) vs)) (omega arith)
    ∙ sets_same vs (set l i v) (suc i) j (omega arith) (omega (arith, length-set l i v))

-- a list by its rule, changed at one place
pub tab_set : (n i v : ℕ) (g h : ℕ → ℕ) → i < n → h i ≡ v → ((k : ℕ) → k ≢ i → h k ≡ g k) → set (tab n g) i v ≡ tab n h
tab_set n i v g h l here else-where =
    ext_get_or 0 (set (tab n g) i v) (tab n h) (length-set (tab n g) i v ∙ tab_length n g ∙ sym (tab_length n h)) at
  where
    at : (k : ℕ) → k < length (set (tab n g) i v) → get_or (set (tab n g) i v) k 0 ≡ get_or (tab n h) k 0
    at k m =
        let k<n : k < n = omega (arith, length-set (tab n g) i v, tab_length n g) in
        elim (ℕ_discrete k i) [
          | yes e ↦ ap (nth (set (tab n g) i v)) e ∙ get_or-set_same (tab n g) i v 0 (omega (arith, tab_length n g)) ∙ sym here ∙ ap h (sym e) ∙ sym (tab_at n h k 0 k<n)
          | no x ↦ get_or-set_other (tab n g) i k v 0 x ∙ tab_at n g k 0 k<n ∙ sym (else-where k x) ∙ sym (tab_at n h k 0 k<n)
        ]

-- one more at the end of a list
module _ {A : Type 0} (d a : A) where
  pub more_last : (s : List A) → get_or (s ++ (a ∷ [])) (length s) d ≡ a
  more_last [] = refl
  more_last (x ∷ s) = more_last s

  pub more_other : (s : List A) (k : ℕ) → k ≢ length s → get_or (s ++ (a ∷ [])) k d ≡ get_or s k d
  more_other [] zero x = absurd (x refl)
  more_other [] (suc k) x = refl
  more_other (y ∷ s) zero x = refl
  more_other (y ∷ s) (suc k) x = more_other s k (λ e. x (ap suc e))
