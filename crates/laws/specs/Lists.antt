-- Lists of numbers by their places, lists made from a rule, and the first place at which a rule gives a number that is not 0.
-- Assumes nothing.
use Rattle.std.specs.Prelude.{ℕ, zero, suc, ◌+◌, List, [], ◌∷◌, ◌++◌, ltb, length, drop, get_or, set}
use Rattle.laws.specs.Sum.{gate}

-- the number at place k of a list, from 0; 0 behind its end
abbrev pub nth : List ℕ → ℕ → ℕ
nth s k = get_or s k 0

-- g a, g (a + 1), .., n of them
unfoldable pub tab_from : {A : Type 0} → ℕ → ℕ → (ℕ → A) → List A
tab_from a zero g = []
tab_from a (suc n) g = g a ∷ tab_from (suc a) n g

-- g 0, g 1, .., g (n - 1)
abbrev pub tab : {A : Type 0} → ℕ → (ℕ → A) → List A
tab = tab_from 0

-- 5.9: s written over the start of a list
unfoldable pub over : List ℕ → List ℕ → List ℕ
over s t = s ++ drop (length s) t

-- 0 where x is not 0, else y
abbrev pub or_later : ℕ → ℕ → ℕ
or_later zero y = y
or_later (suc x) y = 0

-- the first k below n at which g is not 0, or n
unfoldable pub seek : ℕ → (ℕ → ℕ) → ℕ
seek zero g = 0
seek (suc n) g = or_later (g 0) (suc (seek n (λ k. g (suc k))))

-- the first of g 0, g 1, .., g (n - 1) that is not 0, or 0
abbrev pub first_of : ℕ → (ℕ → ℕ) → ℕ
first_of n g = gate (ltb (seek n g) n) (g (seek n g))

-- s with g 0, g 1, .., g (n - 1) stored from place a on
unfoldable pub filled : List ℕ → ℕ → ℕ → (ℕ → ℕ) → List ℕ
filled s a zero g = s
filled s a (suc n) g = set (filled s a n g) (a + n) (g n)
