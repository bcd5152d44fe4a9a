-- A number that no byte holds is refused as 255 is: what is told of a narrowed number is told of the number.
-- Assumes nothing.
use Prim.Native.Nat.{ℕ, zero, suc, ◌<◌}
use native.Mathlib.Omega.{arith}
use mathlib.Core.Path.{◌≡◌, refl, sym, ap, ◌∙◌}
use mathlib.Core.Logic.{◌≢◌}
use mathlib.Core.Bool.{Bool, true, false, cond, ◌&&◌}
use mathlib.Core.List.{List, []}
use lib.Dec.{leb, ltb}
use lib.ListN.{length}
use borrow.Author.Tests.{ltb-true, lt-leb, ne_eqb}
use Rattle.std.specs.Prelude.{Result, Ok, Err}
use Rattle.tasks.specs.declared.Task.{Task}
use Rattle.tasks.specs.declared.Refusal.{Refusal}
use Rattle.tasks.specs.Refusal.{within, unless, or_next, list_refusal, table_length, refusal}
use Rattle.tasks.specs.Instance.{own_instance}
use Rattle.tasks.proofs.AnswerLaws.{or_first}
use Rattle.table.specs.Table.{cells}
use Rattle.table.specs.Fault.{Checked, refused, check}
use Rattle.checker.proofs.TellLaws.{check_refused}
use Rattle.rules.specs.Walk.{limited}
use Rattle.rules.specs.Search.{Searched, walked, search_told, search_refusal, search_told_unless, search}
use Rattle.rules.proofs.Told.{refused_told}
use Rattle.search.specs.declared.Answer.{Answer}
use Rattle.search.specs.Told.{searched_as}
use Rattle.clock.specs.Clock.{Answered}
use Rattle.player.specs.declared.Player.{Player}
use Rattle.player.specs.Player.{record_of, first_shown, record_or, started, after_start}
use Rattle.exports.specs.Packed.{narrowed, search_number, SearchNumber}

-- what is the same for all numbers above k is the same for the narrowed one
narrow_same : {X : Type 0} (F : ℕ → X) (k : ℕ) → k < 255 → ((a b : ℕ) → k < a → k < b → F a ≡ F b) → (x : ℕ) → F (narrowed x) ≡ F x
unfolding narrowed
narrow_same F k l far x = go (ltb 255 x) refl
  where
    go : (b : Bool) → ltb 255 x ≡ b → F (cond b 255 x) ≡ F x
    go true e = let h = ltb-true 255 x e in far 255 x l (omega (arith, h, l))
    go false e = refl

-- ---- over four cores
-- no such number is in 1..4
not_within : (m : ℕ) → 4 < m → within 1 4 m ≡ false
unfolding within
not_within m l = ap (λ b. leb 1 m && b) (lt-leb m 4 l) ∙ fails (leb 1 m)
  where
    fails : (a : Bool) → a && false ≡ false
    fails true = refl
    fails false = refl

module _ (ts : List Task) where
  -- the refusal is the count's or 2
  cores_refusal : {m : ℕ} → 4 < m → refusal m ts ≡ unless (within 1 16 (length ts)) 1 2
  unfolding refusal unless
  cores_refusal {m} l = ap (λ b. unless (within 1 16 (length ts)) 1 (unless b 2 (or_next (list_refusal m ts) (unless (leb (table_length ts) 1024) 8 0)))) (not_within m l)

  same_refusal : {m m' : ℕ} → 4 < m → 4 < m' → refusal m ts ≡ refusal m' ts
  same_refusal l l' = cores_refusal l ∙ sym (cores_refusal l')

  is_refused : {m : ℕ} → 4 < m → refusal m ts ≢ 0
  unfolding unless
  is_refused l z = go (within 1 16 (length ts)) (sym (cores_refusal l) ∙ z)
    where
      go : (b : Bool) → unless b 1 2 ≢ 0
      go true e = omega (arith, e)
      go false e = omega (arith, e)

  -- what a search tells that is not refused
  abbrev goes : ℕ → ℕ → ℕ → List ℕ → Searched
  goes m e b t = search_told (cells (own_instance m ts)) t (limited b (walked e (own_instance m ts)))

  search_refused : (m e b : ℕ) (t : List ℕ) → refusal m ts ≢ 0 → search m ts e b t ≡ record { verdict = refusal m ts; tries = 0; buffer = t }
  unfolding search_refusal
  search_refused m e b t x = refused_told m ts e b t (refusal m ts) (sym (or_first (refusal m ts) (refusal m ts) _ refl x)) x

  search_cores : (e b : ℕ) (t : List ℕ) {m m' : ℕ} → 4 < m → 4 < m' → search m ts e b t ≡ search m' ts e b t
  search_cores e b t {m} {m'} l l' =
      search_refused m e b t (is_refused l) ∙ ap (λ r. record { verdict = r; tries = 0; buffer = t }) (same_refusal l l') ∙ sym (search_refused m' e b t (is_refused l'))

  check_cores : (t : List ℕ) {m m' : ℕ} → 4 < m → 4 < m' → check m ts t ≡ check m' ts t
  check_cores t {m} {m'} l l' = check_refused m ts t (is_refused l) ∙ ap refused (same_refusal l l') ∙ sym (check_refused m' ts t (is_refused l'))

  -- a start shows and leaves nothing of the record that it would make
  start_cores : (t : List ℕ) (tick : ℕ) (p : Player) {m m' : ℕ} → 4 < m → 4 < m' → (started m ts t tick ≡ started m' ts t tick) × (after_start m ts t tick p ≡ after_start m' ts t tick p)
  unfolding started after_start
  start_cores t tick p {m} {m'} l l' = rw (check_cores t l l', check_refused m' ts t (is_refused l')) (go (refusal m' ts) (is_refused l'))
    where
      go : (k : ℕ) → k ≢ 0 → (first_shown (record_of m ts t tick) k ≡ first_shown (record_of m' ts t tick) k) × (record_or k (record_of m ts t tick) p ≡ record_or k (record_of m' ts t tick) p)
      go zero x = absurd (x refl)
      go (suc k) x = (refl, refl)

  -- ---- an engine that is not 0 or 1
  search_engine : (m b : ℕ) (t : List ℕ) {e e' : ℕ} → 1 < e → 1 < e' → search m ts e b t ≡ search m ts e' b t
  unfolding search search_refusal unless or_next
  search_engine m b t {e} {e'} l l' = ap (λ r. search_told_unless r t (goes m e b t)) (nine l) ∙ go (refusal m ts) (goes m e b t) (goes m e' b t) ∙ ap (λ r. search_told_unless r t (goes m e' b t)) (sym (nine l'))
    where
      nine : {e : ℕ} → 1 < e → search_refusal m ts e (length t) ≡ or_next (refusal m ts) 9
      nine {e} h = ap (λ b. or_next (refusal m ts) (unless b 9 (unless (leb (cells (own_instance m ts)) (length t)) 10 0))) (lt-leb e 1 h)

      go : (r : ℕ) (s s' : Searched) → search_told_unless (or_next r 9) t s ≡ search_told_unless (or_next r 9) t s'
      go zero s s' = refl
      go (suc r) s s' = rw (ne_eqb (suc r) 0 (λ e. omega (arith, e))) refl

  -- ---- narrowed numbers
  pub check_narrowed : (m : ℕ) (t : List ℕ) → check (narrowed m) ts t ≡ check m ts t
  check_narrowed m t = narrow_same (λ a. check a ts t) 4 (omega arith) (λ m' m'' l l'. check_cores t l l') m

  pub start_narrowed : (m : ℕ) (t : List ℕ) (tick : ℕ) (p : Player) → (started (narrowed m) ts t tick ≡ started m ts t tick) × (after_start (narrowed m) ts t tick p ≡ after_start m ts t tick p)
  start_narrowed m t tick p =
      (narrow_same (λ a. started a ts t tick) 4 (omega arith) (λ m' m'' l l'. (start_cores t tick p l l').0) m, narrow_same (λ a. after_start a ts t tick p) 4 (omega arith) (λ m' m'' l l'. (start_cores t tick p l l').1) m)

  pub search_narrowed : (m e b : ℕ) (t : List ℕ) → search (narrowed m) ts (narrowed e) b t ≡ search m ts e b t
  search_narrowed m e b t = narrow_same (λ a. search a ts (narrowed e) b t) 4 (omega arith) (λ m' m'' l l'. search_cores (narrowed e) b t l l') m ∙ narrow_same (λ a. search m ts a b t) 1 (omega arith) (λ e' e'' l l'. search_engine m b t l l') e

  -- a check of the narrowed number
  pub check_told : {m : ℕ} (cores : ℕ) (t : List ℕ) {c : Checked} → m ≡ narrowed cores → c ≡ check m ts t → c ≡ check cores ts t
  check_told cores t is_m e = e ∙ ap (λ a. check a ts t) is_m ∙ check_narrowed cores t

  -- a start of the narrowed number
  pub start_told : {m : ℕ} (cores : ℕ) (t : List ℕ) (tick : ℕ) (p left : Player) (s : Answered) → m ≡ narrowed cores → (s ≡ started m ts t tick) × (left ≡ after_start m ts t tick p) → (s ≡ started cores ts t tick) × (left ≡ after_start cores ts t tick p)
  start_told cores t tick p left s is_m e = let h = start_narrowed cores t tick p in
      (e.0 ∙ ap (λ a. started a ts t tick) is_m ∙ h.0, e.1 ∙ ap (λ a. after_start a ts t tick p) is_m ∙ h.1)

  -- a search of the narrowed numbers, told as a number
  pub search_told_lem : {m e : ℕ} (cores engine b : ℕ) (t u : List ℕ) (r : Result Answer Refusal) {k : ℕ} → m ≡ narrowed cores → e ≡ narrowed engine
      → searched_as r u ≡ search m ts e b t → k ≡ search_number (searched_as r []) → SearchNumber k u (search cores ts engine b t)
  search_told_lem {m} {e} cores engine b t u r is_m is-e is is-k =
      let h = is ∙ ap (λ a. search a ts e b t) is_m ∙ ap (λ a. search (narrowed cores) ts a b t) is-e ∙ search_narrowed cores engine b t in
      record { answer = is-k ∙ number_same r ∙ ap search_number h; left = left_is r ∙ ap (λ s. s.buffer) h }
    where
      -- the number looks at no buffer
      number_same : (r : Result Answer Refusal) → search_number (searched_as r []) ≡ search_number (searched_as r u)
      number_same (Ok a) = refl
      number_same (Err x) = refl

      -- the buffer is what is left
      left_is : (r : Result Answer Refusal) → u ≡ (searched_as r u).buffer
      left_is (Ok a) = refl
      left_is (Err x) = refl
