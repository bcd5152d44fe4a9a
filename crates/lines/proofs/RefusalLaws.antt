-- The refusals of a line.
-- Assumes nothing.
use Rattle.std.proofs.Common.{ℕ, ◌≡◌, ◌≢◌, ◌/◌, ◌≤◌, ◌<◌, Bool, true, false, ◌&&◌, List, [], ◌∷◌, length, nat_eq, refl, ap, sym, ◌∙◌, arith, Option, None, Some, Ok, Err}
use Rattle.std.specs.Option.{ok_or}
use mathlib.Core.Logic.{⊎_elim}
use mathlib.Core.Bool.{true≢false, false≢true}
use borrow.Author.Tests.{eqb-true, eq-eqb, ne_eqb}
use Rattle.laws.specs.Lists.{nth}
use Rattle.laws.proofs.SumLaws.{lt_or_ge}
use Rattle.tasks.specs.Refusal.{unless}
use Rattle.lines.specs.Frame.{length_of_kind, sort_of}
use Rattle.lines.specs.Lines.{pairs, bytes_of}
use Rattle.lines.specs.Refusal.{is_kind, in_problem, length_refusal, frame_refusal, line_refusal}
use Rattle.lines.proofs.FrameLaws.{above}
use Rattle.lines.proofs.LineLaws.{bytes_length}

-- a kind that there is
pub kind_low : (kind : ℕ) → is_kind (sort_of kind) ≡ true → kind < 8
unfolding sort_of
kind_low kind e = ⊎_elim (λ l. l) (λ h. let z : true ≡ false = sym e ∙ high h in absurd (true≢false z)) (lt_or_ge kind 8)
  where
    high : 8 ≤ kind → is_kind (sort_of kind) ≡ false
    high h = rw (above 1 4 kind (omega arith), ne_eqb kind 7 (λ q. omega arith), above 5 6 kind (omega arith))

-- ---- a frame of so many bytes
module _ (kind count : ℕ) where
  -- 22
  pub no_kind : is_kind (sort_of kind) ≡ false → frame_refusal kind count ≡ 22
  unfolding frame_refusal unless
  no_kind e = rw e

  module _ (known : is_kind (sort_of kind) ≡ true) where
    -- 23
    pub wrong_length : count ≢ length_of_kind kind → frame_refusal kind count ≡ 23
    unfolding frame_refusal length_refusal unless
    wrong_length x = rw (known, ne_eqb count (length_of_kind kind) x)

    -- 24
    pub misplaced : count ≡ length_of_kind kind → in_problem (sort_of kind) ≡ false → frame_refusal kind count ≡ 24
    unfolding frame_refusal length_refusal unless
    misplaced e q = rw (known, eq-eqb count (length_of_kind kind) e, q)

    -- none
    pub well_placed : count ≡ length_of_kind kind → in_problem (sort_of kind) ≡ true → frame_refusal kind count ≡ 0
    unfolding frame_refusal length_refusal unless
    well_placed e q = rw (known, eq-eqb count (length_of_kind kind) e, q)

-- ---- a line
-- 21: without a line feed, empty, or not of pairs of digits
pub not_ended : (s : List ℕ) → line_refusal (record { text = s; ended = false }) ≡ 21
unfolding line_refusal unless
not_ended s = refl

pub empty_line : (s : List ℕ) → true ≡ nat_eq (length s) 0 → line_refusal (record { text = s; ended = true }) ≡ 21
unfolding line_refusal unless pairs
empty_line [] e = refl
empty_line (b ∷ s) e = absurd (omega (arith, eqb-true (length (b ∷ s)) 0 (sym e)))

pub not_pairs : (s : List ℕ) → pairs s ≡ false → line_refusal (record { text = s; ended = true }) ≡ 21
unfolding line_refusal unless
not_pairs s e = rw e

-- a line of pairs: its frame decides
pub whole_line : (s : List ℕ) → false ≡ nat_eq (length s) 0 → pairs s ≡ true
    → frame_refusal (nth (bytes_of s) 0) (length s / 2) ≡ line_refusal (record { text = s; ended = true })
unfolding line_refusal unless
whole_line s some e = rw (e, ← some) (ap (frame_refusal (nth (bytes_of s) 0)) (sym (bytes_length s)))

-- what an `ok_or` answers comes from
pub some_of : {A E : Type 0} (o : Option A) (e : E) (x : A) → Ok x ≡ ok_or o e → o ≡ Some x
some_of None e x q = grind arith
some_of (Some y) e x q = grind arith

pub none_of : {A E : Type 0} (o : Option A) (e d : E) → Err d ≡ ok_or o e → (o ≡ None) × (d ≡ e)
none_of None e d q = grind arith
none_of (Some y) e d q = grind arith

-- two tests that pass together
pub both_pass : (a b : Bool) → a && b ≡ true → (a ≡ true) × (b ≡ true)
both_pass true b e = (refl, e)
both_pass false b e = absurd (false≢true e)

-- a refusal that is none
pub unless_none : (b : Bool) (k next : ℕ) → 0 < k → unless b k next ≡ 0 → (b ≡ true) × (next ≡ 0)
unfolding unless
unless_none true k next l e = (refl, e)
unless_none false k next l e = absurd (omega arith)
