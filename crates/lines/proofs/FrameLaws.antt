-- Ranges of bytes, the bytes that are no kind, and the longest frame.
-- Assumes nothing.
use Rattle.std.proofs.Common.{ℕ, zero, suc, ◌-◌, ◌≡◌, ◌≤◌, ◌<◌, Bool, true, false, cond, ◌&&◌, ◌||◌, refl, ap, arith, nat_le}
use Rattle.std.specs.Bool.{then_some}
use Rattle.std.specs.Option.{is_some, unwrap_or}
use lib.Dec.{leb, leb→le}
use borrow.Author.Tests.{le-leb, lt-leb, ne_eqb}
use Rattle.laws.proofs.TestLaws.{all_at}
use Rattle.tasks.specs.Refusal.{within}
use Rattle.lines.specs.declared.Kind.{Kind}
use Rattle.lines.specs.declared.Kind.TheVariants.{Cores, Task, Rates, Limit, Verdict, Slot, End}
use Rattle.lines.specs.Frame.{length_of_kind, sort_of}
use Rattle.lines.specs.Lines.{is_digit, digit_of}
use Rattle.lines.specs.Refusal.{is_kind}
use Rattle.lines.specs.Told.{code_of}

module _ (a b x : ℕ) where
  -- a number in a range
  pub inside : a ≤ x → x ≤ b → within a b x ≡ true
  unfolding within
  inside l h = rw (le-leb a x l) (le-leb x b h)

  -- below it
  pub below : x < a → within a b x ≡ false
  unfolding within
  below l = ap (λ t. t && nat_le x b) (lt-leb a x l)

  -- above it
  pub above : b < x → within a b x ≡ false
  unfolding within
  above h = rw (lt-leb x b h) (never (nat_le a x))
    where
      never : (t : Bool) → t && false ≡ false
      never true = refl
      never false = refl

-- 00 is no kind, nor is a byte over 07
pub no_code : (code : ℕ) → (0 < code → 7 < code) → is_kind (sort_of code) ≡ false
unfolding sort_of within
no_code zero h = refl
no_code (suc k) h =
    let l : 7 < suc k = h (omega arith) in
    rw (above 1 4 (suc k) (omega arith), ne_eqb (suc k) 7 (λ q. omega arith), above 5 6 (suc k) (omega arith))

-- a kind is known
pub is_known : (kind : Kind) → is_kind (sort_of (code_of kind)) ≡ true
unfolding sort_of within
is_known Cores = refl
is_known Task = refl
is_known Rates = refl
is_known Limit = refl
is_known Verdict = refl
is_known Slot = refl
is_known End = refl

-- what a byte stands for that is a digit, or is none
pub digit_or_0 : (c : ℕ) → unwrap_or (then_some (is_digit c) (digit_of c)) 0 ≡ digit_of c
unfolding is_digit digit_of
digit_or_0 c = go (within 48 57 c) (within 65 70 c)
  where
    go : (a b : Bool) → unwrap_or (then_some (a || b) (cond a (c - 48) (cond b (c - 55) 0))) 0 ≡ cond a (c - 48) (cond b (c - 55) 0)
    go true b = refl
    go false true = refl
    go false false = refl

-- what is told of a test that fails
pub told_not : (b : Bool) (x : ℕ) → is_some (then_some b x) ≡ false → b ≡ false
told_not true x e = e
told_not false x e = refl

-- no frame is longer than 10 bytes
pub length_most : (kind : ℕ) → kind < 8 → length_of_kind kind ≤ 10
length_most kind l = leb→le _ _ (all_at 8 (λ k. leb (length_of_kind k) 10) tt kind l)
