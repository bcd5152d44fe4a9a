-- A text cut at line feeds; pairs of digits, and the bytes they stand for.
-- Assumes nothing.
use Prim.Native.Nat.{ℕ, zero, suc, ◌+◌, ◌*◌, ◌/◌, ◌%◌, ◌≤◌, ◌<◌}
use native.Mathlib.Decide.{ℕ_discrete}
use native.Mathlib.Omega.{arith}
use mathlib.Core.Path.{◌≡◌, refl, sym, ap, ◌∙◌}
use mathlib.Core.Logic.{◌≢◌, ⊎_elim}
use mathlib.Core.Bool.{true, false, and-false}
use mathlib.Core.List.{List, [], ◌∷◌, ◌++◌, append-nil}
use borrow.Author.Tests.{lt-ltb, le-ltb, eq-eqb, ne_eqb}
use lib.Dec.{ltb, leb-suc-suc}
use lib.ListN.{length, set, take, drop, length-take, length-append, get_or-eq_default, get_or-append, drop_of_length-le}
use lib.Seq.{take_all, get_or-take, drop-append_seam}
use Rattle.std.proofs.Common.{◌-◌, min, pred, nat_eq, drop-cons, get_or, get_or-drop, Bor, Option, None, Some, MatchOption}
use Rattle.std.proofs.lemmas.List.{take-append-le}
use Rattle.std.specs.Simd.{first_chunks}
use Rattle.std.specs.Cmp.Lexicographic.{pointwise, same_text, other_text}
use native.Mathlib.Nat.{add-zero}
use Rattle.laws.specs.Lists.{nth}
use Rattle.laws.proofs.SumLaws.{lt_or_ge}
use Rattle.laws.proofs.ListLaws.{tab_set, tab_same}
use Rattle.lines.specs.Lines.{is_digit, digit_of, pairs, bytes_of, before, lines, line_in, LineEnd}
use Rattle.lines.specs.Frame.{ten_bytes}

-- the first line of a text with no line feed before place n, and one there or its end
first_line : (s : List ℕ) (n : ℕ) → 0 < length s → n ≤ length s → ((k : ℕ) → k < n → nth s k ≢ 10) → (n < length s → nth s n ≡ 10)
    → lines s ≡ record { text = take n s; ended = ltb n (length s) } ∷ lines (drop (suc n) s)
unfolding lines before
first_line [] n some fits none feed = absurd (omega arith)
first_line (b ∷ s) zero some fits none feed = rw (eq-eqb b 10 (feed (omega arith)), lt-ltb 0 (suc (length s)) (omega arith))
first_line (b ∷ []) (suc zero) some fits none feed = rw (ne_eqb b 10 (none 0 (omega arith)))
first_line (b ∷ []) (suc (suc n)) some fits none feed = absurd (omega arith)
first_line (b ∷ c ∷ s) (suc n) some fits none feed =
    rw (ne_eqb b 10 (none 0 (omega arith)), first_line (c ∷ s) n (omega arith) (omega arith) (λ k l. none (suc k) (omega arith)) (λ l. feed (omega arith)), leb-suc-suc (suc n) (length (c ∷ s)))

-- no line feed before a place, and none there
pub none_more : (text : List ℕ) (from i : ℕ) → ((k : ℕ) → from ≤ k → k < i → nth text k ≢ 10) → nth text i ≢ 10 → (k : ℕ) → from ≤ k → k < i + 1 → nth text k ≢ 10
none_more text from i none x k a b = elim (ℕ_discrete k i) [
  | yes e ↦ (λ q. x (ap (nth text) (sym e) ∙ q))
  | no y ↦ none k a (omega arith)
]

-- the line of bytes that end in a line feed, and of bytes that do not
pub line_fed : (line : List ℕ) (n : ℕ) → length line ≡ n + 1 → nth line n ≡ 10 → line_in line ≡ record { text = take n line; ended = true }
unfolding line_in
line_fed line n size feed = let last : pred (length line) ≡ n = omega arith in rw (last, eq-eqb (nth line n) 10 feed)

pub line_unfed : (line : List ℕ) → nth line (pred (length line)) ≢ 10 → line_in line ≡ record { text = line; ended = false }
unfolding line_in
line_unfed line x = rw (ne_eqb (nth line (pred (length line))) 10 x)

-- what `strip_suffix` answers of a line feed
abbrev pub IsStripped : List ℕ → Option (Bor (List ℕ)) → Type 0
IsStripped line o = MatchOption o (pointwise nat_eq (drop (length line - 1) line) (10 ∷ []) ≡ false)
    (λ x. (pointwise nat_eq (drop (length line - 1) line) (10 ∷ []) ≡ true) × (x.now ≡ take (length line - 1) line) × (length x.now + 1 ≡ length line))

-- the line of bytes by their last: it is a line feed, or it is not
fed_by : (line digits : List ℕ) → true ≡ pointwise nat_eq (drop (length line - 1) line) (10 ∷ []) → digits ≡ take (length line - 1) line
    → length digits + 1 ≡ length line → line_in line ≡ record { text = digits; ended = true }
fed_by line digits e q size =
    let last : length line - 1 ≡ length digits = omega arith in
    let feed = sym (get_or-drop (length line - 1) line 0 0) ∙ ap (λ s. nth s 0) (same_text (drop (length line - 1) line) (10 ∷ []) e) in
    line_fed line (length digits) (sym size) (ap (nth line) (sym last ∙ sym (add-zero _)) ∙ feed) ∙ rw (← last, ← q)

unfed_by : (line : List ℕ) → false ≡ pointwise nat_eq (drop (length line - 1) line) (10 ∷ []) → line_in line ≡ record { text = line; ended = false }
unfed_by [] e = line_unfed [] (λ q. omega (arith, q))
unfed_by (b ∷ s) e = line_unfed (b ∷ s) (λ q. other_text _ _ e (last (b ∷ s) (omega arith) q))
  where
    last : (s : List ℕ) → 0 < length s → nth s (pred (length s)) ≡ 10 → drop (length s - 1) s ≡ 10 ∷ []
    last s l q =
        let k : pred (length s) ≡ length s - 1 = omega arith in
        drop-cons s (length s - 1) 0 (omega arith) ∙ rw (← k, q, drop_of_length-le s {i = suc (pred (length s))} (omega arith))

-- what stands before a line feed that is stripped off, and what has none
pub stripped : (line : List ℕ) (o : Option (Bor (List ℕ))) (digits : Bor (List ℕ)) → o ≡ Some digits → IsStripped line o
    → line_in line ≡ record { text = digits.now; ended = true }
stripped line o digits e h = let s = rw e at h in fed_by line digits.now (sym s.0) s.1 s.2

pub not_stripped : (line : List ℕ) (o : Option (Bor (List ℕ))) → o ≡ None → IsStripped line o → line_in line ≡ record { text = line; ended = false }
not_stripped line o e h = unfed_by line (sym (rw e at h))

-- a line is the first of a text, and the lines behind it come next
module _ (line rest : List ℕ) (n : ℕ) (some : 0 < length line) (e : LineEnd (line ++ rest) 0 n) where
  cut : lines (line ++ rest) ≡ record { text = take n (line ++ rest); ended = ltb n (length (line ++ rest)) } ∷ lines (drop (suc n) (line ++ rest))
  cut = first_line (line ++ rest) n (omega (arith, length-append line rest)) e.within (λ k l. e.none_before k (omega arith) l) e.feed

  fed_cut : length line ≡ n + 1 → n < length (line ++ rest) → lines (line ++ rest) ≡ line_in line ∷ lines rest
  fed_cut size l =
      let feed : nth line n ≡ 10 = sym (get_or-append line rest 0 n (omega arith)) ∙ e.feed l in
      let behind : suc n ≡ length line = omega arith in
      cut ∙ rw (lt-ltb n (length (line ++ rest)) l, take-append-le n line rest (omega arith), behind, drop-append_seam line rest, line_fed line n size feed)

  unfed_cut : length line ≡ n → length (line ++ rest) ≡ n → lines (line ++ rest) ≡ line_in line ∷ lines rest
  unfed_cut size all =
      let last : nth line (pred (length line)) ≢ 10 =
      λ q. e.none_before (pred (length line)) (omega arith) (omega arith) (get_or-append line rest 0 (pred (length line)) (omega arith) ∙ q)
      in
      let end : rest ≡ [] = no_more rest (omega (arith, length-append line rest)) in
      cut ∙ rw (
        le-ltb n (length (line ++ rest)) (omega arith),
        take_all n (line ++ rest) (omega arith),
        drop_of_length-le (line ++ rest) {i = suc n} (omega arith),
        line_unfed line last,
        end,
        append-nil line,
      )
    where
      no_more : (s : List ℕ) → length s ≡ 0 → s ≡ []
      no_more [] q = refl
      no_more (x ∷ s) q = absurd (omega arith)

  pub line_cut : length line ≡ min (n + 1) (length (line ++ rest)) → lines (line ++ rest) ≡ line_in line ∷ lines rest
  line_cut size = ⊎_elim (λ l. fed_cut (omega arith) l) (λ h. unfed_cut (omega (arith, e.within)) (omega (arith, e.within))) (lt_or_ge n (length (line ++ rest)))

-- ---- pairs of digits
-- half a pair is left
pub odd_none : (s : List ℕ) → length s % 2 ≢ 0 → pairs s ≡ false
unfolding pairs
odd_none [] x = absurd (x refl)
odd_none (a ∷ []) x = refl
odd_none (a ∷ b ∷ s) x = rw (odd_none s (λ e. x (omega arith)), and-false (is_digit b), and-false (is_digit a))

-- another byte
pub other_none : (s : List ℕ) (k : ℕ) → k < length s → is_digit (nth s k) ≡ false → pairs s ≡ false
unfolding pairs
other_none [] k l e = absurd (omega arith)
other_none (a ∷ []) k l e = refl
other_none (a ∷ b ∷ s) zero l e = rw e
other_none (a ∷ b ∷ s) (suc zero) l e = rw (e, and-false (is_digit a))
other_none (a ∷ b ∷ s) (suc (suc k)) l e = rw (other_none s k (omega arith) e, and-false (is_digit b), and-false (is_digit a))

-- digits, two by two
pub all_pairs : (s : List ℕ) → length s % 2 ≡ 0 → ((k : ℕ) → k < length s → is_digit (nth s k) ≡ true) → pairs s ≡ true
unfolding pairs
all_pairs [] e d = refl
all_pairs (a ∷ []) e d = absurd (omega arith)
all_pairs (a ∷ b ∷ s) e d = rw (d 0 (omega arith), d 1 (omega arith)) (all_pairs s (omega arith) (λ k l. d (suc (suc k)) (omega arith)))

-- each of the first n bytes is a digit
abbrev pub DigitsBelow : ℕ → List ℕ → Type 0
DigitsBelow n s = (k : ℕ) → k < n → is_digit (nth s k) ≡ true

-- digits before a place, and one there
pub digits_more : (text : List ℕ) (from i : ℕ) → ((k : ℕ) → from ≤ k → k < i → is_digit (nth text k) ≡ true) → is_digit (nth text i) ≡ true
    → (k : ℕ) → from ≤ k → k < i + 1 → is_digit (nth text k) ≡ true
digits_more text from i d e k a b = elim (ℕ_discrete k i) [
  | yes q ↦ ap (λ j. is_digit (nth text j)) q ∙ e
  | no y ↦ d k a (omega arith)
]

-- the digits of a pair
pub pair_at : (s : List ℕ) (n k : ℕ) → k < n
    → (nth (get_or (first_chunks 2 n s) k []) 0 ≡ nth s (k * 2)) × (nth (get_or (first_chunks 2 n s) k []) 1 ≡ nth s (k * 2 + 1))
pair_at s zero k l = absurd (omega arith)
pair_at s (suc n) zero l = (get_or-take 2 s 0 0 (omega arith), get_or-take 2 s 1 0 (omega arith))
pair_at s (suc n) (suc k) l =
    let p = pair_at (drop 2 s) n k (omega arith) in
    let first : 2 + k * 2 ≡ suc k * 2 = omega arith in
    let second : 2 + (k * 2 + 1) ≡ suc k * 2 + 1 = omega arith in
    (p.0 ∙ get_or-drop 2 s (k * 2) 0 ∙ ap (nth s) first, p.1 ∙ get_or-drop 2 s (k * 2 + 1) 0 ∙ ap (nth s) second)

-- half as many bytes as digits
pub bytes_length : (s : List ℕ) → length (bytes_of s) ≡ length s / 2
unfolding bytes_of
bytes_length [] = refl
bytes_length (a ∷ []) = refl
bytes_length (a ∷ b ∷ s) = omega (arith, bytes_length s)

-- each from its pair
pub byte_at : (s : List ℕ) (k : ℕ) → k * 2 + 1 < length s → nth (bytes_of s) k ≡ digit_of (nth s (k * 2)) * 16 + digit_of (nth s (k * 2 + 1))
unfolding bytes_of
byte_at [] k h = absurd (omega arith)
byte_at (a ∷ []) k h = absurd (omega arith)
byte_at (a ∷ b ∷ s) zero h = refl
byte_at (a ∷ b ∷ s) (suc k) h =
    let p : suc k * 2 + 1 ≡ suc (suc (k * 2 + 1)) = omega arith in
    let q : suc k * 2 ≡ suc (suc (k * 2)) = omega arith in
    rw (p, q) (byte_at s k (omega arith))

-- ---- a frame, byte by byte
module _ (bytes : List ℕ) where
  -- one more, and one behind the tenth
  pub ten_bytes_more : (frame : List ℕ) (k x : ℕ) → k < 10 → frame ≡ ten_bytes (take k bytes) → x ≡ nth bytes k → set frame k x ≡ ten_bytes (take (k + 1) bytes)
  unfolding ten_bytes
  ten_bytes_more frame k x l e q =
      ap (λ f. set f k x) e ∙ tab_set 10 k x (nth (take k bytes)) (nth (take (k + 1) bytes)) l (get_or-take (k + 1) bytes k 0 (omega arith) ∙ sym q) beside
    where
      beside : (j : ℕ) → j ≢ k → nth (take (k + 1) bytes) j ≡ nth (take k bytes) j
      beside j y = ⊎_elim
          (λ h. get_or-take (k + 1) bytes j 0 (omega arith) ∙ sym (get_or-take k bytes j 0 h))
          (λ h. get_or-eq_default (take (k + 1) bytes) 0 (omega (arith, length-take (k + 1) bytes))
          ∙ sym (get_or-eq_default (take k bytes) 0 (omega (arith, length-take k bytes))))
          (lt_or_ge j k)

  pub ten_bytes_over : (k : ℕ) → 10 ≤ k → ten_bytes (take k bytes) ≡ ten_bytes (take (k + 1) bytes)
  unfolding ten_bytes
  ten_bytes_over k l = tab_same 10 _ _ (λ j m. get_or-take k bytes j 0 (omega arith) ∙ sym (get_or-take (k + 1) bytes j 0 (omega arith)))

  -- the whole of it
  pub ten_bytes_all : (frame : List ℕ) (k : ℕ) → length bytes ≤ k → frame ≡ ten_bytes (take k bytes) → frame ≡ ten_bytes bytes
  ten_bytes_all frame k l e = e ∙ ap ten_bytes (take_all k bytes l)
