-- A line as it is written, byte by byte, over what was there.
-- Assumes nothing.
use Rattle.std.proofs.Common.{ℕ, ◌≡◌, ◌+◌, ◌*◌, ◌/◌, ◌%◌, ◌≤◌, ◌<◌, List, [], ◌∷◌, ◌++◌, length, take, set, refl, sym, ap, ◌∙◌, arith, add-one, append_assoc, length-append}
use lib.Seq.{take-suc, take_all, length-take-le}
use Rattle.laws.specs.Lists.{nth, over}
use Rattle.lines.specs.Lines.{hex_of, digits, line_of}
use Rattle.lines.proofs.ListLaws.{over_more}

-- two digits a byte
pub digits_length : (f : List ℕ) → length (digits f) ≡ length f * 2
unfolding digits
digits_length [] = refl
digits_length (b ∷ f) = omega (arith, digits_length f)

pub digits_append : (f g : List ℕ) → digits (f ++ g) ≡ digits f ++ digits g
unfolding digits
digits_append [] g = refl
digits_append (b ∷ f) g = rw (digits_append f g)

module _ (frame out₀ : List ℕ) (room : length frame * 2 + 1 ≤ length out₀) (k : ℕ) (out : List ℕ) (e : out ≡ over (digits (take k frame)) out₀) where
  abbrev passed : List ℕ
  passed = digits (take k frame)

  size : k ≤ length frame → length passed ≡ k * 2
  size l = digits_length (take k frame) ∙ ap (λ n. n * 2) (length-take-le k frame l)

  -- one more byte of a frame
  pub one_byte : (high low : ℕ) → k < length frame → high ≡ hex_of (nth frame k / 16) → low ≡ hex_of (nth frame k % 16)
      → set (set out (k * 2) high) (k * 2 + 1) low ≡ over (digits (take (k + 1) frame)) out₀
  unfolding digits
  one_byte high low l h h' =
      ap (λ o. set (set o (k * 2) high) (k * 2 + 1) low) e ∙ ap (λ n. set (set (over passed out₀) n high) (k * 2 + 1) low) (sym s)
      ∙ ap (λ o. set o (k * 2 + 1) low) (over_more passed out₀ high (omega (arith, s))) ∙ ap (λ n. set (over (passed ++ (high ∷ [])) out₀) n low) (sym s')
      ∙ over_more (passed ++ (high ∷ [])) out₀ low (omega (arith, s')) ∙ ap (λ d. over d out₀) whole
    where
      s : length passed ≡ k * 2
      s = size (omega arith)

      s' : length (passed ++ (high ∷ [])) ≡ k * 2 + 1
      s' = length-append passed (high ∷ []) ∙ ap (λ n. n + 1) s

      whole : (passed ++ (high ∷ [])) ++ (low ∷ []) ≡ digits (take (k + 1) frame)
      whole =
          append_assoc passed (high ∷ []) (low ∷ []) ∙ rw (h, h') (sym (digits_append (take k frame) (nth frame k ∷ [])))
          ∙ ap digits (sym (take-suc frame k 0 l) ∙ ap (λ n. take n frame) (sym (add-one k)))

  -- and the line feed behind the last
  pub line_feed : k ≡ length frame → set out (length frame * 2) 10 ≡ over (line_of frame) out₀
  unfolding line_of
  line_feed r =
      let s : length passed ≡ length frame * 2 = size (omega arith) ∙ ap (λ n. n * 2) r in
      ap (λ o. set o (length frame * 2) 10) e ∙ ap (λ n. set (over passed out₀) n 10) (sym s) ∙ over_more passed out₀ 10 (omega (arith, s))
      ∙ ap (λ f. over (digits f ++ (10 ∷ [])) out₀) (take_all k frame (omega arith))
