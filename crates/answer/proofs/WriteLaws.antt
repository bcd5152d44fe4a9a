-- The lines of an answer as they are written, one behind the other, over what was there.
-- Assumes nothing.
use Rattle.std.proofs.Common.{ℕ, zero, suc, ◌≡◌, ◌+◌, ◌*◌, ◌-◌, ◌≤◌, Bool, true, false, List, [], ◌∷◌, ◌++◌, length, take, drop, refl, sym, ap, ap₂, subst, ◌∙◌, arith, length-append, length-drop, length-take, get_or-take, get_or-drop, append_assoc}
use mathlib.Core.List.{append-nil}
use mathlib.Core.Logic.{⊎_elim}
use lib.Dec.{T, leb, ltb, eqb, leb→le}
use lib.ListN.{drop_of_length-le, get_or-eq_default}
use lib.Seq.{take_all, drop-drop, take-append_seam, drop-append_seam}
use borrow.Rule.Slice.PartMut.{put_mid, mid_of}
use Rattle.laws.specs.Sum.{gate}
use Rattle.laws.specs.Lists.{nth, over}
use Rattle.laws.proofs.SumLaws.{lt_or_ge, gate_lt, gate_ge}
use Rattle.laws.proofs.TestLaws.{every_holds}
use Rattle.lines.specs.Lines.{digits, line_of}
use Rattle.answer.specs.Write.{verdict_frame, cell_at, slot_frame, row_frame, slot_lines, answer_lines, write_answer, can_write, Written}

-- what is written behind what stands at the start
module _ (s out₀ out part : List ℕ) (next : ℕ) (e : out ≡ over s out₀) (q : next ≡ length s) where
  pub written_behind : (t : List ℕ) → part ≡ over t (mid_of next (length out - next) out) → put_mid next (length out - next) out part ≡ over (s ++ t) out₀
  unfolding over
  written_behind t p =
      ap₂ (λ a b. a ++ (part ++ b)) front end ∙ ap (λ r. s ++ r) (append-nil part ∙ p ∙ ap (over t) middle) ∙ sym (append_assoc s t _)
      ∙ ap (λ r. (s ++ t) ++ r) (drop-drop (length t) (length s) out₀ ∙ ap (λ n. drop n out₀) (sym (length-append s t)))
    where
      front : take next out ≡ s
      front = rw (e, q) (take-append_seam s (drop (length s) out₀))

      rest : drop next out ≡ drop (length s) out₀
      rest = rw (e, q) (drop-append_seam s (drop (length s) out₀))

      end : drop (length out - next) (drop next out) ≡ []
      end = drop_of_length-le (drop next out) {i = length out - next} (omega (arith, length-drop next out))

      middle : mid_of next (length out - next) out ≡ drop (length s) out₀
      middle = take_all (length out - next) (drop next out) (omega (arith, length-drop next out)) ∙ rest

  -- a frame's line
  pub line_behind : (f g : List ℕ) → f ≡ g → part ≡ over (line_of f) (mid_of next (length out - next) out)
      → put_mid next (length out - next) out part ≡ over (s ++ line_of g) out₀
  line_behind f g h p = written_behind (line_of g) (p ∙ ap (λ k. over (line_of k) (mid_of next (length out - next) out)) h)

-- the line of a slot has 15 bytes
slot_length : (m : ℕ) (table : List ℕ) (t : ℕ) → length (line_of (slot_frame m table t)) ≡ 15
unfolding line_of digits slot_frame
slot_length m table t = refl

pub slots_length : (n m : ℕ) (table : List ℕ) → length (slot_lines n m table) ≡ n * 15
unfolding slot_lines
slots_length zero m table = refl
slots_length (suc n) m table =
    omega (arith, length-append (slot_lines n m table) (line_of (slot_frame m table n)), slots_length n m table, slot_length m table n)

-- that of a verdict 13
pub verdict_length : (verdict tries : ℕ) → length (line_of (verdict_frame verdict tries)) ≡ 13
unfolding line_of digits verdict_frame
verdict_length verdict tries = refl

-- and the whole answer so many
answer_length : (verdict tries shown m : ℕ) (table : List ℕ) → length (answer_lines verdict tries shown m table) ≡ 16 + shown * 15
unfolding line_of digits
answer_length verdict tries shown m table =
    let first = line_of (verdict_frame verdict tries) in
    let slots = slot_lines shown m table in
    omega (
      arith,
      length-append (first ++ slots) (line_of (7 ∷ [])),
      length-append first slots,
      verdict_length verdict tries,
      slots_length shown m table,
    )

-- the row of a slot
pub row_cells : (m : ℕ) (table : List ℕ) (t first n : ℕ) → first ≡ t * m → n ≡ m → row_frame t (take n (drop first table)) ≡ slot_frame m table t
unfolding row_frame slot_frame cell_at
row_cells m table t first n e q = rw (e, q, cell 0, cell 1, cell 2, cell 3)
  where
    cell : (j : ℕ) → nth (take m (drop (t * m) table)) j ≡ gate (ltb j m) (nth table (t * m + j))
    cell j = ⊎_elim
        (λ l. get_or-take m (drop (t * m) table) j 0 l ∙ get_or-drop (t * m) table j 0 ∙ sym (gate_lt _ _ _ l))
        (λ h. get_or-eq_default (take m (drop (t * m) table)) 0 (omega (arith, length-take m (drop (t * m) table))) ∙ sym (gate_ge _ _ _ h))
        (lt_or_ge j m)

-- ---- the answer
-- what an answer asks that can be written
pub can_is : (H m cells room : ℕ) → true ≡ can_write H m cells room → (H ≤ 1024) × (m ≤ 4) × (H * m ≤ cells) × (15376 ≤ room)
unfolding can_write
can_is H m cells room e =
    let h = every_holds (leb H 1024 ∷ leb m 4 ∷ leb (H * m) cells ∷ leb 15376 room ∷ []) (subst T e tt) in
    (leb→le _ _ h.0, leb→le _ _ h.1.0, leb→le _ _ h.1.1.0, leb→le _ _ h.1.1.1.0)

-- the slots that are shown are slots of the table
pub shown_fits : (b : Bool) (H m cells shown : ℕ) → shown ≡ gate b H → H ≤ 1024 → H * m ≤ cells → (shown ≤ 1024) × (shown * m ≤ cells)
unfolding gate
shown_fits true H m cells shown e l h = rw e (l, h)
shown_fits false H m cells shown e l h = rw e (omega arith, omega arith)

-- nothing is written
pub not_written : (can : Bool) (text out : List ℕ) → false ≡ can → Written can text out 0 out
unfolding gate
not_written can text out e = record { count = rw (← e); holds = rw (← e) }

-- the answer is
pub answer_written : (can : Bool) (verdict tries H m shown r : ℕ) (table out out' : List ℕ) → true ≡ can → shown ≡ gate (eqb verdict 0) H
    → r ≡ 16 + shown * 15 → out' ≡ over (answer_lines verdict tries shown m table) out → Written can (write_answer verdict tries H m table) out r out'
unfolding gate write_answer
answer_written can verdict tries H m shown r table out out' e g q w =
    rw (← e, ← g) (record { count = q ∙ sym (answer_length verdict tries shown m table); holds = w })
