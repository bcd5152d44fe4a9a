-- The reading line by line: the state that the code's values stand for, and how it goes on or ends.
-- Assumes nothing.
use Rattle.std.proofs.Common.{ℕ, zero, suc, ◌≡◌, ◌≢◌, ◌+◌, ◌<◌, Bool, true, false, ◌&&◌, List, [], ◌∷◌, ◌++◌, length, min, nat_eq, nat_le, refl, sym, ap, ap₂, subst, ◌∙◌, arith, Bor, Option, None, Some}
use native.Mathlib.Decide.{ℕ_discrete}
use mathlib.Core.Bool.{cond, ◌||◌, false≢true}
use borrow.Author.Tests.{leb-true, eqb-true, eq-eqb, ne_eqb}
use Rattle.std.specs.Fn.{Mut, Called, ComputesKey}
use Rattle.std.specs.List.{IsFirstMatchOrLen}
use Rattle.std.proofs.lemmas.List.Sorted.{answers_always}
use Rattle.laws.specs.Lists.{nth}
use Rattle.tasks.specs.Refusal.{unless}
use Rattle.lines.specs.declared.Kind.TheVariants.{Rates}
use Rattle.lines.specs.declared.Frame.{Frame}
use Rattle.lines.specs.Lines.{bytes_of, lines, line_in, LineEnd}
use Rattle.lines.specs.Refusal.{line_refusal}
use Rattle.lines.specs.Told.{code_of, IsFrame}
use Rattle.lines.proofs.LineLaws.{line_cut}
use Rattle.lines.proofs.RefusalLaws.{both_pass}
use Rattle.frames.specs.declared.Problem.{Problem}
use Rattle.frames.specs.Read.{Reading, said, start, refused, problem, may_follow, right_number, in_place, taken_frame, place_refusal, or_read, read_lines}
use Rattle.frames.specs.Told.{listed, HasRead, code_before, WasFrame}

-- an 03 in its place finds room for its task
pub number_room : (last n : ℕ) (f : List ℕ) → in_place last n f ≡ true → nth f 0 ≡ 3 → n < 16
unfolding in_place right_number
number_room last n f e k =
    let right : nat_eq (nth f 1) (suc n) && nat_le (nth f 1) 16 ≡ true = rw k at (both_pass (may_follow last (nth f 0)) _ e).1 in
    let b = both_pass (nat_eq (nth f 1) (suc n)) (nat_le (nth f 1) 16) right in
    omega (arith, eqb-true (nth f 1) (suc n) b.0, leb-true (nth f 1) 16 b.1)

-- ---- the text cut at line feeds
-- what an iterator over lines tells of its next line
abbrev pub NextLine : {F : Type 0} (g : Mut F (Bor ℕ × Unit {0}) Bool) (f f' : F) (text line rest : List ℕ) → Type 0
NextLine g f f' text line rest =
    (text ≡ line ++ rest) × ((i : ℕ) × (length line ≡ min (i + 1) (length text)) × ((p : ℕ → Bool) → ComputesKey g p f → ComputesKey g p f' × IsFirstMatchOrLen p text i))
    × (0 < length text)

-- it is the first line of the text
pub next_cut : {F : Type 0} (g : Mut F (Bor ℕ × Unit {0}) Bool) (f f' : F) (text line rest : List ℕ)
    → ((f : F) (a : Bor ℕ × Unit {0}) (r : Bool) (f' : F) → Called g f a r f' → r ≡ nat_eq a.0.now 10)
    → NextLine g f f' text line rest → lines text ≡ line_in line ∷ lines rest
next_cut g f f' text line rest tests h =
    ap lines h.0 ∙ line_cut line rest n (omega (arith, h.1.1, h.2)) (subst (λ t. LineEnd t 0 n) h.0 end)
    (h.1.1 ∙ omega arith ∙ ap (λ t. min (n + 1) (length t)) h.0)
  where
    n : ℕ
    n = min h.1.0 (length text)

    first : IsFirstMatchOrLen (λ c. nat_eq c 10) text h.1.0
    first = (h.1.2 (λ c. nat_eq c 10) (answers_always g (λ a r. r ≡ nat_eq a.0.now 10) f tests)).1

    end : LineEnd text 0 n
    end = record {
      behind = omega arith;
      within = omega arith;
      none_before = λ k a b q. false≢true (sym (first.0 k 0 (omega arith) (omega arith)) ∙ eq-eqb (nth text k) 10 q);
      feed = λ l. let whole : n ≡ h.1.0 = omega arith in eqb-true (nth text n) 10 (ap (λ k. nat_eq (nth text k) 10) whole ∙ first.1 (omega arith) 0);
    }

-- ---- the reading
-- the kind of the last frame by its bytes
code_was : (last : Option Frame) (f : List ℕ) → WasFrame last f → code_before last ≡ nth f 0
code_was None f w = ap (λ f. nth f 0) (sym w)
code_was (Some frame) f w = w.0

-- what is behind an 02 alone, with room for its task
no_other : (a b c : Bool) → cond a false (cond b false (cond c false false)) ≡ true → ⊥
no_other true b c e = false≢true e
no_other false true c e = false≢true e
no_other false false true e = false≢true e
no_other false false false e = false≢true e

before_rates : (last : ℕ) → may_follow last 3 ≡ true → last ≡ 2
unfolding may_follow
before_rates last e = elim (ℕ_discrete last 2) [
  | yes q ↦ q
  | no x ↦ absurd (no_other (nat_eq last 0) (nat_eq last 1 || nat_eq last 3) (nat_eq last 4) (rw (ne_eqb last 2 x) at e))
]

pub rates_room : (last n : ℕ) (frame : Frame) (f : List ℕ) → IsFrame frame f → true ≡ in_place last n f → frame.kind ≡ Rates → (last ≡ 2) × (n < 16)
unfolding in_place
rates_room last n frame f g e k =
    let code : nth f 0 ≡ 3 = sym g.0 ∙ ap code_of k in
    (before_rates last (ap (may_follow last) (sym code) ∙ (both_pass _ _ (sym e)).0), number_room last n f (sym e) code)

-- the state that the code's values stand for, from which the rest of the text decides
pub record Reached (text : List ℕ) (p : Problem) (last : Option Frame) (rest : List ℕ) : Type 0 where
  pub state : Reading
  pub held : HasRead p state
  pub was : WasFrame last state.last
  pub decides : read_lines start (lines text) ≡ read_lines state (lines rest)

-- at a line
module _ (text : List ℕ) (p : Problem) (last : Option Frame) (rest line behind : List ℕ) (R : Reached text p last rest)
    (cut : lines rest ≡ line_in line ∷ lines behind) where
  abbrev line_bytes : List ℕ
  line_bytes = bytes_of (line_in line).text

  next_line : read_lines start (lines text)
      ≡ or_read (line_refusal (line_in line)) (or_read (place_refusal R.state line_bytes) (read_lines (taken_frame R.state line_bytes) (lines behind)))
  unfolding read_lines
  next_line = R.decides ∙ ap (read_lines R.state) cut

  -- refusals 21 to 24 of the line
  pub line_refused : (k : ℕ) → k ≡ line_refusal (line_in line) → k ≢ 0 → refused k ≡ read_lines start (lines text)
  line_refused zero q x = absurd (x refl)
  line_refused (suc k) q x = sym (next_line ∙ rw (← q))

  module _ (passed : 0 ≡ line_refusal (line_in line)) (count : ℕ) (all : count ≡ length (listed p.tasks)) where
    place_is : in_place (code_before last) count line_bytes ≡ in_place (nth R.state.last 0) (length R.state.tasks) line_bytes
    place_is = ap₂ (λ k n. in_place k n line_bytes) (code_was last R.state.last R.was) (all ∙ ap length R.held.tasks)

    -- refusal 24 of its place
    pub place_refused : false ≡ in_place (code_before last) count line_bytes → refused 24 ≡ read_lines start (lines text)
    unfolding place_refusal unless
    place_refused q = sym (next_line ∙ rw (← passed, ← (q ∙ place_is)))

    -- and on to the next line
    pub reached_next : (frame : Frame) (p' : Problem) → true ≡ in_place (code_before last) count line_bytes → IsFrame frame line_bytes
        → HasRead p' (taken_frame R.state line_bytes) → Reached text p' (Some frame) behind
    unfolding taken_frame place_refusal unless
    reached_next frame p' q g h = record {
      state = taken_frame R.state line_bytes;
      held = h;
      was = g;
      decides = next_line ∙ rw (← passed, ← (q ∙ place_is));
    }

-- at the text's end
module _ (text : List ℕ) (p : Problem) (last : Option Frame) (rest : List ℕ) (R : Reached text p last rest) (none : length rest ≡ 0) where
  no_line : read_lines start (lines text) ≡ or_read (unless (nat_eq (code_before last) 7) 24 0) (said R.state)
  unfolding read_lines lines
  no_line =
      R.decides ∙ ap (λ s. read_lines R.state (lines s)) (empty rest none)
      ∙ ap (λ k. or_read (unless (nat_eq k 7) 24 0) (said R.state)) (sym (code_was last R.state.last R.was))
    where
      empty : (s : List ℕ) → length s ≡ 0 → s ≡ []
      empty [] e = refl
      empty (x ∷ s) e = absurd (omega arith)

  -- 24 where there is no end
  pub no_end : false ≡ nat_eq (code_before last) 7 → refused 24 ≡ read_lines start (lines text)
  unfolding unless
  no_end e = sym (no_line ∙ rw (← e))

  -- else the problem
  pub read_all : true ≡ nat_eq (code_before last) 7 → problem p.m (listed p.tasks) p.engine p.limit ≡ read_lines start (lines text)
  unfolding unless
  read_all e = rw (R.held.m, R.held.tasks, R.held.engine, R.held.limit) (sym (no_line ∙ rw (← e)))
