-- Quick unless told otherwise: the engine and the limit that a text is read with, by its 04 frames. The words come first.
-- Assumes nothing.
use Prim.Native.Nat.{ℕ}
use native.Mathlib.Decide.{ℕ_discrete}
use native.Mathlib.Omega.{arith}
use mathlib.Core.Path.{◌≡◌, refl, subst, ◌∙◌}
use mathlib.Core.Logic.{◌≢◌}
use mathlib.Core.Bool.{true, cond, false≢true}
use mathlib.Core.List.{List, [], ◌∷◌}
use borrow.Author.Tests.{eqb-true, eq-eqb, ne_eqb}
use lib.Dec.{eqb}
use Rattle.laws.specs.Lists.{nth}
use Rattle.tasks.specs.declared.Task.{Task}
use Rattle.lines.specs.Frame.{four}
use Rattle.lines.specs.Lines.{Line, bytes_of, lines}
use Rattle.lines.proofs.RefusalLaws.{both_pass}
use Rattle.frames.specs.Read.{Read, refused, problem, Reading, start, may_follow, in_place, taken_frame, read_lines, read_problem}
use Rattle.frames.proofs.ReadLaws.{end_read, line_read, text_read}

-- ---- words
-- the 04 frames among the lines of a text
abbrev pub limits_in : List Line → List (List ℕ)
limits_in [] = []
limits_in (l ∷ ls) = cond (eqb (nth (bytes_of l.text) 0) 4) (bytes_of l.text ∷ limits_in ls) (limits_in ls)

-- what a text with these 04 frames is read as, unless it is refused: a problem with engine e and limit b if there is none, with its own if there is one; with more it is refused
pub data PlannedBy (e b : ℕ) : List (List ℕ) → Read → Type 0 where
  no_problem : {fs : List (List ℕ)} {k : ℕ} → PlannedBy e b fs (refused k)
  left_out : {m : ℕ} {ts : List Task} → PlannedBy e b [] (problem m ts e b)
  told : {m : ℕ} {ts : List Task} {f : List ℕ} → PlannedBy e b (f ∷ []) (problem m ts (nth f 1) (four f 2))

-- ---- laws
-- an 04 says engine and limit, no other frame does
module _ (l : Line) where
  abbrev frame : List ℕ
  frame = bytes_of l.text

  one_more : (ls : List Line) → nth frame 0 ≡ 4 → limits_in (l ∷ ls) ≡ frame ∷ limits_in ls
  one_more ls k = rw (eq-eqb (nth frame 0) 4 k)

  no_more : (ls : List Line) → nth frame 0 ≢ 4 → limits_in (l ∷ ls) ≡ limits_in ls
  no_more ls x = rw (ne_eqb (nth frame 0) 4 x)

  says : (s : Reading) → nth frame 0 ≡ 4 → ((taken_frame s frame).engine ≡ nth frame 1) × ((taken_frame s frame).limit ≡ four frame 2)
  unfolding taken_frame
  says s k = (rw (eq-eqb (nth frame 0) 4 k), rw (eq-eqb (nth frame 0) 4 k))

  says_not : (s : Reading) → nth frame 0 ≢ 4 → ((taken_frame s frame).engine ≡ s.engine) × ((taken_frame s frame).limit ≡ s.limit)
  unfolding taken_frame
  says_not s x = (rw (ne_eqb (nth frame 0) 4 x), rw (ne_eqb (nth frame 0) 4 x))

-- behind an 04 comes an 07 alone, and behind that nothing
behind_limit : (last kind : ℕ) → last ≡ 4 → may_follow last kind ≡ true → kind ≡ 7
unfolding may_follow
behind_limit last kind k e = eqb-true kind 7 (rw k at e)

behind_end : (last kind : ℕ) → last ≡ 7 → may_follow last kind ≡ true → ⊥
unfolding may_follow
behind_end last kind k e = false≢true (rw k at e)

module _ (e b : ℕ) where
  -- where only an 07 may follow, no 04 does
  only_end : (f : List ℕ) (ls : List Line) (s : Reading) → s.engine ≡ nth f 1 → s.limit ≡ four f 2 → ((kind : ℕ) → may_follow (nth s.last 0) kind ≡ true → kind ≡ 7)
      → PlannedBy e b (f ∷ limits_in ls) (read_lines s ls)
  unfolding in_place taken_frame
  only_end f [] s engine limit ends = end_read (PlannedBy e b (f ∷ [])) (λ k l h. no_problem) s (rw (engine, limit) told)
  only_end f (l ∷ ls) s engine limit ends = line_read (PlannedBy e b _) (λ k l h. no_problem) l ls s (λ place.
      let kind : nth (bytes_of l.text) 0 ≡ 7 = ends _ (both_pass _ _ place).0 in
      let other : nth (bytes_of l.text) 0 ≢ 4 = λ q. omega arith in
      let kept = says_not l s other in
      rw (no_more l ls other) (only_end f ls (taken_frame s (bytes_of l.text)) (kept.0 ∙ engine) (kept.1 ∙ limit) (λ next q. absurd (behind_end _ next kind q))))

  -- the lines from any state on
  lines_planned : (ls : List Line) (s : Reading) → s.engine ≡ e → s.limit ≡ b → PlannedBy e b (limits_in ls) (read_lines s ls)
  unfolding taken_frame
  lines_planned [] s engine limit = end_read (PlannedBy e b []) (λ k l h. no_problem) s (rw (engine, limit) left_out)
  lines_planned (l ∷ ls) s engine limit = line_read (PlannedBy e b _) (λ k l h. no_problem) l ls s (λ place. elim (ℕ_discrete (nth (bytes_of l.text) 0) 4) [
    | yes k ↦
        let own = says l s k in
        rw (one_more l ls k) (only_end (bytes_of l.text) ls (taken_frame s (bytes_of l.text)) own.0 own.1 (λ next. behind_limit _ next k))
    | no x ↦
        let kept = says_not l s x in
        rw (no_more l ls x) (lines_planned ls (taken_frame s (bytes_of l.text)) (kept.0 ∙ engine) (kept.1 ∙ limit))
  ])

-- RULES 8.4: every text is read so, with engine 1 and limit 1000000 for an 04 left out
pub read_planned : (text : List ℕ) → PlannedBy 1 1000000 (limits_in (lines text)) (read_problem text)
read_planned text = text_read (PlannedBy 1 1000000 _) (λ k l h. no_problem) text (lines_planned 1 1000000 (lines text) start refl refl)

-- so a problem without an 04 has engine 1 and limit 1000000
pub left_out_quick : (text : List ℕ) (m : ℕ) (ts : List Task) (e b : ℕ) → read_problem text ≡ problem m ts e b → limits_in (lines text) ≡ [] → read_problem text ≡ problem m ts 1 1000000
left_out_quick text m ts e b reads none = reads ∙ only (subst (PlannedBy 1 1000000 []) reads (rw none at (read_planned text)))
  where
    only : {e b : ℕ} → PlannedBy 1 1000000 [] (problem m ts e b) → problem m ts e b ≡ problem m ts 1 1000000
    only left_out = refl
