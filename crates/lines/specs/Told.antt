-- What the code holds and answers, by the rules' numbers: a kind's byte, and a frame's bytes.
-- Assumes nothing.
use Rattle.std.specs.Prelude.{ℕ, ◌≡◌, false, List, Result, MatchResult}
use Rattle.laws.specs.Lists.{nth}
use Rattle.tasks.specs.declared.Refusal.{Refusal}
use Rattle.tasks.specs.declared.Refusal.TheVariants as refusal
use Rattle.lines.specs.declared.Kind.{Kind}
use Rattle.lines.specs.declared.Kind.TheVariants.{Cores, Task, Rates, Limit, Verdict, Slot, End}
use Rattle.lines.specs.declared.Frame.{Frame}
use Rattle.lines.specs.Frame.{sort_of, ten_bytes}
use Rattle.lines.specs.Refusal.{is_kind}

-- 8.2: the first byte of a kind's lines
abbrev pub code_of : Kind → ℕ
code_of Cores = 1
code_of Task = 2
code_of Rates = 3
code_of Limit = 4
code_of Verdict = 5
code_of Slot = 6
code_of End = 7

-- 8.8: the kind whose lines begin with this byte, or that there is none
abbrev pub DecodesKind : ℕ → Result Kind Refusal → Type 0
DecodesKind code r = MatchResult r (λ kind. code_of kind ≡ code) (λ e. (e ≡ refusal.Kind) × (is_kind (sort_of code) ≡ false))

-- a frame of these bytes, which it has filled up with 0
abbrev pub IsFrame : Frame → List ℕ → Type 0
IsFrame frame f = (code_of frame.kind ≡ nth f 0) × (frame.bytes ≡ ten_bytes f)
