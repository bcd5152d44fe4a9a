-- What a call of each public function ensures, as its contract says, and that it leaves one answer and one buffer; line and frame are only read.
-- Assumes nothing.
use Rattle.std.proofs.Common.{ℕ, ◌≡◌, ◌+◌, ◌*◌, ◌<◌, List, length, get_or, refl, sym, ap, ◌∙◌, arith, Result, Ok, Err, IfOk}
use mathlib.Core.Logic.{⊎_elim}
use mathlib.Core.Bool.{true≢false}
use mathlib.Core.List.{[], ◌∷◌}
use Rattle.laws.specs.Lists.{over}
use Rattle.laws.proofs.SumLaws.{lt_or_ge}
use Rattle.laws.proofs.Only.{Says, only, only_both}
use Rattle.tasks.specs.declared.Refusal.{Refusal}
use Rattle.tasks.specs.Told.{refusal_of}
use Rattle.tasks.proofs.RefusalLaws.{some_number, refusal_from, refusal_back}
use Rattle.lines.specs.declared.Kind.{Kind}
use Rattle.lines.specs.declared.Kind.TheVariants.{Cores, Task, Rates, Limit, Verdict, Slot, End}
use Rattle.lines.specs.declared.Frame.{Frame}
use Rattle.lines.specs.Frame.{sort_of}
use Rattle.lines.specs.Frame.{ten_bytes}
use Rattle.lines.specs.Lines.{bytes_of, LineEnd, line_in, line_of}
use Rattle.lines.specs.Refusal.{is_kind, line_refusal}
use Rattle.lines.specs.Told.{code_of, DecodesKind, IsFrame}
use Rattle.lines.proofs.FrameLaws.{is_known}
use Rattle.lines.specs.contracts.put_frame as put_frame_call
use Rattle.lines.specs.contracts.frame_at as frame_at_call
use Rattle.lines.specs.contracts.read_line as read_line_call

-- ---- kinds
-- the kind of a code
kind_from : ℕ → Kind
kind_from k = get_or (Cores ∷ Cores ∷ Task ∷ Rates ∷ Limit ∷ Verdict ∷ Slot ∷ End ∷ []) k Cores

-- is the kind
kind_back : (kind : Kind) → kind_from (code_of kind) ≡ kind
unfolding kind_from
kind_back Cores = refl
kind_back Task = refl
kind_back Rates = refl
kind_back Limit = refl
kind_back Verdict = refl
kind_back Slot = refl
kind_back End = refl

same_kind : (a b : Kind) → code_of a ≡ code_of b → a ≡ b
same_kind a b e = sym (kind_back a) ∙ ap kind_from e ∙ kind_back b

-- the kind of a byte, or that it is none
pub decodes_only : (code : ℕ) (r r' : Result Kind Refusal) → DecodesKind code r → DecodesKind code r' → r ≡ r'
decodes_only code (Ok a) (Ok b) e e' = ap Ok (same_kind a b (e ∙ sym e'))
decodes_only code (Ok a) (Err d) e e' = absurd (true≢false (sym (is_known a) ∙ ap (λ k. is_kind (sort_of k)) e ∙ e'.1))
decodes_only code (Err d) (Ok b) e e' = absurd (true≢false (sym (is_known b) ∙ ap (λ k. is_kind (sort_of k)) e' ∙ e.1))
decodes_only code (Err d) (Err d') e e' = ap Err (e.0 ∙ sym e'.0)

-- ---- put_frame
abbrev pub PutFrame : List ℕ → List ℕ → ℕ → List ℕ → Type 0
PutFrame out frame r out' = (r ≡ length frame * 2 + 1) × (out' ≡ over (line_of frame) out)

put_frame_says : (κs out frame out' frame' r : _)
    → Says (λ M 𝓤 𝓛 mem run. put_frame_call.ensures-1 𝓛 κs mem run out frame out' frame' r) (PutFrame out'.entry.now frame'.entry.now r out'.exit.now)
put_frame_says κs out frame out' frame' r M 𝓤 𝓛 mem run = refl

pub put_frame_only : (out frame : List ℕ) (r r' : ℕ) (o o' : List ℕ) → PutFrame out frame r o → PutFrame out frame r' o' → (r ≡ r') × (o ≡ o')
put_frame_only out frame r r' o o' = only_both

-- ---- lines
-- no line ends before another that begins with it
not_before : (text : List ℕ) (from r r' : ℕ) → LineEnd text from r → LineEnd text from r' → r < r' → ⊥
not_before text from r r' e e' l = e'.none_before r e.behind l (e.feed (omega (arith, e'.within)))

-- a line has one end
pub line_end_only : (text : List ℕ) (from r r' : ℕ) → LineEnd text from r → LineEnd text from r' → r ≡ r'
line_end_only text from r r' e e' =
    ⊎_elim (λ l. absurd (not_before text from r r' e e' l)) (λ g. ⊎_elim (λ l. absurd (not_before text from r' r e' e l)) (λ h. omega arith) (lt_or_ge r' r)) (lt_or_ge r r')

-- ---- frame_at
abbrev pub FrameAt : List ℕ → List ℕ → Type 0
FrameAt digits r = r ≡ ten_bytes (bytes_of digits)

frame_at_says : (κs digits digits' r : _) → Says (λ M 𝓤 𝓛 mem run. frame_at_call.ensures-1 𝓛 κs mem run digits digits' r) (FrameAt digits'.entry.now r)
frame_at_says κs digits digits' r M 𝓤 𝓛 mem run = refl

pub frame_at_only : (digits r r' : List ℕ) → FrameAt digits r → FrameAt digits r' → r ≡ r'
frame_at_only digits r r' = only

-- ---- read_line
-- the refusal of a line, 0 for none
abbrev pub LineRefusal : List ℕ → Result Frame Refusal → Type 0
LineRefusal line r = refusal_of r ≡ line_refusal (line_in line)

line_refusal_says : (κs line line' r : _)
    → Says (λ M 𝓤 𝓛 mem run. read_line_call.ensures-refusal 𝓛 κs mem run line line' r) (LineRefusal line'.entry.now r)
line_refusal_says κs line line' r M 𝓤 𝓛 mem run = refl

pub line_refusal_only : (line : List ℕ) (r r' : Result Frame Refusal) → LineRefusal line r → LineRefusal line r' → refusal_of r ≡ refusal_of r'
line_refusal_only line r r' = only

-- and its frame
abbrev pub LineFrame : List ℕ → Result Frame Refusal → Type 0
LineFrame line r = IfOk r (λ frame. IsFrame frame (bytes_of (line_in line).text))

line_frame_says : (κs line line' r : _)
    → Says (λ M 𝓤 𝓛 mem run. read_line_call.ensures-frame 𝓛 κs mem run line line' r) (LineFrame line'.entry.now r)
line_frame_says κs line line' r M 𝓤 𝓛 mem run = refl

-- so a line has one answer
pub read_line_only : (line : List ℕ) (r r' : Result Frame Refusal)
    → LineRefusal line r × LineFrame line r → LineRefusal line r' × LineFrame line r' → r ≡ r'
read_line_only line (Err d) (Err d') e e' = ap Err (sym (refusal_back d) ∙ ap refusal_from (only e.0 e'.0) ∙ refusal_back d')
read_line_only line (Err d) (Ok f') e e' = absurd (some_number d (only e.0 e'.0))
read_line_only line (Ok f) (Err d') e e' = absurd (some_number d' (only e'.0 e.0))
read_line_only line (Ok f) (Ok f') e e' = ap Ok (rw (same_kind f.kind f'.kind (only e.1.0 e'.1.0), only e.1.1 e'.1.1))
