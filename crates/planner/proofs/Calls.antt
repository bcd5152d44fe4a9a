-- What a call of each public function ensures, as its contract says, and that it leaves one answer and one buffer; the text is only read.
-- Assumes nothing.
use Prim.Native.Nat.{ℕ}
use mathlib.Core.Path.{◌≡◌, refl}
use mathlib.Core.List.{List}
use lib.Dec.{leb}
use lib.ListN.{length}
use Rattle.std.specs.Prelude.{Option}
use Rattle.std.specs.Option.{is_some, unwrap_or}
use Rattle.laws.proofs.Only.{Says, only}
use Rattle.answer.specs.Write.{Written}
use Rattle.answer.proofs.Calls.{written_only, same_count}
use Rattle.planner.specs.Answer.{answer_to}
use Rattle.planner.specs.contracts.plan_text as plan_text_call

-- ---- plan_text: it gives how many bytes r it has written
abbrev pub PlanText : List ℕ → List ℕ → ℕ → List ℕ → Type 0
PlanText text out r out' = Written (leb 15376 (length out)) (answer_to text) out r out'

-- or none, where there is no room
abbrev pub HasRoom : List ℕ → Option ℕ → Type 0
HasRoom out r = is_some r ≡ leb 15376 (length out)

has_room_says : (κs text out text' out' r : _)
    → Says (λ M 𝓤 𝓛 mem run. plan_text_call.ensures-room 𝓛 κs mem run text out text' out' r) (HasRoom out'.entry.now r)
has_room_says κs text out text' out' r M 𝓤 𝓛 mem run = refl

plan_text_says : (κs text out text' out' r : _)
    → Says (λ M 𝓤 𝓛 mem run. plan_text_call.ensures-written 𝓛 κs mem run text out text' out' r) (PlanText text'.entry.now out'.entry.now (unwrap_or r 0) out'.exit.now)
plan_text_says κs text out text' out' r M 𝓤 𝓛 mem run = refl

pub plan_text_only : (text out : List ℕ) (r r' : ℕ) (o o' : List ℕ) → PlanText text out r o → PlanText text out r' o' → (r ≡ r') × (o ≡ o')
plan_text_only text out r r' o o' = written_only

-- so one answer
pub plan_text_answer : (text out : List ℕ) (r r' : Option ℕ) (o o' : List ℕ) → HasRoom out r → HasRoom out r'
    → PlanText text out (unwrap_or r 0) o → PlanText text out (unwrap_or r' 0) o' → r ≡ r'
plan_text_answer text out r r' o o' h h' w w' = same_count r r' (only h h') (written_only w w').0
