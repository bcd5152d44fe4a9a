-- What a call of each public function ensures, as its contract says, and that it leaves one answer and one buffer; table is only read.
-- Assumes nothing.
use Rattle.std.proofs.Common.{ℕ, ◌≡◌, Bool, List, length, refl, sym, ap, Option, None, Some}
use mathlib.Core.Bool.{true≢false}
use Rattle.std.specs.Option.{is_some, unwrap_or}
use Rattle.laws.proofs.Only.{Says, only}
use Rattle.answer.specs.Write.{can_write, write_answer, Written}
use Rattle.answer.specs.contracts.write_answer as write_answer_call

-- ---- write_answer
-- a writer's answer and buffer
pub written_only : {can : Bool} {text out : List ℕ} {r r' : ℕ} {o o' : List ℕ} → Written can text out r o → Written can text out r' o' → (r ≡ r') × (o ≡ o')
written_only w w' = (only w.count w'.count, only w.holds w'.holds)

-- it can be written
abbrev pub CanWrite : ℕ → ℕ → List ℕ → List ℕ → Option ℕ → Type 0
CanWrite slots m table out r = is_some r ≡ can_write slots m (length table) (length out)

can_write_says : (κs verdict tries slots m table out verdict' tries' slots' m' table' out' r : _)
    → Says (λ M 𝓤 𝓛 mem run. write_answer_call.ensures-can 𝓛 κs mem run verdict tries slots m table out verdict' tries' slots' m' table' out' r)
    (CanWrite slots m table'.entry.now out'.entry.now r)
can_write_says κs verdict tries slots m table out verdict' tries' slots' m' table' out' r M 𝓤 𝓛 mem run = refl

-- and what is written
abbrev pub Writes : ℕ → ℕ → ℕ → ℕ → List ℕ → List ℕ → Option ℕ → List ℕ → Type 0
Writes verdict tries slots m table out r out' =
    Written (can_write slots m (length table) (length out)) (write_answer verdict tries slots m table) out (unwrap_or r 0) out'

writes_says : (κs verdict tries slots m table out verdict' tries' slots' m' table' out' r : _)
    → Says (λ M 𝓤 𝓛 mem run. write_answer_call.ensures-written 𝓛 κs mem run verdict tries slots m table out verdict' tries' slots' m' table' out' r)
    (Writes verdict tries slots m table'.entry.now out'.entry.now r out'.exit.now)
writes_says κs verdict tries slots m table out verdict' tries' slots' m' table' out' r M 𝓤 𝓛 mem run = refl

-- both
abbrev pub WriteAnswer : ℕ → ℕ → ℕ → ℕ → List ℕ → List ℕ → Option ℕ → List ℕ → Type 0
WriteAnswer verdict tries slots m table out r out' = CanWrite slots m table out r × Writes verdict tries slots m table out r out'

-- an answer or none, and how many bytes it has
pub same_count : (r r' : Option ℕ) → is_some r ≡ is_some r' → unwrap_or r 0 ≡ unwrap_or r' 0 → r ≡ r'
same_count None None e q = refl
same_count None (Some n) e q = absurd (true≢false (sym e))
same_count (Some n) None e q = absurd (true≢false e)
same_count (Some n) (Some n') e q = ap Some q

pub write_answer_only : (verdict tries slots m : ℕ) (table out : List ℕ) (r r' : Option ℕ) (o o' : List ℕ)
    → WriteAnswer verdict tries slots m table out r o → WriteAnswer verdict tries slots m table out r' o' → (r ≡ r') × (o ≡ o')
write_answer_only verdict tries slots m table out r r' o o' w w' = let both = written_only w.1 w'.1 in (same_count r r' (only w.0 w'.0) both.0, both.1)
