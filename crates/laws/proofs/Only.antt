-- A contract of equations leaves one answer and one state: any two that it allows are equal.
-- Assumes nothing.
use mathlib.Core.Path.{◌≡◌, sym, ap, ◌∙◌}
use seplogic.Ra.Ura.{Ura}
use base.Logic.{SProp}
use prog.Memory.{Memory}
use prog.Routine.{Routine}
use types.Logic.{Logic}
use contract.Monad.{Fun, fact}

-- a clause of a contract, as the toolchain has it, says this fact, whatever the model
abbrev pub Says : ((M : Type 1) (𝓤 : Ura M) (𝓛 : Logic 𝓤) → (Memory → SProp 𝓤) → (Routine → Fun 𝓤) → SProp 𝓤) → Type 0 → Type 2
Says clause P = (M : Type 1) (𝓤 : Ura M) (𝓛 : Logic 𝓤) (mem : Memory → SProp 𝓤) (run : Routine → Fun 𝓤) → clause M 𝓤 𝓛 mem run ≡ fact 𝓤 P

-- an answer
pub only : {A : Type 0} {a r r' : A} → r ≡ a → r' ≡ a → r ≡ r'
only e e' = e ∙ sym e'

-- an answer and a state
pub only_both : {A B : Type 0} {a r r' : A} {b s s' : B} → (r ≡ a) × (s ≡ b) → (r' ≡ a) × (s' ≡ b) → (r ≡ r') × (s ≡ s')
only_both e e' = (only e.0 e'.0, only e.1 e'.1)

-- an answer by what is told of it, from which the answer can be had again
pub only_told : {A B : Type 0} {a : B} {r r' : A} (told : A → B) (back : B → A) → ((x : A) → back (told x) ≡ x) → told r ≡ a → told r' ≡ a → r ≡ r'
only_told told back same e e' = sym (same _) ∙ ap back (only e e') ∙ same _
