-- What a call of the public function ensures, as its contract says, and that it leaves one answer.
-- Assumes nothing.
use Prim.Native.Nat.{◌<◌}
use mathlib.Core.Path.{◌≡◌, refl, sym, ◌∙◌}
use mathlib.Core.Logic.{◌↔◌}
use mathlib.Core.Bool.{true, false}
use lib.Dec.{lt→ltb}
use borrow.Author.Tests.{ltb-true}
use Rattle.laws.specs.Sum.{gate}
use Rattle.laws.proofs.Only.{Says, only}
use Rattle.tasks.specs.declared.Slots.{Slots}
use Rattle.tasks.specs.declared.Task.{Task}
use Rattle.tasks.specs.Window.{job_at, IsOpen, last_slot, to_come}
use Rattle.windows.specs.declared.InSlot.{InSlot}
use Rattle.windows.specs.Answer.{in_slot}
use Rattle.windows.proofs.AnswerLaws.{told_opens, told_job, told_coming, told_last}
use Rattle.windows.specs.contracts.open_in as open_in_call

-- ---- open_in
abbrev pub OpenIn : Slots → Task → Slots → InSlot → Type 0
OpenIn len t slot r = r ≡ in_slot len.0 t slot.0

open_in_says : (κs len t slot len' t' slot' r : _)
    → Says (λ M 𝓤 𝓛 mem run. open_in_call.ensures-1 𝓛 κs mem run len t slot len' t' slot' r) (OpenIn len t slot r)
open_in_says κs len t slot len' t' slot' r M 𝓤 𝓛 mem run = refl

pub open_in_only : (len : Slots) (t : Task) (slot : Slots) (r r' : InSlot) → OpenIn len t slot r → OpenIn len t slot r' → r ≡ r'
open_in_only len t slot r r' = only

module _ (len : Slots) (t : Task) (slot : Slots) (r : InSlot) (e : OpenIn len t slot r) where
  -- the job's number, in any slot
  pub open_in_job : r.job ≡ job_at len.0 t.offset.0 t.period.0 slot.0
  open_in_job = told_job len.0 slot.0 t r e

  -- the cases: open, and how many of the job's slots are to come
  pub open_in_open : r.opens ≡ true
      → IsOpen len.0 t.offset.0 t.deadline.0 t.period.0 slot.0
      × (r.coming.0 ≡ to_come len.0 t.offset.0 t.deadline.0 t.period.0 r.job slot.0)
  unfolding gate
  open_in_open o = (ltb-true _ _ (sym (told_opens len.0 slot.0 t r e) ∙ o), rw o at (told_coming len.0 slot.0 t r e))

  -- and closed, with none
  pub open_in_closed : r.opens ≡ false → (IsOpen len.0 t.offset.0 t.deadline.0 t.period.0 slot.0 → ⊥) × (r.coming.0 ≡ 0)
  unfolding gate
  open_in_closed o = (λ l. rw (sym (told_opens len.0 slot.0 t r e) ∙ o) at (lt→ltb _ _ l), rw o at (told_coming len.0 slot.0 t r e))

  -- the job's highest-numbered slot is where nothing is to come
  pub open_in_last : slot.0 < len.0 → r.opens ≡ true
      → (last_slot len.0 t.offset.0 t.deadline.0 t.period.0 r.job ≡ slot.0) ↔ (r.coming.0 ≡ 0)
  open_in_last = told_last len.0 slot.0 t r e
