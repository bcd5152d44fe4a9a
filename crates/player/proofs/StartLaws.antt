-- A start: its record, its refusals, and that it answers as a step does.
-- Assumes nothing.
use Prim.Native.Nat.{ℕ, zero, suc, ◌*◌, ◌^◌, ◌≤◌, ◌<◌}
use mathlib.Core.Path.{◌≡◌, refl, sym, ap, ap₂, ◌∙◌}
use mathlib.Core.Logic.{◌≢◌, ⊎_elim}
use mathlib.Core.Bool.{true, false}
use mathlib.Core.List.{List, [], ◌∷◌}
use native.Mathlib.Omega.{arith}
use lib.ListN.{length}
use Rattle.std.specs.Prelude.{Option, None, Some, Ok, Err}
use Rattle.std.specs.Option.{is_some}
use Rattle.laws.specs.Lists.{nth}
use Rattle.laws.proofs.SumLaws.{lt_or_ge}
use Rattle.tasks.specs.declared.Task.{Task}
use Rattle.tasks.specs.declared.Slots.{Slots}
use Rattle.tasks.specs.declared.Refusal.{Refusal}
use Rattle.tasks.specs.Refusal.{table_length, IsSound, tested}
use Rattle.tasks.specs.Told.{number_of, tested_as}
use Rattle.tasks.specs.Instance.{instance_of}
use Rattle.tasks.proofs.SoundLaws.{sound_list}
use Rattle.tasks.proofs.RefusalLaws.{some_number}
use Rattle.tasks.proofs.AnswerLaws.{tested_sound, tested_refused}
use Rattle.table.specs.Fault.{no_fault, checked, check}
use Rattle.checker.specs.declared.Fault.{Fault as FaultTold}
use Rattle.checker.specs.declared.Fault.TheVariants.{Cell, Job}
use Rattle.checker.specs.Checks.{Checkable}
use Rattle.checker.specs.Told.{checked_as}
use Rattle.checker.proofs.TellLaws.{check_refused, check_short}
use Rattle.clock.specs.Clock.{Answered}
use Rattle.clock.proofs.ClockLaws.{tick_after}
use Rattle.player.specs.declared.Player.{Player}
use Rattle.player.specs.Player.{cells_of, stepped, after_step, check_refusal, start_refusal, padded, offset_at, record_of, started, after_start}
use Rattle.player.proofs.RecordLaws.{IsUnspoilt, moved, moved_none, moved_step, moved_answer, made_unspoilt}

module _ (m : ℕ) (ts : List Task) (t : List ℕ) where
  -- the record of a start, made of its parts
  pub made_record : (h tick : ℕ) (os cs : List ℕ) → Checkable ts m h t → os ≡ padded 16 (length ts) (offset_at ts) → cs ≡ padded 4096 (h * m) (nth t)
      → ◌≡◌ {A = Player} (record { last = tick; h = h; position = 0; age = 0; offsets = os; m = m; n = length ts; table = cs }) (record_of m ts t tick)
  unfolding record_of
  made_record h tick os cs s eo ec = let e = s.slots in rw (eo, ec, e)

  -- ---- refusals
  -- a refused start answers by its number, and leaves the record
  pub start_refused : (tick : ℕ) (p : Player) (v : ℕ) → v ≡ start_refusal m ts t → v ≢ 0
      → (◌≡◌ {A = Answered} (record { verdict = v; cells = 0 ∷ 0 ∷ 0 ∷ 0 ∷ []; missed = 0 }) (started m ts t tick)) × (p ≡ after_start m ts t tick p)
  unfolding started after_start
  start_refused tick p zero e x = absurd (x refl)
  start_refused tick p (suc v) e x = (rw (← e), rw (← e))

  -- a list is refused by its own number
  pub list_refused : (r : Refusal) → tested_as (Err r) ≡ tested m ts → number_of r ≡ start_refusal m ts t
  list_refused r e =
      let q = (tested_refused m ts (Err r) e r refl).0 in
      q ∙ sym (ap check_refusal (check_refused m ts t (λ z. some_number r (q ∙ z))))

  -- a table by the checker's
  pub table_refused : (r : Refusal) → checked_as (Err r) ≡ check m ts t → number_of r ≡ start_refusal m ts t
  table_refused r e = ap check_refusal e

  -- and by 11 if it has a fault
  pub faulty_refused : (x : Option FaultTold) → true ≡ is_some x → checked_as (Ok x) ≡ check m ts t → 11 ≡ start_refusal m ts t
  faulty_refused None some e = cc
  faulty_refused (Some (Cell s j k)) some e = ap check_refusal e
  faulty_refused (Some (Job i k x)) some e = ap check_refusal e

  -- and by none if it has no fault
  faultless : (x : Option FaultTold) → false ≡ is_some x → checked_as (Ok x) ≡ check m ts t → checked no_fault ≡ check m ts t
  faultless None none e = e
  faultless (Some x) none e = cc

  -- ---- a start whose list is sound and whose table the checker looked at
  module _ (h : Slots) (x : Option FaultTold) (sound : tested_as (Ok h) ≡ tested m ts) (told : checked_as (Ok x) ≡ check m ts t) where
    -- as it is told
    list_sound : IsSound m ts × (h.0 ≡ table_length ts)
    list_sound = tested_sound m ts (Ok h) sound h refl

    -- the table can be copied
    pub checkable : Checkable ts m h.0 t
    unfolding instance_of
    checkable = record { sound = list_sound.0; slots = list_sound.1; long = rw (list_sound.1) long }
      where
        long : table_length ts * m ≤ length t
        long = ⊎_elim (λ l. let e = check_short m ts t list_sound.0 l in cc) (λ l. l) (lt_or_ge (length t) (table_length ts * m))

    -- it has no number, if there is no fault
    taken : false ≡ is_some x → start_refusal m ts t ≡ 0
    taken none = sym (ap check_refusal (faultless x none told))

    -- then a step at the same tick answers for slot 0 and leaves the record as it is
    module _ (none : false ≡ is_some x) (tick : ℕ) (l : tick < 2 ^ 32) where
      abbrev made : Player
      made = record_of m ts t tick

      -- it is not spoilt, moved on by no slot it is itself, and no slot has passed
      unspoilt : IsUnspoilt made
      unspoilt = made_unspoilt (sound_list m ts list_sound.0) t tick

      made_now : moved made 0 ≡ made
      unfolding record_of
      made_now = moved_none made unspoilt l

      same_tick : tick_after (moved made 0).last 0 ≡ tick
      unfolding record_of
      same_tick = omega arith

      -- so it is
      pub starts : (p : Player) → (stepped made tick ≡ started m ts t tick) × (after_step made tick ≡ after_start m ts t tick p)
      unfolding started after_start
      starts p = (
        ap₂ stepped (sym made_now) (sym same_tick) ∙ moved_answer made unspoilt 0 0 (omega arith)
            ∙ rw (taken none) (ap (λ q. record { verdict = 0; cells = cells_of q; missed = 0 }) made_now),
        ap₂ after_step (sym made_now) (sym same_tick) ∙ moved_step made unspoilt 0 0 (omega arith) ∙ rw (taken none) made_now,
      )
