-- `player::record_of` meets its contract: its arrays are filled from the list and the table.
-- Assumes nothing.
use native.Mathlib.Nat.{mul-le-mul}
use native.Mathlib.Omega.{arith}
use Rattle.tasks.proofs.SoundLaws.{sound_list}
use Rattle.player.proofs.StartLaws.{made_record}
use Rattle.player.proofs.record_of.Goals as goal

pub offsets_of-requires : goal.offsets_of-requires
offsets_of-requires c = (sound_list _ _ c.requires.sound).few_tasks

pub overflow_cast-result : goal.overflow_cast-result
overflow_cast-result c = record { fits = omega (arith, (sound_list _ _ c.requires.sound).few_tasks) }

pub cells_of-requires : goal.cells_of-requires
cells_of-requires c =
    let s = sound_list _ _ c.requires.sound in
    rw (c.from.ensures, c.from-2.ensures) (mul-le-mul {n₂ = 1024} {m₂ = 4} (omega (arith, s.few_slots, c.requires.slots)) s.few_cores, c.requires.long)

pub returns : goal.returns
returns c = made_record _ _ _ _ _ _ _ c.requires c.offsets_of.ensures (rw (c.from.ensures, c.from-2.ensures) at c.cells_of.ensures)
