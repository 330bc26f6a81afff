-- A tick's answer in the parts that the code prints, each by a function of its own. A buyer need not believe it: what
-- the parts make together is `spaced (fields_of a)` (proofs/PartLaws.antt).
--     masks_part                  the five masks, a space after each
--     slots_part                  what the four branches finished, or show, a space before each
-- Own rules of 01 used here: none. Decisions: none. Left out: nothing.
-- Assumes nothing.
use Rattle.std.specs.Prelude.{ℕ, List, [], ◌∷◌, ◌++◌}
use Rattle.branch.specs.Slots.{Slot}
use Rattle.trigger.specs.declared.latch.Masks.{Masks}
use Rattle.text.specs.Text.{space, hex}
use Rattle.printer.specs.Printer.{slot_text}

unfoldable pub mask_part : (mask : ℕ) → List ℕ
mask_part mask = hex 3 mask ++ (space ∷ [])

unfoldable pub masks_part : Masks → List ℕ
masks_part m =
    mask_part m.stopped
    ++ (mask_part m.scaled ++ (mask_part m.lost ++ (mask_part m.rejected ++ mask_part m.accepted)))

unfoldable pub slot_part : Slot → List ℕ
slot_part slot = space ∷ slot_text slot

-- a space before each slot
unfoldable pub slots_part : List Slot → List ℕ
slots_part [] = []
slots_part (slot ∷ slots) = slot_part slot ++ slots_part slots
