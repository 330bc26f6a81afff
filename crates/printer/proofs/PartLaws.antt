-- The parts of a tick's answer, as the code prints them.
--     slots_next       slots printed one by one
--     four_words       a word of each of the four branches
--     tick_by_parts    the parts are its fields
-- Assumes nothing.
use Prim.Native.Nat.{ℕ, ◌+◌, ◌<◌}
use mathlib.Core.Path.{◌≡◌, sym, ap, ◌∙◌}
use mathlib.Core.List.{List, [], ◌∷◌, ◌++◌, append-nil, append_assoc}
use native.Mathlib.Omega.{arith}
use lib.ListN.{length, take, get_or}
use Rattle.std.proofs.lemmas.List.{take_more}
use Rattle.branch.specs.Slots.{Slot}
use Rattle.branches.specs.declared.Side.{Side}
use Rattle.supervisor.specs.declared.Answer.{Answer}
use Rattle.text.specs.Text.{newline, space, hex}
use Rattle.text.specs.Page.{Page, write}
use Rattle.text.proofs.PageLaws.{write_append}
use Rattle.printer.specs.Printer.{outcome_text, side_at, fields_of, spaced}
use Rattle.printer.specs.TickParts.{mask_part, masks_part, slot_part, slots_part}

-- ---- slots

slots_append : (slots : List Slot) (slot : Slot) → slots_part (slots ++ (slot ∷ [])) ≡ slots_part slots ++ slot_part slot
unfolding slots_part
slots_append [] slot = append-nil (slot_part slot)
slots_append (s ∷ slots) slot =
    ap (λ (t : List ℕ). slot_part s ++ t) (slots_append slots slot)
    ∙ sym (append_assoc (slot_part s) (slots_part slots) (slot_part slot))

pub slots_next : (slots : List Slot) (i : ℕ) (d : Slot) → i < length slots →
    slots_part (take (i + 1) slots) ≡ slots_part (take i slots) ++ slot_part (get_or slots i d)
slots_next slots i d h = rw (take_more slots i d h) (slots_append (take i slots) (get_or slots i d))

-- a word of each side
abbrev pub words : (Side → Slot) → List Side → List Slot
words word sides =
    word (side_at sides 0) ∷ word (side_at sides 1) ∷ word (side_at sides 2) ∷ word (side_at sides 3) ∷ []

pub four_words : (slots : List Slot) (sides : List Side) (word : Side → Slot) (d : Slot) → length slots ≡ 4 →
    ((i : ℕ) → i < 4 → get_or slots i d ≡ word (side_at sides i)) → slots ≡ words word sides
four_words (a ∷ b ∷ c ∷ e ∷ []) sides word d h each =
    λ j. each 0 (omega arith) j ∷ each 1 (omega arith) j ∷ each 2 (omega arith) j ∷ each 3 (omega arith) j ∷ []
four_words [] sides word d h each = absurd (omega arith)
four_words (a ∷ []) sides word d h each = absurd (omega arith)
four_words (a ∷ b ∷ []) sides word d h each = absurd (omega arith)
four_words (a ∷ b ∷ c ∷ []) sides word d h each = absurd (omega arith)
four_words (a ∷ b ∷ c ∷ e ∷ f ∷ rest) sides word d h each = absurd (omega arith)

-- ---- the parts that the code prints, one after the other, are the fifteen fields

pub tick_by_parts : (a : Answer) (p : Page) →
    write (spaced (fields_of a)) p
    ≡ write (newline ∷ [])
    (write (slots_part (words (λ (s : Side). s.shown) a.sides))
    (write (slots_part (words (λ (s : Side). s.finished) a.sides))
    (write (outcome_text a.outcome) (write (space ∷ []) (write (hex 4 a.lines) (write (masks_part a.masks) p))))))
unfolding write mask_part masks_part slot_part slots_part
tick_by_parts a p = simp write_append
