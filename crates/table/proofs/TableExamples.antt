-- The document's examples of the table that the shipped words fill, computed from the definitions.
--     shipped_places    the words at places 000h, 001h, 003h, 010h, 800h and FFFh
-- Assumes nothing.
use mathlib.Core.Path.{refl}
use Rattle.bits.specs.Bits.{mask_of}
use Rattle.table.specs.Table.{ShippedPlaces, lowest_of, some_of, table_word_of}

-- [Table.3] [Table.5] [Table.6b]
pub shipped_places : ShippedPlaces
unfolding table_word_of lowest_of some_of mask_of
shipped_places = refl
