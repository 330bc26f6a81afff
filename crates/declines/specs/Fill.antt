-- The call that fills the memory from twelve words. It refuses bad input by itself, in the document's order; a refusal leaves
-- every word, and the record but for a status bit where the call is declined as active.
--     document 02      N7
--     fill_memory_of     the answer and the next record
--     memory_filled_of   the memory after it
-- Own rules of 02 used here: none. Decisions: H1, H2, H3. Left out: the word at each place, in table.
-- Assumes nothing.
use Rattle.std.specs.Prelude.{ℕ, not, List, length, ◌==◌, Result, Ok, if◌then◌else◌}
use Rattle.registers.specs.Csr as csr
use Rattle.table.specs.Table.{are_taken, table_of}
use Rattle.supervisor.specs.Supervisor.{is_active_of, is_spoiled_of}
use Rattle.supervisor.specs.declared.Supervisor.{Supervisor}
use Rattle.declines.specs.declared.Decline.TheVariants.{Spoiled, Length, Active}
use Rattle.declines.specs.declared.FillDecline.{FillDecline}
use Rattle.declines.specs.declared.FillDecline.TheVariants.{Plain, BadWord}
use Rattle.declines.specs.declared.Done.{Done}
use Rattle.declines.specs.Calls.{memory_places, marked_of, refuse, unless_declined}

-- [Table.8a] [Declines.4a] [Declines.4b] [Declines.4d] in this order; [Table.8b] 8 after these, asked of all twelve words
unfoldable pub fill_memory_of : (memory words : List ℕ) → Supervisor → Done (Result Unit FillDecline)
fill_memory_of memory words s =
    if is_spoiled_of s then refuse (Plain Spoiled) s
    else if not (length memory == memory_places) then refuse (Plain Length) s
    else if is_active_of s then refuse (Plain Active) (marked_of csr.write_error s)
    else if not (are_taken words) then refuse BadWord s
    else record { next = s; answer = Ok tt }

-- [Table.4] every place, whatever stood there; [Declines.1b] where no decline applies
unfoldable pub memory_filled_of : (memory words : List ℕ) → Supervisor → List ℕ
memory_filled_of memory words s =
    unless_declined (fill_memory_of memory words s).answer memory (table_of memory_places words)
