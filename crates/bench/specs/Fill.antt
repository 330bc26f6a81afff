-- Examples of which fills of the memory are declined, and what a declined one leaves, as a table.
--     document 02     N7
--     fill_examples    the table, of rows as in Bench
-- Own rules of 02 used here: none. Decisions: H1, H2. Left out: the words of a filled memory, of which table has examples and
-- claims the laws; a spoiled record and a memory of another length, which no session has.
-- Assumes nothing.
use Rattle.std.specs.Prelude.{ℕ, ◌+◌, ◌^◌, List, [], ◌∷◌, slice_set}
use Rattle.table.specs.Shipped.{shipped_words}
use Rattle.declines.specs.Runs.{Ask, read_memory, fill_memory}
use Rattle.bench.specs.Asks.{csr, go, read, store, pulse, class1}
use Rattle.bench.specs.Sessions.{accepted, read_out, decline}
use Rattle.bench.specs.Bench.{Example, given◌ask◌look◌see◌, running}

abbrev pub shipped_fill : Ask
shipped_fill = fill_memory shipped_words

-- the shipped words but for one, that of input k + 1
abbrev pub fill_but : (k word : ℕ) → Ask
fill_but k word = fill_memory (slice_set shipped_words k word)

-- ---- what is declined

-- [Table.8b] 8: without OK; without a class; with two; with three; in the first word, in the last
abbrev pub bad_words : Example
bad_words =
    given []
    ask fill_but 0 0x0118 ∷ fill_but 0 0x0111 ∷ fill_but 0 0x0117 ∷ fill_but 0 0x011F ∷ fill_but 11 0x08C2 ∷ fill_but 11 0x08C5 ∷ []
    look decline see 8 ∷ 8 ∷ 8 ∷ 8 ∷ 8 ∷ 0 ∷ []

-- nothing is written, not even from the words before the bad one
abbrev pub bad_word_fills_nothing : Example
bad_word_fills_nothing =
    given store class1 ∷ []
    ask fill_but 11 0x08C1 ∷ read_memory 1 ∷ read_memory 2 ∷ [] look read_out see class1 ∷ 0 ∷ []

-- and no status bit is set
abbrev pub bad_word_sets_no_status : Example
bad_word_sets_no_status = given [] ask fill_but 11 0x08C1 ∷ read csr ∷ [] look read_out see 0 ∷ []

-- [Table.8a] 4 while active, before 8; it sets status bit 19
abbrev pub active_first : Example
active_first = given running ask shipped_fill ∷ fill_but 0 0x0118 ∷ [] look decline see 4 ∷ 4 ∷ []

abbrev pub active_sets_write_error : Example
active_sets_write_error = given running ask shipped_fill ∷ read csr ∷ [] look read_out see (go + 2 ^ 19) ∷ []

-- [Table.8b] a memory word of two classes is OK all the same ([Memory.3]): the generator asks more than the memory does
abbrev pub memory_takes_two_classes : Example
memory_takes_two_classes = given store 0x0057 ∷ running ask pulse 1 ∷ [] look accepted see 1 ∷ []

abbrev pub fill_examples : List Example
fill_examples =
    bad_words ∷ bad_word_fills_nothing ∷ bad_word_sets_no_status ∷ active_first ∷ active_sets_write_error ∷ memory_takes_two_classes ∷ []
