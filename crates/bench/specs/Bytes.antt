-- Examples of register calls by a run of bytes, as a table.
--     document 02     N4
--     bytes_examples   the table, of rows as in Bench
-- Pulses are of input 1, whose factor has 20 bits. GO is clear where a factor is written: with OPEN PRESCALES set its
-- prescaler counts all the same ([Pulses.2]).
-- Own rules of 02 used here: none. Decisions: R7. Left out: a latch above FFh, which 256 counts would fill; claims has it.
-- Assumes nothing.
use Rattle.std.specs.Prelude.{ℕ, ◌+◌, List, [], ◌∷◌, ◌++◌}
use Rattle.run.specs.Run.{run, ten_runs}
use Rattle.run.specs.declared.Run.{Run}
use Rattle.declines.specs.Runs.{Ask}
use Rattle.bench.specs.Asks.{csr, control, factor, roc_enable, interval, scaler1, assign, state, enable, open_prescales}
use Rattle.bench.specs.Asks.{go, force_sync, use_t1, lock_branch4, reset, initialize, write, read, pulse}
use Rattle.bench.specs.Asks.{write_bytes, read_bytes, write_by, read_by}
use Rattle.bench.specs.Sessions.{passed, read_out, decline}
use Rattle.bench.specs.Bench.{Example, given◌ask◌look◌see◌, running}

-- ---- the ten accesses

-- ROC enable holds 11223344h; it is written, and then read whole
abbrev pub merged_by : (first count : ℕ) → List Ask
merged_by first count = write roc_enable 0x11223344 ∷ write_bytes first count roc_enable 0xAABBCCDD ∷ read roc_enable ∷ []

-- [Bytes.2] [Bytes.7] a byte, two neighbours, three, all four: each in its place, and 0 elsewhere
abbrev pub ten_reads : Example
ten_reads =
    given write roc_enable 0x11223344 ∷ []
    ask read_by ten_runs roc_enable
    look read_out
    see 0x11000000 ∷ 0x00220000 ∷ 0x00003300 ∷ 0x00000044 ∷ 0x11220000 ∷ 0x00223300 ∷ 0x00003344 ∷ 0x11223300
    ∷ 0x00223344 ∷ 0x11223344 ∷ []

-- [Bytes.3a]
abbrev pub ten_writes : Example
ten_writes =
    given []
    ask merged_by 0 1 ++ merged_by 1 1 ++ merged_by 2 1 ++ merged_by 3 1 ++ merged_by 0 2 ++ merged_by 1 2 ++ merged_by 2 2
    ++ merged_by 0 3 ++ merged_by 1 3 ++ merged_by 0 4
    look read_out
    see 0xAA223344 ∷ 0x11BB3344 ∷ 0x1122CC44 ∷ 0x112233DD ∷ 0xAABB3344 ∷ 0x11BBCC44 ∷ 0x1122CCDD ∷ 0xAABBCC44
    ∷ 0x11BBCCDD ∷ 0xAABBCCDD ∷ []

-- ---- runs that are none

-- [Bytes.11] empty, past the four bytes, and so far past them that a sum of 32 bits would come back
abbrev pub no_runs : List Run
no_runs = run 0 0 ∷ run 3 0 ∷ run 4 0 ∷ run 3 2 ∷ run 0 5 ∷ run 4 1 ∷ run 0xFFFFFFFF 2 ∷ run 2 0xFFFFFFFF ∷ []

abbrev pub no_run_is_read : Example
no_run_is_read = given [] ask read_by no_runs roc_enable look decline see 7 ∷ 7 ∷ 7 ∷ 7 ∷ 7 ∷ 7 ∷ 7 ∷ 7 ∷ []

abbrev pub no_run_is_written : Example
no_run_is_written = given [] ask write_by no_runs roc_enable 0 look decline see 7 ∷ 7 ∷ 7 ∷ 7 ∷ 7 ∷ 7 ∷ 7 ∷ 7 ∷ []

-- [Bytes.11] after 3: register 22, and a write to STATE
abbrev pub number_first : Example
number_first =
    given []
    ask write_bytes 0 0 (state + 2) 0 ∷ read_bytes 0 0 (state + 2) ∷ write_bytes 0 0 state 0 ∷ read_bytes 0 0 state ∷ []
    look decline see 3 ∷ 3 ∷ 3 ∷ 7 ∷ []

-- before 4, which sets status bit 19, and before 5
abbrev pub run_before_active : Example
run_before_active =
    given running
    ask write_bytes 3 2 interval 0 ∷ write_bytes 3 1 interval 0 ∷ []
    look decline see 7 ∷ 4 ∷ []

abbrev pub run_sets_no_status : Example
run_sets_no_status = given running ask write_bytes 3 2 interval 0 ∷ read csr ∷ [] look read_out see go ∷ []

abbrev pub run_before_value : Example
run_before_value =
    given []
    ask write_bytes 0 5 interval 0x10000 ∷ write_bytes 1 1 interval 0x10000 ∷ []
    look decline see 7 ∷ 5 ∷ []

-- ---- the merged value

-- [Bytes.7] 5 asks what is written, not what stands in the value outside the run; 0 is taken outside a narrow register
abbrev pub value_outside_is_ignored : Example
value_outside_is_ignored =
    given []
    ask write_bytes 3 1 (factor 5) 0xFFFFFF05 ∷ write_bytes 0 2 (factor 5) 0x0000FFFF ∷ write_bytes 2 1 (factor 5) 0x4000 ∷ []
    look decline see 0 ∷ 0 ∷ 5 ∷ []

abbrev pub merged_factor_is_read : Example
merged_factor_is_read =
    given write_bytes 3 1 (factor 5) 0xFFFFFF05 ∷ write_bytes 2 1 (factor 5) 0x1200 ∷ []
    ask read (factor 5) ∷ [] look read_out see 0x1205 ∷ []

-- assign 3Fh: 40h, which is no code, in a byte outside the run; 1 in BYTE(2)
abbrev pub assign_is_merged : Example
assign_is_merged =
    given write assign 0x3F ∷ []
    ask write_bytes 0 3 assign 0x40 ∷ write_bytes 2 1 assign 0x100 ∷ write_bytes 2 2 assign 0x50 ∷ []
    look decline see 0 ∷ 5 ∷ 0 ∷ []

-- ---- loads

-- the prescaler of input 1 counts without GO
abbrev pub opened : (f : ℕ) → List Ask
opened f = write (factor 1) f ∷ write control (enable 1 + open_prescales) ∷ []

-- [Bytes.4a] one of two pulses has come; without BYTE(3) the next one passes, with it the counter is loaded again
abbrev pub without_byte3 : Example
without_byte3 =
    given opened 1 ++ pulse 1 ∷ write_bytes 0 3 (factor 1) 0 ∷ []
    ask pulse 1 ∷ pulse 1 ∷ pulse 1 ∷ [] look passed see 1 ∷ 0 ∷ 1 ∷ []

abbrev pub with_byte3 : Example
with_byte3 =
    given opened 1 ++ pulse 1 ∷ write_bytes 3 1 (factor 1) 1 ∷ []
    ask pulse 1 ∷ pulse 1 ∷ pulse 1 ∷ [] look passed see 0 ∷ 1 ∷ 0 ∷ []

-- [Bytes.9] factor 100h, of which BYTE(2) is then cleared: the counter stands above the factor, and counts on
abbrev pub counter_above_its_factor : Example
counter_above_its_factor =
    given opened 0x100 ++ write_bytes 2 1 (factor 1) 0 ∷ []
    ask pulse 1 ∷ pulse 1 ∷ [] look passed see 0 ∷ 0 ∷ []

abbrev pub above_is_not_spoiled : Example
above_is_not_spoiled =
    given opened 0x100 ++ write_bytes 2 1 (factor 1) 0 ∷ []
    ask read (factor 1) ∷ [] look read_out see 0 ∷ []

-- ---- the CSR

-- [Bytes.3b] bytes that a write lacks count as 0: nothing is set or cleared by them
abbrev pub csr_bytes : Example
csr_bytes =
    given write_bytes 3 1 csr (go + use_t1 + lock_branch4) ∷ []
    ask read csr ∷ [] look read_out see (go + use_t1) ∷ []

-- and neither do status bits that stand in them: bit 19, of a write while active, would clear bit 3 ([CSRWrite.2a])
abbrev pub csr_status_clears_nothing : Example
csr_status_clears_nothing =
    given running
    ask write interval 0 ∷ write_bytes 3 1 csr force_sync ∷ read csr ∷ []
    look read_out see 0x00080009 ∷ []

-- [Bytes.4b] RESET in BYTE(2); the run of BYTE(3) does not hold its bit
abbrev pub reset_by_byte2 : Example
reset_by_byte2 =
    given opened 1 ++ pulse 1 ∷ write_bytes 2 1 csr reset ∷ []
    ask pulse 1 ∷ pulse 1 ∷ [] look passed see 0 ∷ 1 ∷ []

abbrev pub no_reset_by_byte3 : Example
no_reset_by_byte3 =
    given opened 1 ++ pulse 1 ∷ write_bytes 3 1 csr reset ∷ []
    ask pulse 1 ∷ pulse 1 ∷ [] look passed see 1 ∷ 0 ∷ []

abbrev pub initialize_by_byte2 : Example
initialize_by_byte2 =
    given write roc_enable 1 ∷ write_bytes 2 1 csr initialize ∷ []
    ask read roc_enable ∷ [] look read_out see 0 ∷ []

-- [CSRWrite.2c] bit 31 in BYTE(0) clears the status bits: here 19, of a write while active
abbrev pub status_by_byte0 : Example
status_by_byte0 =
    given running
    ask write interval 0 ∷ read csr ∷ write_bytes 0 1 csr 0x80000000 ∷ read csr ∷ []
    look read_out see 0x00080001 ∷ go ∷ []

-- ---- scalers

-- scaler 1 counts passed pulses; [Bytes.4a] [Bytes.6] only BYTE(3) zeroes it
abbrev pub two_counted : List Ask
two_counted = running ++ pulse 1 ∷ pulse 1 ∷ []

abbrev pub scaler_is_zeroed : Example
scaler_is_zeroed =
    given two_counted
    ask write_bytes 0 3 scaler1 0 ∷ read scaler1 ∷ write_bytes 3 1 scaler1 0xFF ∷ read scaler1 ∷ []
    look read_out see 2 ∷ 0 ∷ []

-- [Bytes.4b] RESET zeroes it by BYTE(2)
abbrev pub reset_zeroes_scaler : Example
reset_zeroes_scaler =
    given two_counted ++ write_bytes 2 1 csr reset ∷ []
    ask read scaler1 ∷ [] look read_out see 0 ∷ []

-- [Bytes.5a] a part with BYTE(3) gives the scaler; what a part without it gives is in claims
abbrev pub read_by_byte3 : Example
read_by_byte3 = given two_counted ask read_bytes 3 1 scaler1 ∷ read_bytes 2 2 scaler1 ∷ [] look read_out see 2 ∷ 2 ∷ []

-- ---- the table

abbrev pub bytes_examples : List Example
bytes_examples =
    ten_reads ∷ ten_writes
    ∷ no_run_is_read ∷ no_run_is_written ∷ number_first ∷ run_before_active ∷ run_sets_no_status ∷ run_before_value
    ∷ value_outside_is_ignored ∷ merged_factor_is_read ∷ assign_is_merged
    ∷ without_byte3 ∷ with_byte3 ∷ counter_above_its_factor ∷ above_is_not_spoiled
    ∷ csr_bytes ∷ csr_status_clears_nothing ∷ reset_by_byte2 ∷ no_reset_by_byte3 ∷ initialize_by_byte2 ∷ status_by_byte0
    ∷ scaler_is_zeroed ∷ reset_zeroes_scaler ∷ read_by_byte3
    ∷ []
