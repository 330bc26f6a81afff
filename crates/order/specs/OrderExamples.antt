-- What depends on the order of two writes, and two cases in which it does not, as a table of examples: each stands twice,
-- once in each order. What depends on it is not claimed.
--     document 02     N6
--     order_examples   the table, of rows as in bench/specs/Bench
-- Own rules of 02 used here: none. Decisions: O1. Left out: nothing.
-- Assumes nothing.
use Rattle.std.specs.Prelude.{◌+◌, List, [], ◌∷◌}
use Rattle.declines.specs.Runs.{Ask, write_memory, read_memory}
use Rattle.bench.specs.Asks.{csr, control, factor, roc_enable, interval, t1, enable, open_prescales, go}
use Rattle.bench.specs.Asks.{write, read, pulse, write_bytes}
use Rattle.bench.specs.TestAsks.{test_mode}
use Rattle.bench.specs.Sessions.{passed, read_out, decline}
use Rattle.bench.specs.Bench.{Example, given◌ask◌look◌see◌}

-- ---- two runs of one register

-- ROC enable: BYTE(2) is in both runs, and the later write has it
abbrev pub wide_then_narrow : Example
wide_then_narrow =
    given write_bytes 2 2 roc_enable 0x1122 ∷ write_bytes 2 1 roc_enable 0x3300 ∷ []
    ask read roc_enable ∷ [] look read_out see 0x3322 ∷ []

abbrev pub narrow_then_wide : Example
narrow_then_wide =
    given write_bytes 2 1 roc_enable 0x3300 ∷ write_bytes 2 2 roc_enable 0x1122 ∷ []
    ask read roc_enable ∷ [] look read_out see 0x1122 ∷ []

-- input 1, whose prescaler counts without GO ([Pulses.2])
abbrev pub opened : Ask
opened = write control (enable 1 + open_prescales)

-- [Bytes.4a] no byte is in both runs, and the factor is 101h after both; its counter was loaded with 1 or with 101h
abbrev pub low_then_high : Example
low_then_high =
    given opened ∷ write_bytes 3 1 (factor 1) 1 ∷ write_bytes 2 1 (factor 1) 0x100 ∷ []
    ask pulse 1 ∷ pulse 1 ∷ [] look passed see 0 ∷ 1 ∷ []

abbrev pub high_then_low : Example
high_then_low =
    given opened ∷ write_bytes 2 1 (factor 1) 0x100 ∷ write_bytes 3 1 (factor 1) 1 ∷ []
    ask pulse 1 ∷ pulse 1 ∷ [] look passed see 0 ∷ 0 ∷ []

-- ---- a setting and the CSR

-- [Declines.2c] with GO set the module is active
abbrev pub setting_then_go : Example
setting_then_go = given [] ask write interval 5 ∷ write csr go ∷ [] look decline see 0 ∷ 0 ∷ []

abbrev pub go_then_setting : Example
go_then_setting = given [] ask write csr go ∷ write interval 5 ∷ [] look decline see 0 ∷ 4 ∷ []

-- ---- two writes to one memory place

abbrev pub one_then_two : Example
one_then_two = given write_memory 1 1 ∷ write_memory 1 2 ∷ [] ask read_memory 1 ∷ [] look read_out see 2 ∷ []

abbrev pub two_then_one : Example
two_then_one = given write_memory 1 2 ∷ write_memory 1 1 ∷ [] ask read_memory 1 ∷ [] look read_out see 1 ∷ []

-- ---- two settings, each declined or taken by itself

-- [Test.2] active, in test mode: control is taken and the interval gets 4, whichever comes first
abbrev pub control_then_interval : Example
control_then_interval =
    given write csr (test_mode + go) ∷ []
    ask write control (enable 1) ∷ write interval 5 ∷ [] look decline see 0 ∷ 4 ∷ []

abbrev pub interval_then_control : Example
interval_then_control =
    given write csr (test_mode + go) ∷ []
    ask write interval 5 ∷ write control (enable 1) ∷ [] look decline see 4 ∷ 0 ∷ []

-- [Bytes.7] T5 takes 8 bits: BYTE(2) alone gets 5; T4 beside it takes 16
abbrev pub t4_then_t5 : Example
t4_then_t5 =
    given [] ask write_bytes 2 1 (t1 + 3) 0x100 ∷ write_bytes 2 1 (t1 + 4) 0x100 ∷ [] look decline see 0 ∷ 5 ∷ []

abbrev pub t5_then_t4 : Example
t5_then_t4 =
    given [] ask write_bytes 2 1 (t1 + 4) 0x100 ∷ write_bytes 2 1 (t1 + 3) 0x100 ∷ [] look decline see 5 ∷ 0 ∷ []

-- ---- the table

abbrev pub order_examples : List Example
order_examples =
    wide_then_narrow ∷ narrow_then_wide ∷ low_then_high ∷ high_then_low
    ∷ setting_then_go ∷ go_then_setting
    ∷ one_then_two ∷ two_then_one
    ∷ control_then_interval ∷ interval_then_control ∷ t4_then_t5 ∷ t5_then_t4
    ∷ []
