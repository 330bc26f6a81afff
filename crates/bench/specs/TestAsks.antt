-- The asks of TEST and of the two modes by name, for TestMode and Hold. Nothing of document 02 is decided here.
--     document 02     N5; source document 001, sections 3.1 and 3.10
--     step            the ask that writes a single step
-- Assumes nothing.
use Rattle.std.specs.Prelude.{ℕ, ◌^◌}
use Rattle.declines.specs.Runs.{Ask}
use Rattle.bench.specs.Asks.{write}

-- ---- the register, its bits, and the modes

-- [Test.1]
abbrev pub test : ℕ
test = 21

abbrev pub hold : ℕ
hold = 2 ^ 12

abbrev pub test_mode : ℕ
test_mode = 2 ^ 13

abbrev pub clear_hold : ℕ
clear_hold = 2 ^ 28

abbrev pub clear_test_mode : ℕ
clear_test_mode = 2 ^ 29

-- [Test.3] bit 0, and bits 2, 4, 7, 8, 9, 10 and 14
abbrev pub pulse_inputs : ℕ
pulse_inputs = 2 ^ 0

abbrev pub written_pass2 : ℕ
written_pass2 = 2 ^ 2

abbrev pub written_fail2 : ℕ
written_fail2 = 2 ^ 4

abbrev pub single_step : ℕ
single_step = 2 ^ 7

abbrev pub written_busy : ℕ
written_busy = 2 ^ 8

abbrev pub written_inhibit : ℕ
written_inhibit = 2 ^ 9

abbrev pub acknowledge1 : ℕ
acknowledge1 = 2 ^ 10

abbrev pub replace_acks : ℕ
replace_acks = 2 ^ 14

-- [Control.1] strobe mode
abbrev pub strobe_mode : ℕ
strobe_mode = 2 ^ 0

-- ---- an ask

-- [Test.8a]
abbrev pub step : Ask
step = write test single_step
