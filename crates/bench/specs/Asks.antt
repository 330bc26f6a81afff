-- The asks of an example by name: registers, bits of their values, lines, ticks. Nothing of document 01 is decided here.
--     write, read, store, pulse, lines, acknowledge   one ask; write_bytes, read_bytes, write_by, read_by: by runs of bytes
--     ticks n, times n l, event i   several
-- Assumes nothing.
use Rattle.std.specs.Prelude.{ℕ, zero, suc, ◌+◌, ◌-◌, ◌^◌, List, [], ◌∷◌, ◌++◌, replicate}
use Rattle.trigger.specs.Lines.{inputs_of}
use Rattle.run.specs.Run.{run}
use Rattle.run.specs.declared.Run.{Run}
use Rattle.declines.specs.Runs.{Ask, write_register, read_register, plain_write, plain_read, write_memory, tick}

-- ---- the registers, as [Registers.1] and [State.1] number them

abbrev pub csr : ℕ
csr = 0

abbrev pub control : ℕ
control = 1

abbrev pub factor : (input : ℕ) → ℕ
factor input = input + 1

abbrev pub roc_enable : ℕ
roc_enable = 10

abbrev pub interval : ℕ
interval = 11

abbrev pub t1 : ℕ
t1 = 12

abbrev pub scaler0 : ℕ
scaler0 = 17

abbrev pub scaler1 : ℕ
scaler1 = 18

abbrev pub assign : ℕ
assign = 19

-- [State.1]
abbrev pub state : ℕ
state = 20

-- ---- bits of their values, and lines

-- [Control.1]
abbrev pub enable : (input : ℕ) → ℕ
enable input = 2 ^ input

abbrev pub open_prescales : ℕ
open_prescales = 2 ^ 15

-- [CSR.1] bits 0, 3, 4, 6, 10 and 11
abbrev pub go : ℕ
go = 2 ^ 0

abbrev pub force_sync : ℕ
force_sync = 2 ^ 3

abbrev pub enable_sync : ℕ
enable_sync = 2 ^ 4

abbrev pub use_t1 : ℕ
use_t1 = 2 ^ 6

abbrev pub lock_branch4 : ℕ
lock_branch4 = 2 ^ 10

abbrev pub override_inhibit : ℕ
override_inhibit = 2 ^ 11

-- [CSRWrite.1] [CSRWrite.2a] [CSRWrite.2d] of a written value: bit 14 is RESET, bit 15 INITIALIZE, bit 16 clears GO
abbrev pub reset : ℕ
reset = 2 ^ 14

abbrev pub initialize : ℕ
initialize = 2 ^ 15

abbrev pub clear_go : ℕ
clear_go = 2 ^ 16

-- [CSR.2] bit 17
abbrev pub late_fail : ℕ
late_fail = 2 ^ 17

-- [Registers.1] controller 0 of branch 1, in ROC enable and in the acknowledges
abbrev pub first_controller : ℕ
first_controller = 2 ^ 0

-- [Tick.1] lines 1 to 6
abbrev pub pass2 : ℕ
pass2 = 2 ^ 1

abbrev pub fail2 : ℕ
fail2 = 2 ^ 2

abbrev pub pass3 : ℕ
pass3 = 2 ^ 3

abbrev pub fail3 : ℕ
fail3 = 2 ^ 4

abbrev pub front_busy : ℕ
front_busy = 2 ^ 5

abbrev pub inhibit : ℕ
inhibit = 2 ^ 6

-- ---- one ask

abbrev pub write : (register value : ℕ) → Ask
write register value = plain_write register value

abbrev pub read : (register : ℕ) → Ask
read register = plain_read register

-- [Bytes.2] the same by a run of bytes
abbrev pub write_bytes : (first count register value : ℕ) → Ask
write_bytes first count register value = write_register register (run first count) value

abbrev pub read_bytes : (first count register : ℕ) → Ask
read_bytes first count register = read_register register (run first count)

-- and by each of some runs
abbrev pub read_by : List Run → (register : ℕ) → List Ask
read_by [] register = []
read_by (r ∷ rs) register = read_register register r ∷ read_by rs register

abbrev pub write_by : List Run → (register value : ℕ) → List Ask
write_by [] register value = []
write_by (r ∷ rs) register value = write_register register r value ∷ write_by rs register value

-- [Memory.1] the word for a pulse of input 1 alone
abbrev pub store : (word : ℕ) → Ask
store word = write_memory 1 word

abbrev pub bring : (triggers lines acks : ℕ) → Ask
bring t l a = tick (inputs_of t l a)

-- a tick with a pulse of one input and nothing else; with lines; with acknowledges
abbrev pub pulse : (input : ℕ) → Ask
pulse input = bring (2 ^ (input - 1)) 0 0

abbrev pub lines : ℕ → Ask
lines l = bring 0 l 0

abbrev pub acknowledge : ℕ → Ask
acknowledge a = bring 0 0 a

-- ---- several

-- n ticks with nothing
abbrev pub ticks : (n : ℕ) → List Ask
ticks n = replicate n (bring 0 0 0)

-- n times the same, of asks or of what is seen
unfoldable pub times : {A : Type 0} (n : ℕ) → List A → List A
times zero l = []
times (suc n) l = l ++ times n l

-- a pulse that is accepted in class 1, with T2 and T3 at 0: then out of Delay, loaded, and out of Space if there is room
abbrev pub event : (input : ℕ) → List Ask
event input = pulse input ∷ ticks 3

-- what its ticks load
abbrev pub in_event : (word : ℕ) → List ℕ
in_event word = 0 ∷ 0 ∷ word ∷ 0 ∷ []

-- [Memory.2] words that are OK, with code 5: in class 1, in class 2, in class 3
abbrev pub class1 : ℕ
class1 = 0x0053

abbrev pub class2 : ℕ
class2 = 0x0055

abbrev pub class3 : ℕ
class3 = 0x0059
