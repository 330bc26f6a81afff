-- The spoiled rule on the core: what of it spoils a record, clause by clause in three groups.
--     document 01    "When a call is declined", Spoiled; document 02, N1
--     allows_eight_of  whether a queue may hold eight words
--     is_sound_of      no clause of the core spoils the record
-- What is kept of the latest tick, and the acknowledges, spoil nothing.
-- Own rules of 01 used here: none. Decisions: A2, R6, F4. Left out: the branches' clauses, in branches.
-- Assumes nothing.
use Rattle.std.specs.Prelude.{Bool, not, ◌||◌, List, [], ◌∷◌, ◌++◌}
use Rattle.bits.specs.Bits.{all_true}
use Rattle.registers.specs.Csr as csr
use Rattle.registers.specs.Registers.{is_valid_control, is_valid_assign}
use Rattle.prescaler.specs.Prescaler as prescaler
use Rattle.sync.specs.SyncCounter as counter
use Rattle.sequencer.specs.States.{is_idle, is_loaded}
use Rattle.sequencer.specs.MainSequencer as main
use Rattle.trigger.specs.BlindTime as blind
use Rattle.module_core.specs.declared.Core.{Core}

-- [Spoiled.1f] a queue may hold eight words: main at Space or Sync hold, or a user sync waits
abbrev pub allows_eight_of : Core → Bool
allows_eight_of c = is_loaded c.main.state || c.user.waiting

-- ---- the clauses of the spoiled rule on the core, in three groups: all hold in a record that is not spoiled

-- [Spoiled.1a] the prescalers; [Bytes.9] in place of [Spoiled.1e]
abbrev pub bank_clauses : Core → List Bool
bank_clauses c = prescaler.has_counters_within_of c.prescalers ∷ prescaler.has_valid_factors_of c.prescalers ∷ []

-- [Spoiled.1a] the other registers
abbrev pub register_clauses : Core → List Bool
register_clauses c =
    csr.is_valid_stored_csr c.csr ∷ is_valid_control c.control.word ∷ is_valid_assign c.scalers.assign ∷ []

-- [Spoiled.1b] [Spoiled.1c] [Spoiled.1i] main; [Spoiled.1h] the sync count; [Spoiled.1k] the user sync; [Blind.3] the
-- blind count
abbrev pub sequencer_clauses : Core → List Bool
sequencer_clauses c =
    main.is_well_formed_of c.main
    ∷ counter.is_within c.sync
    ∷ (not c.user.waiting || is_idle c.main.state)
    ∷ blind.is_within c.blind
    ∷ []

unfoldable pub is_sound_of : Core → Bool
is_sound_of c = all_true (bank_clauses c ++ register_clauses c ++ sequencer_clauses c)
