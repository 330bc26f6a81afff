-- A tick and RESET keep the prescalers' and the registers' clauses of the spoiled rule; the fresh core has them.
--     tick_keeps_bank, tick_keeps_registers   a tick of the core
--     reset_keeps_bank, fresh_has_bank        RESET, and power-up
-- Assumes nothing.
use Rattle.std.proofs.Common.{◌≡◌, ℕ, Bool, true, List}
use Rattle.registers.specs.Csr as csr
use Rattle.registers.proofs.CsrLaws as csrLaws
use Rattle.registers.specs.Control.{counted_of}
use Rattle.prescaler.specs.Prescaler as prescaler
use Rattle.prescaler.specs.declared.Prescalers.{Prescalers}
use Rattle.prescaler.proofs.PrescalerWidths as widths
use Rattle.prescaler.proofs.PrescalerLoadLaws as loadLaws
use Rattle.sync.specs.declared.user.UserStep.{UserStep}
use Rattle.sequencer.specs.declared.main_sequencer.MainStep.{MainStep}
use Rattle.scalers.specs.Scalers as scalers
use Rattle.trigger.specs.Lines.{has_strobe}
use Rattle.trigger.specs.Effects.{csr_after_of}
use Rattle.trigger.specs.declared.lines.Inputs.{Inputs}
use Rattle.trigger.specs.declared.lines.Lines.{Lines}
use Rattle.module_core.specs.Core.{is_running, pulsed_of, settled_of, step_of}
use Rattle.module_core.specs.declared.Core.{Core}
use Rattle.reach.proofs.Sound.{SoundBank, SoundRegisters}

-- ---- a tick of the core

csr_keeps_valid : (l : Lines) (m : MainStep) (u : UserStep) (c : Core) → csr.is_valid_stored_csr c.csr ≡ true
    → csr.is_valid_stored_csr (csr_after_of l m u c.csr) ≡ true
unfolding csr_after_of
csr_keeps_valid l m u c h =
    csrLaws.marked_keeps_valid _ _
    (csrLaws.user_sync_ended_if_keeps_valid u.ended _ (csrLaws.sync_hold_ended_if_keeps_valid m.ended c.csr h))

module _ (room empty : Bool) (x : Inputs) (memory : List ℕ) (c : Core) where
  abbrev after : Core
  after = (step_of room empty x memory c).next

  pub tick_keeps_bank : SoundBank c.prescalers → SoundBank after.prescalers
  unfolding step_of settled_of pulsed_of prescaler.step_of
  tick_keeps_bank h =
      let pulses = counted_of (has_strobe x.lines) x.triggers c.control in
      record {
        counters = widths.step_keeps_within (is_running c) pulses c.prescalers h.factors h.counters;
        factors = h.factors;
      }

  pub tick_keeps_registers : SoundRegisters c.csr c.control.word c.scalers.assign
      → SoundRegisters after.csr after.control.word after.scalers.assign
  unfolding step_of settled_of scalers.counted_of
  tick_keeps_registers h =
      record { csr = csr_keeps_valid x.lines _ _ c h.csr; control = h.control; assign = h.assign }

-- ---- RESET and the fresh core

-- [CSRWrite.2d]
pub reset_keeps_bank : (b : Prescalers) → SoundBank b → SoundBank (prescaler.reloaded_of b)
reset_keeps_bank b h = record { counters = loadLaws.reloaded_keeps_within b h.factors; factors = h.factors }

-- [Registers.4]
pub fresh_has_bank : SoundBank prescaler.fresh_of
fresh_has_bank = record { counters = loadLaws.fresh_has_within; factors = loadLaws.fresh_has_within }
