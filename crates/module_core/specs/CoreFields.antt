-- Changes of one field of the core. Nothing of the documents is decided here.
--     with_csr v c   c with the CSR v; and so on, one for each field that a call changes by itself
-- Assumes nothing.
use Rattle.registers.specs.declared.csr.Csr.{Csr}
use Rattle.registers.specs.declared.control.Control.{Control}
use Rattle.prescaler.specs.declared.Prescalers.{Prescalers}
use Rattle.timers.specs.declared.Timers.{Timers}
use Rattle.sync.specs.declared.counter.SyncCounter.{SyncCounter}
use Rattle.sync.specs.declared.user.UserSync.{UserSync}
use Rattle.sequencer.specs.declared.main_sequencer.MainSequencer.{MainSequencer}
use Rattle.scalers.specs.declared.Scalers.{Scalers}
use Rattle.trigger.specs.declared.blind.BlindTime.{BlindTime}
use Rattle.trigger.specs.declared.latest.Latest.{Latest}
use Rattle.testing.specs.declared.TestWord.{TestWord}
use Rattle.module_core.specs.declared.Core.{Core}

abbrev pub with_prescalers : Prescalers → Core → Core
with_prescalers v c = record { prescalers = v; csr = c.csr; control = c.control; test = c.test; scalers = c.scalers; main = c.main; timers = c.timers; sync = c.sync; blind = c.blind; user = c.user; latest = c.latest }

abbrev pub with_csr : Csr → Core → Core
with_csr v c = record { prescalers = c.prescalers; csr = v; control = c.control; test = c.test; scalers = c.scalers; main = c.main; timers = c.timers; sync = c.sync; blind = c.blind; user = c.user; latest = c.latest }

abbrev pub with_control : Control → Core → Core
with_control v c = record { prescalers = c.prescalers; csr = c.csr; control = v; test = c.test; scalers = c.scalers; main = c.main; timers = c.timers; sync = c.sync; blind = c.blind; user = c.user; latest = c.latest }

abbrev pub with_test : TestWord → Core → Core
with_test v c = record { prescalers = c.prescalers; csr = c.csr; control = c.control; test = v; scalers = c.scalers; main = c.main; timers = c.timers; sync = c.sync; blind = c.blind; user = c.user; latest = c.latest }

abbrev pub with_scalers : Scalers → Core → Core
with_scalers v c = record { prescalers = c.prescalers; csr = c.csr; control = c.control; test = c.test; scalers = v; main = c.main; timers = c.timers; sync = c.sync; blind = c.blind; user = c.user; latest = c.latest }

abbrev pub with_timers : Timers → Core → Core
with_timers v c = record { prescalers = c.prescalers; csr = c.csr; control = c.control; test = c.test; scalers = c.scalers; main = c.main; timers = v; sync = c.sync; blind = c.blind; user = c.user; latest = c.latest }

abbrev pub with_sync : SyncCounter → Core → Core
with_sync v c = record { prescalers = c.prescalers; csr = c.csr; control = c.control; test = c.test; scalers = c.scalers; main = c.main; timers = c.timers; sync = v; blind = c.blind; user = c.user; latest = c.latest }

abbrev pub with_blind : BlindTime → Core → Core
with_blind v c = record { prescalers = c.prescalers; csr = c.csr; control = c.control; test = c.test; scalers = c.scalers; main = c.main; timers = c.timers; sync = c.sync; blind = v; user = c.user; latest = c.latest }

abbrev pub with_main : MainSequencer → Core → Core
with_main v c = record { prescalers = c.prescalers; csr = c.csr; control = c.control; test = c.test; scalers = c.scalers; main = v; timers = c.timers; sync = c.sync; blind = c.blind; user = c.user; latest = c.latest }

abbrev pub with_user : UserSync → Core → Core
with_user v c = record { prescalers = c.prescalers; csr = c.csr; control = c.control; test = c.test; scalers = c.scalers; main = c.main; timers = c.timers; sync = c.sync; blind = c.blind; user = v; latest = c.latest }

abbrev pub with_latest : Latest → Core → Core
with_latest v c = record { prescalers = c.prescalers; csr = c.csr; control = c.control; test = c.test; scalers = c.scalers; main = c.main; timers = c.timers; sync = c.sync; blind = c.blind; user = c.user; latest = v }
