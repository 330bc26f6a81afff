-- Changes of one field of the scalers. Nothing of the documents is decided here.
--     with_scaler0 v s   s with scaler 0 at v; and so on, one for each field
-- Assumes nothing.
use Rattle.std.specs.Prelude.{ℕ}
use Rattle.scalers.specs.declared.Scalers.{Scalers}

abbrev pub with_scaler0 : ℕ → Scalers → Scalers
with_scaler0 v s = record { scaler0 = v; scaler1 = s.scaler1; assign = s.assign; latch0 = s.latch0; latch1 = s.latch1 }

abbrev pub with_scaler1 : ℕ → Scalers → Scalers
with_scaler1 v s = record { scaler0 = s.scaler0; scaler1 = v; assign = s.assign; latch0 = s.latch0; latch1 = s.latch1 }

abbrev pub with_assign : ℕ → Scalers → Scalers
with_assign v s = record { scaler0 = s.scaler0; scaler1 = s.scaler1; assign = v; latch0 = s.latch0; latch1 = s.latch1 }

abbrev pub with_latch0 : ℕ → Scalers → Scalers
with_latch0 v s = record { scaler0 = s.scaler0; scaler1 = s.scaler1; assign = s.assign; latch0 = v; latch1 = s.latch1 }

abbrev pub with_latch1 : ℕ → Scalers → Scalers
with_latch1 v s = record { scaler0 = s.scaler0; scaler1 = s.scaler1; assign = s.assign; latch0 = s.latch0; latch1 = v }
