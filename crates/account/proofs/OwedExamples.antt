-- The examples of where the pass count is owed, as one statement over their table, computed from the account's rules.
--     owed_examples     each row is owed or not as it says
-- Assumes nothing.
use Rattle.std.proofs.Common.{◌≡◌, refl}
use Rattle.bits.specs.Bits.{mask_of}
use Rattle.run.specs.Run.{holds_byte, overlaid_of}
use Rattle.registers.specs.Csr.{requested_of}
use Rattle.registers.specs.Registers.{numbered_of}
use Rattle.account.specs.OwedExamples.{owed_logs, owed_after, owed_answers}

-- [Bytes.10a] [Bytes.10b]
pub owed_examples : owed_after owed_logs ≡ owed_answers
unfolding mask_of holds_byte overlaid_of numbered_of requested_of
owed_examples = refl
