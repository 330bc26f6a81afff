-- `reader::number` meets its contract. The loop's invariant: the bytes so far are digits, and the value is their number. Assumes nothing.
use Rattle.std.proofs.Common.{◌≡◌, ◌<◌, ◌^◌, true}
use Rattle.reader.specs.Reader.{has_digits_of, number_at}
use Rattle.reader.proofs.number.Given as goal

abbrev pub invariant-loop-b : goal.invariant-loop-b
invariant-loop-b l =
    (has_digits_of l.digits 0 l.b-index ≡ true) × (l.value ≡ number_at l.digits 0 l.b-index) × (l.value < 16 ^ l.b-index)
