-- What several calls ask first, in the documents' order: what the call goes on with, or why it is declined. Nothing is decided
-- here: each call's own definition, in declines/specs/Calls.antt and Fill.antt, has these tests again, and its contract cites that.
--     document 01    "When a call is declined"
--     writable_of     the register of a write; readable_of: of a read
--     lent_of         a memory of the right length; place_of: .. and a place in it
-- Assumes nothing.
use Rattle.std.specs.Prelude.{ℕ, not, List, length, ◌==◌, nat_le, if◌then◌else◌, Result, Ok, Err}
use Rattle.registers.specs.Registers.{numbered_of, facts_of}
use Rattle.registers.specs.declared.register.Register.{Register}
use Rattle.supervisor.specs.Supervisor.{is_spoiled_of}
use Rattle.supervisor.specs.declared.Supervisor.{Supervisor}
use Rattle.declines.specs.declared.Decline.{Decline}
use Rattle.declines.specs.declared.Decline.TheVariants.{Spoiled, Length, Place}
use Rattle.declines.specs.Calls.{memory_places}

-- [Declines.2a] [Declines.2b]
abbrev pub writable_of : (number : ℕ) → Supervisor → Result Register Decline
writable_of number s =
    if is_spoiled_of s then Err Spoiled
    else if not (facts_of (numbered_of number)).writable then Err Place
    else Ok (numbered_of number)

-- [Declines.3a]
abbrev pub readable_of : (number : ℕ) → Supervisor → Result Register Decline
readable_of number s =
    if is_spoiled_of s then Err Spoiled
    else if not (facts_of (numbered_of number)).readable then Err Place
    else Ok (numbered_of number)

-- [Declines.4a] [Declines.4b]
abbrev pub lent_of : List ℕ → Supervisor → Result Unit Decline
lent_of memory s =
    if is_spoiled_of s then Err Spoiled
    else if not (length memory == memory_places) then Err Length
    else Ok tt

-- [Declines.4a] [Declines.4b] [Declines.4c]
abbrev pub place_of : List ℕ → (place : ℕ) → Supervisor → Result ℕ Decline
place_of memory place s =
    if is_spoiled_of s then Err Spoiled
    else if not (length memory == memory_places) then Err Length
    else if nat_le memory_places place then Err Place
    else Ok place
