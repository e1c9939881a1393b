-- The number that document 01 gives to each refusal ("Who can be turned down") and each stop ("Central turn", "Peripheral turn"), and document 02
-- to stops 7 and 8.
-- "Where an answer is an enum, a definition tells you this paper's number and values for each of its cases. The promises use that definition."
use Rattle.std.specs.Prelude.{Bool, ◌&&◌, ◌||◌, ℕ, eqb, leb, Ok, Err}
use Rattle.base_outcome.specs.declared.refusal.Refusal.{Refusal}
use Rattle.base_outcome.specs.declared.refusal.Refusal.TheVariants as Refused
use Rattle.base_outcome.specs.Verdict.{Verdict}
use Rattle.base_outcome.specs.declared.stop.CentralStop.{CentralStop}
use Rattle.base_outcome.specs.declared.stop.CentralStop.TheVariants as Central
use Rattle.base_outcome.specs.declared.stop.PeripheralStop.{PeripheralStop}
use Rattle.base_outcome.specs.declared.stop.PeripheralStop.TheVariants as Peripheral

abbrev pub refusal_number : Refusal → ℕ
-- 1 central length; 2 peripheral length, or a turn of a processor that isn't there
refusal_number Refused.CentralLength = 1
refusal_number Refused.PeripheralLength = 2
-- 3 central word over 60 bits; 4 peripheral word over 4,095
refusal_number Refused.CentralWord = 3
refusal_number Refused.PeripheralWord = 4
-- 5 record value over its width, a stop not listed for that processor, stray EM bit, nonzero B0, or RA + FL past the memory (where lent)
refusal_number Refused.RecordValue = 5
-- 6 no job, more jobs or stints than there may be (their limits stand in `shared_limits`), or lists of unequal length
-- For slices that document 01 does not describe there is one rule: a memory of a wrong length is 1 or 2, a record of a wrong length is 5,
-- any list, result or output slice of a wrong length is 6
refusal_number Refused.ListLength = 6
-- 7 stint of no listed job
refusal_number Refused.UnlistedJob = 7
-- 8 a stint over 65,535 turns, or a run over 65,535 rounds
refusal_number Refused.TooManyTurns = 8
-- 9 package past the end; 10 stray bits; 11 RA + FL past the end
refusal_number Refused.PackagePastEnd = 9
refusal_number Refused.StrayBits = 10
refusal_number Refused.FieldPastEnd = 11
-- 12 any two of the listed packages and fields share a word
refusal_number Refused.SharedWord = 12
-- 13 word over 4,095; 14 put unmet; 15 take unmet
refusal_number Refused.DeviceWord = 13
refusal_number Refused.PutUnmet = 14
refusal_number Refused.TakeUnmet = 15
-- 16 unreadable line
refusal_number Refused.UnreadableLine = 16

-- 0 for a call that meets no refusal
abbrev pub verdict_number : Verdict → ℕ
verdict_number (Ok _) = 0
verdict_number (Err r) = refusal_number r

abbrev pub central_stop_number : CentralStop → ℕ
-- 1 code 00
central_stop_number Central.Halt = 1
-- 2 operand outside the field with EM bit 010000
central_stop_number Central.OperandOutside = 2
-- 3 fetch, or the target of 010, outside the field
central_stop_number Central.FetchOutside = 3
-- 4 a code left out, or 01 with i not 0
central_stop_number Central.UnfitCode = 4
-- 5 a 30-bit code begun in the last parcel
central_stop_number Central.LastParcel = 5
-- document 02, (f): 7 an infinite operand with EM bit 020000; 8 an indefinite one with 040000
central_stop_number Central.InfiniteOperand = 7
central_stop_number Central.IndefiniteOperand = 8

-- the stops that a central record may hold: 0, for none, 1 to 5, 7 or 8; any other is "a stop not listed for that processor"
abbrev pub central_stop_listed : ℕ → Bool
central_stop_listed n = leb n 5 || eqb n 7 || eqb n 8

abbrev pub peripheral_stop_number : PeripheralStop → ℕ
-- 31 central address of 60 or 62 at or past the end
peripheral_stop_number Peripheral.CentralAddress = 31
-- 32 no such channel, or 72, 74 to 77 on 14
peripheral_stop_number Peripheral.NoChannel = 32
-- 33, 34, 35 for package faults 9, 10, 11
peripheral_stop_number Peripheral.PackagePastEnd = 33
peripheral_stop_number Peripheral.StrayBits = 34
peripheral_stop_number Peripheral.FieldPastEnd = 35
-- 36 codes left out
peripheral_stop_number Peripheral.UnfitCode = 36

-- the stops that the record of a peripheral processor may hold: 0, for none, or 31 to 36
abbrev pub peripheral_stop_listed : ℕ → Bool
peripheral_stop_listed n = eqb n 0 || (leb 31 n && leb n 36)
