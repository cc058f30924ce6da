-- The loop's invariant: the sum is at most the room of the literals' table.
use Rattle.std.proofs.Common.{◌≤◌}
use Rattle.readings.specs.Lengths.{literal_bytes}
use Rattle.replay_sheets.proofs.literal_bytes.Given as goal

abbrev pub invariant-loop-count : goal.invariant-loop-count
invariant-loop-count l = l.n ≤ literal_bytes
