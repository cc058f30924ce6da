-- What was written is a sheet, and no sheet is longer than the longest.
use Rattle.std.proofs.Common.{arith}
use Rattle.theory.proofs.Longest.{longest-edition1}
use Rattle.replay_tables.proofs.answer.Goals as goal

pub returns-in_ok-print_hex8-in-Ok : goal.returns-in_ok-print_hex8-in-Ok
returns-in_ok-print_hex8-in-Ok g c = omega (arith, c.in-Ok.ensures.right.most, longest-edition1)
