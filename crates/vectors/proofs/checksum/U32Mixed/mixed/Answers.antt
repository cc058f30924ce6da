-- The bytes of a number are those of its two halves.
use Rattle.std.proofs.Common.{◌≡◌, ◌/◌, ◌%◌, arith}
use Rattle.vectors.specs.Bytes.{mix16, mix32}
use Rattle.vectors.proofs.checksum.U32Mixed.mixed.Goals as goal

pub returns : goal.returns
unfolding mix16 mix32
returns c =
    let n = c.args.self in
    let first : n / 65536 / 256 ≡ n / 16777216 % 256 = omega arith in
    let third : n % 65536 / 256 ≡ n / 256 % 256 = omega arith in
    let fourth : n % 65536 % 256 ≡ n % 256 = omega arith in
    cc
