-- The bytes of a number are those of its two halves.
use Rattle.std.proofs.Common.{◌≡◌, ℕ, ◌/◌, ◌%◌, arith}
use Rattle.vectors.specs.Bytes.{mix16, mix32, mix64}
use Rattle.vectors.proofs.checksum.U64Mixed.mixed.Goals as goal

pub returns : goal.returns
unfolding mix16 mix32 mix64
returns c =
    let n = c.args.self in
    let high : ℕ = n / 4294967296 in
    let low : ℕ = n % 4294967296 in
    let first : high / 65536 / 256 ≡ n / 72057594037927936 % 256 = omega arith in
    let second : high / 65536 % 256 ≡ n / 281474976710656 % 256 = omega arith in
    let third : high % 65536 / 256 ≡ n / 1099511627776 % 256 = omega arith in
    let fourth : high % 65536 % 256 ≡ n / 4294967296 % 256 = omega arith in
    let fifth : low / 65536 / 256 ≡ n / 16777216 % 256 = omega arith in
    let sixth : low / 65536 % 256 ≡ n / 65536 % 256 = omega arith in
    let seventh : low % 65536 / 256 ≡ n / 256 % 256 = omega arith in
    let eighth : low % 65536 % 256 ≡ n % 256 = omega arith in
    cc
