-- `put_range` meets its contract: one number after the other.
use Prim.Native.Nat.{ℕ, ◌+◌}
use mathlib.Core.Path.{◌≡◌, ap, ◌∙◌}
use mir.Syntax.{w64}
use mir.ValLaws.{to_z-of_z}
use Rattle.format.specs.Bytes.{big_bytes, splice}
use Rattle.format.specs.Signed.{pattern}
use Rattle.numbers.proofs.BigEndian.{big_bytes-length}
use Rattle.format.proofs.Splices.{laid-two}
use Rattle.builder.specs.Steps.{range_bytes}
use native.Mathlib.Omega.{arith}
use Rattle.builder.proofs.put_range.Goals as goal

pub returns : goal.returns
unfolding range_bytes
returns c =
    let a = c.args in
    let first = c.put_u64 in
    let second = c.put_u64-2 in
    let low : c.pattern.result ≡ pattern a.min = c.pattern.ensures ∙ ap pattern (to_z-of_z w64 a.min c.ranges.min) in
    let high : c.pattern-2.result ≡ pattern a.max = c.pattern-2.ensures ∙ ap pattern (to_z-of_z w64 a.max c.ranges.max) in
    laid-two a.at (a.at + 8) (big_bytes 8 (pattern a.min)) (big_bytes 8 (pattern a.max)) a.out.now first.new.out second.new.out
    (omega (arith, c.requires)) (omega (arith, big_bytes-length 8 (pattern a.min)))
    (first.ensures ∙ ap (λ (n : ℕ). splice a.at (big_bytes 8 n) a.out.now) low)
    (second.ensures ∙ ap (λ (n : ℕ). splice (a.at + 8) (big_bytes 8 n) first.new.out) high)
