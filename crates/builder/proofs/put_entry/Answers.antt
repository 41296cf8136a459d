-- `put_entry` meets its contract: the range, the offset and the size, one after the other.
use Prim.Native.Nat.{◌+◌}
use mathlib.Core.Path.{◌≡◌, ap₂, ◌∙◌}
use mathlib.Core.List.{◌++◌}
use lib.IntN.{ℤ}
use lib.ListN.{length, length-append}
use mir.Syntax.{w64}
use mir.ValLaws.{to_z-of_z}
use Rattle.format.specs.Bytes.{big_bytes, splice}
use Rattle.format.specs.Signed.{pattern}
use Rattle.numbers.proofs.BigEndian.{big_bytes-length}
use Rattle.format.proofs.Splices.{laid-two}
use Rattle.builder.specs.Steps.{range_bytes}
use native.Mathlib.Omega.{arith}
use Rattle.builder.proofs.put_entry.Goals as goal

range_length : (min max : ℤ) → length (range_bytes min max) ≡ 16
unfolding range_bytes
range_length min max = omega (arith, length-append (big_bytes 8 (pattern min)) (big_bytes 8 (pattern max)), big_bytes-length 8 (pattern min), big_bytes-length 8 (pattern max))

pub returns : goal.returns
unfolding range_bytes
returns c =
    let a = c.args in
    let range = c.put_range in
    let offset = c.put_u64 in
    let size = c.put_u32 in
    let first = range_bytes a.min a.max in
    let laid : range.new.out ≡ splice a.at first a.out.now =
    range.ensures ∙ ap₂ (λ (x y : ℤ). splice a.at (range_bytes x y) a.out.now) (to_z-of_z w64 a.min c.ranges.min) (to_z-of_z w64 a.max c.ranges.max) in
    let two = laid-two a.at (a.at + 16) first (big_bytes 8 a.offset.0) a.out.now range.new.out offset.new.out
    (omega (arith, c.requires)) (omega (arith, range_length a.min a.max)) laid offset.ensures in
    laid-two a.at (a.at + 24) (first ++ big_bytes 8 a.offset.0) (big_bytes 4 a.size) a.out.now offset.new.out size.new.out
    (omega (arith, c.requires))
    (omega (arith, range_length a.min a.max, length-append first (big_bytes 8 a.offset.0), big_bytes-length 8 a.offset.0))
    two size.ensures
