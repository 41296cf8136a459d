-- `given_entry` meets its contract: each field is its part of the entry.
use native.Mathlib.Omega.{arith}
use mir.Syntax.{w64}
use mir.Val.{SFits}
use mir.ValLaws.{to_z-of_z}
use Rattle.tsm.proofs.given_entry.Goals as goal

pub returns : goal.returns
returns c =
    let e = c.args.entry in
    let min : SFits w64 e.min = omega (arith, c.struct_told-1.given) in
    let max : SFits w64 e.max = omega (arith, c.struct_told-1.given) in
    rw (c.byte.ensures, to_z-of_z w64 e.min min, to_z-of_z w64 e.max max)
