-- `open_pair` meets its contract: the two numbers of a row are the bits of its place.
use native.Mathlib.Omega.{arith}
use mathlib.Core.Path.{◌≡◌, ◌∙◌}
use mathlib.Core.List.{List, [], ◌∷◌}
use Prim.Native.Nat.{ℕ, ◌+◌, ◌*◌, ◌/◌, ◌%◌, ◌<◌, ◌≤◌}
use lib.ListN.{length, get_or, set, length-set}
use Rattle.format.specs.Bytes.{splice}
use Rattle.format.proofs.Splices.{splice-set, splice-store}
use Rattle.booleans.specs.Pairs.{pair_of, pair_rows}
use Rattle.booleans.proofs.OpenedBytes.{pair-rows}
use Rattle.booleans.proofs.open_pair.Goals as goal

-- a row's two numbers, stored one after the other
stored-pair : (pairs : List ℕ) (p at : ℕ) (old : List ℕ) → pairs ≡ pair_rows → p < 4 → at + 2 ≤ length old
    → set (set old at (get_or pairs (p * 2) 0)) (at + 1) (get_or pairs (p * 2 + 1) 0) ≡ splice at (pair_of p) old
stored-pair pairs p at old is few room =
    let row = pair-rows p few in
    rw (is, row.0, row.1)
    (splice-set (at + 1) (p % 2) (set old at (p / 2)) (simp length-set (omega arith))
    ∙ splice-store at (p / 2) (p % 2 ∷ []) old (omega arith))

pub returns : goal.returns
returns c =
    let a = c.args in
    rw (c.from.ensures, c.from-2.ensures)
    (stored-pair a.pairs.now a.pair a.at a.values.now c.requires.0 (omega arith) (omega arith))
