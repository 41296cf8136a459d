-- `numbers::put_u16` meets its contract: two stores, one after the other, lay the two bytes.
use Rattle.std.proofs.Common.{◌+◌, ◌/◌, ◌%◌, [], ◌∷◌, set, arith, length-set}
use Rattle.numbers.proofs.BigEndian.{big_bytes-two}
use Rattle.format.proofs.Splices.{splice-set, splice-store}
use Rattle.numbers.proofs.put_u16.Goals as goal

pub bounds-out-at-2 : goal.bounds-out-at-2
bounds-out-at-2 c = simp length-set (omega arith)

pub returns : goal.returns
returns c =
    let out = c.args.out.now in
    let at = c.args.at in
    let n = c.args.n in
    rw (big_bytes-two n (omega arith), ← splice-store at (n / 256) (n % 256 ∷ []) out (omega arith))
    (splice-set (at + 1) (n % 256) (set out at (n / 256)) (simp length-set (omega arith)))
