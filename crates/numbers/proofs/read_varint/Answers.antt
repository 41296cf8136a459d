-- `numbers::read_varint` meets its contract: the first byte ends the number, or the state of reading goes on (`Scans`).
use Rattle.std.proofs.Common.{◌≡◌, ◌+◌, ◌-◌, ◌*◌, ◌≤◌, get_or, arith}
use Rattle.numbers.proofs.Scans.{kept-middle, scan-start, scan-first, scan-more, scan-end}
use Rattle.numbers.proofs.read_varint.Goals as goal

pub returns-then-at-s : goal.returns-then-at-s
returns-then-at-s c = scan-end (scan-start c.args.s.now c.args.at c.requires) (omega arith)

pub returns-then-first-lt-GROUP : goal.returns-then-first-lt-GROUP
returns-then-first-lt-GROUP c = rw c.from-first.ensures (scan-first c.args.s.now c.args.at (omega arith) (omega arith))

pub read_more-requires : goal.read_more-requires
read_more-requires c =
    let byte = get_or c.args.s.now c.args.at 0 in
    let large : 128 ≤ byte = omega arith in
    let not : byte ≡ 0 → ⊥ = λ e. omega arith in
    let low : 0 + (byte - 128) * 1 ≡ byte - 128 = omega arith in
    rw c.from-first.ensures (rw low at
    (scan-more (scan-start c.args.s.now c.args.at c.requires) (omega arith) (kept-middle 0 byte (omega arith) not) large (omega arith)))
