-- `simple8b::lay` meets its contract: the front of the room is the numbers.
use Rattle.std.proofs.Common.{◌≡◌, ◌∙◌, ap, sym, length, take, arith}
use lib.Seq.{take_at, length-take-le}
use Rattle.format.specs.Simple8b.{word_numbers}
use Rattle.simple8b.proofs.Words.{count_of}
use Rattle.simple8b.proofs.lay.Goals as goal

pub open-opened-requires : goal.open-opened-requires
open-opened-requires g c = (omega (arith, c.requires), (c.requires.0, c.requires.1))

pub slice_bounds-copy_from_slice-end : goal.slice_bounds-copy_from_slice-end
slice_bounds-copy_from_slice-end g c = omega (arith, c.open-opened.ensures.count, count_of c.args.word c.args.selector c.requires.0, c.requires.3)

pub slice_bounds-copy_from_slice-end-2 : goal.slice_bounds-copy_from_slice-end-2
slice_bounds-copy_from_slice-end-2 g c =
    sym (length-take-le _ c.args.numbers.now (omega (arith, c.open-opened.ensures.count, count_of c.args.word c.args.selector c.requires.0, c.requires.3)))

pub copy_from_slice-requires : goal.copy_from_slice-requires
copy_from_slice-requires g c =
    let n = c.open-opened.result.count in
    let is : n ≡ length (word_numbers c.args.word) = c.open-opened.ensures.count in
    let front : take n c.open-opened.result.numbers ≡ word_numbers c.args.word = rw c.open-opened.ensures.numbers (take_at (word_numbers c.args.word) _ n (sym is)) in
    length-take-le n c.args.numbers.now (omega (arith, count_of c.args.word c.args.selector c.requires.0, c.requires.3)) ∙ is ∙ sym (ap length front)
