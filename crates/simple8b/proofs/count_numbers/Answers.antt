-- `simple8b::count_numbers` meets its contract: the numbers counted and those of the words left are all of them.
use Rattle.std.proofs.Common.{◌*◌, arith, length-drop}
use Rattle.simple8b.proofs.Unpacking.{word-length, word-next}
use Rattle.simple8b.proofs.Counting.{counted-next, counted-more, counted-end}
use Rattle.simple8b.proofs.count_numbers.Goals as goal

pub overflow_add-count : goal.overflow_add-count
overflow_add-count c =
    let s = c.args.words.now in
    let i = c.loop-i.i in
    let next = counted-next c.loop-i.invariant _ _ (word-next s i c.requires.0 c.loop-i-test.true) (word-length s i c.requires.0 c.loop-i-test.true)
    c.read_u64-word.result c.read_u64-word.ensures c.selector_at-selector.result c.selector_at-selector.ensures in
    record { fits = omega (arith, next, c.requires.1) }

pub loop-i-preserved : goal.loop-i-preserved
loop-i-preserved c =
    let s = c.args.words.now in
    let i = c.loop-i.i in
    counted-more c.loop-i.invariant _ _ (word-next s i c.requires.0 c.loop-i-test.true) (word-length s i c.requires.0 c.loop-i-test.true)
    c.read_u64-word.result c.read_u64-word.ensures c.selector_at-selector.result c.selector_at-selector.ensures

pub returns : goal.returns
returns c = counted-end c.loop-i.invariant (omega (arith, length-drop (c.loop-i.i * 8) c.args.words.now))
