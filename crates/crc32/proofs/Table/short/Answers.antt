-- `Table::short` meets its contract: what is left of the words, taken from the present register, gives the answer.
use Rattle.crc32.proofs.ByBytes.{from-end, from-word}
use Rattle.crc32.proofs.Table.short.Goals as goal

pub loop-word-preserved : goal.loop-word-preserved
loop-word-preserved c =
    let l = c.loop-word in
    let next = from-word c.args.words.now l.word-index l.register c.loop-word-test.true in
    cc

pub returns : goal.returns
returns c = let l = c.loop-word in let e = from-end c.args.words.now l.word-index l.register c.loop-word-test.false in cc
