-- `Table::bytes` meets its contract: what is left of the bytes, taken from the present register, gives the answer.
use mathlib.Core.Path.{◌∙◌}
use Rattle.crc32.proofs.ByBytes.{from-none, from-byte}
use Rattle.crc32.proofs.Table.bytes.Goals as goal

pub loop-b-preserved : goal.loop-b-preserved
loop-b-preserved c = let l = c.loop-b in let next = from-byte c.args.s.now l.b-index l.register c.loop-b-test.true in cc

pub returns : goal.returns
returns c = let l = c.loop-b in from-none c.args.s.now l.b-index l.register c.loop-b-test.false ∙ l.invariant
