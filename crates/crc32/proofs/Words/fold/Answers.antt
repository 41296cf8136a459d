-- `Words::fold` meets its contract: the words that it makes are those of the law.
use lib.Bits.{xor_lt}
use borrow.Author.Rules.{rules}
use Rattle.crc32.proofs.Folds.{folded}
use Rattle.crc32.proofs.Words.fold.Goals as goal

pub returns : goal.returns
returns c rest long =
    let a = c.args.self in
    folded a.first a.second a.third a.fourth a.fifth c.from_le_bytes.result c.args.bytes.now rest c.fits-bytes c.told-bytes c.from_le_bytes.ensures
    (xor_lt 64 a.first c.from_le_bytes.result (search rules) (search rules)) long
