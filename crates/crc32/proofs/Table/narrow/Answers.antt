-- `Table::narrow` meets its contract: five words go by, each with what the ones before left of the register.
use Rattle.crc32.proofs.Folds.{narrowed}
use Rattle.crc32.proofs.Table.narrow.Goals as goal

pub returns : goal.returns
returns c =
    let r = c.args.r in
    narrowed r.first r.second r.third r.fourth r.fifth c.eight-v.result c.eight-w.result c.eight-x.result c.eight-y.result c.eight.result c.args.last.now
    c.requires c.told-last c.eight-v.ensures c.eight-w.ensures c.eight-x.ensures c.eight-y.ensures c.eight.ensures
