-- `simple8b::unpack_by` meets its contract: the first cells hold the numbers of the word.
use Rattle.std.proofs.Common.{◌/◌, ◌^◌, refl, sym, ◌∙◌, arith}
use Rattle.simple8b.proofs.Table.{Known, known, few}
use Rattle.simple8b.proofs.Words.{count_of}
use Rattle.simple8b.proofs.unpack_by.Goals as goal

pub returns-then-numbers-count : goal.returns-then-numbers-count
returns-then-numbers-count c = (omega (arith, count_of c.args.word c.args.selector c.requires, c.if-numbers-count.true), refl)

pub lay-requires : goal.lay-requires
lay-requires c =
    let k : Known c.args.selector = known (c.args.word / 2 ^ 60) c.args.selector (omega arith) c.requires in
    (c.requires, k.many, omega arith, c.if-numbers-count.false)

pub lay-requires-else-selector-eq0 : goal.lay-requires-else-selector-eq0
lay-requires-else-selector-eq0 c =
    let k : Known c.args.selector = known (c.args.word / 2 ^ 60) c.args.selector (omega arith) c.requires in
    (c.requires, few c.args.selector k (omega (arith, c.if-selector-eq0.false)), omega arith, c.if-numbers-count.false)

pub returns-then-selector-eq0 : goal.returns-then-selector-eq0
returns-then-selector-eq0 c =
    (sym c.opens.ensures ∙ c.if-not-opens.false, count_of c.args.word c.args.selector c.requires, c.if-numbers-count.false, c.lay.ensures)

pub returns-else-selector-eq0 : goal.returns-else-selector-eq0
returns-else-selector-eq0 c =
    (sym c.opens.ensures ∙ c.if-not-opens.false, count_of c.args.word c.args.selector c.requires, c.if-numbers-count.false, c.lay-else-selector-eq0.ensures)
