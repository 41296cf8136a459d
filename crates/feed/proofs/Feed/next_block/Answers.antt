-- `Feed::next_block` meets its contract: with an entry left the next step of the cursor takes it, and its block is decoded.
use Rattle.std.specs.Prelude.{Result}
use Rattle.std.proofs.Common.{arith, ◌≡◌, sym, refl, ◌∙◌}
use Rattle.format.specs.declared.Fault.{Fault}
use Rattle.index.specs.declared.Step.{Step}
use Rattle.index.specs.Cursors.{step_at}
use Rattle.index.specs.Frames.{index_part}
use Rattle.feed.proofs.Standing.{starts}
use Rattle.format.specs.Block.{read_block}
use Rattle.format.specs.File.{block_of}
use Rattle.block.proofs.Answers.{answer-points}
use Rattle.feed.proofs.Blocks.{no_block, block-only, block-known, block-opened}
use Rattle.feed.proofs.Feed.next_block.Goals as goal
use Rattle.feed.proofs.Feed.next_block.Goals.{After-next}

-- the step of the cursor, over the index of the image
step_is : (c : After-next) (s : Result Step Fault) → c.next.result ≡ s → step_at (index_part c.args.image.now c.args.self.start.0) c.args.self.start.0 c.args.self.cursor ≡ s
step_is c s e = sym (rw (c.part_of.ensures.bytes, c.part_of.ensures.start) at c.next.ensures) ∙ e

pub returns-then-self-eq0 : goal.returns-then-self-eq0
returns-then-self-eq0 c = (c.if-self-eq0.true, no_block c.args.image.now c.args.self c.requires c.if-self-eq0.true)

pub part_of-requires : goal.part_of-requires
part_of-requires c = let st = starts c.args.image.now c.args.self c.requires in omega (arith, st.start, st.framed)

pub next-requires : goal.next-requires
next-requires c = rw (c.part_of.ensures.bytes, c.part_of.ensures.start) c.requires.sound

pub open_block-count-requires : goal.open_block-count-requires
open_block-count-requires c =
    let is = step_is (goal.at.open_block-count-requires c).After-next _ c.in-Ok-Entry.is in
    let known = block-known c.args.image.now c.args.self c.requires c.in-Ok-Entry.entry c.in-Ok-Entry.on (rw c.in-Ok-Entry.field-0-is at is) in
    (known.good, known.inside)

pub returns-in-Ok-Entry : goal.returns-in-Ok-Entry
returns-in-Ok-Entry c =
    let is = step_is (goal.at.returns-in-Ok-Entry c).After-next _ c.in-Ok-Entry.is in
    let e = c.in-Ok-Entry.entry in
    let old = c.args.columns.now in
    let new = c.open_block-count.new.columns in
    let n = c.open_block-count.result in
    rw c.at.ensures
    (block-opened c.args.image.now c.args.self c.requires e c.in-Ok-Entry.on (rw c.in-Ok-Entry.field-0-is at is) old.times new.times old.values new.values n
    (answer-points old.times new.times old.values new.values n (read_block e (block_of c.args.image.now e)) c.open_block-count.ensures.count c.open_block-count.ensures.cells))

-- with an entry left, no other step
pub returns-in-Ok-Key : goal.returns-in-Ok-Key
returns-in-Ok-Key c =
    let is = step_is (goal.at.returns-in-Ok-Key c).After-next _ c.in-Ok-Key.is in
    block-only c.args.image.now c.args.self c.requires c.if-self-eq0.false _ (rw c.in-Ok-Key.field-0-is at is) refl

pub returns-in-Ok-End : goal.returns-in-Ok-End
returns-in-Ok-End c =
    let is = step_is (goal.at.returns-in-Ok-End c).After-next _ c.in-Ok-End.is in
    block-only c.args.image.now c.args.self c.requires c.if-self-eq0.false _ (rw c.in-Ok-End.field-0-is at is) refl

pub returns-in-Err : goal.returns-in-Err
returns-in-Err c =
    block-only c.args.image.now c.args.self c.requires c.if-self-eq0.false _ (step_is (goal.at.returns-in-Err c).After-next _ c.in-Err.is) refl
