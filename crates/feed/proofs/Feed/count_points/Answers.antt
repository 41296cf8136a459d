-- `Feed::count_points` meets its contract.
use Rattle.std.specs.Prelude.{Result, Ok}
use Rattle.std.proofs.Common.{arith, ◌≡◌, ◌+◌, sym, refl, ap, ◌∙◌}
use Rattle.format.specs.declared.Fault.{Fault}
use Rattle.format.specs.declared.Entry.{Entry}
use Rattle.index.specs.declared.Cursor.{Cursor}
use Rattle.index.specs.declared.Step.{Step}
use Rattle.index.specs.Cursors.{step_at}
use Rattle.index.specs.Frames.{index_part}
use Rattle.feed.proofs.Standing.{starts}
use Rattle.feed.specs.Feeds.{at_cursor}
use Rattle.feed.proofs.Blocks.{block-only, block-known}
use Rattle.feed.proofs.Counts.{Counting, counting-start, counting-on, counting-end}
use Rattle.index.proofs.Taken.{entry_past}
use Rattle.feed.proofs.Feed.count_points.Goals as goal
use Rattle.feed.proofs.Feed.count_points.Goals.{After-next, After-count_block-count}

-- the step of the cursor, over the index of the image
step_is : (c : After-next) (s : Result Step Fault) → c.next.result ≡ s → step_at (index_part c.args.image.now c.args.self.start.0) c.args.self.start.0 c.loop.cursor ≡ s
step_is c s e = sym (rw (c.part_of-index.ensures.bytes, c.part_of-index.ensures.start) at c.next.ensures) ∙ e

pub part_of-index-requires : goal.part_of-index-requires
part_of-index-requires c = let st = starts c.args.image.now c.args.self c.requires in omega (arith, st.start, st.framed)

pub loop-init : goal.loop-init
loop-init c = (counting-start c.args.image.now c.args.self c.requires, omega arith)

pub next-requires : goal.next-requires
next-requires c = rw (c.part_of-index.ensures.bytes, c.part_of-index.ensures.start) c.loop.invariant.0.stands.sound

-- the next entry, and its block
module _ (c : After-next) (e : Entry) (on : Cursor) (s : Step) (is : c.next.result ≡ Ok s) (here : s ≡ Step.Entry e on) where
  taken : step_at (index_part c.args.image.now c.args.self.start.0) c.args.self.start.0 c.loop.cursor ≡ Ok (Step.Entry e on)
  taken = rw here at (step_is c (Ok s) is)

pub count_block-count-requires : goal.count_block-count-requires
count_block-count-requires c =
    let t = taken (goal.at.count_block-count-requires c).After-next c.in-Ok-Entry.entry c.in-Ok-Entry.on c.in-Ok-Entry.field-0 c.in-Ok-Entry.is c.in-Ok-Entry.field-0-is in
    let known = block-known c.args.image.now (at_cursor c.args.self.start c.loop.cursor) c.loop.invariant.0.stands c.in-Ok-Entry.entry c.in-Ok-Entry.on t in
    (known.good, known.inside)

-- the block is counted
counted : (c : After-count_block-count) → step_at (index_part c.args.image.now c.args.self.start.0) c.args.self.start.0 c.loop.cursor ≡ Ok (Step.Entry c.in-Ok-Entry.entry c.in-Ok-Entry.on)
    → Counting c.args.image.now c.args.self.start c.args.self.cursor c.in-Ok-Entry.on (c.loop.count + c.count_block-count.result)
counted c t =
    counting-on c.args.image.now c.args.self.start c.args.self.cursor c.loop.cursor c.loop.count c.loop.invariant.0
    _ c.in-Ok-Entry.on t c.count_block-count.result c.count_block-count.ensures

pub overflow_add-count : goal.overflow_add-count
overflow_add-count c =
    let at = goal.at.overflow_add-count c in
    let t = taken at.After-next c.in-Ok-Entry.entry c.in-Ok-Entry.on c.in-Ok-Entry.field-0 c.in-Ok-Entry.is c.in-Ok-Entry.field-0-is in
    let k = counted at.After-count_block-count t in
    omega (arith, k.few, k.stands.sound.entries, k.stands.sound.image)

pub loop-preserved : goal.loop-preserved
loop-preserved c =
    let at = goal.at.loop-preserved c in
    let t = taken at.After-next c.in-Ok-Entry.entry c.in-Ok-Entry.on c.in-Ok-Entry.field-0 c.in-Ok-Entry.is c.in-Ok-Entry.field-0-is in
    let s = c.loop.invariant.0.stands in
    let index = index_part c.args.image.now c.args.self.start.0 in
    let on = entry_past index c.args.self.start.0 c.loop.cursor s.sound _ _ s.index c.in-Ok-Entry.entry c.in-Ok-Entry.on t in
    (counted at.After-count_block-count t, let fewer = ap (λ (d : Cursor). d.left) on in omega (arith, fewer, c.loop.invariant.1, c.loop-test.true))

pub returns : goal.returns
returns c = counting-end c.args.image.now c.args.self c.requires c.loop.cursor c.loop.count c.loop.invariant.0 (omega (arith, c.loop.invariant.1))

-- an entry is left, so no other step
pub returns-in-Ok-Key : goal.returns-in-Ok-Key
returns-in-Ok-Key c =
    let is = step_is (goal.at.returns-in-Ok-Key c).After-next _ c.in-Ok-Key.is in
    block-only c.args.image.now (at_cursor c.args.self.start c.loop.cursor) c.loop.invariant.0.stands (λ none. omega (arith, none, c.loop.invariant.1, c.loop-test.true)) _ (rw c.in-Ok-Key.field-0-is at is) refl

pub returns-in-Ok-End : goal.returns-in-Ok-End
returns-in-Ok-End c =
    let is = step_is (goal.at.returns-in-Ok-End c).After-next _ c.in-Ok-End.is in
    block-only c.args.image.now (at_cursor c.args.self.start c.loop.cursor) c.loop.invariant.0.stands (λ none. omega (arith, none, c.loop.invariant.1, c.loop-test.true)) _ (rw c.in-Ok-End.field-0-is at is) refl

pub returns-in-Err : goal.returns-in-Err
returns-in-Err c =
    let is = step_is (goal.at.returns-in-Err c).After-next _ c.in-Err.is in
    block-only c.args.image.now (at_cursor c.args.self.start c.loop.cursor) c.loop.invariant.0.stands (λ none. omega (arith, none, c.loop.invariant.1, c.loop-test.true)) _ is refl
