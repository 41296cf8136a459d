-- `Feed::next_key` meets its contract: the next step of the cursor opens a key or ends the index.
use Rattle.std.specs.Prelude.{Result}
use Rattle.std.proofs.Common.{arith, ◌≡◌, sym, ◌∙◌}
use Rattle.format.specs.declared.Fault.{Fault}
use Rattle.index.specs.declared.Step.{Step}
use Rattle.index.specs.Cursors.{step_at}
use Rattle.index.specs.Frames.{index_part}
use Rattle.feed.proofs.Standing.{starts}
use Rattle.feed.proofs.Keys.{key-opened, no_key, key-not-entry, not-refused}
use Rattle.feed.proofs.Feed.next_key.Goals as goal
use Rattle.feed.proofs.Feed.next_key.Goals.{After-next}

-- the step of the cursor, over the index of the image
step_is : (c : After-next) (s : Result Step Fault) → c.next.result ≡ s → step_at (index_part c.args.image.now c.args.self.start.0) c.args.self.start.0 c.args.self.cursor ≡ s
step_is c s e = sym (rw (c.part_of.ensures.bytes, c.part_of.ensures.start) at c.next.ensures) ∙ e

pub part_of-requires : goal.part_of-requires
part_of-requires c = let st = starts c.args.image.now c.args.self c.requires.0 in omega (arith, st.start, st.framed)

pub next-requires : goal.next-requires
next-requires c = rw (c.part_of.ensures.bytes, c.part_of.ensures.start) c.requires.0.sound

pub returns-in-Ok-Key : goal.returns-in-Ok-Key
returns-in-Ok-Key c =
    let is = step_is (goal.at.returns-in-Ok-Key c).After-next _ c.in-Ok-Key.is in
    rw c.at.ensures (key-opened c.args.image.now c.args.self c.requires.0 c.in-Ok-Key.cursor (rw c.in-Ok-Key.field-0-is at is))

pub returns-in-Ok-Entry : goal.returns-in-Ok-Entry
returns-in-Ok-Entry c =
    let is = step_is (goal.at.returns-in-Ok-Entry c).After-next _ c.in-Ok-Entry.is in
    absurd (key-not-entry c.args.image.now c.args.self c.requires.0 c.requires.1 c.in-Ok-Entry.field-0-0 c.in-Ok-Entry.field-0-1 (rw c.in-Ok-Entry.field-0-is at is))

pub returns-in-Ok-End : goal.returns-in-Ok-End
returns-in-Ok-End c =
    let is = step_is (goal.at.returns-in-Ok-End c).After-next _ c.in-Ok-End.is in
    no_key c.args.image.now c.args.self c.requires.0 (rw c.in-Ok-End.field-0-is at is)

pub returns-in-Err : goal.returns-in-Err
returns-in-Err c =
    absurd (not-refused c.args.image.now c.args.self c.requires.0 c.in-Err.field-0 (step_is (goal.at.returns-in-Err c).After-next _ c.in-Err.is))
