-- `skip_entry` meets its contract: with an entry left the next step of the cursor takes it, and leads past it.
use mathlib.Core.Path.{◌≡◌, sym, ap, ◌∙◌}
use Rattle.std.specs.Prelude.{Ok}
use Rattle.index.specs.declared.Cursor.{Cursor}
use Rattle.index.specs.declared.Step.{Step}
use Rattle.index.specs.Frames.{index_part}
use Rattle.index.specs.Cursors.{step_at, entry_at, past}
use Rattle.format.specs.declared.Entry.{Entry}
use Rattle.feed.proofs.Blocks.{block-step}
use Rattle.key_merge.proofs.Skips.{entry-skipped}
use Rattle.key_merge.proofs.skip_entry.Goals as goal
use Rattle.key_merge.proofs.skip_entry.Goals.{After-next}

-- an entry is left: the step of the cursor, over the index of the image
module _ (c : After-next) where
  abbrev entry : Entry
  entry = entry_at (index_part c.args.image.now c.args.feed.start.0) c.args.feed.cursor

  abbrev on : Cursor
  on = past c.args.feed.cursor entry

  step : c.next.result ≡ step_at (index_part c.args.image.now c.args.feed.start.0) c.args.feed.start.0 c.args.feed.cursor
  step = rw (c.part_of.ensures.bytes, c.part_of.ensures.start) at c.next.ensures

  taken : c.next.result ≡ Ok (Step.Entry entry on)
  taken = step ∙ block-step c.args.image.now c.args.feed c.requires c.if-feed-eq0.false

pub returns-in_default : goal.returns-in_default
returns-in_default c = absurd (c.in_default.not-Ok _ (taken (goal.at.returns-in_default c).After-next))

pub returns-in_default-step : goal.returns-in_default-step
returns-in_default-step c =
    let d = (goal.at.returns-in_default-step c).After-next in
    let all = sym c.in-Ok.is ∙ taken d in
    let is : c.in-Ok.step ≡ Step.Entry (entry d) (on d) = cc in
    absurd (c.in_default-step.not-Entry _ _ is)

pub returns : goal.returns
returns c =
    entry-skipped c.args.image.now c.args.feed c.requires c.if-feed-eq0.false c.in-Entry.field-0 c.in-Entry.cursor
    (sym (step (goal.at.returns c).After-next) ∙ c.in-Ok.is ∙ ap Ok c.in-Entry.is)
