-- `check_blocks` meets its contract: what was counted and what is left make what the whole makes.
use Rattle.std.specs.Prelude.{Result, Ok, Err}
use Rattle.std.proofs.Common.{rules, arith, ◌≡◌, ℕ, ◌+◌, Bool, ap, sym, ◌∙◌}
use Rattle.format.specs.declared.Fault.{Fault}
use Rattle.format.specs.Refusals.{Outcome, answer_of}
use Rattle.index.specs.declared.Step.{Step}
use Rattle.index.proofs.Frames.{in_image, index-good}
use Rattle.index.proofs.Loops.{After, AfterEntry, loop-step}
use Rattle.reader.proofs.Checking.{counts, judged, Checking, start-check, on-key-check, on-entry-check, at-broken, at-end-check}
use Rattle.reader.proofs.check_blocks.Goals as goal
use Rattle.reader.proofs.check_blocks.Goals.{After-next, In_ok-count-in-Entry}

-- what the step that `next` answers gives
stepped : (c : After-next) (s : Result Step Fault) → c.next.result ≡ s
    → After c.args.index.bytes.now c.args.index.start.0 (judged c.args.image.now) c.loop-on.at (counts c.args.image.now c.loop-on.totals.keys c.loop-on.totals.points) s
stepped c s e =
    let a = c.args in
    let l = c.loop-on in
    loop-step a.index.bytes.now a.index.start.0 (judged a.image.now) l.at (counts a.image.now l.totals.keys l.totals.points) l.invariant.state s (sym c.next.ensures ∙ e)

-- the state past an entry, with the points of its block
further : (c : In_ok-count-in-Entry)
    → AfterEntry c.args.index.bytes.now c.args.index.start.0 (judged c.args.image.now) c.loop-on.at (counts c.args.image.now c.loop-on.totals.keys c.loop-on.totals.points) c.in-Entry.entry c.in-Entry.on
    → Checking c.args.image.now c.args.index.bytes.now c.args.index.start.0 c.in-Entry.on c.loop-on.totals.keys (c.loop-on.totals.points + c.in_ok-count-in-Entry.count)
further c after =
    let a = c.args in
    let l = c.loop-on in
    on-entry-check a.image.now a.index.bytes.now a.index.start.0 l.at l.totals.keys l.totals.points l.invariant c.in-Entry.entry c.in-Entry.on after _
    c.in_ok-count-in-Entry.ensures.answer

pub loop-on-init : goal.loop-on-init
loop-on-init c =
    let a = c.args in
    rw (c.first-at.ensures, c.requires.1) (start-check a.image.now a.index.start c.requires.0)

pub returns-in_err-on : goal.returns-in_err-on
returns-in_err-on c =
    let is : c.from_residual.result ≡ Err c.in_err-on.field-0.0.refusal = search rules in
    let done = stepped (goal.at.returns-in_err-on c).After-next _ c.in_err-on.was in
    rw is (ap (λ (t : Bool × Outcome (ℕ × ℕ)). answer_of t.1) done)

pub loop-on-smaller-in-Key : goal.loop-on-smaller-in-Key
loop-on-smaller-in-Key c = (stepped (goal.at.loop-on-smaller-in-Key c).After-next _ (c.in_ok-on.was ∙ ap Ok c.in-Key.is)).less

pub loop-on-preserved-in-Key : goal.loop-on-preserved-in-Key
loop-on-preserved-in-Key c =
    let a = c.args in
    let l = c.loop-on in
    on-key-check a.image.now a.index.bytes.now a.index.start.0 l.at l.totals.keys l.totals.points l.invariant _
    (stepped (goal.at.loop-on-preserved-in-Key c).After-next _ (c.in_ok-on.was ∙ ap Ok c.in-Key.is))

pub read_entry-requires : goal.read_entry-requires
read_entry-requires c =
    let a = c.args in
    let starts = (index-good a.image.now a.index.start c.requires.0).starts in
    let block = (stepped (goal.at.read_entry-requires c).After-next _ (c.in_ok-on.was ∙ ap Ok c.in-Entry.is)).step.block in
    in_image a.image.now _ starts.framed block.least (omega (arith, block.within, starts.start))

pub returns-in_err-count-in-Entry : goal.returns-in_err-count-in-Entry
returns-in_err-count-in-Entry c =
    let a = c.args in
    let l = c.loop-on in
    let fault = c.in_err-count-in-Entry.field-0.0 in
    let is : c.from_residual-in_err-count-in-Entry.result ≡ Err fault.refusal = search rules in
    let after = stepped (goal.at.returns-in_err-count-in-Entry c).After-next _ (c.in_ok-on.was ∙ ap Ok c.in-Entry.is) in
    rw is
    (at-broken a.image.now a.index.bytes.now a.index.start.0 l.at l.totals.keys l.totals.points l.invariant c.in-Entry.entry c.in-Entry.on after fault
    c.in_err-count-in-Entry.ensures.answer)

pub overflow_add-totals-in-Entry : goal.overflow_add-totals-in-Entry
overflow_add-totals-in-Entry c =
    let at = goal.at.overflow_add-totals-in-Entry c in
    let k = further at.In_ok-count-in-Entry (stepped at.After-next _ (c.in_ok-on.was ∙ ap Ok c.in-Entry.is)) in
    omega (arith, k.few-points, k.state.sound.entries, k.state.sound.image)

pub loop-on-smaller : goal.loop-on-smaller
loop-on-smaller c = (stepped (goal.at.loop-on-smaller c).After-next _ (c.in_ok-on.was ∙ ap Ok c.in-Entry.is)).less

pub loop-on-preserved : goal.loop-on-preserved
loop-on-preserved c =
    let at = goal.at.loop-on-preserved c in
    further at.In_ok-count-in-Entry (stepped at.After-next _ (c.in_ok-on.was ∙ ap Ok c.in-Entry.is))

pub returns-in-End : goal.returns-in-End
returns-in-End c =
    at-end-check c.args.image.now c.loop-on.totals.keys c.loop-on.totals.points (stepped (goal.at.returns-in-End c).After-next _ (c.in_ok-on.was ∙ ap Ok c.in-End.is))
