-- `judge` meets its contract: places that are past every image make one too long, and others are summed.
use Prim.Native.Nat.{ℕ, ◌+◌, ◌≤◌, ◌<◌}
use mathlib.Core.Path.{◌≡◌, sym, ap, ◌∙◌}
use mathlib.Core.Logic.{⊎_elim}
use native.Mathlib.Omega.{arith}
use Rattle.format.specs.Limits.{image_most}
use Rattle.format.proofs.Cases.{below_or}
use Rattle.builder.specs.Judging.{judged}
use Rattle.builder.proofs.Judges.{past-both, past-neither, judged-long, judged-short, judged-fits}
use Rattle.builder.proofs.judge.Goals as goal
use Rattle.builder.proofs.judge.Goals.{After-in_image-end, Else-past}

-- the places are within an image
within : (c : Else-past) → (c.args.ends.block.0 ≤ image_most) × (c.args.ends.entry.0 ≤ image_most)
within c =
    let a = c.args in
    past-neither a.ends (sym c.past.ensures ∙ c.if-past.false)

-- the length is that of blocks, index and footer
total-is : (c : After-in_image-end) → let a = c.args in judged (c.in_image-end.result.0 + 8) a.room ≡ judged (a.ends.block.0 + a.ends.entry.0 + 8) a.room
total-is c = ap (λ (n : ℕ). judged (n + 8) c.args.room) c.in_image-end.ensures

pub returns-then-past : goal.returns-then-past
returns-then-past c =
    let a = c.args in
    let total = a.ends.block.0 + a.ends.entry.0 + 8 in
    sym
    (judged-long total a.room
    (⊎_elim (λ (long : image_most < total). long)
    (λ (short : total ≤ image_most). absurd (past-both a.ends (sym c.past.ensures ∙ c.if-past.true) (omega arith) (omega arith)))
    (below_or image_most total)))

pub in_image-end-requires : goal.in_image-end-requires
in_image-end-requires c = omega (arith, (within (goal.at.in_image-end-requires c).Else-past).0, (within (goal.at.in_image-end-requires c).Else-past).1)

pub overflow_add-total : goal.overflow_add-total
overflow_add-total c = omega (arith, (within (goal.at.overflow_add-total c).Else-past).0, (within (goal.at.overflow_add-total c).Else-past).1, c.in_image-end.ensures)

pub returns-then-total-gt-IMAGE_MOST : goal.returns-then-total-gt-IMAGE_MOST
returns-then-total-gt-IMAGE_MOST c = sym (judged-long (c.in_image-end.result.0 + 8) c.args.room c.if-total-gt-IMAGE_MOST.true) ∙ total-is (goal.at.returns-then-total-gt-IMAGE_MOST c).After-in_image-end

pub returns-then-room-total : goal.returns-then-room-total
returns-then-room-total c = sym (judged-short (c.in_image-end.result.0 + 8) c.args.room c.if-total-gt-IMAGE_MOST.false c.if-room-total.true) ∙ total-is (goal.at.returns-then-room-total c).After-in_image-end

pub returns : goal.returns
returns c = sym (judged-fits (c.in_image-end.result.0 + 8) c.args.room c.if-total-gt-IMAGE_MOST.false c.if-room-total.false) ∙ total-is (goal.at.returns c).After-in_image-end
