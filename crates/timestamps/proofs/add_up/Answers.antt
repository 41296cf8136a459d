-- `timestamps::add_up` meets its contract: the times passed stand in the cells, and what is left completes them.
use mathlib.Core.Path.{◌≡◌, ◌∙◌}
use mathlib.Core.Logic.{⊎_elim}
use Prim.Native.Nat.{◌<◌}
use native.Mathlib.Omega.{arith}
use lib.ListN.{length}
use Rattle.format.specs.declared.Refusal.TheVariants.{Timestamps}
use Rattle.timestamps.proofs.Clock.{time-stored}
use Rattle.timestamps.proofs.Refusing.{answer-refused}
use Rattle.timestamps.proofs.Adding.{scaled, scaled_at, scaled-length, add_nothing, add-past, add-more, add-end}
use Rattle.timestamps.proofs.add_up.Goals as goal

pub returns-in_default : goal.returns-in_default
returns-in_default c =
    let a = c.args in
    let n = scaled-length a.scale a.differences.now in
    let inside : c.loop-i.i < length (scaled a.scale a.differences.now) = rw n c.loop-i-test.true in
    let step = scaled_at a.scale a.differences.now c.loop-i.i c.loop-i-test.true in
    let r = answer-refused _ Timestamps 0 _ _
    (⊎_elim (λ none. add_nothing c.loop-i.invariant inside (step ∙ none)) (λ far. add-past c.loop-i.invariant inside (omega (arith, step, far))) c.in_default.ensures) in
    record { answer = r.0; cells = r.1 }

pub loop-i-preserved : goal.loop-i-preserved
loop-i-preserved c =
    let a = c.args in
    let n = scaled-length a.scale a.differences.now in
    let inside : c.loop-i.i < length (scaled a.scale a.differences.now) = rw n c.loop-i-test.true in
    let step = scaled_at a.scale a.differences.now c.loop-i.i c.loop-i-test.true in
    let is = c.in-Some.ensures in
    rw (time-stored c.time_at.result c.loop-i.left c.time_at.ensures c.loop-i.invariant.small, is.2, ← step)
    (add-more c.loop-i.invariant inside (omega (arith, step, is.0)) (omega (arith, step, is.1)) (omega (arith, c.loop-i-test.true, c.requires.2)))

pub returns : goal.returns
returns c =
    let a = c.args in
    let l = c.loop-i in
    let n = scaled-length a.scale a.differences.now in
    let end : length a.differences.now ≡ l.i = omega (arith, l.invariant.within, c.loop-i-test.false, n) in
    let at = time-stored c.time_at-2.result l.left c.time_at-2.ensures l.invariant.small in
    let r = add-end l.invariant (length a.differences.now) end (omega (arith, n, end)) (omega (arith, n, c.requires.0)) (omega (arith, end, c.requires.2)) in
    rw at (record { answer = r.0; cells = r.1 })
