-- `timestamps::repeat_difference` meets its contract: the differences left take no more than the time has left, so that each step is within it.
use mathlib.Core.Path.{◌≡◌}
use Prim.Native.Nat.{◌*◌, ◌≤◌}
use native.Mathlib.Nat.{one-le-mul}
use native.Mathlib.Omega.{arith}
use lib.ListN.{replicate, length-replicate, get_or, get_or-replicate}
use Rattle.format.specs.declared.Refusal.TheVariants.{Timestamps}
use Rattle.timestamps.proofs.Clock.{time-stored}
use Rattle.timestamps.proofs.Refusing.{answer-refused}
use Rattle.timestamps.proofs.Adding.{add-more, add-end}
use Rattle.timestamps.proofs.Regular.{regular-late, regular-wide, regular-over, regular-step}
use Rattle.timestamps.proofs.repeat_difference.Goals as goal

pub returns-in_default : goal.returns-in_default
returns-in_default c =
    let a = c.args in
    let r = answer-refused _ Timestamps 0 _ _
    (regular-late (a.difference * a.scale) a.first a.count c.ranges.first.fits
    (regular-over (a.difference * a.scale) _ a.count c.requires.1 (omega (arith, c.in_default.ensures, c.ranges.first.fits)))) in
    record { answer = r.0; cells = r.1 }

pub returns-then-room-count : goal.returns-then-room-count
returns-then-room-count c =
    let a = c.args in
    let r = answer-refused _ Timestamps 0 _ _
    (regular-late c.in-Some.step a.first a.count c.ranges.first.fits
    (regular-wide c.in-Some.step _ a.count c.requires.1 (rw c.wrap_sub-room.ensures at c.if-room-count.true))) in
    rw (← c.in-Some.ensures.1) (record { answer = r.0; cells = r.1 })

pub loop-i-preserved : goal.loop-i-preserved
loop-i-preserved c =
    let a = c.args in
    let step = c.in-Some.step in
    let h = c.loop-i-test.true in
    let n = length-replicate a.count step in
    let x : get_or (replicate a.count step) c.loop-i.i 0 ≡ step = get_or-replicate a.count c.loop-i.i step 0 h in
    let least : 1 ≤ step = rw c.in-Some.ensures.1 (one-le-mul c.requires.0 c.requires.3) in
    let within = regular-step step a.count c.loop-i.i c.loop-i.left h c.loop-i.invariant.1 in
    let more = add-more c.loop-i.invariant.0 (omega (arith, n, h)) (omega (arith, x, least)) (omega (arith, x, within.0)) (omega (arith, h, c.requires.4)) in
    (rw (time-stored c.time_at.result c.loop-i.left c.time_at.ensures c.loop-i.invariant.0.small) (rw x at more), within.1)

pub returns : goal.returns
returns c =
    let a = c.args in
    let l = c.loop-i in
    let n = length-replicate a.count c.in-Some.step in
    let end : a.count ≡ l.i = omega (arith, l.invariant.0.within, c.loop-i-test.false, n) in
    let at = time-stored c.time_at-2.result l.left c.time_at-2.ensures l.invariant.0.small in
    let r = add-end l.invariant.0 a.count end (omega (arith, n, end)) (omega (arith, n, c.requires.2)) (omega (arith, end, c.requires.4)) in
    rw (at, ← c.in-Some.ensures.1) (record { answer = r.0; cells = r.1 })
