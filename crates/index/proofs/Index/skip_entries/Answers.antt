-- `Index::skip_entries` meets its contract: the entries left from where it stands say the same as all.
use Rattle.std.proofs.Common.{rules, arith, ◌≡◌, ◌+◌, ◌-◌, ◌≤◌, sym, ◌∙◌}
use mir.Syntax.{w64}
use mir.Val.{SFits}
use mir.ValLaws.{to_z-of_z}
use Rattle.index.specs.Cursors.{past, skipped_at}
use Rattle.index.proofs.Skips.{skip_by, skip-none, skip-one, past-sound}
use Rattle.index.proofs.Index.skip_entries.Invariants.{standing}
use Rattle.index.proofs.Index.skip_entries.Goals as goal
use Rattle.index.proofs.Index.skip_entries.Goals.{After-check_entry}

-- what `check_entry` answers decides as all entries do
told : (c : After-check_entry) →
    let p = c.args in
    skip_by p.self.bytes.now p.self.start.0 (past (standing p.c c.loop.at c.loop.ended c.loop.before (p.c.left - c.loop.counter)) c.read_entry-e.result) c.check_entry.result ≡ skipped_at p.self.bytes.now p.self.start.0 p.c
told c =
    let p = c.args in
    let more : 1 ≤ p.c.left - c.loop.counter = omega (arith, c.loop-test.true) in
    sym (skip-one p.self.bytes.now p.self.start.0 (standing p.c c.loop.at c.loop.ended c.loop.before (p.c.left - c.loop.counter)) more c.read_entry-e.result c.check_entry.result c.read_entry-e.ensures c.check_entry.ensures)
    ∙ c.loop.invariant.1

pub returns-in_err-check_entry : goal.returns-in_err-check_entry
returns-in_err-check_entry c = let t = rw c.in_err-check_entry.was at (told (goal.at.returns-in_err-check_entry c).After-check_entry) in rw (← t) (search rules)

pub loop-preserved : goal.loop-preserved
loop-preserved c =
    let p = c.args in
    let e = c.read_entry-e.result in
    let more : 1 ≤ p.c.left - c.loop.counter = omega (arith, c.loop-test.true) in
    let fewer : p.c.left - (c.loop.counter + 1) ≡ p.c.left - c.loop.counter - 1 = omega arith in
    let max : SFits w64 e.max = omega arith in
    rw (to_z-of_z w64 e.max max, fewer) (
      past-sound p.self.bytes.now p.self.start.0 (standing p.c c.loop.at c.loop.ended c.loop.before (p.c.left - c.loop.counter)) c.loop.invariant.0 more e c.read_entry-e.ensures (sym c.in_ok-check_entry.was ∙ c.check_entry.ensures),
      rw c.in_ok-check_entry.was at (told (goal.at.loop-preserved c).After-check_entry),
    )

pub returns : goal.returns
returns c =
    let p = c.args in
    let none : p.c.left - c.loop.counter ≡ 0 = omega (arith, c.loop-test.false) in
    sym (skip-none p.self.bytes.now p.self.start.0 (standing p.c c.loop.at c.loop.ended c.loop.before (p.c.left - c.loop.counter)) none) ∙ c.loop.invariant.1
