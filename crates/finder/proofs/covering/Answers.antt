-- `finder::covering` meets its contract: the entries passed do not cover the time, so those left decide.
use Rattle.std.proofs.Common.{rules, arith, ◌≡◌, true, false, ◌+◌, ◌-◌, ◌*◌, ◌≤◌, sym, ap, ◌∙◌}
use mir.Syntax.{w64}
use mir.ValLaws.{to_z-of_z}
use Rattle.format.specs.Refusals.{answer_of}
use Rattle.format.specs.Find as Find
use Rattle.finder.proofs.Searches.{cover-here, cover_on, cover-none}
use Rattle.finder.proofs.covering.Goals as goal

pub returns-then-covers : goal.returns-then-covers
returns-then-covers c =
    let p = c.args in
    let i = c.loop-i.i in
    let more : 1 ≤ p.c.left - i = omega (arith, c.loop-i-test.true) in
    let yes : Find.covers c.read_entry-e.result p.time ≡ true = search rules in
    ap answer_of (sym (cover-here p.time p.c.kind p.index.bytes.now (p.c.at.0 + i * 28) (p.c.left - i) more c.read_entry-e.result c.read_entry-e.ensures yes) ∙ rw (to_z-of_z w64 p.time c.ranges.time) at c.loop-i.invariant)

pub loop-i-preserved : goal.loop-i-preserved
loop-i-preserved c =
    let p = c.args in
    let i = c.loop-i.i in
    let more : 1 ≤ p.c.left - i = omega (arith, c.loop-i-test.true) in
    let no : Find.covers c.read_entry-e.result p.time ≡ false = search rules in
    let at : p.c.at.0 + (i + 1) * 28 ≡ p.c.at.0 + i * 28 + 28 = omega arith in
    let fewer : p.c.left - (i + 1) ≡ p.c.left - i - 1 = omega arith in
    rw (at, fewer, to_z-of_z w64 p.time c.ranges.time) (sym (cover_on p.time p.c.kind p.index.bytes.now (p.c.at.0 + i * 28) (p.c.left - i) more c.read_entry-e.result c.read_entry-e.ensures no) ∙ rw (to_z-of_z w64 p.time c.ranges.time) at c.loop-i.invariant)

pub returns : goal.returns
returns c =
    let p = c.args in
    let i = c.loop-i.i in
    ap answer_of (sym (cover-none p.time p.c.kind p.index.bytes.now (p.c.at.0 + i * 28) (p.c.left - i) (omega (arith, c.loop-i-test.false))) ∙ rw (to_z-of_z w64 p.time c.ranges.time) at c.loop-i.invariant)
