-- `timestamps_writer::put_differences` meets its contract: the differences passed stand in the cells, and those left complete them.
use mathlib.Core.Path.{◌≡◌, sym, ap, ap₂, ◌∙◌}
use Prim.Native.Nat.{◌+◌, ◌<◌}
use native.Mathlib.Omega.{arith}
use lib.IntN.{pos}
use lib.ListN.{length, get_or}
use Rattle.format.specs.Signed.{pattern, wrap_sub}
use Rattle.numbers.proofs.TwosComplement.{signed-pattern}
use Rattle.timestamps_writer.proofs.Gaps.{gap-pattern, gaps-later, gaps-more, gaps-end}
use borrow.Author.Rules.{rules}
use Rattle.timestamps_writer.proofs.put_differences.Goals as goal

pub loop-i-preserved : goal.loop-i-preserved
loop-i-preserved c =
    let ts = c.args.times.now in
    let l = c.loop-i in
    let t = get_or ts l.i (pos 0) in
    let u = get_or ts (l.i + 1) (pos 0) in
    let sizes : length ts ≡ length l.cells + 1 = omega arith in
    let here : l.i < length l.cells = omega arith in
    let later = gaps-later ts l.cells sizes l.invariant here in
    let t-pattern : c.pattern-time.result ≡ pattern t = c.pattern-time.ensures ∙ ap pattern (signed-pattern t (search rules)) in
    let u-pattern : c.pattern-next.result ≡ pattern u = c.pattern-next.ensures ∙ ap pattern (signed-pattern u (search rules)) in
    gaps-more ts l.cells sizes l.invariant here c.wrap_sub.result
    (c.wrap_sub.ensures ∙ ap₂ wrap_sub u-pattern t-pattern ∙ sym (gap-pattern t u later (search rules) (search rules)))

pub returns : goal.returns
returns c = gaps-end c.args.times.now c.loop-i.cells (omega arith) c.loop-i.invariant (omega arith)
