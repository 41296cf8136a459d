-- `copy` meets its contract: the fill and the points to come stay the same.
use Prim.Native.Nat.{ℕ, ◌+◌, ◌-◌, ◌≤◌}
use lib.IntN.{ℤ}
use mathlib.Core.Path.{◌≡◌, ap, ◌∙◌}
use mathlib.Core.List.{List, ◌++◌}
use native.Mathlib.Omega.{arith}
use lib.ListN.{length, take}
use lib.Seq.{length-take-le}
use Rattle.std.proofs.lemmas.Slice.{take-put_mid}
use Rattle.block_merge.proofs.Moves.{copied-count, copied-same}
use Rattle.block_merge.proofs.copy.Goals as goal

pub returns : goal.returns
returns c =
    let p = c.args.source in
    let fill = c.args.fill.now in
    let n = c.args.filled in
    let more = c.min-more.result in
    let inside : more ≤ length p.times.now = omega (arith, c.min-more.ensures) in
    let in-times : n + more ≤ length fill.times = omega (arith, c.min-more.ensures, c.requires) in
    let in-values : n + more ≤ length fill.values = omega (arith, c.min-more.ensures, c.requires) in
    let ts = c.lay.ensures in
    let vs = c.lay-2.ensures in
    let laid_times : length c.lay.new.cells ≡ more = omega (arith, ap length ts, length-take-le more p.times.now inside) in
    let laid_values : length c.lay-2.new.cells ≡ more = omega (arith, ap length vs, length-take-le more p.values.now (omega (arith, inside, p.same))) in
    let times =
    take-put_mid n (n + more - n) fill.times c.lay.new.cells (n + more) (omega (arith, laid_times)) (omega (arith, in-times))
    ∙ ap (λ (l : List ℤ). take n fill.times ++ l) ts in
    let values =
    take-put_mid n (n + more - n) fill.values c.lay-2.new.cells (n + more) (omega (arith, laid_values)) (omega (arith, in-values))
    ∙ ap (λ (l : List ℕ). take n fill.values ++ l) vs in
    record {
      inside = inside;
      most = omega (arith, c.min-more.ensures, c.requires);
      some = λ h k. omega (arith, c.min-more.ensures);
      count = copied-count p fill n more inside (omega (arith, in-times)) (omega (arith, in-values)) _ times values;
      same = copied-same p fill n more inside (omega (arith, in-times)) (omega (arith, in-values)) _ times values;
    }
