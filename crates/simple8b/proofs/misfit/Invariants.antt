-- `simple8b::misfit` meets its contract. The loop's invariant: each number passed fits.
use Rattle.std.proofs.Common.{◌≡◌, ◌^◌}
use Rattle.simple8b.specs.Selectors.{Fitting}
use Rattle.simple8b.proofs.Widths.{least}
use Rattle.simple8b.proofs.misfit.Given as goal

abbrev pub invariant-loop-i : goal.invariant-loop-i
invariant-loop-i l = Fitting l.numbers l.from l.i l.width × (l.least ≡ least l.width) × (l.span ≡ 2 ^ l.width)
