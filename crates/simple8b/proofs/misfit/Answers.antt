-- `simple8b::misfit` meets its contract. The loop's invariant: each number passed fits.
use Rattle.std.proofs.Common.{arith}
use Rattle.simple8b.proofs.misfit.Goals as goal

pub returns : goal.returns
returns c = record { fits = λ j a b. c.loop-i.invariant.0.fits j a (omega arith) }
