-- `past` meets its contract: one place after the other.
use mathlib.Core.Path.{sym}
use native.Mathlib.Omega.{arith}
use Rattle.builder.proofs.Judges.{past-block, past-entry}
use Rattle.builder.proofs.Ends.past.Goals as goal

pub returns-then-self-gt-IMAGE_MOST : goal.returns-then-self-gt-IMAGE_MOST
returns-then-self-gt-IMAGE_MOST c = sym (past-block c.args.self (omega arith))

pub returns : goal.returns
returns c = past-entry c.args.self (omega arith)
