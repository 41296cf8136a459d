-- `tsm_check` meets its contract: the case that `check` answers says what is given.
use mathlib.Core.Path.{ap, sym, ◌∙◌}
use Rattle.format.specs.Acts.{checked_says}
use Rattle.tsm.proofs.tsm_check.Goals as goal

pub returns-in-Ok : goal.returns-in-Ok
returns-in-Ok c =
    let said = sym c.check.ensures ∙ ap checked_says c.in-Ok.is in
    rw (said, c.accepted.ensures)

pub returns-in-Err : goal.returns-in-Err
returns-in-Err c =
    let said = sym c.check.ensures ∙ ap checked_says c.in-Err.is in
    rw (said, c.refused.ensures)
