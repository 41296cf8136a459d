-- `timestamps::read_differences` meets its contract: the form is that of the number.
use borrow.Author.Tests.{ne_eqb}
use Rattle.format.specs.Timestamps.{read_differences}
use Rattle.timestamps.proofs.read_differences.Goals as goal

pub returns : goal.returns
unfolding read_differences
returns c t =
    let form = c.args.form in
    rw (ne_eqb form 0 c.if-form-eq-RAW.false, ne_eqb form 1 c.if-form-eq-PACKED.false, ne_eqb form 2 c.requires.2)
