-- `check` meets its contract: a refused index is a refused image, and with a good index every block is checked.
use Rattle.std.specs.Prelude.{Err}
use Rattle.std.proofs.Common.{rules, ◌≡◌, sym}
use Rattle.index.proofs.Frames.{part-start, index-good, index-refused}
use Rattle.reader.proofs.Totals.{check-refused}
use Rattle.reader.proofs.check.Goals as goal

pub returns-in_err-start : goal.returns-in_err-start
returns-in_err-start c =
    let image = c.args.image.now in
    let is : c.from_residual.result ≡ Err c.in_err-start.field-0.0.refusal = search rules in
    rw is (check-refused image _ _ (index-refused image c.in_err-start.field-0.0 (sym c.in_err-start.ensures)))

pub part_of-requires : goal.part_of-requires
part_of-requires c = part-start _ _ (index-good _ _ (sym c.in_ok-start.ensures)).starts
