-- `read_point` meets its contract: the block of the entry that is found is read, and the point is looked for among its points.
use Rattle.std.specs.Prelude.{Err}
use Rattle.std.proofs.Common.{rules, ◌≡◌, ◌∙◌}
use mir.Syntax.{w64}
use mir.ValLaws.{to_z-of_z}
use Rattle.reader.proofs.Entries.{found-refused, block_refused, Located, located}
use Rattle.reader.proofs.Results.{point-refused, point-found}
use Rattle.reader.proofs.read_point.Goals as goal
use Rattle.reader.proofs.read_point.Goals.{In_ok-n}

-- the points of the block are read
block : (c : In_ok-n)
    → Located c.args.image.now c.args.key.now c.args.time c.in_ok-entry.entry c.in_ok-n.n c.read_entry.new.columns.times c.read_entry.new.columns.values
block c =
    located c.args.image.now c.args.key.now c.args.time c.in_ok-entry.entry (rw (to_z-of_z w64 c.args.time c.ranges.time) at c.in_ok-entry.ensures) _ _ _ _ c.in_ok-n.n c.in_ok-n.ensures.answer c.in_ok-n.ensures.cells

pub returns-in_err-entry : goal.returns-in_err-entry
returns-in_err-entry c =
    let a = c.args in
    let is : c.from_residual.result ≡ Err c.in_err-entry.field-0.0 = search rules in
    let none = found-refused a.image.now a.key.now a.time c.in_err-entry.field-0.0 (rw (to_z-of_z w64 a.time c.ranges.time) at c.in_err-entry.ensures) in
    rw is (point-refused a.image.now a.key.now a.time _ none.0 none.1)

pub returns-in_err-n : goal.returns-in_err-n
returns-in_err-n c =
    let a = c.args in
    let fault = c.in_err-n.field-0.0 in
    let is : c.from_residual-in_err-n.result ≡ Err fault.refusal = search rules in
    rw is
    (point-refused a.image.now a.key.now a.time _ _
    (block_refused a.image.now a.key.now a.time c.in_ok-entry.entry (rw (to_z-of_z w64 c.args.time c.ranges.time) at c.in_ok-entry.ensures) fault c.in_err-n.ensures.answer))

pub returns : goal.returns
returns c =
    let a = c.args in
    let at = goal.at.returns c in
    rw (to_z-of_z w64 a.time c.ranges.time) at c.point_at.ensures
    ∙ point-found a.image.now a.key.now a.time c.in_ok-entry.entry c.in_ok-n.n _ _ (block at.In_ok-n)
