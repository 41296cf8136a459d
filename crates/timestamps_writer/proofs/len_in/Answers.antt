-- `timestamps_writer::len_in` meets its contract: nine bytes of head, and what the layout lays after them.
use native.Mathlib.Omega.{arith}
use Rattle.timestamps_writer.specs.Writing.{differences_of}
use Rattle.timestamps_writer.proofs.Layouts.{layable, section-length, rest-most}
use Rattle.timestamps_writer.proofs.len_in.Goals as goal

pub rest_len-requires : goal.rest_len-requires
rest_len-requires c =
    let l = c.lay_out-layout in
    (omega arith, layable (differences_of c.args.times.now) l.new.cells l.result l.ensures)

pub overflow_add-result : goal.overflow_add-result
overflow_add-result c = omega (arith, rest-most c.lay_out-layout.result c.lay_out-layout.new.cells)

pub returns : goal.returns
returns c =
    let l = c.lay_out-layout in
    omega (arith, section-length c.args.times.now (omega arith) l.new.cells l.result l.ensures)
