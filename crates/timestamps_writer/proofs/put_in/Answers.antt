-- `timestamps_writer::put_in` meets its contract: the length, the head and then what the layout lays after it are laid as one.
use mathlib.Core.Path.{◌≡◌, refl, ap, ap₂, ◌∙◌}
use mathlib.Core.List.{List, ◌∷◌}
use Prim.Native.Nat.{ℕ, ◌+◌, ◌≤◌}
use native.Mathlib.Omega.{arith}
use lib.IntN.{ℤ, pos}
use lib.ListN.{length, get_or}
use borrow.Author.Rules.{rules}
use Rattle.format.specs.Bytes.{big_bytes, splice}
use Rattle.format.specs.Signed.{pattern}
use Rattle.format.specs.Varint.{varint}
use Rattle.format.specs.Timestamps.{times_section}
use Rattle.numbers.proofs.TwosComplement.{signed-pattern}
use Rattle.timestamps_writer.specs.Writing.{differences_of, LaidOut, layout_head, layout_rest, times_part}
use Rattle.timestamps_writer.specs.declared.Layout.{Layout}
use Rattle.timestamps_writer.proofs.Layouts.{layout-bytes, section-length, layable, head-fits, rest-most, lay-section, part_length, lay-part}
use Rattle.timestamps_writer.proofs.put_in.Goals as goal

-- the times, their layout and the numbers to lay; `rest` is how many bytes follow the head
module _ (ts : List ℤ) (some : 1 ≤ length ts) (layout : Layout) (cells : List ℕ) (laid : LaidOut layout (differences_of ts) cells) (rest : ℕ) (measured : rest ≡ length (layout_rest layout cells)) where
  size : 9 + rest ≡ length (times_section ts)
  size = omega (arith, measured, section-length ts some cells layout laid)

  -- where the section starts
  module _ (at next : ℕ) (out new : List ℕ) (start : next ≡ at + length (varint (9 + rest))) (fits : at + length (times_part ts) ≤ length out) where
    before : at + length (varint (9 + rest)) ≤ length out
    before = rw size (omega (arith, part_length ts, fits))

    after : next ≡ at + length (varint (length (times_section ts)))
    after = rw size at start

    room : length new ≡ length out → next + (9 + rest) ≤ length new
    room same = omega (arith, after, size, part_length ts, fits, same)

pub rest_len-len-requires : goal.rest_len-len-requires
rest_len-len-requires c =
    let l = c.lay_out-layout in
    (omega (arith, l.auto.cells, c.requires.le_n), layable (differences_of c.args.times.now) l.new.cells l.result l.ensures)

pub overflow_add-len : goal.overflow_add-len
overflow_add-len c = omega (arith, c.requires.le_n, rest-most c.lay_out-layout.result c.lay_out-layout.new.cells)

pub put_varint-start-requires : goal.put_varint-start-requires
put_varint-start-requires c =
    let l = c.lay_out-layout in
    before c.args.times.now (omega (arith, c.requires.le_n)) l.result l.new.cells l.ensures _ c.rest_len-len.ensures c.args.at _ c.args.out.now c.args.out.now refl c.requires.times_in_bounds

pub head_byte-requires : goal.head_byte-requires
head_byte-requires c =
    let l = c.lay_out-layout in
    head-fits l.result l.new.cells (layable (differences_of c.args.times.now) l.new.cells l.result l.ensures)

pub put_head-requires : goal.put_head-requires
put_head-requires c =
    let l = c.lay_out-layout in
    let v = c.put_varint-start in
    omega (arith, room c.args.times.now (omega (arith, c.requires.le_n)) l.result l.new.cells l.ensures _ c.rest_len-len.ensures c.args.at v.result c.args.out.now v.new.out v.ensures.next c.requires.times_in_bounds v.auto.out)

pub overflow_add-start : goal.overflow_add-start
overflow_add-start c =
    let l = c.lay_out-layout in
    let v = c.put_varint-start in
    omega (arith, room c.args.times.now (omega (arith, c.requires.le_n)) l.result l.new.cells l.ensures _ c.rest_len-len.ensures c.args.at v.result c.args.out.now v.new.out v.ensures.next c.requires.times_in_bounds v.auto.out)

pub put_rest-requires : goal.put_rest-requires
put_rest-requires c =
    let l = c.lay_out-layout in
    let v = c.put_varint-start in
    let held = room c.args.times.now (omega (arith, c.requires.le_n)) l.result l.new.cells l.ensures _ c.rest_len-len.ensures c.args.at v.result c.args.out.now v.new.out v.ensures.next c.requires.times_in_bounds v.auto.out in
    (omega (arith, l.auto.cells, c.requires.le_n), layable (differences_of c.args.times.now) l.new.cells l.result l.ensures, omega (arith, held, c.rest_len-len.ensures, c.put_head.auto))

pub returns : goal.returns
returns c =
    let ts = c.args.times.now in
    let l = c.lay_out-layout in
    let v = c.put_varint-start in
    let rest = c.put_rest in
    let some : 1 ≤ length ts = omega (arith, c.requires.le_n) in
    let section = size ts some l.result l.new.cells l.ensures c.rest_len-len.result c.rest_len-len.ensures in
    let start = after ts some l.result l.new.cells l.ensures _ c.rest_len-len.ensures c.args.at v.result c.args.out.now v.new.out v.ensures.next c.requires.times_in_bounds in
    let held = room ts some l.result l.new.cells l.ensures _ c.rest_len-len.ensures c.args.at v.result c.args.out.now v.new.out v.ensures.next c.requires.times_in_bounds v.auto.out in
    let first-pattern : c.pattern.result ≡ pattern (get_or ts 0 (pos 0)) = c.pattern.ensures ∙ ap pattern (signed-pattern (get_or ts 0 (pos 0)) (search rules)) in
    let whole = lay-section (times_section ts) (layout_head l.result) (pattern (get_or ts 0 (pos 0))) (layout_rest l.result l.new.cells)
    (layout-bytes ts some l.new.cells l.result l.ensures) v.result v.new.out c.put_head.new.out rest.new.out (omega (arith, held))
    (c.put_head.ensures ∙ ap₂ (λ (h x : ℕ). splice v.result (h ∷ big_bytes 8 x) v.new.out) c.head_byte.ensures first-pattern)
    rest.ensures.laid in
    record {
      next = omega (arith, rest.ensures.next, c.rest_len-len.ensures, section, start, part_length ts);
      laid = lay-part ts c.args.at v.result c.args.out.now v.new.out rest.new.out (omega (arith, c.requires.times_in_bounds)) start (rw (← section) v.ensures.laid) whole;
    }
