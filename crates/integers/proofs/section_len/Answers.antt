-- `integers::section_len` meets its contract: the writer's tests choose the form, and each form has its length.
use Rattle.std.proofs.Common.{◌-◌, length, get_or, sym, ◌∙◌, arith}
use Rattle.numbers.proofs.Varints.{varint-length-most}
use Rattle.simple8b.proofs.Packing.{after-front}
use Rattle.integers.proofs.Writing.{packed-most, repeated-length, packed-length, raw-length}
use Rattle.integers.proofs.section_len.Goals as goal

pub overflow_add-result : goal.overflow_add-result
overflow_add-result c = omega (arith, c.varint_len.ensures, varint-length-most (get_or c.args.stored.now 1 0))

pub overflow_add-result-then-repeated : goal.overflow_add-result-then-repeated
overflow_add-result-then-repeated c =
    omega (arith, c.varint_len.ensures, varint-length-most (get_or c.args.stored.now 1 0), c.varint_len-then-repeated.ensures, varint-length-most (length c.args.stored.now - 1))

pub returns-then-repeated : goal.returns-then-repeated
returns-then-repeated c =
    omega (arith, c.varint_len.ensures, c.varint_len-then-repeated.ensures, repeated-length c.args.stored.now c.requires (sym c.repeated.ensures ∙ c.if-repeated.true))

pub overflow_add-result-then-packable : goal.overflow_add-result-then-packable
overflow_add-result-then-packable c = omega (arith, rw after-front at c.packed_len.ensures, packed-most c.args.stored.now, c.well_formed)

pub returns-then-packable : goal.returns-then-packable
returns-then-packable c =
    omega (arith, rw after-front at c.packed_len.ensures, packed-length c.args.stored.now c.requires (sym c.repeated.ensures ∙ c.if-repeated.false) (sym c.packable.ensures ∙ c.if-packable.true))

pub returns : goal.returns
returns c =
    omega (arith, raw-length c.args.stored.now c.requires (sym c.repeated.ensures ∙ c.if-repeated.false) (sym c.packable.ensures ∙ c.if-packable.false))
