-- `timestamps::count` meets its contract: each form says how many differences there are, and there is one time more.
use Rattle.std.specs.Prelude.{Result, Ok, Err, IsOk}
use mathlib.Core.Path.{◌≡◌, refl, sym, ◌∙◌}
use Rattle.format.specs.declared.Broken.{Broken}
use Rattle.numbers.specs.declared.Varint.{Varint}
use mathlib.Core.List.{List}
use Prim.Native.Nat.{ℕ, ◌≤◌}
use native.Mathlib.Omega.{arith}
use lib.ListN.{length, length-drop}
use Rattle.format.specs.Bytes.{AllBytes}
use Rattle.format.proofs.Parts.{part-rest}
use Rattle.numbers.specs.VarintAt.{varint_at, number, broken}
use Rattle.numbers.proofs.VarintPlaces.{varint_at-number}
use Rattle.timestamps.proofs.Counting.{Good, times-good, raw-count, packed-known, packed-few, packed-count, first-known, second-known, repeated-count}
use Rattle.timestamps.proofs.count.Goals as goal

-- the first varint of form 2 ends within the section
first-within : (s : List ℕ) → Good s → AllBytes s → (value next : ℕ) → varint_at s 9 ≡ number value next → next ≤ length s
first-within s good bytes value next first = (varint_at-number s 9 good.long value next bytes first).1

pub overflow_sub-result : goal.overflow_sub-result
overflow_sub-result c = (times-good c.args.section.now c.requires).long

pub returns-then-form-eq-RAW : goal.returns-then-form-eq-RAW
returns-then-form-eq-RAW c = raw-count c.args.section.now (times-good c.args.section.now c.requires) c.if-form-eq-RAW.true

pub count_numbers-requires : goal.count_numbers-requires
count_numbers-requires c =
    let known = packed-known c.args.section.now (times-good c.args.section.now c.requires) c.if-form-eq-PACKED.true in
    rw (part-rest c.args.section.now 9) (omega (arith, known.1, length-drop 9 c.args.section.now), known.2)

pub overflow_add-result-then-form-eq-PACKED : goal.overflow_add-result-then-form-eq-PACKED
overflow_add-result-then-form-eq-PACKED c =
    omega (arith, rw (part-rest c.args.section.now 9) at c.count_numbers.ensures, packed-few c.args.section.now (times-good c.args.section.now c.requires) c.if-form-eq-PACKED.true)

pub returns-then-form-eq-PACKED : goal.returns-then-form-eq-PACKED
returns-then-form-eq-PACKED c =
    packed-count c.args.section.now (times-good c.args.section.now c.requires) c.if-form-eq-PACKED.true c.count_numbers.result (rw (part-rest c.args.section.now 9) at c.count_numbers.ensures)

pub bounds-section-0 : goal.bounds-section-0
bounds-section-0 c = omega (arith, (times-good c.args.section.now c.requires).long)

pub slice_bounds-count_numbers-count : goal.slice_bounds-count_numbers-count
slice_bounds-count_numbers-count c = (times-good c.args.section.now c.requires).long

pub slice_bounds-count_numbers-start : goal.slice_bounds-count_numbers-start
slice_bounds-count_numbers-start c = (times-good c.args.section.now c.requires).long

pub read_varint-requires : goal.read_varint-requires
read_varint-requires c = (times-good c.args.section.now c.requires).long

-- a varint that nothing breaks
known : (x : Result Varint Broken) → ((place : ℕ) → x ≡ broken place → ⊥) → IsOk x
known (Ok v) k = refl
known (Err b) k = absurd (k b.place refl)

pub unwrap-first-requires : goal.unwrap-first-requires
unwrap-first-requires c =
    known c.read_varint.result (λ place e.
    first-known c.args.section.now (times-good c.args.section.now c.requires) c.if-form-eq-RAW.false c.if-form-eq-PACKED.false place (sym c.read_varint.ensures ∙ e))

pub read_varint-requires-2 : goal.read_varint-requires-2
read_varint-requires-2 c =
    let v = c.unwrap-first.result in
    first-within c.args.section.now (times-good c.args.section.now c.requires) (λ i. (c.type_inv.section i).fits) v.value v.next (sym c.read_varint.ensures ∙ c.unwrap-first.ensures)

pub unwrap-requires : goal.unwrap-requires
unwrap-requires c =
    let s = c.args.section.now in
    let good = times-good s c.requires in
    let v = c.unwrap-first.result in
    let first = sym c.read_varint.ensures ∙ c.unwrap-first.ensures in
    known c.read_varint-2.result (λ place e.
    second-known s good c.if-form-eq-RAW.false c.if-form-eq-PACKED.false v.value v.next first (first-within s good (λ i. (c.type_inv.section i).fits) v.value v.next first)
    place (sym c.read_varint-2.ensures ∙ e))

pub returns : goal.returns
returns c =
    let s = c.args.section.now in
    let good = times-good s c.requires in
    let v = c.unwrap-first.result in
    let first = sym c.read_varint.ensures ∙ c.unwrap-first.ensures in
    repeated-count s good c.if-form-eq-RAW.false c.if-form-eq-PACKED.false v.value v.next first (first-within s good (λ i. (c.type_inv.section i).fits) v.value v.next first)
    c.unwrap.result.value c.unwrap.result.next (sym c.read_varint-2.ensures ∙ c.unwrap.ensures)
