-- `timestamps_writer::lay_out` meets its contract: the cells hold the differences, then the divided ones, then the differences again.
use mathlib.Core.Path.{◌≡◌, sym, ap, ◌∙◌}
use mathlib.Core.Bool.{Bool, true, false}
use mathlib.Core.List.{List, map}
use Prim.Native.Nat.{ℕ, ◌/◌, ◌^◌, ◌≤◌}
use borrow.Author.Tests.{leb-true}
use lib.Dec.{leb}
use lib.ListN.{length, take}
use Rattle.format.specs.Limits.{packed_most}
use Rattle.format.specs.Timestamps.{exponent}
use Rattle.format.specs.Choice.{all_equal}
use Rattle.format.proofs.Tests.{both_left}
use Rattle.section_laws.proofs.Exponents.{exponent-most, exponent-repeats}
use Rattle.section_laws.specs.Choices.{repeats, small, packable}
use Rattle.timestamps_writer.specs.Writing.{differences_of}
use Rattle.timestamps_writer.proofs.Layouts.{every-mapped}
use Rattle.timestamps_writer.proofs.lay_out.Goals as goal

-- equal differences, of which there is one at least
some : (ds : List ℕ) → repeats 1 ds ≡ true → 1 ≤ length ds
some ds equal = leb-true 1 (length ds) (both_left (leb 1 (length ds)) (all_equal ds) equal)

-- the divided differences can be packed, or not
small_is : (ds cells : List ℕ) (e : ℕ) (fits : Bool) → e ≡ exponent 12 ds → cells ≡ map (λ d. d / 10 ^ e) ds → fits ≡ small cells → packable (exponent 12 ds) ds ≡ fits
small_is ds cells e fits is divided told =
    ap (λ (x : ℕ). packable x ds) (sym is)
    ∙ sym (every-mapped (λ x. leb x packed_most) (λ d. d / 10 ^ e) ds)
    ∙ ap small (sym divided)
    ∙ sym told

-- the first of equal differences decides
first-decides : (ds cells : List ℕ) (e : ℕ) → cells ≡ ds → repeats 1 ds ≡ true → e ≡ exponent 12 (take 1 cells) → e ≡ exponent 12 ds
first-decides ds cells e laid equal is = is ∙ ap (λ (xs : List ℕ). exponent 12 (take 1 xs)) laid ∙ exponent-repeats ds equal 12

pub returns-then-repeat : goal.returns-then-repeat
returns-then-repeat c =
    let laid = c.put_differences.ensures in
    let equal : repeats 1 (differences_of c.args.times.now) ≡ true = rw (← laid) (sym c.repeat.ensures ∙ c.if-repeat.true) in
    (equal, first-decides _ _ _ laid equal c.find_exponent.ensures, laid)

pub divide-requires : goal.divide-requires
divide-requires c = rw c.find_exponent-e.ensures (exponent-most c.put_differences.new.cells 12)

pub returns-then-packable : goal.returns-then-packable
returns-then-packable c =
    let laid = c.put_differences.ensures in
    let unequal : repeats 1 (differences_of c.args.times.now) ≡ false = rw (← laid) (sym c.repeat.ensures ∙ c.if-repeat.false) in
    let chosen : c.find_exponent-e.result ≡ exponent 12 (differences_of c.args.times.now) = rw (← laid) c.find_exponent-e.ensures in
    let divided : c.divide.new.cells ≡ map (λ d. d / 10 ^ c.find_exponent-e.result) (differences_of c.args.times.now) = rw (← laid) c.divide.ensures in
    (unequal, small_is _ _ _ _ chosen divided c.packable.ensures ∙ c.if-packable.true, chosen, divided)

pub returns : goal.returns
returns c =
    let laid = c.put_differences.ensures in
    let unequal : repeats 1 (differences_of c.args.times.now) ≡ false = rw (← laid) (sym c.repeat.ensures ∙ c.if-repeat.false) in
    let chosen : c.find_exponent-e.result ≡ exponent 12 (differences_of c.args.times.now) = rw (← laid) c.find_exponent-e.ensures in
    let divided : c.divide.new.cells ≡ map (λ d. d / 10 ^ c.find_exponent-e.result) (differences_of c.args.times.now) = rw (← laid) c.divide.ensures in
    (unequal, small_is _ _ _ _ chosen divided c.packable.ensures ∙ c.if-packable.false, c.put_differences-2.ensures)
