-- `read_parts` meets its contract: each section is read as the part that it is, with its place added.
use Rattle.std.specs.Prelude.{Ok, Err}
use Rattle.std.proofs.Common.{rules, arith, ◌≡◌, ℕ, ◌+◌, ◌-◌, ◌≤◌, List, length, take, drop, sym, ap, ◌∙◌, length-drop}
use Rattle.format.specs.declared.Refusal.TheVariants.{Timestamps, Values}
use Rattle.format.specs.Refusals.{told, faulted}
use Rattle.format.specs.Timestamps.{read_times}
use Rattle.format.specs.Block.{read_values}
use Rattle.format.proofs.Parts.{part-rest, part_length}
use lib.Seq.{length-take-le}
use Rattle.section_laws.specs.Cells.{Laid}
use Rattle.block.specs.Answers.{placed}
use Rattle.block.proofs.Sections.{placed-told, placed-ok, placed-asks, TimesAre, times-stand, times-count, times-spare, times-few, values-stand, values-read, values-part, values-over}
use Rattle.block.proofs.Parts.{times-refused, values-refused, both_read}
use Rattle.block.proofs.read_parts.Goals as goal
use Rattle.block.proofs.read_parts.Goals.{After-placed, In_ok-n, After-read_values-laid}

-- the timestamps' bytes
abbrev stamps : (next split : ℕ) → List ℕ → List ℕ
stamps next split s = take (split - next) (drop next s)

pub placed-requires : goal.placed-requires
placed-requires c =
    let a = c.args in
    let at = a.next + a.offset.0 in
    let part = stamps a.next a.split a.block.now in
    rw c.read-read.ensures.answer (placed-asks length (read_times 0 part) (read_times at part) (times-stand at part) (omega (arith, part_length a.block.now a.next a.split c.requires.1, c.requires)))

-- the timestamps, where they stand
times_told : (c : After-placed) →
    let a = c.args in
    c.placed.result ≡ faulted length (read_times (a.next + a.offset.0) (stamps a.next a.split a.block.now))
times_told c =
    let a = c.args in
    let at = a.next + a.offset.0 in
    c.placed.ensures ∙ ap (placed Timestamps at) c.read-read.ensures.answer ∙ placed-told length (times-stand at (stamps a.next a.split a.block.now))

pub returns-in_err-n : goal.returns-in_err-n
returns-in_err-n c =
    let a = c.args in
    let told : c.from_residual.result ≡ Err c.in_err-n.field-0.0 = search rules in
    let h = times-refused a.kind a.offset.0 a.next a.split a.block.now _ _ _ _ c.in_err-n.field-0.0 (sym c.in_err-n.was ∙ times_told (goal.at.returns-in_err-n c).After-placed) in
    rw told (record { answer = h.0; cells = h.1 })

-- the timestamps are read
module _ (c : In_ok-n) where
  abbrev part : List ℕ
  part = stamps c.args.next c.args.split c.args.block.now

  counted : Ok c.in_ok-n.n ≡ told length (read_times 0 part)
  counted = sym (placed-ok Timestamps (c.args.next + c.args.offset.0) c.read-read.result c.in_ok-n.n (sym c.placed.ensures ∙ c.in_ok-n.was)) ∙ c.read-read.ensures.answer

  times_are : TimesAre (c.args.next + c.args.offset.0) c.in_ok-n.n part c.args.times.now c.read-read.new.times
  times_are = times-count (c.args.next + c.args.offset.0) c.in_ok-n.n part c.args.times.now c.read-read.new.times counted c.read-read.ensures.times

  -- the values as the timestamps left them
  spare : drop c.in_ok-n.n c.read-read.new.cells ≡ drop c.in_ok-n.n c.args.values.now
  spare = times-spare c.in_ok-n.n part c.args.values.now c.read-read.new.cells counted c.read-read.ensures.spare

  few : c.in_ok-n.n ≤ 1000
  few = omega (arith, (times-few (c.args.next + c.args.offset.0) part times_are.times times_are.read).few, times_are.count)

  -- so many cells are lent for the values
  cells : length (take c.in_ok-n.n c.read-read.new.cells) ≡ c.in_ok-n.n
  cells = length-take-le c.in_ok-n.n c.read-read.new.cells (omega (arith, few, c.read-read.auto))

pub slice_bounds-read_values-end-2 : goal.slice_bounds-read_values-end-2
slice_bounds-read_values-end-2 c = omega (arith, few (goal.at.slice_bounds-read_values-end-2 c).In_ok-n, c.read-read.auto)

pub slice_bounds-read_values-end-3 : goal.slice_bounds-read_values-end-3
slice_bounds-read_values-end-3 c = sym (cells (goal.at.slice_bounds-read_values-end-3 c).In_ok-n)

-- the values, where they stand
module _ (c : After-read_values-laid) where
  abbrev rest : List ℕ
  rest = drop c.args.split c.args.block.now

  answer : {m : ℕ} → length (take c.in_ok-n.n c.read-read.new.cells) ≡ m → c.read_values-laid.result ≡ told (λ _. tt {0}) (read_values c.args.kind m 0 rest)
  answer e = rw (e, part-rest c.args.block.now c.args.split) at c.read_values-laid.ensures.answer

  laid : {m : ℕ} → length (take c.in_ok-n.n c.read-read.new.cells) ≡ m → Laid (read_values c.args.kind m 0 rest) (take c.in_ok-n.n c.read-read.new.cells) c.read_values-laid.new.values
  laid e = rw (e, part-rest c.args.block.now c.args.split) at c.read_values-laid.ensures.cells

pub placed-requires-2 : goal.placed-requires-2
placed-requires-2 c =
    let a = c.args in
    let at = goal.at.placed-requires-2 c in
    let place = a.split + a.offset.0 in
    let part = drop a.split a.block.now in
    rw (answer at.After-read_values-laid (cells at.In_ok-n))
    (placed-asks (λ _. tt {0}) (read_values a.kind c.in_ok-n.n 0 part) (read_values a.kind c.in_ok-n.n place part) (values-stand a.kind place c.in_ok-n.n part)
    (omega (arith, length-drop a.split a.block.now, c.requires)))

pub returns-in_err-placed : goal.returns-in_err-placed
returns-in_err-placed c =
    let a = c.args in
    let at = goal.at.returns-in_err-placed c in
    let place = a.split + a.offset.0 in
    let part = drop a.split a.block.now in
    let known : c.from_residual-in_err-placed.result ≡ Err c.in_err-placed.field-0.0 = search rules in
    let answered : Err c.in_err-placed.field-0.0 ≡ faulted (λ _. tt {0}) (read_values a.kind c.in_ok-n.n place part) =
    sym c.in_err-placed.was ∙ c.placed-2.ensures ∙ ap (placed Values place) (answer at.After-read_values-laid (cells at.In_ok-n))
    ∙ placed-told (λ _. tt {0}) (values-stand a.kind place c.in_ok-n.n part) in
    let h = values-refused a.kind a.offset.0 a.next a.split a.block.now _ _ _ _ c.in_ok-n.n (times_are at.In_ok-n) c.in_err-placed.field-0.0 answered in
    rw known (record { answer = h.0; cells = h.1 })

pub returns : goal.returns
returns c =
    let a = c.args in
    let at = goal.at.returns c in
    let k = at.In_ok-n in
    let place = a.split + a.offset.0 in
    let part = drop a.split a.block.now in
    let n = c.in_ok-n.n in
    let lent = c.read-read.new.cells in
    let laid_part = c.read_values-laid.new.values in
    let is = placed-ok Values place c.read_values-laid.result c.in_ok-placed.field-0 (sym c.placed-2.ensures ∙ c.in_ok-placed.was) in
    let read = values-read a.kind place n part (take n lent) laid_part (sym is ∙ answer at.After-read_values-laid (cells k)) (laid at.After-read_values-laid (cells k)) in
    let whole = values-part a.kind place n part lent laid_part (omega (arith, few k, c.read-read.auto)) read in
    let h = both_read a.kind a.offset.0 a.next a.split a.block.now _ _ _ _ n (times_are k) (values-over a.kind place n part a.values.now lent _ (spare k) whole) in
    record { answer = h.0; cells = h.1 }
