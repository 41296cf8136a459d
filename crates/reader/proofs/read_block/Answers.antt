-- `read_block` meets its contract: the block of the entry that is found is read into columns, and its points are laid where both slices have room.
use Rattle.std.specs.Prelude.{Err}
use Rattle.std.proofs.Common.{rules, ◌≡◌}
use mathlib.Core.Logic.{inl, inr, ⊎_elim}
use mir.Syntax.{w64}
use mir.ValLaws.{to_z-of_z}
use Rattle.reader.proofs.Entries.{found-refused, block_refused, Located, located}
use Rattle.reader.proofs.Results.{read-refused, read-short, read-laid}
use Rattle.reader.proofs.read_block.Goals as goal
use Rattle.reader.proofs.read_block.Goals.{In_ok-count}

-- the points of the block are read
block : (c : In_ok-count)
    → Located c.args.image.now c.args.key.now c.args.time c.in_ok-entry.entry c.in_ok-count.count c.read_entry.new.columns.times c.read_entry.new.columns.values
block c =
    located c.args.image.now c.args.key.now c.args.time c.in_ok-entry.entry (rw (to_z-of_z w64 c.args.time c.ranges.time) at c.in_ok-entry.ensures) _ _ _ _ c.in_ok-count.count c.in_ok-count.ensures.answer c.in_ok-count.ensures.cells

pub returns-in_err-entry : goal.returns-in_err-entry
returns-in_err-entry c =
    let a = c.args in
    let is : c.from_residual.result ≡ Err c.in_err-entry.field-0.0 = search rules in
    let none = found-refused a.image.now a.key.now a.time c.in_err-entry.field-0.0 (rw (to_z-of_z w64 a.time c.ranges.time) at c.in_err-entry.ensures) in
    let h = read-refused a.image.now a.key.now a.time a.times.now a.values.now _ none.0 none.1 in
    record { answer = rw is h.0; times = h.1.0; values = h.1.1 }

pub returns-in_err-count : goal.returns-in_err-count
returns-in_err-count c =
    let a = c.args in
    let fault = c.in_err-count.field-0.0 in
    let is : c.from_residual-in_err-count.result ≡ Err fault.refusal = search rules in
    let none = block_refused a.image.now a.key.now a.time c.in_ok-entry.entry (rw (to_z-of_z w64 c.args.time c.ranges.time) at c.in_ok-entry.ensures) fault c.in_err-count.ensures.answer in
    let h = read-refused a.image.now a.key.now a.time a.times.now a.values.now _ _ none in
    record { answer = rw is h.0; times = h.1.0; values = h.1.1 }

pub returns-then-times-count : goal.returns-then-times-count
returns-then-times-count c =
    let a = c.args in
    let at = goal.at.returns-then-times-count c in
    let short = ⊎_elim (λ h. inl h) (λ h. inr h.1) c.then-times-count.either in
    let h = read-short a.image.now a.key.now a.time a.times.now a.values.now c.in_ok-entry.entry c.in_ok-count.count _ _ (block at.In_ok-count) short in
    record { answer = h.0; times = h.1.0; values = h.1.1 }

pub returns : goal.returns
returns c =
    let a = c.args in
    let b = block (goal.at.returns c).In_ok-count in
    let h = read-laid a.image.now a.key.now a.time a.times.now a.values.now c.in_ok-entry.entry c.in_ok-count.count _ _ b c.if-times-count.false c.if-values-count.false in
    record { answer = h.0; times = rw c.copy_from_slice.ensures.after h.1.0; values = rw c.put_signed.ensures h.1.1 }
