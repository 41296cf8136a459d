-- `integers::read_stored` meets its contract: the form's reader answers.
use Rattle.std.proofs.Common.{◌≡◌, length, drop, arith}
use borrow.Author.Tests.{ne_eqb}
use Rattle.integers.proofs.Reading.{refused-answer, stored-unknown}
use Rattle.integers.proofs.read_stored.Goals as goal

pub returns-in_default : goal.returns-in_default
returns-in_default c =
    let a = c.args in
    let n0 : a.form ≡ 0 → ⊥ = λ e. omega arith in
    let n1 : a.form ≡ 1 → ⊥ = λ e. omega arith in
    let r = refused-answer a.values.now a.values.now 0 (stored-unknown (length a.values.now) (drop 1 a.section.now)) in
    rw (ne_eqb _ 0 n0, ne_eqb _ 1 n1, ne_eqb _ 2 c.requires.1) (record { answer = r.0; values = r.1 })
