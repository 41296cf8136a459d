-- `integers::read` meets its contract: the first byte's tests, the form's stored numbers, and their values.
use Rattle.std.proofs.Common.{rules, Err, ◌≡◌, ◌/◌, length, drop, get_or, arith}
use borrow.Author.Tests.{true-eqb, false-eqb}
use Rattle.format.specs.Form.{form_of}
use Rattle.format.specs.Integers.{read_integers}
use Rattle.integers.specs.Section.{stored_of, values_of}
use Rattle.integers.proofs.Reading.{refused-answer, values-refused, values-laid, read_none, read_head, read-form, stored-count}
use Rattle.integers.proofs.read.Goals as goal

pub returns-then-is_empty : goal.returns-then-is_empty
returns-then-is_empty c =
    let a = c.args in
    let r = refused-answer a.values.now a.values.now 0 (read_none (length a.values.now) a.section.now (true-eqb _ _ c.if-is_empty.ensures)) in
    record { answer = r.0; values = r.1 }

pub returns-then-section-ne0 : goal.returns-then-section-ne0
returns-then-section-ne0 c =
    let a = c.args in
    let some : length a.section.now ≡ 0 → ⊥ = false-eqb _ _ c.if-is_empty.ensures in
    let r = refused-answer a.values.now a.values.now 0 (read_head (length a.values.now) a.section.now (omega arith) c.if-section-ne0.true) in
    record { answer = r.0; values = r.1 }

pub returns-then-form-eq-REPEATED : goal.returns-then-form-eq-REPEATED
returns-then-form-eq-REPEATED c =
    let a = c.args in
    let some : length a.section.now ≡ 0 → ⊥ = false-eqb _ _ c.if-is_empty.ensures in
    let form = read-form (length a.values.now) a.section.now (omega arith) c.if-section-ne0.false in
    let two : read_integers (length a.values.now) 0 a.section.now ≡ values_of (stored_of (form_of 2) (length a.values.now) (drop 1 a.section.now)) = rw c.if-form-eq-REPEATED.true at form in
    rw two c.read_repeated.ensures

pub returns-in_err-read_stored : goal.returns-in_err-read_stored
returns-in_err-read_stored c =
    let a = c.args in
    let s = a.section.now in
    let n = length a.values.now in
    let some : length s ≡ 0 → ⊥ = false-eqb _ _ c.if-is_empty.ensures in
    let e = read-form n s (omega arith) c.if-section-ne0.false in
    let r : c.from_residual.result ≡ Err c.in_err-read_stored.field-0.0 = search rules in
    let v = values-refused (stored_of (form_of (get_or s 0 0 / 16)) n (drop 1 s)) _ a.values.now _ c.in_err-read_stored.ensures.answer in
    rw (e, r) (record { answer = v.0; values = v.1 })

pub returns : goal.returns
returns c =
    let a = c.args in
    let s = a.section.now in
    let n = length a.values.now in
    let some : length s ≡ 0 → ⊥ = false-eqb _ _ c.if-is_empty.ensures in
    let form = form_of (get_or s 0 0 / 16) in
    let r = values-laid (stored_of form n (drop 1 s)) a.values.now _ _ (stored-count n form (drop 1 s))
    c.in_ok-read_stored.ensures.answer c.in_ok-read_stored.ensures.values c.add_up.ensures in
    rw (read-form n s (omega arith) c.if-section-ne0.false) (record { answer = r.0; values = r.1 })
