-- `integers::read_raw` meets its contract: its test is that of the form.
use Rattle.std.proofs.Common.{◌∙◌, sym, ap, length, drop}
use Rattle.format.specs.Refusals.{ok}
use Rattle.numbers.proofs.Cells.{words_of-length}
use Rattle.integers.proofs.Reading.{refused-answer, laid-answer, raw-other, raw-all}
use Rattle.integers.proofs.read_raw.Goals as goal

pub returns-then-section-values : goal.returns-then-section-values
returns-then-section-values c =
    let a = c.args in
    let r = refused-answer a.values.now a.values.now 0 (raw-other (length a.values.now) a.section.now c.if-section-values.true) in
    record { answer = r.0; values = r.1 }

pub returns : goal.returns
returns c =
    let a = c.args in
    let n = length a.values.now in
    let r = laid-answer a.values.now _ (raw-all n a.section.now c.if-section-values.false ∙ ap ok (sym c.read_words.ensures))
    (ap length c.read_words.ensures ∙ words_of-length n (drop 1 a.section.now)) in
    record { answer = r.0; values = r.1 }
