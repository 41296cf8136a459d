-- `bench_booleans_bytes` meets its contract: it answers by what its reader answers.
use native.Mathlib.Omega.{arith}
use Rattle.bench_booleans.proofs.Rows.{row-short, row_read}
use Rattle.bench_booleans.proofs.bench_booleans_bytes.Goals as goal

pub returns-then-values-n : goal.returns-then-values-n
returns-then-values-n c =
    let a = c.args in
    let short = row-short a.n a.section.now a.values.now c.if-values-n.true in
    record { answer = short.0; values = short.1 }

pub returns : goal.returns
returns c =
    let a = c.args in
    let read = c.read in
    let row = row_read a.n a.section.now a.values.now (omega arith) c.number_of.result read.result read.new.values c.number_of.ensures
    read.ensures.answer read.ensures.values in
    record { answer = row.0; values = row.1 }
