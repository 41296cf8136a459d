-- `integers::find_repeated` meets its contract: its tests are those of the form, in their order.
use Rattle.std.proofs.Common.{rules, Err, ◌≡◌, sym, ◌∙◌, ℕ, ◌≤◌, List, length}
use Rattle.format.specs.Bytes.{AllBytes}
use Rattle.numbers.specs.VarintAt.{varint_at, number}
use Rattle.numbers.proofs.VarintPlaces.{varint_at-number}
use Rattle.integers.proofs.Repeating.{Stated, repeated-short, repeated-broken, repeated-broken-count, repeated-all, repeated-none}
use Rattle.integers.proofs.find_repeated.Goals as goal

module _ (s : List ℕ) (bytes : AllBytes s) (long : 9 ≤ length s) (value next : ℕ) (first : varint_at s 9 ≡ number value next) where
  number-inside : next ≤ length s
  number-inside = (varint_at-number s 9 long value next bytes first).1

  stated : (times end : ℕ) → varint_at s next ≡ number times end → Stated s value times end
  stated times end second =
      record {
        next = next;
        long = long;
        first = first;
        inside = number-inside;
        second = second;
        within = (varint_at-number s next number-inside times end bytes second).1;
      }

pub returns-then-section-lt-FIRST_END : goal.returns-then-section-lt-FIRST_END
returns-then-section-lt-FIRST_END c = repeated-short c.args.n c.args.section.now c.if-section-lt-FIRST_END.true

pub returns-in_err-number : goal.returns-in_err-number
returns-in_err-number c =
    let r : c.from_residual.result ≡ Err c.in_err-number.field-0.0 = search rules in
    rw r (repeated-broken c.args.n c.args.section.now c.if-section-lt-FIRST_END.false _ (sym c.in_err-number.ensures))

pub read_varint-requires-2 : goal.read_varint-requires-2
read_varint-requires-2 c =
    number-inside c.args.section.now (λ i. (c.type_inv.section i).fits) c.if-section-lt-FIRST_END.false _ _ (sym c.in_ok-number.ensures)

pub returns-in_err-times : goal.returns-in_err-times
returns-in_err-times c =
    let s = c.args.section.now in
    let long = c.if-section-lt-FIRST_END.false in
    let first = sym c.in_ok-number.ensures in
    let r : c.from_residual-in_err-times.result ≡ Err c.in_err-times.field-0.0 = search rules in
    rw r
    (repeated-broken-count c.args.n s long _ _ first (number-inside s (λ i. (c.type_inv.section i).fits) long _ _ first) _
    (sym c.in_err-times.ensures))

pub returns-then-not-count_fits : goal.returns-then-not-count_fits
returns-then-not-count_fits c =
    let s = c.args.section.now in
    let state = stated s (λ i. (c.type_inv.section i).fits) c.if-section-lt-FIRST_END.false _ _ (sym c.in_ok-number.ensures) _ _ (sym c.in_ok-times.ensures) in
    repeated-none c.args.n s _ _ _ state (sym c.count_fits.ensures ∙ c.if-not-count_fits.true)

pub returns : goal.returns
returns c =
    let s = c.args.section.now in
    let state = stated s (λ i. (c.type_inv.section i).fits) c.if-section-lt-FIRST_END.false _ _ (sym c.in_ok-number.ensures) _ _ (sym c.in_ok-times.ensures) in
    repeated-all c.args.n s _ _ _ state (sym c.count_fits.ensures ∙ c.if-not-count_fits.false)
