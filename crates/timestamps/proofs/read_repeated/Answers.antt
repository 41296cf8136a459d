-- `timestamps::read_repeated` meets its contract: each step's answer says what the reader of format reads.
use Rattle.std.specs.Prelude.{Err}
use borrow.Author.Rules.{rules}
use mathlib.Core.Path.{◌≡◌, sym, ap, ◌∙◌}
use mathlib.Core.List.{List}
use Prim.Native.Nat.{ℕ, ◌-◌, ◌*◌, ◌≤◌}
use native.Mathlib.Nat.{one-le-pow}
use native.Mathlib.Omega.{arith}
use lib.Dec.{lit<}
use lib.ListN.{length, replicate}
use Rattle.format.specs.Bytes.{AllBytes}
use Rattle.format.specs.declared.Refusal.TheVariants.{Timestamps}
use Rattle.format.specs.Refusals.{Outcome, ◌>>=◌}
use Rattle.format.specs.Signed.{signed}
use Rattle.format.specs.Timestamps.{times_of}
use Rattle.numbers.specs.VarintAt.{varint_at, number}
use Rattle.numbers.proofs.VarintPlaces.{varint_at-number}
use Rattle.timestamps.proofs.Refusing.{answer-refused}
use Rattle.timestamps.proofs.Repeats.{first-broken, first-nothing, second-broken, second-few, second-many, second_more, found-repeated}
use Rattle.timestamps.proofs.read_repeated.Goals as goal

module _ (s : List ℕ) (long : 9 ≤ length s) (bytes : AllBytes s) (value next : ℕ) (first : varint_at s 9 ≡ number value next) where
  -- the first varint ends within the section
  first-within : next ≤ length s
  first-within = (varint_at-number s 9 long value next bytes first).1

  -- the second too
  second-within : (n end : ℕ) → varint_at s next ≡ number n end → end ≤ length s
  second-within n end second = (varint_at-number s next first-within n end bytes second).1

pub returns-in_err-difference : goal.returns-in_err-difference
returns-in_err-difference c =
    let a = c.args in
    let told : c.from_residual.result ≡ Err c.in_err-difference.field-0.0 = search rules in
    let r = answer-refused _ Timestamps c.in_err-difference.field-0.0.place _ _
    (first-broken a.e a.section.now c.requires.0 c.in_err-difference.field-0.0.place (sym c.read_varint.ensures ∙ c.in_err-difference.was) (signed a.first)) in
    rw told (record { answer = r.0; cells = r.1 })

pub returns-then-difference-eq0 : goal.returns-then-difference-eq0
returns-then-difference-eq0 c =
    let a = c.args in
    let r = answer-refused _ Timestamps 0 _ _
    (first-nothing a.e a.section.now c.requires.0 _ _ (sym c.read_varint.ensures ∙ c.in_ok-difference.was) c.if-difference-eq0.true (signed a.first)) in
    record { answer = r.0; cells = r.1 }

pub read_varint-requires-2 : goal.read_varint-requires-2
read_varint-requires-2 c =
    let d = c.in_ok-difference.difference in
    first-within c.args.section.now c.requires.0 (λ i. (c.type_inv.section i).fits) d.value d.next (sym c.read_varint.ensures ∙ c.in_ok-difference.was)

pub returns-in_err-count : goal.returns-in_err-count
returns-in_err-count c =
    let a = c.args in
    let s = a.section.now in
    let d = c.in_ok-difference.difference in
    let first = sym c.read_varint.ensures ∙ c.in_ok-difference.was in
    let told : c.from_residual-in_err-count.result ≡ Err c.in_err-count.field-0.0 = search rules in
    let r = answer-refused _ Timestamps c.in_err-count.field-0.0.place _ _
    (second-broken a.e s c.requires.0 d.value d.next first (omega (arith, c.if-difference-eq0.false)) (first-within s c.requires.0 (λ i. (c.type_inv.section i).fits) d.value d.next first) c.in_err-count.field-0.0.place
    (sym c.read_varint-2.ensures ∙ c.in_err-count.was) (signed a.first)) in
    rw told (record { answer = r.0; cells = r.1 })

pub returns-then-count-lt2 : goal.returns-then-count-lt2
returns-then-count-lt2 c =
    let a = c.args in
    let s = a.section.now in
    let d = c.in_ok-difference.difference in
    let first = sym c.read_varint.ensures ∙ c.in_ok-difference.was in
    let r = answer-refused _ Timestamps 0 _ _
    (second-few a.e s c.requires.0 d.value d.next first (omega (arith, c.if-difference-eq0.false)) (first-within s c.requires.0 (λ i. (c.type_inv.section i).fits) d.value d.next first) _ _ (sym c.read_varint-2.ensures ∙ c.in_ok-count.was) c.if-count-lt2.true (signed a.first)) in
    record { answer = r.0; cells = r.1 }

pub returns-then-count-gt-TIMES_MOST : goal.returns-then-count-gt-TIMES_MOST
returns-then-count-gt-TIMES_MOST c =
    let a = c.args in
    let s = a.section.now in
    let d = c.in_ok-difference.difference in
    let first = sym c.read_varint.ensures ∙ c.in_ok-difference.was in
    let r = answer-refused _ Timestamps 0 _ _
    (second-many a.e s c.requires.0 d.value d.next first (omega (arith, c.if-difference-eq0.false)) (first-within s c.requires.0 (λ i. (c.type_inv.section i).fits) d.value d.next first) _ _ (sym c.read_varint-2.ensures ∙ c.in_ok-count.was) c.if-count-gt-TIMES_MOST.true (signed a.first)) in
    record { answer = r.0; cells = r.1 }

pub returns-then-count-section : goal.returns-then-count-section
returns-then-count-section c =
    let a = c.args in
    let s = a.section.now in
    let d = c.in_ok-difference.difference in
    let k = c.in_ok-count.count in
    let first = sym c.read_varint.ensures ∙ c.in_ok-difference.was in
    let second = sym c.read_varint-2.ensures ∙ c.in_ok-count.was in
    let end = second-within s c.requires.0 (λ i. (c.type_inv.section i).fits) d.value d.next first k.value k.next second in
    let r = answer-refused _ Timestamps 0 _ _
    (second_more a.e s c.requires.0 d.value d.next first (omega (arith, c.if-difference-eq0.false)) (first-within s c.requires.0 (λ i. (c.type_inv.section i).fits) d.value d.next first) _ _ second c.if-count-lt2.false c.if-count-gt-TIMES_MOST.false
    (omega (arith, end, c.if-count-section.true)) (signed a.first)) in
    record { answer = r.0; cells = r.1 }

pub repeat_difference-requires : goal.repeat_difference-requires
repeat_difference-requires c = (
  omega (arith, c.if-difference-eq0.false),
  omega (arith, c.if-count-lt2.false),
  omega (arith, c.if-count-gt-TIMES_MOST.false),
  rw c.power_of_ten-scale.ensures (one-le-pow _ 10 (lit< tt)),
  omega (arith, c.if-count-gt-TIMES_MOST.false, c.requires.2),
)

pub returns : goal.returns
returns c =
    let a = c.args in
    let s = a.section.now in
    let t = signed a.first in
    let d = c.in_ok-difference.difference in
    let k = c.in_ok-count.count in
    let first = sym c.read_varint.ensures ∙ c.in_ok-difference.was in
    let found = found-repeated a.e s c.requires.0 d.value d.next first (omega (arith, c.if-difference-eq0.false)) (first-within s c.requires.0 (λ i. (c.type_inv.section i).fits) d.value d.next first) _ _ (sym c.read_varint-2.ensures ∙ c.in_ok-count.was)
    c.if-count-lt2.false c.if-count-gt-TIMES_MOST.false (omega (arith, c.if-count-section.false)) in
    let same = ap (λ (f : Outcome (List ℕ)). f >>= times_of 0 t) found
    ∙ ap (λ (x : ℕ). times_of 0 t (replicate (k.value - 1) (d.value * x))) (sym c.power_of_ten-scale.ensures) in
    rw same c.repeat_difference.ensures
