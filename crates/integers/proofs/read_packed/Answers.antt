-- `integers::read_packed` meets its contract: its tests are those of the form, in their order.
use Rattle.std.proofs.Common.{◌≡◌, ◌≤◌, ◌+◌, ◌-◌, ℕ, [], ◌∷◌, List, length, take, drop, set, refl, sym, ap, ap₂, ◌∙◌, arith, length-drop, append-nil}
use borrow.Rule.Slice.PartMut.{put_mid}
use lib.Seq.{take-length, drop-length}
use borrow.Author.Tests.{true-eqb, false-eqb}
use Rattle.format.specs.Bytes.{big_endian, overwrite}
use Rattle.format.specs.Refusals.{ok}
use Rattle.format.proofs.Splices.{overwrite-whole}
use Rattle.format.specs.Simple8b.{words_numbers}
use Rattle.simple8b.proofs.Packing.{after-front}
use Rattle.integers.proofs.Reading.{refused-answer, laid-answer, packed-short, packed-other, packed_all, packed-stop}
use Rattle.integers.proofs.read_packed.Goals as goal

pub returns-then-section-lt-FIRST_END : goal.returns-then-section-lt-FIRST_END
returns-then-section-lt-FIRST_END c =
    let a = c.args in
    let r = refused-answer a.values.now a.values.now 0 (packed-short (length a.values.now) a.section.now c.if-section-lt-FIRST_END.true) in
    record { answer = r.0; values = r.1 }

pub returns-then-is_empty : goal.returns-then-is_empty
returns-then-is_empty c =
    let a = c.args in
    let none : length a.values.now ≡ 0 = true-eqb _ _ c.if-is_empty.ensures in
    let r = refused-answer a.values.now a.values.now 0 (packed-other (length a.values.now) a.section.now c.if-section-lt-FIRST_END.false (λ e. omega arith)) in
    record { answer = r.0; values = r.1 }

-- what the code has after the first, and all of it
module _ (x : ℕ) where
  rest-of : (old : List ℕ) → take (length (set old 0 x) - 1) (drop 1 (set old 0 x)) ≡ drop 1 old
  rest-of [] = refl
  rest-of (y ∷ ys) = let e : length (x ∷ ys) - 1 ≡ length ys = omega arith in rw e (take-length ys)

  whole-of : (old new : List ℕ) → 1 ≤ length old → length new ≡ length old - 1 → put_mid 1 (length (set old 0 x) - 1) (set old 0 x) new ≡ x ∷ new
  whole-of [] new some e = absurd (omega arith)
  whole-of (y ∷ ys) new some e = let k : length (x ∷ ys) - 1 ≡ length ys = omega arith in rw (k, drop-length ys, append-nil new)

pub returns-in_default : goal.returns-in_default
returns-in_default c =
    let a = c.args in
    let n = length a.values.now in
    let u = rw (after-front, rest-of c.read_u64.result a.values.now) at c.in_default.ensures in
    let r = refused-answer a.values.now _ 0 (packed-stop n a.section.now c.if-section-lt-FIRST_END.false _ (drop 1 a.values.now) _ (omega (arith, length-drop 1 a.values.now)) u) in
    record { answer = r.0; values = r.1 }

pub returns-then-count-rest : goal.returns-then-count-rest
returns-then-count-rest c =
    let a = c.args in
    let n = length a.values.now in
    let some : n ≡ 0 → ⊥ = false-eqb _ _ c.if-is_empty.ensures in
    let u = rw (after-front, rest-of c.read_u64.result a.values.now) at c.in-Ok.ensures in
    let k : length c.unpack.new.numbers ≡ n - 1 = c.unpack.auto.numbers ∙ ap length (rest-of c.read_u64.result a.values.now) ∙ length-drop 1 a.values.now in
    let r = refused-answer a.values.now _ 0 (packed-other n a.section.now c.if-section-lt-FIRST_END.false (λ e. c.if-count-rest.true (omega (arith, u.1)))) in
    record { answer = r.0; values = r.1 }

pub returns : goal.returns
returns c =
    let a = c.args in
    let n = length a.values.now in
    let first = big_endian (take 8 (drop 1 a.section.now)) in
    let rest = words_numbers (drop 9 a.section.now) in
    let some : n ≡ 0 → ⊥ = false-eqb _ _ c.if-is_empty.ensures in
    let u = rw (after-front, rest-of c.read_u64.result a.values.now) at c.in-Ok.ensures in
    let k : length c.unpack.new.numbers ≡ n - 1 = c.unpack.auto.numbers ∙ ap length (rest-of c.read_u64.result a.values.now) ∙ length-drop 1 a.values.now in
    let count : 1 + length rest ≡ n = omega (arith, u.1, c.if-count-rest.false) in
    let whole : overwrite rest (drop 1 a.values.now) ≡ rest = overwrite-whole rest (drop 1 a.values.now) (omega (arith, length-drop 1 a.values.now)) in
    let laid : put_mid 1 (length (set a.values.now 0 c.read_u64.result) - 1) (set a.values.now 0 c.read_u64.result) c.unpack.new.numbers ≡ first ∷ rest =
    whole-of c.read_u64.result a.values.now c.unpack.new.numbers (omega arith) k ∙ ap₂ (λ (x : ℕ) (xs : List ℕ). x ∷ xs) c.read_u64.ensures (u.3 ∙ whole) in
    let r = laid-answer a.values.now _ (packed_all n a.section.now c.if-section-lt-FIRST_END.false u.0 count ∙ ap ok (sym laid)) (ap length laid ∙ omega arith) in
    record { answer = r.0; values = r.1 }
