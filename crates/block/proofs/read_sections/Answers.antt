-- `read_sections` meets its contract: each test of T is the definition's own, in its order, and the two sections follow.
use Rattle.std.specs.Prelude.{Result, Ok, Err, IfErr}
use Rattle.std.proofs.Common.{rules, arith, ◌≡◌, ℕ, ◌+◌, ◌≤◌, ◌<◌, ◌^◌, refl, List, length, sym, ◌∙◌}
use Rattle.format.specs.declared.Refusal.TheVariants.{BlockHead}
use Rattle.numbers.specs.VarintAt.{varint_at, number, broken}
use Rattle.numbers.proofs.VarintPlaces.{varint_at-number, varint_at-broken}
use Rattle.block.proofs.Bodies.{sections-broken, sections-empty, sections-long, sections-parts}
use Rattle.block.proofs.Answers.{refused-answer}
use Rattle.block.proofs.Sections.{placed-ok}
use Rattle.format.specs.declared.Broken.{Broken}
use Rattle.format.specs.declared.Fault.{Fault}
use Rattle.format.specs.Limits.{image_most}
use Rattle.format.proofs.Told.{ok-err}
use Rattle.numbers.specs.declared.Varint.{Varint}
use Rattle.block.specs.Answers.{placed}
use Rattle.block.proofs.read_sections.Goals as goal
use Rattle.block.proofs.read_sections.Goals.{In_ok-t, then-t-lt1-via-then-t-lt1, then-t-lt1-via-else-t-lt1+then-block-next}

-- what `placed` asks of T
asks : (s : List ℕ) (offset : ℕ) (x : Result Varint Broken) → 5 ≤ length s → offset + length s ≤ image_most → x ≡ varint_at s 5
    → IfErr x (λ broken. broken.place + offset < 2 ^ 64)
asks s offset (Ok v) long most e = tt
asks s offset (Err b) long most e = omega (arith, (varint_at-broken s 5 long b.place (sym e)).1, most)

pub placed-requires : goal.placed-requires
placed-requires c = asks c.args.block.now c.args.offset.0 c.read_varint-head.result c.requires.0 c.requires.1 c.read_varint-head.ensures

-- T is broken: the fault of the image
head-fault : (offset : ℕ) (x : Result Varint Broken) (fault : Fault) → placed BlockHead offset x ≡ Err fault
    → (place : ℕ) × (x ≡ broken place) × (fault ≡ record { refusal = BlockHead; place = record { 0 = place + offset } })
head-fault offset (Ok v) fault e = ok-err e
head-fault offset (Err b) fault e = (b.place, refl, cc)

pub returns-in_err-t : goal.returns-in_err-t
returns-in_err-t c =
    let a = c.args in
    let told : c.from_residual.result ≡ Err c.in_err-t.field-0.0 = search rules in
    let b = head-fault a.offset.0 c.read_varint-head.result c.in_err-t.field-0.0 (sym c.placed.ensures ∙ c.in_err-t.was) in
    let h = refused-answer _ _ _ _ BlockHead (b.0 + a.offset.0) (sections-broken a.kind a.offset.0 a.block.now c.requires.0 b.0 (sym c.read_varint-head.ensures ∙ b.1)) in
    rw (told, b.2) (record { answer = h.0; cells = h.1 })

-- T is a number
module _ (c : In_ok-t) where
  is : varint_at c.args.block.now 5 ≡ number c.in_ok-t.field-0.value c.in_ok-t.field-0.next
  is = sym c.read_varint-head.ensures ∙ placed-ok BlockHead c.args.offset.0 c.read_varint-head.result c.in_ok-t.field-0 (sym c.placed.ensures ∙ c.in_ok-t.was)

  inside : c.in_ok-t.field-0.next ≤ length c.args.block.now
  inside = (varint_at-number c.args.block.now 5 c.requires.0 c.in_ok-t.field-0.value c.in_ok-t.field-0.next (λ i. (c.type_inv.block i).fits) is).1

pub overflow_sub-block : goal.overflow_sub-block
overflow_sub-block c = inside (goal.at.overflow_sub-block c).In_ok-t

pub returns-then-t-lt1 : goal.returns-then-t-lt1
returns-then-t-lt1 c =
    let a = c.args in
    let v = c.in_ok-t.field-0 in
    let n = is (goal.at.returns-then-t-lt1 c).In_ok-t in
    let h = refused-answer _ _ _ _ BlockHead (5 + a.offset.0)
    (elim c.then-t-lt1.branch [
      | then-t-lt1-via-then-t-lt1 w ↦ sections-empty a.kind a.offset.0 a.block.now c.requires.0 v.value v.next n w.if-t-lt1.true
      | then-t-lt1-via-else-t-lt1+then-block-next w ↦ sections-long a.kind a.offset.0 a.block.now c.requires.0 v.value v.next n w.if-t-lt1.false w.if-block-next.true
    ]) in
    record { answer = h.0; cells = h.1 }

pub returns : goal.returns
returns c =
    let a = c.args in
    let v = c.in_ok-t.field-0 in
    let n = is (goal.at.returns c).In_ok-t in
    let same = sections-parts a.kind a.offset.0 a.block.now c.requires.0 v.value v.next n c.if-t-lt1.false c.if-block-next.false in
    rw same (record { answer = c.read_parts.ensures.answer; cells = c.read_parts.ensures.cells })
