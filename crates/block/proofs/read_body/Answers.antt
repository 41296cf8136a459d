-- `read_body` meets its contract: the kind's byte is the first of the body, and the sections follow it.
use Prim.Native.Nat.{◌+◌, ◌<◌}
use mathlib.Core.Path.{sym, ◌∙◌}
use native.Mathlib.Omega.{arith}
use lib.ListN.{length}
use Rattle.format.specs.declared.Refusal.TheVariants.{BlockHead}
use Rattle.block.proofs.Bodies.{body-none, body-other, body-sections}
use Rattle.block.proofs.Answers.{refused-answer}
use Rattle.block.proofs.read_body.Goals as goal
use Rattle.block.proofs.read_body.Goals.{then-block-eq-CHECKSUM_SIZE-via-then-block-eq-CHECKSUM_SIZE, then-block-eq-CHECKSUM_SIZE-via-else-block-eq-CHECKSUM_SIZE+then-block-byte}

pub returns-then-block-eq-CHECKSUM_SIZE : goal.returns-then-block-eq-CHECKSUM_SIZE
returns-then-block-eq-CHECKSUM_SIZE c =
    let a = c.args in
    let h = refused-answer _ _ _ _ BlockHead (a.offset.0 + 4)
    (elim c.then-block-eq-CHECKSUM_SIZE.branch [
      | then-block-eq-CHECKSUM_SIZE-via-then-block-eq-CHECKSUM_SIZE w ↦ body-none a.kind a.offset.0 a.block.now w.if-block-eq-CHECKSUM_SIZE.true
      | then-block-eq-CHECKSUM_SIZE-via-else-block-eq-CHECKSUM_SIZE+then-block-byte w ↦
          let more : 4 < length a.block.now = omega (arith, w.if-block-eq-CHECKSUM_SIZE.false, c.requires.0) in
          body-other a.kind a.offset.0 a.block.now more (λ e. w.if-block-byte.true (e ∙ sym w.byte.ensures))
    ]) in
    record { answer = h.0; cells = h.1 }

pub returns : goal.returns
returns c =
    let a = c.args in
    let more : 4 < length a.block.now = omega (arith, c.if-block-eq-CHECKSUM_SIZE.false, c.requires.0) in
    let same = body-sections a.kind a.offset.0 a.block.now more (c.if-block-byte.false ∙ c.byte.ensures) in
    rw same (record { answer = c.read_sections.ensures.answer; cells = c.read_sections.ensures.cells })
