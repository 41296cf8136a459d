-- `read` meets its contract: the checksum is that of the bytes after it, the body is read, and the first and the last cell are the first and the last time.
use Rattle.std.specs.Prelude.{Err}
use Rattle.std.proofs.Common.{rules, arith, ◌≡◌, ℕ, ◌+◌, ◌-◌, ◌≤◌, ℤ, Bool, ◌&&◌, List, length, take, drop, get_or, pos, map, sym, ap, ◌∙◌, length-append, length-drop}
use lib.ListN.{length-map}
use lib.Seq.{length-take-le, get_or-take}
use Rattle.format.specs.declared.Entry.{Entry}
use Rattle.format.specs.declared.Refusal.TheVariants.{Checksum, TimesDiffer}
use Rattle.format.specs.Bytes.{big_endian}
use Rattle.format.specs.Crc32.{crc32}
use Rattle.format.specs.Refusals.{Outcome}
use Rattle.format.specs.Signed.{same_time}
use Rattle.format.specs.Meaning.{Point}
use Rattle.format.specs.Block.{read_body, first_time, last_time}
use Rattle.format.proofs.Parts.{part-rest}
use Rattle.format.proofs.Cells.{first_cell, last-cell}
use Rattle.block.specs.Parts.{ends_match}
use Rattle.block.proofs.Sections.{Few}
use Rattle.block.proofs.Bodies.{body-few, block-checksum, block-body, block-differ, block-points}
use Rattle.block.proofs.Answers.{refused-answer, points-answer, PointsAre, answer-points, answer-refused}
use Rattle.block.proofs.read.Goals as goal
use Rattle.block.proofs.read.Goals.{After-read_body, In_ok-n, After-ends_match}

pub returns-then-read_u32-checksum : goal.returns-then-read_u32-checksum
returns-then-read_u32-checksum c =
    let a = c.args in
    let h = refused-answer _ _ _ _ Checksum a.entry.offset.0
    (block-checksum a.entry a.block.now
    (λ e. c.if-read_u32-checksum.true (c.read_u32.ensures ∙ e ∙ sym (c.checksum.ensures ∙ ap crc32 (part-rest a.block.now 4))))) in
    record { answer = h.0; cells = h.1 }

-- the body is read
abbrev body : Entry → List ℕ → Outcome (List Point)
body entry block = read_body entry.kind (entry.offset.0 + 4) (drop 4 block)

sum : (c : After-read_body) → big_endian (take 4 c.args.block.now) ≡ crc32 (drop 4 c.args.block.now)
sum c = sym c.read_u32.ensures ∙ c.if-read_u32-checksum.false ∙ c.checksum.ensures ∙ ap crc32 (part-rest c.args.block.now 4)

pub returns-in_err-n : goal.returns-in_err-n
returns-in_err-n c =
    let a = c.args in
    let fault = c.in_err-n.field-0.0 in
    let told : c.from_residual.result ≡ Err fault = search rules in
    let refusal = answer-refused fault (body a.entry a.block.now) (sym c.in_err-n.was ∙ c.read_body.ensures.answer) in
    let here = refused-answer _ _ _ _ fault.refusal fault.place.0 (block-body a.entry a.block.now (sum (goal.at.returns-in_err-n c).After-read_body) fault.refusal fault.place.0 refusal) in
    rw told (record { answer = here.0; cells = here.1 })

-- its points, n of them, and the cells that hold them
module _ (c : In_ok-n) where
  are : PointsAre c.args.times.now c.read_body.new.times c.args.values.now c.read_body.new.values c.in_ok-n.n (body c.args.entry c.args.block.now)
  are = answer-points _ _ _ _ c.in_ok-n.n (body c.args.entry c.args.block.now) (sym c.in_ok-n.was ∙ c.read_body.ensures.answer) c.read_body.ensures.cells

  counted : Few (length are.points)
  counted = body-few c.args.entry.kind (c.args.entry.offset.0 + 4) (drop 4 c.args.block.now) are.points are.read

  few : c.in_ok-n.n ≤ 1000
  few = omega (arith, counted.few, are.count)

  some : 1 ≤ c.in_ok-n.n
  some = omega (arith, counted.some, are.count)

  -- the columns are as long as before
  within : c.in_ok-n.n ≤ length c.read_body.new.times
  within =
      let times = map (λ p. p.time) are.points in
      let many : length times ≡ length are.points = length-map are.points (λ p. p.time) in
      omega (arith, few, many, are.count, ap length are.times, length-append times (drop (length times) c.args.times.now), length-drop (length times) c.args.times.now)

pub ends_match-requires : goal.ends_match-requires
ends_match-requires c =
    let k = (goal.at.ends_match-requires c).In_ok-n in
    rw (length-take-le c.in_ok-n.n c.read_body.new.times (within k)) (some k)

-- the first and the last of the first n times
ends : (n : ℕ) (times : List ℤ) (entry : Entry) → 1 ≤ n → n ≤ length times
    → ends_match (take n times) entry ≡ (same_time (get_or times 0 (pos 0)) entry.min && same_time (get_or times (n - 1) (pos 0)) entry.max)
ends n times entry h k =
    rw (length-take-le n times k, get_or-take n times 0 (pos 0) (omega arith), get_or-take n times (n - 1) (pos 0) (omega arith))

-- the test of the first and the last time
tested : (c : After-ends_match) (p : PointsAre c.args.times.now c.read_body.new.times c.args.values.now c.read_body.new.values c.in_ok-n.n (body c.args.entry c.args.block.now))
    → c.in_ok-n.n ≤ length c.read_body.new.times → Few (length p.points) → (match : Bool) → c.ends_match.result ≡ match
    → same_time (first_time p.points) c.args.entry.min && same_time (last_time p.points) c.args.entry.max ≡ match
tested c p inside count match e =
    let times = c.read_body.new.times in
    let first = first_cell _ times p.points p.times count.some in
    let last = last-cell _ times p.points p.times count.some c.in_ok-n.n p.count in
    rw (← first, ← last) (sym (ends c.in_ok-n.n times c.args.entry (omega (arith, count.some, p.count)) inside) ∙ sym c.ends_match.ensures ∙ e)

pub returns-then-not-ends_match : goal.returns-then-not-ends_match
returns-then-not-ends_match c =
    let a = c.args in
    let at = goal.at.returns-then-not-ends_match c in
    let k = at.In_ok-n in
    let h = refused-answer _ _ _ _ TimesDiffer a.entry.offset.0
    (block-differ a.entry a.block.now (sum at.After-read_body) (are k).points (are k).read (tested at.After-ends_match (are k) (within k) (counted k) _ c.if-not-ends_match.true)) in
    record { answer = h.0; cells = h.1 }

pub returns : goal.returns
returns c =
    let a = c.args in
    let at = goal.at.returns c in
    let k = at.In_ok-n in
    let h = points-answer _ _ _ _ c.in_ok-n.n (are k).points
    (block-points a.entry a.block.now (sum at.After-read_body) (are k).points (are k).read (tested at.After-ends_match (are k) (within k) (counted k) _ c.if-not-ends_match.false))
    (are k).count (are k).times (are k).values in
    record { answer = h.0; cells = h.1 }
