-- `numbers::read_more` meets its contract.
use Rattle.std.proofs.Common.{◌≡◌, ℕ, ◌+◌, ◌-◌, ◌*◌, ◌^◌, ◌<◌, ◌≤◌, false, List, get_or, arith}
use Rattle.numbers.specs.VarintAt.{breaks_after, Reading}
use Rattle.numbers.proofs.Scans.{kept-middle, breaks-middle, scan-end, scan-breaks, scan-fits, scan-last, scan-value, scan-scale, scan-more, scan-tenth, scan-no-tenth}
use Rattle.numbers.proofs.read_more.Goals as goal
use Rattle.numbers.proofs.read_more.Goals.{else-tenth-s-via-then-tenth-s+else-s-tenth-eq1, else-tenth-s-via-else-tenth-s}

-- a byte that ends the number
module _ (c : goal.Else-byte-eq0) where
  kept-last : breaks_after (1 + (c.loop-place.place - c.args.from)) (get_or c.args.s.now c.loop-place.place 0) ≡ false
  kept-last = kept-middle (1 + (c.loop-place.place - c.args.from)) _ (omega arith) (λ e. omega arith)

  whole : c.loop-place.value + get_or c.args.s.now c.loop-place.place 0 * c.loop-place.scale < 2 ^ 64
  whole = scan-fits c.loop-place.invariant (omega arith) kept-last (omega arith)

-- a byte that goes on
module _ (c : goal.Else-byte-lt-GROUP) where
  large : 128 ≤ get_or c.args.s.now c.loop-place.place 0
  large = omega arith

  kept : breaks_after (1 + (c.loop-place.place - c.args.from)) (get_or c.args.s.now c.loop-place.place 0) ≡ false
  kept = kept-middle (1 + (c.loop-place.place - c.args.from)) _ (omega arith) (λ e. omega arith)

  byte_fits : get_or c.args.s.now c.loop-place.place 0 < 256
  byte_fits = omega (arith, c.type_inv.s c.loop-place.place)

  grown : c.loop-place.value + (get_or c.args.s.now c.loop-place.place 0 - 128) * c.loop-place.scale < 2 ^ 64
  grown = scan-value c.loop-place.invariant (omega arith) kept large byte_fits

-- after nine groups the next byte is the tenth
tenth : {s : List ℕ} {at value scale groups place end : ℕ} → Reading s at value scale groups place → groups ≡ 9 → place ≡ end → Reading s at value scale 9 end
tenth r nine here = rw (← here, ← nine) r

pub returns-then-byte-eq0 : goal.returns-then-byte-eq0
returns-then-byte-eq0 c = scan-breaks c.loop-place.invariant (omega arith) (breaks-middle (1 + (c.loop-place.place - c.args.from)) _ (omega arith) (omega arith))

pub overflow_mul-result : goal.overflow_mul-result
overflow_mul-result c = rw c.from-byte.ensures (omega (arith, whole c))

pub overflow_add-result : goal.overflow_add-result
overflow_add-result c = rw c.from-byte.ensures (record { fits = whole c })

pub returns-then-byte-lt-GROUP : goal.returns-then-byte-lt-GROUP
returns-then-byte-lt-GROUP c = rw c.from-byte.ensures (scan-last c.loop-place.invariant (omega arith) (kept-last c) (omega arith))

pub overflow_mul-value : goal.overflow_mul-value
overflow_mul-value c = rw c.from-byte.ensures (omega (arith, grown c))

pub overflow_add-value : goal.overflow_add-value
overflow_add-value c = rw c.from-byte.ensures (record { fits = grown c })

pub overflow_mul-scale : goal.overflow_mul-scale
overflow_mul-scale c = record { fits = scan-scale c.loop-place.invariant (omega arith) (kept c) (large c) (byte_fits c) }

pub loop-place-preserved : goal.loop-place-preserved
loop-place-preserved c =
    let one : 1 + (c.loop-place.place - c.args.from) + 1 ≡ 1 + (c.loop-place.place + 1 - c.args.from) = omega arith in
    rw c.from-byte.ensures (rw one at (scan-more c.loop-place.invariant (omega arith) (kept c) (large c) (byte_fits c)))

pub returns-then-s-tenth-eq1 : goal.returns-then-s-tenth-eq1
returns-then-s-tenth-eq1 c = scan-tenth (tenth c.loop-place.invariant (omega arith) (omega arith)) c.if-tenth-s.true c.if-s-tenth-eq1.true

pub returns : goal.returns
returns c =
    elim c.else-tenth-s.branch [
      | else-tenth-s-via-then-tenth-s+else-s-tenth-eq1 w ↦
          scan-no-tenth (tenth c.loop-place.invariant (omega arith) (omega arith)) w.if-tenth-s.true w.if-s-tenth-eq1.false
      | else-tenth-s-via-else-tenth-s w ↦
          let here : c.args.from + c.min.result ≡ c.loop-place.place = omega arith in
          rw here (scan-end c.loop-place.invariant (omega arith))
    ]
