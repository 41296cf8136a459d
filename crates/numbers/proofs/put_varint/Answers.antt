-- `numbers::put_varint` meets its contract: what is left, laid from the next place on, makes what the whole varint makes from the start.
use Rattle.std.proofs.Common.{◌≡◌, ℕ, ◌+◌, ◌/◌, ◌%◌, ◌<◌, ◌≤◌, List, [], ◌∷◌, length, set, sym, refl, ap, ◌∙◌, arith, length-set}
use Rattle.format.specs.Varint.{varint}
use Rattle.format.specs.Bytes.{splice}
use Rattle.format.proofs.Splices.{splice-set, splice-store}
use Rattle.numbers.proofs.Varints.{varint-last, varint-two, varint-last-two, varint-length-least}
use Rattle.numbers.proofs.put_varint.Goals as goal

-- two bytes stored one after the other
store_two : (place b c : ℕ) (xs out : List ℕ) → place + 2 ≤ length out → splice (place + 2) xs (set (set out place b) (place + 1) c) ≡ splice place (b ∷ c ∷ xs) out
store_two place b c xs out inside =
    let next : place + 2 ≡ place + 1 + 1 = omega arith in
    let there : place + 1 < length (set out place b) = simp length-set (omega arith) in
    let here : place < length out = omega arith in
    rw next (splice-store (place + 1) c xs (set out place b) there ∙ splice-store place b (c ∷ xs) out here)

put_two : (place b c : ℕ) (out : List ℕ) → place + 2 ≤ length out → set (set out place b) (place + 1) c ≡ splice place (b ∷ c ∷ []) out
put_two place b c out inside =
    let there : place + 1 < length (set out place b) = simp length-set (omega arith) in
    let here : place < length out = omega arith in
    splice-set (place + 1) c (set out place b) there ∙ splice-store place b (c ∷ []) out here

pub overflow_cast-out : goal.overflow_cast-out
overflow_cast-out c = omega arith

pub bounds-out-at : goal.bounds-out-at
bounds-out-at c = omega (arith, varint-length-least c.args.n)

pub overflow_add-result : goal.overflow_add-result
overflow_add-result c = omega (arith, varint-length-least c.args.n)

pub shape_of-out-then-n-lt-GROUP : goal.shape_of-out-then-n-lt-GROUP
shape_of-out-then-n-lt-GROUP c = simp length-set refl

pub returns-then-n-lt-GROUP : goal.returns-then-n-lt-GROUP
returns-then-n-lt-GROUP c =
    let a = c.args in
    let inside : a.at < length a.out.now = omega (arith, varint-length-least a.n) in
    let bytes = varint-last a.n (omega arith) in
    record { next = omega (arith, ap length bytes); laid = splice-set a.at a.n a.out.now inside ∙ ap (λ (bs : List ℕ). splice a.at bs a.out.now) (sym bytes) }

pub loop-left-init : goal.loop-left-init
loop-left-init c = (omega arith, refl, refl, refl)

-- two bytes more
module _ (c : goal.In-loop-left) where
  abbrev left : ℕ
  left = c.loop-left.left

  bytes : varint left ≡ (left % 128 + 128) ∷ (left / 128 % 128 + 128) ∷ varint (left / 16_384)
  bytes = varint-two left (omega arith) (omega arith)

  room : c.loop-left.place + 2 ≤ length c.loop-left.out
  room = omega (arith, ap length bytes, c.requires)

pub overflow_add-out : goal.overflow_add-out
overflow_add-out c = omega arith

pub overflow_cast-out-in-loop-left : goal.overflow_cast-out-in-loop-left
overflow_cast-out-in-loop-left c = omega arith

pub bounds-out-place : goal.bounds-out-place
bounds-out-place c = omega (arith, room c)

pub overflow_add-out-in-loop-left : goal.overflow_add-out-in-loop-left
overflow_add-out-in-loop-left c = omega arith

pub overflow_cast-out-in-loop-left-2 : goal.overflow_cast-out-in-loop-left-2
overflow_cast-out-in-loop-left-2 c = omega arith

pub overflow_add-out-in-loop-left-2 : goal.overflow_add-out-in-loop-left-2
overflow_add-out-in-loop-left-2 c = omega (arith, room c)

pub bounds-out-place-in-loop-left : goal.bounds-out-place-in-loop-left
bounds-out-place-in-loop-left c = simp length-set (omega (arith, room c))

pub overflow_add-place : goal.overflow_add-place
overflow_add-place c = omega (arith, room c)

pub loop-left-smaller : goal.loop-left-smaller
loop-left-smaller c = omega arith

pub loop-left-preserved : goal.loop-left-preserved
loop-left-preserved c =
    let l = c.loop-left in (
      omega arith,
      omega (arith, ap length (bytes c)),
      simp length-set l.invariant.2,
      store_two l.place (left c % 128 + 128) (left c / 128 % 128 + 128) (varint (left c / 16_384)) l.out (room c)
          ∙ ap (λ (bs : List ℕ). splice l.place bs l.out) (sym (bytes c))
          ∙ l.invariant.3,
    )

pub overflow_cast-out-then-left-lt-GROUP : goal.overflow_cast-out-then-left-lt-GROUP
overflow_cast-out-then-left-lt-GROUP c = omega arith

pub bounds-out-place-then-left-lt-GROUP : goal.bounds-out-place-then-left-lt-GROUP
bounds-out-place-then-left-lt-GROUP c = omega (arith, varint-length-least c.loop-left.left)

pub overflow_add-result-then-left-lt-GROUP : goal.overflow_add-result-then-left-lt-GROUP
overflow_add-result-then-left-lt-GROUP c = omega (arith, varint-length-least c.loop-left.left)

pub shape_of-out-then-left-lt-GROUP : goal.shape_of-out-then-left-lt-GROUP
shape_of-out-then-left-lt-GROUP c = simp length-set c.loop-left.invariant.2

pub returns-then-left-lt-GROUP : goal.returns-then-left-lt-GROUP
returns-then-left-lt-GROUP c =
    let l = c.loop-left in
    let inside : l.place < length l.out = omega (arith, varint-length-least l.left) in
    let bytes = varint-last l.left (omega arith) in
    record { next = omega (arith, ap length bytes); laid = splice-set l.place l.left l.out inside ∙ ap (λ (bs : List ℕ). splice l.place bs l.out) (sym bytes) ∙ l.invariant.3 }

-- the last two bytes
module _ (c : goal.Else-left-lt-GROUP) where
  abbrev rest : ℕ
  rest = c.loop-left.left

  ends : varint rest ≡ (rest % 128 + 128) ∷ rest / 128 ∷ []
  ends = varint-last-two rest (omega arith) (omega arith)

  end-room : c.loop-left.place + 2 ≤ length c.loop-left.out
  end-room = omega (arith, ap length ends, c.requires)

pub overflow_add-out-2 : goal.overflow_add-out-2
overflow_add-out-2 c = omega arith

pub overflow_cast-out-2 : goal.overflow_cast-out-2
overflow_cast-out-2 c = omega arith

pub bounds-out-place-2 : goal.bounds-out-place-2
bounds-out-place-2 c = omega (arith, end-room c)

pub overflow_cast-out-3 : goal.overflow_cast-out-3
overflow_cast-out-3 c = omega arith

pub overflow_add-out-3 : goal.overflow_add-out-3
overflow_add-out-3 c = omega (arith, end-room c)

pub bounds-out-place-3 : goal.bounds-out-place-3
bounds-out-place-3 c = simp length-set (omega (arith, end-room c))

pub overflow_add-result-2 : goal.overflow_add-result-2
overflow_add-result-2 c = omega (arith, end-room c)

pub shape_of-out : goal.shape_of-out
shape_of-out c = simp length-set c.loop-left.invariant.2

pub returns : goal.returns
returns c =
    let l = c.loop-left in
    record { next = omega (arith, ap length (ends c)); laid = put_two l.place (rest c % 128 + 128) (rest c / 128) l.out (end-room c) ∙ ap (λ (bs : List ℕ). splice l.place bs l.out) (sym (ends c)) ∙ l.invariant.3 }
