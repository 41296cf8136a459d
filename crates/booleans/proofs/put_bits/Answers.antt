-- `put_bits` meets its contract: the next byte is that of the next values, up to eight.
use Rattle.std.proofs.Common.{◌≡◌, ℕ, suc, ◌+◌, ◌≤◌, ◌<◌, min, List, [], ◌∷◌, ◌++◌, length, take, drop, set, sym, refl, ap, ◌∙◌, ⊎_elim, arith, length-append, drop_of_length-le}
use lib.Seq.{take_at, drop_at, take_all}
use mathlib.Core.List.{append-nil}
use Rattle.std.specs.Slice.Iter.{chunks_rest}
use Rattle.format.specs.Booleans.{byte_of_bits, bytes_of_bits, bitmap_size}
use Rattle.format.specs.Bytes.{splice}
use Rattle.format.proofs.Cases.{below_or}
use Rattle.format.proofs.Splices.{splice-store, splice-nothing}
use Rattle.format.proofs.AllBelow.{below-drop}
use Rattle.section_laws.specs.Bits.{AllBits}
use Rattle.section_laws.proofs.Bits.{number-take}
use Rattle.booleans.proofs.put_bits.Goals as goal

nothing : (xs : List ℕ) → length xs ≡ 0 → xs ≡ []
nothing [] e = refl
nothing (x ∷ xs) e = absurd (omega arith)

-- the next values x, eight or all, and those left after them
module _ (x left : List ℕ) (count : length x ≡ min 8 (length (x ++ left))) (some : 0 < length (x ++ left)) where
  both : length (x ++ left) ≡ length x + length left
  both = length-append x left

  size-of : bitmap_size (length (x ++ left)) ≡ suc (bitmap_size (length left))
  size-of = omega (arith, both, count, some)

  split : (take 8 (x ++ left) ≡ x) × (drop 8 (x ++ left) ≡ left)
  split =
      ⊎_elim
      (λ (few : length x < 8).
      let none : left ≡ [] = nothing left (omega (arith, both, count)) in
      let size : length (x ++ left) ≤ 8 = omega (arith, both, count) in
      (rw none (rw append-nil (take_all 8 x (omega arith))), rw none (rw append-nil (drop_of_length-le x {i = 8} (omega arith)))))
      (λ (full : 8 ≤ length x).
      let eight : length x ≡ 8 = omega (arith, both, count) in
      (take_at x left 8 eight, drop_at x left 8 eight))
      (below_or (length x) 8)

  next-byte : bytes_of_bits (bitmap_size (length (x ++ left))) (x ++ left) ≡ byte_of_bits 8 x ∷ bytes_of_bits (bitmap_size (length left)) left
  unfolding bytes_of_bits
  next-byte =
      rw (size-of, split.1) (ap (λ (b : ℕ). b ∷ bytes_of_bits (bitmap_size (length left)) left)
      (sym (number-take 8 8 (x ++ left) (omega arith)) ∙ ap (byte_of_bits 8) split.0))

-- the next values are laid as a byte
byte-laid : (rest x left out : List ℕ) (place total byte size : ℕ) (whole : List ℕ) → rest ≡ x ++ left → size ≡ 8 → length x ≡ min size (length rest) → 0 < length rest
    → place < length out → byte ≡ byte_of_bits 8 x → AllBits rest → place + bitmap_size (length rest) ≡ total
    → splice place (bytes_of_bits (bitmap_size (length rest)) rest) out ≡ whole
    → (place + 1 + bitmap_size (length left) ≡ total) × AllBits left × (splice (place + 1) (bytes_of_bits (bitmap_size (length left)) left) (set out place byte) ≡ whole)
byte-laid rest x left out place total byte size whole is eight count some inside b bits ends laid =
    let all : length rest ≡ length (x ++ left) = ap length is in
    let here : length x ≡ min 8 (length (x ++ left)) = rw (← eight, ← all) count in
    let more : 0 < length (x ++ left) = omega arith in
    let next = next-byte x left here more in (
      omega (arith, size-of x left here more),
      rw (split x left here more).1 at (below-drop 2 8 (x ++ left) (rw is at bits)),
      splice-store place byte (bytes_of_bits (bitmap_size (length left)) left) out inside
          ∙ ap (λ (bs : List ℕ). splice place bs out) (rw b (sym next) ∙ sym (ap (λ (l : List ℕ). bytes_of_bits (bitmap_size (length l)) l) is))
          ∙ laid,
    )

pub loop-byte-preserved : goal.loop-byte-preserved
loop-byte-preserved c =
    let l = c.loop-byte in
    let steps = c.in-Some.ensures.steps in
    let h = byte-laid _ c.in-Some.byte.now _ l.out l.place _ c.gather.result _ _ steps.1.0 l.invariant.2 steps.1.1 steps.1.2 (omega arith) c.gather.ensures l.invariant.1 l.invariant.0 l.invariant.3 in
    (h.0, h.1, steps.0 ∙ l.invariant.2, h.2)

pub returns-clause-laid : goal.returns-clause-laid
unfolding bytes_of_bits
returns-clause-laid c =
    let l = c.loop-byte in
    let none : length (chunks_rest l.byte-iterator) ≡ 0 = c.in-None.ensures.steps.1.0 in
    let z : bitmap_size (length (chunks_rest l.byte-iterator)) ≡ 0 = omega arith in
    sym (splice-nothing l.place l.out) ∙ (rw z at l.invariant.3)
