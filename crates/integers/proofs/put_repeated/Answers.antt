-- `integers::put_repeated` meets its contract: the first number, the repeated one and the count are laid one after the other.
use Rattle.std.proofs.Common.{◌≡◌, ◌≤◌, ◌-◌, ℕ, List, ◌∷◌, ◌++◌, length, get_or, sym, ap, ◌∙◌, arith, append_assoc, length-append}
use Rattle.format.specs.Bytes.{big_bytes, splice}
use Rattle.format.specs.Varint.{varint}
use Rattle.format.proofs.Splices.{laid-two}
use Rattle.numbers.proofs.BigEndian.{big_bytes-length}
use Rattle.integers.proofs.Writing.{repeating-least, section-repeated, repeated-length}
use Rattle.integers.proofs.put_repeated.Goals as goal

pub put_first-number-requires : goal.put_first-number-requires
put_first-number-requires c =
    let s = c.args.stored.now in
    let least : 3 ≤ length s = repeating-least s c.requires.same in
    omega (arith, repeated-length s (omega arith) c.requires.same, c.requires.room)

pub put_varint-count-requires : goal.put_varint-count-requires
put_varint-count-requires c =
    let s = c.args.stored.now in
    let least : 3 ≤ length s = repeating-least s c.requires.same in
    omega (arith, c.put_first-number.ensures.next, c.put_first-number.auto, repeated-length s (omega arith) c.requires.same, c.requires.room)

pub put_varint-requires : goal.put_varint-requires
put_varint-requires c =
    let s = c.args.stored.now in
    let least : 3 ≤ length s = repeating-least s c.requires.same in
    omega (arith, c.put_varint-count.ensures.next, c.put_varint-count.auto, c.put_first-number.ensures.next, c.put_first-number.auto, repeated-length s (omega arith) c.requires.same, c.requires.room)

pub returns : goal.returns
returns c =
    let a = c.args in
    let s = a.stored.now in
    let out = a.out.now in
    let least : 3 ≤ length s = repeating-least s c.requires.same in
    let some : 1 ≤ length s = omega arith in
    let head : List ℕ = 0x20 ∷ big_bytes 8 (get_or s 0 0) in
    let repeated = varint (get_or s 1 0) in
    let times = varint (length s - 1) in
    let nine : length head ≡ 9 = omega (arith, big_bytes-length 8 (get_or s 0 0)) in
    let inside : a.at ≤ length out = omega (arith, c.requires.room) in
    let two =
    laid-two a.at _ head repeated out c.put_first-number.new.out c.put_varint-count.new.out inside
    (omega (arith, c.put_first-number.ensures.next)) c.put_first-number.ensures.laid c.put_varint-count.ensures.laid in record {
      next = omega (arith, c.put_varint.ensures.next, c.put_varint-count.ensures.next, c.put_first-number.ensures.next, repeated-length s some c.requires.same);
      laid = laid-two a.at _ (head ++ repeated) times out c.put_varint-count.new.out c.put_varint.new.out inside
          (omega (arith, c.put_varint-count.ensures.next, c.put_first-number.ensures.next, length-append head repeated)) two c.put_varint.ensures.laid
          ∙ ap (λ (bs : List ℕ). splice a.at bs out) (append_assoc head repeated times ∙ sym (section-repeated s some c.requires.same));
    }
