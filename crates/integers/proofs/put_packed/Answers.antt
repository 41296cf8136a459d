-- `integers::put_packed` meets its contract: the first number and the packed words are laid one after the other.
use Rattle.std.proofs.Common.{◌≡◌, ℕ, List, ◌∷◌, length, get_or, drop, sym, ap, ◌∙◌, arith}
use Rattle.format.specs.Bytes.{big_bytes, splice}
use Rattle.format.specs.Simple8b.{packed_bytes}
use Rattle.format.proofs.Splices.{laid-two}
use Rattle.numbers.proofs.BigEndian.{big_bytes-length}
use Rattle.simple8b.proofs.Packing.{after-front}
use Rattle.integers.proofs.Writing.{section-packed, packed-length, rest-packs}
use Rattle.integers.proofs.put_packed.Goals as goal

pub put_first-words-requires : goal.put_first-words-requires
put_first-words-requires c = omega (arith, packed-length c.args.stored.now c.requires.some c.requires.form.0 c.requires.form.1, c.requires.room)

pub put_packed-requires : goal.put_packed-requires
put_packed-requires c =
    let s = c.args.stored.now in
    rw after-front (
      rest-packs s c.requires.some c.requires.form.1,
      omega (arith, c.put_first-words.ensures.next, c.put_first-words.auto, packed-length s c.requires.some c.requires.form.0 c.requires.form.1, c.requires.room),
    )

pub returns : goal.returns
returns c =
    let a = c.args in
    let s = a.stored.now in
    let out = a.out.now in
    let head : List ℕ = 0x10 ∷ big_bytes 8 (get_or s 0 0) in
    let nine : length head ≡ 9 = omega (arith, big_bytes-length 8 (get_or s 0 0)) in
    let size = packed-length s c.requires.some c.requires.form.0 c.requires.form.1 in record {
      next = omega (arith, rw after-front at c.put_packed.ensures.next, c.put_first-words.ensures.next, size);
      laid = laid-two a.at _ head (packed_bytes (drop 1 s)) out c.put_first-words.new.out c.put_packed.new.out (omega (arith, c.requires.room))
          (omega (arith, c.put_first-words.ensures.next)) c.put_first-words.ensures.laid (rw after-front at c.put_packed.ensures.laid)
          ∙ ap (λ (bs : List ℕ). splice a.at bs out) (sym (section-packed s c.requires.some c.requires.form.0 c.requires.form.1));
    }
