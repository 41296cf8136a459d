-- `integers::put_raw` meets its contract: the first byte and the numbers are laid one after the other.
use Rattle.std.proofs.Common.{ℕ, List, sym, ap, ◌∙◌, arith, length-set}
use mathlib.Core.List.{flat_map}
use Rattle.format.specs.Bytes.{big_bytes, splice}
use Rattle.format.proofs.Splices.{splice-store}
use Rattle.integers.proofs.Writing.{section-raw, raw-length}
use Rattle.integers.proofs.put_raw.Goals as goal

pub bounds-out-at : goal.bounds-out-at
bounds-out-at c = omega (arith, raw-length c.args.stored.now c.requires.some c.requires.form.0 c.requires.form.1, c.requires.room)

pub put_words-requires : goal.put_words-requires
put_words-requires c = simp length-set (omega (arith, raw-length c.args.stored.now c.requires.some c.requires.form.0 c.requires.form.1, c.requires.room))

pub returns : goal.returns
returns c =
    let a = c.args in
    let s = a.stored.now in
    let size = raw-length s c.requires.some c.requires.form.0 c.requires.form.1 in
    record {
      next = omega (arith, c.put_words.ensures.next, size);
      laid = c.put_words.ensures.laid
          ∙ splice-store a.at 0 (flat_map (big_bytes 8) s) a.out.now (omega (arith, size, c.requires.room))
          ∙ ap (λ (bs : List ℕ). splice a.at bs a.out.now) (sym (section-raw s c.requires.some c.requires.form.0 c.requires.form.1));
    }
