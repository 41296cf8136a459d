-- `numbers::put_words` meets its contract.
use Rattle.std.proofs.Common.{◌≡◌, ℕ, ◌+◌, List, ◌∷◌, length, get_or, drop, sym, ap, ◌∙◌, ap₂, arith, add-one, drop-cons, drop_of_length-le}
use mathlib.Core.List.{flat_map}
use Rattle.format.specs.Bytes.{big_bytes, splice}
use Rattle.format.proofs.Splices.{splice-nothing, splice-append}
use Rattle.numbers.proofs.BigEndian.{big_bytes-length}
use Rattle.numbers.proofs.put_words.Goals as goal

pub loop-word-preserved : goal.loop-word-preserved
unfolding flat_map
loop-word-preserved c =
    let at = c.loop-word in
    let s = c.args.words.now in
    let x = get_or s at.word-index 0 in
    let next : drop at.word-index s ≡ x ∷ drop (at.word-index + 1) s = rw add-one (drop-cons s at.word-index 0 (omega arith)) in
    let rest = flat_map (big_bytes 8) (drop (at.word-index + 1) s) in
    let further : at.place + 8 ≡ at.place + length (big_bytes 8 x) = omega (arith, big_bytes-length 8 x) in (
      omega arith,
      ap₂ (λ (p : ℕ) (out : List ℕ). splice p rest out) further c.put_u64.ensures
          ∙ splice-append at.place (big_bytes 8 x) rest at.out (omega arith)
          ∙ ap (λ (xs : List ℕ). splice at.place (flat_map (big_bytes 8) xs) at.out) (sym next)
          ∙ at.invariant.1,
    )

pub returns-clause-laid : goal.returns-clause-laid
unfolding flat_map
returns-clause-laid c =
    let at = c.loop-word in
    sym (splice-nothing at.place at.out) ∙ rw (drop_of_length-le c.args.words.now {i = at.word-index} (omega arith)) at at.invariant.1
