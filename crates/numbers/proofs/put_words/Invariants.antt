-- `numbers::put_words`: the numbers that are left, laid from `place` on, make what all of them make from the start.
use Rattle.std.proofs.Common.{◌≡◌, ◌+◌, ◌*◌, drop}
use mathlib.Core.List.{flat_map}
use Rattle.format.specs.Bytes.{big_bytes, splice}
use Rattle.numbers.proofs.put_words.Given as goal

abbrev pub invariant-loop-word : goal.invariant-loop-word
invariant-loop-word l =
    (l.place ≡ l.at + l.word-index * 8)
    × (splice l.place (flat_map (big_bytes 8) (drop l.word-index l.words)) l.out ≡ splice l.at (flat_map (big_bytes 8) l.words) l.fn.out)
