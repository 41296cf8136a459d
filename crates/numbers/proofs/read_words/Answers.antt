-- `numbers::read_words` meets its contract.
use Rattle.std.proofs.Common.{◌≡◌, ℕ, ◌+◌, ◌-◌, ◌*◌, List, ◌∷◌, length, drop, sym, ap, ◌∙◌, arith}
use Rattle.format.specs.Bytes.{words_of, splice}
use Rattle.format.proofs.Splices.{splice-nothing, splice_front, overwrite-whole, splice-store}
use Rattle.numbers.proofs.Cells.{words-next, words_of-length}
use Rattle.numbers.proofs.read_words.Goals as goal

pub loop-i-init : goal.loop-i-init
loop-i-init c =
    let a = c.args in
    let n = length a.cells.now in
    let all : n - 0 ≡ n = omega arith in
    let start : a.at + 0 ≡ a.at = omega arith in
    let xs = words_of n (drop a.at a.s.now) in
    rw (all, start) (splice_front xs a.cells.now ∙ overwrite-whole xs a.cells.now (sym (words_of-length n (drop a.at a.s.now))))

pub loop-i-preserved : goal.loop-i-preserved
loop-i-preserved c =
    let a = c.args in
    let at = c.loop-i in
    let n = length a.cells.now in
    let rest = words_of (n - (at.i + 1)) (drop (a.at + (at.i + 1) * 8) a.s.now) in
    splice-store at.i c.read_u64.result rest at.cells (omega arith)
    ∙ ap (λ (xs : List ℕ). splice at.i xs at.cells)
    (ap (λ (x : ℕ). x ∷ rest) c.read_u64.ensures ∙ sym (words-next a.s.now a.at at.i n (omega arith)))
    ∙ at.invariant

pub returns : goal.returns
returns c =
    let at = c.loop-i in
    let end : length c.args.cells.now - at.i ≡ 0 = omega arith in
    sym (splice-nothing at.i at.cells) ∙ (rw end at at.invariant)
