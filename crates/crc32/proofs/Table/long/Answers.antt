-- `Table::long` meets its contract: what is left of the words, taken from the present wide register, gives the answer.
use mathlib.Core.Path.{◌≡◌, refl, sym, ap, ◌∙◌}
use mathlib.Core.List.{List, [], ◌++◌}
use native.Mathlib.Omega.{arith}
use Prim.Native.Nat.{ℕ, ◌+◌, ◌-◌, ◌≤◌}
use lib.ListN.{length, drop, get_or}
use Rattle.std.specs.List.{concat}
use Rattle.std.proofs.lemmas.List.{get_or-take}
use Rattle.format.specs.Crc32.{crc_from}
use Rattle.crc32.specs.Wide.{wide, number}
use Rattle.crc32.proofs.ByBytes.{next-word, words-left}
use Rattle.crc32.proofs.Table.long.Goals as goal

pub loop-word-init : goal.loop-word-init
unfolding wide
loop-word-init c = refl

pub loop-word-preserved : goal.loop-word-preserved
loop-word-preserved c =
    let ws = c.args.words.now in
    let l = c.loop-word in
    let i = l.word-index in
    let left = concat (drop (i + 1) ws) in
    let this : get_or c.split_at.result.0.now i [] ≡ get_or ws i [] = ap (λ (xs : List (List ℕ)). get_or xs i []) c.split_at.ensures.front ∙ get_or-take _ ws i [] (omega arith) in
    let more : 40 ≤ length left = rw (words-left ws (i + 1) c.told-words) (omega arith) in
    c.fold-register.ensures left more
    ∙ ap (crc_from (number l.register)) (ap (λ (w : List ℕ). w ++ left) this ∙ sym (next-word ws i (omega arith)))
    ∙ l.invariant

pub returns : goal.returns
returns c =
    let ws = c.args.words.now in
    let l = c.loop-word in
    let end : length ws - 5 ≡ l.word-index = omega arith in
    c.narrow.ensures
    ∙ ap (λ (xs : List (List ℕ)). crc_from (number l.register) (concat xs)) (c.split_at.ensures.back ∙ ap (λ (n : ℕ). drop n ws) end)
    ∙ l.invariant
