-- `open_byte` meets its contract: its four pairs are laid one after the other.
use native.Mathlib.Omega.{arith}
use Prim.Native.Nat.{ℕ, ◌+◌, ◌/◌, ◌%◌, ◌≤◌}
use mathlib.Core.Path.{◌≡◌, refl, ◌∙◌}
use mathlib.Core.List.{List, ◌++◌}
use lib.ListN.{length}
use Rattle.format.specs.Bytes.{splice}
use Rattle.format.proofs.Splices.{laid-two}
use Rattle.booleans.specs.Pairs.{pair_of, opened_byte}
use Rattle.booleans.proofs.open_byte.Goals as goal

-- four pairs, laid one after the other
four-pairs : (b at : ℕ) (old one two three four : List ℕ) → at + 8 ≤ length old
    → length one ≡ length old → length two ≡ length old → length three ≡ length old
    → one ≡ splice at (pair_of (b / 64)) old
    → two ≡ splice (at + 2) (pair_of (b / 16 % 4)) one
    → three ≡ splice (at + 4) (pair_of (b / 4 % 4)) two
    → four ≡ splice (at + 6) (pair_of (b % 4)) three
    → four ≡ splice at (opened_byte b) old
unfolding opened_byte
four-pairs b at old one two three four room l₁ l₂ l₃ e₁ e₂ e₃ e₄ =
    let a = pair_of (b / 64) in
    let c = pair_of (b / 16 % 4) in
    let d = pair_of (b / 4 % 4) in
    let e = pair_of (b % 4) in
    let s₃ : four ≡ splice (at + 4) (d ++ e) two = laid-two (at + 4) (at + 6) d e two three four (omega arith) (omega arith) e₃ e₄ in
    let s₂ : four ≡ splice (at + 2) (c ++ (d ++ e)) one = laid-two (at + 2) (at + 4) c (d ++ e) one two four (omega arith) (omega arith) e₂ s₃ in
    laid-two at (at + 2) a (c ++ (d ++ e)) old one four (omega arith) refl e₁ s₂

pub returns : goal.returns
returns c =
    let a = c.args in
    let one = c.open_pair in
    let two = c.open_pair-2 in
    let three = c.open_pair-3 in
    let four = c.open_pair-4 in
    let same₁ = one.auto.values in
    let same₂ = two.auto.values ∙ same₁ in
    let same₃ = three.auto.values ∙ same₂ in
    four-pairs a.byte a.at a.values.now one.new.values two.new.values three.new.values four.new.values
    (omega arith) same₁ same₂ same₃ one.ensures two.ensures three.ensures four.ensures
