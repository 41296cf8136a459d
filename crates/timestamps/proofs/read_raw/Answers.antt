-- `timestamps::read_raw` meets its contract: its tests are those of the form, and the words are laid in the first cells.
use native.Mathlib.Omega.{arith}
use Prim.Native.Nat.{ℕ, ◌-◌, ◌/◌, ◌≤◌}
use mathlib.Core.Path.{◌≡◌, ap, sym}
use mathlib.Core.List.{List, ◌++◌}
use lib.Seq.{length-take-le}
use Rattle.format.specs.Bytes.{words_of, overwrite}
use Rattle.numbers.proofs.Cells.{words_of-length}
use lib.ListN.{length, take, drop, length-drop}
use Rattle.timestamps.proofs.Forms.{broken-raw, part-raw, many-raw, found-raw}
use Rattle.timestamps.proofs.read_raw.Goals as goal

pub returns-then-e-ne0 : goal.returns-then-e-ne0
returns-then-e-ne0 c t = let a = c.args in broken-raw a.e (drop 9 a.section.now) t c.if-e-ne0.true

pub returns-then-bytes-ne0 : goal.returns-then-bytes-ne0
returns-then-bytes-ne0 c t =
    let a = c.args in
    part-raw a.e (drop 9 a.section.now) t c.if-e-ne0.false (λ z. c.if-bytes-ne0.true (omega (arith, z, length-drop 9 a.section.now)))

pub returns-then-count-gt-MOST : goal.returns-then-count-gt-MOST
returns-then-count-gt-MOST c t =
    let a = c.args in
    let l = length-drop 9 a.section.now in
    many-raw a.e (drop 9 a.section.now) c.if-e-ne0.false (omega (arith, l, c.if-bytes-ne0.false)) t (omega (arith, l, c.if-count-gt-MOST.true))

-- n numbers laid over the front
laid : (n : ℕ) (bs old part : List ℕ) → n ≤ length old → part ≡ words_of (length (take n old)) bs → part ++ drop n old ≡ overwrite (words_of n bs) old
laid n bs old part h e = rw (e, length-take-le n old h) (ap (λ (k : ℕ). words_of n bs ++ drop k old) (sym (words_of-length n bs)))

pub returns : goal.returns
returns c =
    let a = c.args in
    let l = length-drop 9 a.section.now in
    let n = (length a.section.now - 9) / 8 in
    let found = found-raw a.e (drop 9 a.section.now) c.if-e-ne0.false (omega (arith, l, c.if-bytes-ne0.false)) a.differences.now _ n (ap (λ (k : ℕ). k / 8) l)
    (laid n (drop 9 a.section.now) a.differences.now c.read_words.new.cells (omega arith) c.read_words.ensures) in
    (found.0, omega (arith, c.if-count-gt-MOST.false), found.1)
