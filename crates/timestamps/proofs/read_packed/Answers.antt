-- `timestamps::read_packed` meets its contract: the words that open hold the differences; more than 999 are refused.
use mathlib.Core.Path.{◌≡◌, refl}
use mathlib.Core.List.{List, map}
use Prim.Native.Nat.{ℕ, ◌*◌, ◌^◌, ◌≤◌, ◌<◌}
use native.Mathlib.Omega.{arith}
use lib.IntN.{ℤ}
use lib.ListN.{length, take, drop}
use Rattle.format.specs.declared.Refusal.TheVariants.{Timestamps}
use Rattle.format.specs.Limits.{read_block_most}
use Rattle.format.specs.Refusals.{ok, refused, ◌>>=◌}
use Rattle.format.specs.Simple8b.{words_numbers}
use Rattle.format.specs.Form.{packed}
use Rattle.format.specs.Timestamps.{read_differences, times_of}
use Rattle.format.proofs.Parts.{part-rest}
use Rattle.numbers.proofs.Cells.{front, past}
use Rattle.std.specs.Prelude.{Result, Ok, Err}
use Rattle.simple8b.specs.declared.Unopened.{Unopened}
use Rattle.simple8b.specs.declared.Unopened.TheVariants.{Bad, Full}
use Rattle.simple8b.specs.Unpacked.{Unpacks}
use Rattle.timestamps.proofs.Forms.{broken-packed, many-packed, found-packed}
use Rattle.timestamps.proofs.read_packed.Goals as goal

refuses : (r : Result ℕ Unopened) (e : ℕ) (bs old new : List ℕ) → ((n : ℕ) → r ≡ Ok n → ⊥) → 999 ≤ length old → Unpacks r bs old new
    → (t : ℤ) → read_differences packed e 0 9 bs >>= times_of 0 t ≡ refused Timestamps 0
refuses (Ok n) e bs old new k l u t = absurd (k n refl)
refuses (Err Bad) e bs old new k l u t = broken-packed e bs u t
refuses (Err Full) e bs old new k l u t = many-packed e bs (omega (arith, u)) t

finds : (n e : ℕ) (bs old new : List ℕ) → Unpacks (Ok n) bs old new → n ≤ 999
    → (read_differences packed e 0 9 bs ≡ ok (map (λ d. d * 10 ^ e) (take n new))) × (n < read_block_most) × (drop n new ≡ drop n old)
finds n e bs old new u few =
    let l : n ≡ length (words_numbers bs) = u.1 in (
      found-packed e bs u.0 new n (front (words_numbers bs) old new n u.3 l),
      omega arith,
      past (words_numbers bs) old new n u.3 l,
    )

pub returns-in_default : goal.returns-in_default
returns-in_default c =
    let a = c.args in
    refuses c.unpack.result a.e (drop 9 a.section.now) a.differences.now c.unpack.new.numbers c.in_default.not-Ok (omega (arith, c.requires.1)) (rw (part-rest a.section.now 9) at c.unpack.ensures)

pub returns-then-count-gt-MOST : goal.returns-then-count-gt-MOST
returns-then-count-gt-MOST c =
    let a = c.args in
    many-packed a.e (drop 9 a.section.now) (omega (arith, (rw (part-rest a.section.now 9) at c.in-Ok.ensures).1, c.if-count-gt-MOST.true))

pub returns : goal.returns
returns c =
    let a = c.args in
    finds c.in-Ok.count a.e (drop 9 a.section.now) a.differences.now c.unpack.new.numbers
    (rw (part-rest a.section.now 9) at c.in-Ok.ensures) c.if-count-gt-MOST.false
