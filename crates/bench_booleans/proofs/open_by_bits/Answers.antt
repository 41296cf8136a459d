-- `open_by_bits` meets its contract.
use Rattle.std.proofs.Common.{◌≡◌, ℕ, suc, ◌+◌, ◌-◌, ◌/◌, ◌%◌, ◌^◌, ◌≤◌, ◌<◌, List, ◌∷◌, length, take, drop, get_or, set, sym, ap, ◌∙◌, arith, add-one, drop-cons}
use lib.Seq.{length-take-le}
use Rattle.format.specs.Bytes.{splice}
use Rattle.format.specs.Booleans.{bits_of_bytes}
use Rattle.format.proofs.Splices.{splice-store, splice-nothing, splice_front, overwrite-whole}
use Rattle.section_laws.proofs.Bits.{bytes-length, bytes-at}
use Rattle.bench_booleans.proofs.open_by_bits.Goals as goal

-- a bit is laid, and then what follows it
laid_more : (bytes values : List ℕ) (i n : ℕ) → i / 8 < length bytes → i < n → n ≤ length values
    → splice (i + 1) (take (n - (i + 1)) (drop (i + 1) (bits_of_bytes bytes))) (set values i (get_or bytes (i / 8) 0 / 2 ^ (7 - i % 8) % 2))
    ≡ splice i (take (n - i) (drop i (bits_of_bytes bytes))) values
laid_more bytes values i n inside more room =
    let bit = get_or bytes (i / 8) 0 / 2 ^ (7 - i % 8) % 2 in
    let is : get_or (bits_of_bytes bytes) i 0 ≡ bit = bytes-at bytes i (omega arith) in
    let left : n - i ≡ suc (n - (i + 1)) = omega arith in
    let next : take (n - i) (drop i (bits_of_bytes bytes)) ≡ bit ∷ take (n - (i + 1)) (drop (i + 1) (bits_of_bytes bytes)) =
    rw (left, drop-cons (bits_of_bytes bytes) i 0 (omega (arith, bytes-length bytes)), is, add-one) in
    splice-store i bit (take (n - (i + 1)) (drop (i + 1) (bits_of_bytes bytes))) values (omega arith)
    ∙ ap (λ (l : List ℕ). splice i l values) (sym next)

pub loop-i-init : goal.loop-i-init
loop-i-init c =
    let a = c.args in
    let n = length a.values.now in
    let all : n - 0 ≡ n = omega arith in
    let bits = take n (bits_of_bytes a.bytes.now) in
    rw all (splice_front bits a.values.now ∙ overwrite-whole bits a.values.now (sym (length-take-le n (bits_of_bytes a.bytes.now) (omega (arith, bytes-length a.bytes.now)))))

pub loop-i-preserved : goal.loop-i-preserved
loop-i-preserved c =
    let l = c.loop-i in
    rw c.from.ensures (laid_more c.args.bytes.now l.values l.i (length c.args.values.now) (omega arith) (omega arith) (omega arith) ∙ l.invariant)

pub returns : goal.returns
returns c =
    let l = c.loop-i in
    let none : length c.args.values.now - l.i ≡ 0 = omega arith in
    sym (splice-nothing l.i l.values) ∙ (rw none at l.invariant)
