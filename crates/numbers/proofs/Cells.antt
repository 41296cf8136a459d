-- Lists of numbers, one cell after the other: what the loops of this crate go by.
--   repeated-next   one number more of a run
--   words-next      one number of 8 bytes more
--   words_of-length   how many numbers are read
--   front, past     what stands in the first cells, and past them
use Rattle.std.proofs.Common.{◌≡◌, ℕ, zero, suc, ◌+◌, ◌-◌, ◌*◌, ◌<◌, List, ◌∷◌, length, take, drop, replicate, sym, refl, ap, arith, drop-drop, take_at}
use lib.Seq.{drop-append_seam}
use Rattle.format.specs.Bytes.{big_endian, words_of, overwrite}

pub repeated-next : (i n x : ℕ) → i < n → replicate (n - i) x ≡ x ∷ replicate (n - (i + 1)) x
repeated-next i n x h = let more : n - i ≡ suc (n - (i + 1)) = omega arith in rw more

pub words_of-length : (k : ℕ) (bs : List ℕ) → length (words_of k bs) ≡ k
words_of-length zero bs = refl
words_of-length (suc k) bs = ap suc (words_of-length k (drop 8 bs))

-- the numbers from the i-th on, where the first stands at `at`
pub words-next : (s : List ℕ) (at i n : ℕ) → i < n
    → words_of (n - i) (drop (at + i * 8) s) ≡ big_endian (take 8 (drop (at + i * 8) s)) ∷ words_of (n - (i + 1)) (drop (at + (i + 1) * 8) s)
words-next s at i n h =
    let more : n - i ≡ suc (n - (i + 1)) = omega arith in
    let place : at + i * 8 + 8 ≡ at + (i + 1) * 8 = omega arith in
    rw (more, drop-drop 8 (at + i * 8) s, place)

-- the numbers laid in the first cells
pub front : (xs old new : List ℕ) (n : ℕ) → new ≡ overwrite xs old → n ≡ length xs → take n new ≡ xs
front xs old new n e l = rw e (take_at xs (drop (length xs) old) n (sym l))

-- past them nothing is changed
pub past : (xs old new : List ℕ) (n : ℕ) → new ≡ overwrite xs old → n ≡ length xs → drop n new ≡ drop n old
past xs old new n e l = rw (e, l) (drop-append_seam xs (drop (length xs) old))
