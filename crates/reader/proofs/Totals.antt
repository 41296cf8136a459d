-- The totals of what is left of an image: the entries of a key and the keys after it.
--   left            what they give
--   added           so many keys and points more
--   check-refused   a refused index
--   left-start, left_key, left-entry, left-broken, left_end   step by step
use Rattle.std.specs.Prelude.{Err}
use Prim.Native.Nat.{ℕ, ◌+◌}
use mathlib.Core.Path.{◌≡◌, refl}
use mathlib.Core.List.{List, [], ◌∷◌, ◌++◌}
use native.Mathlib.Nat.{zero-add, add-zero}
use native.Mathlib.Omega.{arith}
use lib.ListN.{length, length-append}
use Rattle.format.specs.declared.Entry.{Entry}
use Rattle.format.specs.declared.Refusal.{Refusal}
use Rattle.format.specs.Refusals.{Outcome, ok, refused, ◌>>=◌}
use Rattle.format.specs.Meaning.{Point, Meaning, key_total, point_total}
use Rattle.format.specs.Index.{IndexKey}
use Rattle.format.specs.Block.{read_block}
use Rattle.format.specs.File.{block_of, read_index, read_blocks, read_series, read_file}
use Rattle.format.specs.Acts.{check_result, check_answer, checked_says}

-- the totals of the entries of a key and the keys after it
abbrev pub left : (image : List ℕ) → List Entry → List IndexKey → Outcome (ℕ × ℕ)
left image es ks = read_blocks image es >>= λ ps. read_series image ks >>= λ m. ok (key_total m, length ps + point_total m)

-- so many keys and points more
abbrev pub added : (keys points : ℕ) → Outcome (ℕ × ℕ) → Outcome (ℕ × ℕ)
added keys points (ok t) = ok (keys + t.0, points + t.1)
added keys points (refused r place) = refused r place

totals : {k l p q : ℕ} → k ≡ l → p ≡ q → ◌≡◌ {A = Outcome (ℕ × ℕ)} (ok (k, p)) (ok (l, q))
totals e f = cc

module _ (image : List ℕ) where
  pub check-refused : (r : Refusal) (place : ℕ) → read_index image ≡ refused r place → checked_says (Err r) ≡ check_answer image
  unfolding check_result read_file
  check-refused r place e = rw e

  start-by : (a : Outcome Meaning) → added 0 0 (a >>= λ m. ok (key_total m, 0 + point_total m)) ≡ (a >>= λ m. ok (key_total m, point_total m))
  start-by (ok m) = totals (zero-add (key_total m)) (omega arith)
  start-by (refused r place) = refl

  pub left-start : (ks : List IndexKey) → read_index image ≡ ok ks → added 0 0 (left image [] ks) ≡ check_result image
  unfolding check_result read_file read_blocks
  left-start ks e = rw e (start-by (read_series image ks))

  module _ (keys points : ℕ) where
    key-by : (k : IndexKey) (a : Outcome (List Point)) (b : Outcome Meaning)
        → added keys points ((a >>= λ ps. b >>= λ rest. ok (record { key = k.key; kind = k.kind; points = ps } ∷ rest)) >>= λ m. ok (key_total m, 0 + point_total m))
        ≡ added (keys + 1) points (a >>= λ ps. b >>= λ m. ok (key_total m, length ps + point_total m))
    key-by k (ok ps) (ok m) = totals (omega arith) (omega arith)
    key-by k (ok ps) (refused r place) = refl
    key-by k (refused r place) b = refl

    pub left_key : (k : IndexKey) (ks : List IndexKey) → added keys points (left image [] (k ∷ ks)) ≡ added (keys + 1) points (left image k.entries ks)
    unfolding read_blocks read_series
    left_key k ks = key-by k (read_blocks image k.entries) (read_series image ks)

    entry-by : (ps : List Point) (a : Outcome (List Point)) (b : Outcome Meaning)
        → added keys points ((a >>= λ rest. ok (ps ++ rest)) >>= λ qs. b >>= λ m. ok (key_total m, length qs + point_total m))
        ≡ added keys (points + length ps) (a >>= λ qs. b >>= λ m. ok (key_total m, length qs + point_total m))
    entry-by ps (ok rest) (ok m) = totals refl (omega (arith, length-append ps rest))
    entry-by ps (ok rest) (refused r place) = refl
    entry-by ps (refused r place) b = refl

    pub left-entry : (e : Entry) (es : List Entry) (ks : List IndexKey) (ps : List Point) → read_block e (block_of image e) ≡ ok ps
        → added keys points (left image (e ∷ es) ks) ≡ added keys (points + length ps) (left image es ks)
    unfolding read_blocks
    left-entry e es ks ps read = rw read (entry-by ps (read_blocks image es) (read_series image ks))

    pub left-broken : (e : Entry) (es : List Entry) (ks : List IndexKey) (r : Refusal) (place : ℕ) → read_block e (block_of image e) ≡ refused r place
        → added keys points (left image (e ∷ es) ks) ≡ refused r place
    unfolding read_blocks
    left-broken e es ks r place read = rw read

    pub left_end : added keys points (left image [] []) ≡ ok (keys, points)
    unfolding read_blocks read_series
    left_end = totals (add-zero keys) (omega arith)
