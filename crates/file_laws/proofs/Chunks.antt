-- The chunks into which our writer cuts a series.
--   chunks-sized    each chunk has 1 to 1,000 points
--   chunks-joined   joined they are the series
--   chunks-some     a series with a point has a chunk
use Prim.Native.Nat.{ℕ, zero, suc, ◌≤◌}
use mathlib.Core.Path.{◌≡◌, refl, ap, ◌∙◌}
use mathlib.Core.List.{List, [], ◌∷◌, ◌++◌, flat_map}
use native.Mathlib.Omega.{arith}
use lib.ListN.{length, take, drop, length-take, length-drop, take-append-drop}
use Rattle.format.specs.Limits.{writer_block_most}
use Rattle.format.specs.Choice.{Each}
use Rattle.format.specs.Meaning.{Point}
use Rattle.format.specs.Writer.{chunks_from, chunks}
use Rattle.file_laws.specs.Bounds.{Sized}

sized-from : (k : ℕ) (ps : List Point) → Each Sized (chunks_from k ps)
unfolding chunks_from
sized-from zero ps = tt
sized-from (suc k) [] = tt
sized-from (suc k) (p ∷ ps) =
    let size = length-take writer_block_most (p ∷ ps) in ((omega arith, omega arith), sized-from k (drop writer_block_most (p ∷ ps)))

joined-from : (k : ℕ) (ps : List Point) → length ps ≤ k → flat_map (λ qs. qs) (chunks_from k ps) ≡ ps
unfolding chunks_from flat_map
joined-from zero [] h = refl
joined-from zero (p ∷ ps) h = absurd (omega arith)
joined-from (suc k) [] h = refl
joined-from (suc k) (p ∷ ps) h =
    let rest = drop writer_block_most (p ∷ ps) in
    ap (λ (qs : List Point). take writer_block_most (p ∷ ps) ++ qs) (joined-from k rest (omega (arith, length-drop writer_block_most (p ∷ ps))))
    ∙ take-append-drop writer_block_most (p ∷ ps)

module _ (ps : List Point) where
  pub chunks-sized : Each Sized (chunks ps)
  chunks-sized = sized-from (length ps) ps

  pub chunks-joined : flat_map (λ qs. qs) (chunks ps) ≡ ps
  chunks-joined = joined-from (length ps) ps (omega arith)

pub chunks-some : (ps : List Point) → 1 ≤ length ps → 1 ≤ length (chunks ps)
unfolding chunks_from
chunks-some [] h = absurd (omega arith)
chunks-some (p ∷ ps) h = omega arith
