-- Where our writer cuts a series.
--   chunks-full   after 1,000 points
--   chunks-last   the last part
use Prim.Native.Nat.{ℕ, zero, suc, ◌≤◌}
use mathlib.Core.Path.{◌≡◌, refl, ap, ap₂, ◌∙◌}
use mathlib.Core.List.{List, [], ◌∷◌, ◌++◌}
use native.Mathlib.Omega.{arith}
use lib.ListN.{length, take, drop, length-drop, drop_of_length-le}
use lib.Seq.{take_at, drop_at, take_all}
use Rattle.format.specs.Limits.{writer_block_most}
use Rattle.format.specs.Meaning.{Point}
use Rattle.format.specs.Writer.{chunks_from, chunks}

-- no more parts than points: a larger bound changes nothing
chunks-enough : (k j : ℕ) (ps : List Point) → length ps ≤ k → length ps ≤ j → chunks_from k ps ≡ chunks_from j ps
unfolding chunks_from
chunks-enough zero zero ps h i = refl
chunks-enough zero (suc j) [] h i = refl
chunks-enough zero (suc j) (p ∷ ps) h i = absurd (omega arith)
chunks-enough (suc k) zero [] h i = refl
chunks-enough (suc k) zero (p ∷ ps) h i = absurd (omega arith)
chunks-enough (suc k) (suc j) [] h i = refl
chunks-enough (suc k) (suc j) (p ∷ ps) h i =
    let fewer = length-drop writer_block_most (p ∷ ps) in
    ap (λ (pss : List (List Point)). take writer_block_most (p ∷ ps) ∷ pss) (chunks-enough k j (drop writer_block_most (p ∷ ps)) (omega (arith, fewer)) (omega (arith, fewer)))

-- the first part of a list with a point
chunks-first : (p : Point) (ps : List Point) → chunks (p ∷ ps) ≡ take writer_block_most (p ∷ ps) ∷ chunks (drop writer_block_most (p ∷ ps))
unfolding chunks_from
chunks-first p ps =
    let fewer = length-drop writer_block_most (p ∷ ps) in
    ap (λ (pss : List (List Point)). take writer_block_most (p ∷ ps) ∷ pss)
    (chunks-enough (length ps) (length (drop writer_block_most (p ∷ ps))) (drop writer_block_most (p ∷ ps)) (omega (arith, fewer)) (omega arith))

pub chunks-full : (f ps : List Point) → length f ≡ writer_block_most → chunks (f ++ ps) ≡ f ∷ chunks ps
chunks-full [] ps e = absurd (omega (arith, e))
chunks-full (p ∷ f) ps e =
    chunks-first p (f ++ ps)
    ∙ ap₂ (λ (a : List Point) (b : List Point). a ∷ chunks b) (take_at (p ∷ f) ps writer_block_most e) (drop_at (p ∷ f) ps writer_block_most e)

pub chunks-last : (f : List Point) → 1 ≤ length f → length f ≤ writer_block_most → chunks f ≡ f ∷ []
unfolding chunks_from
chunks-last [] some most = absurd (omega arith)
chunks-last (p ∷ f) some most =
    chunks-first p f
    ∙ ap₂ (λ (a : List Point) (b : List Point). a ∷ chunks b) (take_all writer_block_most (p ∷ f) most) (drop_of_length-le (p ∷ f) most)
