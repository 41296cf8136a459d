-- The fill grows by the older block's points, where the newer side has none left at all.
use Prim.Native.Nat.{ℕ, ◌+◌}
use mathlib.Core.Path.{◌≡◌, sym, ap, ◌∙◌}
use mathlib.Core.List.{List, ◌++◌, append_assoc}
use native.Mathlib.Omega.{arith}
use lib.ListN.{length}
use Rattle.format.specs.Meaning.{Point}
use Rattle.merging.proofs.Walk.{points-end}
use Rattle.block_merge.specs.declared.side.Points.{Points}
use Rattle.block_merge.specs.Cells.{rest, Fill, in_cells, BlockCopied, Grown}
use Rattle.block_merge.proofs.Moves.{rest_none}

-- the same points after both
followed : (a b c d ps : List Point) → a ++ b ≡ c ++ d → a ++ (b ++ ps) ≡ c ++ (d ++ ps)
followed a b c d ps e = sym (append_assoc a b ps) ∙ ap (λ (l : List Point). l ++ ps) e ∙ append_assoc c d ps

module _ (older newer : Points) (n : ℕ) (fill fill' : Fill) where
  pub grown-older : (more : ℕ) → length newer.times.now ≡ 0 → BlockCopied older fill n more fill'
      → Grown older newer n fill (record { older = more; newer = 0; filled = n + more }) fill'
  grown-older more end h = record {
    older-most = h.inside;
    newer-most = omega arith;
    most = h.most;
    more = λ l k. omega (arith, h.some (omega (arith, end)) k);
    count = h.count;
    same = λ ps qs other none. rw (none end, rest_none newer 0 (omega (arith, end)), points-end (rest more older ++ ps), points-end (rest 0 older ++ ps)) (followed (in_cells (n + more) fill') _ _ _ ps h.same);
  }
