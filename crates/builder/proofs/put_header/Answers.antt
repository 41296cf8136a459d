-- `put_header` meets its contract: the magic bytes, and the version after them.
use Prim.Native.Nat.{ℕ}
use mathlib.Core.Path.{◌≡◌, refl, ap, ◌∙◌}
use mathlib.Core.List.{List, [], ◌∷◌, ◌++◌}
use lib.ListN.{length, drop, length-append, length-drop}
use Rattle.format.specs.Bytes.{splice}
use Rattle.format.specs.File.{magic, version}
use Rattle.format.proofs.Splices.{splice-set, laid-two}
use native.Mathlib.Omega.{arith}
use Rattle.builder.proofs.put_header.Goals as goal

front-is : (out : List ℕ) → magic ++ drop 4 out ≡ splice 0 magic out
unfolding splice
front-is out = refl

pub returns : goal.returns
returns c =
    let out = c.args.out.now in
    let laid = ap (λ (l : List ℕ). l ++ drop 4 out) c.copy_from_slice.ensures.after ∙ front-is out in
    laid-two 0 4 magic (version ∷ []) out _ _ (omega arith) refl laid
    (splice-set 4 1 (c.copy_from_slice.new.self ++ drop 4 out) (simp (length-append, length-drop) (omega (arith, c.requires, ap length c.copy_from_slice.ensures.after))))
