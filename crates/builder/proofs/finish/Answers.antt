-- `finish` meets its contract: the header, and then the footer.
use Prim.Native.Nat.{ℕ}
use mathlib.Core.Path.{ap₂, ◌∙◌}
use mathlib.Core.List.{List}
use Rattle.format.specs.Bytes.{big_bytes, splice}
use Rattle.builder.proofs.finish.Goals as goal

pub returns : goal.returns
returns c =
    c.put_u64.ensures
    ∙ ap₂ (λ (n : ℕ) (x : List ℕ). splice n (big_bytes 8 c.args.ends.block.0) x) c.in_image-place.ensures c.put_header.ensures
