-- `timestamps_writer::put_head` meets its contract: the first byte and the first time are laid as one.
use mathlib.Core.Path.{◌∙◌}
use native.Mathlib.Omega.{arith}
use Rattle.format.specs.Bytes.{big_bytes}
use Rattle.format.proofs.Splices.{splice-store}
use Rattle.timestamps_writer.proofs.put_head.Goals as goal

pub returns : goal.returns
returns c =
    let a = c.args in
    c.put_u64.ensures ∙ splice-store a.at a.head (big_bytes 8 a.first) a.out.now (omega arith)
