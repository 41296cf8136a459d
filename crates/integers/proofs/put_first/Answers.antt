-- `integers::put_first` meets its contract: a byte and then 8 are laid as one.
use Rattle.std.proofs.Common.{◌*◌, ◌∙◌, arith}
use Rattle.format.specs.Bytes.{big_bytes}
use Rattle.format.proofs.Splices.{splice-store}
use Rattle.integers.proofs.put_first.Goals as goal

pub returns-clause-laid : goal.returns-clause-laid
returns-clause-laid c = c.put_u64.ensures ∙ splice-store c.args.at (c.args.form * 16) (big_bytes 8 c.args.first) c.args.out.now (omega arith)
