-- `padding_zero` meets its contract: only the last byte has bits past n, and shifting out those that are used leaves them.
use Rattle.std.proofs.Common.{sym}
use Rattle.section_laws.proofs.Bits.{padding-whole, padding-part}
use Rattle.booleans.proofs.padding_zero.Goals as goal

pub returns-then-used-eq0 : goal.returns-then-used-eq0
returns-then-used-eq0 c = sym (padding-whole c.args.bytes.now c.args.n (sym c.requires) c.if-used-eq0.true)

pub returns : goal.returns
returns c = sym (padding-part c.args.bytes.now c.args.n (sym c.requires) c.if-used-eq0.false)
