-- `Index::next` meets its contract: whether an entry of the key is left decides.
use Rattle.std.proofs.Common.{rules}
use Rattle.index.proofs.Walks.{step-between}
use Rattle.index.proofs.Index.next.Goals as goal

pub returns-in_err-on : goal.returns-in_err-on
returns-in_err-on c = rw (step-between c.args.self.bytes.now c.args.self.start.0 c.args.c c.if-c-ne0.false) (search rules)

pub returns-in-Some : goal.returns-in-Some
returns-in-Some c = rw (step-between c.args.self.bytes.now c.args.self.start.0 c.args.c c.if-c-ne0.false) (search rules)

pub returns-in-None : goal.returns-in-None
returns-in-None c = rw (step-between c.args.self.bytes.now c.args.self.start.0 c.args.c c.if-c-ne0.false) (search rules)
