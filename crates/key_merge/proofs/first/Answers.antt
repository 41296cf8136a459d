-- `first` meets its contract: what an accepted image means is well formed.
use Rattle.key_merge.proofs.Starts.{started}
use Rattle.key_merge.proofs.first.Goals as goal

pub returns : goal.returns
returns c = started c.args.image.now c.first.result (λ i. (c.type_inv.image i).fits) c.first.ensures
