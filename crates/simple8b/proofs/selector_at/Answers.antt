-- `simple8b::selector_at` meets its contract: the table is that of the definition.
use Prim.Native.Nat.{ℕ}
use lib.ListN.{get_or-map}
use Rattle.format.specs.Simple8b.{selectors}
use Rattle.simple8b.specs.declared.Selector.{Selector}
use Rattle.simple8b.specs.Selectors.{selector_of}
use Rattle.simple8b.proofs.selector_at.Goals as goal

abbrev selector_of_pair : ℕ × ℕ → Selector
selector_of_pair q = record { count = q.0; width = q.1 }

pub returns : goal.returns
unfolding selector_of
returns c = get_or-map selector_of_pair selectors c.args.p (0, 0)
