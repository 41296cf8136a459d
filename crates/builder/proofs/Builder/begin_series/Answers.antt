-- `begin_series` meets its contract: the head, and the places after it.
use mathlib.Core.Path.{refl}
use Rattle.builder.specs.Steps.{begin_places}
use Rattle.builder.proofs.Builder.begin_series.Goals as goal

pub returns-clause-builder : goal.returns-clause-builder
unfolding begin_places
returns-clause-builder c = refl
