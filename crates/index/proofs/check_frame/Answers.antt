-- `index::check_frame` meets its contract: each refusal is given after its own test, in the order of `check_frame`.
use Rattle.std.proofs.Common.{arith}
use Rattle.format.specs.File.{check_frame}
use Rattle.index.specs.Frames.{frame_at}
use Rattle.index.proofs.Frames.{start_is}
use Rattle.index.proofs.check_frame.Goals as goal
use Rattle.index.proofs.check_frame.Goals.{then-start-lt-HEADER_SIZE-via-then-start-lt-HEADER_SIZE, then-start-lt-HEADER_SIZE-via-else-start-lt-HEADER_SIZE+then-footer-start}

pub returns-then-start-lt-HEADER_SIZE : goal.returns-then-start-lt-HEADER_SIZE
unfolding frame_at check_frame
returns-then-start-lt-HEADER_SIZE c =
    elim c.then-start-lt-HEADER_SIZE.branch [
      | then-start-lt-HEADER_SIZE-via-then-start-lt-HEADER_SIZE w ↦ grind (arith, start_is)
      | then-start-lt-HEADER_SIZE-via-else-start-lt-HEADER_SIZE+then-footer-start w ↦ grind (arith, start_is)
    ]
