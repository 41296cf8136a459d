-- `Feed::key` meets its contract: the key stands within the index, and the index within the image.
use native.Mathlib.Omega.{arith}
use lib.ListN.{length-take, length-drop}
use Rattle.feed.proofs.Standing.{starts}
use Rattle.feed.proofs.Keys.{key-part}
use Rattle.feed.proofs.Feed.key.Goals as goal

pub slice_bounds-result-end : goal.slice_bounds-result-end
slice_bounds-result-end c =
    let st = starts c.args.image.now c.args.self c.requires in
    omega (arith, st.start, st.framed, c.in_image-from.ensures, simp (length-take, length-drop) at c.requires.sound.key)

pub returns : goal.returns
returns c =
    rw c.in_image-from.ensures (key-part c.args.image.now c.args.self c.requires)
