-- `end_series` meets its contract: the last block, and then the count.
use Prim.Native.Nat.{ℕ}
use mathlib.Core.Path.{ap, ap₂, ◌∙◌}
use mathlib.Core.List.{List}
use Rattle.format.specs.Bytes.{big_bytes}
use Rattle.format.specs.declared.IndexPlace.{IndexPlace}
use Rattle.builder.specs.declared.Builder.{Builder}
use Rattle.builder.specs.Modes.{lays, lay_index}
use Rattle.builder.specs.Steps.{in_fill, end_places, last_bytes, end_bytes}
use Rattle.builder.proofs.Entries.{room-kept}
use Rattle.builder.proofs.Fills.{end-count, end-blocks}
use Rattle.builder.proofs.Builder.end_series.Goals as goal

pub lay_count-requires : goal.lay_count-requires
lay_count-requires c =
    let b = c.args.self.now in
    let f = in_fill b in
    let last = c.end_block in
    rw (last.ensures.builder, end-count b.kind f b.places)
    (end-blocks (lays b.mode) b.kind f b.places c.requires.count-fits, room-kept (lays b.mode) _ last.new.out c.args.out.now last.auto.out c.requires.count-room)

pub returns-clause-laid : goal.returns-clause-laid
unfolding end_bytes
returns-clause-laid c =
    let b = c.args.self.now in
    let f = in_fill b in
    let last = c.end_block.ensures in
    c.lay_count.ensures
    ∙ ap₂ (λ (q : Builder) (x : List ℕ). lay_index q.mode q.places.count (big_bytes 2 q.places.blocks) x) last.builder last.laid
    ∙ ap (λ (p : IndexPlace). lay_index b.mode p (big_bytes 2 (end_places b.kind f b.places).blocks) (last_bytes b.mode b.kind f b.places c.args.out.now)) (end-count b.kind f b.places)
