-- `flush` meets its contract: the block, and then its entry.
use Prim.Native.Nat.{ℕ}
use mathlib.Core.Path.{ap, ◌∙◌}
use mathlib.Core.List.{List}
use Rattle.builder.specs.Modes.{lays, lay_index}
use Rattle.builder.specs.Steps.{in_fill, entry_of, flush_places, flush_bytes}
use Rattle.builder.specs.declared.Places.{Places}
use Rattle.builder.proofs.Entries.{block-most, flushed-at, room-kept}
use native.Mathlib.Omega.{arith}
use Rattle.builder.proofs.Builder.flush.Goals as goal

pub lay_entry-requires : goal.lay_entry-requires
lay_entry-requires c =
    let b = c.args.self.now in
    let block = c.lay_block-next in (
      c.requires.0,
      omega (arith, block.ensures.next, block-most _ b c.requires.0),
      omega (arith, block.ensures.next),
      room-kept (lays b.mode) _ block.new.out c.args.out.now block.auto.out c.requires.2.entry-room,
    )

pub returns-clause-builder : goal.returns-clause-builder
unfolding flush_places
returns-clause-builder c =
    let b = c.args.self.now in
    ap (λ (s : Places). record { mode = b.mode; kind = b.kind; places = s; fill = b.fill }) (flushed-at b.kind (in_fill b) b.places c.lay_block-next.result c.lay_block-next.ensures.next)

pub returns-clause-laid : goal.returns-clause-laid
unfolding flush_bytes
returns-clause-laid c =
    let b = c.args.self.now in
    c.lay_entry.ensures ∙ ap (λ (x : List ℕ). lay_index b.mode b.places.ends.entry (entry_of b.kind b.places.ends.block.0 (in_fill b)) x) c.lay_block-next.ensures.laid
