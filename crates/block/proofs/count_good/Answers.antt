-- `count_good` meets its contract: T is a number, and a good block has as many points as times.
use Rattle.std.specs.Prelude.{Result, Ok, Err, IsOk}
use Prim.Native.Nat.{ℕ}
use mathlib.Core.Path.{◌≡◌, refl, sym, ◌∙◌}
use mathlib.Core.List.{List}
use native.Mathlib.Omega.{arith}
use Rattle.format.specs.declared.Broken.{Broken}
use Rattle.numbers.specs.declared.Varint.{Varint}
use Rattle.numbers.specs.VarintAt.{varint_at, number, broken}
use Rattle.numbers.proofs.VarintPlaces.{varint_at-number}
use Rattle.block.proofs.Bodies.{Good, block-good}
use Rattle.block.proofs.Counts.{head-known, Counted, counted}
use Rattle.block.proofs.count_good.Goals as goal
use Rattle.block.proofs.count_good.Goals.{After-unwrap-t}

-- T is a number
module _ (c : After-unwrap-t) where
  abbrev block : List ℕ
  block = c.args.block.now

  good : Good c.args.entry block
  good = block-good c.args.entry block c.requires

  is : varint_at block 5 ≡ number c.unwrap-t.result.value c.unwrap-t.result.next
  is = sym c.read_varint.ensures ∙ c.unwrap-t.ensures

  known : Counted c.args.entry block good c.unwrap-t.result.value c.unwrap-t.result.next is
  known = counted c.args.entry block good c.unwrap-t.result.value c.unwrap-t.result.next is
      (varint_at-number block 5 good.long c.unwrap-t.result.value c.unwrap-t.result.next (λ i. (c.type_inv.block i).fits) is).1

-- a varint that nothing breaks
whole : (x : Result Varint Broken) → ((place : ℕ) → x ≡ broken place → ⊥) → IsOk x
whole (Ok v) k = refl
whole (Err b) k = absurd (k b.place refl)

pub read_varint-requires : goal.read_varint-requires
read_varint-requires c = (block-good c.args.entry c.args.block.now c.requires).long

pub unwrap-t-requires : goal.unwrap-t-requires
unwrap-t-requires c =
    whole c.read_varint.result (λ place e.
    head-known c.args.entry c.args.block.now (block-good c.args.entry c.args.block.now c.requires) place (sym c.read_varint.ensures ∙ e))

pub overflow_add-next : goal.overflow_add-next
overflow_add-next c = omega (arith, (known (goal.at.overflow_add-next c).After-unwrap-t).within)

pub slice_bounds-count-end : goal.slice_bounds-count-end
slice_bounds-count-end c = (known (goal.at.slice_bounds-count-end c).After-unwrap-t).within

pub count-requires : goal.count-requires
count-requires c = (known (goal.at.count-requires c).After-unwrap-t).read

pub returns : goal.returns
returns c = (known (goal.at.returns c).After-unwrap-t).count c.count.result c.count.ensures
