-- `order_keys` meets its contract: the keys are compared.
use Prim.Native.Nat.{ℕ}
use mathlib.Core.Path.{◌≡◌, refl, sym, ◌∙◌}
use mathlib.Core.List.{List}
use Rattle.std.specs.Cmp.Lexicographic.{slice_cmp}
use Rattle.std.specs.Ordering.{nat_cmp, is_lt, is_gt}
use Rattle.std.specs.declared.cmp.Ordering.{Ordering}
use Rattle.std.specs.declared.cmp.Ordering.TheVariants.{Less, Equal, Greater}
use Rattle.format.specs.KeyOrder.{key_before}
use Rattle.feed.specs.Feeds.{key_of}
use Rattle.key_merge.proofs.Keys.{order-says}
use Rattle.key_merge.proofs.order_keys.Goals as goal
use Rattle.key_merge.proofs.order_keys.Goals.{After-compare}

module _ (c : After-compare) where
  abbrev k : List ℕ
  k = key_of c.args.images.older.now c.args.opened.older

  abbrev l : List ℕ
  l = key_of c.args.images.newer.now c.args.opened.newer

  order : c.compare.result ≡ slice_cmp nat_cmp k l
  order = rw (c.key-older.ensures, c.key-newer.ensures) at c.compare.ensures

  says : (o : Ordering) → c.compare.result ≡ o → (key_before k l ≡ is_lt o) × (key_before l k ≡ is_gt o)
  says o is = order-says k l o (sym is ∙ order)

pub returns-in-Less : goal.returns-in-Less
returns-in-Less c = let order = says (goal.at.returns-in-Less c).After-compare Less c.in-Less.is in rw order.0 refl

pub returns-in-Greater : goal.returns-in-Greater
returns-in-Greater c = let order = says (goal.at.returns-in-Greater c).After-compare Greater c.in-Greater.is in rw (order.0, order.1) refl

pub returns-in-Equal : goal.returns-in-Equal
returns-in-Equal c = let order = says (goal.at.returns-in-Equal c).After-compare Equal c.in-Equal.is in rw (order.0, order.1) refl
