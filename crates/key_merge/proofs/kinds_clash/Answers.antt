-- `kinds_clash` meets its contract: what is left to ask of the kinds is what was to ask at first.
use mathlib.Core.Path.{◌≡◌, sym, ap, ap₂, subst, ◌∙◌}
use mathlib.Core.Bool.{Bool, ◌||◌}
use Rattle.format.specs.Merge.{kinds_clash}
use Rattle.merging.proofs.Sorted.{Ascending}
use Rattle.merging.proofs.Orders.{by_key}
use Rattle.feed.specs.Feeds.{series_left}
use Rattle.key_merge.specs.Turns.{meaning_of}
use Rattle.key_merge.proofs.Keys.{turned, clash-turn, still-up, clash-none}
use Rattle.key_merge.proofs.Starts.{started-up}
use Rattle.key_merge.proofs.kinds_clash.Goals as goal
use Rattle.key_merge.proofs.kinds_clash.Goals.{After-kinds_differ}

-- the kinds that are left to ask of
clash-is : (c : After-kinds_differ) → kinds_clash (meaning_of c.args.images.older.now) (meaning_of c.args.images.newer.now)
    ≡ c.kinds_differ.result || kinds_clash (series_left c.args.images.older.now c.in-Some.turn.feeds.older) (series_left c.args.images.newer.now c.in-Some.turn.feeds.newer)
clash-is c =
    let i = c.args.images in
    let t = c.in-Some.turn in
    let (standing, a, b, same) = c.loop-turn.invariant in
    sym same
    ∙ clash-turn i c.loop-turn.at standing a b t.feeds t.owner c.in-Some.ensures
    ∙ ap (λ (b : Bool). b || kinds_clash (series_left i.older.now t.feeds.older) (series_left i.newer.now t.feeds.newer)) (sym c.kinds_differ.ensures)

pub loop-turn-init : goal.loop-turn-init
loop-turn-init c =
    let p = c.first.ensures in
    let q = c.first-2.ensures in (
      record { older-stands = p.stands; older-done = p.done; newer-stands = q.stands; newer-done = q.done },
      started-up _ _ p,
      started-up _ _ q,
      ap₂ kinds_clash (sym p.meaning) (sym q.meaning),
    )

pub returns-then-kinds_differ : goal.returns-then-kinds_differ
returns-then-kinds_differ c = sym (rw c.if-kinds_differ.true at (clash-is (goal.at.returns-then-kinds_differ c).After-kinds_differ))

pub skip_entries-requires : goal.skip_entries-requires
skip_entries-requires c =
    let t = turned c.args.images c.loop-turn.at c.loop-turn.invariant.0 c.in-Some.turn.feeds c.in-Some.turn.owner c.in-Some.ensures in
    (t.older-stands, t.older-held)

pub skip_entries-requires-in-Some : goal.skip_entries-requires-in-Some
skip_entries-requires-in-Some c =
    let t = turned c.args.images c.loop-turn.at c.loop-turn.invariant.0 c.in-Some.turn.feeds c.in-Some.turn.owner c.in-Some.ensures in
    (t.newer-stands, t.newer-held)

pub loop-turn-preserved : goal.loop-turn-preserved
loop-turn-preserved c =
    let i = c.args.images in
    let t = c.in-Some.turn in
    let (standing, a, b, same) = c.loop-turn.invariant in
    let up = still-up i c.loop-turn.at standing a b t.feeds t.owner c.in-Some.ensures in
    let p = c.skip_entries.ensures in
    let q = c.skip_entries-in-Some.ensures in (
      record { older-stands = p.stands; older-done = p.done; newer-stands = q.stands; newer-done = q.done },
      subst (Ascending by_key) (sym p.series) up.0,
      subst (Ascending by_key) (sym q.series) up.1,
      ap₂ kinds_clash p.series q.series ∙ sym (rw c.if-kinds_differ.false at (clash-is (goal.at.loop-turn-preserved c).After-kinds_differ)),
    )

pub returns : goal.returns
returns c =
    let none = rw c.in_default.is at c.next_turn.ensures in
    sym (clash-none _ _ none.0 none.1) ∙ c.loop-turn.invariant.3
