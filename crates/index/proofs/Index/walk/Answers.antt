-- `Index::walk` meets its contract: what is left from the cursor says the same as what is left from the one given.
use Rattle.std.proofs.Common.{rules, arith, ◌≡◌, [], ◌∷◌, refl, sym, ◌∙◌, Some, None}
use Rattle.std.specs.Prelude.{Ok}
use Rattle.index.specs.Cursors.{step_of, entries_at, rest, walked}
use Rattle.index.proofs.Faults.{keep}
use Rattle.index.proofs.Walks.{key_with}
use Rattle.index.proofs.Loops.{After, AfterKey, loop-open, AfterSkip, loop-skip}
use Rattle.index.proofs.Index.walk.Goals as goal
use Rattle.index.proofs.Index.walk.Goals.{After-open_key, After-skip_entries, In-Some}

-- what `open_key` answers gives the loop
opened : (c : After-open_key) →
    let p = c.args in
    After p.self.bytes.now p.self.start.0 (walked (rest p.self.bytes.now p.self.start.0 p.from)) c.loop-on.c walked (step_of c.open_key.result)
opened c =
    let p = c.args in
    loop-open p.self.bytes.now p.self.start.0 _ c.loop-on.c walked c.loop-on.invariant.0 c.loop-on.invariant.1 c.open_key.result (sym c.open_key.ensures)

-- the key that it gives
key : (c : In-Some) →
    let p = c.args in
    AfterKey p.self.bytes.now p.self.start.0 (walked (rest p.self.bytes.now p.self.start.0 p.from)) c.loop-on.c walked c.in-Some.on
key c =
    let p = c.args in
    let is : c.open_key.result ≡ Ok (Some c.in-Some.on) = search rules in
    loop-open p.self.bytes.now p.self.start.0 _ c.loop-on.c walked c.loop-on.invariant.0 c.loop-on.invariant.1 _ (sym c.open_key.ensures ∙ is)

-- what `skip_entries` answers gives the loop
skips : (c : After-skip_entries) →
    let p = c.args in
    AfterSkip p.self.bytes.now p.self.start.0 (walked (rest p.self.bytes.now p.self.start.0 p.from)) c.in-Some.on walked c.skip_entries.result
skips c =
    let p = c.args in
    let is : c.open_key.result ≡ Ok (Some c.in-Some.on) = search rules in
    let k = loop-open p.self.bytes.now p.self.start.0 _ c.loop-on.c walked c.loop-on.invariant.0 c.loop-on.invariant.1 _ (sym c.open_key.ensures ∙ is) in
    loop-skip p.self.bytes.now p.self.start.0 _ c.in-Some.on walked
    (k.on walked (λ later. keep _ _ (λ r. ([], key_with p.self.bytes.now c.in-Some.on r.0 ∷ r.1)) (λ r. refl) later))
    c.skip_entries.result (sym c.skip_entries.ensures)

pub skip_entries-requires : goal.skip_entries-requires
skip_entries-requires c = (key (goal.at.skip_entries-requires c).In-Some).step.sound

pub past_entries-c-requires : goal.past_entries-c-requires
past_entries-c-requires c =
    let s = (key (goal.at.past_entries-c-requires c).In-Some).step.sound in
    omega (arith, s.image, s.entries)

pub loop-on-smaller : goal.loop-on-smaller
loop-on-smaller c =
    let k = key (goal.at.loop-on-smaller c).In-Some in
    rw c.past_entries-c.ensures (omega (arith, k.step.further, k.step.sound.entries))

pub loop-on-preserved : goal.loop-on-preserved
loop-on-preserved c =
    let s = rw c.in_ok-ended.was at (skips (goal.at.loop-on-preserved c).After-skip_entries) in
    rw c.past_entries-c.ensures (s.on walked (λ later. keep _ _ (λ r. (entries_at c.args.self.bytes.now c.in-Some.on, r.1)) (λ r. refl) later), refl)

pub returns-in_err-on : goal.returns-in_err-on
returns-in_err-on c = let t = rw c.in_err-on.was at (opened (goal.at.returns-in_err-on c).After-open_key) in rw (← t) (search rules)

pub returns-in_err-ended : goal.returns-in_err-ended
returns-in_err-ended c = let t = rw c.in_err-ended.was at (skips (goal.at.returns-in_err-ended c).After-skip_entries) in rw (← t) (search rules)

pub returns : goal.returns
returns c =
    let is : c.open_key.result ≡ Ok None = search rules in
    rw is at (opened (goal.at.returns c).After-open_key)
