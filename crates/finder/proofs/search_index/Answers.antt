-- `finder::search_index` meets its contract: what is left from the cursor decides the search as the whole index does.
use Rattle.std.proofs.Common.{rules, arith, ◌≡◌, Bool, refl, ap, sym, ◌∙◌, Some, None}
use Rattle.std.specs.Prelude.{Ok, Err}
use mir.Syntax.{w64}
use mir.ValLaws.{to_z-of_z}
use Rattle.format.specs.declared.Entry.{Entry}
use Rattle.format.specs.declared.ImagePlace.{ImagePlace}
use Rattle.format.specs.Choice.{same_list}
use Rattle.format.specs.Refusals.{Answer}
use Rattle.format.specs.Find.{entries_of}
use Rattle.index.specs.Cursors.{key_at, step_of, entries_at, past_entries, first_cursor, rest}
use Rattle.index.proofs.Walks.{Remaining}
use Rattle.index.proofs.Skips.{before_entries}
use Rattle.index.proofs.Loops.{Deciding, After, AfterKey, loop-open, AfterSkip, loop-skip}
use Rattle.finder.proofs.Searches.{decides, decides_in, decides-key, decides-met, decides-other}
use Rattle.finder.proofs.search_index.Goals as goal
use Rattle.finder.proofs.search_index.Goals.{After-open_key, After-skip_entries, In-Some}

-- what `open_key` answers gives the loop
opened : (c : After-open_key) →
    let p = c.args in
    After p.index.bytes.now p.index.start.0 (decides p.key.now p.time (rest p.index.bytes.now p.index.start.0 first_cursor)) c.loop-met.c (decides p.key.now p.time) (step_of c.open_key.result)
opened c =
    let p = c.args in
    loop-open p.index.bytes.now p.index.start.0 _ c.loop-met.c (decides p.key.now p.time) (rw (to_z-of_z w64 p.time c.ranges.time) at c.loop-met.invariant.0) c.loop-met.invariant.1 c.open_key.result (sym c.open_key.ensures)

-- the key that it gives
key : (c : In-Some) →
    let p = c.args in
    AfterKey p.index.bytes.now p.index.start.0 (decides p.key.now p.time (rest p.index.bytes.now p.index.start.0 first_cursor)) c.loop-met.c (decides p.key.now p.time) c.in-Some.met
key c =
    let p = c.args in
    let is : c.open_key.result ≡ Ok (Some c.in-Some.met) = search rules in
    loop-open p.index.bytes.now p.index.start.0 _ c.loop-met.c (decides p.key.now p.time) (rw (to_z-of_z w64 p.time c.ranges.time) at c.loop-met.invariant.0) c.loop-met.invariant.1 _ (sym c.open_key.ensures ∙ is)

-- what `skip_entries` answers gives the loop, where the key is the one asked for or not
skips : (c : After-skip_entries) →
    let p = c.args in
    AfterSkip p.index.bytes.now p.index.start.0 (decides p.key.now p.time (rest p.index.bytes.now p.index.start.0 first_cursor)) c.in-Some.met
    (decides_in p.key.now p.time (same_list (key_at p.index.bytes.now c.in-Some.met.key) p.key.now)) c.skip_entries.result
skips c =
    let p = c.args in
    let met = c.in-Some.met in
    let is : c.open_key.result ≡ Ok (Some met) = search rules in
    let k = loop-open p.index.bytes.now p.index.start.0 _ c.loop-met.c (decides p.key.now p.time) (rw (to_z-of_z w64 p.time c.ranges.time) at c.loop-met.invariant.0) c.loop-met.invariant.1 _ (sym c.open_key.ensures ∙ is) in
    loop-skip p.index.bytes.now p.index.start.0 _ met (decides_in p.key.now p.time (same_list (key_at p.index.bytes.now met.key) p.key.now))
    (k.on _ (decides-key p.key.now p.time p.index.bytes.now met))
    c.skip_entries.result (sym c.skip_entries.ensures)

-- past the entries of the key, which is the one asked for or not
on : (c : After-skip_entries) →
    let p = c.args in
    let met = c.in-Some.met in
    (t : Bool) → same_list (key_at p.index.bytes.now met.key) p.key.now ≡ t → (last : ImagePlace) → c.skip_entries.result ≡ Ok last → (next : Remaining → Answer Entry)
    → ((later : Remaining) → decides_in p.key.now p.time t (before_entries (entries_at p.index.bytes.now met) later) ≡ next later)
    → Deciding p.index.bytes.now p.index.start.0 (decides p.key.now p.time (rest p.index.bytes.now p.index.start.0 first_cursor)) (past_entries met last) next
on c t e last is next agree =
    let p = c.args in
    let met = c.in-Some.met in
    let s = rw is at (skips c) in
    s.on next
    (λ later. ap (λ (b : Bool). decides_in p.key.now p.time b (before_entries (entries_at p.index.bytes.now met) later)) e ∙ agree later)

pub skip_entries-requires : goal.skip_entries-requires
skip_entries-requires c = (key (goal.at.skip_entries-requires c).In-Some).step.sound

pub past_entries-past-requires : goal.past_entries-past-requires
past_entries-past-requires c =
    let s = (key (goal.at.past_entries-past-requires c).In-Some).step.sound in
    omega (arith, s.image, s.entries)

pub same_key-requires : goal.same_key-requires
same_key-requires c = (key (goal.at.same_key-requires c).In-Some).step.sound.key

pub search_key-requires : goal.search_key-requires
search_key-requires c =
    let s = rw c.in_ok-ended.was at (skips (goal.at.search_key-requires c).After-skip_entries) in
    rw c.past_entries-past.ensures ((key (goal.at.search_key-requires c).In-Some).step.sound, s.step.sound, refl)

pub returns-then-same_key : goal.returns-then-same_key
returns-then-same_key c =
    let p = c.args in
    rw (c.past_entries-past.ensures, to_z-of_z w64 p.time c.ranges.time) at c.search_key.ensures
    ∙ (on (goal.at.returns-then-same_key c).After-skip_entries _ (sym c.same_key.ensures ∙ c.if-same_key.true) _ c.in_ok-ended.was _ (decides-met p.key.now p.time (entries_at p.index.bytes.now c.in-Some.met))).same

pub loop-met-smaller : goal.loop-met-smaller
loop-met-smaller c =
    let k = key (goal.at.loop-met-smaller c).In-Some in
    rw c.past_entries-past.ensures (omega (arith, k.step.further, k.step.sound.entries))

pub loop-met-preserved : goal.loop-met-preserved
loop-met-preserved c =
    let p = c.args in
    rw (c.past_entries-past.ensures, to_z-of_z w64 p.time c.ranges.time) (
      on (goal.at.loop-met-preserved c).After-skip_entries _ (sym c.same_key.ensures ∙ c.if-same_key.false) _ c.in_ok-ended.was _ (decides-other p.key.now p.time (entries_at p.index.bytes.now c.in-Some.met)),
      refl,
    )

pub returns-in_err-ended : goal.returns-in_err-ended
returns-in_err-ended c = let t = rw c.in_err-ended.was at (skips (goal.at.returns-in_err-ended c).After-skip_entries) in rw (← t) (search rules)

pub returns-in_err-met : goal.returns-in_err-met
returns-in_err-met c =
    let is : c.open_key.result ≡ Err c.in_err-met.field-0.0 = search rules in
    let t = rw is at (opened (goal.at.returns-in_err-met c).After-open_key) in
    rw (← t) (search rules)

pub returns : goal.returns
unfolding entries_of
returns c =
    let is : c.open_key.result ≡ Ok None = search rules in
    rw is at (opened (goal.at.returns c).After-open_key)
