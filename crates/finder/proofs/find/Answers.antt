-- `finder::find` meets its contract: with a good frame, the search from the first cursor reads the whole index.
use Rattle.std.proofs.Common.{rules, arith, List, sym, ap, ◌∙◌}
use mir.Syntax.{w64}
use mir.ValLaws.{to_z-of_z}
use Rattle.format.specs.declared.Entry.{Entry}
use Rattle.format.specs.Refusals.{Outcome, answer_of}
use Rattle.format.specs.Index.{IndexKey}
use Rattle.index.proofs.Frames.{IndexStartsAt, frame-start, part-start, frame_refused}
use Rattle.index.proofs.Steps.{index-rest, part_length}
use Rattle.finder.specs.Searches.{search_from}
use Rattle.finder.proofs.Searches.{search-whole, find-refused}
use Rattle.finder.proofs.find.Goals as goal
use Rattle.finder.proofs.find.Goals.{In_ok-start}

-- what a good frame says
starts : (c : In_ok-start) → IndexStartsAt c.args.image.now c.in_ok-start.start
starts c = frame-start c.args.image.now c.in_ok-start.start (sym c.check_frame.ensures ∙ c.in_ok-start.was)

pub returns-in_err-start : goal.returns-in_err-start
returns-in_err-start c =
    let p = c.args in
    let no = find-refused p.key.now p.time p.image.now _ _ (frame_refused p.image.now _ (sym c.check_frame.ensures ∙ c.in_err-start.was)) in
    rw (← no) (search rules)

pub part_of-requires : goal.part_of-requires
part_of-requires c = part-start _ _ (starts (goal.at.part_of-requires c).In_ok-start)

pub search_index-requires : goal.search_index-requires
search_index-requires c =
    let image = c.args.image.now in
    let s = starts (goal.at.search_index-requires c).In_ok-start in
    rw (c.part_of.ensures.bytes, c.part_of.ensures.start) (omega (arith, part_length image c.in_ok-start.start s, s.framed), omega (arith, s.start, s.framed))

pub returns : goal.returns
returns c =
    let p = c.args in
    rw (c.part_of.ensures.bytes, c.part_of.ensures.start, to_z-of_z w64 p.time c.ranges.time) at c.search_index.ensures
    ∙ ap (λ (r : Outcome (List Entry × List IndexKey)). answer_of (search_from p.key.now p.time r)) (index-rest p.image.now c.in_ok-start.start (starts (goal.at.returns c).In_ok-start))
    ∙ ap answer_of (search-whole p.key.now p.time p.image.now)
