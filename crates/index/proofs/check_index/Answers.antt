-- `index::check_index` meets its contract: with a good frame, the walk from the first cursor reads the whole index.
use Rattle.std.proofs.Common.{rules, ◌≡◌, [], refl, ap, sym, ◌∙◌}
use Rattle.format.specs.File.{read_index}
use Rattle.index.specs.Cursors.{walked}
use Rattle.index.specs.Frames.{index_at}
use Rattle.index.proofs.Faults.{keep, value_of, refusal_of}
use Rattle.index.proofs.Frames.{IndexStartsAt, frame-start, part-start, frame_refused}
use Rattle.index.proofs.Steps.{index-rest, image-sound}
use Rattle.index.proofs.check_index.Goals as goal
use Rattle.index.proofs.check_index.Goals.{In_ok-start, After-walk}

-- what a good frame says
starts : (c : In_ok-start) → IndexStartsAt c.args.image.now c.in_ok-start.start
starts c = frame-start c.args.image.now c.in_ok-start.start (sym c.check_frame.ensures ∙ c.in_ok-start.was)

-- the walk answers what reading the whole index does
walks : (c : After-walk) → c.walk.result ≡ walked (read_index c.args.image.now)
walks c =
    let image = c.args.image.now in
    let p = c.in_ok-start.start in
    let s = frame-start image p (sym c.check_frame.ensures ∙ c.in_ok-start.was) in
    rw (c.first.ensures, c.part_of.ensures.bytes, c.part_of.ensures.start) at c.walk.ensures
    ∙ ap walked (index-rest image p s)
    ∙ keep _ _ (λ ks. ([], ks)) (λ ks. refl) (read_index image)

pub returns-in_err-start : goal.returns-in_err-start
unfolding index_at
returns-in_err-start c =
    let e = frame_refused c.args.image.now _ (sym c.check_frame.ensures ∙ c.in_err-start.was) in
    rw e (search rules)

pub part_of-requires : goal.part_of-requires
part_of-requires c = part-start _ _ (starts (goal.at.part_of-requires c).In_ok-start)

pub walk-requires : goal.walk-requires
walk-requires c =
    rw (c.first.ensures, c.part_of.ensures.bytes, c.part_of.ensures.start) (image-sound c.args.image.now c.in_ok-start.start (starts (goal.at.walk-requires c).In_ok-start), refl)

pub returns-in_err-walk : goal.returns-in_err-walk
unfolding index_at
returns-in_err-walk c =
    let e = refusal_of _ (read_index c.args.image.now) _ (sym (walks (goal.at.returns-in_err-walk c).After-walk) ∙ c.in_err-walk.was) in
    rw e (search rules)

pub returns : goal.returns
unfolding index_at
returns c =
    let g = value_of _ (read_index c.args.image.now) _ (sym (walks (goal.at.returns c).After-walk) ∙ c.in_ok-walk.was) in
    rw (g.1, (starts (goal.at.returns c).In_ok-start).start) refl
