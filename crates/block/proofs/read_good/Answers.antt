-- `read_good` meets its contract: the points of a good block are those of its sections, so they are not refused.
use Rattle.std.proofs.Common.{rules, ◌≡◌, ℕ, ◌+◌, List, ap, sym, subst, ◌∙◌, drop}
use Rattle.format.specs.declared.Entry.{Entry}
use Rattle.format.specs.Refusals.{Outcome}
use Rattle.format.specs.Meaning.{Point}
use Rattle.format.specs.Block.{read_sections, read_block}
use Rattle.block.specs.Answers.{block_answer, PointsLaid}
use Rattle.block.proofs.Bodies.{Good, block-good}
use Rattle.block.proofs.read_good.Goals as goal
use Rattle.block.proofs.read_good.Goals.{After-read_sections}

pub read_sections-requires : goal.read_sections-requires
read_sections-requires c = ((block-good c.args.entry c.args.block.now c.requires.0).long, c.requires.1, search rules, search rules)

-- the sections are read
module _ (c : After-read_sections) where
  abbrev entry : Entry
  entry = c.args.entry

  abbrev block : List ℕ
  block = c.args.block.now

  good : Good entry block
  good = block-good entry block c.requires.0

  whole : read_sections entry.kind (5 + entry.offset.0) (drop 5 block) ≡ read_block entry block
  whole = good.sections ∙ sym good.read

  answer : c.read_sections.result ≡ block_answer (read_block entry block)
  answer = c.read_sections.ensures.answer ∙ ap block_answer whole

pub unwrap-requires : goal.unwrap-requires
unwrap-requires c = let r = (goal.at.unwrap-requires c).After-read_sections in rw (answer r ∙ ap block_answer (good r).read)

pub returns : goal.returns
returns c =
    let r = (goal.at.returns c).After-read_sections in
    let new = c.read_sections.new in record {
      count = sym c.unwrap.ensures ∙ answer r;
      cells = subst (λ (a : Outcome (List Point)). PointsLaid a c.args.columns.now.times new.times c.args.columns.now.values new.values) (whole r) c.read_sections.ensures.cells;
    }
