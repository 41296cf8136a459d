-- `merge` meets its contract: the full checks and the kinds decide, and images that pass are merged.
use Prim.Native.Nat.{ℕ}
use mathlib.Core.Path.{◌≡◌, ap, sym, ◌∙◌}
use mathlib.Core.Bool.{true}
use mathlib.Core.List.{List}
use borrow.Author.Rules.{rules}
use Rattle.std.specs.Prelude.{Err}
use Rattle.format.specs.Refusals.{Outcome, answer_of}
use Rattle.format.specs.File.{accepted}
use Rattle.format.specs.Acts.{laid, sized, written_says}
use Rattle.format.proofs.Answers.{checked-accepted}
use Rattle.merge.proofs.Acts.{merge-older, merge-newer, merge-clash, merge-fits, merged-good}
use Rattle.merge.proofs.merge.Goals as goal
use Rattle.merge.proofs.merge.Goals.{In_ok-check, In_ok-check-2}

older-good : (c : In_ok-check) → accepted c.args.older.now ≡ true
older-good c = checked-accepted c.args.older.now _ c.in_ok-check.ensures

newer-good : (c : In_ok-check-2) → accepted c.args.newer.now ≡ true
newer-good c = checked-accepted c.args.newer.now _ c.in_ok-check-2.ensures

pub returns-in_err-check : goal.returns-in_err-check
returns-in_err-check c =
    let a = c.args in
    let told : c.from_residual.result ≡ Err c.in_err-check.field-0.0 = search rules in
    let r = merge-older a.older.now a.newer.now a.out.now _ c.in_err-check.ensures in
    record { answer = ap written_says told ∙ r.0; laid = r.1 }

pub returns-in_err-check-2 : goal.returns-in_err-check-2
returns-in_err-check-2 c =
    let a = c.args in
    let told : c.from_residual-in_err-check-2.result ≡ Err c.in_err-check-2.field-0.0 = search rules in
    let r = merge-newer a.older.now a.newer.now a.out.now (older-good (goal.at.returns-in_err-check-2 c).In_ok-check) _ c.in_err-check-2.ensures in
    record { answer = ap written_says told ∙ r.0; laid = r.1 }

pub kinds_clash-requires : goal.kinds_clash-requires
kinds_clash-requires c = (older-good (goal.at.kinds_clash-requires c).In_ok-check, newer-good (goal.at.kinds_clash-requires c).In_ok-check-2)

pub returns-then-kinds_clash : goal.returns-then-kinds_clash
returns-then-kinds_clash c =
    let a = c.args in
    let at = goal.at.returns-then-kinds_clash c in
    let r = merge-clash a.older.now a.newer.now a.out.now (older-good at.In_ok-check) (newer-good at.In_ok-check-2) (sym c.kinds_clash.ensures ∙ c.if-kinds_clash.true) in
    record { answer = r.0; laid = r.1 }

pub merge_checked-requires : goal.merge_checked-requires
merge_checked-requires c =
    let at = goal.at.merge_checked-requires c in
    let o = older-good at.In_ok-check in
    let n = newer-good at.In_ok-check-2 in
    record {
      older-good = o;
      newer-good = n;
      good = merged-good (record { older = c.args.older; newer = c.args.newer }) o n (sym c.kinds_clash.ensures ∙ c.if-kinds_clash.false) (λ k. (c.type_inv.older k).fits) (λ k. (c.type_inv.newer k).fits);
    }

pub returns : goal.returns
returns c =
    let a = c.args in
    let at = goal.at.returns c in
    let same = merge-fits (record { older = a.older; newer = a.newer }) (older-good at.In_ok-check) (newer-good at.In_ok-check-2) (sym c.kinds_clash.ensures ∙ c.if-kinds_clash.false) a.out.now in
    let e = c.merge_checked.ensures in
    record { answer = e.answer ∙ ap (λ (r : Outcome (List ℕ)). answer_of (sized r)) same; laid = e.cells ∙ ap (λ (r : Outcome (List ℕ)). laid r a.out.now) same }
