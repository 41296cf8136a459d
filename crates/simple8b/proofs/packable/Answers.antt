-- `simple8b::packable` meets its contract: std's test of all is the definitions' `every`.
use Rattle.std.proofs.Common.{rules, ◌≡◌, refl, ap, ◌∙◌, Bool, ℕ, List, [], ◌∷◌, ◌&&◌, leb}
use Rattle.std.specs.List.{list_all}
use Rattle.std.proofs.lemmas.Iterator.{YieldsList-from_slice}
use Rattle.std.proofs.lemmas.Iterator.Search.{all_from_yields_List}
use Rattle.format.specs.Choice.{every}
use Rattle.format.specs.Limits.{packed_most}
use Rattle.simple8b.proofs.packable.Goals as goal

every-all : (p : ℕ → Bool) (xs : List ℕ) → list_all p xs ≡ every p xs
every-all p [] = refl
every-all p (x ∷ xs) = ap (λ b. p x && b) (every-all p xs)

pub returns : goal.returns
returns c =
    all_from_yields_List (λ x. leb x packed_most) _ _ _ c.all.ensures.ran (YieldsList-from_slice c.args.numbers.now cc) (λ x b q k. search rules)
    ∙ every-all (λ x. leb x packed_most) c.args.numbers.now
