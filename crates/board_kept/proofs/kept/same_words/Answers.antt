-- `board_kept::kept::same_words` meets its contract.
use Rattle.std.proofs.Common.{◌≡◌, ℕ, List, [], ◌∷◌, ◌&&◌, eqb, refl, ap, ◌∙◌}
use Rattle.std.specs.Cmp.Lexicographic.{pointwise}
use Rattle.board_air.specs.Words.{same_words}
use Rattle.board_kept.proofs.kept.same_words.Goals as goal

word-by-word : (a b : List ℕ) → pointwise eqb a b ≡ same_words a b
unfolding same_words
word-by-word [] [] = refl
word-by-word [] (y ∷ ys) = refl
word-by-word (x ∷ xs) [] = refl
word-by-word (x ∷ xs) (y ∷ ys) = ap (λ t. eqb x y && t) (word-by-word xs ys)

pub returns : goal.returns
returns c = c.eq.ensures ∙ word-by-word c.args.a.now c.args.b.now
