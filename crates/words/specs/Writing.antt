-- What it is to write into a lent buffer, and on a page. Definitions only.
use Rattle.std.specs.Prelude.{ℕ, ◌+◌, ◌≤◌, ◌≡◌, List, ◌++◌, length}
use Rattle.words.specs.Laid.{laid}

-- s was written over l from index at on, which left m, and next is the index after it
pub record Wrote (l : List ℕ) (at : ℕ) (s m : List ℕ) (next : ℕ) : Type 0 where
  pub bytes : m ≡ laid l at s
  pub after : next ≡ at + length s

-- s was written after l, which left m, in at most k bytes
pub record Put (k : ℕ) (l s m : List ℕ) : Type 0 where
  pub text : m ≡ l ++ s
  pub room : length m ≤ length l + k
