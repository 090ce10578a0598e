-- The first refusal on the way to a request.
use Prim.Native.Nat.{ℕ}
use mathlib.Core.Path.{◌≡◌}
use mathlib.Core.List.{List}
use lib.ListN.{length}
use borrow.Author.Tests.{ne_eqb}
use Rattle.answers.specs.Outcome.{refused}
use Rattle.answers.specs.Refusals.{RECORD}
use Rattle.request.specs.Request.{station_in, request_of}
use Rattle.request.proofs.Then.{then_refused}

pub length-refused : (input : List ℕ) (size : ℕ) → (length input ≡ 237 → ⊥) → request_of input size ≡ refused RECORD
unfolding request_of station_in
length-refused input size h = then_refused _ _ RECORD (rw (ne_eqb (length input) 237 h))
