-- What each answer of a step makes of the remarks. Assumes nothing.
use Prim.Native.Nat.{ℕ}
use mathlib.Core.Path.{◌≡◌, refl, ap}
use mathlib.Core.Bool.{Bool, ◌&&◌}
use mathlib.Core.List.{List, []}
use lib.ListN.{length}
use lib.Ieee.{Float}
use Rattle.answers.specs.Outcome.{Outcome, refused, accepted}
use Rattle.model.specs.Table.{blank_table}
use Rattle.model.proofs.BlankTable.{blank-length}
use Rattle.plate_row.specs.Row.{row_of, numbers_of}
use Rattle.request.specs.declared.Request.{Request}
use Rattle.request.specs.Request.{station_in, and_then, request_of, table_after}
use Rattle.plate_text.specs.Plate.{gain_at, row_numbers}
use Rattle.remarks.specs.Directions.{relative_at}
use Rattle.remarks.specs.Remarks.{by_ratio, off_band, row_remarks, remarked, plate_remarks, remarks_of}

-- ---- the first step decides

module _ {A : Type 0} (o : Outcome A) (text : A → List ℕ) where
  pub remarked_refused : (n : ℕ) → o ≡ refused n → remarked o text ≡ []
  unfolding remarked
  remarked_refused n e = ap (λ (p : Outcome A). remarked p text) e

  pub remarked_accepted : (x : A) → o ≡ accepted x → remarked o text ≡ text x
  unfolding remarked
  remarked_accepted x e = ap (λ (p : Outcome A). remarked p text) e

-- those on the row, by its numbers
pub remarks_of_row : (ratio : Bool) (q : Request) (t : List Float)
    → plate_remarks ratio q t ≡ remarked (row_numbers q t) λ (numbers : List Float). row_remarks (ratio && off_band q.parm) (gain_at q t) (relative_at q t)
unfolding plate_remarks row_numbers and_then remarked
remarks_of_row ratio q t = go (row_of q.antenna t q.elevation q.giso 360) (row_remarks (ratio && off_band q.parm) (gain_at q t) (relative_at q t))
  where
    go : (o : Outcome Float) (text : List ℕ)
        → remarked o (λ (x : Float). text) ≡ remarked (and_then o λ (x : Float). accepted (numbers_of q.antenna t q.elevation q.giso)) λ (numbers : List Float). text
    go (refused n) text = refl
    go (accepted x) text = refl

-- with a blank table lent
pub remarks_of_request : (input : List ℕ)
    → remarks_of input ≡ remarked (request_of input (length blank_table)) λ (q : Request). plate_remarks (by_ratio (station_in input)) q (table_after input blank_table)
unfolding remarks_of
remarks_of_request input = rw blank-length refl
