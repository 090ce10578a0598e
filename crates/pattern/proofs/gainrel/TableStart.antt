-- `gainrel` reads only the first 11,284 floats of its table: the search reads set-up's own table, and gain the longer lent one.
use mathlib.Core.Path.{◌≡◌, refl, sym, ap, ◌∙◌}
use mathlib.Core.Bool.{Bool, true, false}
use mathlib.Core.List.{List}
use Prim.Native.Nat.{ℕ, zero, suc, ◌≤◌, ◌<◌}
use native.Mathlib.Numerals.{add-one}
use native.Mathlib.Omega.{arith}
use lib.IntN.{ℤ, pos, negsuc}
use lib.ListN.{get_or, take}
use lib.Seq.{get_or-take}
use lib.Ieee.{Float, nan, to_signed}
use Rattle.floats.specs.Rounding.{clamp90, ifix_of}
use Rattle.model.specs.Counts.{elements_ok, counts_ok}
use Rattle.model.specs.Table.{table_size, cell}
use Rattle.model.specs.declared.record.Constants.{Constants}
use Rattle.model.specs.declared.record.Elements.{Elements}
use Rattle.model.specs.declared.record.Direction.{Direction}
use Rattle.model.specs.declared.record.Model.{Model}
use Rattle.model.proofs.ActiveElements.{active_below, active_named}
use Rattle.booms.specs.Boom.{entry_at, field_to, gain5, gain6}
use Rattle.pattern.specs.Gainrel.{gain_in, gain_rel}

-- an entry below n of two lists that begin alike
same-entry : (n : ℕ) (s t : List Float) → take n s ≡ take n t → (i : ℕ) → i < n → get_or s i nan ≡ get_or t i nan
same-entry n s t e i h = sym (get_or-take n s i nan h) ∙ ap (λ (l : List Float). get_or l i nan) e ∙ get_or-take n t i nan h

pub clamp_most : (z : ℤ) → clamp90 z ≤ 90
clamp_most (pos n) = omega arith
clamp_most (negsuc n) = omega arith

pub ifix_most : (x : Float) → ifix_of x ≤ 90
unfolding ifix_of
ifix_most x = clamp_most (to_signed 31 x)

module _ (s t : List Float) (alike : take table_size s ≡ take table_size t) (iu : ℕ) (u : iu ≤ 90) where
  at : (i : ℕ) → i < table_size → get_or s i nan ≡ get_or t i nan
  at = same-entry table_size s t alike

  entry_at-alike : (i : ℕ) → i < 31 → entry_at s iu i ≡ entry_at t iu i
  unfolding entry_at
  entry_at-alike i h = rw (at (cell 0 iu i) (omega arith), at (cell 1 iu i) (omega arith), at (cell 2 iu i) (omega arith), at (cell 3 iu i) (omega arith))

  module _ (k : Constants) (e : Elements) (ok : elements_ok e.iek e.nat ≡ true) (d : Direction) where
    active : (n : ℕ) → n < e.nat → get_or e.iek (suc n) 0 < 31
    active n h = rw add-one at (active_below e.iek e.nat n ok h)

    field_to-alike : (upright : Bool) (n : ℕ) → n ≤ e.nat → field_to upright k e s iu d n ≡ field_to upright k e t iu d n
    unfolding field_to
    field_to-alike upright zero h = refl
    field_to-alike upright (suc n) h = rw (entry_at-alike (get_or e.iek (suc n) 0) (active n h), field_to-alike upright n (omega arith))

    gain5-alike : gain5 k e s iu d ≡ gain5 k e t iu d
    unfolding gain5
    gain5-alike = rw (field_to-alike false e.nat (omega arith))

    gain6-alike : gain6 k e s iu d ≡ gain6 k e t iu d
    unfolding gain6
    gain6-alike = rw (field_to-alike true e.nat (omega arith))

pub gain_rel_table : (m : Model) → counts_ok m ≡ true → (s t : List Float) → take table_size s ≡ take table_size t → (u v : Float) → gain_rel m s u v ≡ gain_rel m t u v
unfolding gain_rel gain_in
gain_rel_table m ok s t alike u v =
    rw (
      gain5-alike s t alike (ifix_of u) (ifix_most u) m.constants m.elements (active_named m ok),
      gain6-alike s t alike (ifix_of u) (ifix_most u) m.constants m.elements (active_named m ok),
    )
