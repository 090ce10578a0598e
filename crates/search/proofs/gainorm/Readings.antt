-- How often the search reads the gain, how long a plateau can get, and which gain stays.
use Rattle.std.proofs.Common.{◌≡◌, ◌+◌, ◌≤◌, Bool, true, false, cond, refl, inl, inr, arith}
use lib.Ieee.{Float, lt}
use Rattle.floats.specs.Ops.{◌⊕◌}
use Rattle.search.specs.Search.{tallied, azmax_read}
use Rattle.search.specs.declared.gainorm.Azimuths.{Azimuths}
use Rattle.search.proofs.Strict.{lt-le, le_of_not_lt}
use Rattle.search.proofs.gainorm.Passes.{Stays}

-- one reading more, at the next azimuth, and j one more at most; of the two gains the larger stays
pub record Read (s : Azimuths) (vm z9 : Float) (r : Azimuths) : Type 0 where
  pub counted : r.tally.readings ≡ s.tally.readings + 1
  pub told : r.tally ≡ tallied s.tally z9
  pub next : r.v ≡ s.v ⊕ vm
  pub plateau : r.j ≤ s.j + 1
  pub kept : Stays s.rmax z9 r.rmax

picked : (s : Azimuths) (vm z9 : Float) (p q : Bool) → lt z9 s.rmax ≡ p → lt s.rmax z9 ≡ q → (a b c : Azimuths)
    → (p ≡ true → Read s vm z9 a) → (q ≡ true → Read s vm z9 b) → (p ≡ false → Read s vm z9 c) → Read s vm z9 (cond p a (cond q b c))
picked s vm z9 true q e f a b c ha hb hc = ha refl
picked s vm z9 false true e f a b c ha hb hc = hb refl
picked s vm z9 false false e f a b c ha hb hc = hc refl

pub azmax_reads : (s : Azimuths) (vm z9 : Float) → Read s vm z9 (azmax_read s vm z9)
unfolding azmax_read tallied
azmax_reads s vm z9 =
    picked s vm z9 (lt z9 s.rmax) (lt s.rmax z9) refl refl _ _ _
    (λ e. record { counted = refl; told = refl; next = refl; plateau = omega arith; kept = λ p q. inr (refl, lt-le z9 s.rmax e) })
    (λ e. record { counted = refl; told = refl; next = refl; plateau = omega arith; kept = λ p q. inl (refl, lt-le s.rmax z9 e) })
    (λ e. record { counted = refl; told = refl; next = refl; plateau = omega arith; kept = λ p q. inl (refl, le_of_not_lt z9 s.rmax q p e) })
