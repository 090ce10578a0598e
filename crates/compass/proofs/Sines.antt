-- The code's table holds the sine of each place's degrees; and no sine is over one. Assumes nothing.
use mathlib.Core.Path.{◌≡◌}
use Prim.Native.Nat.{ℕ, ◌+◌, ◌*◌, ◌/◌, ◌≤◌, ◌<◌, ◌^◌}
use mathlib.Core.Bool.{Bool}
use mathlib.Core.List.{List, [], ◌∷◌}
use native.Mathlib.Nat.{min-le_right, mul-le-mul_left}
use native.Mathlib.Omega.{arith}
use lib.Dec.{eqb, eqb→eq}
use lib.ListN.{get_or}
use Rattle.sine.specs.Sine.{next_term, sums, cut, sine_units}
use Rattle.compass.specs.Compass.{units_of, sine_size}
use Rattle.compass.proofs.Tests.{all, at}

sine-at-most : (t : ℕ) → sine_units t ≤ 2 ^ 30
unfolding sine_units cut
sine-at-most t = min-le_right _ _

pub size-at-most : (v : ℕ) → sine_size v ≤ 2 ^ 30
unfolding sine_size
size-at-most v = sine-at-most _

-- so no part of r is over r
pub part-at-most : (r s : ℕ) → s ≤ 2 ^ 30 → (r * s + 2 ^ 29) / 2 ^ 30 ≤ r
part-at-most r s h = let m : r * s ≤ r * 2 ^ 30 = mul-le-mul_left r h in omega arith

abbrev pub sines : List ℕ
sines = 0 ∷ 18739379 ∷ 37473049 ∷ 56195305 ∷ 74900442 ∷ 93582766 ∷ 112236582 ∷ 130856211 ∷ 149435979 ∷ 167970228 ∷ 186453311 ∷ 204879598 ∷ 223243478 ∷ 241539355 ∷ 259761657 ∷ 277904835 ∷ 295963357 ∷ 313931727 ∷ 331804471 ∷ 349576144 ∷ 367241332 ∷ 384794656 ∷ 402230766 ∷ 419544354 ∷ 436730145 ∷ 453782902 ∷ 470697434 ∷ 487468587 ∷ 504091252 ∷ 520560366 ∷ 536870912 ∷ 553017921 ∷ 568996477 ∷ 584801710 ∷ 600428807 ∷ 615873009 ∷ 631129609 ∷ 646193960 ∷ 661061475 ∷ 675727624 ∷ 690187941 ∷ 704438018 ∷ 718473518 ∷ 732290164 ∷ 745883746 ∷ 759250125 ∷ 772385230 ∷ 785285056 ∷ 797945680 ∷ 810363242 ∷ 822533958 ∷ 834454122 ∷ 846120104 ∷ 857528349 ∷ 868675384 ∷ 879557810 ∷ 890172316 ∷ 900515666 ∷ 910584710 ∷ 920376381 ∷ 929887696 ∷ 939115759 ∷ 948057759 ∷ 956710970 ∷ 965072759 ∷ 973140576 ∷ 980911966 ∷ 988384560 ∷ 995556083 ∷ 1002424350 ∷ 1008987268 ∷ 1015242840 ∷ 1021189159 ∷ 1026824413 ∷ 1032146887 ∷ 1037154957 ∷ 1041847104 ∷ 1046221891 ∷ 1050277989 ∷ 1054014162 ∷ 1057429273 ∷ 1060522280 ∷ 1063292243 ∷ 1065738316 ∷ 1067859754 ∷ 1069655913 ∷ 1071126243 ∷ 1072270299 ∷ 1073087729 ∷ 1073578289 ∷ 1073741824 ∷ []

is_sine : ℕ → Bool
is_sine d = eqb (get_or sines d 0) (sine_units (units_of d))

pub sines_are : (d : ℕ) → d < 91 → get_or sines d 0 ≡ sine_units (units_of d)
unfolding is_sine all sine_units cut sums next_term units_of
sines_are d h = eqb→eq _ _ (at is_sine 91 tt d h)
