-- How long the sentences of a limit are at most. Assumes nothing.
use mathlib.Core.Bool.{Bool, true, false, cond, ◌||◌}
use mathlib.Core.List.{List}
use Prim.Native.Nat.{ℕ, ◌≤◌}
use lib.Dec.{eqb, lit≤}
use lib.ListN.{length}
use lib.Ieee.{Float, lt}
use Rattle.quoted.specs.Quoted.{quoted}
use Rattle.fields.specs.Names.{TYPE, DIPOLES, SLEW, ELEMENTS}
use Rattle.card_faults.specs.Limits.{is_band, is_azimuth, lowest, under, is_over, over, broken, refused_text}

either : (n : ℕ) (b : Bool) (s t : List ℕ) → length s ≤ n → length t ≤ n → length (cond b s t) ≤ n
either n true s t h k = h
either n false s t h k = k

under-short : (f : ℕ) → length (under f) ≤ 33
unfolding under quoted
under-short f = either 33 (is_band f) _ _ (lit≤ tt) (either 33 (eqb f ELEMENTS) _ _ (lit≤ tt) (either 33 (eqb f SLEW) _ _ (lit≤ tt) (lit≤ tt)))

over-short : (f number : ℕ) → length (over f number) ≤ 33
unfolding over quoted
over-short f number = either 33 (is_band f || eqb f ELEMENTS) _ _ (lit≤ tt) (either 33 (eqb f DIPOLES) _ _ (lit≤ tt) (either 33 (is_azimuth f number) _ _ (lit≤ tt) (lit≤ tt)))

pub broken_short : (f number : ℕ) (x : Float) → length (broken f number x) ≤ 33
unfolding broken quoted
broken_short f number x = either 33 (eqb f TYPE) _ _ (lit≤ tt) (either 33 (lt x (lowest f)) _ _ (under-short f) (either 33 (is_over f number x) _ _ (over-short f number) (lit≤ tt)))

pub refused_short : (n : ℕ) → length (refused_text n) ≤ 19
unfolding refused_text quoted
refused_short n = either 19 (eqb n 3) _ _ (lit≤ tt) (either 19 (eqb n 5) _ _ (lit≤ tt) (either 19 (eqb n 6) _ _ (lit≤ tt) (lit≤ tt)))
