-- A record that is read has finite floats, each in its place. Assumes nothing.
use mathlib.Core.Path.{◌≡◌, refl, sym, ap, ◌∙◌}
use mathlib.Core.Bool.{Bool, true, false, ◌&&◌, and-eq-true_iff}
use mathlib.Core.List.{List}
use Prim.Native.Nat.{ℕ, zero, suc, ◌+◌, ◌-◌, ◌*◌, ◌<◌}
use native.Mathlib.Omega.{arith}
use lib.Dec.{ltb}
use lib.ListN.{length, get_or, take, length-map}
use lib.Ieee.{Float, nan}
use lib.Ieee.Scale.{finite}
use borrow.Author.Tests.{ltb-true, ltb-false}
use Rattle.words.specs.Floats.{float_at}
use Rattle.words.proofs.Digits.{length_digits}
use Rattle.station.specs.declared.Station.{Station}
use Rattle.station.specs.Header.{width_of}
use Rattle.station.specs.Record.{words_in, floats_in, floats_of, edition_in, mode_in}
use Rattle.answers.specs.Outcome.{accepted}
use Rattle.station.specs.Answers.{read_of}
use Rattle.station.proofs.Arrays.{floats-back}
use Rattle.station.proofs.Finite.{finite-none}
use Rattle.station.proofs.RoundTrip.{accepted-read}
use Rattle.card_back.specs.Text.{place_in}
use Rattle.card_back.specs.Back.{finite_end}
use Rattle.card_back.specs.Inner.{Sound}

-- ---- the record's floats

module _ (record-bytes : List ℕ) (s : Station) (e : read_of record-bytes ≡ accepted s) where
  abbrev found : List Float
  found = floats_in (width_of (edition_in record-bytes)) record-bytes

  found-length : length found ≡ 56
  unfolding floats_in words_in
  found-length = simp (length-map, length_digits)

  are_found : floats_of s ≡ found
  are_found = ap floats_of (sym (accepted-read record-bytes s e).2) ∙ floats-back (mode_in record-bytes) found

  record_finite : (p : ℕ) → p < 56 → finite (get_or (floats_of s) p nan) ≡ true
  record_finite p h = rw are_found (go (finite (get_or found p nan)) refl)
    where
      go : (b : Bool) → finite (get_or found p nan) ≡ b → b ≡ true
      go true q = refl
      go false q = sym (finite-none found p (omega (arith, found-length)) q) ∙ (accepted-read record-bytes s e).1

-- ---- the three behind it

end_finite : (bytes : List ℕ) → finite_end bytes ≡ true → (d : ℕ) → d < 3 → finite (float_at bytes (225 + 4 * d)) ≡ true
unfolding finite_end
end_finite bytes e d h = go d h
  where
    three : ((finite (float_at bytes 225) && finite (float_at bytes 229)) ≡ true) × (finite (float_at bytes 233) ≡ true)
    three = (and-eq-true_iff (finite (float_at bytes 225) && finite (float_at bytes 229)) _).0 e

    two : (finite (float_at bytes 225) ≡ true) × (finite (float_at bytes 229) ≡ true)
    two = (and-eq-true_iff (finite (float_at bytes 225)) _).0 three.0

    go : (k : ℕ) → k < 3 → finite (float_at bytes (225 + 4 * k)) ≡ true
    go zero l = two.0
    go (suc zero) l = two.1
    go (suc (suc zero)) l = three.1
    go (suc (suc (suc k))) l = absurd (omega arith)

pub sound : (s : Station) (bytes : List ℕ) → length bytes ≡ 237 → read_of (take 225 bytes) ≡ accepted s → finite_end bytes ≡ true → Sound s bytes
unfolding place_in
sound s bytes n e f = record { long = n; finites = λ p h. go p h (ltb p 56) refl }
  where
    go : (p : ℕ) → p < 59 → (b : Bool) → ltb p 56 ≡ b → finite (place_in s bytes p) ≡ true
    go p h true q = rw q (record_finite (take 225 bytes) s e p (ltb-true p 56 q))
    go p h false q = rw q (end_finite bytes f (p - 56) (omega (arith, ltb-false p 56 q)))
