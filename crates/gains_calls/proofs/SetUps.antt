-- Set-up's refusals, and the words that both calls begin with. Assumes nothing.
use mathlib.Core.Path.{◌≡◌, refl}
use mathlib.Core.List.{List, [], ◌∷◌}
use mathlib.Core.Bool.{Bool, true, false, cond}
use Prim.Native.Nat.{ℕ, ◌<◌}
use native.Mathlib.Omega.{arith}
use borrow.Author.Tests.{ltb-true}
use lib.Dec.{ltb}
use native.Mathlib.Nat.{mod-eq_of_lt}
use lib.ListN.{length}
use lib.Ieee.{Float}
use Rattle.answers.specs.Outcome.{refused, accepted}
use Rattle.answers.specs.Refusals.{PATTERN}
use Rattle.model.specs.Types.{jant_of}
use Rattle.model.specs.Limits.{slot}
use Rattle.ground.specs.Table.{table_of}
use Rattle.parameters.specs.Limits.{start_of, refusal_of}
use Rattle.search.specs.Search.{gainorm_of}
use Rattle.antenna.specs.TableSum.{table_sum}
use Rattle.antenna.specs.SetUp.{model_of, search_refused, accepted_of, found, searched, set_up_of}
use Rattle.antenna.specs.declared.record.Antenna.{Antenna}
use Rattle.search.specs.declared.record.Peak.{Peak}
use Rattle.antenna_laws.proofs.ReadingCount.{readings-fit}
use Rattle.packed.specs.Lists.{bits}
use Rattle.gains_calls.specs.Search.{search_words}

by_tests : {A : Type 0} (number n : ℕ) (b r : Bool) (x : A) → ltb 0 number ≡ b → cond b (refused number) (cond r (refused PATTERN) (accepted x)) ≡ refused n → 0 < n
by_tests number n true r x e h = let k : number ≡ n = cc in omega (arith, k, ltb-true 0 number e)
by_tests number n false true x e h = let k : PATTERN ≡ n = cc in omega (arith, k)
by_tests number n false false x e h = let z : ◌≡◌ {A = ℕ} 0 1 = cc in omega arith

-- no refusal is numbered 0
pub some_number : (p : List Float) (size n : ℕ) → set_up_of p size ≡ refused n → 0 < n
unfolding set_up_of searched found accepted_of
some_number p size n h =
    let iant = jant_of (slot p 1) in
    let m = model_of iant p in
    let s = gainorm_of m (table_of m) (start_of iant p) in
    by_tests (refusal_of iant p size) n (ltb 0 (refusal_of iant p size)) (search_refused s) (record { model = m; peak = s.peak; sum = table_sum (table_of m) }, s.tally.readings) refl h

pub four-words : (n : ℕ) (p : Peak) → length (search_words n p) ≡ 4
unfolding search_words
four-words n p = refl

-- the first of the words is the count itself
pub whole-count : (p : List Float) (size : ℕ) {a : Antenna} {n : ℕ} → set_up_of p size ≡ accepted (a, n)
    → search_words n a.peak ≡ n ∷ bits (a.peak.z6 ∷ a.peak.umax ∷ a.peak.vmax ∷ [])
unfolding search_words
whole-count p size h = rw (mod-eq_of_lt (readings-fit p size h))
