-- `station::header::header_of` meets its contract. Assumes nothing.
use mathlib.Core.Path.{sym, subst}
use Prim.Native.Nat.{ℕ, ◌^◌, ◌<◌}
use native.Mathlib.Nat.{lt_of_lt_of_le}
use native.Mathlib.Omega.{arith}
use lib.Pow.{pow_mono}
use borrow.Author.Tests.{eq-eqb, ne_eqb}
use Rattle.station.specs.Header.{type_bits, width_of, type_field, header_of}
use Rattle.station.proofs.Headers.{width_small, header-small}
use Rattle.station.proofs.header.header_of.Goals as goal

pub returns-then-edition-eq0 : goal.returns-then-edition-eq0
unfolding header_of type_bits type_field
returns-then-edition-eq0 c = rw (eq-eqb _ _ c.if-edition-eq0.true) (omega (arith, c.if-edition-eq0.true))

pub returns : goal.returns
unfolding header_of type_bits type_field
returns c = rw (c.type_of.ensures, ne_eqb _ _ c.if-edition-eq0.false)

pub overflow_add-result-2 : goal.overflow_add-result-2
overflow_add-result-2 c =
    let start = c in
    let edition = start.args.edition in
    let small = header-small edition start.args.mode start.args.slot1 start.requires.0 start.requires.1 start.requires.2 in
    record { fits = subst (λ (n : ℕ). n < 2 ^ 32) (sym (returns c)) (lt_of_lt_of_le small (pow_mono {i = width_of edition} {j = 32} (omega (arith, width_small edition)))) }
