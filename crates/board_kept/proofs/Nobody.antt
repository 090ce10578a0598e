-- What is kept with nobody on. Assumes nothing.
use mathlib.Core.Path.{◌≡◌, refl, sym, ap, ◌∙◌}
use mathlib.Core.Bool.{true}
use mathlib.Core.List.{[]}
use Prim.Native.Nat.{ℕ, ◌<◌}
use lib.ListN.{get_or-replicate}
use lib.Dec.{lit<}
use lib.Ieee.{nan, binary32, of_bits, to_bits, neg}
use lib.Ieee.Scale.{finite}
use Rattle.floats.specs.Literals.{thirty}
use Rattle.board_air.specs.Stations.{nobody}
use Rattle.board_air.specs.Words.{kept_of}
use Rattle.board_kept.specs.Steps.{entry, entry_of, kept_by}
use Rattle.board_air.proofs.Ranks.{shown-none}
use Rattle.board_air.proofs.Bits.{bits_back}
use Rattle.board_kept.proofs.Writing.{kept_by_lem, by-same}

-- -30 by its bits
thirty-down : neg thirty ≡ of_bits binary32 0xC1F00000
unfolding neg of_bits
thirty-down = refl

finite-thirty : finite (of_bits binary32 0xC1F00000) ≡ true
unfolding of_bits
finite-thirty = refl

pub nobody-entry : (v : ℕ) → v < 360 → entry 0xC1F00000 0 ≡ entry_of v nobody
unfolding nobody
nobody-entry v h =
    let number = get_or-replicate 360 v (neg thirty) nan h ∙ thirty-down in
    let bits = ap (to_bits binary32) number ∙ bits_back 0xC1F00000 (lit< tt) finite-thirty in
    ap (λ (b : ℕ). entry b 0) (sym bits)

pub kept-none : kept_by (λ (v : ℕ). entry 0xC1F00000 0) ≡ kept_of []
kept-none = by-same (λ v h. nobody-entry v h ∙ ap (entry_of v) (sym (shown-none v))) ∙ sym (kept_by_lem [])
