-- `board_air::change::remove` meets its contract.
use mathlib.Core.Path.{refl, sym, ap, ◌∙◌}
use mathlib.Core.List.{List}
use Prim.Native.Nat.{ℕ, ◌-◌, ◌<◌}
use lib.ListN.{set, replicate, length-set}
use Rattle.words.specs.Laid.{laid}
use Rattle.board_air.specs.Words.{count_in, stations_on}
use Rattle.board_air.proofs.Good.{Good, good}
use Rattle.board_air.proofs.Changes.{remove_slot, remove_left}
use Rattle.board_air.proofs.Slots.{slot_on}
use native.Mathlib.Omega.{arith}
use Rattle.board_air.proofs.change.remove.Goals as goal
use Rattle.board_air.proofs.change.remove.Goals.{After-slot_of, After-unwrap-slot, Start}

known : (s : Start) → Good s.args.air.now
known s = good s.args.air.now s.requires.0

-- the one that leaves has a place below the count
inside : (c : After-unwrap-slot) → c.unwrap-slot.result < count_in c.args.air.now
inside c =
    let s = c in
    remove_slot s.args.air.now s.requires.0 (λ i. (c.slice_known-2-1.given i).fits) s.args.id (sym c.slot_of.ensures ∙ c.unwrap-slot.ensures)

pub bounds-air-0 : goal.bounds-air-0
bounds-air-0 c = omega (arith, (known (goal.at.bounds-air-0 c).Start).size)

pub slot_of-requires : goal.slot_of-requires
slot_of-requires c = ((known (goal.at.slot_of-requires c).Start).size, (known (goal.at.slot_of-requires c).Start).few)

pub unwrap-slot-requires : goal.unwrap-slot-requires
unfolding stations_on
unwrap-slot-requires c = rw c.slot_of.ensures (rw slot_on c.requires.1)

pub overflow_mul-slot : goal.overflow_mul-slot
overflow_mul-slot c = omega (arith, inside (goal.at.overflow_mul-slot c).After-unwrap-slot, (known (goal.at.overflow_mul-slot c).Start).few)

pub overflow_add-slot : goal.overflow_add-slot
overflow_add-slot c = omega (arith, inside (goal.at.overflow_add-slot c).After-unwrap-slot, (known (goal.at.overflow_add-slot c).Start).few)

pub close_gap-requires : goal.close_gap-requires
close_gap-requires c = omega (arith, inside (goal.at.close_gap-requires c).After-unwrap-slot, (known (goal.at.close_gap-requires c).Start).few, (known (goal.at.close_gap-requires c).Start).size)

pub clear-requires : goal.clear-requires
clear-requires c = omega (arith, (known (goal.at.clear-requires c).Start).size, c.close_gap.auto.words)

pub overflow_cast-air : goal.overflow_cast-air
overflow_cast-air c = omega (arith, (known (goal.at.overflow_cast-air c).Start).few)

pub overflow_sub-air : goal.overflow_sub-air
overflow_sub-air c = omega (arith, inside (goal.at.overflow_sub-air c).After-unwrap-slot)

pub bounds-air-0-2 : goal.bounds-air-0-2
bounds-air-0-2 c = omega (arith, (known (goal.at.bounds-air-0-2 c).Start).size, c.clear.auto.words, c.close_gap.auto.words)

pub shape_of-air : goal.shape_of-air
shape_of-air c = simp length-set (c.clear.auto.words ∙ c.close_gap.auto.words)

pub returns : goal.returns
returns c =
    let s = c in
    let air = s.args.air.now in
    let zeros = replicate {A = ℕ} 361 0 in
    ap (λ (l : List ℕ). set l 0 (count_in air - 1)) (c.clear.ensures ∙ ap (λ (l : List ℕ). laid l 5416 zeros) c.close_gap.ensures)
    ∙ remove_left air s.requires.0 (λ i. (c.slice_known-2-1.given i).fits) s.args.id (sym c.slot_of.ensures ∙ c.unwrap-slot.ensures) 361 refl
