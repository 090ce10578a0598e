-- `curve::has_floor` meets its contract. Assumes nothing.
use Rattle.std.proofs.Common.{◌≡◌, ℕ, ◌<◌, Bool, true, false, List, length, MatchBool, sym, rules, tests, arith}
use Rattle.std.specs.List.{HoldsAt, AllWithin}
use Rattle.std.proofs.lemmas.Iterator.{cases_from_any, YieldsList-from_slice}
use Rattle.answers.specs.declared.Kind.{Kind}
use Rattle.answers.specs.declared.Kind.TheVariants as kind
use Rattle.dial.specs.Kinds.{is_floor}
use Rattle.curve.specs.Curve.{has_floor}
use Rattle.curve.proofs.Laws.{floor-found, floor-none}
use Rattle.curve.proofs.has_floor.Goals as goal

Floor : Kind → Type 0
Floor k = is_floor k ≡ true

Other : Kind → Type 0
Other k = is_floor k ≡ false

below : (kinds : List Kind) (r : Bool) → length kinds ≡ 360 → MatchBool r ((k : ℕ) × (k < length kinds) × HoldsAt Floor kinds k) (AllWithin Other kinds 0 (length kinds)) → r ≡ has_floor kinds
unfolding has_floor Floor Other
below kinds true e h = sym (floor-found kinds 360 h.0 (omega (arith, h.1)) (h.2 kind.Level))
below kinds false e h = sym (floor-none kinds 360 (λ v i. h v kind.Level (omega arith) (omega arith)))

pub returns : goal.returns
unfolding Floor Other
returns c =
    let kinds = c.args.kinds.now in
    below kinds _ (c.told-kinds) (cases_from_any _ _ _ Floor Other c.any.ensures.ran (YieldsList-from_slice kinds cc) (λ x q k. search (rules, tests)) (λ x q k. search (rules, tests)))
