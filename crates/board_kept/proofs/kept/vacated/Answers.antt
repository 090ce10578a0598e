-- `board_kept::kept::vacated` meets its contract.
use mathlib.Core.Path.{◌≡◌, refl, sym, ap, ◌∙◌}
use mathlib.Core.List.{List, []}
use Prim.Native.Nat.{ℕ, ◌+◌, ◌<◌}
use lib.ListN.{length, get_or, set}
use borrow.Author.Tests.{eq-eqb, ne_eqb}
use Rattle.board_kept.specs.Steps.{entry, entry_of, entry_in, renewed}
use Rattle.board_kept.specs.declared.kept.Entry.{Entry}
use Rattle.board_air.proofs.Ranks.{shown-none}
use Rattle.board_kept.proofs.Writing.{written_to, written-length, written_none, written-more, written_all}
use Rattle.board_kept.proofs.Nobody.{nobody-entry}
use native.Mathlib.Omega.{arith}
use Rattle.board_kept.proofs.kept.vacated.Invariants.{blank}
use Rattle.board_kept.proofs.kept.vacated.Goals as goal

-- where the one gone was shown, and elsewhere
gone-there : (kept : List ℕ) (gone v : ℕ) → v < 360 → get_or kept (360 + v) 0 ≡ gone → entry 0xC1F00000 0 ≡ renewed gone [] kept v
gone-there kept gone v low same = rw (eq-eqb (get_or kept (360 + v) 0) gone same) (nobody-entry v low ∙ ap (entry_of v) (sym (shown-none v)))

another-there : (kept : List ℕ) (gone v : ℕ) → (get_or kept (360 + v) 0 ≡ gone → ⊥) → entry_in kept v ≡ renewed gone [] kept v
another-there kept gone v differ = rw (ne_eqb (get_or kept (360 + v) 0) gone differ)

-- one azimuth more, whichever entry it gets
one-written : (f : ℕ → Entry) {l m : List ℕ} {v : ℕ} {e : Entry} → l ≡ written_to f blank v → v < 360 → m ≡ set (set l v e.bits) (360 + v) e.id → e ≡ f v → m ≡ written_to f blank (v + 1)
one-written f {l} {m} {v} {e} before low after here =
    after ∙ ap (λ (k : List ℕ). set (set k v e.bits) (360 + v) e.id) before ∙ written-more f blank refl v low here

pub loop-v-init : goal.loop-v-init
loop-v-init c =
    let a = c.args in
    written_none (renewed a.gone [] a.kept.now) blank refl

pub entry_in-was-requires : goal.entry_in-was-requires
entry_in-was-requires c = (c.requires, omega arith)

pub slice_bounds-put_entry-end : goal.slice_bounds-put_entry-end
slice_bounds-put_entry-end c =
    let head = c.loop-v in
    let a = c.args in
    sym (ap length head.invariant ∙ written-length (renewed a.gone [] a.kept.now) blank refl head.v (omega arith))

pub put_entry-requires : goal.put_entry-requires
put_entry-requires c =
    let head = c.loop-v in
    let a = c.args in
    (ap length head.invariant ∙ written-length (renewed a.gone [] a.kept.now) blank refl head.v (omega arith), omega arith)

pub loop-v-preserved : goal.loop-v-preserved
loop-v-preserved c =
    let a = c.args in
    let f = renewed a.gone [] a.kept.now in
    let was = c.entry_in-was.ensures in
    let id = ap (λ (e : Entry). e.id) was in
    one-written f c.loop-v.invariant (omega arith) c.put_entry.ensures (grind (arith, was, id, gone-there, another-there))

pub returns : goal.returns
returns c =
    let a = c.args in
    c.loop-v.invariant ∙ written_all (renewed a.gone [] a.kept.now) blank refl c.loop-v.v (omega arith)
