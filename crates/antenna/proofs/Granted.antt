-- What is known of a gain or a row where no number was given, and that it is enough.
use Rattle.std.proofs.Common.{◌≡◌, ℕ, ◌≤◌, Bool, true, false, not, ◌||◌, ltb, refl, ltb-false, le-ltb}
use borrow.Author.Tests.{not-false}
use Rattle.floats.proofs.Tests.{next}
use Rattle.model.specs.Counts.{counts_ok}
use Rattle.model.specs.Table.{table_size}
use Rattle.model.specs.Types.{type_ok}
use Rattle.model.specs.declared.record.Model.{Model}
use Rattle.antenna.specs.Asked.{asked_refusal}
use Rattle.antenna.specs.declared.asked.Asked.{Asked}

neither : (p q : Bool) → (p || q) ≡ false → (p ≡ false) × (q ≡ false)
neither true q h = cc
neither false q h = (refl, h)

pub record Granted (m : Model) (size : ℕ) (q : Asked) : Type 0 where
  pub values : q.values ≡ true
  pub type : type_ok m.iant ≡ true
  pub counts : counts_ok m ≡ true
  pub aim : q.aim ≡ true
  pub table : table_size ≤ size
  pub space : q.space ≡ true
  pub own : q.own ≡ true

pub granted : (m : Model) (size : ℕ) (q : Asked) → asked_refusal m size q ≡ 0 → Granted m size q
unfolding asked_refusal
granted m size q h =
    let v = next (not q.values) _ _ h in
    let t = next (not (type_ok m.iant)) _ _ v.1 in
    let k = next (not (counts_ok m)) _ _ t.1 in
    let a = next (not q.aim) _ _ k.1 in
    let r = next (ltb size table_size || not q.space) _ _ a.1 in
    let s = neither (ltb size table_size) (not q.space) r.0 in
    record {
      values = not-false q.values v.0;
      type = not-false _ t.0;
      counts = not-false (counts_ok m) k.0;
      aim = not-false q.aim a.0;
      table = ltb-false size table_size s.0;
      space = not-false q.space s.1;
      own = not-false q.own (next (not q.own) _ _ r.1).0;
    }

pub none-refused : (m : Model) (size : ℕ) (q : Asked) → Granted m size q → asked_refusal m size q ≡ 0
unfolding asked_refusal
none-refused m size q g = simp (g.values, g.type, g.counts, g.aim, le-ltb size table_size g.table, g.space, g.own)
