-- With the antenna record and the table that set-up left, gain and row are never refused for record, type, space or table.
use Prim.Native.Nat.{ℕ, ◌≤◌}
use mathlib.Core.Path.{◌≡◌, refl, sym, ap, ◌∙◌}
use mathlib.Core.Bool.{Bool, true, false, cond, false≢true}
use mathlib.Core.List.{List}
use native.Mathlib.Omega.{arith}
use borrow.Author.Tests.{eq-eqb}
use lib.ListN.{length}
use lib.Ieee.{Float, nan, inf, fin, le, of_bits}
use lib.Ieee.Scale.{finite}
use Rattle.answers.specs.Outcome.{refused, accepted}
use Rattle.answers.specs.Refusals.{TYPE}
use Rattle.floats.specs.Ranges.{between}
use Rattle.words.specs.Laid.{laid}
use Rattle.words.proofs.Laid.{laid-length}
use Rattle.model.specs.Types.{jant_of, type_ok, log_periodic}
use Rattle.model.specs.Counts.{counts_ok}
use Rattle.model.specs.Limits.{slot}
use Rattle.model.specs.Table.{table_size}
use Rattle.ground.specs.Table.{table_of}
use Rattle.ground.proofs.Laws.{table_length}
use Rattle.logperiodic.specs.Active.{Listed}
use Rattle.logperiodic.specs.LogPeriodic.{log_parm}
use Rattle.logperiodic.proofs.Laws.{logparm_listed}
use Rattle.parameters.specs.Limits.{slots_ok, aim_ok, nel_of}
use Rattle.parameters.specs.TypeConstants.{rlambda_of, beta_of}
use Rattle.antenna.specs.SetUp.{design_of, no_elements, elements_of, model_of, set_up_of, no_antenna, kept_after, lent_after}
use Rattle.antenna.specs.TableSum.{table_sum, own_table}
use Rattle.antenna.specs.Asked.{asked_refusal}
use Rattle.antenna.specs.Gain.{graded, number_at, gain_asked, gain_of}
use Rattle.plate_row.specs.Row.{elevation_ok, numbers_of, measured, row_asked, row_of}
use Rattle.antenna.specs.declared.record.Antenna.{Antenna}
use Rattle.antenna.proofs.Granted.{Granted, none-refused}
use Rattle.antenna_laws.proofs.Outcomes.{accepted_only_when, accepted_model, accepted-sum}
use Rattle.antenna.proofs.TableSum.{sum_laid}
use Rattle.antenna.proofs.setup.Accepted.{accepted_limits, nel_bounds, none_listed, constant_counts, counts_made}

by_family : (iant : ℕ) (p : List Float) (b : Bool) → log_periodic iant ≡ b → slots_ok iant p ≡ true
    → let e = (cond b (log_parm iant (nel_of p) (design_of p) (rlambda_of p) (beta_of p)) no_elements).elements in Listed e.iek e.nat
by_family iant p true t h = logparm_listed iant (nel_of p) (design_of p) (rlambda_of p) (beta_of p) (nel_bounds iant p t h).1
by_family iant p false t h = none_listed

listed : (iant : ℕ) (p : List Float) → slots_ok iant p ≡ true → let e = (elements_of iant p).elements in Listed e.iek e.nat
unfolding elements_of
listed iant p h = by_family iant p (log_periodic iant) refl h

elevation-finite : (u : Float) → elevation_ok u ≡ true → finite u ≡ true
unfolding elevation_ok between le of_bits
elevation-finite nan h = absurd (false≢true h)
elevation-finite (inf true) h = absurd (false≢true h)
elevation-finite (inf false) h = absurd (false≢true h)
elevation-finite (fin s m e) h = refl

module _ (p lent : List Float) {a : Antenna} {n : ℕ} (h : set_up_of p (length lent) ≡ accepted (a, n)) where
  limits : (slots_ok (jant_of (slot p 1)) p ≡ true) × (table_size ≤ length lent) × (type_ok (jant_of (slot p 1)) ≡ true)
      × (aim_ok (jant_of (slot p 1)) p ≡ true)
  limits = accepted_limits (jant_of (slot p 1)) p (length lent) (accepted_only_when p (length lent) h).limits

  pub accepted-type : type_ok a.model.iant ≡ true
  unfolding model_of
  accepted-type = rw (accepted_model p (length lent) h) limits.2

  pub accepted_counts : counts_ok a.model ≡ true
  unfolding model_of
  accepted_counts =
      let iant = jant_of (slot p 1) in
      rw (accepted_model p (length lent) h) (counts_made (model_of iant p) (listed iant p limits.0) (constant_counts iant p _ limits.0))

  pub accepted_table : table_size ≤ length (lent_after p lent)
  unfolding lent_after kept_after
  accepted_table =
      let t = table_of a.model in
      rw (h, laid-length lent 0 t (omega (arith, table_length a.model, limits.1))) limits.1

  table_left : lent_after p lent ≡ laid lent 0 (table_of a.model)
  unfolding lent_after kept_after
  table_left = rw h

  -- the table that set-up left has the sum in its record, so 15 never comes
  pub sum-after-set-up : table_sum (lent_after p lent) ≡ a.sum
  sum-after-set-up = ap table_sum table_left ∙ sum_laid lent (table_of a.model) (table_length a.model) ∙ sym (accepted-sum p (length lent) h)

  pub own_after_set_up : own_table a (lent_after p lent) ≡ true
  own_after_set_up = eq-eqb (table_sum (lent_after p lent)) a.sum sum-after-set-up

  pub gain-answered : (u v giso : Float) → finite u ≡ true → finite v ≡ true → finite giso ≡ true
      → gain_of a (lent_after p lent) u v giso ≡ graded a.peak.z6 (number_at a.model a.peak.z6 (lent_after p lent) u v giso)
  unfolding gain_of gain_asked
  gain-answered u v giso fu fv fg =
      let q = gain_asked (own_table a (lent_after p lent)) u v giso in
      let asked : Granted a.model (length (lent_after p lent)) q = record {
        values = simp (fu, fv, fg);
        type = accepted-type;
        counts = accepted_counts;
        aim = refl;
        table = accepted_table;
        space = refl;
        own = own_after_set_up;
      } in
      rw (none-refused a.model (length (lent_after p lent)) q asked)

  pub row-answered : (u giso : Float) → elevation_ok u ≡ true → finite giso ≡ true
      → row_of a (lent_after p lent) u giso 360 ≡ measured (numbers_of a (lent_after p lent) u giso)
  unfolding row_of row_asked
  row-answered u giso ok fg =
      let q = row_asked (own_table a (lent_after p lent)) u giso 360 in
      let asked : Granted a.model (length (lent_after p lent)) q = record {
        values = simp (elevation-finite u ok, fg);
        type = accepted-type;
        counts = accepted_counts;
        aim = ok;
        table = accepted_table;
        space = refl;
        own = own_after_set_up;
      } in
      rw (none-refused a.model (length (lent_after p lent)) q asked)

-- the antenna that stands for a refusal of set-up is none: gain refuses it as 3
pub no_antenna_refused : (t : List Float) (u v giso : Float) → finite u ≡ true → finite v ≡ true → finite giso ≡ true → gain_of no_antenna t u v giso ≡ refused TYPE
unfolding gain_of gain_asked asked_refusal no_antenna type_ok
no_antenna_refused t u v giso fu fv fg = rw (fu, fv, fg)
