-- `gainrel`'s arms 5 and 6, the log-periodic antennas: the sums over the active elements, and the gain from them. Definitions only.
use Rattle.std.specs.Prelude.{ℕ, zero, suc, Bool, true, false, cond, List, get_or, Float}
use Rattle.std.specs.Float.{nan}
use Rattle.std.specs.Float.Ieee.{neg}
use Rattle.floats.specs.Ops.{◌⊕◌, ◌⊖◌, ◌⊗◌, ◌⊘◌, +0}
use Rattle.floats.specs.Literals.{one, q1}
use Rattle.model.specs.Table.{cell}
use Rattle.model.specs.declared.record.Constants.{Constants}
use Rattle.model.specs.declared.record.Elements.{Elements}
use Rattle.model.specs.declared.record.Direction.{Direction}
use Rattle.model.specs.declared.record.Entry.{Entry}
use Rattle.sine.specs.Sine.{sine, cosine}
use Rattle.root.specs.Root.{sqrt_of}
use Rattle.booms.specs.declared.boom.Element.{Element}
use Rattle.booms.specs.declared.boom.Field.{Field}

-- ---- what the loops read

-- ww1[iu][i] to ww4[iu][i], in the lent table
unfoldable pub entry_at : List Float → ℕ → ℕ → Entry
entry_at table iu i =
    record {
      ww1 = get_or table (cell 0 iu i) nan;
      ww2 = get_or table (cell 1 iu i) nan;
      ww3 = get_or table (cell 2 iu i) nan;
      ww4 = get_or table (cell 3 iu i) nan;
    }

-- rl[i], rim[i], fi[i], x[i] and y[i]
abbrev pub element_at : Elements → ℕ → Element
element_at e i =
    record {
      rl = get_or e.rl i nan;
      rim = get_or e.rim i nan;
      fi = get_or e.fi i nan;
      x = get_or e.x i nan;
      y = get_or e.y i nan;
    }

-- gamma: the phase for each metre of x or y
unfoldable pub gamma_of : Constants → Direction → Float
gamma_of k d =
    let a12 = d.b1 ⊗ d.b0 in
    let b3 = neg a12 ⊗ k.costh ⊕ d.a0 ⊗ k.sinth in
    k.beta ⊗ b3 ⊘ k.costh

-- df, of type 5
unfoldable pub across_below : Direction → Float
across_below d = one ⊖ d.b0 ⊗ d.b0 ⊗ d.a1 ⊗ d.a1

-- ---- one element

-- ft of type 5: one horizontal element's own pattern, fg its electrical half length
unfoldable pub across_factor : Float → Float → Direction → Float
across_factor fg df d = (cosine (fg ⊗ d.b0 ⊗ d.a1) ⊖ cosine fg) ⊘ df

-- ft of type 6: one vertical element's own pattern
unfoldable pub upright_factor : Float → Direction → Float
upright_factor fg d = (cosine (fg ⊗ d.a0) ⊖ cosine fg) ⊘ d.b0

-- type 5: an element's field added to the sums; fti is its current times its own pattern
unfoldable pub add_across : Float → Float → Entry → Field → Field
add_across fti phase w s =
    let aw = sine phase in
    let bw = cosine phase in
    let wr = aw ⊗ w.ww1 ⊖ bw ⊗ w.ww2 in
    let wi = bw ⊗ w.ww1 ⊕ aw ⊗ w.ww2 in
    let ur = bw ⊗ w.ww3 ⊖ aw ⊗ w.ww4 in
    let ui = aw ⊗ w.ww3 ⊕ bw ⊗ w.ww4 in
    record { str = s.str ⊕ fti ⊗ wr; sti = s.sti ⊕ fti ⊗ wi; sfr = s.sfr ⊕ fti ⊗ ur; sfi = s.sfi ⊕ fti ⊗ ui }

-- type 6: the same, of the vertical field alone
unfoldable pub add_upright : Float → Float → Entry → Field → Field
add_upright fti phase w s =
    let aw = sine phase in
    let bw = cosine phase in
    let ur = bw ⊗ w.ww1 ⊖ aw ⊗ w.ww2 in
    let ui = bw ⊗ w.ww2 ⊕ aw ⊗ w.ww1 in
    record { str = s.str; sti = s.sti; sfr = s.sfr ⊕ fti ⊗ ur; sfi = s.sfi ⊕ fti ⊗ ui }

-- one turn of the loop, of type 6 where the elements are upright and else of type 5; w are the element's ground factors
unfoldable pub added : Bool → Float → Float → Float → Direction → Element → Entry → Field → Field
added upright beta gamma df d el w s =
    let fg = beta ⊗ el.rl in
    cond upright
    (add_upright (el.rim ⊗ upright_factor fg d) (gamma ⊗ el.y ⊕ el.fi ⊗ q1) w s)
    (add_across (el.rim ⊗ across_factor fg df d) (gamma ⊗ el.x ⊕ el.fi ⊗ q1) w s)

-- ---- the sums

abbrev pub no_field : Field
no_field = record { str = +0; sti = +0; sfr = +0; sfi = +0 }

-- after the active elements 1 to n
unfoldable pub field_to : Bool → Constants → Elements → List Float → ℕ → Direction → ℕ → Field
field_to upright k e table iu d zero = no_field
field_to upright k e table iu d (suc n) =
    let i = get_or e.iek (suc n) 0 in
    added upright k.beta (gamma_of k d) (across_below d) d (element_at e i) (entry_at table iu i) (field_to upright k e table iu d n)

-- ---- the gain

-- type 5's from the sums: vertical and horizontal field
unfoldable pub both_fields : Field → Direction → Float
both_fields s d =
    let etheta = sqrt_of (s.str ⊗ s.str ⊕ s.sti ⊗ s.sti) ⊗ d.a1 ⊗ d.a0 in
    let efi = neg (sqrt_of (s.sfr ⊗ s.sfr ⊕ s.sfi ⊗ s.sfi)) ⊗ d.b1 in
    sqrt_of (etheta ⊗ etheta ⊕ efi ⊗ efi)

-- and type 6's
unfoldable pub one_field : Field → Float
one_field s = sqrt_of (s.sfr ⊗ s.sfr ⊕ s.sfi ⊗ s.sfi)

-- horizontal log-periodic
unfoldable pub gain5 : Constants → Elements → List Float → ℕ → Direction → Float
gain5 k e table iu d = both_fields (field_to false k e table iu d e.nat) d

-- vertical log-periodic
unfoldable pub gain6 : Constants → Elements → List Float → ℕ → Direction → Float
gain6 k e table iu d = one_field (field_to true k e table iu d e.nat)
