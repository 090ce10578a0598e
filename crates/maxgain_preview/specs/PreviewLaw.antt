-- Document 02, card 2: the preview "equals the real call on a copy of the parameters, refusals included".
-- Definitions only; proofs/PreviewLaw.antt has the theorem.
use Rattle.std.specs.Prelude.{ℕ, ◌≡◌, false, not, ◌&&◌, List, length, eqb, Float}
use Rattle.floats.specs.Ops.{at}
use Rattle.model.specs.Types.{jant_of}
use Rattle.answers.specs.Outcome.{Outcome, refused, accepted}
use Rattle.maxgain.specs.Maximum.{set_max_gain}
use Rattle.maxgain_preview.specs.Preview.{preview_of}
use Rattle.maxgain_preview.specs.declared.Slot.{Slot}
use Rattle.maxgain_preview.specs.declared.Shown.{Shown}

-- what both calls are given
pub record Given : Type 0 where
  pub mode : ℕ
  pub parm : List Float
  pub twenty : length parm ≡ 20
  pub gainmax : List Float
  pub gainmaxb : List Float
  pub mhz : Float
  pub design : Float

abbrev pub preview : Given → Outcome Shown
preview c = preview_of c.mode c.parm c.gainmax c.gainmaxb c.mhz c.design

-- `setmaxgain`, with the parameters that it leaves
abbrev pub call : Given → Outcome (Float × List Float)
call c = set_max_gain c.mode c.parm c.gainmax c.gainmaxb c.mhz c.design

-- a slot as it is shown, beside slot k of the parameters given and of those that the call leaves
pub record Tells (s : Slot) (k : ℕ) (given after : List Float) : Type 0 where
  -- the value shown is the one that the call leaves
  pub left : s.value ≡ at after k
  -- and that of a kept slot is the one that was given
  pub kept : s.written ≡ false → s.value ≡ at given k

pub record Shows (s : Shown) (given after : List Float) : Type 0 where
  pub four : Tells s.slot4 4 given after
  pub five : Tells s.slot5 5 given after
  pub seven : Tells s.slot7 7 given after
  -- no other slot changes, and none is added or lost
  pub as_many : length after ≡ length given
  pub others : (k : ℕ) → (k ≡ 4 → ⊥) → (k ≡ 5 → ⊥) → (k ≡ 7 → ⊥) → at after k ≡ at given k

pub record PreviewLaw : Type 0 where
  -- where one refuses so does the other, under the same number
  pub refused_both : (c : Given) (n : ℕ)
      → (preview c ≡ refused n → call c ≡ refused n) × (call c ≡ refused n → preview c ≡ refused n)
  -- what the preview accepts the call accepts, with the same gain and the slots that were shown
  pub accepted_both : (c : Given) (s : Shown) → preview c ≡ accepted s
      → (after : List Float) × (call c ≡ accepted (s.gain, after)) × Shows s c.parm after
  -- the marks hang on the mode and the type alone, not on the values: mode 0 writes none, mode 1 slots 4 and 7, and 5 for type 8, mode 2 slot 4
  pub marks : (c : Given) (s : Shown) → preview c ≡ accepted s
      → (s.slot4.written ≡ not (eqb c.mode 0))
      × (s.slot5.written ≡ eqb c.mode 1 && eqb (jant_of (at c.parm 1)) 8)
      × (s.slot7.written ≡ eqb c.mode 1)
