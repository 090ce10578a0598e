-- How many words fields take, one behind the other. Assumes nothing.
use mathlib.Core.Path.{◌≡◌, ◌∙◌}
use mathlib.Core.List.{List, [], ◌∷◌, ◌++◌, map, append_assoc, append-nil}
use Prim.Native.Nat.{ℕ, ◌+◌}
use native.Mathlib.Omega.{arith}
use lib.ListN.{length, length-append, length-map}
use lib.Ieee.{Float, binary32, to_bits}
use Rattle.words.specs.Patterns.{bits}
use Rattle.model.specs.declared.record.Elements.{Elements}
use Rattle.model.specs.declared.record.Trig.{Trig}
use Rattle.model.specs.declared.record.Ground.{Ground}
use Rattle.antenna_words.specs.Fields.{joined, low, element_fields, trig_fields, ground_fields}
use Rattle.antenna_words.specs.Held.{HeldElements, HeldTrig, HeldGround}

pub bits_length : (xs : List Float) → length (bits xs) ≡ length xs
bits_length xs = length-map xs (to_bits binary32)

pub counts_length : (ns : List ℕ) → length (map low ns) ≡ length ns
counts_length ns = length-map ns low

pub pair_length : (xs ys : List Float) → length (bits xs ++ bits ys) ≡ length xs + length ys
pair_length xs ys = length-append (bits xs) (bits ys) ∙ omega (arith, bits_length xs, bits_length ys)

-- two pairs, and what stands behind one
pub pairs_length : (s t : List ℕ) → length (s ++ t) ≡ length s + length t
pairs_length s t = length-append s t

pub trig_length : (t : Trig) → HeldTrig t → length (joined (trig_fields t)) ≡ 182
unfolding joined trig_fields
trig_length t h = simp (length-append, bits_length) (omega (arith, h.a.long, h.b.long))

pub ground_length : (g : Ground) → HeldGround g → length (joined (ground_fields g)) ≡ 546
unfolding joined ground_fields
ground_length g h = simp (length-append, bits_length) (omega (arith, h.w3.long, h.w4.long, h.w5.long, h.w6.long, h.w9.long, h.w10.long))

pub elements_length : (e : Elements) → HeldElements e → length (joined (element_fields e)) ≡ 248
unfolding joined element_fields
elements_length e h =
    simp (length-append, bits_length, counts_length) (omega (arith, h.fi.long, h.rim.long, h.x.long, h.y.long, h.iek, h.rl.long, h.h.long))

-- the parts as fields one after the other
pub elements_joined : (e : Elements) → (bits e.fi ++ bits e.rim ++ (bits e.x ++ bits e.y)) ++ (map low e.iek ++ (bits e.rl ++ bits e.h ++ (low e.nat ∷ []))) ≡ joined (element_fields e)
unfolding joined element_fields
elements_joined e = simp (append_assoc, append-nil)

pub ground_joined : (g : Ground) → bits g.w3 ++ bits g.w4 ++ (bits g.w5 ++ bits g.w6) ++ (bits g.w9 ++ bits g.w10) ≡ joined (ground_fields g)
unfolding joined ground_fields
ground_joined g = simp (append_assoc, append-nil)
