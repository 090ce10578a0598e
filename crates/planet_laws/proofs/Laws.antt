-- Laws of the definition: what the answer is, what the lent bytes are afterwards, and what each line says. Assumes nothing.
use Prim.Native.Nat.{ℕ, ◌-◌, ◌≤◌, ◌<◌, zero-le}
use mathlib.Core.Path.{◌≡◌, refl, sym, ap, ◌∙◌}
use mathlib.Core.Bool.{true}
use mathlib.Core.List.{List}
use native.Mathlib.Omega.{arith}
use borrow.Author.Tests.{lt-ltb, le-ltb}
use lib.Dec.{ltb, le→leb}
use lib.IntN.{pos, ◌-ℤ◌}
use lib.Signed.{◌≤ℤ◌}
use lib.ListN.{length, take, drop}
use lib.Seq.{take_at, drop_at}
use lib.Ieee.{Float, to_signed}
use Rattle.floats.specs.Ops.{at}
use Rattle.answers.specs.Outcome.{Outcome, refused, accepted}
use Rattle.answers.proofs.Outcome.{passed, same}
use Rattle.words.specs.Laid.{laid}
use Rattle.words.proofs.Laid.{laid_front}
use Rattle.model.specs.Limits.{slot}
use Rattle.model.specs.Table.{table_size, blank_table}
use Rattle.model.specs.Types.{jant_of}
use Rattle.answers.specs.declared.Kind.{Kind}
use Rattle.plate_row.specs.Row as row
use Rattle.antenna_laws.proofs.Mirror.{gain-mirror}
use Rattle.hundredths.specs.Hundredths.{hundredths_of}
use Rattle.request.specs.declared.Request.{Request}
use Rattle.request.specs.Request.{and_then, table_after}
use Rattle.planet_vertical.specs.Directions.{horizontal_gain, vertical_gain, numbers_to}
use Rattle.planet_lines.specs.Losses.{all_in_span, greatest, below_ground, loss_at}
use Rattle.planet_lines.specs.Text.{part_text, text_of}
use Rattle.planet_text.specs.Planet.{planet_text, in_room, length_of, lent_after, planet_of, text_after}
use Rattle.planet_laws.specs.TextLaw.{LossesOf, MirroredLosses, TextLaw}
use Rattle.planet_text.proofs.Accepted.{Parts, parts}
use Rattle.planet_lines.proofs.Greatest.{loss_is, lossless-at, gain_of_row}
use Rattle.planet_vertical.proofs.Numbers.{numbers-length, numbers-at, row-numbers}
use Rattle.planet_text.proofs.Ready.{ready-set-up, ready-type}
use Rattle.request.proofs.Then.{then_only}
-- a text is at most 8,738 bytes long, and where 8,960 are lent space is never refused
pub use Rattle.planet_text.proofs.Accepted.{text_short, enough-room}
-- after an accepted row a vertical number is refused as 10 or not at all
pub use Rattle.planet_laws.proofs.LevelOnly.{level-only}

-- ---- the answer

-- an answer of n bytes: the text is that long and stands at the front of the lent bytes, and those past it stay
pub record Answered (input lent : List ℕ) (n : ℕ) : Type 0 where
  pub text : List ℕ
  pub whole : planet_text input ≡ accepted text
  pub long : length text ≡ n
  pub front : take n (text_after input lent) ≡ text
  pub past : drop n (text_after input lent) ≡ drop n lent

pub answer-is-length : (input lent : List ℕ) (n : ℕ) → planet_of input (length lent) ≡ accepted n → Answered input lent n
unfolding length_of in_room lent_after
answer-is-length input lent n h =
    let long = then_only _ _ h in
    let whole = then_only _ _ long.accepts in
    let room = passed (ltb (length lent) (length whole.first)) _ _ whole.follows in
    let s = long.first in
    let text-is : whole.first ≡ s = same room.1 in
    let n-is : length s ≡ n = same long.follows in
    let after : text_after input lent ≡ laid lent 0 s = ap (λ (o : Outcome (List ℕ)). lent_after o lent) long.accepts in
    record {
      text = s;
      whole = whole.accepts ∙ ap accepted text-is;
      long = n-is;
      front = ap (take n) (after ∙ laid_front lent s) ∙ take_at s (drop (length s) lent) n n-is;
      past = ap (drop n) (after ∙ laid_front lent s) ∙ drop_at s (drop (length s) lent) n n-is ∙ ap (λ (k : ℕ). drop k lent) n-is;
    }

refused_leaves : (o : Outcome (List ℕ)) (lent : List ℕ) (n : ℕ) → length_of o ≡ refused n → lent_after o lent ≡ lent
unfolding length_of lent_after and_then
refused_leaves (refused m) lent n h = refl
refused_leaves (accepted s) lent n h = let z : ◌≡◌ {A = ℕ} 0 1 = cc in absurd (omega arith)

pub refusal_leaves : (input lent : List ℕ) (n : ℕ) → planet_of input (length lent) ≡ refused n → text_after input lent ≡ lent
refusal_leaves input lent n h = refused_leaves (in_room (length lent) (planet_text input)) lent n h

-- ---- a part's losses

from_zero : (n : ℕ) → pos 0 ≤ℤ pos n
from_zero n = record { le = le→leb 0 n zero-le }

module _ (gain : ℕ → Outcome (Kind × Float)) (n : ℕ) {numbers : List Float} (some : 0 < n) (given : numbers_to gain n ≡ accepted numbers) (span : all_in_span numbers ≡ true) where
  losses : LossesOf gain n (greatest numbers) (loss_at numbers)
  unfolding loss_at
  losses =
      let l = numbers-length gain n given in
      let zero = lossless-at numbers span (omega arith) in
      record {
        each = λ angle i.
            let inside : angle < length numbers = omega arith in
            let told = numbers-at gain n given angle i in
            record {
              kind = told.0;
              number = at numbers angle;
              accepts = told.1;
              is = rw (lt-ltb angle (length numbers) inside);
              not_negative = rw (loss_is numbers span angle inside) (from_zero _);
            };
        lossless = zero.0;
        within = omega (arith, zero.1);
        none = zero.2;
      }

-- ---- the text

module _ (input : List ℕ) {text : List ℕ} (p : Parts input text) where
  abbrev q : Request
  q = p.request

  abbrev t : List Float
  t = table_after input blank_table

  below_at : (angle : ℕ) → 181 ≤ angle → loss_at p.vertical angle ≡ below_ground
  unfolding loss_at
  below_at angle h = rw (le-ltb angle (length p.vertical) (omega (arith, numbers-length (vertical_gain q t) 181 p.over)))

  -- two entries that `ccirgain` answers alike lose alike
  alike : (v w : ℕ) → v < 360 → w < 360 → horizontal_gain q t v ≡ horizontal_gain q t w → loss_at p.horizontal v ≡ loss_at p.horizontal w
  alike v w hv hw e =
      let around = losses (horizontal_gain q t) 360 (omega arith) p.around p.horizontal_span in
      let lv = around.each v hv in
      let lw = around.each w hw in
      let same_number : lv.number ≡ lw.number = ap (λ (g : Kind × Float). g.1) (same (sym lv.accepts ∙ e ∙ lw.accepts)) in
      lv.is ∙ ap (λ (x : Float). greatest p.horizontal -ℤ hundredths_of x) same_number ∙ sym lw.is

  mirrored : let iant = jant_of (slot q.parm 1) in iant ≤ 6 → (iant ≤ 4 → to_signed 31 (slot q.parm 9) ≡ pos 0) → MirroredLosses (loss_at p.horizontal)
  mirrored six unslewed angle some h east west =
      let set_up_lem = ready-set-up input table_size p.ready in
      alike angle (360 - angle) h (omega arith) (gain-mirror q.parm table_size set_up_lem.accepts six unslewed t q.elevation q.giso angle (omega arith) east west)

pub text_law : (input : List ℕ) {text : List ℕ} → planet_text input ≡ accepted text → TextLaw input text
unfolding text_of part_text
text_law input h =
    let p = parts input h in
    let table = table_after input blank_table in
    record {
      request = p.request;
      ready = p.ready;
      horizontal = loss_at p.horizontal;
      vertical = loss_at p.vertical;
      gain = greatest p.horizontal;
      vertical_gain_lem = greatest p.vertical;
      is = sym p.is;
      horizontals = losses (horizontal_gain p.request table) 360 (omega arith) p.around p.horizontal_span;
      verticals = losses (vertical_gain p.request table) 181 (omega arith) p.over p.vertical_span;
      below = below_at input p;
      type = ready-type input p.ready;
      row_gain = gain_of_row p.horizontal p.horizontal_span (numbers-length _ 360 p.around) ∙ ap (λ (l : List Float). hundredths_of (row.greatest l 0 359)) (same (sym p.around ∙ row-numbers p.request table p.row));
      mirrored = mirrored input p;
    }
