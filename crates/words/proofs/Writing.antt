-- Laws of `Wrote` and `Put`. Assumes nothing.
use mathlib.Core.Path.{◌≡◌, sym, ap, ◌∙◌}
use Prim.Native.Nat.{ℕ, ◌+◌, ◌≤◌}
use native.Mathlib.Nat.{add-zero}
use native.Mathlib.Omega.{arith}
use mathlib.Core.List.{List, [], ◌++◌, append_assoc, append-nil}
use lib.ListN.{length, take, length-append}
use lib.Seq.{length-take-le}
use Rattle.words.specs.Laid.{laid}
use Rattle.words.specs.Writing.{Wrote, Put}
use Rattle.words.proofs.Laid.{laid_none, laid_more, take_laid}

pub wrote_none : (l : List ℕ) (at : ℕ) → Wrote l at [] l at
wrote_none l at = record { bytes = laid_none l at; after = sym (add-zero at) }

-- what is written next to each other is written at once
pub then : {l s m t n : List ℕ} {at mid end : ℕ} → Wrote l at s m mid → Wrote m mid t n end → mid ≤ length l → Wrote l at (s ++ t) n end
then {l} {s} {m} {t} {n} {at} {mid} {end} p q h = record {
  bytes = q.bytes ∙ ap (λ (x : List ℕ). laid x mid t) p.bytes ∙ laid_more l at mid s t p.after h;
  after = omega (arith, p.after, q.after, length-append s t);
}

-- what was written from the start on lies within the buffer
pub within : {l s m : List ℕ} {r : ℕ} → Wrote l 0 s m r → length s ≤ length m → (r ≤ length m) × (r ≡ length (take r m))
within {l} {s} {m} {r} w h =
    let e : r ≤ length m = omega (arith, w.after) in
    (e, sym (length-take-le r m e))

-- what was laid after the first k
pub laid_put : (l : List ℕ) (k : ℕ) (s : List ℕ) (n : ℕ) → n ≡ k + length s → k ≤ length l → Put (length s) (take k l) s (take n (laid l k s))
laid_put l k s n e h =
    let t = take_laid l k s n e h in
    record { text = t; room = rw (t, length-append) (omega arith) }

-- nothing
pub put_none : (k : ℕ) (l : List ℕ) → Put k l [] l
put_none k l = record { text = sym (append-nil l); room = omega arith }

-- what is put next to each other is put at once
pub joined : {j k : ℕ} {l s m t n : List ℕ} → Put j l s m → Put k m t n → Put (j + k) l (s ++ t) n
joined {j} {k} {l} {s} {m} {t} p q = record {
  text = q.text ∙ ap (λ (x : List ℕ). x ++ t) p.text ∙ append_assoc l s t;
  room = omega (arith, p.room, q.room);
}

pub at_most : {j k : ℕ} {l s m : List ℕ} → Put j l s m → j ≤ k → Put k l s m
at_most p h = record { text = p.text; room = omega (arith, p.room) }

-- by how long it is
pub shorter : {j k : ℕ} {l s m : List ℕ} → Put k l s m → length s ≤ j → Put j l s m
shorter {j} {k} {l} {s} p h = record { text = p.text; room = rw (p.text, length-append) (omega (arith, h)) }

-- a text of two to five parts, put one after another
pub put_two : {i j k : ℕ} {a b c s t w : List ℕ} → Put i a s b → Put j b t c → w ≡ s ++ t → i + j ≤ k → Put k a w c
put_two p q e h = rw e (at_most (joined p q) h)

pub put_three : {i j k m : ℕ} {a b c d s t u w : List ℕ} → Put i a s b → Put j b t c → Put k c u d → w ≡ s ++ t ++ u → i + j + k ≤ m → Put m a w d
put_three p q r e h = put_two (joined p q) r e h

pub put_four : {i j k m n : ℕ} {a b c d e s t u v w : List ℕ} → Put i a s b → Put j b t c → Put k c u d → Put m d v e → w ≡ s ++ t ++ u ++ v → i + j + k + m ≤ n → Put n a w e
put_four p q r x e h = put_two (joined (joined p q) r) x e h

pub put_five : {i j k m n o : ℕ} {a b c d e f s t u v x w : List ℕ} → Put i a s b → Put j b t c → Put k c u d → Put m d v e → Put n e x f → w ≡ s ++ t ++ u ++ v ++ x → i + j + k + m + n ≤ o → Put o a w f
put_five p q r x y e h = put_two (joined (joined (joined p q) r) x) y e h

-- what a new page has is what was put on it
pub page_has : {k : ℕ} {s m : List ℕ} → Put k [] s m → (m ≡ s) × (length s ≤ k)
page_has {k} {s} {m} p =
    let e : m ≡ s = p.text in
    (e, rw (← e) (omega (arith, p.room)))
