-- Loops that write, one element a turn. Assumes nothing.
use mathlib.Core.Path.{◌≡◌, refl, sym, ap, ◌∙◌}
use mathlib.Core.Bool.{Bool, true, false}
use mathlib.Core.List.{List, [], ◌∷◌, ◌++◌, map, map-append, append-nil}
use Prim.Native.Nat.{ℕ, zero, suc, ◌+◌, ◌≤◌, ◌<◌}
use native.Mathlib.Nat.{add-zero, zero-add, suc-add}
use native.Mathlib.Numerals.{add-one}
use native.Mathlib.Omega.{arith}
use lib.ListN.{length, get_or, take, drop, set, length-append, length-drop, length-set, drop_of_length-le, take-append-drop, get_or-append}
use lib.Dec.{ltb}
use borrow.Author.Tests.{ltb-true, ltb-false}
use lib.Seq.{length-take-le, get_or-take, get_or-drop, drop-cons, set_at, set-append_left, append_snoc, get_or_at, get_or-append-add}
use lib.Ieee.{binary32, to_bits}
use Rattle.board_air.specs.Stations.{Station, number_at, shown, numbers_shown, ids_shown, up_to}
use Rattle.board_air.specs.Words.{kept_of}
use Rattle.board_kept.specs.Steps.{entry, entry_of, entry_in, kept_by}
use Rattle.board_kept.specs.declared.kept.Entry.{Entry}

-- ---- what an azimuth has, written in order over l

module _ {A : Type 0} (f : ℕ → A) where
  pub up_to-length : (n : ℕ) → length (up_to f n) ≡ n
  unfolding up_to
  up_to-length zero = refl
  up_to-length (suc n) = length-append (up_to f n) (f n ∷ []) ∙ omega (arith, up_to-length n)

  pub up_to-none : (l : List A) → l ≡ up_to f 0 ++ drop 0 l
  unfolding up_to
  up_to-none l = refl

  pub up_to-more : {x : A} (l : List A) (n : ℕ) → n < length l → x ≡ f n → set (up_to f n ++ drop n l) n x ≡ up_to f (n + 1) ++ drop (n + 1) l
  unfolding up_to
  up_to-more l n h e =
      rw (add-one, e, drop-cons l n (f n))
      (set_at (up_to f n) (get_or l n (f n)) (drop (suc n) l) (f n) n (up_to-length n) ∙ sym (append_snoc (up_to f n) (f n) (drop (suc n) l)))

  pub up_to-all : (l : List A) (n : ℕ) → n ≡ length l → up_to f n ++ drop n l ≡ up_to f n
  up_to-all l n e = ap (λ (r : List A). up_to f n ++ r) (drop_of_length-le l {i = n} (omega arith)) ∙ append-nil (up_to f n)

  -- what is not written yet is as it was
  pub up_to-rest : (l : List A) (n : ℕ) (d : A) → get_or (up_to f n ++ drop n l) n d ≡ get_or l n d
  up_to-rest l n d =
      let here : n ≡ length (up_to f n) + 0 = omega (arith, up_to-length n) in
      ap (λ (i : ℕ). get_or (up_to f n ++ drop n l) i d) here ∙ get_or-append-add (up_to f n) (drop n l) 0 d ∙ (rw (add-zero n) at (get_or-drop n l 0 d))

  pub up_to-at : (n v : ℕ) (d : A) → v < n → get_or (up_to f n) v d ≡ f v
  unfolding up_to
  up_to-at zero v d h = absurd (omega arith)
  up_to-at (suc n) v d h = go (ltb v n) refl (up_to-at n v d)
    where
      go : (t : Bool) → ltb v n ≡ t → (v < n → get_or (up_to f n) v d ≡ f v) → get_or (up_to f n ++ (f n ∷ [])) v d ≡ f v
      go true e before =
          let low : v < length (up_to f n) = omega (arith, up_to-length n, ltb-true v n e) in
          get_or-append (up_to f n) (f n ∷ []) d v low ∙ before (ltb-true v n e)
      go false e before =
          let last : v ≡ n = omega (arith, ltb-false v n e) in
          rw last (get_or_at (up_to f n) (f n) [] d n (up_to-length n))

pub up_to-same : {A : Type 0} {f g : ℕ → A} (n : ℕ) → ((v : ℕ) → v < n → f v ≡ g v) → up_to f n ≡ up_to g n
unfolding up_to
up_to-same zero h = refl
up_to-same (suc n) h = rw (up_to-same n (λ v low. h v (omega arith)), h n (omega arith))

pub up_to-map : {A B : Type 0} (g : A → B) (f : ℕ → A) (n : ℕ) → map g (up_to f n) ≡ up_to (λ (v : ℕ). g (f v)) n
unfolding up_to
up_to-map g f zero = refl
up_to-map g f (suc n) = map-append g (up_to f n) (f n ∷ []) ∙ ap (λ l. l ++ (g (f n) ∷ [])) (up_to-map g f n)

-- ---- f over what is kept, two words an azimuth

-- after v turns
unfoldable pub written_to : (ℕ → Entry) → List ℕ → ℕ → List ℕ
written_to f kept v = (up_to (λ (u : ℕ). (f u).bits) v ++ drop v (take 360 kept)) ++ (up_to (λ (u : ℕ). (f u).id) v ++ drop v (drop 360 kept))

pub get_or-second : (p q : List ℕ) (n v d : ℕ) → length p ≡ n → get_or (p ++ q) (n + v) d ≡ get_or q v d
get_or-second p q n v d e = ap (λ (k : ℕ). get_or (p ++ q) (k + v) d) (sym e) ∙ get_or-append-add p q v d

set-add : (p q : List ℕ) (v x : ℕ) → set (p ++ q) (length p + v) x ≡ p ++ set q v x
set-add [] q v x = rw (zero-add v)
set-add (y ∷ p) q v x = rw (suc-add (length p) v) (ap (λ (l : List ℕ). y ∷ l) (set-add p q v x))

set-second : (p q : List ℕ) (n v x : ℕ) → length p ≡ n → set (p ++ q) (n + v) x ≡ p ++ set q v x
set-second p q n v x e = ap (λ (k : ℕ). set (p ++ q) (k + v) x) (sym e) ∙ set-add p q v x

module _ (f : ℕ → Entry) (kept : List ℕ) (size : length kept ≡ 720) where
  first-length : (v : ℕ) → v ≤ 360 → length (up_to (λ (u : ℕ). (f u).bits) v ++ drop v (take 360 kept)) ≡ 360
  first-length v h =
      length-append (up_to (λ (u : ℕ). (f u).bits) v) (drop v (take 360 kept))
      ∙ omega (arith, up_to-length (λ (u : ℕ). (f u).bits) v, length-drop v (take 360 kept), length-take-le 360 kept (omega arith))

  second-length : (v : ℕ) → v ≤ 360 → length (up_to (λ (u : ℕ). (f u).id) v ++ drop v (drop 360 kept)) ≡ 360
  second-length v h =
      length-append (up_to (λ (u : ℕ). (f u).id) v) (drop v (drop 360 kept))
      ∙ omega (arith, up_to-length (λ (u : ℕ). (f u).id) v, length-drop v (drop 360 kept), length-drop 360 kept)

  pub written-length : (v : ℕ) → v ≤ 360 → length (written_to f kept v) ≡ 720
  unfolding written_to
  written-length v h =
      length-append (up_to (λ (u : ℕ). (f u).bits) v ++ drop v (take 360 kept)) (up_to (λ (u : ℕ). (f u).id) v ++ drop v (drop 360 kept))
      ∙ omega (arith, first-length v h, second-length v h)

  pub written_none : kept ≡ written_to f kept 0
  unfolding written_to up_to
  written_none = sym (take-append-drop 360 kept)

  -- what is not written yet is as it was
  pub written-rest : (v : ℕ) → v < 360 → entry_in (written_to f kept v) v ≡ entry_in kept v
  unfolding written_to
  written-rest v h =
      let p = up_to (λ (u : ℕ). (f u).bits) v ++ drop v (take 360 kept) in
      let q = up_to (λ (u : ℕ). (f u).id) v ++ drop v (drop 360 kept) in
      let n = first-length v (omega arith) in
      let bits = get_or-append p q 0 v (omega arith) ∙ up_to-rest (λ (u : ℕ). (f u).bits) (take 360 kept) v 0 ∙ get_or-take 360 kept v 0 h in
      let id = get_or-second p q 360 v 0 n ∙ up_to-rest (λ (u : ℕ). (f u).id) (drop 360 kept) v 0 ∙ get_or-drop 360 kept v 0 in
      ap (λ (b : ℕ). entry b (get_or (p ++ q) (360 + v) 0)) bits ∙ ap (entry (get_or kept v 0)) id

  -- a turn
  pub written-more : {e : Entry} (v : ℕ) → v < 360 → e ≡ f v → set (set (written_to f kept v) v e.bits) (360 + v) e.id ≡ written_to f kept (v + 1)
  unfolding written_to
  written-more {e} v h here =
      let bits : ℕ → ℕ = λ (u : ℕ). (f u).bits in
      let id : ℕ → ℕ = λ (u : ℕ). (f u).id in
      let p = up_to bits v ++ drop v (take 360 kept) in
      let q = up_to id v ++ drop v (drop 360 kept) in
      let n = first-length v (omega arith) in
      ap (λ (l : List ℕ). set l (360 + v) e.id) (set-append_left p q v e.bits (omega arith))
      ∙ set-second (set p v e.bits) q 360 v e.id (length-set p v e.bits ∙ n)
      ∙ ap (λ (l : List ℕ). l ++ set q v e.id) (up_to-more bits (take 360 kept) v (omega (arith, length-take-le 360 kept (omega arith))) (ap (λ (x : Entry). x.bits) here))
      ∙ ap (λ (l : List ℕ). up_to bits (v + 1) ++ drop (v + 1) (take 360 kept) ++ l) (up_to-more id (drop 360 kept) v (omega (arith, length-drop 360 kept)) (ap (λ (x : Entry). x.id) here))

  pub written_all : (v : ℕ) → v ≡ 360 → written_to f kept v ≡ kept_by f
  unfolding written_to kept_by
  written_all v e =
      let bits : ℕ → ℕ = λ (u : ℕ). (f u).bits in
      let id : ℕ → ℕ = λ (u : ℕ). (f u).id in
      ap (λ (l : List ℕ). l ++ (up_to id v ++ drop v (drop 360 kept))) (up_to-all bits (take 360 kept) v (omega (arith, length-take-le 360 kept (omega arith))))
      ∙ ap (λ (l : List ℕ). up_to bits v ++ l) (up_to-all id (drop 360 kept) v (omega (arith, length-drop 360 kept)))
      ∙ ap (λ (n : ℕ). up_to bits n ++ up_to id n) e

-- what is kept with ss on is that of the one shown at each azimuth
pub kept_by_lem : (ss : List Station) → kept_of ss ≡ kept_by (λ (v : ℕ). entry_of v (shown v ss))
unfolding kept_of kept_by numbers_shown ids_shown
kept_by_lem ss = ap (λ (l : List ℕ). l ++ up_to (λ (v : ℕ). (shown v ss).id) 360) (up_to-map (to_bits binary32) (λ (v : ℕ). number_at v (shown v ss)) 360)

pub by_length : (f : ℕ → Entry) → length (kept_by f) ≡ 720
unfolding kept_by
by_length f =
    let bits : ℕ → ℕ = λ (v : ℕ). (f v).bits in
    let id : ℕ → ℕ = λ (v : ℕ). (f v).id in
    length-append (up_to bits 360) (up_to id 360) ∙ omega (arith, up_to-length bits 360, up_to-length id 360)

pub kept-length : (ss : List Station) → length (kept_of ss) ≡ 720
kept-length ss = ap length (kept_by_lem ss) ∙ by_length (λ (v : ℕ). entry_of v (shown v ss))

-- what is kept at an azimuth
pub by-entry : (f : ℕ → Entry) (v : ℕ) → v < 360 → entry_in (kept_by f) v ≡ f v
unfolding kept_by
by-entry f v h =
    let bits : ℕ → ℕ = λ (u : ℕ). (f u).bits in
    let id : ℕ → ℕ = λ (u : ℕ). (f u).id in
    let n = up_to-length bits 360 in
    let b = get_or-append (up_to bits 360) (up_to id 360) 0 v (omega arith) ∙ up_to-at bits 360 v 0 h in
    let i = get_or-second (up_to bits 360) (up_to id 360) 360 v 0 n ∙ up_to-at id 360 v 0 h in
    ap (λ (x : ℕ). entry x (get_or (up_to bits 360 ++ up_to id 360) (360 + v) 0)) b ∙ ap (entry (f v).bits) i

pub kept_entry : (ss : List Station) (v : ℕ) → v < 360 → entry_in (kept_of ss) v ≡ entry_of v (shown v ss)
kept_entry ss v h = ap (λ (l : List ℕ). entry_in l v) (kept_by_lem ss) ∙ by-entry (λ (u : ℕ). entry_of u (shown u ss)) v h

pub by-same : {f g : ℕ → Entry} → ((v : ℕ) → v < 360 → f v ≡ g v) → kept_by f ≡ kept_by g
unfolding kept_by
by-same {f} {g} h =
    ap (λ (l : List ℕ). l ++ up_to (λ (v : ℕ). (f v).id) 360) (up_to-same 360 (λ v low. ap (λ (e : Entry). e.bits) (h v low)))
    ∙ ap (λ (l : List ℕ). up_to (λ (v : ℕ). (g v).bits) 360 ++ l) (up_to-same 360 (λ v low. ap (λ (e : Entry). e.id) (h v low)))
