-- A book's words, three at a time, are its rows. Assumes nothing.
use mathlib.Core.Path.{◌≡◌, refl, sym, ap, ◌∙◌}
use mathlib.Core.Bool.{Bool, true, false, cond}
use mathlib.Core.List.{List, [], ◌∷◌, ◌++◌}
use Prim.Native.Nat.{ℕ, ◌+◌, ◌<◌}
use native.Mathlib.Omega.{arith}
use lib.ListN.{length, take, drop, length-append}
use lib.Seq.{take_at, drop_at}
use denote.Ref.{Bor}
use Rattle.std.proofs.Common.{Option, Some, None}
use Rattle.std.specs.List.{find}
use Rattle.std.specs.Iterator.{AlwaysYields}
use Rattle.std.specs.Slice.Iter.{chunks_exact_rest, chunks_exact_size, chunks_exact_steps}
use Rattle.std.proofs.lemmas.Iterator.{YieldsList}
use Rattle.bandbook.specs.declared.rows.Row.{Row}
use Rattle.bandbook.specs.Rows.{rows_in, row}
use Rattle.bandbook.specs.Coverage.{covers, station_at}

abbrev pub row_read : Bor (List ℕ) → Row
row_read w = row (rows_in w.now) 0

given : (words : List ℕ) (s : _) → chunks_exact_rest s ≡ words → chunks_exact_size s ≡ 3 → AlwaysYields chunks_exact_steps row_read s (rows_in words)
unfolding rows_in
given [] s e h = λ x j st. absurd (omega (arith, ap length (sym e ∙ st.1.0), length-append x.now (chunks_exact_rest j), st.1.1))
given (a ∷ []) s e h = λ x j st. absurd (omega (arith, ap length (sym e ∙ st.1.0), length-append x.now (chunks_exact_rest j), st.1.1))
given (a ∷ b ∷ []) s e h = λ x j st. absurd (omega (arith, ap length (sym e ∙ st.1.0), length-append x.now (chunks_exact_rest j), st.1.1))
given (a ∷ b ∷ c ∷ rest) s e h = (
  (λ j st. absurd (omega (arith, st.1.0, ap length e))),
  (λ x j st.
      let cut = sym st.1.0 ∙ e in
      let size = st.1.1 ∙ h in (
        ap (λ (ws : List ℕ). row (rows_in ws) 0) (sym (take_at x.now (chunks_exact_rest j) 3 size) ∙ ap (take 3) cut),
        given rest j (sym (drop_at x.now (chunks_exact_rest j) 3 size) ∙ ap (drop 3) cut) (st.0 ∙ h),
      )),
)

pub rows_given : {s : _} (words : List ℕ) → chunks_exact_rest s ≡ words → chunks_exact_size s ≡ 3 → YieldsList chunks_exact_steps row_read s (rows_in words)
rows_given {s} words e h = record { runs = given words s e h }

-- the id of the row that is found, 0 for none
abbrev pub id_of : Option Row → ℕ
id_of None = 0
id_of (Some r) = r.id

pub station_found : (khz : ℕ) (rows : List Row) → id_of (find (covers khz) rows) ≡ station_at rows khz
unfolding station_at
station_found khz [] = refl
station_found khz (r ∷ rows) = go (covers khz r) (station_found khz rows)
  where
    go : (t : Bool) → id_of (find (covers khz) rows) ≡ station_at rows khz → id_of (cond t (Some r) (find (covers khz) rows)) ≡ cond t r.id (station_at rows khz)
    go true below = refl
    go false below = below

-- ---- a turn of a loop over them

rows_next : (ws rest : List ℕ) → length ws ≡ 3 → rows_in (ws ++ rest) ≡ row (rows_in ws) 0 ∷ rows_in rest
unfolding rows_in
rows_next [] rest h = absurd (omega arith)
rows_next (a ∷ []) rest h = absurd (omega arith)
rows_next (a ∷ b ∷ []) rest h = absurd (omega arith)
rows_next (a ∷ b ∷ c ∷ []) rest h = refl
rows_next (a ∷ b ∷ c ∷ d ∷ ws) rest h = absurd (omega arith)

pub chunk_next : (s t : _) (r : Option (Bor (List ℕ))) {w : Bor (List ℕ)} → r ≡ Some w → chunks_exact_steps s r t → chunks_exact_size s ≡ 3
    → (chunks_exact_size t ≡ 3) × (rows_in (chunks_exact_rest s) ≡ row_read w ∷ rows_in (chunks_exact_rest t)) × (length (chunks_exact_rest s) ≡ 3 + length (chunks_exact_rest t))
chunk_next s t r {w} e step size =
    let st : chunks_exact_steps s (Some w) t = rw e at step in
    let three = st.1.1 ∙ size in (
      st.0 ∙ size,
      ap rows_in st.1.0 ∙ rows_next w.now (chunks_exact_rest t) three,
      omega (arith, ap length st.1.0, length-append w.now (chunks_exact_rest t), three),
    )

rows_few : (ws : List ℕ) → length ws < 3 → rows_in ws ≡ []
unfolding rows_in
rows_few [] h = refl
rows_few (a ∷ []) h = refl
rows_few (a ∷ b ∷ []) h = refl
rows_few (a ∷ b ∷ c ∷ ws) h = absurd (omega arith)

pub chunks_end : (s t : _) (r : Option (Bor (List ℕ))) → r ≡ None → chunks_exact_steps s r t → chunks_exact_size s ≡ 3 → rows_in (chunks_exact_rest s) ≡ []
chunks_end s t r e step size =
    let st : chunks_exact_steps s None t = rw e at step in
    rows_few (chunks_exact_rest s) (omega (arith, st.1.0, size))
