-- What holds of each station of a list. Assumes nothing.
use mathlib.Core.Path.{sym, subst}
use mathlib.Core.Logic.{⊎_elim}
use mathlib.Core.List.Memᴰ
use mathlib.Core.List.{List, [], ◌∷◌, Memᴰ}
use Rattle.board_air.specs.Stations.{Station}

pub data Each (P : Station → Type 0) : List Station → Type 0 where
  none : Each P []
  more : {s : Station} {ss : List Station} → P s → Each P ss → Each P (s ∷ ss)

pub each_at : {P : Station → Type 0} {s : Station} {ss : List Station} → Each P ss → Memᴰ s ss → P s
each_at {P} (more p ps) m = ⊎_elim (λ e. subst P (sym e) p) (λ r. each_at ps r) (Memᴰ.cases_cons m)
each_at none m = absurd (Memᴰ.not-nil m)
