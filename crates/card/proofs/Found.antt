-- A line that the code answers as an option, where the rule's line 0 has nothing in it. Assumes nothing.
use mathlib.Core.Path.{◌≡◌, refl}
use mathlib.Core.List.{[]}
use Rattle.lines.specs.Pieces.{up_to, pieces}
use Rattle.lines.specs.Words.{filled, runs_of, words_of}
use Rattle.lines.specs.Alike.{alike}
use Rattle.quoted.specs.Quoted.{quoted}
use Rattle.fields.specs.Least.{or_else, least}
use Rattle.fields.specs.Names.{names, name_of, field_of}
use Rattle.fields.specs.Table.{mode_of}
use Rattle.card.specs.Card.{field_in}

pub no_words : words_of [] ≡ []
unfolding words_of runs_of up_to pieces filled
no_words = refl

pub no_mode : mode_of (field_in []) ≡ 0
unfolding mode_of field_of least or_else name_of names quoted alike
no_mode = refl
