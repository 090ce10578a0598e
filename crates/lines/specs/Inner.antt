-- Not of the rule: what the code's one loop stops at, and where its words start. No public contract cites it. Definitions only.
use Rattle.std.specs.Prelude.{◌≡◌, ℕ, Bool, not, List, drop}
use Rattle.lines.specs.Pieces.{end_from}
use Rattle.lines.specs.Lines.{is_line_feed}
use Rattle.lines.specs.Words.{is_remark, is_blank, runs_of}
use Rattle.lines.specs.declared.run.Stop.{Stop}
use Rattle.lines.specs.declared.run.Stop.TheVariants.{LineFeed, Remark, Blank, Filled}

abbrev pub is_filled : ℕ → Bool
is_filled b = not (is_blank b)

abbrev pub stops_at : Stop → ℕ → Bool
stops_at LineFeed = is_line_feed
stops_at Remark = is_remark
stops_at Blank = is_blank
stops_at Filled = is_filled

-- no blank stands at `at`, and from there on stand all words of a text but the first k
pub record StartsAfter (s : List ℕ) (k at : ℕ) : Type 0 where
  pub led : end_from is_filled s at ≡ at
  pub rest : runs_of (drop at s) ≡ drop k (runs_of s)
