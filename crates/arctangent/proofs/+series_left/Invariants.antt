use Rattle.arctangent.proofs.+series_left.Given as goal

abbrev pub decreases-series_left : goal.decreases-series_left
decreases-series_left l = l.left
