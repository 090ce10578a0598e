use Rattle.logarithm.proofs.+digits_left.Given as goal

abbrev pub decreases-digits_left : goal.decreases-digits_left
decreases-digits_left l = l.left
