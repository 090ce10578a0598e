-- `curtain_pattern::integral::sweep` meets its contract.
use Rattle.curtain_pattern.specs.Integral.{read, ◌⊞◌, through, pint}
use Rattle.curtain_pattern.proofs.integral.sweep.Goals as goal

pub returns : goal.returns
unfolding pint read ◌⊞◌ through
returns c = rw (c.readings-inner.ensures, c.f2-2.ensures, c.f2.ensures)
