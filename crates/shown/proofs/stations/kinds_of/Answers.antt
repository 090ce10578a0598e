-- `shown::stations::kinds_of` meets its contract. Assumes nothing.
use lib.Ieee.{nan}
use Rattle.std.proofs.Common.{of_calls}
use Rattle.answers.specs.declared.Kind.TheVariants as kind
use Rattle.antenna.specs.Gain.{kind_of}
use Rattle.shown.proofs.Filled.{mapped_at}
use Rattle.shown.proofs.stations.kinds_of.Goals as goal

pub returns : goal.returns
returns c = λ v l. mapped_at {h = kind_of c.args.z6} c.map.ensures.items (search of_calls) (search of_calls) v nan kind.Level l
